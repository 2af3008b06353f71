-- Five words came, so the text has more than four.
use Rattle.std.proofs.Common.{arith}
use Rattle.std.specs.Str.Iter.{split_whitespace_rest}
use Rattle.words.specs.Words.{WordsOf}
use Rattle.words.proofs.Same.{first_word_of, one_more}
use Rattle.words.proofs.Split.{words_exist}
use Rattle.words.proofs.up_to_four.Goals as goal

pub returns-in-Some-next-4 : goal.returns-in-Some-next-4
returns-in-Some-next-4 c =
    let found = words_exist c.args.text.now c.utf8.text in
    let least = one_more _ _ _ 4 (first_word_of c.split_whitespace-words.result c.in-Some.first c.next.new.self c.in-Some.ensures.steps)
    (one_more _ _ _ 3 (first_word_of c.next.new.self c.in-Some-next.second c.next-2.new.self c.in-Some-next.ensures.steps)
    (one_more _ _ _ 2 (first_word_of c.next-2.new.self c.in-Some-next-2.third c.next-3.new.self c.in-Some-next-2.ensures.steps)
    (one_more _ _ _ 1 (first_word_of c.next-3.new.self c.in-Some-next-3.fourth c.next-4.new.self c.in-Some-next-3.ensures.steps)
    (one_more _ _ _ 0 (first_word_of c.next-4.new.self c.in-Some-next-4.field-0 c.next-5.new.self c.in-Some-next-4.ensures.steps) (λ us _. omega arith))))) in
    let words : WordsOf (split_whitespace_rest c.split_whitespace-words.result) found.0 = rw c.split_whitespace-words.ensures.rest found.1 in
    (found.0, found.1, omega (arith, least found.0 words))
