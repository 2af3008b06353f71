-- The bytes of a list of contents, one content more, and as far as an area has them.
-- Assumes nothing.
use Rattle.std.proofs.Common.{◌≡◌, ℕ, ◌+◌, ◌<◌, ◌≤◌, true, leb, List, [], ◌∷◌, ◌++◌, length, get_or, take, drop, sym, refl, ap, ◌∙◌, arith}
use Rattle.std.proofs.lemmas.Bool.{leb-true}
use Rattle.std.proofs.lemmas.List.{append_assoc, append-nil, take_more, take-append-drop, length-append}
use Rattle.tape.specs.declared.contents.Content.{Content}
use Rattle.tape.specs.declared.contents.Content.TheVariants.{Head}
use Rattle.tape.specs.Contents.{record_bytes}
use Rattle.tape.specs.Laws.{tape_bytes}

-- what a read past the end of a list of contents would give
abbrev pub blank : Content
blank = Head (record { rate_kind = 0; book = 0; terminals = 0; meter = 0 })

pub tape_append : (xs ys : List Content) → tape_bytes (xs ++ ys) ≡ tape_bytes xs ++ tape_bytes ys
tape_append [] ys = refl
tape_append (x ∷ xs) ys = ap (λ v. record_bytes x ++ v) (tape_append xs ys) ∙ sym (append_assoc (record_bytes x) (tape_bytes xs) (tape_bytes ys))

pub tape_more : (cs : List Content) (i : ℕ) (d : Content) → i < length cs → tape_bytes (take (i + 1) cs) ≡ tape_bytes (take i cs) ++ record_bytes (get_or cs i d)
tape_more cs i d h =
    ap tape_bytes (take_more cs i d h) ∙ tape_append (take i cs) (get_or cs i d ∷ [])
    ∙ ap (λ v. tape_bytes (take i cs) ++ v) (append-nil (record_bytes (get_or cs i d)))

pub long_more : (cs : List Content) (i : ℕ) (d : Content) → i < length cs → length (tape_bytes (take (i + 1) cs)) ≡ length (tape_bytes (take i cs)) + length (record_bytes (get_or cs i d))
long_more cs i d h = ap length (tape_more cs i d h) ∙ length-append (tape_bytes (take i cs)) (record_bytes (get_or cs i d))

pub front_long : (cs : List Content) (i : ℕ) → length (tape_bytes (take i cs)) ≤ length (tape_bytes cs)
front_long cs i =
    let whole : tape_bytes cs ≡ tape_bytes (take i cs) ++ tape_bytes (drop i cs) = ap tape_bytes (sym (take-append-drop i cs)) ∙ tape_append (take i cs) (drop i cs) in
    let long = ap length whole ∙ length-append (tape_bytes (take i cs)) (tape_bytes (drop i cs)) in
    omega arith

-- where all the bytes fit, so does a front of them
pub front_within : (cs : List Content) (i at room : ℕ) → true ≡ leb (length (tape_bytes cs)) room → at ≡ length (tape_bytes (take i cs)) → at ≤ room
front_within cs i at room fits e =
    let all = leb-true (length (tape_bytes cs)) room (sym fits) in
    let front = front_long cs i in
    omega arith
