-- Writing one text after another.
-- Assumes nothing.
use Rattle.std.proofs.Common.{◌≡◌, List, [], ℕ, ◌++◌, Ok, Err, Result, String, string_bytes, sym, ap, ◌∙◌, append_assoc}
use Rattle.std.proofs.lemmas.List.{append-nil}
use Rattle.std.specs.Result.{OnOk}
use Rattle.plan_text.specs.Texts.{GrownBy}

-- what follows from a fact on success
pub on_ok : {T E : Type 0} {P Q : Type 0} (r : Result T E) → OnOk r P → (P → Q) → OnOk r Q
on_ok (Ok v) fact follows = follows fact
on_ok (Err e) fact follows = fact

-- nothing was written
pub GrownBy-nil : {A : Type 0} (text : String A) → GrownBy text text []
GrownBy-nil text = sym (append-nil (string_bytes text))

-- two texts, one after the other
pub GrownBy-append : {A : Type 0} (one two three : String A) (u v : List ℕ) → GrownBy one two u → GrownBy two three v → GrownBy one three (u ++ v)
GrownBy-append one two three u v first second = second ∙ ap (λ x. x ++ v) first ∙ append_assoc (string_bytes one) u v

-- the same text, written otherwise
pub GrownBy-same : {A : Type 0} (before after : String A) (u v : List ℕ) → GrownBy before after u → u ≡ v → GrownBy before after v
GrownBy-same before after u v grown e = grown ∙ ap (λ x. string_bytes before ++ x) e
