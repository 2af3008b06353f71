-- What is made of an item that the reader shows: a content at its place, or the fault that ends the tape.
-- Assumes what the reader shows.
use Rattle.std.proofs.Common.{◌≡◌, ℕ, List, Ok, Err, Some, Option, Result, MatchResult, sym, refl, ◌∙◌, subst, arith}
use Rattle.tape.specs.declared.records.Record.{Record}
use Rattle.tape.specs.declared.contents.Placed.{Placed}
use Rattle.tape.specs.declared.faults.TapeFault.{TapeFault}
use Rattle.tape.specs.Views.{Lacks, PlacedIs}
use Rattle.tape.specs.Reads.{ItemIs, Shown, Faulted}
use Rattle.tape.specs.Laws.{part_of}
use Rattle.tape.proofs.Rewriting.{whole_body, placed_part}
use Rattle.tape.proofs.Runs.{item_record, item_fault}

module _ (t u : List ℕ) (p q : ℕ) (o : Option (Result Record TapeFault)) (same : u ≡ t) (item : ItemIs u p o q) where
  pub content_shown : (i : Result Record TapeFault) (r : Result Placed TapeFault) (x : Placed) → o ≡ Some i → MatchResult i (λ s. PlacedIs s r) (λ f. r ≡ Err f) → r ≡ Ok x → Shown t p (part_of x) q
  content_shown (Ok s) r x is made e =
      let h = subst (PlacedIs s) e made in
      let here = item_record t u p q o same item (Ok s) s is refl in
      subst (λ y. Shown t p y q) (placed_part t s here.stands x h.0 h.1) here
  content_shown (Err f) r x is made e = let both : Err f ≡ Ok x = sym made ∙ e in absurd (cc)

  pub fault_shown : (i : Result Record TapeFault) (r : Result Placed TapeFault) (f : TapeFault) → o ≡ Some i → MatchResult i (λ s. PlacedIs s r) (λ f. r ≡ Err f) → r ≡ Err f → Faulted t p f q
  fault_shown (Ok s) r f is made e =
      let h : Lacks s f = subst (PlacedIs s) e made in
      let here = item_record t u p q o same item (Ok s) s is refl in
      let long = whole_body t s here.stands in
      let short = h.short in
      absurd (omega arith)
  fault_shown (Err g) r f is made e =
      let both : Err g ≡ Err f = sym made ∙ e in
      let here : g ≡ f = cc in
      subst (λ v. Faulted t p v q) here (item_fault t u p q o same item (Err g) g is refl)
