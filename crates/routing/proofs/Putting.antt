-- Putting parts on the list of those that wait, and taking them off.
-- Assumes nothing.
use Rattle.std.proofs.Common.{◌≡◌, ℕ, zero, suc, ◌≤◌, eqb, List, ◌∷◌, length, get_or, set, Ok, Err, Result, sym, refl, ap, ◌∙◌, arith}
use Rattle.std.proofs.lemmas.List.{length-set, get_or-set_same, get_or-set_other}
use Rattle.std.proofs.lemmas.Bool.{cond-false, ne_eqb}
use Rattle.stack.specs.declared.Stack.{Stack}
use Rattle.stack.specs.Moves.{Pushed, PutOn, TakenOff}
use Rattle.unfolding.specs.Parts.{kept}
use Rattle.routing.specs.declared.waiting.RoutePart.{RoutePart}
use Rattle.routing.specs.Waiting.{part_of, no_part, waiting, parts_on, Put}

-- the parts below a place do not change by a write there
waiting_set : (items : List RoutePart) (k : ℕ) (p : RoutePart) (j : ℕ) → j ≤ k → waiting j (set items k p) ≡ waiting j items
waiting_set items k p zero l = refl
waiting_set items k p (suc j) l =
    ap (λ q. part_of q ∷ waiting j (set items k p)) (get_or-set_other items k j p no_part (omega arith))
    ∙ ap (λ qs. part_of (get_or items j no_part) ∷ qs) (waiting_set items k p j (omega arith))

put_waits : (items : List RoutePart) (k : ℕ) (p : RoutePart) → (p.from ≡ p.to → ⊥) → (k' : ℕ) (items' : List RoutePart) → PutOn k items p k' items'
    → waiting k' items' ≡ kept (part_of p) (waiting k items)
put_waits items k p differ k' items' w =
    let longer : k' ≡ suc k = omega (arith, w.longer) in
    ap (λ j. waiting j items') longer
    ∙ ap (waiting (suc k)) w.written
    ∙ ap (λ q. part_of q ∷ waiting k (set items k p)) (get_or-set_same items k p no_part w.room)
    ∙ ap (λ qs. part_of p ∷ qs) (waiting_set items k p k (omega arith))
    ∙ sym (cond-false (eqb p.from p.to) (waiting k items) (part_of p ∷ waiting k items) (ne_eqb p.from p.to differ))

pub put_pushed : {F : Type 0} (list : Stack RoutePart) (p : RoutePart) → (p.from ≡ p.to → ⊥) → (r : Result Unit F) (list' : Stack RoutePart)
    → Pushed r list.len list.items.now p list'.len list'.items.now → Put r list p list'
put_pushed list p differ (Ok u) list' w = record {
  same_room = ap length w.written ∙ length-set list.items.now list.len p;
  answer = λ _. refl;
  waits = λ _. put_waits list.items.now list.len p differ list'.len list'.items.now w;
  at_most = omega (arith, w.longer);
}
put_pushed list p differ (Err f) list' w = record {
  same_room = ap length w.same;
  answer = λ l. absurd (omega (arith, w.full));
  waits = λ l. absurd (omega (arith, w.full));
  at_most = omega (arith, w.same_size);
}

-- the next part, and those behind it
pub taken_off : (list : Stack RoutePart) (p : RoutePart) (list' : Stack RoutePart) → TakenOff list.len list.items.now p list'.len list'.items.now
    → parts_on list ≡ part_of p ∷ parts_on list'
taken_off list p list' w =
    let items = list.items.now in
    let k' = list'.len in
    let shorter : list.len ≡ suc k' = omega (arith, w.shorter) in
    ap (λ j. waiting j items) shorter
    ∙ ap (λ q. part_of q ∷ waiting k' items) (sym (w.stood no_part))
    ∙ ap (λ l. part_of p ∷ waiting k' l) (sym w.same)
