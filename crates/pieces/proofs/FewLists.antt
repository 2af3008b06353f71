-- What the functions on a record of up to eight numbers do to the list of them.
-- Assumes that the unused places hold 0.
use Rattle.std.proofs.Common.{◌≡◌, ℕ, ◌+◌, ◌-◌, ◌<◌, ◌≤◌, Bool, ltb, List, [], ◌∷◌, ◌++◌, length, drop, set, replicate, filter, sym, refl, ap, ◌∙◌, subst, ⊎_elim, arith}
use Rattle.std.proofs.lemmas.List.{take_more_set, drop-set-lt, drop-drop, drop-replicate, length-set, length-take-le, append_assoc, append-nil}
use Rattle.std.proofs.lemmas.Bool.{cases_Bool, cond-true, cond-false, lt-ltb}
use Rattle.records.specs.declared.Few.{Few}
use Rattle.records.specs.Few.{listed, none, added, Pinned}
use Rattle.pieces.specs.Cuts.{chosen}

pub none_pinned : Pinned none
none_pinned = record { room = omega arith; places = refl; rest = refl }

pub listed_length : (f : Few) → Pinned f → length (listed f) ≡ f.count
listed_length f p = length-take-le f.count f.at (omega (arith, p.places, p.room))

module _ (f : Few) (x : ℕ) (p : Pinned f) (room : f.count < 8) where
  more : Few
  more = record { count = f.count + 1; at = set f.at f.count x }

  pub added_is : added f x ≡ record { count = f.count + 1; at = set f.at f.count x }
  added_is = cond-true (ltb f.count 8) (record { count = f.count + 1; at = set f.at f.count x }) f (lt-ltb f.count 8 room)

  pub added_count : (added f x).count ≡ f.count + 1
  added_count = ap (λ (g : Few). g.count) added_is

  pub added_list : listed (added f x) ≡ listed f ++ x ∷ []
  added_list = ap listed added_is ∙ take_more_set f.at f.count x (omega (arith, p.places))

  rest_more : drop (f.count + 1) (set f.at f.count x) ≡ replicate (8 - (f.count + 1)) 0
  rest_more =
      drop-set-lt (f.count + 1) f.at f.count x (omega arith)
      ∙ sym (drop-drop 1 f.count f.at)
      ∙ ap (drop 1) p.rest
      ∙ drop-replicate 1 (8 - f.count) 0
      ∙ ap (λ (k : ℕ). replicate k 0) (omega arith)

  pub added_pinned : Pinned (added f x)
  added_pinned =
      subst Pinned (sym added_is)
      (record { room = omega arith; places = length-set f.at f.count x ∙ p.places; rest = rest_more })

-- the numbers that pass are put behind those that are there
pub chosen_list : (t : ℕ → Bool) (f : Few) (xs : List ℕ) → Pinned f → f.count + length (filter t xs) ≤ 8 → (listed (chosen t f xs) ≡ listed f ++ filter t xs) × Pinned (chosen t f xs)
chosen_list t f [] p room = (sym (append-nil (listed f)), p)
chosen_list t f (x ∷ xs) p room =
    ⊎_elim
    (λ e.
    let ks = cond-true (t x) (x ∷ filter t xs) (filter t xs) e in
    let r : f.count < 8 = omega (arith, ap length ks) in
    let c = added_count f x p r in
    let h = chosen_list t (added f x) xs (added_pinned f x p r) (omega (arith, ap length ks)) in
    let s = cond-true (t x) (added f x) f e in (
      ap (λ g. listed (chosen t g xs)) s ∙ h.0 ∙ ap (λ ys. ys ++ filter t xs) (added_list f x p r) ∙ append_assoc (listed f) (x ∷ []) (filter t xs) ∙ ap (λ ys. listed f ++ ys) (sym ks),
      subst (λ g. Pinned (chosen t g xs)) (sym s) h.1,
    ))
    (λ e.
    let ks = cond-false (t x) (x ∷ filter t xs) (filter t xs) e in
    let h = chosen_list t f xs p (omega (arith, ap length ks)) in
    let s = cond-false (t x) (added f x) f e in
    (ap (λ g. listed (chosen t g xs)) s ∙ h.0 ∙ ap (λ ys. listed f ++ ys) (sym ks), subst (λ g. Pinned (chosen t g xs)) (sym s) h.1))
    (cases_Bool (t x))
