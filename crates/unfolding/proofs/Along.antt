-- Lists of stops: put end to end, over fewer lanes, and closed.
-- Assumes the laws of the kind.
use Rattle.std.proofs.Common.{◌≡◌, ℕ, List, [], ◌∷◌, ◌++◌, sym, refl, ap, ◌∙◌, subst}
use Rattle.rates.specs.Kinds.{Kind, Laws, NoWorse}
use Rattle.trips.specs.Trips.{LaneMap, Trip, rate, NoEarning, Fewer}
use Rattle.trips.specs.Theorems.{Linked, rate_along, final}
use Rattle.trips.proofs.Walks.{closed_no_better}
use Rattle.trips.proofs.Shown.{stops_are_a_trip}

pub final_append : (u : ℕ) (xs ys : List ℕ) → final u (xs ++ ys) ≡ final (final u xs) ys
final_append u [] ys = refl
final_append u (x ∷ xs) ys = final_append x xs ys

module _ {M : Type 0} (K : Kind M) (X : Laws K) where
  pub linked_append : (m : LaneMap M) (u : ℕ) (xs ys : List ℕ) → Linked K m u xs → Linked K m (final u xs) ys → Linked K m u (xs ++ ys)
  linked_append m u [] ys p q = q
  linked_append m u (x ∷ xs) ys (s, p) q = (s, linked_append m x xs ys p q)

  pub linked_left : (m : LaneMap M) (u : ℕ) (xs ys : List ℕ) → Linked K m u (xs ++ ys) → Linked K m u xs
  linked_left m u [] ys h = tt
  linked_left m u (x ∷ xs) ys (s, h) = (s, linked_left m x xs ys h)

  pub linked_right : (m : LaneMap M) (u : ℕ) (xs ys : List ℕ) → Linked K m u (xs ++ ys) → Linked K m (final u xs) ys
  linked_right m u [] ys h = h
  linked_right m u (x ∷ xs) ys (s, h) = linked_right m x xs ys h

  pub along_append : (m : LaneMap M) (u : ℕ) (xs ys : List ℕ) → rate_along K m u (xs ++ ys) ≡ K.join (rate_along K m u xs) (rate_along K m (final u xs) ys)
  along_append m u [] ys = sym (X.still_joins_to_same (rate_along K m u ys))
  along_append m u (x ∷ xs) ys =
      ap (K.join (m u x)) (along_append m x xs ys) ∙ sym (X.join_associative (m u x) (rate_along K m x xs) (rate_along K m (final x xs) ys))

  -- the stops of a trip over fewer lanes
  pub linked_fewer : (l m : LaneMap M) → Fewer K l m → (u : ℕ) (list : List ℕ) → Linked K l u list → Linked K m u list × (rate_along K m u list ≡ rate_along K l u list)
  linked_fewer l m f u [] h = (tt, refl)
  linked_fewer l m f u (w ∷ list) (s, h) =
      let k = linked_fewer l m f w list h in
      ((λ z. s (f u w s ∙ z), k.0), ap (λ a. K.join a (rate_along K m w list)) (sym (f u w s)) ∙ ap (K.join (l u w)) k.1)

  -- stops that come back to the first are those of a closed trip
  pub closed_along : (m : LaneMap M) → NoEarning K m → (u : ℕ) (list : List ℕ) → Linked K m u list → final u list ≡ u → NoWorse K K.still (rate_along K m u list)
  closed_along m ne u list h z =
      let t = (stops_are_a_trip K X m u).0 list h in
      let back : (s : Trip K m u u) × (rate K s ≡ rate_along K m u list) = subst (λ w. (s : Trip K m u w) × (rate K s ≡ rate_along K m u list)) z (t.0, t.1.rate_is) in
      subst (NoWorse K K.still) back.1 (closed_no_better K X ne u back.0)
