-- What `lay` answers, from what `plan` leaves in areas of just the needed lengths.
-- Assumes the terms of `plan`.
use Rattle.std.proofs.Common.{◌≡◌, ℕ, zero, suc, Result, ◌<◌, ◌≤◌, ◌⊎◌, min, List, [], length, Ok, Err, refl, sym, subst, inl, inr, ⊎_elim, arith}
use Rattle.std.proofs.lemmas.Bool.{cases_lt}
use Rattle.triangulation.specs.Trees.{side_count}
use Rattle.ring.specs.declared.Area.{Area}
use Rattle.ring.specs.declared.Link.{Link}
use Rattle.ring.specs.declared.Side.{Side}
use Rattle.ring.specs.declared.PlanFault.{PlanFault}
use Rattle.ring.specs.declared.PlanFault.TheVariants.{Terminals, ShortArea, BadEnds, Repeats, Crosses}
use Rattle.ring.specs.Faults.{Condition, First, SomeShort, fewest, most}
use Rattle.records.specs.declared.Piece.{Piece}
use Rattle.division.specs.Outcome.{front_ends}
use Rattle.plan.specs.Layout.{Layout, lent, piece_count}
use Rattle.std.specs.Result.{IfErr, IsErrAnd}
use Rattle.plan_text.specs.declared.laid.LayError.{LayError}
use Rattle.plan_text.specs.declared.laid.LayError.TheVariants.{Refused as IsRefused}
use Rattle.plan_text.specs.Laid.{DividedRing, NotLaid, Refused}

-- a fault of the plan is one whatever areas are lent
with_areas : (n : ℕ) (areas : List Area) (links : List Link) (g : PlanFault) → Condition n [] links g → Condition n areas links g
with_areas n areas links Terminals holds = holds
with_areas n areas links ShortArea holds = absurd (omega (arith, holds.1))
with_areas n areas links (BadEnds i) holds = holds
with_areas n areas links (Repeats i) holds = holds
with_areas n areas links (Crosses i) holds = holds

-- a number of terminals that is not refused
in_range : (n : ℕ) → ((n < fewest) ⊎ (most < n) → ⊥) → (fewest ≤ n) × (n ≤ most)
in_range n fine =
    (⊎_elim (λ few. absurd (fine (inl few))) (λ enough. enough) (cases_lt n fewest), ⊎_elim (λ many. absurd (fine (inr many))) (λ enough. enough) (cases_lt most n))

-- areas of the needed lengths are not too short
none_short : (n sides pieces todo : ℕ) → n ≤ most → sides ≡ side_count (min n most) → pieces ≡ piece_count (min n most) → 64 ≤ todo → SomeShort (lent n sides pieces todo) → ⊥
none_short n sides pieces todo range s p t (zero, inside, short) = omega arith
none_short n sides pieces todo range s p t (suc zero, inside, short) = omega arith
none_short n sides pieces todo range s p t (suc (suc zero), inside, short) = omega arith
none_short n sides pieces todo range s p t (suc (suc (suc k)), inside, short) = omega arith

module _ (n : ℕ) (links : List Link) (sides pieces todo : ℕ) (s : sides ≡ side_count (min n most)) (p : pieces ≡ piece_count (min n most)) (t : 64 ≤ todo) where
  pub refused : (f : PlanFault) → First (Condition n (lent n sides pieces todo) links) (Err f) → First (Condition n [] links) (Err f)
  refused Terminals found = (found.0, λ g lt holds. found.1 g lt (with_areas n (lent n sides pieces todo) links g holds))
  refused ShortArea found =
      absurd (none_short n sides pieces todo (in_range n (λ bad. found.1 Terminals (omega arith) bad)).1 s p t found.0)
  refused (BadEnds i) found = (found.0, λ g lt holds. found.1 g lt (with_areas n (lent n sides pieces todo) links g holds))
  refused (Repeats i) found = (found.0, λ g lt holds. found.1 g lt (with_areas n (lent n sides pieces todo) links g holds))
  refused (Crosses i) found = (found.0, λ g lt holds. found.1 g lt (with_areas n (lent n sides pieces todo) links g holds))

  pub no_fault : First (Condition n (lent n sides pieces todo) links) (Ok tt) → First (Condition n [] links) (Ok tt)
  no_fault none g holds = none g (with_areas n (lent n sides pieces todo) links g holds)

  pub accepted_range : First (Condition n (lent n sides pieces todo) links) (Ok tt) → (fewest ≤ n) × (n ≤ most)
  accepted_range none = in_range n (λ bad. none Terminals bad)

-- a layout does not depend on what the areas held before, but past the needed lengths
pub layout_again : (n : ℕ) (links : List Link) (s s' : List Side) (p p' : List Piece) → Layout n links s p s' p' → Layout n links s' p' s' p'
layout_again n links s s' p p' laid = record {
  fills = record { tree = laid.fills.tree; filled = laid.fills.filled; records = laid.fills.records; rest = refl };
  triangulated = laid.triangulated;
  filled_ring = laid.filled_ring;
  every_link = laid.every_link;
  marked = laid.marked;
  divided = laid.divided;
  sides_past = refl;
  pieces_past = refl;
}

-- a layout in areas of just the needed lengths
pub divided_ring : (n : ℕ) (links : List Link) (s s' : List Side) (p p' : List Piece) → (fewest ≤ n) × (n ≤ most) → length s' ≡ side_count (min n most) → length p' ≡ piece_count (min n most) → Layout n links s p s' p' → DividedRing n (front_ends n s') s' p'
divided_ring n links s s' p p' range sides pieces laid = record {
  filled = laid.filled_ring;
  division = laid.divided.division;
  leaves = laid.divided.leaves;
  all_sides = omega (arith, range.0, range.1);
  all_pieces = omega (arith, range.0, range.1);
}

-- what is true of some records is true of the same records, written otherwise
pub same_records : (P : List Side → List Piece → Type 0) (s s' : List Side) (p p' : List Piece) → s ≡ s' → p ≡ p' → P s' p' → P s p
same_records P s s' p p' sides pieces holds = subst (λ x. P x p) (sym sides) (subst (P s') (sym pieces) holds)

-- a refused plan is not laid out, by its fault
pub not_laid : {T : Type 0} (n : ℕ) (links : List Link) (r : Result T LayError) (fault : PlanFault) → IsErrAnd r (λ e. e ≡ IsRefused fault) → Refused n links fault → IfErr r (NotLaid n links)
not_laid n links (Ok laid) fault is found = tt
not_laid n links (Err e) fault is found = subst (NotLaid n links) (sym is) found
