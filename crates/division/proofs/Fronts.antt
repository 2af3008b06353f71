-- The areas' fronts: what holds of the first 2n - 3 sides holds of the area, and the rest is as it was.
-- Assumes areas that are long enough.
use Rattle.std.proofs.Common.{◌≡◌, ℕ, ◌-◌, ◌*◌, Ok, Err, Result, IsOkUnless, List, ◌++◌, map, length, get_or, take, drop, sym, refl, ap, ◌∙◌, subst, arith}
use Rattle.std.proofs.lemmas.List.{map-append, take-append-drop, drop_at, length-take-le, get_or_append_left}
use Rattle.ring.specs.declared.Side.{Side}
use Rattle.records.specs.declared.Piece.{Piece}
use Rattle.pieces.specs.Sides.{ends_of, lengths, no_side, Filled}
use Rattle.pieces.specs.Marks.{SameSides, bare}
use Rattle.pieces.specs.Division.{Division, LeafMarked}
use Rattle.pieces.proofs.Marking.{same_count}
use Rattle.pieces.proofs.Standing.{divided}
use Rattle.pieces.proofs.Leaves.{leaves}
use Rattle.division.specs.declared.Undivided.{Undivided}
use Rattle.division.specs.declared.Undivided.TheVariants.{Terminals, Short, NotFilled}
use Rattle.division.specs.Turns.{Fitting}
use Rattle.division.specs.Outcome.{front_ends, Lent, Kept, Divided, FrontDone, Outcome}

module _ (n : ℕ) (ss : List Side) (ps ts : List Piece) (lent : Lent n ss ps ts) (k : ℕ) (is : k ≡ 2 * n - 3) (xs : List Side) (ps' : List Piece) where
  front_long : length (take k ss) ≡ k
  front_long = length-take-le k ss (omega (arith, lent.sides))

  pub kept : SameSides (take k ss) xs → drop (2 * n - 5) ps' ≡ drop (2 * n - 5) ps → Kept n ss ps (xs ++ drop k ss) ps'
  kept same past =
      record {
        sides = map-append bare xs (drop k ss) ∙ ap (λ l. l ++ map bare (drop k ss)) same ∙ sym (map-append bare (take k ss) (drop k ss)) ∙ ap (map bare) (take-append-drop k ss);
        sides_past = ap (λ m. drop m (xs ++ drop k ss)) (sym is) ∙ drop_at xs (drop k ss) k (same_count (take k ss) xs same ∙ front_long) ∙ ap (λ m. drop m ss) is;
        pieces_past = past;
      }

  pub fitting : Filled n (front_ends n ss) → Fitting n (ends_of (take k ss)) (2 * n - 5) ts
  fitting fl =
      record {
        filled = subst (λ m. Filled n (ends_of (take m ss))) (sym is) fl;
        pieces = omega (arith, lent.least);
        list_room = lent.list;
      }

  front_divided : (r : Result Unit Undivided) → Filled n (front_ends n ss) → SameSides (take k ss) xs → FrontDone (ends_of (take k ss)) (2 * n - 5) (take k ss) r xs ps' → Divided n (front_ends n ss) (xs ++ drop k ss) ps'
  front_divided r fl same d =
      subst (λ m. Divided n (ends_of (take m ss)) (xs ++ drop k ss) ps') is
      (record {
        records = d.records;
        division = dv;
        leaves = λ i r.
            subst (LeafMarked n (lengths (take k ss)) ps' i)
            (sym (ap (λ (s : Side). s.leaf) (get_or_append_left xs (drop k ss) no_side i (omega (arith, same_count (take k ss) xs same, front_long)) ∙ ap (λ l. get_or l i no_side) d.marks)))
            (leaves n (take k ss) fk ps' dv (omega (arith, front_long)) i r);
      })
    where
      fk : Filled n (ends_of (take k ss))
      fk = subst (λ m. Filled n (ends_of (take m ss))) (sym is) fl

      dv : Division n (ends_of (take k ss)) ps'
      dv = divided n (ends_of (take k ss)) fk ps' d.records refl

  -- what the call on the fronts leaves is what the whole call leaves
  pub outcome : (r : Result Unit Undivided) → (Fitting n (ends_of (take k ss)) (2 * n - 5) ts → FrontDone (ends_of (take k ss)) (2 * n - 5) (take k ss) r xs ps') → IsOkUnless r NotFilled
      → SameSides (take k ss) xs → drop (2 * n - 5) ps' ≡ drop (2 * n - 5) ps → Outcome n ss ps ts r (xs ++ drop k ss) ps'
  outcome (Ok u) done only same past = (lent, λ fl. front_divided (Ok u) fl same (done (fitting fl)), kept same past)
  outcome (Err Terminals) done only same past = cc
  outcome (Err Short) done only same past = cc
  outcome (Err NotFilled) done only same past = (lent, λ fl. let d = (done (fitting fl)).answer in cc, kept same past)
