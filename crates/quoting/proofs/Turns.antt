-- Single turns of the ways down, on plain values.
-- Assumes a division of a filled ring.
use Rattle.std.proofs.Common.{◌≡◌, ℕ, ◌+◌, ◌*◌, ◌<◌, ◌≤◌, Bool, true, false, cond, ◌&&◌, ◌⊎◌, List, Some, None, Option, Decides, sym, refl, ap, ◌∙◌, subst, inl, inr, ⊎_elim, arith}
use Rattle.std.proofs.lemmas.Bool.{both_ways}
use Rattle.records.specs.declared.Piece.{Piece}
use Rattle.records.specs.Few.{listed, Among}
use Rattle.pieces.specs.Sides.{Ends, Filled}
use Rattle.pieces.specs.Holding.{piece_at}
use Rattle.pieces.specs.Division.{Division}
use Rattle.piece_rates.specs.Touching.{Touches}
use Rattle.climbing.specs.Ways.{between, outside, towards, towards_both, Reaches, Begins, Ending, Parts}
use Rattle.climbing.proofs.Ways.{ways_down, ways_part}
use Rattle.quoting.specs.Places.{common_child}

-- what a test that failed says
pub denied : {b : Bool} {P : Type 0} → Decides b P → b ≡ false → P → ⊥
denied {b} d z h = both_ways b z (d.1 h)

-- a child that has two terminals has a number above 0, and 0 stands for none
record SameChild (o : Option ℕ) (t : ℕ) : Type 0 where
  there : (r : ℕ) → o ≡ Some r → (t ≡ r) × (t ≡ 0 → ⊥)
  missing : o ≡ None → t ≡ 0

same_child : (b c : Bool) (first second : ℕ) → (first ≡ 0 → ⊥) → (second ≡ 0 → ⊥) → SameChild (cond b (Some first) (cond c (Some second) None)) (cond b first (cond c second 0))
same_child true c first second f s = record { there = λ r e. (cc, f); missing = λ e. absurd (cc) }
same_child false true first second f s = record { there = λ r e. (cc, s); missing = λ e. absurd (cc) }
same_child false false first second f s = record { there = λ r e. absurd (cc); missing = λ e. refl }

module _ (n : ℕ) (e : Ends) (ps : List Piece) (p : ℕ) where
  -- after k turns the way down from p towards u is at q
  pub record Descends (u q k : ℕ) : Type 0 where
    pub reaches : Reaches n e ps p u q
    pub levels : (piece_at ps q).level ≡ (piece_at ps p).level + k

  pub descent_starts : (u : ℕ) → p + 5 < 2 * n → Touches n e (piece_at ps p) u → Descends u p 0
  descent_starts u r t = record { reaches = record { in_range = r; below = inl refl; touches = t }; levels = omega arith }

  module _ (fl : Filled n e) (d : Division n e ps) where
    -- no way down is longer than 40 levels
    pub descent_ends : (u q k : ℕ) → Descends u q k → 41 ≤ k → ⊥
    descent_ends u q k h l = omega (arith, h.levels, (d.stands q h.reaches.in_range).not_deeper)

    pub descent_turn : (u q k r : ℕ) (P : Piece) → Descends u q k → P ≡ piece_at ps q → (Ending P u u → ⊥) → r ≡ towards e P u → Descends u r (k + 1)
    descent_turn u q k r P h f z g =
        let w = ways_down n e ps fl d p u q h.reaches (λ y. z (inl (ap (λ (x : Piece). x.first) f ∙ y))) in
        let s : towards e (piece_at ps q) u ≡ r = ap (λ x. towards e x u) (sym f) ∙ sym g in
        subst (λ x. Descends u x (k + 1)) s (record { reaches = w.reaches; levels = omega (arith, w.one_level, h.levels) })

    module _ (u v q k : ℕ) (P : Piece) (hu : Descends u q k) (hv : Descends v q k) (f : P ≡ piece_at ps q) (z : Ending P u v → ⊥) where
      cut : (piece_at ps q).first ≡ 0 → ⊥
      cut y = z (inl (ap (λ (x : Piece). x.first) f ∙ y))

      second : (piece_at ps q).second ≡ 0 → ⊥
      second y = ⊎_elim (λ w. cut w.no_first) (λ w. omega (arith, w.in_order, y)) (d.stands q hu.reaches.in_range).cut

      same : SameChild (common_child e P u v) (towards_both e (piece_at ps q) u v)
      same = subst (λ x. SameChild (common_child e x u v) (towards_both e (piece_at ps q) u v)) (sym f)
          (same_child (between (e.low (piece_at ps q).seam) (e.high (piece_at ps q).seam) u && between (e.low (piece_at ps q).seam) (e.high (piece_at ps q).seam) v)
          (outside (e.low (piece_at ps q).seam) (e.high (piece_at ps q).seam) u && outside (e.low (piece_at ps q).seam) (e.high (piece_at ps q).seam) v)
          (piece_at ps q).first (piece_at ps q).second cut second)

      pub both_turn : (o : Option ℕ) (r : ℕ) → o ≡ common_child e P u v → o ≡ Some r → Descends u r (k + 1) × Descends v r (k + 1)
      both_turn o r g y =
          let s = same.there r (sym g ∙ y) in
          let w = (ways_part n e ps fl d p u v q hu.reaches hv.reaches cut).0 s.1 in (
            subst (λ x. Descends u x (k + 1)) s.0 (record { reaches = w.0.reaches; levels = omega (arith, w.0.one_level, hu.levels) }),
            subst (λ x. Descends v x (k + 1)) s.0 (record { reaches = w.1.reaches; levels = omega (arith, w.1.one_level, hv.levels) }),
          )

      pub both_part : (o : Option ℕ) → o ≡ common_child e P u v → o ≡ None → Parts n e ps p u v q
      both_part o g y = record {
        reaches_first = hu.reaches;
        reaches_second = hv.reaches;
        ends_or_parts = λ _. (ways_part n e ps fl d p u v q hu.reaches hv.reaches cut).1 (same.missing (sym g ∙ y));
      }

  pub begins_there : (u q k : ℕ) (P : Piece) → Descends u q k → P ≡ piece_at ps q → Ending P u u → Begins n e ps p u q
  begins_there u q k P h f z = record {
    reaches = h.reaches;
    line_there = subst (λ (x : Piece). (x.first ≡ 0) ⊎ Among u (listed x.edges)) f (⊎_elim (λ y. inl y) (λ y. inr y.0) z);
  }

  pub parts_there : (u v q k : ℕ) (P : Piece) → Descends u q k → Descends v q k → P ≡ piece_at ps q → Ending P u v → Parts n e ps p u v q
  parts_there u v q k P hu hv f z = record {
    reaches_first = hu.reaches;
    reaches_second = hv.reaches;
    ends_or_parts = λ refused. absurd (refused (subst (λ x. Ending x u v) f z));
  }
