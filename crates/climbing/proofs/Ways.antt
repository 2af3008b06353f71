-- Ways down towards terminals stay with pieces that touch them, and ways up come back.
-- Assumes a division of a filled ring.
use Rattle.std.proofs.Common.{◌≡◌, ℕ, ◌+◌, ◌*◌, ◌<◌, ◌≤◌, Bool, true, false, cond, not, ◌&&◌, eqb, leb, List, sym, refl, ap, ◌∙◌, subst, inl, inr, ⊎_elim, arith}
use Rattle.std.proofs.lemmas.Bool.{cond_both, cond-false, cond-true, eq-eqb, ne_eqb, and_parts, and_from, or_cases, or_left, or_right, leb-true, le-leb, leb-false, cases_Bool, both_ways}
use Rattle.records.specs.declared.Piece.{Piece}
use Rattle.pieces.specs.Sides.{Ends, span, Filled}
use Rattle.pieces.specs.Holding.{piece_at, Above}
use Rattle.pieces.specs.Holding.Above.{parent, higher}
use Rattle.pieces.specs.Division.{Division, CutInTwo}
use Rattle.pieces.specs.Holders.{OnWayUp}
use Rattle.pieces.proofs.Holders.{under_cut}
use Rattle.piece_rates.specs.Climbing.{Outside}
use Rattle.piece_rates.specs.Touching.{Touches}
use Rattle.piece_rates.proofs.Touching.{inside_touches_first, outside_touches_second, first_touches, second_touches}
use Rattle.climbing.specs.Lines.{OnSide}
use Rattle.climbing.specs.Steps.{across_of, PartedAt, PartedBetweenChildren}
use Rattle.climbing.specs.Ways.{between, outside, towards, towards_both, Reaches, Parting, Deeper, WaysDown, WaysPart, Higher, WaysUp}

module _ (x y : ℕ) where
  pub between_is : (u : ℕ) → between x y u ≡ true → (x ≤ u) × (u ≤ y)
  between_is u t = let h = and_parts (leb x u) (leb u y) t in (leb-true x u h.0, leb-true u y h.1)

  pub outside_is : (u : ℕ) → outside x y u ≡ true → Outside x y u
  outside_is u t = ⊎_elim (λ h. inl (leb-true u x h)) (λ h. inr (leb-true y u h)) (or_cases (leb u x) (leb y u) t)

  not_between : (u : ℕ) → between x y u ≡ false → Outside x y u
  not_between u t =
      ⊎_elim
      (λ l. ⊎_elim (λ h. absurd (both_ways (between x y u) t (and_from (leb x u) (leb u y) l h))) (λ h. inr (omega (arith, leb-false u y h))) (cases_Bool (leb u y)))
      (λ l. inl (omega (arith, leb-false x u l)))
      (cases_Bool (leb x u))

  not_outside : (u : ℕ) → outside x y u ≡ false → (x ≤ u) × (u ≤ y)
  not_outside u t =
      ⊎_elim (λ l. absurd (both_ways (outside x y u) t (or_left (leb u x) (leb y u) l)))
      (λ l. ⊎_elim (λ h. absurd (both_ways (outside x y u) t (or_right (leb u x) (leb y u) h))) (λ h. (omega (arith, leb-false u x l), omega (arith, leb-false y u h))) (cases_Bool (leb y u)))
      (cases_Bool (leb u x))

  pub own_side : (u : ℕ) → OnSide (between x y u) x y u
  own_side u = at (between x y u) refl
    where
      at : (c : Bool) → between x y u ≡ c → OnSide c x y u
      at true t = between_is u t
      at false t = not_between u t

  -- neither both from x to y nor both not strictly between
  apart : (u v : ℕ) → (between x y u && between x y v) ≡ false → (outside x y u && outside x y v) ≡ false → OnSide (not (between x y u)) x y v
  apart u v p q = at (between x y u) refl
    where
      at : (c : Bool) → between x y u ≡ c → OnSide (not c) x y v
      at true t =
          ⊎_elim (λ s. absurd (both_ways (between x y u && between x y v) p (and_from (between x y u) (between x y v) t s)))
          (λ s. not_between v s) (cases_Bool (between x y v))
      at false t =
          let o : outside x y u ≡ true = ⊎_elim (λ l. or_left (leb u x) (leb y u) (le-leb u x l)) (λ l. or_right (leb u x) (leb y u) (le-leb y u l)) (not_between u t) in
          ⊎_elim (λ s. absurd (both_ways (outside x y u && outside x y v) q (and_from (outside x y u) (outside x y v) o s)))
          (λ s. not_outside v s) (cases_Bool (outside x y v))

module _ (n : ℕ) (e : Ends) (ps : List Piece) (fl : Filled n e) (d : Division n e ps) where
  abbrev Halves : ℕ → Type 0
  Halves q = CutInTwo n (span e) q (piece_at ps q) (piece_at ps (piece_at ps q).first) (piece_at ps (piece_at ps q).second)

  is_cut : (q : ℕ) → q + 5 < 2 * n → ((piece_at ps q).first ≡ 0 → ⊥) → Halves q
  is_cut q r z = ⊎_elim (λ w. absurd (z w.no_first)) (λ w. w) (d.stands q r).cut

  -- a child of a piece at or below p is below p
  child_below : (p q c : ℕ) → OnWayUp ps p q → 0 < c → (piece_at ps c).parent ≡ q → OnWayUp ps p c
  child_below p q c o z f = inr (⊎_elim (λ s. parent z (f ∙ sym s)) (λ a. higher z f a) o)

  module _ (p u q : ℕ) (h : Reaches n e ps p u q) (c : Halves q) where
    to_first : Touches n e (piece_at ps (piece_at ps q).first) u → Deeper n e ps p u q (piece_at ps q).first
    to_first t = record {
      reaches = record { in_range = omega (arith, c.in_order, c.in_range); below = child_below p q (piece_at ps q).first h.below (omega (arith, c.first_number)) c.first_parent; touches = t };
      one_level = c.first_level;
    }

    to_second : Touches n e (piece_at ps (piece_at ps q).second) u → Deeper n e ps p u q (piece_at ps q).second
    to_second t = record {
      reaches = record { in_range = c.in_range; below = child_below p q (piece_at ps q).second h.below (omega (arith, c.in_order)) c.second_parent; touches = t };
      one_level = c.second_level;
    }

    inside_first : (e.low (piece_at ps q).seam ≤ u) × (u ≤ e.high (piece_at ps q).seam) → Deeper n e ps p u q (piece_at ps q).first
    inside_first b = to_first (inside_touches_first n e fl ps d q h.in_range c u h.touches b.0 b.1)

    outside_second : Outside (e.low (piece_at ps q).seam) (e.high (piece_at ps q).seam) u → Deeper n e ps p u q (piece_at ps q).second
    outside_second b = to_second (outside_touches_second n e fl ps d q h.in_range c u h.touches b)

  down : (p u q : ℕ) → Reaches n e ps p u q → ((piece_at ps q).first ≡ 0 → ⊥) → Deeper n e ps p u q (towards e (piece_at ps q) u)
  down p u q h z =
      let c = is_cut q h.in_range z in
      let x = e.low (piece_at ps q).seam in
      let y = e.high (piece_at ps q).seam in
      cond_both (between x y u) (piece_at ps q).first (piece_at ps q).second (Deeper n e ps p u q)
      (λ t. inside_first p u q h c (between_is x y u t)) (λ t. outside_second p u q h c (not_between x y u t))

  module _ (p u v q : ℕ) (hu : Reaches n e ps p u q) (hv : Reaches n e ps p v q) (z : (piece_at ps q).first ≡ 0 → ⊥) where
    abbrev Both : ℕ → Type 0
    Both r = ((r ≡ 0 → ⊥) → Deeper n e ps p u q r × Deeper n e ps p v q r) × (r ≡ 0 → Parting e (piece_at ps q) u v)

    both_down : Both (towards_both e (piece_at ps q) u v)
    both_down =
        let c = is_cut q hu.in_range z in
        let x = e.low (piece_at ps q).seam in
        let y = e.high (piece_at ps q).seam in
        cond_both (between x y u && between x y v) (piece_at ps q).first (cond (outside x y u && outside x y v) (piece_at ps q).second 0) Both
        (λ t. let w = and_parts (between x y u) (between x y v) t in
        (λ _. (inside_first p u q hu c (between_is x y u w.0), inside_first p v q hv c (between_is x y v w.1)), λ f. absurd (z f)))
        (λ t. cond_both (outside x y u && outside x y v) (piece_at ps q).second 0 Both
        (λ s. let w = and_parts (outside x y u) (outside x y v) s in
        (λ _. (outside_second p u q hu c (outside_is x y u w.0), outside_second p v q hv c (outside_is x y v w.1)), λ f. absurd (omega (arith, f, c.in_order))))
        (λ s. (λ f. absurd (f refl), λ _. (own_side x y u, apart x y u v t s))))

  module _ (q : ℕ) (r : q + 5 < 2 * n) (c : Halves q) (u v : ℕ) (tu : Touches n e (piece_at ps q) u) (tv : Touches n e (piece_at ps q) v) where
    abbrev P : Piece
    P = piece_at ps q

    abbrev other : ℕ → ℕ → ℕ
    other own w = cond (eqb (piece_at ps w).first own) (piece_at ps w).second (piece_at ps w).first

    across_first : across_of ps P.first ≡ P.second
    across_first = ap (other P.first) c.first_parent ∙ cond-true (eqb P.first P.first) P.second P.first (eq-eqb P.first P.first refl)

    across_second : across_of ps P.second ≡ P.first
    across_second = ap (other P.second) c.second_parent ∙ cond-false (eqb P.first P.second) P.second P.first (ne_eqb P.first P.second (λ k. omega (arith, k, c.in_order)))

    at_children : (b : Bool) → OnSide b (e.low P.seam) (e.high P.seam) u → OnSide (not b) (e.low P.seam) (e.high P.seam) v → PartedAt n e ps q u v (cond b P.first P.second) (across_of ps (cond b P.first P.second))
    at_children true hu hv = subst (PartedAt n e ps q u v P.first) (sym across_first) (record {
      own_in_range = omega (arith, c.in_order, c.in_range);
      own_not_first = omega (arith, c.first_number);
      own_parent = c.first_parent;
      own_touches = inside_touches_first n e fl ps d q r c u tu hu.0 hu.1;
      across_in_range = c.in_range;
      across_not_first = omega (arith, c.in_order);
      across_parent = c.second_parent;
      across_touches = outside_touches_second n e fl ps d q r c v tv hv;
    })
    at_children false hu hv = subst (PartedAt n e ps q u v P.second) (sym across_second) (record {
      own_in_range = c.in_range;
      own_not_first = omega (arith, c.in_order);
      own_parent = c.second_parent;
      own_touches = outside_touches_second n e fl ps d q r c u tu hu;
      across_in_range = omega (arith, c.in_order, c.in_range);
      across_not_first = omega (arith, c.first_number);
      across_parent = c.first_parent;
      across_touches = inside_touches_first n e fl ps d q r c v tv hv.0 hv.1;
    })

  above_parent : (p q : ℕ) → Above ps p q → (0 < q) × OnWayUp ps p (piece_at ps q).parent
  above_parent p q (parent z f) = (z, inl (sym f))
  above_parent p q (higher z f w) = (z, inr (subst (Above ps p) (sym f) w))

  up : (stop p : ℕ) → p + 5 < 2 * n → OnWayUp ps stop p → (p ≡ stop → ⊥) → Higher n e ps stop p
  up stop p r o ne =
      let w = ⊎_elim (λ s. absurd (ne (sym s))) (above_parent stop p) o in
      let u = under_cut n e ps d p w.0 r in
      let range : (piece_at ps p).parent + 5 < 2 * n = omega (arith, u.lower) in
      record {
        not_first = w.0;
        in_range = range;
        below = w.1;
        one_level = ⊎_elim (λ f. ap (λ x. (piece_at ps x).level) (sym f) ∙ u.cut.first_level) (λ f. ap (λ x. (piece_at ps x).level) (sym f) ∙ u.cut.second_level) u.which;
        touches = λ v t. ⊎_elim
            (λ f. first_touches n e fl ps d (piece_at ps p).parent range u.cut v (subst (λ x. Touches n e (piece_at ps x) v) (sym f) t))
            (λ f. second_touches n e fl ps d (piece_at ps p).parent range u.cut v (subst (λ x. Touches n e (piece_at ps x) v) (sym f) t))
            u.which;
      }

pub ways_down : WaysDown
ways_down n e ps fl d p u q h z = down n e ps fl d p u q h z

pub ways_part : WaysPart
ways_part n e ps fl d p u v q hu hv z = both_down n e ps fl d p u v q hu hv z

pub parted_between_children : PartedBetweenChildren
parted_between_children n e ps fl d q u v r z tu tv h =
    at_children n e ps fl d q r (is_cut n e ps fl d q r z) u v tu tv (between (e.low (piece_at ps q).seam) (e.high (piece_at ps q).seam) u) h.0 h.1

pub ways_up : WaysUp
ways_up n e ps fl d stop p r o ne = up n e ps fl d stop p r o ne
