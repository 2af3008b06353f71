-- A side is known by its two ends, and a place of the lane area by the ends of its lane in order.
-- Assumes the ends of a filled ring in preorder.
use Rattle.std.proofs.Common.{◌≡◌, ℕ, ◌+◌, ◌*◌, ◌<◌, Bool, true, false, sym, refl, ap, ◌∙◌, inl, inr, ⊎_elim, arith}
use Rattle.pieces.specs.Sides.{Ends, span, Filled, Belongs}
use Rattle.pieces.proofs.Tree.{root_fits, nested, lie}
use Rattle.pieces.proofs.Places.{preorder, ends_between, ends_before}
use Rattle.pieces.proofs.Geometry.{in_root}
use Rattle.piece_rates.specs.Lanes.{RunsAlong}
use Rattle.piece_rates.specs.Changes.{lane_from, lane_to, lane_place}

-- the triangle that a side's lanes belong to stands before the side, or on it
pub triangle_range : (n : ℕ) (len : ℕ → ℕ) (i b : ℕ) → i + 3 < 2 * n → Belongs len i b → b + 3 < 2 * n
triangle_range n len i b r (inl h) = omega (arith, h.1)
triangle_range n len i b r (inr h) = ⊎_elim (λ s. omega arith) (λ s. omega arith) h.1.which

-- the lane of a place runs along the place's side
pub lane_runs : (e : Ends) (i : ℕ) (back : Bool) → RunsAlong e i (lane_from e i back) (lane_to e i back)
lane_runs e i true = inr (refl, refl)
lane_runs e i false = inl (refl, refl)

-- two places of the lane area are one only where their sides and directions are
pub one_place : (e : Ends) (i j : ℕ) (b d : Bool) → lane_place i b ≡ lane_place j d → (lane_from e i b ≡ lane_from e j d) × (lane_to e i b ≡ lane_to e j d)
one_place e i j true true z = let s : i ≡ j = omega arith in (ap e.high s, ap e.low s)
one_place e i j true false z = absurd (omega arith)
one_place e i j false true z = absurd (omega arith)
one_place e i j false false z = let s : i ≡ j = omega arith in (ap e.low s, ap e.high s)

module _ (n : ℕ) (e : Ends) (fl : Filled n e) where
  -- Two sides with the same ends are one: of two that lie apart the one ends where the other begins or earlier, and where one
  -- lies below the other, equal lengths leave it no place but the other's own.
  pub one_side : (i j : ℕ) → i + 3 < 2 * n → j + 3 < 2 * n → e.low i ≡ e.low j → e.high i ≡ e.high j → i ≡ j
  one_side i j ri rj p q =
      let pre = preorder n e fl in
      let si = fl.rising i ri in
      let sj = fl.rising j rj in
      ⊎_elim (λ k. let h = nested n (span e) pre i j (in_root n e fl i ri) k in omega arith)
      (λ o. ⊎_elim (λ k. let h = nested n (span e) pre j i (in_root n e fl j rj) k in omega arith)
      (λ a. ⊎_elim (λ k. let h = ends_before n e fl i j ri rj k in absurd (omega arith))
      (λ k. let h = ends_before n e fl j i rj ri k in absurd (omega arith)) a) o)
      (lie n (span e) pre i j)

  -- a lane runs along one side
  pub runs_one : (i j u v : ℕ) → i + 3 < 2 * n → j + 3 < 2 * n → RunsAlong e i u v → RunsAlong e j u v → i ≡ j
  runs_one i j u v ri rj a b =
      let si = fl.rising i ri in
      let sj = fl.rising j rj in
      ⊎_elim
      (λ p. ⊎_elim (λ q. one_side i j ri rj (sym p.0 ∙ q.0) (sym p.1 ∙ q.1)) (λ q. absurd (omega (arith, p.0, p.1, q.0, q.1))) b)
      (λ p. ⊎_elim (λ q. absurd (omega (arith, p.0, p.1, q.0, q.1))) (λ q. one_side i j ri rj (sym p.1 ∙ q.1) (sym p.0 ∙ q.0)) b) a

  -- the ends of a side are terminals
  pub end_below : (i : ℕ) → i + 3 < 2 * n → (e.low i < n) × (e.high i < n)
  end_below i r =
      let pre = preorder n e fl in
      let root = pre.root in
      let s = fl.rising i r in
      let b = ends_between n e fl 0 i (root_fits n (span e) pre) (omega arith, omega arith) in
      (omega (arith, b.1, fl.last), omega (arith, b.1, fl.last))

  -- lanes with the same ends in order have one place
  pub one_lane : (i j : ℕ) (b d : Bool) → i + 3 < 2 * n → j + 3 < 2 * n → lane_from e i b ≡ lane_from e j d → lane_to e i b ≡ lane_to e j d → lane_place i b ≡ lane_place j d
  one_lane i j true true ri rj p q = ap (λ k. 2 * k + 1) (one_side i j ri rj q p)
  one_lane i j true false ri rj p q = absurd (omega (arith, fl.rising i ri, fl.rising j rj))
  one_lane i j false true ri rj p q = absurd (omega (arith, fl.rising i ri, fl.rising j rj))
  one_lane i j false false ri rj p q = ap (λ k. 2 * k) (one_side i j ri rj p q)
