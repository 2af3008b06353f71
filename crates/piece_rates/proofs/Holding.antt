-- The test whether a piece holds a lane, and places in a list of terminals.
-- Assumes nothing.
use Rattle.std.proofs.Common.{◌≡◌, ℕ, zero, suc, ◌+◌, ◌-◌, ◌*◌, ◌<◌, Bool, true, false, ◌&&◌, ◌||◌, eqb, leb, List, [], ◌∷◌, length, get_or, Decides, sym, ap, ◌∙◌, inl, inr, ⊎_elim, arith}
use Rattle.std.proofs.lemmas.Bool.{and_parts, and_from, or_cases, or_left, or_right, eqb-true, eq-eqb, leb-true, le-leb, cases_order, false≢true, cond_both}
use Rattle.std.proofs.lemmas.Bool.Decides.{Decides-and, Decides-or, Decides-eqb}
use Rattle.records.specs.declared.Piece.{Piece}
use Rattle.records.specs.Few.{Among}
use Rattle.pieces.specs.Sides.{Ends, span, right_of, Belongs}
use Rattle.pieces.specs.Holding.{holds}
use Rattle.piece_rates.specs.Lanes.{RunsAlong, HoldsLane, any, runs_along, belongs_to, holds_lane}
use Rattle.piece_rates.specs.Climbing.{place, among}

any_found : (k : ℕ) (f : ℕ → Bool) → any k f ≡ true → (i : ℕ) × (i < k) × (f i ≡ true)
any_found zero f e = absurd (false≢true e)
any_found (suc k) f e =
    ⊎_elim (λ h. (k, omega arith, h)) (λ h. let w = any_found k f h in (w.0, omega (arith, w.1), w.2)) (or_cases (f k) (any k f) e)

any_at : (k : ℕ) (f : ℕ → Bool) (i : ℕ) → i < k → f i ≡ true → any k f ≡ true
any_at zero f i l e = absurd (omega arith)
any_at (suc k) f i l e =
    ⊎_elim (λ z. or_left (f k) (any k f) (ap f (sym z) ∙ e))
    (⊎_elim (λ h. or_right (f k) (any k f) (any_at k f i h e)) (λ h. absurd (omega arith))) (cases_order i k)

runs_decided : (e : Ends) (i u v : ℕ) → Decides (runs_along e i u v) (RunsAlong e i u v)
runs_decided e i u v =
    Decides-or (eqb u (e.low i) && eqb v (e.high i)) (eqb u (e.high i) && eqb v (e.low i))
    (Decides-and (eqb u (e.low i)) (eqb v (e.high i)) (Decides-eqb u (e.low i)) (Decides-eqb v (e.high i)))
    (Decides-and (eqb u (e.high i)) (eqb v (e.low i)) (Decides-eqb u (e.high i)) (Decides-eqb v (e.low i)))

belongs_decided : (len : ℕ → ℕ) (i b : ℕ) → Decides (belongs_to len i b) (Belongs len i b)
belongs_decided len i b = (
  λ t. ⊎_elim
      (λ h. let p = and_parts (leb 2 (len i)) (eqb b i) h in inl (leb-true 2 (len i) p.0, eqb-true b i p.1))
      (λ h.
      let p = and_parts (eqb (len i) 1) (leb 2 (len b) && (eqb i (b + 1) || eqb i (right_of len b))) h in
      let q = and_parts (leb 2 (len b)) (eqb i (b + 1) || eqb i (right_of len b)) p.1 in
      inr (
        eqb-true (len i) 1 p.0,
        record {
          base = leb-true 2 (len b) q.0;
          which = ⊎_elim (λ z. inl (eqb-true i (b + 1) z)) (λ z. inr (eqb-true i (right_of len b) z)) (or_cases (eqb i (b + 1)) (eqb i (right_of len b)) q.1);
        },
      ))
      (or_cases (leb 2 (len i) && eqb b i) (eqb (len i) 1 && (leb 2 (len b) && (eqb i (b + 1) || eqb i (right_of len b)))) t),
  λ h. ⊎_elim
      (λ p. or_left (leb 2 (len i) && eqb b i) (eqb (len i) 1 && (leb 2 (len b) && (eqb i (b + 1) || eqb i (right_of len b))))
      (and_from (leb 2 (len i)) (eqb b i) (le-leb 2 (len i) p.0) (eq-eqb b i p.1)))
      (λ p. or_right (leb 2 (len i) && eqb b i) (eqb (len i) 1 && (leb 2 (len b) && (eqb i (b + 1) || eqb i (right_of len b))))
      (and_from (eqb (len i) 1) (leb 2 (len b) && (eqb i (b + 1) || eqb i (right_of len b))) (eq-eqb (len i) 1 p.0)
      (and_from (leb 2 (len b)) (eqb i (b + 1) || eqb i (right_of len b)) (le-leb 2 (len b) p.1.base)
      (⊎_elim (λ z. or_left (eqb i (b + 1)) (eqb i (right_of len b)) (eq-eqb i (b + 1) z)) (λ z. or_right (eqb i (b + 1)) (eqb i (right_of len b)) (eq-eqb i (right_of len b) z)) p.1.which))))
      h,
)

pub holds_lane_found : (n : ℕ) (e : Ends) (P : Piece) (u v : ℕ) → holds_lane n e P u v ≡ true → HoldsLane n e P u v
holds_lane_found n e P u v t =
    let c = 2 * n - 3 in
    let i = any_found c (λ i. runs_along e i u v && any c (λ b. belongs_to (span e) i b && holds (span e) P b)) t in
    let p = and_parts (runs_along e i.0 u v) (any c (λ b. belongs_to (span e) i.0 b && holds (span e) P b)) i.2 in
    let b = any_found c (λ b. belongs_to (span e) i.0 b && holds (span e) P b) p.1 in
    let q = and_parts (belongs_to (span e) i.0 b.0) (holds (span e) P b.0) b.2 in
    record {
      side = i.0;
      in_range = omega (arith, i.1);
      along = (runs_decided e i.0 u v).0 p.0;
      triangle = b.0;
      triangle_in_range = omega (arith, b.1);
      belongs = (belongs_decided (span e) i.0 b.0).0 q.0;
      held_there = q.1;
    }

pub holds_lane_tested : (n : ℕ) (e : Ends) (P : Piece) (u v : ℕ) → HoldsLane n e P u v → holds_lane n e P u v ≡ true
holds_lane_tested n e P u v h =
    let c = 2 * n - 3 in
    any_at c (λ i. runs_along e i u v && any c (λ b. belongs_to (span e) i b && holds (span e) P b)) h.side (omega (arith, h.in_range))
    (and_from (runs_along e h.side u v) (any c (λ b. belongs_to (span e) h.side b && holds (span e) P b)) ((runs_decided e h.side u v).1 h.along)
    (any_at c (λ b. belongs_to (span e) h.side b && holds (span e) P b) h.triangle (omega (arith, h.triangle_in_range))
    (and_from (belongs_to (span e) h.side h.triangle) (holds (span e) P h.triangle) ((belongs_decided (span e) h.side h.triangle).1 h.belongs) h.held_there)))

pub among_decided : (xs : List ℕ) (u : ℕ) → Decides (among xs u) (Among u xs)
among_decided [] u = (λ e. absurd (false≢true e), λ h. absurd h)
among_decided (x ∷ xs) u = Decides-or (eqb u x) (among xs u) (Decides-eqb u x) (among_decided xs u)

pub place_below : (xs : List ℕ) (u : ℕ) → Among u xs → place xs u < length xs
place_below [] u h = absurd h
place_below (x ∷ xs) u h =
    cond_both (eqb u x) zero (suc (place xs u)) (λ k. k < suc (length xs)) (λ e. omega arith)
    (λ e. omega (arith, place_below xs u (⊎_elim (λ z. absurd (both (eq-eqb u x z) e)) (λ k. k) h)))
  where
    both : {b : Bool} → b ≡ true → b ≡ false → ⊥
    both p q = false≢true (sym q ∙ p)

pub at_place : (xs : List ℕ) (u : ℕ) → Among u xs → get_or xs (place xs u) 0 ≡ u
at_place [] u h = absurd h
at_place (x ∷ xs) u h =
    cond_both (eqb u x) zero (suc (place xs u)) (λ k. get_or (x ∷ xs) k 0 ≡ u) (λ e. sym (eqb-true u x e))
    (λ e. at_place xs u (⊎_elim (λ z. absurd (both (eq-eqb u x z) e)) (λ k. k) h))
  where
    both : {b : Bool} → b ≡ true → b ≡ false → ⊥
    both p q = false≢true (sym q ∙ p)
