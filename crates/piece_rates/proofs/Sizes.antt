-- A sheet that shows best rates holds none too large, and a parent's sheet shows the parent's best rates.
-- Assumes the laws of the kind.
use Rattle.std.proofs.Common.{◌≡◌, ℕ, zero, suc, ◌+◌, ◌*◌, ◌/◌, ◌%◌, ◌<◌, ◌≤◌, Bool, true, false, cond, not, ◌⊎◌, List, [], ◌∷◌, length, get_or, sym, refl, ap, ◌∙◌, subst, inl, inr, ⊎_elim, mod-lt, arith}
use native.Mathlib.Nat.{div-add-mod}
use Rattle.std.proofs.lemmas.Bool.{cases_Bool, cases_lt, both_ways}
use Rattle.std.proofs.lemmas.List.{get_or_past}
use Rattle.rates.specs.Kinds.{Kind, Laws}
use Rattle.rates.proofs.Choosing.{decides_none}
use Rattle.trips.specs.Trips.{LaneMap, NoEarning, Over, Fewer, BestRate}
use Rattle.trips.proofs.Shown.{best_rate_bounded, fewer_lanes_no_better}
use Rattle.records.specs.declared.Piece.{Piece}
use Rattle.records.specs.Few.{listed, Among}
use Rattle.pieces.specs.Sides.{Ends}
use Rattle.piece_rates.specs.Lanes.{holds_lane, piece_lanes}
use Rattle.piece_rates.specs.Sizes.{largest, PlanLanes}
use Rattle.piece_rates.specs.Parents.{ParentShows, ShownIsWithin}
use Rattle.piece_rates.proofs.Parents.{climbs_to_parent}

pub at_among : (xs : List ℕ) (i : ℕ) → i < length xs → Among (get_or xs i 0) xs
at_among [] i l = absurd (omega arith)
at_among (x ∷ xs) zero l = inl refl
at_among (x ∷ xs) (suc i) l = inr (at_among xs i (omega arith))

module _ {M : Type 0} (K : Kind M) (X : Laws K) where
  -- a member is none or not
  pub none_or_not : (a : M) → (a ≡ K.none) ⊎ (a ≡ K.none → ⊥)
  none_or_not a =
      let d = decides_none K X a (K.better a K.none) refl in
      ⊎_elim (λ e. inl (d.0 e)) (λ e. inr (λ z. both_ways (not (K.better a K.none)) e (d.1 z))) (cases_Bool (not (K.better a K.none)))

  pub piece_fewer : (n : ℕ) (e : Ends) (P : Piece) (m : LaneMap M) → Fewer K (piece_lanes K n e P m) m
  piece_fewer n e P m u v s = kept (holds_lane n e P u v) s
    where
      kept : (b : Bool) → (cond b (m u v) K.none ≡ K.none → ⊥) → cond b (m u v) K.none ≡ m u v
      kept true s = refl
      kept false s = absurd (s refl)

  pub piece_no_earning : (n : ℕ) (e : Ends) (P : Piece) (m : LaneMap M) → NoEarning K m → NoEarning K (piece_lanes K n e P m)
  piece_no_earning n e P m ne = (fewer_lanes_no_better K X (piece_lanes K n e P m) m (piece_fewer n e P m)).still_no_earning ne

  module _ (n : ℕ) (e : Ends) (m : LaneMap M) (P : Piece) (h : PlanLanes K n m) where
    pub lane_size : (u v : ℕ) → K.size (piece_lanes K n e P m u v) ≤ 1000000000
    lane_size u v =
        ⊎_elim (λ z. omega (arith, ap K.size z, X.none_size))
        (λ s.
        let q = piece_fewer n e P m u v s in
        omega (arith, ap K.size q, X.lane_rate_size (m u v) (h.lane_rates u v (λ z. s (q ∙ z))), X.limit_bounded))
        (none_or_not (piece_lanes K n e P m u v))

    piece_over : Over K n (piece_lanes K n e P m)
    piece_over u v s = h.over u v (λ z. s (piece_fewer n e P m u v s ∙ z))

    pub best_within : (u v : ℕ) (r : M) → BestRate K (piece_lanes K n e P m) u v r → K.size r ≤ largest
    best_within u v r b =
        let s = best_rate_bounded K X (piece_lanes K n e P m) n 1000000000 piece_over lane_size (piece_no_earning n e P m h.no_earning) u v r b in
        omega (arith, h.most_terminals)

  none_within : (a : M) → a ≡ K.none → K.size a ≤ largest
  none_within a z = omega (arith, ap K.size z, X.none_size)

  pub shown_is_within : ShownIsWithin K
  shown_is_within n e m P sheet h s l = record {
    bounded = λ k. ⊎_elim
        (λ b. subst (λ w. K.size (get_or sheet w K.none) ≤ largest) (div-add-mod k 8)
        (place (k / 8) (k % 8) (omega (arith, div-add-mod k 8)) (mod-lt k {m = 8} (omega arith))))
        (λ b. none_within (get_or sheet k K.none) (get_or_past sheet k K.none (omega arith)))
        (cases_lt k 64);
  }
    where
      place : (i j : ℕ) → i < 8 → j < 8 → K.size (get_or sheet (8 * i + j) K.none) ≤ largest
      place i j a b =
          ⊎_elim
          (λ p. ⊎_elim
          (λ q. best_within n e m P h (get_or (listed P.edges) i 0) (get_or (listed P.edges) j 0) (get_or sheet (8 * i + j) K.none) (s.best i j p q))
          (λ q. none_within (get_or sheet (8 * i + j) K.none) (s.column_unused i j a q b))
          (cases_lt j (length (listed P.edges))))
          (λ p. none_within (get_or sheet (8 * i + j) K.none) (s.row_unused i j p a b))
          (cases_lt i (length (listed P.edges)))

  pub parent_shows : ParentShows K
  parent_shows n e m P A B x y a b sheet h w = record {
    best = λ i j p q.
        let s = get_or (listed P.edges) i 0 in
        let t = get_or (listed P.edges) j 0 in
        subst (BestRate K (piece_lanes K n e P m) s t) (sym (w.climbs i j p q))
        (climbs_to_parent K X n e x y P A B m a b h.shape (piece_no_earning n e P m h.lanes.no_earning) h.first_shown h.second_shown
        s t (at_among (listed P.edges) i p) (at_among (listed P.edges) j q));
    row_unused = w.row_unused;
    column_unused = w.column_unused;
  }
