-- One lane of an area given another rate is the lane map with that lane changed.
-- Assumes nothing.
use Rattle.std.proofs.Common.{◌≡◌, ℕ, ◌+◌, ◌*◌, ◌/◌, ◌<◌, true, false, cond, ◌&&◌, eqb, ltb, List, map, length, set, sym, ap, ◌∙◌, subst, ⊎_elim, mul_comm, arith}
use Rattle.std.proofs.lemmas.Nat.{div-mul-add}
use Rattle.std.proofs.lemmas.List.{length-map, length-set}
use Rattle.std.proofs.lemmas.Bool.{cases_eq, cases_Bool, and_parts, and_from, eqb-true, eq-eqb, cond-true, cond-false, ltb-true, lt-ltb, true≢false}
use Rattle.rates.specs.Kinds.{Kind}
use Rattle.trips.specs.Trips.{changed}
use Rattle.slow.specs.Areas.{at, entry, lane_map, LaneOrNone, InArea, LaneSet}
use Rattle.slow.proofs.Places.{set_here, set_others, place_within}

-- different pairs of terminals have different places
place_apart : (n u v a b : ℕ) → v < n → b < n → n * u + v ≡ n * a + b → (u ≡ a) × (v ≡ b)
place_apart n u v a b l k e =
    let p : u ≡ a = sym (div-mul-add u n v l) ∙ ap (λ x. x / n) (row_first u v ∙ e ∙ sym (row_first a b)) ∙ div-mul-add a n b k in
    (p, omega (arith, ap (λ x. n * x) p))
  where
    row_first : (x y : ℕ) → x * n + y ≡ n * x + y
    row_first x y = ap (λ z. z + y) (mul_comm x n)

module _ {M : Type 0} (K : Kind M) {V : Type 0} (means : V → M) (n : ℕ) (lanes : List V) (from to : ℕ) (rate : V) (h : InArea n (length lanes) from to) where
  abbrev after : List V
  after = set lanes (n * from + to) rate

  in_list : n * from + to < length lanes
  in_list = omega (arith, place_within n from to h.from_below h.to_below, h.square)

  entry_changed : (u v : ℕ) → v < n → entry K n (map means after) u v ≡ changed K (entry K n (map means lanes)) from to (means rate) u v
  entry_changed u v l =
      ⊎_elim
      (λ e.
      let p = and_parts (eqb u from) (eqb v to) e in
      let place : n * u + v ≡ n * from + to = ap (λ x. n * x + v) (eqb-true u from p.0) ∙ ap (λ x. n * from + x) (eqb-true v to p.1) in
      ap (at K (map means after)) place ∙ set_here K means lanes (n * from + to) rate in_list
      ∙ sym (cond-true (eqb u from && eqb v to) (means rate) (entry K n (map means lanes) u v) e))
      (λ e.
      set_others K means lanes (n * from + to) rate (n * u + v) (λ z.
      let p = place_apart n u v from to l h.to_below z in
      true≢false (sym (and_from (eqb u from) (eqb v to) (eq-eqb u from p.0) (eq-eqb v to p.1)) ∙ e))
      ∙ sym (cond-false (eqb u from && eqb v to) (means rate) (entry K n (map means lanes) u v) e))
      (cases_Bool (eqb u from && eqb v to))

  pub lane_set : LaneOrNone K (means rate) → LaneSet K means n lanes after from to (means rate)
  lane_set fit = record {
    in_area = h;
    lane_or_none = fit;
    shows = λ u v. ⊎_elim (inside u v) (outside u v) (cases_Bool (ltb u n && ltb v n));
    stays = λ a. record {
      few = a.few;
      square = length-map after means ∙ length-set lanes (n * from + to) rate ∙ sym (length-map lanes means) ∙ a.square;
      lanes = λ j l. ⊎_elim
          (λ z. subst (LaneOrNone K) (sym (ap (at K (map means after)) z ∙ set_here K means lanes (n * from + to) rate in_list)) fit)
          (λ z. subst (LaneOrNone K) (sym (set_others K means lanes (n * from + to) rate j z)) (a.lanes j l))
          (cases_eq j (n * from + to));
    };
  }
    where
      inside : (u v : ℕ) → (ltb u n && ltb v n) ≡ true → lane_map K n (map means after) u v ≡ changed K (lane_map K n (map means lanes)) from to (means rate) u v
      inside u v e =
          let p = and_parts (ltb u n) (ltb v n) e in
          cond-true (ltb u n && ltb v n) (entry K n (map means after) u v) K.none e
          ∙ entry_changed u v (ltb-true v n p.1)
          ∙ ap (λ x. cond (eqb u from && eqb v to) (means rate) x) (sym (cond-true (ltb u n && ltb v n) (entry K n (map means lanes) u v) K.none e))

      -- the changed lane is not out of the area
      other_lane : (u v : ℕ) → (ltb u n && ltb v n) ≡ false → (eqb u from && eqb v to) ≡ false
      other_lane u v e =
          ⊎_elim
          (λ z.
          let p = and_parts (eqb u from) (eqb v to) z in
          absurd (true≢false (sym (and_from (ltb u n) (ltb v n) (lt-ltb u n (omega (arith, eqb-true u from p.0, h.from_below))) (lt-ltb v n (omega (arith, eqb-true v to p.1, h.to_below)))) ∙ e)))
          (λ z. z)
          (cases_Bool (eqb u from && eqb v to))

      outside : (u v : ℕ) → (ltb u n && ltb v n) ≡ false → lane_map K n (map means after) u v ≡ changed K (lane_map K n (map means lanes)) from to (means rate) u v
      outside u v e =
          cond-false (ltb u n && ltb v n) (entry K n (map means after) u v) K.none e
          ∙ sym (cond-false (ltb u n && ltb v n) (entry K n (map means lanes) u v) K.none e)
          ∙ sym (cond-false (eqb u from && eqb v to) (means rate) (lane_map K n (map means lanes) u v) (other_lane u v e))
