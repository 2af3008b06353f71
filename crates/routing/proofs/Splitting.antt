-- What the code computes at a seam is what the split of a part asks for.
-- Assumes the laws, and a cut piece at its seam in a plan whose best rates are known.
use Rattle.std.proofs.Common.{◌≡◌, ℕ, ◌+◌, ◌*◌, ◌<◌, ◌≤◌, Bool, true, false, cond, not, leb, List, [], map, sym, refl, ap, ◌∙◌, subst, ⊎_elim, arith}
use Rattle.std.proofs.lemmas.Bool.{cases_Bool, cond-true, cond-false, and_from, and_parts, or_cases, or_left, or_right, both_ways, leb-false, le-leb}
use Rattle.rates.specs.Kinds.{Kind, Laws, exact_size}
use Rattle.trips.specs.Trips.{BestRate}
use Rattle.trips.proofs.Shown.{best_rate_unique}
use Rattle.records.specs.declared.Piece.{Piece}
use Rattle.piece_rates.specs.Climbing.{seam_ends}
use Rattle.piece_rates.specs.Lanes.{piece_lanes}
use Rattle.piece_rates.specs.Sizes.{largest}
use Rattle.piece_rates.specs.Touching.{Touches}
use Rattle.piece_rates.proofs.Sizes.{best_within}
use Rattle.quoting.specs.declared.areas.Areas.{Areas}
use Rattle.quoting.specs.Areas.{ends, piece_of}
use Rattle.unfolding.specs.Parts.{Part, kept, lies, both_lie, together, home, child, part_rate, round_rate, across_rate, split_at, split_together, split_across, round_parts, across_parts, child_part, child_rate}
use Rattle.unfolding.proofs.Splits.{child_range, seam_touches, touches_child}
use Rattle.quoting.specs.declared.seams.Child.{Child}
use Rattle.quoting.specs.declared.seams.Seam.{Seam}
use Rattle.routing.specs.declared.seam.Lie.TheVariants.{Together, Apart}
use Rattle.routing.specs.declared.split.SeamPart.{SeamPart}
use Rattle.routing.specs.declared.split.Way.{Way}
use Rattle.routing.specs.declared.waiting.RoutePart.{RoutePart}
use Rattle.routing.specs.declared.waiting.Parts.{Parts}
use Rattle.routing.specs.declared.waiting.Parts.TheVariants.{Within as WithinParts, Across as AcrossParts, Round as RoundParts}
use Rattle.quoting.specs.Seams.{is_first}
use Rattle.routing.specs.Seams.{LiesAs}
use Rattle.routing.specs.Splits.{PartRate, RatedPlan, PartTouches, IsSeamOf, TouchesSeam, TouchesChild, IsWay, BothInChild, EndsApart, Within, Round, Across}
use Rattle.routing.specs.Waiting.{kept_all, part_of}

-- where no child has both terminals, the one that is taken has the first and the other the second
pub home_has_both : (x y u v : ℕ) → together x y u v ≡ true → both_lie x y (home x y u v) u v ≡ true
home_has_both x y u v t = at (both_lie x y true u v) (both_lie x y false u v) refl refl
  where
    at : (a b : Bool) → both_lie x y true u v ≡ a → both_lie x y false u v ≡ b → both_lie x y (home x y u v) u v ≡ true
    at true b p q = ap (λ h. both_lie x y h u v) (cond-true (both_lie x y true u v) true (cond (both_lie x y false u v) false (lies x y true u)) p) ∙ p
    at false true p q =
        ap (λ h. both_lie x y h u v)
        (cond-false (both_lie x y true u v) true (cond (both_lie x y false u v) false (lies x y true u)) p ∙ cond-true (both_lie x y false u v) false (lies x y true u) q)
        ∙ q
    at false false p q =
        absurd (⊎_elim (both_ways (both_lie x y true u v) p) (both_ways (both_lie x y false u v) q) (or_cases (both_lie x y true u v) (both_lie x y false u v) t))

-- every terminal lies in a child
lies_somewhere : (x y u : ℕ) → lies x y true u ≡ false → lies x y false u ≡ true
lies_somewhere x y u z =
    ⊎_elim
    (λ p. ⊎_elim
    (λ q. absurd (both_ways (lies x y true u) z (and_from (leb x u) (leb u y) p q)))
    (λ q. or_right (leb u x) (leb y u) (le-leb y u (omega (arith, leb-false u y q))))
    (cases_Bool (leb u y)))
    (λ p. or_left (leb u x) (leb y u) (le-leb u x (omega (arith, leb-false x u p))))
    (cases_Bool (leb x u))

pub home_has_first : (x y u v : ℕ) → together x y u v ≡ false → (lies x y (home x y u v) u ≡ true) × (lies x y (not (home x y u v)) v ≡ true)
home_has_first x y u v t = at (lies x y true u) (lies x y true v) refl refl
  where
    apart : (c : Bool) → both_lie x y c u v ≡ true → ⊥
    apart true p = both_ways (together x y u v) t (or_left (both_lie x y true u v) (both_lie x y false u v) p)
    apart false p = both_ways (together x y u v) t (or_right (both_lie x y true u v) (both_lie x y false u v) p)

    apart_is : (c : Bool) → both_lie x y c u v ≡ false
    apart_is c = ⊎_elim (λ p. absurd (apart c p)) (λ p. p) (cases_Bool (both_lie x y c u v))

    home_is : home x y u v ≡ lies x y true u
    home_is =
        cond-false (both_lie x y true u v) true (cond (both_lie x y false u v) false (lies x y true u)) (apart_is true)
        ∙ cond-false (both_lie x y false u v) false (lies x y true u) (apart_is false)

    at : (a b : Bool) → lies x y true u ≡ a → lies x y true v ≡ b → (lies x y (home x y u v) u ≡ true) × (lies x y (not (home x y u v)) v ≡ true)
    at true true p q = absurd (apart true (and_from (lies x y true u) (lies x y true v) p q))
    at true false p q = (
      ap (λ c. lies x y c u) (home_is ∙ p) ∙ p,
      ap (λ c. lies x y (not c) v) (home_is ∙ p) ∙ lies_somewhere x y v q,
    )
    at false true p q = (
      ap (λ c. lies x y c u) (home_is ∙ p) ∙ lies_somewhere x y u p,
      ap (λ c. lies x y (not c) v) (home_is ∙ p) ∙ q,
    )
    at false false p q = absurd (apart false (and_from (lies x y false u) (lies x y false v) (lies_somewhere x y u p) (lies_somewhere x y v q)))

module _ {V M : Type 0} (K : Kind M) (X : Laws K) {means : V → M} {a : Areas V} (plan : RatedPlan K means a) where
  pub part_rate_is : (q : Part) (r : M) → PartTouches plan q
      → BestRate K (piece_lanes K plan.n (ends a) (piece_of a q.piece) plan.lanes) q.from q.to r → PartRate K plan.best q r
  part_rate_is q r t b = record {
    is = best_rate_unique K X (piece_lanes K plan.n (ends a) (piece_of a q.piece) plan.lanes) q.from q.to r (part_rate K plan.best q) b
        (plan.rated.best_within q.piece t.in_range q.from q.to t.from_touches t.to_touches);
    small = best_within K X plan.n (ends a) plan.lanes (piece_of a q.piece) plan.rated.in_order.stands.lanes q.from q.to r b;
  }

  module _ (s : Seam) (h : IsSeamOf plan s) where
    in_child : (c : Bool) → child s.piece c + 5 < 2 * plan.n
    in_child c =
        subst (λ Q. child Q c + 5 < 2 * plan.n) (sym h.record_is)
        (child_range K X plan.n plan.lanes a.records.sides.now a.records.pieces.now (map means a.lanes.now) (map means a.sheets.now) plan.best h.rated h.number h.in_range h.cut c)

    same_ends : (i : Bool) → seam_ends s.low s.high i ≡ seam_ends ((ends a).low s.piece.seam) ((ends a).high s.piece.seam) i
    same_ends true = h.low_is
    same_ends false = h.high_is

    end_touches : (c i : Bool) → TouchesChild plan s c (seam_ends s.low s.high i)
    end_touches c i =
        subst (TouchesChild plan s c) (sym (same_ends i))
        (subst (λ (Q : Piece). Touches plan.n (ends a) (piece_of a (child Q c)) (seam_ends ((ends a).low Q.seam) ((ends a).high Q.seam) i)) (sym h.record_is)
        (seam_touches K X plan.n plan.lanes a.records.sides.now a.records.pieces.now (map means a.lanes.now) (map means a.sheets.now) plan.best h.rated h.number h.in_range h.cut c i))

    lies_touches : (c : Bool) (u : ℕ) → TouchesSeam plan s u → lies s.low s.high c u ≡ true → TouchesChild plan s c u
    lies_touches c u t l =
        let move = λ (Q : Piece). Touches plan.n (ends a) Q u → lies ((ends a).low Q.seam) ((ends a).high Q.seam) c u ≡ true → Touches plan.n (ends a) (piece_of a (child Q c)) u in
        subst move (sym h.record_is)
        (touches_child K X plan.n plan.lanes a.records.sides.now a.records.pieces.now (map means a.lanes.now) (map means a.sheets.now) plan.best h.rated h.number h.in_range h.cut c u) t
        (ap (λ x. lies x ((ends a).high s.piece.seam) c u) (sym h.low_is) ∙ ap (λ y. lies s.low y c u) (sym h.high_is) ∙ l)

    -- a part of a child, as the code makes it
    pub part_is : (q : RoutePart) (c c' : Bool) (u u' v v' : ℕ) → q ≡ record { piece = child s.piece c'; from = u'; to = v' } → c' ≡ c → u' ≡ u → v' ≡ v
        → part_of q ≡ record { piece = child s.piece c; from = u; to = v }
    part_is q c c' u u' v v' z w y x =
        ap part_of z
        ∙ ap (λ d. record { piece = child s.piece d; from = u'; to = v' }) w
        ∙ ap (λ i. record { piece = child s.piece c; from = i; to = v' }) y
        ∙ ap (λ i. record { piece = child s.piece c; from = u; to = i }) x

    -- its rate
    rate_in : (q : RoutePart) (c : Bool) (u v : ℕ) (r : M) → part_of q ≡ record { piece = child s.piece c; from = u; to = v } → TouchesChild plan s c u → TouchesChild plan s c v
        → (PartTouches plan (part_of q) → PartRate K plan.best (part_of q) r) → PartRate K plan.best (record { piece = child s.piece c; from = u; to = v }) r
    rate_in q c u v r z tu tv known =
        subst (λ w. PartRate K plan.best w r) z
        (known (subst (PartTouches plan) (sym z) (record { in_range = in_child c; from_touches = tu; to_touches = tv })))

    pub split_as_together : (q : RoutePart) (ch : Child) → LiesAs s.low s.high q.from q.to (Together ch) → TouchesSeam plan s q.from → TouchesSeam plan s q.to → (parts : Parts)
        → (BothInChild (record { areas = a; seam = s; child = ch; part = q }) plan → kept_all parts [] ≡ split_together K plan.best s.piece s.low s.high q.from q.to (is_first ch))
        → kept_all parts [] ≡ split_at K plan.best s.piece s.low s.high q.from q.to
    split_as_together q ch (t, z) tu tv parts known =
        let u = q.from in
        let v = q.to in
        let both = and_parts (lies s.low s.high (home s.low s.high u v) u) (lies s.low s.high (home s.low s.high u v) v) (home_has_both s.low s.high u v t) in
        known (record {
          seam = h;
          from_in = lies_touches (is_first ch) u tu (ap (λ (b : Bool). lies s.low s.high b u) (sym z) ∙ both.0);
          to_in = lies_touches (is_first ch) v tv (ap (λ (b : Bool). lies s.low s.high b v) (sym z) ∙ both.1);
        })
        ∙ ap (λ (b : Bool). split_together K plan.best s.piece s.low s.high u v b) (sym z)
        ∙ sym (cond-true (together s.low s.high u v) (split_together K plan.best s.piece s.low s.high u v (home s.low s.high u v)) (split_across K plan.best s.piece s.low s.high u v (home s.low s.high u v)) t)

    pub split_as_apart : (q : RoutePart) (ch : Child) → LiesAs s.low s.high q.from q.to (Apart ch) → TouchesSeam plan s q.from → TouchesSeam plan s q.to → (parts : Parts)
        → (EndsApart (record { areas = a; seam = s; child = ch; part = q }) plan → kept_all parts [] ≡ split_across K plan.best s.piece s.low s.high q.from q.to (is_first ch))
        → kept_all parts [] ≡ split_at K plan.best s.piece s.low s.high q.from q.to
    split_as_apart q ch (t, z) tu tv parts known =
        let u = q.from in
        let v = q.to in
        let apart = home_has_first s.low s.high u v t in
        known (record {
          seam = h;
          from_in = lies_touches (is_first ch) u tu (ap (λ (b : Bool). lies s.low s.high b u) (sym z) ∙ apart.0);
          to_in = lies_touches (not (is_first ch)) v tv (ap (λ (b : Bool). lies s.low s.high (not b) v) (sym z) ∙ apart.1);
        })
        ∙ ap (λ (b : Bool). split_across K plan.best s.piece s.low s.high u v b) (sym z)
        ∙ sym (cond-false (together s.low s.high u v) (split_together K plan.best s.piece s.low s.high u v (home s.low s.high u v)) (split_across K plan.best s.piece s.low s.high u v (home s.low s.high u v)) t)

-- two rates joined
module _ {M : Type 0} (K : Kind M) (X : Laws K) where
  two_joined : (a b r : M) (a' b' : M) → a ≡ a' → b ≡ b' → K.size a ≤ 2 * largest → K.size b ≤ largest → (K.size a + K.size b ≤ exact_size → r ≡ K.join a b) → r ≡ K.join a' b'
  two_joined a b r a' b' p q s t j = j (omega arith) ∙ ap (λ z. K.join z b) p ∙ ap (K.join a') q

  joined_size : (a b r : M) → r ≡ K.join a b → K.size a ≤ largest → K.size b ≤ largest → K.size r ≤ 2 * largest
  joined_size a b r z s t = omega (arith, ap K.size z, X.join_size a b)

-- the three ways, as the code makes them
module _ {V M : Type 0} (K : Kind M) (X : Laws K) {means : V → M} (p : SeamPart V) (plan : RatedPlan K means p.areas) where
  abbrev Known : RoutePart → V → Type 0
  Known q r = PartTouches plan (part_of q) → PartRate K plan.best (part_of q) (means r)

  pub within_is : BothInChild p plan → (only : RoutePart) (r : V) → only ≡ record { piece = child p.seam.piece (is_first p.child); from = p.part.from; to = p.part.to } → Known only r
      → Within p plan (record { parts = WithinParts only; rate = r })
  within_is h only r z known =
      let o = part_is K X plan p.seam h.seam only (is_first p.child) (is_first p.child) p.part.from p.part.from p.part.to p.part.to z refl refl refl in
      record {
        parts_are = ap (λ q. kept q []) o;
        rate_is = (rate_in K X plan p.seam h.seam only (is_first p.child) p.part.from p.part.to (means r) o h.from_in h.to_in known).is;
      }

  pub round_is : BothInChild p plan → (i i' c' : Bool) (near far : ℕ) (out across back : RoutePart) (a b d s : V) (w : V)
      → near ≡ seam_ends p.seam.low p.seam.high i → i' ≡ not i → far ≡ seam_ends p.seam.low p.seam.high i' → c' ≡ not (is_first p.child)
      → out ≡ record { piece = child p.seam.piece (is_first p.child); from = p.part.from; to = near }
      → across ≡ record { piece = child p.seam.piece c'; from = near; to = far }
      → back ≡ record { piece = child p.seam.piece (is_first p.child); from = far; to = p.part.to }
      → Known out a → Known across b → Known back d
      → (K.size (means a) + K.size (means b) ≤ exact_size → means s ≡ K.join (means a) (means b))
      → (K.size (means s) + K.size (means d) ≤ exact_size → means w ≡ K.join (means s) (means d))
      → Round p plan i (record { parts = RoundParts out across back; rate = w })
  round_is h i i' c' near far out across back a b d s w n_is i_is f_is c_is z y x ka kb kd js jw =
      let c = is_first p.child in
      let end = seam_ends p.seam.low p.seam.high in
      let far_is : far ≡ end (not i) = f_is ∙ ap end i_is in
      let o = part_is K X plan p.seam h.seam out c c p.part.from p.part.from (end i) near z refl refl n_is in
      let t = part_is K X plan p.seam h.seam across (not c) c' (end i) near (end (not i)) far y c_is n_is far_is in
      let l = part_is K X plan p.seam h.seam back c c (end (not i)) far p.part.to p.part.to x refl far_is refl in
      let touches = end_touches K X plan p.seam h.seam in
      let A = rate_in K X plan p.seam h.seam out c p.part.from (end i) (means a) o h.from_in (touches c i) ka in
      let B = rate_in K X plan p.seam h.seam across (not c) (end i) (end (not i)) (means b) t (touches (not c) i) (touches (not c) (not i)) kb in
      let D = rate_in K X plan p.seam h.seam back c (end (not i)) p.part.to (means d) l (touches c (not i)) h.to_in kd in
      let u = p.part.from in
      let v = p.part.to in
      let rate = child_rate K plan.best p.seam.piece p.seam.low p.seam.high u v in
      let part = child_part K plan.best p.seam.piece p.seam.low p.seam.high u v in
      let S = two_joined K X (means a) (means b) (means s) (rate c u (end i)) (rate (not c) (end i) (end (not i))) A.is B.is (omega (arith, A.small)) B.small js in
      record {
        parts_are = ap (λ q. kept q (kept (part_of across) (kept (part_of back) []))) o
            ∙ ap (λ q. kept (part c u (end i)) (kept q (kept (part_of back) []))) t
            ∙ ap (λ q. kept (part c u (end i)) (kept (part (not c) (end i) (end (not i))) (kept q []))) l;
        rate_is = two_joined K X (means s) (means d) (means w) (K.join (rate c u (end i)) (rate (not c) (end i) (end (not i)))) (rate c (end (not i)) v) S D.is
            (joined_size K X (means a) (means b) (means s) (js (omega (arith, A.small, B.small))) A.small B.small) D.small jw;
      }

  pub across_is : EndsApart p plan → (i c' : Bool) (at : ℕ) (first last : RoutePart) (a b w : V)
      → at ≡ seam_ends p.seam.low p.seam.high i → c' ≡ not (is_first p.child)
      → first ≡ record { piece = child p.seam.piece (is_first p.child); from = p.part.from; to = at }
      → last ≡ record { piece = child p.seam.piece c'; from = at; to = p.part.to }
      → Known first a → Known last b
      → (K.size (means a) + K.size (means b) ≤ exact_size → means w ≡ K.join (means a) (means b))
      → Across p plan i (record { parts = AcrossParts first last; rate = w })
  across_is h i c' at first last a b w at_is c_is z y ka kb jw =
      let c = is_first p.child in
      let end = seam_ends p.seam.low p.seam.high in
      let u = p.part.from in
      let v = p.part.to in
      let o = part_is K X plan p.seam h.seam first c c u u (end i) at z refl refl at_is in
      let l = part_is K X plan p.seam h.seam last (not c) c' (end i) at v v y c_is at_is refl in
      let touches = end_touches K X plan p.seam h.seam in
      let A = rate_in K X plan p.seam h.seam first c u (end i) (means a) o h.from_in (touches c i) ka in
      let B = rate_in K X plan p.seam h.seam last (not c) (end i) v (means b) l (touches (not c) i) h.to_in kb in
      let rate = child_rate K plan.best p.seam.piece p.seam.low p.seam.high u v in
      let part = child_part K plan.best p.seam.piece p.seam.low p.seam.high u v in
      record {
        parts_are = ap (λ q. kept q (kept (part_of last) [])) o ∙ ap (λ q. kept (part c u (end i)) (kept q [])) l;
        rate_is = two_joined K X (means a) (means b) (means w) (rate c u (end i)) (rate (not c) (end i) v) A.is B.is (omega (arith, A.small)) B.small jw;
      }

-- the better of two ways
module _ {V M : Type 0} (K : Kind M) (means : V → M) (first second : Way V) (p q : List Part) (r s : M) (f : IsWay means first p r) (g : IsWay means second q s) where
  chosen_by : (b : Bool) (w : Way V) → w ≡ cond b second first → IsWay means w (cond b q p) (cond b s r)
  chosen_by true w z = subst (λ x. IsWay means x q s) (sym z) g
  chosen_by false w z = subst (λ x. IsWay means x p r) (sym z) f

  chosen : (w : Way V) → w ≡ cond (K.better (means second.rate) (means first.rate)) second first → IsWay means w (cond (K.better s r) q p) (cond (K.better s r) s r)
  chosen w z =
      chosen_by (K.better s r) w
      (z ∙ ap (λ b. cond b second first) (ap (λ x. K.better x (means first.rate)) g.rate_is ∙ ap (K.better s) f.rate_is))

-- by one end of the seam or the other
by_end : {A : Type 0} (f : Bool → A) (b : Bool) → cond b (f false) (f true) ≡ f (not b)
by_end f true = refl
by_end f false = refl

module _ {V M : Type 0} (K : Kind M) {means : V → M} (p : SeamPart V) (plan : RatedPlan K means p.areas) where
  pub together_is : (low high round stay w : Way V) → Round p plan true low → Round p plan false high → Within p plan stay
      → round ≡ cond (K.better (means high.rate) (means low.rate)) high low → w ≡ cond (K.better (means round.rate) (means stay.rate)) round stay
      → kept_all w.parts [] ≡ split_together K plan.best p.seam.piece p.seam.low p.seam.high p.part.from p.part.to (is_first p.child)
  together_is low high round stay w l h s z y =
      let c = is_first p.child in
      let parts = round_parts K plan.best p.seam.piece p.seam.low p.seam.high p.part.from p.part.to c in
      let rate = round_rate K plan.best p.seam.piece p.seam.low p.seam.high p.part.from p.part.to c in
      let b = K.better (rate false) (rate true) in
      let r = chosen K means low high (parts true) (parts false) (rate true) (rate false) l h round z in
      let r' : IsWay means round (parts (not b)) (rate (not b)) = record { parts_are = r.parts_are ∙ by_end parts b; rate_is = r.rate_is ∙ by_end rate b } in
      (chosen K means stay round (kept (child_part K plan.best p.seam.piece p.seam.low p.seam.high p.part.from p.part.to c p.part.from p.part.to) []) (parts (not b))
      (child_rate K plan.best p.seam.piece p.seam.low p.seam.high p.part.from p.part.to c p.part.from p.part.to) (rate (not b)) s r' w y).parts_are

  pub apart_is : (low high w : Way V) → Across p plan true low → Across p plan false high → w ≡ cond (K.better (means high.rate) (means low.rate)) high low
      → kept_all w.parts [] ≡ split_across K plan.best p.seam.piece p.seam.low p.seam.high p.part.from p.part.to (is_first p.child)
  apart_is low high w l h z =
      let c = is_first p.child in
      let parts = across_parts K plan.best p.seam.piece p.seam.low p.seam.high p.part.from p.part.to c in
      let rate = across_rate K plan.best p.seam.piece p.seam.low p.seam.high p.part.from p.part.to c in
      let r = chosen K means low high (parts true) (parts false) (rate true) (rate false) l h w z in
      r.parts_are ∙ by_end parts (K.better (rate false) (rate true))
