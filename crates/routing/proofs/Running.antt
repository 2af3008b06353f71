-- The turns of the loop and its two ends, on plain values.
-- Assumes the laws and a plan in order.
use Rattle.std.proofs.Common.{◌≡◌, ℕ, zero, suc, ◌+◌, ◌-◌, ◌*◌, ◌<◌, ◌≤◌, min, eqb, IsOk, Result, ◌⊎◌, List, [], ◌∷◌, ◌++◌, length, get_or, take, map, sym, refl, ap, ◌∙◌, subst, ⊎_elim, arith}
use Rattle.std.proofs.lemmas.Bool.{cases_eq, cond-true, cond-false, eq-eqb, ne_eqb}
use Rattle.rates.specs.Kinds.{Kind, Laws}
use Rattle.trips.specs.Trips.{LaneMap, BestRate}
use Rattle.trips.proofs.Shown.{best_rate_unique}
use Rattle.ring.specs.declared.Side.{Side}
use Rattle.records.specs.declared.Piece.{Piece}
use Rattle.pieces.specs.Sides.{Ends, ends_of, no_side}
use Rattle.pieces.specs.Holding.{piece_at}
use Rattle.piece_rates.specs.Leaves.{leaf_lanes, LanesWithin, LeafStands}
use Rattle.piece_rates.specs.Changes.{InOrder}
use Rattle.piece_rates.specs.Touching.{Touches}
use Rattle.piece_rates.proofs.Leaves.{leaf_lanes_held}
use Rattle.piece_rates.proofs.Touching.{all_touch_whole, whole_lanes}
use Rattle.unfolding.specs.Parts.{Part, kept, split, split_at, leaf_stops, triangle_stops}
use Rattle.unfolding.specs.Splitting.{Leaf, Cut, Rated, PartStands}
use Rattle.unfolding.specs.Turns.{PartsUnfold, FewParts}
use Rattle.unfolding.specs.Turns.Unfolds.{done}
use Rattle.unfolding.proofs.LeafStops.{best_within_exists}
use Rattle.unfolding.proofs.Turns.{parts_unfold, few_parts}
use Rattle.unfolding.proofs.Splits.{closed_is_still, split_keeps_the_rate}
use Rattle.sheets.specs.Triangles.{triangle_lanes, IsTriangleOn}
use Rattle.sheets.proofs.Leaves.{read_as}
use Rattle.quoting.specs.declared.areas.Areas.{Areas}
use Rattle.quoting.specs.Areas.{PlanInOrder}
use Rattle.sheets.specs.declared.leaf.Triangle.{Triangle}
use Rattle.stack.specs.declared.Stack.{Stack}
use Rattle.stack.specs.Moves.{TakenOff}
use Rattle.stops.specs.declared.Stops.{Stops}
use Rattle.stops.specs.Passing.{Passed}
use Rattle.routing.specs.declared.waiting.RoutePart.{RoutePart}
use Rattle.routing.specs.declared.waiting.Parts.{Parts}
use Rattle.routing.specs.Waiting.{part_of, waiting, parts_on, room_on, kept_all, Put, AllPut}
use Rattle.routing.specs.Splits.{AtSeam, RatedPlan}
use Rattle.routing.specs.Passes.{AllPassed, PassedAll, stops_within}
use Rattle.routing.specs.Turns.{OnTheWay, UnderWay, TripWritten, TripUnderWay}
use Rattle.routing.proofs.Putting.{taken_off}
use Rattle.routing.proofs.OnTheWay.{pass_next, arrived, setting_out}
use Rattle.routing.proofs.Turning.{kept_all_append, cut_turn, leaf_turn, last_turn, turn_left, few_wait}

length_waiting : (k : ℕ) (items : List RoutePart) → length (waiting k items) ≡ k
length_waiting zero items = refl
length_waiting (suc k) items = ap suc (length_waiting k items)

module _ {M : Type 0} (K : Kind M) (X : Laws K) (n : ℕ) (m : LaneMap M) (sides : List Side) (ps : List Piece) (area sheets : List M) where
  abbrev e : Ends
  e = ends_of sides

  module _ (o : InOrder K n m sides ps area sheets) where
    -- several stops passed
    pass_all : (s t : ℕ) (r : M) → s < n → (ws rest places : List ℕ) (count count' : ℕ) (places' : List ℕ) → AllPassed places count ws count' places'
        → OnTheWay K n m s t r (ws ++ rest) places count → OnTheWay K n m s t r rest places' count'
    pass_all s t r below [] rest places count count' places' p h =
        subst (λ k. OnTheWay K n m s t r rest places' k) (sym p.0) (subst (λ l. OnTheWay K n m s t r rest l count) (sym p.1) h)
    pass_all s t r below (w ∷ ws) rest places count count' places' p h =
        pass_all s t r below ws rest p.0 p.1 count' places' p.4
        (pass_next K X n m o.stands.lanes.over o.stands.lanes.no_earning s t r w (ws ++ rest) places count below h p.1 p.0 p.2 p.3)

    leaf_stands : (p : ℕ) → p + 5 < 2 * n → Leaf n e ps p → LeafStands K n e m (piece_at ps p) area
    leaf_stands p r l = record {
      lanes = o.stands.lanes;
      filled = o.stands.filled;
      uncut = l;
      top_in_range = (o.stands.division.stands p r).top_in_range;
      shown = o.stands.shown;
    }

    is_leaf : (p : ℕ) → p + 5 < 2 * n → (piece_at ps p).first ≡ 0 → Leaf n e ps p
    is_leaf p r z = ⊎_elim (λ l. l) (λ c. absurd (omega (arith, c.first_number))) (o.stands.division.stands p r).cut

    is_cut : (p : ℕ) → p + 5 < 2 * n → ((piece_at ps p).first ≡ 0 → ⊥) → Cut n e ps p
    is_cut p r z = ⊎_elim (λ l. absurd (z l.no_first)) (λ c. c) (o.stands.division.stands p r).cut

  module _ (best : ℕ → ℕ → ℕ → M) (rated : Rated K n m sides ps area sheets best) (s t : ℕ) (r : M) (below : s < n) where
    abbrev Way : ℕ → List Part → List ℕ → ℕ → Type 0
    Way left parts places count = UnderWay K n m e ps area best s t r left parts places count

    -- a turn at a triangle
    pub triangle_turn : {V : Type 0} (means : V → M) (q : Part) (parts : List Part) (left : ℕ) (stops : Stops) (P : Piece) → P ≡ piece_at ps q.piece → P.first ≡ 0
        → (triangle : Triangle V) → IsTriangleOn K means e P.top area triangle
        → (stops' : Stops) → (LanesWithin K (triangle_lanes K means triangle) → PassedAll stops (stops_within K means triangle q.from q.to) stops')
        → Way (left + 1) (q ∷ parts) stops.places.now stops.count → Way left parts stops'.places.now stops'.count
    triangle_turn means q parts left stops P is z triangle read stops' passed h =
        let stands = h.parts_stand.0 in
        let l = is_leaf rated.in_order q.piece stands.in_range (ap (λ Q. Q.first) (sym is) ∙ z) in
        let turn = leaf_turn K n e ps area best m s t r q parts left stops.places.now stops.count l h in
        let within = (leaf_lanes_held K X n e m (piece_at ps q.piece) area (leaf_stands rated.in_order q.piece stands.in_range l)).1 in
        let move = read_as K e P.top area triangle.low triangle.third triangle.high (means triangle.left.up) (means triangle.left.down)
        (means triangle.right.up) (means triangle.right.down) (means triangle.base.up) (means triangle.base.down) read
        (λ a b c lanes. (LanesWithin K lanes → AllPassed stops.places.now stops.count (triangle_stops K lanes a b c q.from q.to) stops'.count stops'.places.now)
        → LanesWithin K (leaf_lanes K e P.top area)
        → AllPassed stops.places.now stops.count (triangle_stops K (leaf_lanes K e P.top area) (e.low P.top) (e.high (P.top + 1)) (e.high P.top) q.from q.to) stops'.count stops'.places.now)
        (λ f w. f w) passed in
        let all = subst
        (λ Q. LanesWithin K (leaf_lanes K e Q.top area)
        → AllPassed stops.places.now stops.count (triangle_stops K (leaf_lanes K e Q.top area) (e.low Q.top) (e.high (Q.top + 1)) (e.high Q.top) q.from q.to) stops'.count stops'.places.now)
        is move within in
        turn.2 stops'.places.now stops'.count
        (pass_all rated.in_order s t r below (leaf_stops K e ps area q) turn.0 stops.places.now stops.count stops'.count stops'.places.now all turn.1)

    -- a turn at a seam
    pub seam_turn : {F : Type 0} (p : RoutePart) (list : Stack RoutePart) (left : ℕ) (places : List ℕ) (count : ℕ) (P : Piece) (side : Side) → P ≡ piece_at ps p.piece → (P.first ≡ 0 → ⊥)
        → side ≡ get_or sides P.seam no_side → 84 ≤ room_on list → (parts : Parts)
        → (AtSeam K n m sides ps area sheets best P side.low side.high → Touches n e P p.from → Touches n e P p.to → kept_all parts [] ≡ split_at K best P side.low side.high p.from p.to)
        → (answer : Result Unit F) (list' : Stack RoutePart) → AllPut answer list parts list'
        → Way (left + 1) (part_of p ∷ parts_on list) places count → IsOk answer × Way left (parts_on list') places count
    seam_turn p list left places count P side is z side_is room parts known answer list' put h =
        let q = part_of p in
        let stands = h.parts_stand.0 in
        let c = is_cut rated.in_order p.piece stands.in_range (λ w. z (ap (λ Q. Q.first) is ∙ w)) in
        let at : AtSeam K n m sides ps area sheets best P side.low side.high = record {
          rated = rated;
          number = p.piece;
          in_range = stands.in_range;
          record_is = is;
          cut = c;
          low_is = ap (λ x. x.low) side_is;
          high_is = ap (λ x. x.high) side_is;
        } in
        let split_is : kept_all parts [] ≡ split K best e ps q =
        known at (subst (λ Q. Touches n e Q p.from) (sym is) stands.from_touches) (subst (λ Q. Touches n e Q p.to) (sym is) stands.to_touches)
        ∙ ap (λ x. split_at K best P x.low x.high p.from p.to) side_is
        ∙ ap (λ Q. split_at K best Q (e.low Q.seam) (e.high Q.seam) p.from p.to) is in
        let few = few_wait K n e ps area best m s t r q (parts_on list) (left + 1) places count (rated.in_order.stands.division.stands p.piece stands.in_range).not_deeper h in
        let enough : list.len + 3 ≤ room_on list = omega (arith, few, length_waiting list.len list.items.now) in (
          put.answer enough,
          subst (λ l. Way left l places count) (sym (put.wait enough ∙ sym (kept_all_append parts (parts_on list)) ∙ ap (λ l. l ++ parts_on list) split_is))
              (cut_turn K n e ps area best m s t r q (parts_on list) left places count c (split_keeps_the_rate K X n m sides ps area sheets best rated q stands c) h),
        )

    -- the end: nothing waits, or no turn is left
    pub none_left : (parts : List Part) (places : List ℕ) (count : ℕ) → Way 0 parts places count → OnTheWay K n m s t r [] places count
    none_left [] places count h = last_turn K n e ps area best m s t r 0 places count h
    none_left (q ∷ parts) places count h =
        absurd (turn_left K n e ps area best m s t r q parts places count h (rated.in_order.stands.division.stands q.piece h.parts_stand.0.in_range).cut)

  -- the beginning: the part of the whole plan waits
  module _ (o : InOrder K n m sides ps area sheets) (unfolds : PartsUnfold K) (few : FewParts K) (best : ℕ → ℕ → ℕ → M) (rated : Rated K n m sides ps area sheets best)
      (s t : ℕ) (r : M) (s_below : s < n) (t_below : t < n) (b : BestRate K m s t r) (some : r ≡ K.none → ⊥) where
    abbrev whole : Part
    whole = record { piece = 0; from = s; to = t }

    range : 0 + 5 < 2 * n
    range = omega (arith, o.stands.filled.least)

    touches : (u : ℕ) → u < n → Touches n e (piece_at ps 0) u
    touches u l = all_touch_whole n e o.stands.filled ps o.stands.division u l

    best_is : best 0 s t ≡ r
    best_is =
        best_rate_unique K X m s t (best 0 s t) r
        (subst (λ l. BestRate K l s t (best 0 s t)) (whole_lanes n e o.stands.filled ps o.stands.division K X m area o.stands.shown) (rated.best_within 0 range s t (touches s s_below) (touches t t_below)))
        b

    pub begun : (places : List ℕ) → n ≤ length places → take 1 places ≡ s ∷ [] → UnderWay K n m e ps area best s t r (5 * (2 * n - 5)) (kept whole []) places 1
    begun places long first =
        ⊎_elim
        (λ z. subst (λ l. UnderWay K n m e ps area best s t r (5 * (2 * n - 5)) l places 1) (sym (cond-true (eqb s t) [] (whole ∷ []) (eq-eqb s t z)))
        (record {
          to_come = [];
          turns = 0;
          unfolds = done;
          enough = omega arith;
          parts_stand = tt;
          few_behind = tt;
          on_the_way = setting_out K X n m o.stands.lanes.over o.stands.lanes.no_earning s t r [] places long (omega (arith, s_below)) first tt z (sym (closed_is_still K X m o.stands.lanes.no_earning s t r b z));
        }))
        (λ d.
        let stands : PartStands K n e ps best whole = record {
          in_range = range;
          from_touches = touches s s_below;
          to_touches = touches t t_below;
          ends_differ = d;
          some_trip = λ z. some (sym best_is ∙ z);
        } in
        let u = unfolds n m sides ps area sheets best rated whole stands in
        subst (λ l. UnderWay K n m e ps area best s t r (5 * (2 * n - 5)) l places 1) (sym (cond-false (eqb s t) [] (whole ∷ []) (ne_eqb s t d)))
        (record {
          to_come = u.stops;
          turns = u.turns;
          unfolds = u.unfolds;
          enough = few n m sides ps area sheets best rated whole stands u.stops u.turns u.unfolds;
          parts_stand = (stands, tt);
          few_behind = (omega arith, tt);
          on_the_way = setting_out K X n m o.stands.lanes.over o.stands.lanes.no_earning s t r u.stops places long (omega (arith, s_below)) first
              u.in_book.linked u.in_book.ends_there (u.in_book.rate_is ∙ best_is);
        }))
        (cases_eq s t)

    -- the same of the areas as the code leaves them before the first turn
    pub set_out : {F : Type 0} (most : ℕ) → most ≡ 5 * (2 * min n 4096 - 5) → (stops stops' : Stops) → stops.count ≡ 0 → n ≤ length stops.places.now
        → length stops'.places.now ≡ length stops.places.now → Passed stops.places.now stops.count s stops'.count stops'.places.now
        → (list : Stack RoutePart) (p : RoutePart) → list.len ≡ 0 → part_of p ≡ whole → 84 ≤ room_on list
        → (answer : Result Unit F) (list' : Stack RoutePart) → Put answer list p list'
        → UnderWay K n m e ps area best s t r most (parts_on list') stops'.places.now stops'.count
    set_out most is stops stops' empty long same_length passed list p none p_is room answer list' put =
        let places' = stops'.places.now in
        let first = subst (λ z. Passed stops.places.now z s stops'.count places') empty passed in
        let w = first.room_for_it (omega (arith, s_below)) in
        let one : stops'.count ≡ 1 = w.1 in
        let waits : parts_on list' ≡ kept whole [] =
        put.waits (omega arith) ∙ ap (λ j. kept (part_of p) (waiting j list.items.now)) none ∙ ap (λ q. kept q []) p_is in
        let turns : 5 * (2 * n - 5) ≡ most = omega (arith, o.stands.filled.most) in
        subst (λ j. UnderWay K n m e ps area best s t r j (parts_on list') places' stops'.count) turns
        (subst (λ l. UnderWay K n m e ps area best s t r (5 * (2 * n - 5)) l places' stops'.count) (sym waits)
        (subst (λ j. UnderWay K n m e ps area best s t r (5 * (2 * n - 5)) (kept whole []) places' j) (sym one)
        (begun places' (omega arith) (subst (λ j. take j places' ≡ s ∷ []) one w.0))))

    -- at the end nothing waits, or no turn is left: the trip is written
    pub come_to_end : (left : ℕ) (parts : List Part) (places : List ℕ) (count : ℕ) → (parts ≡ []) ⊎ (left ≡ 0) → UnderWay K n m e ps area best s t r left parts places count → TripWritten K m s t r places count
    come_to_end left parts places count end h =
        arrived K X n m o.stands.lanes.over o.stands.lanes.no_earning s t r places count
        (⊎_elim
        (λ z. last_turn K n e ps area best m s t r left places count (subst (λ l. UnderWay K n m e ps area best s t r left l places count) z h))
        (λ z. none_left best rated s t r s_below parts places count (subst (λ j. UnderWay K n m e ps area best s t r j parts places count) z h))
        end)
        b

-- the same of a plan in the areas that hold it
module _ {V M : Type 0} (K : Kind M) (X : Laws K) (means : V → M) (a : Areas V) (n : ℕ) (m : LaneMap M) (o : PlanInOrder K means a n m) where
  abbrev pub rated_plan : RatedPlan K means a
  rated_plan =
      let found = best_within_exists K X n m a.records.sides.now a.records.pieces.now (map means a.lanes.now) (map means a.sheets.now) o in
      record { n = n; lanes = m; best = found.0; rated = record { in_order = o; best_within = found.1 } }

  module _ (s t : ℕ) (r : M) (s_below : s < n) (t_below : t < n) (b : BestRate K m s t r) (some : r ≡ K.none → ⊥) where
    -- once s is passed and the part of the whole plan is put on the list, the trip is under way
    pub started : {F : Type 0} (most : ℕ) → most ≡ 5 * (2 * min a.n 4096 - 5) → a.n ≡ n → (places : List ℕ) (stops stops' : Stops)
        → stops.count ≡ min 0 (length places) → stops.places.now ≡ places → n ≤ length places
        → length stops'.places.now ≡ length stops.places.now → Passed stops.places.now stops.count s stops'.count stops'.places.now
        → (items : List RoutePart) (list : Stack RoutePart) → list.len ≡ 0 → list.items.now ≡ items → 84 ≤ length items
        → (answer : Result Unit F) (list' : Stack RoutePart) → Put answer list (record { piece = 0; from = s; to = t }) list'
        → (84 ≤ room_on list') × TripUnderWay rated_plan s t r most (parts_on list') stops'
    started most is all places stops stops' count_is same long same_room passed items list empty items_are room answer list' put =
        let roomy : 84 ≤ room_on list = omega (arith, ap length items_are) in (
          omega (arith, put.same_room),
          set_out K X n m a.records.sides.now a.records.pieces.now (map means a.lanes.now) (map means a.sheets.now) o (parts_unfold K X) (few_parts K X) rated_plan.best rated_plan.rated
              s t r s_below t_below b some most (is ∙ ap (λ (k : ℕ). 5 * (2 * min k 4096 - 5)) all) stops stops' (omega arith) (omega (arith, ap length same)) same_room passed
              list (record { piece = 0; from = s; to = t }) empty refl roomy answer list' put,
        )

    pub finished : (left : ℕ) (parts : List Part) (stops : Stops) → (parts ≡ []) ⊎ (left ≡ 0) → TripUnderWay rated_plan s t r left parts stops
        → TripWritten K m s t r stops.places.now stops.count
    finished left parts stops end h =
        come_to_end K X n m a.records.sides.now a.records.pieces.now (map means a.lanes.now) (map means a.sheets.now) o (parts_unfold K X) (few_parts K X) rated_plan.best rated_plan.rated
        s t r s_below t_below b some left parts stops.places.now stops.count end h

-- a trip that is written, by equal places and an equal count
pub written_there : {M : Type 0} (K : Kind M) (m : LaneMap M) (s t : ℕ) (r : M) (xs ys : List ℕ) (j k : ℕ) → xs ≡ ys → j ≡ k → TripWritten K m s t r xs j → TripWritten K m s t r ys k
written_there K m s t r xs ys j k p q w = subst (λ l. TripWritten K m s t r l k) p (subst (TripWritten K m s t r xs) q w)

-- the next part is taken off the list, and a turn is left for it
pub next_part : {V M : Type 0} {K : Kind M} {means : V → M} {a : Areas V} (plan : RatedPlan K means a) (s t : ℕ) (r : M) (end k : ℕ) → k < end
    → (list : Stack RoutePart) (part : RoutePart) (rest : Stack RoutePart) (stops : Stops) → TakenOff list.len list.items.now part rest.len rest.items.now
    → TripUnderWay plan s t r (end - k) (parts_on list) stops → TripUnderWay plan s t r (end - (k + 1) + 1) (part_of part ∷ parts_on rest) stops
next_part plan s t r end k below list part rest stops w h =
    let one : end - k ≡ end - (k + 1) + 1 = omega arith in
    subst (λ l. TripUnderWay plan s t r (end - (k + 1) + 1) l stops) (taken_off list part rest w)
    (subst (λ (j : ℕ). TripUnderWay plan s t r j (parts_on list) stops) one h)
