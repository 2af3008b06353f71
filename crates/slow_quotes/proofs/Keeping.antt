-- What keeps a network's area and table in order: setting lanes, and filling the table of a network without lanes.
-- Assumes the laws of the kind.
use Rattle.std.proofs.Common.{◌≡◌, ℕ, ◌+◌, ◌*◌, ◌<◌, Bool, true, false, ◌&&◌, ltb, List, [], map, length, take, ◌++◌, Ok, Err, Result, sym, refl, ap, ◌∙◌, subst, inl, inr, ⊎_elim, arith}
use Rattle.std.specs.Result.{MatchResult, IsErrAnd}
use Rattle.std.proofs.lemmas.Bool.{cases_Bool, both_ways, cond-true, cond-false}
use Rattle.std.proofs.Math.Seq.{take-append_seam}
use Rattle.std.proofs.lemmas.List.{length-map, get_or_past, nil_from_length}
use Rattle.rates.specs.Kinds.{Kind, Laws}
use Rattle.trips.specs.Trips.{LaneMap, Trip, lanes, Earning, NoEarning, changed}
use Rattle.trips.specs.Trips.Trip.{stay, go}
use Rattle.trips.proofs.Walks.{no_earning_fewer}
use Rattle.slow.specs.Areas.{Few, InArea, PairRefused, at, entry, lane_map, LaneArea, Settled, AreasRefused, Tested, LaneSet}
use Rattle.slow.specs.declared.refusal.Refusal.{Refusal}
use Rattle.slow.specs.declared.refusal.Refusal.TheVariants.{NoTerminals, TooManyTerminals, WrongLength, NoRate, NoTerminal, NoLaneRate}
use Rattle.slow_quotes.specs.declared.fault.Fault.{Fault}
use Rattle.slow_quotes.specs.declared.fault.Fault.TheVariants.{Refused}
use Rattle.slow_quotes.specs.Networks.{CountFault, LaneChanged, shown, Filled, InOrder, EmptyArea}

-- a list that is written back into a vector of its length
pub written_back : {A : Type 0} (n : ℕ) (new rest : List A) → length new ≡ n → take n (new ++ rest) ≡ new
written_back n new rest e = ap (λ k. take k (new ++ rest)) (sym e) ∙ take-append_seam new rest

-- a refusal that is handed on as a fault
pub handed_on : {T : Type 0} (r : Result T Fault) (why : Refusal) (P : T → Type 0) (Q : Fault → Type 0) → IsErrAnd r (λ fault. fault ≡ Refused why) → Q (Refused why) → MatchResult r P Q
handed_on (Ok x) why P Q a q = absurd a
handed_on (Err fault) why P Q a q = subst Q (sym a) q

-- a refusal of two terminals is one of the network, where the area has its length
pub pair_refused : (n places from to : ℕ) → (Few n → places ≡ n * n) → (why : Refusal) → PairRefused n places from to why → PairRefused n (n * n) from to why
pair_refused n places from to e NoTerminals h = h
pair_refused n places from to e TooManyTerminals h = h
pair_refused n places from to e WrongLength h = absurd (h.1 (e h.0))
pair_refused n places from to e (NoRate k) h = absurd h
pair_refused n places from to e NoTerminal h = (h.0, refl, h.2)
pair_refused n places from to e NoLaneRate h = absurd h

pub pair_within : (n places from to : ℕ) → InArea n places from to → InArea n (n * n) from to
pair_within n places from to h = record { few = h.few; square = refl; from_below = h.from_below; to_below = h.to_below }

-- two terminals in the area are not refused
pub pair_not_refused : (n places from to : ℕ) → InArea n places from to → (why : Refusal) → PairRefused n places from to why → ⊥
pair_not_refused n places from to i NoTerminals h = omega (arith, i.few.some)
pair_not_refused n places from to i TooManyTerminals h = omega (arith, i.few.not_too_many)
pair_not_refused n places from to i WrongLength h = h.1 i.square
pair_not_refused n places from to i (NoRate k) h = h
pair_not_refused n places from to i NoTerminal h = ⊎_elim (λ z. omega (arith, i.from_below)) (λ z. omega (arith, i.to_below)) h.2
pair_not_refused n places from to i NoLaneRate h = h

module _ {M : Type 0} (K : Kind M) where
  -- an area of lanes is not refused
  pub areas_not_refused : (n : ℕ) (area : List M) (places : ℕ) → LaneArea K n area → places ≡ n * n → (why : Refusal) → AreasRefused K n area places why → ⊥
  areas_not_refused n area places a e NoTerminals h = omega (arith, a.few.some)
  areas_not_refused n area places a e TooManyTerminals h = omega (arith, a.few.not_too_many)
  areas_not_refused n area places a e WrongLength h = h.1 (a.square, e)
  areas_not_refused n area places a e (NoRate k) h = h.3.no_rate (a.lanes k (omega (arith, h.3.within, a.square)))
  areas_not_refused n area places a e NoTerminal h = h
  areas_not_refused n area places a e NoLaneRate h = h

  pub filled_from : {n : ℕ} {area table : List M} → InOrder K n area table → Few n → Filled K n area table
  filled_from h few = ⊎_elim (λ f. f) (λ e. absurd (e.0 few)) h.either

  some_lane_none : {m : LaneMap M} → ((u v : ℕ) → m u v ≡ K.none) → {u v : ℕ} (t : Trip K m u v) → 0 < lanes K t → ⊥
  unfolding lanes
  some_lane_none e stay l = omega arith
  some_lane_none e {u} (go w s t) l = s (e u w)

  -- no closed trip earns where no lane stands
  pub no_lanes_earn_not : {m : LaneMap M} → ((u v : ℕ) → m u v ≡ K.none) → NoEarning K m
  no_lanes_earn_not e h = some_lane_none e h.trip h.some_lane

  -- an area that holds none shows no lane
  none_shown : (n : ℕ) (area : List M) → ((k : ℕ) → at K area k ≡ K.none) → (u v : ℕ) → lane_map K n area u v ≡ K.none
  none_shown n area e u v =
      ⊎_elim
      (λ z. cond-true (ltb u n && ltb v n) (entry K n area u v) K.none z ∙ e (n * u + v))
      (λ z. cond-false (ltb u n && ltb v n) (entry K n area u v) K.none z)
      (cases_Bool (ltb u n && ltb v n))

  pub none_held : (k : ℕ) → at K [] k ≡ K.none
  none_held k = get_or_past [] k K.none (omega arith)

  -- in a network that is held in order no closed trip earns
  pub in_order_earns_not : (n : ℕ) (area table : List M) → InOrder K n area table → NoEarning K (lane_map K n area)
  in_order_earns_not n area table h =
      ⊎_elim
      (λ f. f.none_earns)
      (λ e. subst (λ list. NoEarning K (lane_map K n list)) (sym e.1) (no_lanes_earn_not (none_shown n [] none_held)))
      h.either

  -- why the table of a network without lanes is not filled
  pub count_fault : (n : ℕ) (area table : List M) → EmptyArea K n area → EmptyArea K n table → (why : Refusal) → AreasRefused K n area (length table) why → CountFault n (Refused why)
  count_fault n area table a t NoTerminals h = inl (h, refl)
  count_fault n area table a t TooManyTerminals h = inr (h, refl)
  count_fault n area table a t WrongLength h = absurd (h.1 (a.square h.0.not_too_many, t.square h.0.not_too_many))
  count_fault n area table a t (NoRate k) h = absurd (h.3.no_rate (inl (a.holds_none k)))
  count_fault n area table a t NoTerminal h = absurd h
  count_fault n area table a t NoLaneRate h = absurd h

  emptied : (n : ℕ) (area : List M) → EmptyArea K n area → (fault : Fault) → CountFault n fault → area ≡ []
  emptied n area a fault (inl z) = nil_from_length area (a.square (omega (arith, z.0)) ∙ ap (λ x. x * x) z.0)
  emptied n area a fault (inr z) = a.empty z.0

  pub empty_in_order : (n : ℕ) (area table : List M) → EmptyArea K n area → EmptyArea K n table → (fault : Fault) → CountFault n fault → InOrder K n area table
  empty_in_order n area table a t fault z = record {
    either = inr (
      λ few. ⊎_elim (λ y. omega (arith, y.0, few.some)) (λ y. omega (arith, y.0, few.not_too_many)) z,
      emptied n area a fault z,
      emptied n table t fault z,
    );
  }

  module _ (X : Laws K) {V : Type 0} (means : V → M) (n : ℕ) where
    -- the table of a network without lanes, filled
    pub filled_empty : (area : List M) (before after : List V) (earns : Bool) → EmptyArea K n area → length before ≡ n * n → length after ≡ length before → Settled K n area (map means after) earns → Filled K n area (map means after)
    filled_empty area before after earns a e l s = record {
      shows = s.area_shows;
      places = length-map after means ∙ l ∙ e;
      none_earns = no_lanes_earn_not (none_shown n area a.holds_none);
      best = s.best (no_lanes_earn_not (none_shown n area a.holds_none));
    }

    module _ (lanes table : List V) (h : InOrder K n (map means lanes) (map means table)) where
      pub table_places : Few n → length table ≡ n * n
      table_places few = sym (length-map table means) ∙ (filled_from h few).places

      pub lane_places : Few n → length lanes ≡ n * n
      lane_places few = sym (length-map lanes means) ∙ (filled_from h few).shows.square

      -- after a lane was set and the table filled
      pub set_in_order : (lanes' table' : List V) (from to : ℕ) (rate : M) (earns : Bool) → NoEarning K (changed K (lane_map K n (map means lanes)) from to rate) → LaneSet K means n lanes lanes' from to rate → length table' ≡ length table → Settled K n (map means lanes') (map means table') earns → InOrder K n (map means lanes') (map means table')
      set_in_order lanes' table' from to rate earns ne s l settled =
          let none : NoEarning K (lane_map K n (map means lanes')) = no_earning_fewer K X (λ u v _. s.shows u v) ne in
          record {
            either = inl (record {
              shows = s.stays (filled_from h s.in_area.few).shows;
              places = length-map table' means ∙ l ∙ table_places s.in_area.few;
              none_earns = none;
              best = settled.best none;
            });
          }

      pub lane_changed : (lanes' : List V) (from to : ℕ) (rate : M) → LaneSet K means n lanes lanes' from to rate → LaneChanged K (shown K n (map means lanes)) from to rate (shown K n (map means lanes'))
      lane_changed lanes' from to rate s = record { terminals_same = refl; lanes_are = s.shows }

      -- the table is filled after a lane was set
      pub set_not_refused : (lanes' : List V) (from to : ℕ) (rate : M) → LaneSet K means n lanes lanes' from to rate → (why : Refusal) → AreasRefused K n (map means lanes') (length table) why → ⊥
      set_not_refused lanes' from to rate s why =
          areas_not_refused n (map means lanes') (length table) (s.stays (filled_from h s.in_area.few).shows) (table_places s.in_area.few) why

      -- what the test of a lane rate tells
      pub tested_is : (from to : ℕ) (rate : M) (earns : Bool) → InArea n (length table) from to → Tested K n (map means table) from to rate earns → (earns ≡ true → Earning K (changed K (lane_map K n (map means lanes)) from to rate)) × (earns ≡ false → NoEarning K (changed K (lane_map K n (map means lanes)) from to rate))
      tested_is from to rate earns i t =
          let f = filled_from h i.few in
          let d = t (map means lanes) f.shows f.none_earns f.best in
          (d.0, λ z e. both_ways earns z (d.1 e))
