-- The networks that orders make: what an order is answered with, and the network after it.
-- Assumes nothing; the kind of rate is any.
use Rattle.std.specs.Prelude.{◌≡◌, ℕ, ◌*◌, ◌<◌, ◌≤◌, true, false, ◌⊎◌, ◌≢◌, List, [], map, length, Some, None, Ok, Err, Option, Result, MatchResult}
use Rattle.rates.specs.Kinds.{Kind}
use Rattle.trips.specs.Trips.{LaneMap, Earning, NoEarning, BestRate, changed}
use Rattle.slow.specs.Areas.{most_terminals, Few, InArea, PairRefused, at, lane_map, LaneArea, BestTable}
use Rattle.slow.specs.declared.best.Ends.{Ends}
use Rattle.slow.specs.declared.refusal.Refusal.TheVariants.{NoTerminals, TooManyTerminals, NoLaneRate}
use Rattle.slow_quotes.specs.declared.order.Order.{Order}
use Rattle.slow_quotes.specs.declared.order.Order.TheVariants.{Terminals, Lane, Shut, Quote}
use Rattle.slow_quotes.specs.declared.fault.Fault.{Fault}
use Rattle.slow_quotes.specs.declared.fault.Fault.TheVariants.{NoKind, NoOrder, SameTerminal, WouldEarn, Refused}
use Rattle.slow_quotes.specs.declared.held.Quotation.{Quotation}

-- a network: how many terminals it has, and its lanes
pub record Network (M : Type 0) : Type 0 where
  pub terminals : ℕ
  pub lanes : LaneMap M

-- two terminals of a network of few terminals
abbrev pub Within : {M : Type 0} → Network M → ℕ → ℕ → Type 0
Within net from to = InArea net.terminals (net.terminals * net.terminals) from to

-- why a network has no such two terminals
abbrev pub PairFault : {M : Type 0} → Network M → ℕ → ℕ → Fault → Type 0
PairFault net from to (Refused why) = PairRefused net.terminals (net.terminals * net.terminals) from to why
PairFault net from to NoKind = ⊥
PairFault net from to NoOrder = ⊥
PairFault net from to SameTerminal = ⊥
PairFault net from to WouldEarn = ⊥

-- why there is no network of so many terminals
abbrev pub CountFault : ℕ → Fault → Type 0
CountFault n fault = ((n ≡ 0) × (fault ≡ Refused NoTerminals)) ⊎ ((most_terminals < n) × (fault ≡ Refused TooManyTerminals))

module _ {M : Type 0} (K : Kind M) where
  -- a network of n terminals, no lane of which stands
  pub record WithoutLanes (n : ℕ) (net : Network M) : Type 0 where
    pub terminals_are : net.terminals ≡ n
    pub none_stands : (u v : ℕ) → net.lanes u v ≡ K.none

  -- the network after one lane was given a rate, or none
  pub record LaneChanged (before : Network M) (from to : ℕ) (rate : M) (after : Network M) : Type 0 where
    pub terminals_same : after.terminals ≡ before.terminals
    pub lanes_are : (u v : ℕ) → after.lanes u v ≡ changed K before.lanes from to rate u v

  -- Why a lane is not given a rate: the first that holds of these.
  abbrev pub LaneFault : Network M → ℕ → ℕ → M → Fault → Type 0
  LaneFault net from to rate SameTerminal = from ≡ to
  LaneFault net from to rate (Refused why) =
      (from ≢ to)
      × (PairRefused net.terminals (net.terminals * net.terminals) from to why
      ⊎ ((why ≡ NoLaneRate) × Within net from to × (K.lane rate ≡ false)))
  LaneFault net from to rate WouldEarn =
      (from ≢ to) × Within net from to × (K.lane rate ≡ true) × Earning K (changed K net.lanes from to rate)
  LaneFault net from to rate NoKind = ⊥
  LaneFault net from to rate NoOrder = ⊥

  -- a lane that may be given a rate: no closed trip earns then
  pub record LaneFits (net : Network M) (from to : ℕ) (rate : M) : Type 0 where
    pub apart : from ≢ to
    pub within : Within net from to
    pub lane_rate : K.lane rate ≡ true
    pub none_earns : NoEarning K (changed K net.lanes from to rate)

  -- What an order is answered with, and the network after it. A refused order on a lane changes nothing.
  abbrev pub Answered : {V : Type 0} → (V → M) → Network M → Order V → Network M → Result (Option (Quotation V)) Fault → Type 0
  Answered means before (Terminals n) after (Ok None) = Few n × WithoutLanes n after
  Answered means before (Terminals n) after (Ok (Some quotation)) = ⊥
  Answered means before (Terminals n) after (Err fault) = CountFault n fault × WithoutLanes n after
  Answered means before (Lane ends rate) after (Ok None) =
      LaneFits before ends.from ends.to (means rate) × LaneChanged before ends.from ends.to (means rate) after
  Answered means before (Lane ends rate) after (Ok (Some quotation)) = ⊥
  Answered means before (Lane ends rate) after (Err fault) =
      LaneFault before ends.from ends.to (means rate) fault × (after ≡ before)
  Answered means before (Shut ends) after (Ok None) =
      Within before ends.from ends.to × LaneChanged before ends.from ends.to K.none after
  Answered means before (Shut ends) after (Ok (Some quotation)) = ⊥
  Answered means before (Shut ends) after (Err fault) = PairFault before ends.from ends.to fault × (after ≡ before)
  Answered means before (Quote ends) after (Ok None) = ⊥
  Answered means before (Quote ends) after (Ok (Some quotation)) =
      Within before ends.from ends.to × (quotation.ends ≡ ends)
      × BestRate K before.lanes ends.from ends.to (means quotation.rate) × (after ≡ before)
  Answered means before (Quote ends) after (Err fault) = PairFault before ends.from ends.to fault × (after ≡ before)

  -- the network of n terminals that an area shows
  abbrev pub shown : ℕ → List M → Network M
  shown n area = record { terminals = n; lanes = lane_map K n area }

  module _ {V : Type 0} (means : V → M) where
    -- the network that so many terminals and an area of values show
    abbrev pub network_of : ℕ × List V → Network M
    network_of held = shown held.0 (map means held.1)

    -- a lane was given a rate, or the reason why not
    abbrev pub Posted : (before after : ℕ × List V) → Ends → V → Result (Unit {0}) Fault → Type 0
    Posted before after ends rate result =
        MatchResult result (λ _. LaneFits (network_of before) ends.from ends.to (means rate)
        × LaneChanged (network_of before) ends.from ends.to (means rate) (network_of after))
        (λ fault. LaneFault (network_of before) ends.from ends.to (means rate) fault × (after ≡ before))

    -- a lane was taken away, or the reason why not
    abbrev pub TakenAway : (before after : ℕ × List V) → Ends → Result (Unit {0}) Fault → Type 0
    TakenAway before after ends result =
        MatchResult result (λ _. Within (network_of before) ends.from ends.to × LaneChanged (network_of before) ends.from ends.to K.none (network_of after))
        (λ fault. PairFault (network_of before) ends.from ends.to fault × (after ≡ before))

    -- the best rate between two terminals, or the reason why there is none
    abbrev pub LookedFor : ℕ × List V → Ends → Result (Quotation V) Fault → Type 0
    LookedFor held ends result =
        MatchResult result (λ quotation. Within (network_of held) ends.from ends.to × (quotation.ends ≡ ends)
        × BestRate K (network_of held).lanes ends.from ends.to (means quotation.rate))
        (PairFault (network_of held) ends.from ends.to)

  -- An area that shows a network in which no closed trip earns, and the table of its best rates.
  pub record Filled (n : ℕ) (area table : List M) : Type 0 where
    pub shows : LaneArea K n area
    pub places : length table ≡ n * n
    pub none_earns : NoEarning K (lane_map K n area)
    pub best : BestTable K n (lane_map K n area) table

  -- Such a pair, or an empty one where there are no terminals or too many.
  pub record InOrder (n : ℕ) (area table : List M) : Type 0 where
    pub either : Filled n area table ⊎ ((Few n → ⊥) × (area ≡ []) × (table ≡ []))

  -- an area of n rows of n places that hold none; empty where there are too many terminals
  pub record EmptyArea (n : ℕ) (area : List M) : Type 0 where
    pub square : n ≤ most_terminals → length area ≡ n * n
    pub empty : most_terminals < n → area ≡ []
    pub holds_none : (k : ℕ) → at K area k ≡ K.none
