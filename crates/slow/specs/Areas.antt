-- A network held as an area of rates, a table of its best rates, and what is answered about them.
-- Assumes nothing; the kind of rate is any.
use Rattle.std.specs.Prelude.{◌≡◌, ℕ, ◌+◌, ◌*◌, ◌<◌, ◌≤◌, Bool, true, false, cond, ◌&&◌, ◌⊎◌, List, map, length, Ok, Err, Decides, Result, ◌≢◌, nat_lt, slice_index_or}
use Rattle.rates.specs.Kinds.{Kind}
use Rattle.trips.specs.Trips.{LaneMap, Earning, NoEarning, BestRate, changed}
use Rattle.slow.specs.declared.refusal.Refusal.{Refusal}
use Rattle.slow.specs.declared.refusal.Refusal.TheVariants.{NoTerminals, TooManyTerminals, WrongLength, NoRate, NoTerminal, NoLaneRate}

-- the most terminals of a network
abbrev pub most_terminals : ℕ
most_terminals = 64

-- a number of terminals that a network may have
pub record Few (n : ℕ) : Type 0 where
  pub some : 0 < n
  pub not_too_many : n ≤ most_terminals

-- an area of n rows of n places, and two terminals
pub record InArea (n places from to : ℕ) : Type 0 where
  pub few : Few n
  pub square : places ≡ n * n
  pub from_below : from < n
  pub to_below : to < n

-- why there is no network of so many terminals
abbrev pub CountRefused : ℕ → Refusal → Type 0
CountRefused n NoTerminals = n ≡ 0
CountRefused n TooManyTerminals = most_terminals < n
CountRefused n WrongLength = ⊥
CountRefused n (NoRate k) = ⊥
CountRefused n NoTerminal = ⊥
CountRefused n NoLaneRate = ⊥

-- Why a question about two terminals is refused: the first that holds of these.
abbrev pub PairRefused : (n places from to : ℕ) → Refusal → Type 0
PairRefused n places from to NoTerminals = n ≡ 0
PairRefused n places from to TooManyTerminals = most_terminals < n
PairRefused n places from to WrongLength = Few n × (places ≢ n * n)
PairRefused n places from to (NoRate k) = ⊥
PairRefused n places from to NoTerminal = Few n × (places ≡ n * n) × ((n ≤ from) ⊎ (n ≤ to))
PairRefused n places from to NoLaneRate = ⊥

module _ {M : Type 0} (K : Kind M) where
  -- the member at a place
  abbrev pub at : List M → ℕ → M
  at list k = slice_index_or list k K.none

  -- the member from u to v in an area of n rows of n members
  abbrev pub entry : ℕ → List M → ℕ → ℕ → M
  entry n area u v = at area (n * u + v)

  -- the lane map that an area shows: no lane stands but between terminals below n
  abbrev pub lane_map : ℕ → List M → LaneMap M
  lane_map n area u v = cond (nat_lt u n && nat_lt v n) (entry n area u v) K.none

  -- a lane's member: none where it does not stand, else a lane rate
  abbrev pub LaneOrNone : M → Type 0
  LaneOrNone a = (a ≡ K.none) ⊎ (K.lane a ≡ true)

  -- the first k places of a list hold none or lane rates
  abbrev pub LanesBelow : List M → ℕ → Type 0
  LanesBelow list k = (j : ℕ) → j < k → LaneOrNone (at list j)

  -- k is the first place that holds neither
  pub record FirstNoRate (list : List M) (k : ℕ) : Type 0 where
    pub within : k < length list
    pub no_rate : LaneOrNone (at list k) → ⊥
    pub before : LanesBelow list k

  -- why a list is not all none and lane rates
  abbrev pub RateRefused : List M → Refusal → Type 0
  RateRefused list NoTerminals = ⊥
  RateRefused list TooManyTerminals = ⊥
  RateRefused list WrongLength = ⊥
  RateRefused list (NoRate k) = FirstNoRate list k
  RateRefused list NoTerminal = ⊥
  RateRefused list NoLaneRate = ⊥

  -- an area that shows a network of n terminals
  pub record LaneArea (n : ℕ) (area : List M) : Type 0 where
    pub few : Few n
    pub square : length area ≡ n * n
    pub lanes : LanesBelow area (n * n)

  -- a table that has the best rate from each terminal to each
  abbrev pub BestTable : ℕ → LaneMap M → List M → Type 0
  BestTable n m table = (u v : ℕ) → u < n → v < n → BestRate K m u v (entry n table u v)

  -- What relaxing answers: whether some closed trip earns; and the table has the best rates where none does.
  pub record Settled (n : ℕ) (area table : List M) (earns : Bool) : Type 0 where
    pub area_shows : LaneArea n area
    pub earning : Decides earns (Earning K (lane_map n area))
    pub best : NoEarning K (lane_map n area) → BestTable n (lane_map n area) table

  -- Why relaxing is refused: the first that holds of these.
  abbrev pub AreasRefused : ℕ → List M → ℕ → Refusal → Type 0
  AreasRefused n area places NoTerminals = n ≡ 0
  AreasRefused n area places TooManyTerminals = most_terminals < n
  AreasRefused n area places WrongLength = Few n × ((length area ≡ n * n) × (places ≡ n * n) → ⊥)
  AreasRefused n area places (NoRate k) = Few n × (length area ≡ n * n) × (places ≡ n * n) × FirstNoRate area k
  AreasRefused n area places NoTerminal = ⊥
  AreasRefused n area places NoLaneRate = ⊥

  -- the answer of relaxing, given what the table held before and after; a refusal leaves it as it was
  abbrev pub Relaxing : {V : Type 0} → (V → M) → ℕ → List M → (before after : List V) → Result Bool Refusal → Type 0
  Relaxing means n area before after (Ok earns) = (length before ≡ n * n) × Settled n area (map means after) earns
  Relaxing means n area before after (Err why) = (after ≡ before) × AreasRefused n area (length before) why

  -- the answer of looking a rate up: the table's entry
  abbrev pub LookedUp : {V : Type 0} → (V → M) → ℕ → List V → (from to : ℕ) → Result V Refusal → Type 0
  LookedUp means n table from to (Ok r) = InArea n (length table) from to × (means r ≡ entry n (map means table) from to)
  LookedUp means n table from to (Err why) = PairRefused n (length table) from to why

  -- Whether a rate for one lane would make a closed trip earn,
  -- for every network in which none does and whose best rates the table has.
  abbrev pub Tested : ℕ → List M → (from to : ℕ) → M → Bool → Type 0
  Tested n table from to rate earns =
      (area : List M) → LaneArea n area → NoEarning K (lane_map n area) → BestTable n (lane_map n area) table
      → Decides earns (Earning K (changed K (lane_map n area) from to rate))

  -- the answer to that
  abbrev pub Testing : {V : Type 0} → (V → M) → ℕ → List V → (from to : ℕ) → M → Result Bool Refusal → Type 0
  Testing means n table from to rate (Ok earns) =
      InArea n (length table) from to × (K.lane rate ≡ true) × Tested n (map means table) from to rate earns
  Testing means n table from to rate (Err why) =
      PairRefused n (length table) from to why
      ⊎ ((why ≡ NoLaneRate) × InArea n (length table) from to × (K.lane rate ≡ false))

  -- the area after one lane was given a rate, or none: the map with that lane changed, and still an area of lanes
  pub record LaneSet {V : Type 0} (means : V → M) (n : ℕ) (before after : List V) (from to : ℕ) (rate : M) : Type 0 where
    pub in_area : InArea n (length before) from to
    pub lane_or_none : LaneOrNone rate
    pub shows : (u v : ℕ) → lane_map n (map means after) u v ≡ changed K (lane_map n (map means before)) from to rate u v
    pub stays : LaneArea n (map means before) → LaneArea n (map means after)

  -- why it was not given one; the area is as it was
  abbrev pub LaneRefused : {V : Type 0} → ℕ → (before after : List V) → (from to : ℕ) → M → Refusal → Type 0
  LaneRefused n before after from to rate why =
      (after ≡ before)
      × (PairRefused n (length before) from to why
      ⊎ ((why ≡ NoLaneRate) × InArea n (length before) from to × (LaneOrNone rate → ⊥)))
