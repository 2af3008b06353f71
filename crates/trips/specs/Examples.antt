-- Ten worked examples of best rates, closed trips that earn, and links that cross, as one table.
-- Assumes nothing.
use Rattle.std.specs.Prelude.{ℕ, List, [], ◌∷◌, ℤ, pos, negsuc}
use Rattle.std.specs.List.{AllByRecursion}
use Rattle.rates.specs.Kinds.{Kind}
use Rattle.rates.specs.Amounts.{Amount, cents_kind}
use Rattle.rates.specs.Amounts.Amount.{no_amount, whole}
use Rattle.rates.specs.Loads.{Load, tonnes_kind}
use Rattle.rates.specs.Loads.Load.{up_to}
use Rattle.rates.specs.Pairs.{Couple, pair_kind, couple_of}
use Rattle.trips.specs.Links.{Ends, Cross}
use Rattle.trips.specs.Trips.{LaneMap, Earning, NoEarning, BestRate, changed}

-- The kinds of rate that the examples use.
pub data Kinds : Type 0 where
  in_cents : Kinds
  in_tonnes : Kinds
  in_cents_before_tonnes : Kinds

abbrev pub Member : Kinds → Type 0
Member in_cents = Amount
Member in_tonnes = Load
Member in_cents_before_tonnes = Couple cents_kind tonnes_kind

abbrev pub kind_of : (k : Kinds) → Kind (Member k)
kind_of in_cents = cents_kind
kind_of in_tonnes = tonnes_kind
kind_of in_cents_before_tonnes = pair_kind cents_kind tonnes_kind

pub record Lane (k : Kinds) : Type 0 where
  pub from : ℕ
  pub to : ℕ
  pub rate : Member k

-- the lane map on which these lanes stand, and no other
abbrev pub network : (k : Kinds) → List (Lane k) → LaneMap (Member k)
network k [] = λ _ _. (kind_of k).none
network k (l ∷ lanes) = changed (kind_of k) (network k lanes) l.from l.to l.rate

-- what is said of a network
pub data Claim (k : Kinds) : Type 0 where
  best : ℕ → ℕ → Member k → Claim k
  earns : Claim k
  earns_not : Claim k

abbrev pub Holds : (k : Kinds) → LaneMap (Member k) → Claim k → Type 0
Holds k m (best u v r) = BestRate (kind_of k) m u v r
Holds k m earns = Earning (kind_of k) m
Holds k m earns_not = NoEarning (kind_of k) m

-- An example: on a network over so many terminals a claim holds, or two links cross, or they do not.
pub data Example : Type 0 where
  says : (k : Kinds) (terminals : ℕ) → List (Lane k) → List (Claim k) → Example
  crossing : Ends → Ends → Example
  apart : Ends → Ends → Example

abbrev pub Shown : Example → Type 0
Shown (says k n lanes claims) = AllByRecursion (Holds k (network k lanes)) claims
Shown (crossing l m) = Cross l m
Shown (apart l m) = Cross l m → ⊥

abbrev cents : ℕ → ℕ → ℤ → Lane in_cents
cents a b z = record { from = a; to = b; rate = whole z }

-- from 0 to 1 at 5, from 1 to 2 at -3
abbrev two_lanes : List (Lane in_cents)
two_lanes = cents 0 1 (pos 5) ∷ cents 1 2 (negsuc 2) ∷ []

abbrev load_20 : Load
load_20 = up_to (record { value = 20; passes = tt })

abbrev load_8 : Load
load_8 = up_to (record { value = 8; passes = tt })

abbrev load_6 : Load
load_6 = up_to (record { value = 6; passes = tt })

abbrev both : ℤ → Load → Couple cents_kind tonnes_kind
both z l = couple_of cents_kind tonnes_kind (whole z) l

abbrev link : ℕ → ℕ → Ends
link a b = record { from = a; to = b }

abbrev pub examples : List Example
examples =
    says in_cents 3 two_lanes (best 0 2 (whole (pos 2)) ∷ [])
    ∷ says in_cents 3 (cents 0 2 (pos 1) ∷ two_lanes) (best 0 2 (whole (pos 1)) ∷ [])
    ∷ says in_cents 3 (cents 0 2 (pos 4) ∷ two_lanes) (best 0 2 (whole (pos 2)) ∷ [])
    ∷ says in_cents 3 (cents 2 0 (negsuc 2) ∷ two_lanes) (earns ∷ [])
    ∷ says in_cents 3 (cents 2 0 (negsuc 1) ∷ two_lanes) (earns_not ∷ best 1 0 (whole (negsuc 4)) ∷ [])
    ∷ says in_cents 3 (cents 0 1 (pos 5) ∷ []) (best 0 2 no_amount ∷ [])
    ∷ says in_cents 3 two_lanes (best 2 2 (whole (pos 0)) ∷ [])
    ∷ says in_tonnes 3
    (record { from = 0; to = 1; rate = load_20 } ∷ record { from = 1; to = 2; rate = load_8 } ∷ record { from = 0; to = 2; rate = load_6 } ∷ [])
    (best 0 2 load_8 ∷ [])
    ∷ says in_cents_before_tonnes 3
    (record { from = 0; to = 1; rate = both (pos 5) load_20 } ∷ record { from = 1; to = 2; rate = both (negsuc 2) load_8 } ∷ record { from = 0; to = 2; rate = both (pos 2) load_6 } ∷ [])
    (best 0 2 (both (pos 2) load_8) ∷ [])
    ∷ crossing (link 0 2) (link 1 3)
    ∷ apart (link 0 2) (link 0 3)
    ∷ []

-- every example of the table is shown
abbrev pub ExamplesShown : Type 0
ExamplesShown = AllByRecursion Shown examples
