-- Parts unfolded one after the other: the stops that come out, and how many turns it takes.
-- Assumes the terms of `Splitting`.
use Rattle.std.specs.Prelude.{◌≡◌, ℕ, ◌+◌, ◌-◌, ◌*◌, ◌≤◌, List, [], ◌∷◌, ◌++◌, ◌≢◌}
use Rattle.rates.specs.Kinds.{Kind}
use Rattle.trips.specs.Trips.{LaneMap}
use Rattle.ring.specs.declared.Side.{Side}
use Rattle.records.specs.declared.Piece.{Piece}
use Rattle.pieces.specs.Sides.{Ends, ends_of}
use Rattle.pieces.specs.Holding.{piece_at}
use Rattle.piece_rates.specs.Lanes.{piece_lanes}
use Rattle.unfolding.specs.Parts.{Part, part_rate, split, leaf_stops}
use Rattle.unfolding.specs.Splitting.{Leaf, Cut, Rated, PartStands, TripAlong}

module _ {M : Type 0} (K : Kind M) where
  -- Unfolds parts stops k: taking the parts in turn, the first of them each time, gives these stops in k turns. A part with
  -- one end gives none and takes no turn. A part of a leaf gives its stops. A part of a cut piece is split, and its parts take
  -- its place.
  pub data Unfolds (n : ℕ) (e : Ends) (ps : List Piece) (area : List M) (best : ℕ → ℕ → ℕ → M) : List Part → List ℕ → ℕ → Type 0 where
    done : Unfolds n e ps area best [] [] 0
    empty : {q : Part} {parts : List Part} {stops : List ℕ} {k : ℕ}
        → q.from ≡ q.to → Unfolds n e ps area best parts stops k → Unfolds n e ps area best (q ∷ parts) stops k
    leaf : {q : Part} {parts : List Part} {stops all : List ℕ} {k k' : ℕ}
        → (q.from ≢ q.to) → Leaf n e ps q.piece → Unfolds n e ps area best parts stops k
        → all ≡ leaf_stops K e ps area q ++ stops → k' ≡ k + 1 → Unfolds n e ps area best (q ∷ parts) all k'
    cut : {q : Part} {parts : List Part} {stops : List ℕ} {k k' : ℕ}
        → (q.from ≢ q.to) → Cut n e ps q.piece → Unfolds n e ps area best (split K best e ps q ++ parts) stops k
        → k' ≡ k + 1 → Unfolds n e ps area best (q ∷ parts) stops k'

  -- a part unfolds in one way: to the stops of a best trip over its piece's lanes, which is one over the book's
  pub record UnfoldsToBest (n : ℕ) (m : LaneMap M) (e : Ends) (ps : List Piece) (area : List M) (best : ℕ → ℕ → ℕ → M) (q : Part) : Type 0 where
    pub stops : List ℕ
    pub turns : ℕ
    pub unfolds : Unfolds n e ps area best (q ∷ []) stops turns
    pub only : (list : List ℕ) (k : ℕ) → Unfolds n e ps area best (q ∷ []) list k → (list ≡ stops) × (k ≡ turns)
    pub within_piece : TripAlong K (piece_lanes K n e (piece_at ps q.piece) m) q.from q.to (part_rate K best q) stops
    pub in_book : TripAlong K m q.from q.to (part_rate K best q) stops

  abbrev pub PartsUnfold : Type 0
  PartsUnfold =
      (n : ℕ) (m : LaneMap M) (sides : List Side) (ps : List Piece) (area sheets : List M) (best : ℕ → ℕ → ℕ → M)
      → Rated K n m sides ps area sheets best → (q : Part) → PartStands K n (ends_of sides) ps best q
      → UnfoldsToBest n m (ends_of sides) ps area best q

  -- a part takes at most five turns for each piece of the plan
  abbrev pub FewParts : Type 0
  FewParts =
      (n : ℕ) (m : LaneMap M) (sides : List Side) (ps : List Piece) (area sheets : List M) (best : ℕ → ℕ → ℕ → M)
      → Rated K n m sides ps area sheets best → (q : Part) → PartStands K n (ends_of sides) ps best q
      → (stops : List ℕ) (k : ℕ) → Unfolds n (ends_of sides) ps area best (q ∷ []) stops k → k ≤ 5 * (2 * n - 5)

  -- One turn: what is left to unfold after the first part.
  pub record OneTurn (n : ℕ) (e : Ends) (ps : List Piece) (area : List M) (best : ℕ → ℕ → ℕ → M) (q : Part) (parts : List Part) (stops : List ℕ) (k : ℕ) : Type 0 where
    pub no_turn : q.from ≡ q.to → Unfolds n e ps area best parts stops k
    pub leaf_turn : (q.from ≢ q.to) → Leaf n e ps q.piece
        → (rest : List ℕ) × (j : ℕ) × (stops ≡ leaf_stops K e ps area q ++ rest) × (k ≡ j + 1) × Unfolds n e ps area best parts rest j
    pub cut_turn : (q.from ≢ q.to) → Cut n e ps q.piece
        → (j : ℕ) × (k ≡ j + 1) × Unfolds n e ps area best (split K best e ps q ++ parts) stops j

  abbrev pub TurnByTurn : Type 0
  TurnByTurn =
      (n : ℕ) (e : Ends) (ps : List Piece) (area : List M) (best : ℕ → ℕ → ℕ → M) (q : Part) (parts : List Part) (stops : List ℕ) (k : ℕ)
      → Unfolds n e ps area best (q ∷ parts) stops k → OneTurn n e ps area best q parts stops k
