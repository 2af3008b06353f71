-- A climb by places of sheets in place of terminals.
-- Assumes nothing: a place past a sheet's end reads none.
use Rattle.std.specs.Prelude.{◌≡◌, ℕ, ◌+◌, ◌*◌, ◌<◌, cond, List, length, nat_lt, slice_index, slice_index_or}
use Rattle.rates.specs.Kinds.{Kind}
use Rattle.rates.specs.Many.{better_of}
use Rattle.piece_rates.specs.Climbing.{place}
use Rattle.sheets.specs.declared.parent.Part.{Part}

-- what a part says of a cut piece's edge terminals, of its own, and of the seam from x to y
pub record PartShows (terminals edges : List ℕ) (x y : ℕ) (p : Part) : Type 0 where
  pub low_there : p.low ≡ place edges x
  pub high_there : p.high ≡ place edges y
  pub counted : p.count ≡ length edges
  pub there : (k : ℕ) → k < length terminals → slice_index p.at k ≡ place edges (slice_index terminals k)

-- each place k of an area holds what fits there
pub record EachPlace {X : Type 0} (fits : ℕ → X → Type 0) (area : List X) : Type 0 where
  pub there : (k : ℕ) (d : X) → k < length area → fits k (slice_index_or area k d)

module _ {M : Type 0} (K : Kind M) where
  -- the rate from the edge terminal i to the edge terminal j
  abbrev pub cell : List M → ℕ → ℕ → M
  cell sheet i j = slice_index_or sheet (8 * i + j) K.none

  -- From the edge terminal i of a part to an end of the seam, over both parts. An end is given by its places in this part
  -- and in the other one.
  abbrev pub to_seam_at : List M → List M → ℕ → ℕ × ℕ → ℕ × ℕ → M
  to_seam_at own other i to round = better_of K (cell own i to.0) (K.join (cell own i round.0) (cell other round.1 to.1))

  -- by the seam's low end at the rate low, or by its high end at the rate high, to the edge terminal j of a part
  abbrev pub by_seam_at : M → M → List M → ℕ × ℕ → ℕ → M
  by_seam_at low high sheet ends j = better_of K (K.join low (cell sheet ends.0 j)) (K.join high (cell sheet ends.1 j))

  -- the climb from the edge terminal i of the part p to the edge terminal k of the cut piece; q is the other part
  abbrev pub climb_at : Part → Part → List M → List M → M → M → ℕ → ℕ → M
  climb_at p q own other low high i k =
      cond (nat_lt (slice_index p.at k) p.count)
      (better_of K (cell own i (slice_index p.at k)) (by_seam_at low high own (p.low, p.high) (slice_index p.at k)))
      (by_seam_at low high other (q.low, q.high) (slice_index q.at k))

  abbrev pub climbed_at : Part → Part → List M → List M → ℕ → ℕ → M
  climbed_at p q own other i k =
      climb_at p q own other (to_seam_at own other i (p.low, q.low) (p.high, q.high)) (to_seam_at own other i (p.high, q.high) (p.low, q.low)) i k

  -- a row of 8 places: f at those below count, none at the others
  abbrev pub Row : ℕ → (ℕ → M) → List M → Type 0
  Row count f row = (k : ℕ) → k < 8 → slice_index_or row k K.none ≡ cond (nat_lt k count) (f k) K.none

  -- the entry from the edge terminal i of the cut piece to k, by the first part that has i
  abbrev pub entry_at : Part → Part → List M → List M → ℕ → ℕ → M
  entry_at p q a b i k =
      cond (nat_lt (slice_index p.at i) p.count) (climbed_at p q a b (slice_index p.at i) k) (climbed_at q p b a (slice_index q.at i) k)

  -- the row of the edge terminal i, of count many
  abbrev pub ParentRow : ℕ → Part → Part → List M → List M → ℕ → List M → Type 0
  ParentRow count p q a b i row = Row (cond (nat_lt i count) count 0) (entry_at p q a b i) row
