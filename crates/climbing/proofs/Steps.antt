-- In a plan in order, lines climb from a piece to its parent and meet there.
-- Assumes the laws of the kind.
use Rattle.std.proofs.Common.{ℕ, ◌+◌, ◌*◌, ◌<◌, Bool, true, false, eqb, ◌⊎◌, List, drop, sym, subst, inl, inr, ⊎_elim, arith, length-take}
use Rattle.std.proofs.lemmas.Bool.{cond-true, cond-false, eq-eqb, ne_eqb}
use Rattle.rates.specs.Kinds.{Kind, Laws}
use Rattle.rates.specs.Many.{better_of}
use Rattle.trips.specs.Trips.{LaneMap, BestRate}
use Rattle.ring.specs.declared.Side.{Side}
use Rattle.records.specs.declared.Piece.{Piece}
use Rattle.records.specs.Few.{Among}
use Rattle.pieces.specs.Sides.{Ends, ends_of}
use Rattle.pieces.specs.Holding.{piece_at}
use Rattle.pieces.proofs.Holders.{UnderCut, under_cut}
use Rattle.piece_rates.specs.Sheets.{sheet_of}
use Rattle.piece_rates.specs.Sizes.{Within}
use Rattle.piece_rates.specs.Climbing.{CutShape}
use Rattle.piece_rates.specs.Parents.{PartsShown}
use Rattle.piece_rates.specs.Changes.{InOrder}
use Rattle.piece_rates.specs.Touching.{Touches}
use Rattle.piece_rates.proofs.Cuts.{cuts_have_shape}
use Rattle.piece_rates.proofs.Sizes.{shown_is_within}
use Rattle.piece_rates.proofs.Touching.{touch_first, touch_second}
use Rattle.climbing.specs.Lines.{OnSide, LineShows, ClimbedLine, by_column}
use Rattle.climbing.specs.Steps.{across_of, edges_of, BothEdges, lanes_of, StepKeeps, StepsKeep}
use Rattle.climbing.proofs.Lines.{lines_climb, lines_meet}

module _ {M : Type 0} (K : Kind M) (X : Laws K) (n : ℕ) (m : LaneMap M) (sides : List Side) (ps : List Piece) (area sheets : List M) (h : InOrder K n m sides ps area sheets) where
  abbrev e : Ends
  e = ends_of sides

  pub sheet_within : (p : ℕ) → p + 5 < 2 * n → Within K (sheet_of K sheets p)
  sheet_within p r =
      shown_is_within K X n e m (piece_at ps p) (sheet_of K sheets p) h.stands.lanes (h.all_shown p r) (omega (arith, length-take 64 (drop (64 * p) sheets)))

  module _ (p : ℕ) (z : 0 < p) (r : p + 5 < 2 * n) where
    abbrev q : ℕ
    q = (piece_at ps p).parent

    abbrev P : Piece
    P = piece_at ps q

    under : UnderCut n e ps h.stands.division p
    under = under_cut n e ps h.stands.division p z r

    range : q + 5 < 2 * n
    range = omega (arith, under.lower)

    first_range : P.first + 5 < 2 * n
    first_range = omega (arith, under.cut.in_order, under.cut.in_range)

    shown : PartsShown K n e m P (piece_at ps P.first) (piece_at ps P.second) (e.low P.seam) (e.high P.seam) (sheet_of K sheets P.first) (sheet_of K sheets P.second)
    shown = record {
      lanes = h.stands.lanes;
      shape = cuts_have_shape n e ps h.stands.filled h.stands.division q range under.cut;
      first_shown = h.all_shown P.first first_range;
      second_shown = h.all_shown P.second under.cut.in_range;
    }

    -- what holds of either part and the piece across holds of p and the piece across
    by_part : (Q : ℕ → ℕ → Type 0) → Q P.first P.second → Q P.second P.first → Q p (across_of ps p)
    by_part Q a b =
        ⊎_elim
        (λ f. subst (Q p) (sym (cond-true (eqb P.first p) P.second P.first (eq-eqb P.first p f))) (subst (λ w. Q w P.second) f a))
        (λ f. subst (Q p) (sym (cond-false (eqb P.first p) P.second P.first (ne_eqb P.first p (λ k. omega (arith, k, f, under.cut.in_order))))) (subst (λ w. Q w P.first) f b))
        under.which

    shape : CutShape n e (e.low P.seam) (e.high P.seam) P (piece_at ps P.first) (piece_at ps P.second)
    shape = shown.shape

    from_first : (u : ℕ) → Touches n e (piece_at ps P.first) u → OnSide true (e.low P.seam) (e.high P.seam) u
    from_first u t = touch_first n e h.stands.filled ps h.stands.division q range under.cut u t

    from_second : (u : ℕ) → Touches n e (piece_at ps P.second) u → OnSide false (e.low P.seam) (e.high P.seam) u
    from_second u t = touch_second n e h.stands.filled ps h.stands.division q range under.cut u t

    abbrev Climbs : ℕ → ℕ → Type 0
    Climbs own across =
        (into : Bool) (u : ℕ) (line line' : List M) → Touches n e (piece_at ps own) u → LineShows K n e (piece_at ps own) m into u line
        → ClimbedLine K into (edges_of ps q) (edges_of ps own) (edges_of ps across) (sheet_of K sheets own) (sheet_of K sheets across) (e.low P.seam) (e.high P.seam) line line'
        → LineShows K n e P m into u line'

    abbrev Same : ℕ → ℕ → Type 0
    Same own across =
        (u v : ℕ) (row column : List M) (direct : M) → Touches n e (piece_at ps own) u → Touches n e (piece_at ps own) v
        → LineShows K n e (piece_at ps own) m false u row → LineShows K n e (piece_at ps own) m true v column → BestRate K (lanes_of K n e ps m own) u v direct
        → BestRate K (lanes_of K n e ps m q) u v (better_of K direct (by_column K (edges_of ps own) (edges_of ps across) (edges_of ps own) (sheet_of K sheets across) (e.low P.seam) (e.high P.seam) row column v))

    abbrev Different : ℕ → ℕ → Type 0
    Different own across =
        (u v : ℕ) (row column : List M) → Touches n e (piece_at ps own) u → Touches n e (piece_at ps across) v
        → LineShows K n e (piece_at ps own) m false u row → LineShows K n e (piece_at ps across) m true v column
        → BestRate K (lanes_of K n e ps m q) u v (by_column K (edges_of ps own) (edges_of ps across) (edges_of ps across) (sheet_of K sheets across) (e.low P.seam) (e.high P.seam) row column v)

    abbrev A : Piece
    A = piece_at ps P.first

    abbrev B : Piece
    B = piece_at ps P.second

    keeps : StepKeeps K n e ps m sheets p
    keeps = record {
      own_within = sheet_within p r;
      across_within = by_part (λ own across. Within K (sheet_of K sheets across)) (sheet_within P.second under.cut.in_range) (sheet_within P.first first_range);
      across_in_range = by_part (λ own across. across + 5 < 2 * n) under.cut.in_range first_range;
      stands = record {
        own = by_part (λ own across. BothEdges ps own (e.low P.seam) (e.high P.seam)) shape.seam_first shape.seam_second;
        across = by_part (λ own across. BothEdges ps across (e.low P.seam) (e.high P.seam)) shape.seam_second shape.seam_first;
      };
      edges_kept = by_part (λ own across. (u : ℕ) → Among u (edges_of ps q) → Among u (edges_of ps own) ⊎ Among u (edges_of ps across)) shape.edges_kept
          (λ u k. ⊎_elim (λ w. inr w) (λ w. inl w) (shape.edges_kept u k));
      climbs = by_part Climbs
          (λ into u line line' t k w. lines_climb K X n e m P A B _ _ _ _ shown true into u line line' (from_first u t) k w)
          (λ into u line line' t k w. lines_climb K X n e m P A B _ _ _ _ shown false into u line line' (from_second u t) k w);
      same_side = by_part Same
          (λ u v row column direct tu tv kr kc d. (lines_meet K X n e m P A B _ _ _ _ shown true u v row column (from_first u tu) kr).1 (from_first v tv) kc direct d)
          (λ u v row column direct tu tv kr kc d. (lines_meet K X n e m P A B _ _ _ _ shown false u v row column (from_second u tu) kr).1 (from_second v tv) kc direct d);
      other_side = by_part Different
          (λ u v row column tu tv kr kc. (lines_meet K X n e m P A B _ _ _ _ shown true u v row column (from_first u tu) kr).0 (from_second v tv) kc)
          (λ u v row column tu tv kr kc. (lines_meet K X n e m P A B _ _ _ _ shown false u v row column (from_second u tu) kr).0 (from_first v tv) kc);
    }

module _ {M : Type 0} (K : Kind M) (X : Laws K) where
  pub steps_keep : StepsKeep K
  steps_keep n m sides ps area sheets h p z r = keeps K X n m sides ps area sheets h p z r
