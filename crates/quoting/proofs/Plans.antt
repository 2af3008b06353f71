-- Lines and best rates of a plan in order, from what the places hold.
-- Assumes the laws of the kind.
use Rattle.std.proofs.Common.{◌≡◌, ℕ, ◌+◌, ◌*◌, ◌<◌, ◌≤◌, Bool, true, false, cond, ltb, ◌⊎◌, List, length, get_or, map, sym, ap, ◌∙◌, subst, inl, inr, ⊎_elim, arith, length-take}
use Rattle.std.proofs.lemmas.Bool.{cond-true, cond-false, lt-ltb, le-ltb, cases_lt}
use Rattle.std.proofs.lemmas.List.{get_or_past}
use Rattle.rates.specs.Kinds.{Kind, Laws}
use Rattle.rates.specs.Many.{better_of}
use Rattle.trips.specs.Trips.{LaneMap, BestRate}
use Rattle.trips.proofs.Walks.{rate_of_best, reached_stay, closed_no_better}
use Rattle.records.specs.declared.Piece.{Piece}
use Rattle.records.specs.Few.{listed, Among, FirstPlace}
use Rattle.pieces.specs.Sides.{Ends, span}
use Rattle.pieces.specs.Holding.{piece_at}
use Rattle.pieces.specs.Division.{Uncut}
use Rattle.piece_rates.specs.Climbing.{place, among}
use Rattle.piece_rates.specs.Sheets.{sheet_of}
use Rattle.piece_rates.specs.Sizes.{Within}
use Rattle.piece_rates.specs.Lanes.{piece_lanes}
use Rattle.piece_rates.specs.Leaves.{leaf_lanes, LanesWithin, LeafStands}
use Rattle.piece_rates.specs.Triangles.{triangle_entry}
use Rattle.piece_rates.proofs.Holding.{among_decided}
use Rattle.piece_rates.proofs.Places.{place_first}
use Rattle.piece_rates.proofs.Sizes.{at_among, piece_no_earning}
use Rattle.piece_rates.proofs.Leaves.{leaf_lanes_held}
use Rattle.piece_rates.proofs.Touching.{all_touch_whole, whole_lanes}
use Rattle.sheets.specs.Triangles.{IsTriangleOn, triangle_best, triangle_lanes}
use Rattle.sheets.specs.declared.leaf.Triangle.{Triangle}
use Rattle.sheets.proofs.Leaves.{read_as}
use Rattle.climbing.specs.Lines.{turned, cells, LineShows, TriangleLine}
use Rattle.climbing.specs.Ways.{Ending, towards}
use Rattle.climbing.specs.Steps.{across_of, edges_of, lanes_of, PartedAt, SeamStands, StepKeeps}
use Rattle.climbing.proofs.Lines.{sheets_have_lines, triangles_have_lines, lines_are_within}
use Rattle.climbing.proofs.Ways.{ways_up, parted_between_children}
use Rattle.climbing.proofs.Steps.{steps_keep}
use Rattle.quoting.specs.Areas.{ends, is_into, TouchesPiece, ReachesFrom, PartsFrom, PlanInOrder, BestWithin, LineAt}
use Rattle.quoting.specs.Climbs.{IsStepFrom, KnownAt}
use Rattle.quoting.specs.Places.{shown, IsLineOf, cell_at, by_half_at, climb_at, climbed_at, to_low_at, to_high_at, by_seam_at, step_at, triangle_place_at}
use Rattle.quoting.specs.declared.areas.Areas.{Areas}
use Rattle.quoting.specs.declared.lines.Direction.{Direction}
use Rattle.quoting.specs.declared.lines.Direction.TheVariants.{From, Into}
use Rattle.quoting.specs.declared.lines.Line.{Line}
use Rattle.quoting.specs.declared.passes.Known.{Known}
use Rattle.quoting.specs.declared.steps.Half.{Half}
use Rattle.quoting.specs.declared.steps.Step.{Step}

-- of two tests one holds, so that the last of three values is never taken
one_holds : {M : Type 0} (b c : Bool) (x y z : M) → (b ≡ true) ⊎ (c ≡ true) → cond b x (cond c y z) ≡ cond b x y
one_holds true c x y z h = search
one_holds false c x y z h = ⊎_elim (λ e. absurd (cc)) (λ e. cond-true c y z e) h

module _ {V M : Type 0} (K : Kind M) (X : Laws K) (means : V → M) (a : Areas V) (n : ℕ) (m : LaneMap M) (h : PlanInOrder K means a n m) where
  abbrev e : Ends
  e = ends a

  abbrev ps : List Piece
  ps = a.records.pieces.now

  abbrev sheets : List M
  sheets = map means a.sheets.now

  abbrev area : List M
  area = map means a.lanes.now

  few_edges : (p : ℕ) → p + 5 < 2 * n → length (edges_of ps p) ≤ 8
  few_edges p r =
      let f = (piece_at ps p).edges in
      omega (arith, length-take f.count f.at, (h.stands.division.stands p r).edges_pinned.room)

  -- the best rate between two edge terminals
  pub cell_best : (p u v i j : ℕ) (P : Piece) (r : V) → p + 5 < 2 * n → P ≡ piece_at ps p → FirstPlace (listed P.edges) u i → FirstPlace (listed P.edges) v j → means r ≡ cell_at K sheets p false i j → BestWithin K means a n m p u v r
  cell_best p u v i j P r l f hu hv is =
      let E = edges_of ps p in
      let c = cells K (sheet_of K sheets p) i j in
      let wu : FirstPlace E u i = subst (λ (x : Piece). FirstPlace (listed x.edges) u i) f hu in
      let wv : FirstPlace E v j = subst (λ (x : Piece). FirstPlace (listed x.edges) v j) f hv in
      subst (BestRate K (lanes_of K n e ps m p) u v) (sym is)
      (subst (λ w. BestRate K (lanes_of K n e ps m p) w v c) wu.stands
      (subst (λ w. BestRate K (lanes_of K n e ps m p) (get_or E i 0) w c) wv.stands
      ((h.all_shown p l).best i j wu.inside wv.inside)))

  -- a line that is a row or a column of a sheet
  pub line_by_sheet : (p u i : ℕ) (P : Piece) (d : Direction) (line : Line V) → p + 5 < 2 * n → P ≡ piece_at ps p → FirstPlace (listed P.edges) u i → IsLineOf K (shown means line) (cell_at K sheets p (is_into d) i) → LineAt K means a n m p d u line
  line_by_sheet p u i P d line l f hu w =
      let E = edges_of ps p in
      let wu : FirstPlace E u i = subst (λ (x : Piece). FirstPlace (listed x.edges) u i) f hu in
      let there : Among u E = subst (λ w. Among w E) wu.stands (at_among E i wu.inside) in
      sheets_have_lines K X n e (piece_at ps p) m (sheet_of K sheets p) (h.all_shown p l) (is_into d) u (shown means line) there (few_edges p l) w.short
      (λ k b. w.places k b ∙ ap (λ x. turned (is_into d) (cells K (sheet_of K sheets p)) x k) (sym (place_first E u i wu)))

  uncut_there : (p : ℕ) → p + 5 < 2 * n → (piece_at ps p).first ≡ 0 → Uncut n (span e) (piece_at ps p)
  uncut_there p l z = ⊎_elim (λ w. w) (λ w. absurd (omega (arith, w.first_number))) (h.stands.division.stands p l).cut

  leaf_stands : (p : ℕ) → p + 5 < 2 * n → (piece_at ps p).first ≡ 0 → LeafStands K n e m (piece_at ps p) area
  leaf_stands p l z = record {
    lanes = h.stands.lanes;
    filled = h.stands.filled;
    uncut = uncut_there p l z;
    top_in_range = (h.stands.division.stands p l).top_in_range;
    shown = h.stands.shown;
  }

  -- the triangle of the piece p, whose record P was read
  module _ (p : ℕ) (P : Piece) (f : P ≡ piece_at ps p) (l : p + 5 < 2 * n) (t : Triangle V) (read : IsTriangleOn K means e P.top area t) where
    abbrev T : LaneMap M
    T = triangle_lanes K means t

    read_there : IsTriangleOn K means e (piece_at ps p).top area t
    read_there = subst (λ (x : Piece). IsTriangleOn K means e x.top area t) f read

    as_read : (Q : ℕ → ℕ → ℕ → LaneMap M → Type 0) → Q (e.low (piece_at ps p).top) (e.high ((piece_at ps p).top + 1)) (e.high (piece_at ps p).top) (leaf_lanes K e (piece_at ps p).top area) → Q t.low t.third t.high T
    as_read Q = read_as K e (piece_at ps p).top area t.low t.third t.high _ _ _ _ _ _ read_there Q

    module _ (leaf : (piece_at ps p).first ≡ 0) where
      within_there : LanesWithin K T
      within_there = as_read (λ x y z w. LanesWithin K w) (leaf_lanes_held K X n e m (piece_at ps p) area (leaf_stands p l leaf)).1

      -- the best rate within the triangle
      within_triangle : (u v : ℕ) (r : V) → (LanesWithin K T → means r ≡ triangle_best K means t u v) → BestWithin K means a n m p u v r
      within_triangle u v r is =
          as_read (λ x y z w. means r ≡ triangle_entry K x y z w u v → BestRate K (lanes_of K n e ps m p) u v (means r))
          (λ z. subst (BestRate K (lanes_of K n e ps m p) u v) (sym z) ((triangles_have_lines K X n e m (piece_at ps p) area (leaf_stands p l leaf)).0 u v))
          (is within_there)

      -- a line within the triangle
      line_by_triangle : (d : Direction) (u : ℕ) (line : Line V) → (LanesWithin K T → IsLineOf K (shown means line) (triangle_place_at K means t (edges_of ps p) (is_into d) u)) → LineAt K means a n m p d u line
      line_by_triangle d u line is =
          as_read
          (λ x y z w. ((k : ℕ) → k < 8 → get_or (shown means line) k K.none ≡ cond (ltb k (length (edges_of ps p))) (turned (is_into d) (triangle_entry K x y z w) u (get_or (edges_of ps p) k 0)) K.none) → LineShows K n e (piece_at ps p) m (is_into d) u (shown means line))
          (λ z. (triangles_have_lines K X n e m (piece_at ps p) area (leaf_stands p l leaf)).1 (is_into d) u (shown means line) (lined z))
          (is within_there).places
        where
          entry : ℕ → ℕ → M
          entry = triangle_entry K (e.low (piece_at ps p).top) (e.high ((piece_at ps p).top + 1)) (e.high (piece_at ps p).top) (leaf_lanes K e (piece_at ps p).top area)

          lined : ((k : ℕ) → k < 8 → get_or (shown means line) k K.none ≡ cond (ltb k (length (edges_of ps p))) (turned (is_into d) entry u (get_or (edges_of ps p) k 0)) K.none) → TriangleLine K e (piece_at ps p) area (is_into d) u (shown means line)
          lined z = record {
            entries = λ k b. z k (omega (arith, few_edges p l)) ∙ cond-true (ltb k (length (edges_of ps p))) (turned (is_into d) entry u (get_or (edges_of ps p) k 0)) K.none (lt-ltb k (length (edges_of ps p)) b);
            unused = λ k b. ⊎_elim
                (λ q. z k q ∙ cond-false (ltb k (length (edges_of ps p))) (turned (is_into d) entry u (get_or (edges_of ps p) k 0)) K.none (le-ltb k (length (edges_of ps p)) b))
                (λ q. get_or_past (shown means line) k K.none (omega (arith, (is within_there).short)))
                (cases_lt k 8);
          }

    pub near_triangle : (u v : ℕ) (r : V) → Ending (piece_at ps p) u v → (Among u (listed P.edges) × Among v (listed P.edges) → ⊥) → (LanesWithin K T → means r ≡ triangle_best K means t u v) → BestWithin K means a n m p u v r
    near_triangle u v r ends none_both is =
        ⊎_elim (λ z. within_triangle z u v r is)
        (λ z. absurd (none_both (subst (λ (x : Piece). Among u (listed x.edges) × Among v (listed x.edges)) (sym f) z)))
        ends

    pub first_triangle : (d : Direction) (u : ℕ) (line : Line V) → ((piece_at ps p).first ≡ 0) ⊎ Among u (listed (piece_at ps p).edges) → (Among u (listed P.edges) → ⊥) → (LanesWithin K T → IsLineOf K (shown means line) (triangle_place_at K means t (listed P.edges) (is_into d) u)) → LineAt K means a n m p d u line
    first_triangle d u line begins missing is =
        ⊎_elim
        (λ z. line_by_triangle z d u line
        (subst (λ (x : Piece). LanesWithin K T → IsLineOf K (shown means line) (triangle_place_at K means t (listed x.edges) (is_into d) u)) f is))
        (λ z. absurd (missing (subst (λ (x : Piece). Among u (listed x.edges)) (sym f) z)))
        begins

  -- a line climbed by places
  abbrev pub ClimbedPlaces : Step → Direction → Line V → Line V → Type 0
  ClimbedPlaces s d line line' =
      Within K (shown means line) → Within K (sheet_of K sheets s.own.piece) → Within K (sheet_of K sheets s.across.piece)
      → IsLineOf K (shown means line') (climbed_at K (shown means line) sheets s (is_into d))

  line_within : (p : ℕ) (d : Direction) (u : ℕ) (line : Line V) → LineAt K means a n m p d u line → Within K (shown means line)
  line_within p d u line shows = lines_are_within K X n e (piece_at ps p) m (is_into d) u (shown means line) h.stands.lanes shows

  keeps : (p : ℕ) → 0 < p → p + 5 < 2 * n → StepKeeps K n e ps m sheets p
  keeps p z l = steps_keep K X n m a.records.sides.now ps area sheets h p z l

  parent_range : (p : ℕ) → 0 < p → p + 5 < 2 * n → (piece_at ps p).parent + 5 < 2 * n
  parent_range p z l = omega (arith, ((h.stands.division.stands p l).child_of_parent z).0)

  -- a line one step up
  pub line_up : (p u : ℕ) (d : Direction) (line line' : Line V) (s : Step) → 0 < p → p + 5 < 2 * n → TouchesPiece a n p u → LineAt K means a n m p d u line → IsStepFrom a p s → ClimbedPlaces s d line line' → LineAt K means a n m s.up d u line'
  line_up p u d line line' s z l t shows is climbed =
      let kp = keeps p z l in
      let E = edges_of ps (piece_at ps p).parent in
      let few = few_edges (piece_at ps p).parent (parent_range p z l) in
      let there = step_at e ps p in
      let L = shown means line in
      let f = subst (λ x. ClimbedPlaces x d line line') is climbed (line_within p d u line shows) kp.own_within kp.across_within in
      let low = to_low_at K L sheets there (is_into d) in
      let high = to_high_at K L sheets there (is_into d) in
      let own = λ (v : ℕ). better_of K (get_or L (place (edges_of ps p) v) K.none) (by_half_at K low high sheets there.own (is_into d) (place (edges_of ps p) v)) in
      let across = λ (v : ℕ). by_half_at K low high sheets there.across (is_into d) (place (edges_of ps (across_of ps p)) v) in
      let way = λ (k : ℕ). climb_at K L sheets there (is_into d) low high (get_or E k 0) in
      subst (λ (x : Step). LineShows K n e (piece_at ps x.up) m (is_into d) u (shown means line')) (sym is)
      (kp.climbs (is_into d) u L (shown means line') t shows
      (record {
        climbs = λ k b. f.places k (omega arith) ∙ cond-true (ltb k (length E)) (way k) K.none (lt-ltb k (length E) b)
            ∙ one_holds (among (edges_of ps p) (get_or E k 0)) (among (edges_of ps (across_of ps p)) (get_or E k 0)) (own (get_or E k 0)) (across (get_or E k 0)) K.none
            (⊎_elim (λ w. inl ((among_decided (edges_of ps p) (get_or E k 0)).1 w)) (λ w. inr ((among_decided (edges_of ps (across_of ps p)) (get_or E k 0)).1 w)) (kp.edges_kept (get_or E k 0) (at_among E k b)));
        unused = λ k b. ⊎_elim
            (λ q. f.places k q ∙ cond-false (ltb k (length E)) (way k) K.none (le-ltb k (length E) b))
            (λ q. get_or_past (shown means line') k K.none (omega (arith, f.short)))
            (cases_lt k 8);
      }))

  -- after k turns up from the piece from, the way of u has come to p
  pub record Rises (stop from u p k : ℕ) : Type 0 where
    pub reaches : ReachesFrom a n stop u p
    pub levels : (piece_at ps p).level + k ≡ (piece_at ps from).level

  pub rise_starts : (stop from u : ℕ) → ReachesFrom a n stop u from → Rises stop from u from 0
  rise_starts stop from u r = record { reaches = r; levels = omega arith }

  -- no way up is longer than 40 levels
  pub rise_ends : (stop from u p k : ℕ) → from + 5 < 2 * n → Rises stop from u p k → 41 ≤ k → ⊥
  rise_ends stop from u p k l w z = omega (arith, w.levels, (h.stands.division.stands from l).not_deeper)

  -- a piece below another is not the first, so that there is a step up from it
  pub above_first : (stop u p : ℕ) → ReachesFrom a n stop u p → (p ≡ stop → ⊥) → 0 < p
  above_first stop u p w ne = (ways_up n e ps h.stands.filled h.stands.division stop p w.in_range w.below ne).not_first

  pub step_there : (p : ℕ) → 0 < p → p + 5 < 2 * n → SeamStands e ps p
  step_there p z l = (keeps p z l).stands

  pub rise_turn : (stop from u p k : ℕ) (s : Step) → Rises stop from u p k → (p ≡ stop → ⊥) → IsStepFrom a p s → Rises stop from u s.up (k + 1)
  rise_turn stop from u p k s w ne is =
      let v = ways_up n e ps h.stands.filled h.stands.division stop p w.reaches.in_range w.reaches.below ne in
      subst (λ (x : Step). Rises stop from u x.up (k + 1)) (sym is)
      (record {
        reaches = record { in_range = v.in_range; below = v.below; touches = v.touches u w.reaches.touches };
        levels = omega (arith, v.one_level, w.levels);
      })

  -- the rate between two lines by places
  abbrev pub SeamPlaces : Step → Half → Line V → Line V → V → Type 0
  SeamPlaces s there row column r =
      Within K (shown means row) → Within K (shown means column) → Within K (sheet_of K sheets s.across.piece)
      → means r ≡ by_seam_at K (shown means row) sheets s there (shown means column)

  -- what is known one step up
  pub known_up : (p u v : ℕ) (s : Step) (known : Known V) (row column : Line V) (way best : V) → 0 < p → p + 5 < 2 * n → IsStepFrom a p s → TouchesPiece a n p u → TouchesPiece a n p v → KnownAt K means a n m p u v known → SeamPlaces s s.own known.row known.column way → ClimbedPlaces s From known.row row → ClimbedPlaces s Into known.column column → means best ≡ better_of K (means known.best) (means way) → KnownAt K means a n m s.up u v (record { row = row; column = column; best = best })
  known_up p u v s known row column way best z l is tu tv w places climbed_row climbed_column better =
      let kp = keeps p z l in
      let there = step_at e ps p in
      let f = subst (λ x. SeamPlaces x x.own known.row known.column way) is places (line_within p From u known.row w.row) (line_within p Into v known.column w.column) kp.across_within in
      record {
        row = line_up p u From known.row row s z l tu w.row is climbed_row;
        column = line_up p v Into known.column column s z l tv w.column is climbed_column;
        best = subst (λ (x : Step). BestRate K (lanes_of K n e ps m x.up) u v (means best)) (sym is)
            (subst (BestRate K (lanes_of K n e ps m there.up) u v) (sym (better ∙ ap (better_of K (means known.best)) f))
            (kp.same_side u v (shown means known.row) (shown means known.column) (means known.best) tu tv w.row w.column w.best));
      }

  -- the children of the piece p, where it is parted between u and v
  pub parted_there : (stop p u v own : ℕ) (P : Piece) → PartsFrom a n stop u v p → (Ending (piece_at ps p) u v → ⊥) → P ≡ piece_at ps p → own ≡ towards e P u → PartedAt n e ps p u v own (across_of ps own)
  parted_there stop p u v own P w apart f g =
      let is_own : own ≡ towards e (piece_at ps p) u = g ∙ ap (λ x. towards e x u) f in
      subst (λ x. PartedAt n e ps p u v x (across_of ps x)) (sym is_own)
      (parted_between_children n e ps h.stands.filled h.stands.division p u v w.reaches_first.in_range (λ z. apart (inl z))
      w.reaches_first.touches w.reaches_second.touches (w.ends_or_parts apart))

  -- where the piece p is parted between u and v: what is known there, from the lines at its children
  pub known_parted : (p u v own : ℕ) (near far : Step) (first last row column : Line V) (best : V) → PartedAt n e ps p u v own (across_of ps own) → IsStepFrom a own near → IsStepFrom a near.across.piece far → LineAt K means a n m own From u first → LineAt K means a n m near.across.piece Into v last → ClimbedPlaces near From first row → ClimbedPlaces far Into last column → SeamPlaces near near.across first last best → KnownAt K means a n m p u v (record { row = row; column = column; best = best })
  known_parted p u v own near far first last row column best w is_near is_far kr kc climbed_row climbed_column places =
      let kp = keeps own w.own_not_first w.own_in_range in
      let across = across_of ps own in
      let is_across : near.across.piece ≡ across = ap (λ (x : Step). x.across.piece) is_near in
      let is_far' : IsStepFrom a across far = subst (λ x. IsStepFrom a x far) is_across is_far in
      let kc' : LineAt K means a n m across Into v last = subst (λ x. LineAt K means a n m x Into v last) is_across kc in
      let up_near : near.up ≡ p = ap (λ (x : Step). x.up) is_near ∙ w.own_parent in
      let up_far : far.up ≡ p = ap (λ (x : Step). x.up) is_far' ∙ w.across_parent in
      let f = subst (λ x. SeamPlaces x x.across first last best) is_near places (line_within own From u first kr) (line_within across Into v last kc') kp.across_within in
      record {
        row = subst (λ x. LineAt K means a n m x From u row) up_near
            (line_up own u From first row near w.own_not_first w.own_in_range w.own_touches kr is_near climbed_row);
        column = subst (λ x. LineAt K means a n m x Into v column) up_far
            (line_up across v Into last column far w.across_not_first w.across_in_range w.across_touches kc' is_far' climbed_column);
        best = subst (λ x. BestRate K (lanes_of K n e ps m x) u v (means best)) w.own_parent
            (subst (BestRate K (lanes_of K n e ps m (piece_at ps own).parent) u v) (sym f)
            (kp.other_side u v (shown means first) (shown means last) w.own_touches w.across_touches kr kc'));
      }

  -- the best rate of a closed way
  pub still_best : (p u v : ℕ) (r : V) → u ≡ v → means r ≡ K.still → BestWithin K means a n m p u v r
  still_best p u v r z f =
      subst (λ w. BestRate K (piece_lanes K n e (piece_at ps p) m) u w (means r)) z
      (subst (BestRate K (piece_lanes K n e (piece_at ps p) m) u u) (sym f)
      (rate_of_best K X (record { reached = reached_stay K X; unbeaten = closed_no_better K X (piece_no_earning K X n e (piece_at ps p) m h.stands.lanes.no_earning) u })))

  -- the whole plan
  pub whole_best : (u v : ℕ) (r : V) → BestWithin K means a n m 0 u v r → BestRate K m u v (means r)
  whole_best u v r b =
      subst (λ x. BestRate K x u v (means r)) (whole_lanes n e h.stands.filled ps h.stands.division K X m area h.stands.shown) b

  pub whole_touched : (u : ℕ) → u < n → TouchesPiece a n 0 u
  whole_touched u l = all_touch_whole n e h.stands.filled ps h.stands.division u l
