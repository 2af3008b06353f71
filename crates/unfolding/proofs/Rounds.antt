-- What the parts of one split have to do with one another: those of the same child share no terminal.
-- Assumes the laws of the kind and a plan in order with the best rates within its pieces.
use Rattle.std.proofs.Common.{◌≡◌, ℕ, ◌+◌, ◌*◌, ◌<◌, Bool, true, false, not, eqb, leb, ◌⊎◌, List, [], ◌∷◌, ◌++◌, sym, refl, ap, ◌∙◌, subst, inl, inr, ⊎_elim, arith}
use Rattle.std.specs.List.{AllByRecursion}
use Rattle.std.proofs.lemmas.Bool.{and_parts, or_cases, leb-true, cond_both}
use Rattle.rates.specs.Kinds.{Kind, Laws, NoWorse}
use Rattle.rates.specs.Order.{le_from, le_trans, join_right, join_still, left_commutative, not_both}
use Rattle.trips.specs.Trips.{LaneMap, NoEarning, Fewer}
use Rattle.trips.specs.Theorems.{Linked, rate_along, final}
use Rattle.trips.proofs.Walks.{Reached, Best, best_of_rate, unbeaten_reached, reached_join, reached_fewer, closed_reached}
use Rattle.trips.proofs.Shown.{stops_are_a_trip}
use Rattle.ring.specs.declared.Side.{Side}
use Rattle.records.specs.declared.Piece.{Piece}
use Rattle.records.specs.Few.{listed, Among}
use Rattle.pieces.specs.Sides.{Ends, ends_of}
use Rattle.pieces.specs.Holding.{piece_at}
use Rattle.piece_rates.specs.Lanes.{piece_lanes}
use Rattle.piece_rates.specs.Climbing.{seam_ends}
use Rattle.piece_rates.specs.Touching.{Touches}
use Rattle.unfolding.specs.Parts.{Part, kept, lies, together, home, child, part_rate, child_part, child_rate, round_rate, round_parts, round_end, split_together, across_parts, across_end, split_across, split_at}
use Rattle.unfolding.specs.Splitting.{Cut, Rated, TripAlong}
use Rattle.unfolding.proofs.Along.{linked_left, linked_right, along_append, final_append}
use Rattle.unfolding.proofs.Apart.{EndsAmong}
use Rattle.unfolding.proofs.Splits.{lanes_earn_not, shape, child_range, seam_touches, touches_child, meeting, in_one, in_two}

-- a list of stops cut at one of them
record CutAt (u w : ℕ) (list : List ℕ) : Type 0 where
  front : List ℕ
  back : List ℕ
  whole : front ++ back ≡ list
  ends : final u front ≡ w

cut_at : (u w : ℕ) (list : List ℕ) → Among w (u ∷ list) → CutAt u w list
cut_at u w [] (inl z) = record { front = []; back = []; whole = refl; ends = sym z }
cut_at u w [] (inr h) = absurd h
cut_at u w (x ∷ list) (inl z) = record { front = []; back = x ∷ list; whole = refl; ends = sym z }
cut_at u w (x ∷ list) (inr h) =
    let c = cut_at x w list h in
    record { front = x ∷ c.front; back = c.back; whole = ap (λ l. x ∷ l) c.whole; ends = c.ends }

pub kept_all : (P : Part → Type 0) (q : Part) (rest : List Part) → P q → AllByRecursion P rest → AllByRecursion P (kept q rest)
kept_all P q rest h k = cond_both (eqb q.from q.to) rest (q ∷ rest) (AllByRecursion P) (λ t. k) (λ t. (h, k))

module _ {M : Type 0} (K : Kind M) (X : Laws K) where
  along_reached : (m : LaneMap M) (u v : ℕ) (list : List ℕ) → Linked K m u list → final u list ≡ v → Reached K X m u v (rate_along K m u list)
  along_reached m u v list h z =
      let t = (stops_are_a_trip K X m u).0 list h in
      subst (λ w. Reached K X m u w (rate_along K m u list)) z (inr (t.0, t.1.rate_is))

  -- the rates up to a stop and from it on
  record Halves (m : LaneMap M) (u w v : ℕ) (r : M) : Type 0 where
    before : M
    after : M
    before_reached : Reached K X m u w before
    after_reached : Reached K X m w v after
    rates : r ≡ K.join before after

  halves : (m : LaneMap M) (u w v : ℕ) (r : M) (list : List ℕ) → TripAlong K m u v r list → Among w (u ∷ list) → Halves m u w v r
  halves m u w v r list t h =
      let c = cut_at u w list h in
      let both : Linked K m u (c.front ++ c.back) = subst (Linked K m u) (sym c.whole) t.linked in
      record {
        before = rate_along K m u c.front;
        after = rate_along K m (final u c.front) c.back;
        before_reached = along_reached m u w c.front (linked_left K X m u c.front c.back both) c.ends;
        after_reached = subst (λ z. Reached K X m z v (rate_along K m (final u c.front) c.back)) c.ends
            (along_reached m (final u c.front) v c.back (linked_right K X m u c.front c.back both)
            (sym (final_append u c.front c.back) ∙ ap (final u) c.whole ∙ t.ends_there));
        rates = sym t.rate_is ∙ ap (rate_along K m u) (sym c.whole) ∙ along_append K X m u c.front c.back;
      }

  regrouped : (a b c d t : M) → K.join (K.join a d) (K.join (K.join b t) c) ≡ K.join (K.join (K.join a b) t) (K.join c d)
  regrouped a b c d t = simp (X.join_associative, X.join_commutative, left_commutative K X)

  -- Going round from u by x and y to v is strictly better than any trip within l from u to v. Then a trip within l from u to x
  -- and one from y to v share no terminal: by a shared w one could go from u to w and from w to v within l, and what is left
  -- out, from w by x and y back to w, is closed and does not earn.
  pub share_nothing : (l whole : LaneMap M) → Fewer K l whole → NoEarning K whole → (u v x y : ℕ) (direct there across back : M)
      → Best K X l u v direct → Reached K X whole x y across → K.better (K.join (K.join there across) back) direct ≡ true
      → (out home : List ℕ) → TripAlong K l u x there out → TripAlong K l y v back home
      → (w : ℕ) → Among w (u ∷ out) → Among w (y ∷ home) → ⊥
  share_nothing l whole f ne u v x y direct there across back best reached better out home t s w p q =
      let a = halves l u w x there out t p in
      let b = halves l y w v back home s q in
      let straight = unbeaten_reached K X best.unbeaten (reached_join K X a.before_reached b.after_reached) in
      let loop = closed_reached K X ne w (reached_join K X (reached_join K X (reached_fewer K X f a.after_reached) reached) (reached_fewer K X f b.before_reached)) in
      let ad = K.join a.before b.after in
      let round = K.join (K.join a.after across) b.before in
      not_both K X better
      (le_trans K X straight
      (le_trans K X (subst (λ r. NoWorse K r (K.join ad round)) (join_still K X ad) (join_right K X ad loop))
      (le_from K X (K.join ad round) (K.join (K.join there across) back)
      (regrouped a.before a.after b.before b.after across
      ∙ ap (λ r. K.join (K.join r across) (K.join b.before b.after)) (sym a.rates)
      ∙ ap (K.join (K.join there across)) (sym b.rates)))))

  module _ (n : ℕ) (m : LaneMap M) (sides : List Side) (ps : List Piece) (area sheets : List M) (best : ℕ → ℕ → ℕ → M)
      (rated : Rated K n m sides ps area sheets best) where
    abbrev e : Ends
    e = ends_of sides

    abbrev pub lanes_of : ℕ → LaneMap M
    lanes_of p = piece_lanes K n (ends_of sides) (piece_at ps p) m

    -- a trip along these stops that a part asks for
    abbrev pub Along : Part → List ℕ → Type 0
    Along q list = TripAlong K (lanes_of q.piece) q.from q.to (part_rate K best q) list

    -- two parts are of different pieces, or their trips share no terminal
    abbrev pub Separate : Part → Part → Type 0
    Separate a b =
        (a.piece ≡ b.piece → ⊥)
        ⊎ ((out home : List ℕ) → Along a out → Along b home → (w : ℕ) → Among w (a.from ∷ out) → Among w (b.from ∷ home) → ⊥)

    abbrev pub Pairwise : List Part → Type 0
    Pairwise [] = Unit {0}
    Pairwise (q ∷ parts) = AllByRecursion (Separate q) parts × Pairwise parts

    kept_pairwise : (q : Part) (rest : List Part) → AllByRecursion (Separate q) rest → Pairwise rest → Pairwise (kept q rest)
    kept_pairwise q rest h k = cond_both (eqb q.from q.to) rest (q ∷ rest) Pairwise (λ t. k) (λ t. (h, k))

    module _ (p : ℕ) (r : p + 5 < 2 * n) (c : Cut n (ends_of sides) ps p) where
      abbrev P : Piece
      P = piece_at ps p

      abbrev x : ℕ
      x = e.low P.seam

      abbrev y : ℕ
      y = e.high P.seam

      abbrev seam : Bool → ℕ
      seam i = seam_ends x y i

      pub child_fewer : (b : Bool) → Fewer K (lanes_of (child P b)) (lanes_of p)
      child_fewer true = (meeting K X n m sides ps area sheets best rated p r c).part_in_whole true
      child_fewer false = (meeting K X n m sides ps area sheets best rated p r c).part_in_whole false

      within : (b : Bool) (u v : ℕ) → Touches n e (piece_at ps (child P b)) u → Touches n e (piece_at ps (child P b)) v → Best K X (lanes_of (child P b)) u v (best (child P b) u v)
      within b u v s t = best_of_rate K X (rated.best_within (child P b) (child_range K X n m sides ps area sheets best rated p r c b) u v s t)

      differ : (b : Bool) → child P b ≡ child P (not b) → ⊥
      differ true z = let l = c.in_order in omega arith
      differ false z = let l = c.in_order in omega arith

      differ_back : (b : Bool) → child P (not b) ≡ child P b → ⊥
      differ_back b z = differ b (sym z)

      module _ (u v : ℕ) (tu : Touches n e P u) (tv : Touches n e P v) (st : best p u v ≡ K.none → ⊥) where
        -- the shapes that a split can have
        pub split_cases : (Q : List Part → Type 0)
            → ((b i : Bool) → lies x y b u ≡ true → lies x y b v ≡ true → K.better (round_rate K best P x y u v b i) (child_rate K best P x y u v b u v) ≡ true → Q (round_parts K best P x y u v b i))
            → ((b : Bool) → lies x y b u ≡ true → lies x y b v ≡ true → Q (kept (child_part K best P x y u v b u v) []))
            → ((b i : Bool) → lies x y b u ≡ true → lies x y (not b) v ≡ true → Q (across_parts K best P x y u v b i))
            → Q (split_at K best P x y u v)
        split_cases Q round one across =
            let b = home x y u v in
            let i = round_end K best P x y u v b in
            cond_both (together x y u v) (split_together K best P x y u v b) (split_across K best P x y u v b) Q
            (λ t.
            let h = in_one K X n m sides ps area sheets best rated p r c u v tu tv st t in
            cond_both (K.better (round_rate K best P x y u v b i) (child_rate K best P x y u v b u v)) (round_parts K best P x y u v b i) (kept (child_part K best P x y u v b u v) []) Q
            (λ s. round b i h.0 h.1 s) (λ s. one b h.0 h.1))
            (λ t.
            let h = in_two K X n m sides ps area sheets best rated p r c u v tu tv st t in
            across b (across_end K best P x y u v b) h.0 h.1)

        touching : (b : Bool) (w : ℕ) → Touches n e P w → lies x y b w ≡ true → Touches n e (piece_at ps (child P b)) w
        touching b w t h = touches_child K X n m sides ps area sheets best rated p r c b w t h

        at_seam : (b i : Bool) → Touches n e (piece_at ps (child P b)) (seam i)
        at_seam b i = seam_touches K X n m sides ps area sheets best rated p r c b i

        pub split_separate : Pairwise (split_at K best P x y u v)
        split_separate = split_cases Pairwise
            (λ b i hu hv s.
            let q = child_part K best P x y u v b u (seam i) in
            let q' = child_part K best P x y u v (not b) (seam i) (seam (not i)) in
            let q'' = child_part K best P x y u v b (seam (not i)) v in
            kept_pairwise q (kept q' (kept q'' []))
            (kept_all (Separate q) q' (kept q'' []) (inl (differ b)) (kept_all (Separate q) q'' []
            (inr (share_nothing (lanes_of (child P b)) (lanes_of p) (child_fewer b) (lanes_earn_not K X n m sides ps area sheets best rated p) u v (seam i) (seam (not i))
            (best (child P b) u v) (best (child P b) u (seam i)) (best (child P (not b)) (seam i) (seam (not i))) (best (child P b) (seam (not i)) v)
            (within b u v (touching b u tu hu) (touching b v tv hv))
            (reached_fewer K X (child_fewer (not b)) (within (not b) (seam i) (seam (not i)) (at_seam (not b) i) (at_seam (not b) (not i))).reached)
            s))
            tt))
            (kept_pairwise q' (kept q'' []) (kept_all (Separate q') q'' [] (inl (differ_back b)) tt) (kept_pairwise q'' [] tt tt)))
            (λ b hu hv. kept_pairwise (child_part K best P x y u v b u v) [] tt tt)
            (λ b i hu hv.
            let q = child_part K best P x y u v b u (seam i) in
            let q' = child_part K best P x y u v (not b) (seam i) v in
            kept_pairwise q (kept q' []) (kept_all (Separate q) q' [] (inl (differ b)) tt) (kept_pairwise q' [] tt tt))

        -- An edge terminal of the piece that lies in a child is an edge terminal of the child: it is one of some child, and
        -- one that lies in both is an end of the seam.
        edge_child : (b : Bool) (w : ℕ) → lies x y b w ≡ true → Among w (listed P.edges) → Among w (listed (piece_at ps (child P b)).edges)
        edge_child true w h a =
            let k = and_parts (leb x w) (leb w y) h in
            let l = leb-true x w k.0 in
            let l' = leb-true w y k.1 in
            let s = shape K X n m sides ps area sheets best rated p r c in
            ⊎_elim (λ o. o)
            (λ o. ⊎_elim
            (λ g. let z : x ≡ w = omega arith in subst (λ t. Among t (listed (piece_at ps P.first).edges)) z s.seam_first.0)
            (λ g. let z : y ≡ w = omega arith in subst (λ t. Among t (listed (piece_at ps P.first).edges)) z s.seam_first.1)
            (s.second_edges_outside w o))
            (s.edges_kept w a)
        edge_child false w h a =
            let s = shape K X n m sides ps area sheets best rated p r c in
            ⊎_elim
            (λ o.
            let k = s.first_edges_inside w o in
            let l = k.0 in
            let l' = k.1 in
            ⊎_elim
            (λ g. let g' = leb-true w x g in let z : x ≡ w = omega arith in subst (λ t. Among t (listed (piece_at ps P.second).edges)) z s.seam_second.0)
            (λ g. let g' = leb-true y w g in let z : y ≡ w = omega arith in subst (λ t. Among t (listed (piece_at ps P.second).edges)) z s.seam_second.1)
            (or_cases (leb w x) (leb y w) h))
            (λ o. o)
            (s.edges_kept w a)

        seam_edge : (b i : Bool) → Among (seam i) (listed (piece_at ps (child P b)).edges)
        seam_edge true true = (shape K X n m sides ps area sheets best rated p r c).seam_first.0
        seam_edge true false = (shape K X n m sides ps area sheets best rated p r c).seam_first.1
        seam_edge false true = (shape K X n m sides ps area sheets best rated p r c).seam_second.0
        seam_edge false false = (shape K X n m sides ps area sheets best rated p r c).seam_second.1

        -- the ends of parts stay among s, t and the edge terminals
        module _ (s t : ℕ) where
          abbrev pub known : ℕ → List ℕ
          known q = s ∷ t ∷ listed (piece_at ps q).edges

          known_child : (b : Bool) (w : ℕ) → lies x y b w ≡ true → Among w (known p) → Among w (known (child P b))
          known_child b w h (inl z) = inl z
          known_child b w h (inr (inl z)) = inr (inl z)
          known_child b w h (inr (inr a)) = inr (inr (edge_child b w h a))

          known_seam : (b i : Bool) → Among (seam i) (known (child P b))
          known_seam b i = inr (inr (seam_edge b i))

          pub split_known : Among u (known p) → Among v (known p) → AllByRecursion (EndsAmong known) (split_at K best P x y u v)
          split_known ku kv = split_cases (AllByRecursion (EndsAmong known))
              (λ b i hu hv better.
              let q = child_part K best P x y u v b u (seam i) in
              let q' = child_part K best P x y u v (not b) (seam i) (seam (not i)) in
              let q'' = child_part K best P x y u v b (seam (not i)) v in
              kept_all (EndsAmong known) q (kept q' (kept q'' [])) (known_child b u hu ku, known_seam b i)
              (kept_all (EndsAmong known) q' (kept q'' []) (known_seam (not b) i, known_seam (not b) (not i))
              (kept_all (EndsAmong known) q'' [] (known_seam b (not i), known_child b v hv kv) tt)))
              (λ b hu hv. kept_all (EndsAmong known) (child_part K best P x y u v b u v) [] (known_child b u hu ku, known_child b v hv kv) tt)
              (λ b i hu hv.
              let q = child_part K best P x y u v b u (seam i) in
              let q' = child_part K best P x y u v (not b) (seam i) v in
              kept_all (EndsAmong known) q (kept q' []) (known_child b u hu ku, known_seam b i)
              (kept_all (EndsAmong known) q' [] (known_seam (not b) i, known_child (not b) v hv kv) tt))
