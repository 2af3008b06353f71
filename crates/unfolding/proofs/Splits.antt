-- A part of a cut piece is split into parts of its children that follow on one another and have its rate.
-- Assumes the laws of the kind and a plan in order with the best rates within its pieces.
use Rattle.std.proofs.Common.{◌≡◌, ℕ, suc, ◌+◌, ◌*◌, ◌<◌, ◌≤◌, Bool, true, false, cond, not, ◌&&◌, ◌||◌, eqb, leb, ◌⊎◌, List, [], ◌∷◌, map, length, sym, refl, ap, ◌∙◌, subst, inl, inr, ⊎_elim, arith}
use Rattle.std.specs.List.{AllByRecursion}
use Rattle.std.proofs.lemmas.Bool.{and_parts, and_from, or_cases, or_left, or_right, leb-true, le-leb, cases_lt, cond-true, cond-false, cond_both, eqb-true, eqb-false, true≢false, false≢true}
use Rattle.rates.specs.Kinds.{Kind, Laws}
use Rattle.rates.specs.Many.{better_of, joined_all}
use Rattle.rates.specs.Order.{same, join_still, join_none}
use Rattle.trips.specs.Trips.{LaneMap, rate, NoEarning, BestRate}
use Rattle.trips.specs.Trips.Trip.{stay}
use Rattle.trips.specs.Climbs.{Meeting}
use Rattle.trips.proofs.Walks.{Best, best_of_rate, closed_reached}
use Rattle.ring.specs.declared.Side.{Side}
use Rattle.records.specs.declared.Piece.{Piece}
use Rattle.pieces.specs.Sides.{Ends, ends_of, Filled}
use Rattle.pieces.specs.Holding.{piece_at}
use Rattle.pieces.specs.Division.{Division}
use Rattle.piece_rates.specs.Lanes.{piece_lanes}
use Rattle.piece_rates.specs.Climbing.{CutShape, seam_ends}
use Rattle.piece_rates.specs.Touching.{Touches}
use Rattle.piece_rates.proofs.Cuts.{cuts_have_shape}
use Rattle.piece_rates.proofs.Parents.{meets}
use Rattle.piece_rates.proofs.Sizes.{piece_no_earning}
use Rattle.piece_rates.proofs.Touching.{seam_touches_first, seam_touches_second, inside_touches_first, outside_touches_second}
use Rattle.unfolding.specs.Parts.{Part, kept, lies, together, home, child, part_rate, child_part, child_rate, round_rate, round_parts, round_end, split_together, across_rate, across_parts, across_end, split_across, split_at, split}
use Rattle.unfolding.specs.Splitting.{Chain, Cut, Rated, PartStands, ChildPart, SplitStands, SplitKeepsTheRate}
use Rattle.unfolding.proofs.Ways.{together_best, across_best}

-- the child that home names: a and b say whether the first child has the two terminals, a' and b' whether the second has
home_together : (a b a' b' : Bool) → ((a && b) || (a' && b')) ≡ true
    → (cond (cond (a && b) true (cond (a' && b') false a)) a a' ≡ true) × (cond (cond (a && b) true (cond (a' && b') false a)) b b' ≡ true)
home_together true true a' b' h = (refl, refl)
home_together true false true true h = (refl, refl)
home_together true false true false h = absurd (false≢true h)
home_together true false false b' h = absurd (false≢true h)
home_together false b true true h = (refl, refl)
home_together false b true false h = absurd (false≢true h)
home_together false b false b' h = absurd (false≢true h)

home_across : (a b a' b' : Bool) → (a ≡ true) ⊎ (a' ≡ true) → (b ≡ true) ⊎ (b' ≡ true) → ((a && b) || (a' && b')) ≡ false
    → (cond (cond (a && b) true (cond (a' && b') false a)) a a' ≡ true) × (cond (not (cond (a && b) true (cond (a' && b') false a))) b b' ≡ true)
home_across true true a' b' p q h = absurd (true≢false h)
home_across true false true true p q h = absurd (true≢false h)
home_across true false true false p (inl q) h = absurd (false≢true q)
home_across true false true false p (inr q) h = absurd (false≢true q)
home_across true false false true p q h = (refl, refl)
home_across true false false false p (inl q) h = absurd (false≢true q)
home_across true false false false p (inr q) h = absurd (false≢true q)
home_across false b true true p q h = absurd (true≢false h)
home_across false true true false p q h = (refl, refl)
home_across false false true false p (inl q) h = absurd (false≢true q)
home_across false false true false p (inr q) h = absurd (false≢true q)
home_across false b false b' (inl p) q h = absurd (false≢true p)
home_across false b false b' (inr p) q h = absurd (false≢true p)

-- some child has a terminal
lies_somewhere : (x y u : ℕ) → (lies x y true u ≡ true) ⊎ (lies x y false u ≡ true)
lies_somewhere x y u =
    ⊎_elim (λ l. inr (or_left (leb u x) (leb y u) (le-leb u x (omega arith))))
    (λ l. ⊎_elim
    (λ k. inr (or_right (leb u x) (leb y u) (le-leb y u (omega arith))))
    (λ k. inl (and_from (leb x u) (leb u y) (le-leb x u l) (le-leb u y k)))
    (cases_lt y u))
    (cases_lt u x)

module _ {M : Type 0} (K : Kind M) (X : Laws K) where
  -- from a terminal to itself nothing is better than staying
  pub closed_is_still : (l : LaneMap M) → NoEarning K l → (u v : ℕ) (r : M) → BestRate K l u v r → u ≡ v → r ≡ K.still
  unfolding rate
  closed_is_still l ne u v r b z = at (best_of_rate K X (subst (λ w. BestRate K l u w r) (sym z) b))
    where
      at : Best K X l u u r → r ≡ K.still
      at h = same K X (h.unbeaten stay) (closed_reached K X ne u h.reached)

  pub left_stands : (a b : M) → (K.join a b ≡ K.none → ⊥) → a ≡ K.none → ⊥
  left_stands a b h z = h (ap (λ t. K.join t b) z ∙ X.none_absorbs b)

  pub right_stands : (a b : M) → (K.join a b ≡ K.none → ⊥) → b ≡ K.none → ⊥
  right_stands a b h z = h (ap (K.join a) z ∙ join_none K X a)

  module _ (n : ℕ) (m : LaneMap M) (sides : List Side) (ps : List Piece) (area sheets : List M) (best : ℕ → ℕ → ℕ → M)
      (rated : Rated K n m sides ps area sheets best) where
    abbrev e : Ends
    e = ends_of sides

    abbrev filled : Filled n (ends_of sides)
    filled = rated.in_order.stands.filled

    abbrev division : Division n (ends_of sides) ps
    division = rated.in_order.stands.division

    abbrev lanes_of : ℕ → LaneMap M
    lanes_of p = piece_lanes K n e (piece_at ps p) m

    pub lanes_earn_not : (p : ℕ) → NoEarning K (lanes_of p)
    lanes_earn_not p = piece_no_earning K X n e (piece_at ps p) m rated.in_order.stands.lanes.no_earning

    module _ (p : ℕ) (r : p + 5 < 2 * n) (c : Cut n (ends_of sides) ps p) where
      abbrev P : Piece
      P = piece_at ps p

      abbrev x : ℕ
      x = e.low P.seam

      abbrev y : ℕ
      y = e.high P.seam

      abbrev seam : Bool → ℕ
      seam i = seam_ends x y i

      abbrev Touching : Bool → ℕ → Type 0
      Touching b u = Touches n e (piece_at ps (child P b)) u

      pub shape : CutShape n e x y P (piece_at ps P.first) (piece_at ps P.second)
      shape = cuts_have_shape n e ps filled division p r c

      pub child_range : (b : Bool) → child P b + 5 < 2 * n
      child_range true = omega (arith, c.in_order, c.in_range)
      child_range false = c.in_range

      child_level : (b : Bool) → (piece_at ps (child P b)).level ≡ P.level + 1
      child_level true = c.first_level
      child_level false = c.second_level

      pub seam_touches : (b i : Bool) → Touching b (seam i)
      seam_touches true true = seam_touches_first n e filled ps division p r c x (inl refl)
      seam_touches true false = seam_touches_first n e filled ps division p r c y (inr refl)
      seam_touches false true = seam_touches_second n e filled ps division p r c x (inl refl)
      seam_touches false false = seam_touches_second n e filled ps division p r c y (inr refl)

      pub touches_child : (b : Bool) (u : ℕ) → Touches n e P u → lies x y b u ≡ true → Touching b u
      touches_child true u t h =
          let k = and_parts (leb x u) (leb u y) h in
          inside_touches_first n e filled ps division p r c u t (leb-true x u k.0) (leb-true u y k.1)
      touches_child false u t h =
          outside_touches_second n e filled ps division p r c u t
          (⊎_elim (λ k. inl (leb-true u x k)) (λ k. inr (leb-true y u k)) (or_cases (leb u x) (leb y u) h))

      -- the lanes of the two children as the climb names them
      abbrev part : Bool → LaneMap M
      part b = piece_lanes K n e (cond b (piece_at ps P.first) (piece_at ps P.second)) m

      pub meeting : Meeting K (lanes_of p) part (lies x y) seam
      meeting = meets K X n e x y P (piece_at ps P.first) (piece_at ps P.second) m shape

      pub child_best : (b : Bool) (u v : ℕ) → Touching b u → Touching b v → Best K X (part b) u v (best (child P b) u v)
      child_best true u v s t = best_of_rate K X (rated.best_within P.first (child_range true) u v s t)
      child_best false u v s t = best_of_rate K X (rated.best_within P.second (child_range false) u v s t)

      -- a part that is to be left out where its ends are the same
      record Fits (b : Bool) (u v : ℕ) : Type 0 where
        from_touches : Touching b u
        to_touches : Touching b v
        some_trip : best (child P b) u v ≡ K.none → ⊥

      record Built (u v : ℕ) (s : M) (k : ℕ) (parts : List Part) : Type 0 where
        few : length parts ≤ k
        chain : Chain u v parts
        children : AllByRecursion (ChildPart K n e ps best p) parts
        same_rate : joined_all K (map (part_rate K best) parts) ≡ s

      built_nothing : (v : ℕ) → Built v v K.still 0 []
      built_nothing v = record { few = omega arith; chain = refl; children = tt; same_rate = refl }

      keep : (b : Bool) (u w v : ℕ) (s : M) (k : ℕ) (parts : List Part) → Fits b u w → Built w v s k parts
          → Built u v (K.join (best (child P b) u w) s) (suc k) (kept (record { piece = child P b; from = u; to = w }) parts)
      keep b u w v s k parts f h =
          cond_both (eqb u w) parts (record { piece = child P b; from = u; to = w } ∷ parts) (Built u v (K.join (best (child P b) u w) s) (suc k))
          (λ t.
          let z = eqb-true u w t in
          record {
            few = omega (arith, h.few);
            chain = subst (λ a. Chain a v parts) (sym z) h.chain;
            children = h.children;
            same_rate = h.same_rate ∙ sym (X.still_joins_to_same s)
                ∙ ap (λ a. K.join a s) (sym (closed_is_still (lanes_of (child P b)) (lanes_earn_not (child P b)) u w (best (child P b) u w)
                (rated.best_within (child P b) (child_range b) u w f.from_touches f.to_touches) z));
          })
          (λ t. record {
            few = omega (arith, h.few);
            chain = (refl, h.chain);
            children = (
              record {
                stands = record { in_range = child_range b; from_touches = f.from_touches; to_touches = f.to_touches; ends_differ = eqb-false u w t; some_trip = f.some_trip };
                which = (b, refl);
                level = child_level b;
              },
              h.children,
            );
            same_rate = ap (K.join (best (child P b) u w)) h.same_rate;
          })

      at_rate : (u v : ℕ) (s s' : M) (k : ℕ) (parts : List Part) → k ≤ 3 → s ≡ s' → Built u v s k parts → Built u v s' 3 parts
      at_rate u v s s' k parts l z h = record { few = omega (arith, h.few); chain = h.chain; children = h.children; same_rate = h.same_rate ∙ z }

      module _ (u v : ℕ) where
        one_built : (b : Bool) → Touching b u → Touching b v → (best (child P b) u v ≡ K.none → ⊥)
            → Built u v (best (child P b) u v) 3 (kept (child_part K best P x y u v b u v) [])
        one_built b tu tv st =
            at_rate u v (K.join (best (child P b) u v) K.still) (best (child P b) u v) 1 (kept (child_part K best P x y u v b u v) []) (omega arith)
            (join_still K X (best (child P b) u v))
            (keep b u v v K.still 0 [] (record { from_touches = tu; to_touches = tv; some_trip = st }) (built_nothing v))

        across_built : (b i : Bool) → Touching b u → Touching (not b) v → (across_rate K best P x y u v b i ≡ K.none → ⊥)
            → Built u v (across_rate K best P x y u v b i) 3 (across_parts K best P x y u v b i)
        across_built b i tu tv st =
            let a = best (child P b) u (seam i) in
            let a' = best (child P (not b)) (seam i) v in
            at_rate u v (K.join a (K.join a' K.still)) (K.join a a') 2 (across_parts K best P x y u v b i) (omega arith) (ap (K.join a) (join_still K X a'))
            (keep b u (seam i) v (K.join a' K.still) 1 (kept (child_part K best P x y u v (not b) (seam i) v) [])
            (record { from_touches = tu; to_touches = seam_touches b i; some_trip = left_stands a a' st })
            (keep (not b) (seam i) v v K.still 0 [] (record { from_touches = seam_touches (not b) i; to_touches = tv; some_trip = right_stands a a' st }) (built_nothing v)))

        round_built : (b i : Bool) → Touching b u → Touching b v → (round_rate K best P x y u v b i ≡ K.none → ⊥)
            → Built u v (round_rate K best P x y u v b i) 3 (round_parts K best P x y u v b i)
        round_built b i tu tv st =
            let a = best (child P b) u (seam i) in
            let a' = best (child P (not b)) (seam i) (seam (not i)) in
            let a'' = best (child P b) (seam (not i)) v in
            at_rate u v (K.join a (K.join a' (K.join a'' K.still))) (K.join (K.join a a') a'') 3 (round_parts K best P x y u v b i) (omega arith)
            (ap (λ t. K.join a (K.join a' t)) (join_still K X a'') ∙ sym (X.join_associative a a' a''))
            (keep b u (seam i) v (K.join a' (K.join a'' K.still)) 2 (kept (child_part K best P x y u v (not b) (seam i) (seam (not i))) (kept (child_part K best P x y u v b (seam (not i)) v) []))
            (record { from_touches = tu; to_touches = seam_touches b i; some_trip = left_stands a a' (left_stands (K.join a a') a'' st) })
            (keep (not b) (seam i) (seam (not i)) v (K.join a'' K.still) 1 (kept (child_part K best P x y u v b (seam (not i)) v) [])
            (record { from_touches = seam_touches (not b) i; to_touches = seam_touches (not b) (not i); some_trip = right_stands a a' (left_stands (K.join a a') a'' st) })
            (keep b (seam (not i)) v v K.still 0 [] (record { from_touches = seam_touches b (not i); to_touches = tv; some_trip = right_stands (K.join a a') a'' st }) (built_nothing v))))

        module _ (tu : Touches n e P u) (tv : Touches n e P v) (st : best p u v ≡ K.none → ⊥) where
          whole_best : Best K X (lanes_of p) u v (best p u v)
          whole_best = best_of_rate K X (rated.best_within p r u v tu tv)

          -- both in the child b
          pub together_rate : (b : Bool) → lies x y b u ≡ true → lies x y b v ≡ true
              → best p u v ≡ better_of K (child_rate K best P x y u v b u v) (round_rate K best P x y u v b (round_end K best P x y u v b))
          together_rate b hu hv =
              together_best K X (lanes_of p) part (lies x y) seam meeting (lanes_earn_not p)
              (λ c i j. best (child P c) (seam i) (seam j)) (λ c i j. child_best c (seam i) (seam j) (seam_touches c i) (seam_touches c j))
              b u hu (λ i. best (child P b) u (seam i)) (λ i. child_best b u (seam i) (touches_child b u tu hu) (seam_touches b i))
              v (λ i. best (child P b) (seam i) v) hv (λ i. child_best b (seam i) v (seam_touches b i) (touches_child b v tv hv))
              (best (child P b) u v) (child_best b u v (touches_child b u tu hu) (touches_child b v tv hv))
              (best p u v) whole_best

          across_rate_is : (b : Bool) → lies x y b u ≡ true → lies x y (not b) v ≡ true
              → best p u v ≡ across_rate K best P x y u v b (across_end K best P x y u v b)
          across_rate_is b hu hv =
              across_best K X (lanes_of p) part (lies x y) seam meeting (lanes_earn_not p)
              (λ c i j. best (child P c) (seam i) (seam j)) (λ c i j. child_best c (seam i) (seam j) (seam_touches c i) (seam_touches c j))
              b u hu (λ i. best (child P b) u (seam i)) (λ i. child_best b u (seam i) (touches_child b u tu hu) (seam_touches b i))
              v (λ i. best (child P (not b)) (seam i) v) hv (λ i. child_best (not b) (seam i) v (seam_touches (not b) i) (touches_child (not b) v tv hv))
              (best p u v) whole_best

          together_built : (b : Bool) → lies x y b u ≡ true → lies x y b v ≡ true → Built u v (best p u v) 3 (split_together K best P x y u v b)
          together_built b hu hv =
              let i = round_end K best P x y u v b in
              let direct = child_rate K best P x y u v b u v in
              let round = round_rate K best P x y u v b i in
              let z = together_rate b hu hv in
              cond_both (K.better round direct) (round_parts K best P x y u v b i) (kept (child_part K best P x y u v b u v) []) (Built u v (best p u v) 3)
              (λ t.
              let w : best p u v ≡ round = z ∙ cond-true (K.better round direct) round direct t in
              at_rate u v round (best p u v) 3 (round_parts K best P x y u v b i) (omega arith) (sym w)
              (round_built b i (touches_child b u tu hu) (touches_child b v tv hv) (λ k. st (w ∙ k))))
              (λ t.
              let w : best p u v ≡ direct = z ∙ cond-false (K.better round direct) round direct t in
              at_rate u v direct (best p u v) 3 (kept (child_part K best P x y u v b u v) []) (omega arith) (sym w)
              (one_built b (touches_child b u tu hu) (touches_child b v tv hv) (λ k. st (w ∙ k))))

          across_built_best : (b : Bool) → lies x y b u ≡ true → lies x y (not b) v ≡ true → Built u v (best p u v) 3 (split_across K best P x y u v b)
          across_built_best b hu hv =
              let i = across_end K best P x y u v b in
              let w = across_rate_is b hu hv in
              at_rate u v (across_rate K best P x y u v b i) (best p u v) 3 (across_parts K best P x y u v b i) (omega arith) (sym w)
              (across_built b i (touches_child b u tu hu) (touches_child (not b) v tv hv) (λ k. st (w ∙ k)))

          pub in_one : together x y u v ≡ true → (lies x y (home x y u v) u ≡ true) × (lies x y (home x y u v) v ≡ true)
          in_one t = home_together (lies x y true u) (lies x y true v) (lies x y false u) (lies x y false v) t

          pub in_two : together x y u v ≡ false → (lies x y (home x y u v) u ≡ true) × (lies x y (not (home x y u v)) v ≡ true)
          in_two t = home_across (lies x y true u) (lies x y true v) (lies x y false u) (lies x y false v) (lies_somewhere x y u) (lies_somewhere x y v) t

          split_built : Built u v (best p u v) 3 (split_at K best P x y u v)
          split_built =
              cond_both (together x y u v) (split_together K best P x y u v (home x y u v)) (split_across K best P x y u v (home x y u v)) (Built u v (best p u v) 3)
              (λ t. let h = in_one t in together_built (home x y u v) h.0 h.1)
              (λ t. let h = in_two t in across_built_best (home x y u v) h.0 h.1)

    pub split_stands : (q : Part) → PartStands K n e ps best q → Cut n e ps q.piece → SplitStands K n e ps best q (split K best e ps q)
    split_stands q h c =
        let b = split_built q.piece h.in_range c q.from q.to h.from_touches h.to_touches h.some_trip in
        record { at_most_three = b.few; chain = b.chain; children = b.children; same_rate = b.same_rate }

  pub split_keeps_the_rate : SplitKeepsTheRate K
  split_keeps_the_rate n m sides ps area sheets best rated q h c = split_stands n m sides ps area sheets best rated q h c
