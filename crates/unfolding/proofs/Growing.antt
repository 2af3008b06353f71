-- Every part unfolds: the stops that come out, the parts that are met on the way, and that no two of them at one piece share an end.
-- Assumes the laws of the kind and a plan in order with the best rates within its pieces.
use Rattle.std.proofs.Common.{◌≡◌, ℕ, zero, suc, ◌+◌, ◌*◌, ◌<◌, ◌≤◌, Bool, true, false, List, [], ◌∷◌, ◌++◌, map, length, sym, refl, ap, ◌∙◌, subst, inl, inr, ⊎_elim, append_assoc, arith, length-append}
use Rattle.std.specs.List.{AllByRecursion}
use Rattle.std.proofs.ByRecursion.{All-append, All-weaker}
use Rattle.rates.specs.Kinds.{Kind, Laws}
use Rattle.rates.specs.Many.{joined_all}
use Rattle.trips.specs.Trips.{LaneMap, Fewer}
use Rattle.trips.specs.Theorems.{Linked, rate_along, final}
use Rattle.ring.specs.declared.Side.{Side}
use Rattle.records.specs.declared.Piece.{Piece}
use Rattle.records.specs.Few.{listed, Among}
use Rattle.pieces.specs.Sides.{Ends, ends_of, span}
use Rattle.pieces.specs.Holding.{piece_at, held}
use Rattle.pieces.specs.Division.{Division}
use Rattle.piece_rates.specs.Lanes.{piece_lanes}
use Rattle.unfolding.specs.Parts.{Part, part_rate, child, split, leaf_stops}
use Rattle.unfolding.specs.Splitting.{Chain, Leaf, Cut, Rated, PartStands, ChildPart, TripAlong}
use Rattle.unfolding.specs.Turns.{Unfolds}
use Rattle.unfolding.specs.Turns.Unfolds.{leaf, cut}
use Rattle.unfolding.proofs.Along.{final_append, linked_append, along_append, linked_fewer}
use Rattle.unfolding.proofs.LeafStops.{leaf_along}
use Rattle.unfolding.proofs.Splits.{split_stands}
use Rattle.unfolding.proofs.Apart.{Clear, EndsApart, apart_append, all_both, EndsAmong}
use Rattle.unfolding.proofs.Rounds.{Separate, Pairwise, child_fewer, split_separate, split_known}

final_among : (u : ℕ) (list : List ℕ) → Among (final u list) (u ∷ list)
final_among u [] = inl refl
final_among u (w ∷ list) = inr (final_among w list)

among_left : (w : ℕ) (xs ys : List ℕ) → Among w xs → Among w (xs ++ ys)
among_left w [] ys h = absurd h
among_left w (x ∷ xs) ys (inl z) = inl z
among_left w (x ∷ xs) ys (inr h) = inr (among_left w xs ys h)

-- the stops from the last of the first list on
among_right : (w u : ℕ) (xs ys : List ℕ) → Among w (final u xs ∷ ys) → Among w (u ∷ xs ++ ys)
among_right w u [] ys h = h
among_right w u (x ∷ xs) ys h = inr (among_right w x xs ys h)

all_pairs : (P Q : Part → Type 0) (R : Part → Part → Type 0) → ((r s : Part) → P r → Q s → R r s) → (xs ys : List Part) → AllByRecursion P xs → AllByRecursion Q ys → AllByRecursion (λ r. AllByRecursion (R r) ys) xs
all_pairs P Q R f [] ys p q = tt
all_pairs P Q R f (x ∷ xs) ys (p, ps) q = (All-weaker Q (R x) (λ s. f x s p) ys q, all_pairs P Q R f xs ys ps q)

all_none : (R : Part → Part → Type 0) (xs : List Part) → AllByRecursion (λ r. AllByRecursion (R r) []) xs
all_none R [] = tt
all_none R (x ∷ xs) = (tt, all_none R xs)

all_joined : (R : Part → Part → Type 0) (xs ys zs : List Part) → AllByRecursion (λ r. AllByRecursion (R r) ys) xs → AllByRecursion (λ r. AllByRecursion (R r) zs) xs → AllByRecursion (λ r. AllByRecursion (R r) (ys ++ zs)) xs
all_joined R xs ys zs p q = All-weaker (λ r. AllByRecursion (R r) ys × AllByRecursion (R r) zs) (λ r. AllByRecursion (R r) (ys ++ zs)) (λ r h. All-append (R r) ys zs h.0 h.1) xs (all_both (λ r. AllByRecursion (R r) ys) (λ r. AllByRecursion (R r) zs) xs p q)

module _ {M : Type 0} (K : Kind M) (X : Laws K)
    (n : ℕ) (m : LaneMap M) (sides : List Side) (ps : List Piece) (area sheets : List M) (best : ℕ → ℕ → ℕ → M)
    (rated : Rated K n m sides ps area sheets best) where
  abbrev e : Ends
  e = ends_of sides

  abbrev lanes_of : ℕ → LaneMap M
  lanes_of p = piece_lanes K n (ends_of sides) (piece_at ps p) m

  abbrev division : Division n (ends_of sides) ps
  division = rated.in_order.stands.division

  -- twice the number of a piece's triangles; the pieces at and below the piece p have the numbers from p to p + size p - 2
  abbrev size : ℕ → ℕ
  size p = 2 * held n (span (ends_of sides)) (piece_at ps p)

  abbrev Below : ℕ → ℕ → Type 0
  Below p i = (p ≤ i) × (i + 1 < p + size p)

  -- the terminals that may be ends of parts at a piece: those of the first part, and the piece's edge terminals
  abbrev pub may_end : ℕ → ℕ → ℕ → List ℕ
  may_end s t p = s ∷ t ∷ listed (piece_at ps p).edges

  abbrev OnTrip : ℕ → List ℕ → Part → Type 0
  OnTrip u list r = Among r.from (u ∷ list) × Among r.to (u ∷ list)

  -- What is known of a part that is unfolded to the end: the stops, and the parts that are met, itself the first.
  pub record Unfolded (q : Part) : Type 0 where
    pub stops : List ℕ
    pub met : List Part
    pub along : TripAlong K (piece_lanes K n (ends_of sides) (piece_at ps q.piece) m) q.from q.to (part_rate K best q) stops
    pub unfolds : (parts : List Part) (rest : List ℕ) (k : ℕ) → Unfolds K n (ends_of sides) ps area best parts rest k → Unfolds K n (ends_of sides) ps area best (q ∷ parts) (stops ++ rest) (length met + k)
    pub in_range : AllByRecursion (λ r. r.piece + 5 < 2 * n) met
    pub numbered : AllByRecursion (λ r. (q.piece ≤ r.piece) × (r.piece + 1 < q.piece + 2 * held n (span (ends_of sides)) (piece_at ps q.piece))) met
    pub on_trip : AllByRecursion (λ r. Among r.from (q.from ∷ stops) × Among r.to (q.from ∷ stops)) met
    pub apart : EndsApart met
    pub known : (s t : ℕ) → EndsAmong (λ p. s ∷ t ∷ listed (piece_at ps p).edges) q → AllByRecursion (EndsAmong (λ p. s ∷ t ∷ listed (piece_at ps p).edges)) met

  ends_on_trip : (q : Part) (list : List ℕ) → final q.from list ≡ q.to → OnTrip q.from list q
  ends_on_trip q list z = (inl refl, subst (λ w. Among w (q.from ∷ list)) z (final_among q.from list))

  some_triangle : (p : ℕ) → p + 5 < 2 * n → 1 ≤ held n (span e) (piece_at ps p)
  some_triangle p r = ⊎_elim (λ u. omega (arith, u.one_triangle)) (λ c. omega (arith, c.several)) (division.stands p r).cut

  unfolded_leaf : (q : Part) → PartStands K n e ps best q → Leaf n e ps q.piece → Unfolded q
  unfolded_leaf q h l =
      let t = leaf_along K X n m sides ps area sheets best rated q h l in
      record {
        stops = leaf_stops K e ps area q;
        met = q ∷ [];
        along = t;
        unfolds = λ parts rest k u. leaf h.ends_differ l u refl (omega arith);
        in_range = (h.in_range, tt);
        numbered = ((omega arith, omega (arith, some_triangle q.piece h.in_range)), tt);
        on_trip = (ends_on_trip q (leaf_stops K e ps area q) t.ends_there, tt);
        apart = (h.ends_differ, tt, tt);
        known = λ s t k. (k, tt);
      }

  abbrev all_stops : (parts : List Part) → AllByRecursion Unfolded parts → List ℕ
  all_stops [] us = []
  all_stops (q ∷ parts) (u, us) = u.stops ++ all_stops parts us

  abbrev all_met : (parts : List Part) → AllByRecursion Unfolded parts → List Part
  all_met [] us = []
  all_met (q ∷ parts) (u, us) = u.met ++ all_met parts us

  all_unfold : (parts : List Part) (us : AllByRecursion Unfolded parts) (more : List Part) (rest : List ℕ) (k : ℕ) → Unfolds K n e ps area best more rest k
      → Unfolds K n e ps area best (parts ++ more) (all_stops parts us ++ rest) (length (all_met parts us) + k)
  all_unfold [] us more rest k h =
      let z : k ≡ length (all_met [] us) + k = omega arith in
      subst (Unfolds K n e ps area best more rest) z h
  all_unfold (q ∷ parts) (u, us) more rest k h =
      let later = all_unfold parts us more rest k h in
      let all = u.unfolds (parts ++ more) (all_stops parts us ++ rest) (length (all_met parts us) + k) later in
      let z : length u.met + (length (all_met parts us) + k) ≡ length (u.met ++ all_met parts us) + k = omega (arith, length-append u.met (all_met parts us)) in
      subst (λ list. Unfolds K n e ps area best (q ∷ (parts ++ more)) list (length (u.met ++ all_met parts us) + k)) (sym (append_assoc u.stops (all_stops parts us) rest))
      (subst (Unfolds K n e ps area best (q ∷ (parts ++ more)) (u.stops ++ (all_stops parts us ++ rest))) z all)

  all_in_range : (parts : List Part) (us : AllByRecursion Unfolded parts) → AllByRecursion (λ r. r.piece + 5 < 2 * n) (all_met parts us)
  all_in_range [] us = tt
  all_in_range (q ∷ parts) (u, us) = All-append (λ r. r.piece + 5 < 2 * n) u.met (all_met parts us) u.in_range (all_in_range parts us)

  all_known : (s t : ℕ) (parts : List Part) (us : AllByRecursion Unfolded parts) → AllByRecursion (EndsAmong (may_end s t)) parts → AllByRecursion (EndsAmong (may_end s t)) (all_met parts us)
  all_known s t [] us k = tt
  all_known s t (q ∷ parts) (u, us) (k, ks) = All-append (EndsAmong (may_end s t)) u.met (all_met parts us) (u.known s t k) (all_known s t parts us ks)

  -- along a chain of parts, the ends of all parts that are met are stops
  all_on_trip : (u v : ℕ) (parts : List Part) (us : AllByRecursion Unfolded parts) → Chain u v parts → AllByRecursion (OnTrip u (all_stops parts us)) (all_met parts us)
  all_on_trip u v [] us h = tt
  all_on_trip u v (q ∷ parts) (w, us) (z, h) =
      subst (λ a. AllByRecursion (OnTrip a (w.stops ++ all_stops parts us)) (w.met ++ all_met parts us)) z
      (All-append (OnTrip q.from (w.stops ++ all_stops parts us)) w.met (all_met parts us)
      (All-weaker (OnTrip q.from w.stops) (OnTrip q.from (w.stops ++ all_stops parts us))
      (λ r k. (among_left r.from (q.from ∷ w.stops) (all_stops parts us) k.0, among_left r.to (q.from ∷ w.stops) (all_stops parts us) k.1))
      w.met w.on_trip)
      (All-weaker (OnTrip q.to (all_stops parts us)) (OnTrip q.from (w.stops ++ all_stops parts us))
      (λ r k. (
        among_right r.from q.from w.stops (all_stops parts us) (subst (λ a. Among r.from (a ∷ all_stops parts us)) (sym w.along.ends_there) k.0),
        among_right r.to q.from w.stops (all_stops parts us) (subst (λ a. Among r.to (a ∷ all_stops parts us)) (sym w.along.ends_there) k.1),
      ))
      (all_met parts us) (all_on_trip q.to v parts us h)))

  module _ (p : ℕ) (r : p + 5 < 2 * n) (c : Cut n e ps p) where
    abbrev P : Piece
    P = piece_at ps p

    -- trips over the lanes of the children, one after the other
    all_along : (u v : ℕ) (parts : List Part) (us : AllByRecursion Unfolded parts) → Chain u v parts → AllByRecursion (ChildPart K n e ps best p) parts
        → TripAlong K (lanes_of p) u v (joined_all K (map (part_rate K best) parts)) (all_stops parts us)
    all_along u v [] us h k = record { linked = tt; ends_there = h; rate_is = refl }
    all_along u v (q ∷ parts) (w, us) (z, h) (k, ks) =
        let rest = all_stops parts us in
        let later = all_along q.to v parts us h ks in
        let f : Fewer K (lanes_of q.piece) (lanes_of p) = subst (λ i. Fewer K (lanes_of i) (lanes_of p)) (sym k.which.1) (child_fewer K X n m sides ps area sheets best rated p r c k.which.0) in
        let up = linked_fewer K X (lanes_of q.piece) (lanes_of p) f q.from w.stops w.along.linked in
        subst (λ a. TripAlong K (lanes_of p) a v (K.join (part_rate K best q) (joined_all K (map (part_rate K best) parts))) (w.stops ++ rest)) z
        (record {
          linked = linked_append K X (lanes_of p) q.from w.stops rest up.0 (subst (λ a. Linked K (lanes_of p) a rest) (sym w.along.ends_there) later.linked);
          ends_there = final_append q.from w.stops rest ∙ ap (λ a. final a rest) w.along.ends_there ∙ later.ends_there;
          rate_is = along_append K X (lanes_of p) q.from w.stops rest
              ∙ ap (λ a. K.join a (rate_along K (lanes_of p) (final q.from w.stops) rest)) (up.1 ∙ w.along.rate_is)
              ∙ ap (λ a. K.join (part_rate K best q) (rate_along K (lanes_of p) a rest)) w.along.ends_there
              ∙ ap (K.join (part_rate K best q)) later.rate_is;
        })

    -- the numbers at and below a child lie below the piece, and those of the two children are different
    child_below : (b : Bool) (i : ℕ) → Below (child P b) i → (p < i) × (i + 1 < p + size p)
    child_below true i h =
        let t = some_triangle P.second c.in_range in
        (omega (arith, c.first_number, h.0), omega (arith, c.first_number, c.sizes, h.1))
    child_below false i h =
        (omega (arith, c.first_number, c.in_order, h.0), omega (arith, c.second_number, c.sizes, h.1))

    children_apart : (b b' : Bool) → (child P b ≡ child P b' → ⊥) → (i j : ℕ) → Below (child P b) i → Below (child P b') j → i ≡ j → ⊥
    children_apart true true d i j h k z = d refl
    children_apart true false d i j h k z = omega (arith, c.first_number, c.second_number, h.1, k.0)
    children_apart false true d i j h k z = omega (arith, c.first_number, c.second_number, h.0, k.1)
    children_apart false false d i j h k z = d refl

    all_below : (parts : List Part) (us : AllByRecursion Unfolded parts) → AllByRecursion (ChildPart K n e ps best p) parts → AllByRecursion (λ s. (p < s.piece) × (s.piece + 1 < p + size p)) (all_met parts us)
    all_below [] us k = tt
    all_below (q ∷ parts) (u, us) (k, ks) =
        All-append (λ s. (p < s.piece) × (s.piece + 1 < p + size p)) u.met (all_met parts us)
        (All-weaker (λ s. Below q.piece s.piece) (λ s. (p < s.piece) × (s.piece + 1 < p + size p))
        (λ s h. child_below k.which.0 s.piece (subst (λ i. Below i s.piece) k.which.1 h)) u.met u.numbered)
        (all_below parts us ks)

    -- Parts met below two parts of the split: they are at different pieces, or their ends are stops of trips that share no terminal.
    clear_pair : (q q' : Part) → ChildPart K n e ps best p q → ChildPart K n e ps best p q' → Separate K X n m sides ps area sheets best rated q q'
        → (u : Unfolded q) (u' : Unfolded q') → AllByRecursion (λ s. AllByRecursion (Clear s) u'.met) u.met
    clear_pair q q' k k' (inl d) u u' =
        all_pairs (λ s. Below q.piece s.piece) (λ s. Below q'.piece s.piece) Clear
        (λ s s' h h' z. absurd (children_apart k.which.0 k'.which.0 (λ w. d (k.which.1 ∙ w ∙ sym k'.which.1)) s.piece s'.piece
        (subst (λ i. Below i s.piece) k.which.1 h) (subst (λ i. Below i s'.piece) k'.which.1 h') z))
        u.met u'.met u.numbered u'.numbered
    clear_pair q q' k k' (inr f) u u' =
        all_pairs (OnTrip q.from u.stops) (OnTrip q'.from u'.stops) Clear
        (λ s s' h h' z.
        let no_stop : (a b : ℕ) → Among a (q.from ∷ u.stops) → Among b (q'.from ∷ u'.stops) → a ≡ b → ⊥ =
        λ a b i j w. f u.stops u'.stops u.along u'.along a i (subst (λ t. Among t (q'.from ∷ u'.stops)) (sym w) j) in
        record {
          from_from = no_stop s.from s'.from h.0 h'.0;
          from_to = no_stop s.from s'.to h.0 h'.1;
          to_from = no_stop s.to s'.from h.1 h'.0;
          to_to = no_stop s.to s'.to h.1 h'.1;
        })
        u.met u'.met u.on_trip u'.on_trip

    clear_all : (q : Part) → ChildPart K n e ps best p q → (u : Unfolded q) (parts : List Part) (us : AllByRecursion Unfolded parts) → AllByRecursion (ChildPart K n e ps best p) parts
        → AllByRecursion (Separate K X n m sides ps area sheets best rated q) parts → AllByRecursion (λ s. AllByRecursion (Clear s) (all_met parts us)) u.met
    clear_all q k u [] us ks h = all_none Clear u.met
    clear_all q k u (q' ∷ parts) (u', us) (k', ks) (h, hs) =
        all_joined Clear u.met u'.met (all_met parts us) (clear_pair q q' k k' h u u') (clear_all q k u parts us ks hs)

    all_apart : (parts : List Part) (us : AllByRecursion Unfolded parts) → AllByRecursion (ChildPart K n e ps best p) parts → Pairwise K X n m sides ps area sheets best rated parts → EndsApart (all_met parts us)
    all_apart [] us k h = tt
    all_apart (q ∷ parts) (u, us) (k, ks) (h, hs) =
        apart_append u.met (all_met parts us) u.apart (all_apart parts us ks hs) (clear_all q k u parts us ks h)

  unfolded_cut : (q : Part) → PartStands K n e ps best q → Cut n e ps q.piece → AllByRecursion Unfolded (split K best e ps q) → Unfolded q
  unfolded_cut q h c us =
      let p = q.piece in
      let r = h.in_range in
      let parts = split K best e ps q in
      let s = split_stands K X n m sides ps area sheets best rated q h c in
      let t = all_along p r c q.from q.to parts us s.chain s.children in
      let below = all_below p r c parts us s.children in
      record {
        stops = all_stops parts us;
        met = q ∷ all_met parts us;
        along = record { linked = t.linked; ends_there = t.ends_there; rate_is = t.rate_is ∙ s.same_rate };
        unfolds = λ more rest k u. cut h.ends_differ c (all_unfold parts us more rest k u) (omega arith);
        in_range = (r, all_in_range parts us);
        numbered = (
          (omega arith, omega (arith, c.several)),
          All-weaker (λ s. (p < s.piece) × (s.piece + 1 < p + size p)) (λ s. Below p s.piece) (λ s k. (omega (arith, k.0), k.1)) (all_met parts us) below,
        );
        on_trip = (ends_on_trip q (all_stops parts us) t.ends_there, all_on_trip q.from q.to parts us s.chain);
        apart = (
          h.ends_differ,
          All-weaker (λ s. (p < s.piece) × (s.piece + 1 < p + size p)) (Clear q) (λ s k z. absurd (omega (arith, k.0, z))) (all_met parts us) below,
          all_apart p r c parts us s.children (split_separate K X n m sides ps area sheets best rated p r c q.from q.to h.from_touches h.to_touches h.some_trip),
        );
        known = λ a b k. (k, all_known a b parts us (split_known K X n m sides ps area sheets best rated p r c q.from q.to h.from_touches h.to_touches h.some_trip a b k.0 k.1));
      }

  unfolded_all : (f : ℕ) → ((q : Part) → PartStands K n e ps best q → 41 ≤ (piece_at ps q.piece).level + f → Unfolded q)
      → (p : ℕ) → 41 ≤ (piece_at ps p).level + suc f → (parts : List Part) → AllByRecursion (ChildPart K n e ps best p) parts → AllByRecursion Unfolded parts
  unfolded_all f grow p l [] k = tt
  unfolded_all f grow p l (q ∷ parts) (k, ks) = (grow q k.stands (omega (arith, k.level)), unfolded_all f grow p l parts ks)

  -- no piece is more than 40 levels down
  unfolded_from : (f : ℕ) (q : Part) → PartStands K n e ps best q → 41 ≤ (piece_at ps q.piece).level + f → Unfolded q
  unfolded_from zero q h l = absurd (omega (arith, (division.stands q.piece h.in_range).not_deeper))
  unfolded_from (suc f) q h l =
      ⊎_elim (unfolded_leaf q h)
      (λ c. unfolded_cut q h c (unfolded_all f (λ s k b. unfolded_from f s k b) q.piece l (split K best e ps q) (split_stands K X n m sides ps area sheets best rated q h c).children))
      (division.stands q.piece h.in_range).cut

  pub unfolded : (q : Part) → PartStands K n (ends_of sides) ps best q → Unfolded q
  unfolded q h = unfolded_from 41 q h (omega arith)
