-- One turn: a part of a cut piece gives way to the parts it is split into, a part of a triangle to its stops.
-- Assumes the laws and a plan in order.
use Rattle.std.proofs.Common.{◌≡◌, ℕ, ◌+◌, ◌*◌, ◌≤◌, eqb, ◌⊎◌, List, [], ◌∷◌, ◌++◌, length, sym, refl, ap, ◌∙◌, subst, inl, inr, ⊎_elim, arith, length-append}
use Rattle.std.specs.List.{AllByRecursion}
use Rattle.std.proofs.ByRecursion.{All-append, All-weaker}
use Rattle.std.proofs.lemmas.Bool.{cases_Bool, cond-true, cond-false}
use Rattle.rates.specs.Kinds.{Kind}
use Rattle.trips.specs.Trips.{LaneMap}
use Rattle.records.specs.declared.Piece.{Piece}
use Rattle.pieces.specs.Sides.{Ends}
use Rattle.pieces.specs.Holding.{piece_at}
use Rattle.unfolding.specs.Parts.{Part, kept, split, leaf_stops}
use Rattle.unfolding.specs.Splitting.{Leaf, Cut, PartStands, ChildPart, SplitStands}
use Rattle.unfolding.specs.Turns.{Unfolds}
use Rattle.unfolding.specs.Turns.Unfolds.{done}
use Rattle.unfolding.proofs.Turns.{turn_by_turn}
use Rattle.routing.specs.declared.waiting.Parts.{Parts}
use Rattle.routing.specs.declared.waiting.Parts.TheVariants.{Within, Across, Round}
use Rattle.routing.specs.Waiting.{part_of, kept_all}
use Rattle.routing.specs.Turns.{FewBehind, OnTheWay, UnderWay}

-- parts put before others
kept_append : (q : Part) (xs ys : List Part) → kept q xs ++ ys ≡ kept q (xs ++ ys)
kept_append q xs ys =
    ⊎_elim
    (λ t. ap (λ l. l ++ ys) (cond-true (eqb q.from q.to) xs (q ∷ xs) t) ∙ sym (cond-true (eqb q.from q.to) (xs ++ ys) (q ∷ (xs ++ ys)) t))
    (λ t. ap (λ l. l ++ ys) (cond-false (eqb q.from q.to) xs (q ∷ xs) t) ∙ sym (cond-false (eqb q.from q.to) (xs ++ ys) (q ∷ (xs ++ ys)) t))
    (cases_Bool (eqb q.from q.to))

pub kept_all_append : (p : Parts) (ys : List Part) → kept_all p [] ++ ys ≡ kept_all p ys
kept_all_append (Within p) ys = kept_append (part_of p) [] ys
kept_all_append (Across p q) ys =
    kept_append (part_of p) (kept (part_of q) []) ys ∙ ap (kept (part_of p)) (kept_append (part_of q) [] ys)
kept_all_append (Round p q r) ys =
    kept_append (part_of p) (kept (part_of q) (kept (part_of r) [])) ys
    ∙ ap (kept (part_of p)) (kept_append (part_of q) (kept (part_of r) []) ys ∙ ap (kept (part_of q)) (kept_append (part_of r) [] ys))

module _ {M : Type 0} (K : Kind M) (n : ℕ) (e : Ends) (ps : List Piece) (area : List M) (best : ℕ → ℕ → ℕ → M) where
  -- what is left to unfold after the first part
  cut_first : (q : Part) (parts : List Part) (list : List ℕ) (k : ℕ) → Unfolds K n e ps area best (q ∷ parts) list k → (q.from ≡ q.to → ⊥) → Cut n e ps q.piece
      → (j : ℕ) × (k ≡ j + 1) × Unfolds K n e ps area best (split K best e ps q ++ parts) list j
  cut_first q parts list k u d c = (turn_by_turn K n e ps area best q parts list k u).cut_turn d c

  leaf_first : (q : Part) (parts : List Part) (list : List ℕ) (k : ℕ) → Unfolds K n e ps area best (q ∷ parts) list k → (q.from ≡ q.to → ⊥) → Leaf n e ps q.piece
      → (rest : List ℕ) × (j : ℕ) × (list ≡ leaf_stops K e ps area q ++ rest) × (k ≡ j + 1) × Unfolds K n e ps area best parts rest j
  leaf_first q parts list k u d l = (turn_by_turn K n e ps area best q parts list k u).leaf_turn d l

  none_first : (list : List ℕ) (k : ℕ) → Unfolds K n e ps area best [] list k → list ≡ []
  none_first list k done = refl

  -- parts of children, one level down, keep few behind each
  few_split : (p : ℕ) (xs parts : List Part) → length xs + length parts ≤ 2 * (piece_at ps p).level + 3 → AllByRecursion (ChildPart K n e ps best p) xs → FewBehind ps parts → FewBehind ps (xs ++ parts)
  few_split p [] parts l h f = f
  few_split p (x ∷ xs) parts l h f =
      (omega (arith, length-append xs parts, h.0.level), few_split p xs parts (omega arith) h.1 f)

  module _ (m : LaneMap M) (s t : ℕ) (r : M) where
    abbrev Way : ℕ → List Part → List ℕ → ℕ → Type 0
    Way left parts places count = UnderWay K n m e ps area best s t r left parts places count

    -- the list never grows long: nothing lies below level 40
    pub few_wait : (q : Part) (parts : List Part) (left : ℕ) (places : List ℕ) (count : ℕ) → (piece_at ps q.piece).level ≤ 40 → Way left (q ∷ parts) places count → length parts ≤ 80
    few_wait q parts left places count deep h = omega (arith, h.few_behind.0)

    pub cut_turn : (q : Part) (parts : List Part) (left : ℕ) (places : List ℕ) (count : ℕ) → Cut n e ps q.piece → SplitStands K n e ps best q (split K best e ps q)
        → Way (left + 1) (q ∷ parts) places count → Way left (split K best e ps q ++ parts) places count
    cut_turn q parts left places count c w h =
        let u = cut_first q parts h.to_come h.turns h.unfolds h.parts_stand.0.ends_differ c in
        record {
          to_come = h.to_come;
          turns = u.0;
          unfolds = u.2;
          enough = omega (arith, h.enough, u.1);
          parts_stand = All-append (PartStands K n e ps best) (split K best e ps q) parts
              (All-weaker (ChildPart K n e ps best q.piece) (PartStands K n e ps best) (λ x g. g.stands) (split K best e ps q) w.children) h.parts_stand.1;
          few_behind = few_split q.piece (split K best e ps q) parts (omega (arith, w.at_most_three, h.few_behind.0)) w.children h.few_behind.1;
          on_the_way = h.on_the_way;
        }

    -- at a triangle its stops come next; passed, they leave the other parts
    pub leaf_turn : (q : Part) (parts : List Part) (left : ℕ) (places : List ℕ) (count : ℕ) → Leaf n e ps q.piece → Way (left + 1) (q ∷ parts) places count
        → (rest : List ℕ) × OnTheWay K n m s t r (leaf_stops K e ps area q ++ rest) places count
        × ((places' : List ℕ) (count' : ℕ) → OnTheWay K n m s t r rest places' count' → Way left parts places' count')
    leaf_turn q parts left places count l h =
        let u = leaf_first q parts h.to_come h.turns h.unfolds h.parts_stand.0.ends_differ l in (
          u.0,
          subst (λ x. OnTheWay K n m s t r x places count) u.2 h.on_the_way,
          λ places' count' o. record {
            to_come = u.0;
            turns = u.1;
            unfolds = u.4;
            enough = omega (arith, h.enough, u.3);
            parts_stand = h.parts_stand.1;
            few_behind = h.few_behind.1;
            on_the_way = o;
          },
        )

    -- with nothing waiting, nothing is to come
    pub last_turn : (left : ℕ) (places : List ℕ) (count : ℕ) → Way left [] places count → OnTheWay K n m s t r [] places count
    last_turn left places count h = subst (λ x. OnTheWay K n m s t r x places count) (none_first h.to_come h.turns h.unfolds) h.on_the_way

    -- while a part waits, a turn is left
    pub turn_left : (q : Part) (parts : List Part) (places : List ℕ) (count : ℕ) → Way 0 (q ∷ parts) places count → Leaf n e ps q.piece ⊎ Cut n e ps q.piece → ⊥
    turn_left q parts places count h (inl l) =
        let u = leaf_first q parts h.to_come h.turns h.unfolds h.parts_stand.0.ends_differ l in omega (arith, h.enough, u.3)
    turn_left q parts places count h (inr c) =
        let u = cut_first q parts h.to_come h.turns h.unfolds h.parts_stand.0.ends_differ c in omega (arith, h.enough, u.1)
