-- Sides with the same ends and links are divided into the same records.
-- Assumes two divisions.
use Rattle.std.proofs.Common.{◌≡◌, ℕ, ◌+◌, ◌-◌, ◌*◌, ◌<◌, length, get_or, take, sym, ap, ◌∙◌, subst, arith}
use Rattle.std.proofs.lemmas.List.{get_or-take, get_or-map, length-take-le, ext_get_or}
use Rattle.ring.specs.declared.Side.{Side}
use Rattle.records.specs.declared.Piece.{Piece}
use Rattle.pieces.specs.Sides.{Ends, span, no_side}
use Rattle.pieces.specs.Cuts.{whole}
use Rattle.pieces.specs.Marks.{SameSides, bare, with_leaf}
use Rattle.pieces.specs.Holding.{piece_at, Holds}
use Rattle.pieces.specs.Division.{LeafMarked, Uncut}
use Rattle.pieces.proofs.Marking.{same_ends, same_front, same_count}
use Rattle.pieces.proofs.Standing.{records_once}
use Rattle.pieces.proofs.Leaves.{leaf_once}
use Rattle.division.specs.Outcome.{front_ends, Divided, SameSidesSameRecords}

side_from : (s t : Side) → bare s ≡ bare t → s.leaf ≡ t.leaf → s ≡ t
side_from s t b l = ap (λ (x : Side). with_leaf x s.leaf) b ∙ ap (with_leaf (bare t)) l

pub same_records : SameSidesSameRecords
same_records n ss tt ss' tt' ps qs fl long same sk tk a b =
    (pieces, ext_get_or no_side (take m ss') (take m tt') (ls ∙ sym lt) (λ i l. side_from (get_or (take m ss') i no_side) (get_or (take m tt') i no_side) (bares i l) (same_leaf_at i l)))
  where
    m : ℕ
    m = 2 * n - 3

    e : Ends
    e = front_ends n ss

    es : front_ends n tt ≡ front_ends n ss
    es = same_ends (take (2 * n - 3) ss) (take (2 * n - 3) tt) same

    b' : Divided n (front_ends n ss) tt' qs
    b' = subst (λ x. Divided n x tt' qs) es b

    pieces : take (2 * n - 5) ps ≡ take (2 * n - 5) qs
    pieces = records_once a.records b'.records

    fronts : SameSides (take (2 * n - 3) ss') (take (2 * n - 3) tt')
    fronts = same_front (2 * n - 3) tt tt' tk ∙ same ∙ sym (same_front (2 * n - 3) ss ss' sk)

    ls : length (take (2 * n - 3) ss') ≡ 2 * n - 3
    ls = length-take-le (2 * n - 3) ss' (omega (arith, same_count ss ss' sk))

    lt : length (take (2 * n - 3) tt') ≡ 2 * n - 3
    lt = same_count (take (2 * n - 3) ss') (take (2 * n - 3) tt') fronts ∙ ls

    bares : (i : ℕ) → i < length (take (2 * n - 3) ss') → bare (get_or (take (2 * n - 3) ss') i no_side) ≡ bare (get_or (take (2 * n - 3) tt') i no_side)
    bares i l =
        sym (get_or-map bare (take (2 * n - 3) ss') i no_side no_side l)
        ∙ ap (λ xs. get_or xs i no_side) (sym fronts)
        ∙ get_or-map bare (take (2 * n - 3) tt') i no_side no_side (omega (arith, ls, lt))

    same_piece_at : (q : ℕ) → q + 5 < 2 * n → piece_at qs q ≡ piece_at ps q
    same_piece_at q r = sym (get_or-take (2 * n - 5) qs q whole (omega arith)) ∙ ap (λ xs. get_or xs q whole) (sym pieces) ∙ get_or-take (2 * n - 5) ps q whole (omega arith)

    moved : (i q : ℕ) → LeafMarked n (span (front_ends n ss)) qs i q → LeafMarked n (span (front_ends n ss)) ps i q
    moved i q k =
        record {
          triangle = k.triangle;
          belongs = k.belongs;
          in_range = k.in_range;
          uncut = subst (Uncut n (span (front_ends n ss))) (same_piece_at q k.in_range) k.uncut;
          holds_it = subst (λ (x : Piece). Holds (span (front_ends n ss)) x k.triangle) (same_piece_at q k.in_range) k.holds_it;
        }

    same_leaf_at : (i : ℕ) → i < length (take (2 * n - 3) ss') → (get_or (take (2 * n - 3) ss') i no_side).leaf ≡ (get_or (take (2 * n - 3) tt') i no_side).leaf
    same_leaf_at i l =
        let r : i + 3 < 2 * n = omega (arith, ls) in
        ap (λ (s : Side). s.leaf) (get_or-take (2 * n - 3) ss' i no_side (omega arith))
        ∙ leaf_once n (front_ends n ss) fl ps a.division i (get_or ss' i no_side).leaf (get_or tt' i no_side).leaf (a.leaves i r) (moved i (get_or tt' i no_side).leaf (b'.leaves i r))
        ∙ ap (λ (s : Side). s.leaf) (sym (get_or-take (2 * n - 3) tt' i no_side (omega arith)))
