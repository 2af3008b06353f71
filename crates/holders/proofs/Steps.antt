-- Single steps of the walk up, on plain values.
-- Assumes nothing.
use Rattle.std.proofs.Common.{◌≡◌, ℕ, suc, ◌+◌, ◌*◌, ◌<◌, ◌≤◌, min, Bool, true, false, cond, ltb, List, [], ◌∷◌, ◌++◌, length, take, drop, set, Some, None, sym, refl, ap, ◌∙◌, subst, arith, length-take}
use Rattle.std.proofs.lemmas.List.{take_more_set, append_assoc, drop-set-lt, drop-drop, drop-append-le, take-append-drop}
use Rattle.std.proofs.lemmas.Bool.{cond-true, cond-false, and_from, and_right, lt-ltb, le-ltb}
use Rattle.records.specs.declared.Piece.{Piece}
use Rattle.pieces.specs.Sides.{Ends, span, Filled}
use Rattle.pieces.specs.Division.{Division, LeafMarked}
use Rattle.pieces.specs.Holding.{piece_at}
use Rattle.pieces.specs.Holders.{climbs, way_up, WayUp, LaneHolders}
use Rattle.pieces.proofs.Holders.{way_up_complete}
use Rattle.pieces.proofs.LaneHolders.{lane_holders}
use Rattle.holders.specs.Walks.{Walked}

pub climbs_on : (ps : List Piece) (p q : ℕ) → q ≡ (piece_at ps p).parent → p < length ps → q < p → Some q ≡ cond (climbs ps p) (Some (piece_at ps p).parent) None
climbs_on ps p q is inside lower =
    ap Some is
    ∙ sym (cond-true (climbs ps p) (Some (piece_at ps p).parent) None
    (and_from (ltb p (length ps)) (ltb (piece_at ps p).parent p) (lt-ltb p (length ps) inside) (lt-ltb (piece_at ps p).parent p (omega arith))))

pub climbs_not : (ps : List Piece) (p q : ℕ) → q ≡ (piece_at ps p).parent → p ≤ q → None ≡ cond (climbs ps p) (Some (piece_at ps p).parent) None
climbs_not ps p q is no_lower =
    sym (cond-false (climbs ps p) (Some (piece_at ps p).parent) None
    (and_right (ltb p (length ps)) (ltb (piece_at ps p).parent p) (le-ltb (piece_at ps p).parent p (omega arith))))

pub some_climbs : (b : Bool) (x y : ℕ) → Some x ≡ cond b (Some y) None → (b ≡ true) × (x ≡ y)
some_climbs true x y e = (refl, cc)
some_climbs false x y e = let z : ◌≡◌ {A = ℕ} 0 1 = cc in absurd (omega arith)

pub none_climbs : (b : Bool) (y : ℕ) → None ≡ cond b (Some y) None → b ≡ false
none_climbs true y e = let z : ◌≡◌ {A = ℕ} 0 1 = cc in absurd (omega arith)
none_climbs false y e = refl

module _ (ps : List Piece) (out : List ℕ) (k p : ℕ) (room : k < length out) where
  pub on_more : (f q : ℕ) (ws : List ℕ) → climbs ps p ≡ true → q ≡ (piece_at ps p).parent → take k out ++ way_up ps (suc f) p ≡ ws → take (k + 1) (set out k p) ++ way_up ps f q ≡ ws
  on_more f q ws up is so =
      ap (λ l. l ++ way_up ps f q) (take_more_set out k p room)
      ∙ append_assoc (take k out) (p ∷ []) (way_up ps f q)
      ∙ ap (λ m. take k out ++ (p ∷ way_up ps f m)) is
      ∙ ap (λ l. take k out ++ (p ∷ l)) (sym (cond-true (climbs ps p) (way_up ps f (piece_at ps p).parent) [] up))
      ∙ so

  pub on_stop : (f : ℕ) (ws : List ℕ) → climbs ps p ≡ false → take k out ++ way_up ps (suc f) p ≡ ws → take (k + 1) (set out k p) ≡ ws
  on_stop f ws up so =
      take_more_set out k p room
      ∙ ap (λ l. take k out ++ (p ∷ l)) (sym (cond-false (climbs ps p) (way_up ps f (piece_at ps p).parent) [] up))
      ∙ so

  pub behind_more : (out₀ : List ℕ) → drop k out ≡ drop k out₀ → drop (k + 1) (set out k p) ≡ drop (k + 1) out₀
  behind_more out₀ e = drop-set-lt (k + 1) out k p (omega arith) ∙ sym (drop-drop 1 k out) ∙ ap (drop 1) e ∙ drop-drop 1 k out₀

-- what was left of the front of an area, and the rest of it, is what was left of the area
pub rejoined : (most k : ℕ) (out front : List ℕ) → most ≤ length out → length front ≡ most → k ≤ most → drop k front ≡ drop k (take most out) → drop k (front ++ drop most out) ≡ drop k out
rejoined most k out front wide long l e =
    drop-append-le k front (drop most out) (omega arith)
    ∙ ap (λ v. v ++ drop most out) e
    ∙ sym (drop-append-le k (take most out) (drop most out) (omega (arith, length-take most out)))
    ∙ ap (drop k) (take-append-drop most out)

-- what a walk over a division means
pub walked_up : (ps : List Piece) (p : ℕ) (out : List ℕ) (r : ℕ) (out' : List ℕ) → Walked ps p out r out' → (n : ℕ) (e : Ends) → Division n e ps → 2 * n ≤ length ps + 5 → p + 5 < 2 * n → 41 ≤ length out → WayUp ps p (take r out')
walked_up ps p out r out' w n e d long range wide =
    let m : min (length out) 41 ≡ 41 = omega arith in
    subst (WayUp ps p) (sym (w.numbers ∙ ap (λ f. way_up ps f p) m)) (way_up_complete n e ps d long p 41 range (omega arith))

pub walked_holders : (ps : List Piece) (i leaf : ℕ) (out : List ℕ) (r : ℕ) (out' : List ℕ) → Walked ps leaf out r out' → (n : ℕ) (e : Ends) → Filled n e → Division n e ps → LeafMarked n (span e) ps i leaf → 2 * n ≤ length ps + 5 → i + 3 < 2 * n → 41 ≤ length out → LaneHolders n (span e) ps i (take r out')
walked_holders ps i leaf out r out' w n e fl d marked long range wide =
    let m : min (length out) 41 ≡ 41 = omega arith in
    subst (LaneHolders n (span e) ps i) (sym (w.numbers ∙ ap (λ f. way_up ps f leaf) m)) (lane_holders n e ps fl d long i leaf 41 range marked (omega arith))
