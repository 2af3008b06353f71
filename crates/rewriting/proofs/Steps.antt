-- Single steps of a rewriting, on plain values: one sheet put in its place, one more piece of the way up.
-- Assumes nothing.
use Rattle.std.specs.Prelude.{Result, Ok, Err, IsOkAnd, OnErr}
use Rattle.std.proofs.Common.{◌≡◌, ℕ, suc, ◌+◌, ◌-◌, ◌*◌, ◌<◌, ◌≤◌, true, false, cond, List, [], ◌∷◌, length, take, drop, sym, refl, ap, ◌∙◌, subst, inl, inr, arith, length-take}
use borrow.Rule.Slice.PartMut.{put_mid}
use Rattle.std.proofs.lemmas.Bool.{cond-true, cond-false}
use Rattle.std.proofs.lemmas.Slice.{take-put_mid_below, drop-put_mid, between-put_mid}
use Rattle.records.specs.declared.Piece.{Piece}
use Rattle.records.specs.Few.{Among}
use Rattle.pieces.specs.Holding.{piece_at}
use Rattle.pieces.specs.Holders.{climbs, way_up}
use Rattle.piece_rates.specs.Changes.{OnlySheet}
use Rattle.piece_rates.proofs.Changes.{other_sheet}
use Rattle.piece_rates.proofs.Ways.{parent_lower}
use Rattle.rewriting.specs.Ways.{WayRewritten, UnderWay}

-- a fact of what a call that succeeded gave, made another; and such a call left no error
pub ok_and : {T E : Type 0} (r : Result T E) (P Q : T → Type 0) → ((x : T) → P x → Q x) → IsOkAnd r P → IsOkAnd r Q
ok_and (Ok x) P Q f h = f x h
ok_and (Err e) P Q f h = h

pub no_err : {T E : Type 0} (r : Result T E) (P : T → Type 0) (Q : Type 0) → IsOkAnd r P → OnErr r Q
no_err (Ok x) P Q h = tt
no_err (Err e) P Q h = absurd h

module _ {X : Type 0} (p : ℕ) (sheets sheet work : List X) (room : 64 * p + 64 ≤ length sheets) (wide : 64 ≤ length work) (is : sheet ≡ take 64 work) where
  size : length sheet ≡ 64
  size = ap length is ∙ omega (arith, length-take 64 work)

  abbrev put : List X
  put = put_mid (64 * p) (64 * p + 64 - 64 * p) sheets sheet

  pub put_there : take 64 (drop (64 * p) put) ≡ take 64 work
  put_there =
      let k : 64 ≡ 64 * p + 64 - 64 * p = omega arith in
      ap (λ v. take v (drop (64 * p) put)) k ∙ between-put_mid (64 * p) (64 * p + 64 - 64 * p) sheets sheet (64 * p + 64) (omega arith) (omega (arith, size)) ∙ is

  pub put_only : OnlySheet p sheets put
  put_only = record {
    earlier = take-put_mid_below (64 * p) (64 * p + 64 - 64 * p) sheets sheet (64 * p) (omega arith) (omega arith);
    later = drop-put_mid (64 * p) (64 * p + 64 - 64 * p) sheets sheet (64 * p + 64) (omega arith) (omega arith) (omega (arith, size));
  }

module _ {X : Type 0} (ps : List Piece) (p : ℕ) (sheets work : List X) where
  pub at_start : UnderWay ps p 0 p sheets work sheets work
  at_start = record { no_higher = omega arith; left = omega arith; on_way = λ x h. h; others = λ x h. refl; behind = refl }

  module _ (k q : ℕ) (before work_before after work_after : List X) (h : UnderWay ps p k q sheets work before work_before) (few : k < 41) (only : OnlySheet q before after) (kept : drop 64 work_after ≡ drop 64 work_before) where
    one_more : 41 - k ≡ suc (41 - (k + 1))
    one_more = omega arith

    -- the rest of the way begins with q
    way_from : way_up ps (41 - k) q ≡ q ∷ cond (climbs ps q) (way_up ps (41 - (k + 1)) (piece_at ps q).parent) []
    way_from = ap (λ f. way_up ps f q) one_more

    q_listed : Among q (way_up ps 41 p)
    q_listed = h.on_way q (subst (Among q) (sym way_from) (inl refl))

    others_after : (x : ℕ) → (Among x (way_up ps 41 p) → ⊥) → take 64 (drop (64 * x) after) ≡ take 64 (drop (64 * x) sheets)
    others_after x away = other_sheet q x before after only (λ z. away (subst (λ y. Among y (way_up ps 41 p)) (sym z) q_listed)) ∙ h.others x away

    pub goes_on : (u : ℕ) → climbs ps q ≡ true → u ≡ (piece_at ps q).parent → UnderWay ps p (k + 1) u sheets work after work_after
    goes_on u t z =
        let rest : way_up ps (41 - k) q ≡ q ∷ way_up ps (41 - (k + 1)) u =
        way_from ∙ ap (λ ws. q ∷ ws) (cond-true (climbs ps q) (way_up ps (41 - (k + 1)) (piece_at ps q).parent) [] t ∙ ap (way_up ps (41 - (k + 1))) (sym z)) in
        record {
          no_higher = omega (arith, h.no_higher, parent_lower ps q t, z);
          left = omega (arith, h.left, ap length rest);
          on_way = λ x a. h.on_way x (subst (Among x) (sym rest) (inr a));
          others = others_after;
          behind = kept ∙ h.behind;
        }

    pub stops : climbs ps q ≡ false → WayRewritten ps p sheets work (k + 1) after work_after
    stops t =
        let rest : way_up ps (41 - k) q ≡ q ∷ [] = way_from ∙ ap (λ ws. q ∷ ws) (cond-false (climbs ps q) (way_up ps (41 - (k + 1)) (piece_at ps q).parent) [] t) in
        record { counted = omega (arith, h.left, ap length rest); others = others_after; behind = kept ∙ h.behind }

  pub all_taken : (k q : ℕ) (after work_after : List X) → UnderWay ps p k q sheets work after work_after → k ≡ 41 → WayRewritten ps p sheets work 41 after work_after
  all_taken k q after work_after h z =
      let none : 41 - k ≡ 0 = omega arith in
      record { counted = omega (arith, h.left, ap (λ f. length (way_up ps f q)) none); others = h.others; behind = h.behind }
