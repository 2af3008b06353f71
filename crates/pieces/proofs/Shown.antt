-- What a record says, by its top and its holes: the triangles, their number, the bounding seams.
-- Assumes that the lengths are those of a filled ring in preorder.
use Rattle.std.proofs.Common.{◌≡◌, ℕ, zero, suc, ◌+◌, ◌-◌, ◌*◌, ◌<◌, ◌≤◌, Bool, true, not, eqb, List, [], ◌∷◌, ◌++◌, length, sym, refl, ap, ◌∙◌, inl, inr, ⊎_elim, arith}
use Rattle.std.proofs.lemmas.Bool.{cases_Bool, cases_order, cond-true, cond-false, eq-eqb, ne_eqb, not_from_true, not_from_false}
use Rattle.records.specs.declared.Piece.{Piece}
use Rattle.pieces.specs.Sides.{Preorder}
use Rattle.records.specs.Few.{listed, Among, RisingFrom}
use Rattle.pieces.specs.Cuts.{triangles, seams}
use Rattle.pieces.specs.Holding.{holds, Holds, count, held, bounds, others}
use Rattle.pieces.proofs.Weights.{Sound}
use Rattle.pieces.proofs.Rows.{Row}
use Rattle.pieces.proofs.Parts.{Held}
use Rattle.pieces.proofs.Counting.{held_by, held_is, is_held, held_triangles}
use Rattle.pieces.proofs.RimEnds.{bounds_of}

-- the record D says this
pub record Shown (D : Piece) (top : ℕ) (hs : List ℕ) (level par : ℕ) : Type 0 where
  pub top_is : D.top ≡ top
  pub holes_are : listed D.holes ≡ hs
  pub level_is : D.level ≡ level
  pub parent_is : D.parent ≡ par

module _ (len : ℕ → ℕ) (D : Piece) (top : ℕ) (hs : List ℕ) (level par : ℕ) (w : Shown D top hs level par) where
  same_test : (b : ℕ) → holds len D b ≡ held_by len top hs b
  same_test b = ap (λ t. held_by len t (listed D.holes) b) w.top_is ∙ ap (λ ks. held_by len top ks b) w.holes_are

  pub shown_holds : (b : ℕ) → Holds len D b → Held len top hs b
  shown_holds b h = held_is len top hs b (sym (same_test b) ∙ h)

  pub holds_shown : (b : ℕ) → Held len top hs b → Holds len D b
  holds_shown b h = same_test b ∙ is_held len top hs b h

  pub shown_bounds : bounds D ≡ bounds_of top hs
  shown_bounds = ap (λ t. bounds_of t (listed D.holes)) w.top_is ∙ ap (λ ks. bounds_of top ks) w.holes_are

  pub shown_held : (n : ℕ) → Preorder n len → Sound n len top hs → held n len D ≡ triangles len hs top
  shown_held n pre s =
      ap (λ t. count (held_by len t (listed D.holes)) (2 * n - 3)) w.top_is
      ∙ ap (λ ks. count (held_by len top ks) (2 * n - 3)) w.holes_are
      ∙ held_triangles n len pre top hs s

pub bounds_length : (top : ℕ) (hs : List ℕ) → length (bounds_of top hs) ≡ seams top hs
bounds_length top hs =
    ⊎_elim
    (λ t. omega (arith, ap length (cond-true (eqb top 0) hs (top ∷ hs) t), cond-true {A = ℕ} (eqb top 0) 0 1 t))
    (λ t. omega (arith, ap length (cond-false (eqb top 0) hs (top ∷ hs) t), cond-false {A = ℕ} (eqb top 0) 0 1 t))
    (cases_Bool (eqb top 0))

keeps : (v : ℕ) (x : ℕ) (xs : List ℕ) → (x ≡ v → ⊥) → others v (x ∷ xs) ≡ x ∷ others v xs
keeps v x xs ne = cond-true (not (eqb x v)) (x ∷ others v xs) (others v xs) (not_from_false (eqb x v) (ne_eqb x v ne))

drops : (v : ℕ) (xs : List ℕ) → others v (v ∷ xs) ≡ others v xs
drops v xs = cond-false (not (eqb v v)) (v ∷ others v xs) (others v xs) (not_from_true (eqb v v) (eq-eqb v v refl))

others_all : (v : ℕ) (xs : List ℕ) → ((x : ℕ) → Among x xs → x ≡ v → ⊥) → length (others v xs) ≡ length xs
others_all v [] ne = refl
others_all v (x ∷ xs) ne = ap length (keeps v x xs (ne x (inl refl))) ∙ ap suc (others_all v xs (λ y m. ne y (inr m)))

-- a list with v once, without v
pub others_once : (v : ℕ) (xs ys : List ℕ) → ((x : ℕ) → Among x xs → x ≡ v → ⊥) → ((y : ℕ) → Among y ys → y ≡ v → ⊥) → length (others v (xs ++ v ∷ ys)) + 1 ≡ length (xs ++ v ∷ ys)
others_once v [] ys ne mo = omega (arith, ap length (drops v ys), others_all v ys mo)
others_once v (x ∷ xs) ys ne mo =
    omega (arith, ap length (keeps v x (xs ++ v ∷ ys) (ne x (inl refl))), others_once v xs ys (λ y m. ne y (inr m)) mo)

pub row_rises : (len : ℕ → ℕ) (a : ℕ) (hs : List ℕ) (e b : ℕ) → b + 1 ≤ a → Row len a hs e → RisingFrom b hs
row_rises len a [] e b l r = tt
row_rises len a (h ∷ hs) e b l r = (omega (arith, r.0), row_rises len (h + 2 * len h) hs e (h + 1) (omega (arith, r.1)) r.2)

count_has : (f : ℕ → Bool) (a m : ℕ) → f a ≡ true → a < m → 1 ≤ count f m
count_has f a zero t l = absurd (omega arith)
count_has f a (suc m) t l =
    ⊎_elim (λ e. omega (arith, cond-true {A = ℕ} (f m) 1 0 (ap f (sym e) ∙ t)))
    (λ o. ⊎_elim (λ k. omega (arith, count_has f a m t k)) (λ k. absurd (omega arith)) o) (cases_order a m)

count_two : (f : ℕ → Bool) (a b m : ℕ) → f a ≡ true → f b ≡ true → a < b → b < m → 2 ≤ count f m
count_two f a b zero t u l k = absurd (omega arith)
count_two f a b (suc m) t u l k =
    ⊎_elim (λ e. omega (arith, cond-true {A = ℕ} (f m) 1 0 (ap f (sym e) ∙ u), count_has f a m t (omega arith)))
    (λ o. ⊎_elim (λ j. omega (arith, count_two f a b m t u l j)) (λ j. absurd (omega arith)) o) (cases_order b m)

-- where one number passes, there is no other
pub count_only : (f : ℕ → Bool) (a b m : ℕ) → count f m ≡ 1 → f a ≡ true → f b ≡ true → a < m → b < m → a ≡ b
count_only f a b m one t u l k =
    ⊎_elim (λ e. e)
    (λ o. ⊎_elim (λ j. absurd (omega (arith, count_two f a b m t u j k))) (λ j. absurd (omega (arith, count_two f b a m u t j l))) o)
    (cases_order a b)
