-- The number of a piece's triangles: what is counted side by side is what the lengths of the top and the holes say.
-- Assumes that the lengths are those of a filled ring in preorder, and that the holes stand in a row below the top.
use Rattle.std.proofs.Common.{◌≡◌, ℕ, zero, suc, ◌+◌, ◌-◌, ◌*◌, ◌<◌, ◌≤◌, Bool, true, false, cond, not, ◌&&◌, ◌||◌, eqb, leb, ◌⊎◌, List, [], ◌∷◌, sum_by, sym, refl, ap, subst, inl, inr, ⊎_elim, arith}
use Rattle.std.proofs.lemmas.List.Sums.{sum_by-cons}
use Rattle.std.proofs.lemmas.Bool.{cases_Bool, cases_lt, cases_eq, and_parts, and_from, or_cases, or_left, or_right, not-true, not_from_false, leb-true, le-leb, eqb-true, eq-eqb, true≢false, cond-true, cond-false, ne_eqb}
use Rattle.pieces.specs.Sides.{Preorder, Inside, within, right_of}
use Rattle.pieces.specs.Cuts.{triangles}
use Rattle.pieces.specs.Holding.{clear, count}
use Rattle.pieces.proofs.Tree.{Fit, halves, left_fits, right_fits, inside_trans, inside_fits}
use Rattle.pieces.proofs.Rows.{Row, inner, row_at, row_ends}
use Rattle.pieces.proofs.Weights.{Clear, Sound, within_inside, inside_within, within_outside, outside_within, load_top}
use Rattle.pieces.proofs.Parts.{Held}

pub clear_is : (len : ℕ → ℕ) (hs : List ℕ) (b : ℕ) → clear len hs b ≡ true → Clear len hs b
clear_is len [] b t h m i = absurd m
clear_is len (x ∷ xs) b t h m i =
    let p = and_parts (not (within len x b)) (clear len xs b) t in
    ⊎_elim (λ e. within_outside len x b (not-true (within len x b) p.0) (subst (λ y. Inside len y b) e i)) (λ k. clear_is len xs b p.1 h k i) m

pub is_clear : (len : ℕ → ℕ) (hs : List ℕ) (b : ℕ) → Clear len hs b → clear len hs b ≡ true
is_clear len [] b c = refl
is_clear len (x ∷ xs) b c =
    and_from (not (within len x b)) (clear len xs b)
    (not_from_false (within len x b) (outside_within len x b (c x (inl refl)))) (is_clear len xs b (λ h m i. c h (inr m) i))

-- the test of a top and holes
abbrev pub held_by : (ℕ → ℕ) → ℕ → List ℕ → ℕ → Bool
held_by len top hs b = leb 2 (len b) && (within len top b && clear len hs b)

pub held_is : (len : ℕ → ℕ) (top : ℕ) (hs : List ℕ) (b : ℕ) → held_by len top hs b ≡ true → Held len top hs b
held_is len top hs b t =
    let p = and_parts (leb 2 (len b)) (within len top b && clear len hs b) t in
    let q = and_parts (within len top b) (clear len hs b) p.1 in
    (leb-true 2 (len b) p.0, within_inside len top b q.0, clear_is len hs b q.1)

pub is_held : (len : ℕ → ℕ) (top : ℕ) (hs : List ℕ) (b : ℕ) → Held len top hs b → held_by len top hs b ≡ true
is_held len top hs b h =
    and_from (leb 2 (len b)) (within len top b && clear len hs b) (le-leb 2 (len b) h.0)
    (and_from (within len top b) (clear len hs b) (inside_within len top b h.1) (is_clear len hs b h.2))

bits_add : (x y z : Bool) → (x ≡ true → (y ≡ true) ⊎ (z ≡ true)) → (y ≡ true → x ≡ true) → (z ≡ true → x ≡ true) → (y ≡ true → z ≡ true → ⊥) → ◌≡◌ {A = ℕ} (cond x 1 0) (cond y 1 0 + cond z 1 0)
bits_add true true true a b c d = absurd (d refl refl)
bits_add true true false a b c d = refl
bits_add true false true a b c d = refl
bits_add true false false a b c d = absurd (⊎_elim (λ e. true≢false (sym e)) (λ e. true≢false (sym e)) (a refl))
bits_add false true true a b c d = absurd (d refl refl)
bits_add false true false a b c d = absurd (true≢false (sym (b refl)))
bits_add false false true a b c d = absurd (true≢false (sym (c refl)))
bits_add false false false a b c d = refl

pub count_add : (f g h : ℕ → Bool) (m : ℕ) → ((b : ℕ) → ◌≡◌ {A = ℕ} (cond (f b) 1 0) (cond (g b) 1 0 + cond (h b) 1 0)) → count f m ≡ count g m + count h m
count_add f g h zero e = refl
count_add f g h (suc m) e = omega (arith, e m, count_add f g h m e)

count_none : (f : ℕ → Bool) (m : ℕ) → ((b : ℕ) → f b ≡ false) → count f m ≡ 0
count_none f zero e = refl
count_none f (suc m) e = omega (arith, cond-false {A = ℕ} (f m) 1 0 (e m), count_none f m e)

count_below : (i m : ℕ) → m ≤ i → count (λ b. eqb b i) m ≡ 0
count_below i zero l = refl
count_below i (suc m) l = omega (arith, cond-false {A = ℕ} (eqb m i) 1 0 (ne_eqb m i (λ e. omega arith)), count_below i m (omega arith))

count_one : (i m : ℕ) → i < m → count (λ b. eqb b i) m ≡ 1
count_one i zero l = absurd (omega arith)
count_one i (suc m) l =
    ⊎_elim
    (λ e. omega (arith, cond-true {A = ℕ} (eqb m i) 1 0 (eq-eqb m i (sym e)), count_below i m (omega arith)))
    (λ ne. omega (arith, cond-false {A = ℕ} (eqb m i) 1 0 (ne_eqb m i (λ e. ne (sym e))), count_one i m (omega arith)))
    (cases_eq i m)

-- the bases at or below the side i
abbrev base_in : (ℕ → ℕ) → ℕ → ℕ → Bool
base_in len i b = leb 2 (len b) && within len i b

module _ (n : ℕ) (len : ℕ → ℕ) (pre : Preorder n len) where
  base_is : (i b : ℕ) → base_in len i b ≡ true → (2 ≤ len b) × Inside len i b
  base_is i b t = let p = and_parts (leb 2 (len b)) (within len i b) t in (leb-true 2 (len b) p.0, within_inside len i b p.1)

  is_base : (i b : ℕ) → 2 ≤ len b → Inside len i b → base_in len i b ≡ true
  is_base i b l h = and_from (leb 2 (len b)) (within len i b) (le-leb 2 (len b) l) (inside_within len i b h)

  -- A side of length k has k - 1 bases at or below it: itself and those below its two children, if it is a base; else none.
  bases : (g i : ℕ) → len i ≤ g → Fit n len i → 1 ≤ len i → count (base_in len i) (2 * n - 3) + 1 ≡ len i
  bases zero i l fit rises = absurd (omega arith)
  bases (suc g) i l fit rises =
      ⊎_elim
      (λ u.
      let none = count_none (base_in len i) (2 * n - 3)
      (λ b. ⊎_elim (λ t. let h = base_is i b t in let e : i ≡ b = omega arith in absurd (omega (arith, ap len e))) (λ t. t) (cases_Bool (base_in len i b))) in
      omega arith)
      (λ base.
      let s = halves n len pre i fit base in
      let r = right_of len i in
      let fl = left_fits n len pre i fit base in
      let fr = right_fits n len pre i fit base in
      let both = λ (b : ℕ). base_in len (i + 1) b || base_in len r b in
      let a = count_add (base_in len i) (λ b. eqb b i) both (2 * n - 3)
      (λ b. bits_add (base_in len i b) (eqb b i) (both b)
      (λ t. let h = base_is i b t in
      ⊎_elim (λ e. inl (eq-eqb b i (sym e)))
      (λ ne. ⊎_elim
      (λ k. inr (or_left (base_in len (i + 1) b) (base_in len r b) (is_base (i + 1) b h.0 (omega arith, omega arith))))
      (λ k. inr (or_right (base_in len (i + 1) b) (base_in len r b) (is_base r b h.0 (omega arith, omega arith))))
      (cases_lt b r))
      (cases_eq i b))
      (λ t. let e = eqb-true b i t in is_base i b (subst (λ k. 2 ≤ len k) (sym e) base) (omega arith, omega arith))
      (λ t. ⊎_elim
      (λ q. let h = base_is (i + 1) b q in is_base i b h.0 (omega arith, omega arith))
      (λ q. let h = base_is r b q in is_base i b h.0 (omega arith, omega arith))
      (or_cases (base_in len (i + 1) b) (base_in len r b) t))
      (λ t q. let e = eqb-true b i t in ⊎_elim
      (λ k. let h = base_is (i + 1) b k in omega arith)
      (λ k. let h = base_is r b k in omega arith)
      (or_cases (base_in len (i + 1) b) (base_in len r b) q))) in
      let c = count_add both (base_in len (i + 1)) (base_in len r) (2 * n - 3)
      (λ b. bits_add (both b) (base_in len (i + 1) b) (base_in len r b)
      (λ t. or_cases (base_in len (i + 1) b) (base_in len r b) t)
      (λ t. or_left (base_in len (i + 1) b) (base_in len r b) t)
      (λ t. or_right (base_in len (i + 1) b) (base_in len r b) t)
      (λ t q. let h = base_is (i + 1) b t in let k = base_is r b q in omega arith)) in
      let one = count_one i (2 * n - 3) (omega arith) in
      let x = bases g (i + 1) (omega arith) fl s.0 in
      let y = bases g r (omega arith) fr s.1 in
      omega arith)
      (cases_lt (len i) 2)

  -- the holes take their own bases away
  held_count : (top : ℕ) → Fit n len top → 1 ≤ len top → (a : ℕ) (hs : List ℕ) → top ≤ a → Row len (a + 1) hs (top + 2 * len top) → count (held_by len top hs) (2 * n - 3) + sum_by (inner len) hs + 1 ≡ len top
  held_count top fit rises a [] l r =
      let e = count_add (held_by len top []) (base_in len top) (λ b. false) (2 * n - 3)
      (λ b. bits_add (held_by len top [] b) (base_in len top b) false
      (λ t. let h = held_is len top [] b t in inl (is_base top b h.0 h.1))
      (λ t. let h = base_is top b t in is_held len top [] b (h.0, h.1, λ k m i. absurd m))
      (λ t. absurd (true≢false (sym t)))
      (λ t q. true≢false (sym q))) in
      omega (arith, bases (len top) top (omega arith) fit rises, count_none (λ b. false) (2 * n - 3) (λ b. refl))
  held_count top fit rises a (h ∷ hs) l r =
      let hin : Inside len top h = (omega arith, omega (arith, row_ends len (h + 2 * len h) hs (top + 2 * len top) r.2)) in
      let fh = inside_fits n len pre top h fit hin in
      let k = bases (len h) h (omega arith) fh (omega (arith, r.1)) in
      let tail : Row len (h + 2 * len h - 1 + 1) hs (top + 2 * len top) = subst (λ m. Row len m hs (top + 2 * len top)) (omega (arith, r.1)) r.2 in
      let rest = held_count top fit rises (h + 2 * len h - 1) hs (omega (arith, r.1)) tail in
      let e = count_add (held_by len top hs) (held_by len top (h ∷ hs)) (base_in len h) (2 * n - 3)
      (λ b. bits_add (held_by len top hs b) (held_by len top (h ∷ hs) b) (base_in len h b)
      (λ t. let p = held_is len top hs b t in
      ⊎_elim (λ w. inr (is_base h b p.0 (within_inside len h b w)))
      (λ w. inl (is_held len top (h ∷ hs) b (p.0, p.1, λ x m i. ⊎_elim (λ q. within_outside len h b w (subst (λ y. Inside len y b) q i)) (λ q. p.2 x q i) m)))
      (cases_Bool (within len h b)))
      (λ t. let p = held_is len top (h ∷ hs) b t in is_held len top hs b (p.0, p.1, λ x m i. p.2 x (inr m) i))
      (λ t. let p = base_is h b t in
      is_held len top hs b (p.0, inside_trans n len pre top h b fit hin p.1, λ x m i. let q = row_at len (h + 2 * len h) hs (top + 2 * len top) x r.2 m in omega (arith, p.1.1, i.0, q.0)))
      (λ t q. (held_is len top (h ∷ hs) b t).2 h (inl refl) (base_is h b q).1)) in
      omega (arith, sum_by-cons (inner len) h hs)

  pub held_triangles : (top : ℕ) (hs : List ℕ) → Sound n len top hs → count (held_by len top hs) (2 * n - 3) ≡ triangles len hs top
  held_triangles top hs s =
      let base = s.base in
      let row : Row len (top + 1 + 1) hs (top + 2 * len top) = subst (λ m. Row len m hs (top + 2 * len top)) (omega arith) s.row in
      omega (arith, held_count top s.fit (omega arith) (top + 1) hs (omega arith) row, load_top n len pre top hs s (inner len))
