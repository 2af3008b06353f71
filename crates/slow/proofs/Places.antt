-- The members at the places of a slice of values, after a read and after a write.
-- Assumes nothing.
use Rattle.std.proofs.Common.{◌≡◌, ℕ, ◌+◌, ◌-◌, ◌*◌, ◌<◌, ◌≤◌, List, ◌++◌, map, length, get_or, take, drop, set, sym, ap, ◌∙◌, add-mul, one-mul, arith}
use borrow.Rule.Slice.PartMut.{put_mid, post_of}
use Rattle.std.specs.List.{between}
use Rattle.std.proofs.lemmas.Nat.{mul-le}
use Rattle.std.proofs.lemmas.List.Edits.{get_or-between}
use Rattle.std.proofs.lemmas.List.{get_or-map, map-set, map-append, take-map, drop-map, length-map, length-take, get_or-set_same, get_or-set_other, get_or-take, get_or_append_left, get_or-append_right}
use Rattle.rates.specs.Kinds.{Kind}
use Rattle.slow.specs.Areas.{at}

module _ {M : Type 0} (K : Kind M) {V : Type 0} (means : V → M) where
  pub read_at : (vs : List V) (i : ℕ) (v : V) → i < length vs → v ≡ get_or vs i v → at K (map means vs) i ≡ means v
  read_at vs i v l e = get_or-map means vs i v K.none l ∙ ap means (sym e)

  pub set_here : (vs : List V) (i : ℕ) (v : V) → i < length vs → at K (map means (set vs i v)) i ≡ means v
  set_here vs i v l =
      ap (λ list. at K list i) (map-set means vs i v)
      ∙ get_or-set_same (map means vs) i (means v) K.none (rw length-map l)

  pub set_others : (vs : List V) (i : ℕ) (v : V) (w : ℕ) → (w ≡ i → ⊥) → at K (map means (set vs i v)) w ≡ at K (map means vs) w
  set_others vs i v w n =
      ap (λ list. at K list w) (map-set means vs i v) ∙ get_or-set_other (map means vs) i w (means v) K.none n

  -- a row of an area, as a part of its slice
  pub row_reads : (vs : List V) (a n w : ℕ) → w < n → at K (map means (between a (a + n) vs)) w ≡ at K (map means vs) (a + w)
  row_reads vs a n w l =
      ap (λ list. at K list w) (sym (take-map means (a + n - a) (drop a vs)) ∙ ap (take (a + n - a)) (sym (drop-map means a vs)))
      ∙ get_or-between (map means vs) a (a + n) w K.none (omega arith)

  -- after a write to a row of an area: the row has what was written, and what lies before it is as it was
  written : (a k : ℕ) (vs ys : List V) → map means (put_mid a k vs ys) ≡ take a (map means vs) ++ (map means ys ++ map means (post_of a k vs))
  written a k vs ys =
      map-append means (take a vs) (ys ++ post_of a k vs)
      ∙ ap (λ list. list ++ map means (ys ++ post_of a k vs)) (sym (take-map means a vs))
      ∙ ap (λ list. take a (map means vs) ++ list) (map-append means ys (post_of a k vs))

  front_length : (a : ℕ) (vs : List V) → a ≤ length vs → length (take a (map means vs)) ≡ a
  front_length a vs l = simp (length-take, length-map) (omega arith)

  pub row_written : (a k : ℕ) (vs ys : List V) (w : ℕ) → a ≤ length vs → w < length ys → at K (map means (put_mid a k vs ys)) (a + w) ≡ at K (map means ys) w
  row_written a k vs ys w l p =
      let z : a + w - a ≡ w = omega arith in
      ap (λ list. at K list (a + w)) (written a k vs ys)
      ∙ get_or-append_right (take a (map means vs)) (map means ys ++ map means (post_of a k vs)) a (a + w) K.none (front_length a vs l) (omega arith)
      ∙ ap (at K (map means ys ++ map means (post_of a k vs))) z
      ∙ get_or_append_left (map means ys) (map means (post_of a k vs)) K.none w (rw length-map p)

  pub before_row : (a k : ℕ) (vs ys : List V) (j : ℕ) → a ≤ length vs → j < a → at K (map means (put_mid a k vs ys)) j ≡ at K (map means vs) j
  before_row a k vs ys j l p =
      ap (λ list. at K list j) (written a k vs ys)
      ∙ get_or_append_left (take a (map means vs)) (map means ys ++ map means (post_of a k vs)) K.none j (omega (arith, front_length a vs l))
      ∙ get_or-take a (map means vs) j K.none p

-- in an area of rows of n places the row of v ends where a later one begins, at the latest
pub rows_before : (n v k : ℕ) → v < k → n * v + n ≤ n * k
rows_before n v k l = omega (arith, mul-le (v + 1) n k n (omega arith) (omega arith), add-mul v 1 n, one-mul n)

-- the place of u and v lies within an area of n rows
pub place_within : (n u v : ℕ) → u < n → v < n → n * u + v < n * n
place_within n u v l k = omega (arith, rows_before n u n l)
