-- The two parts of a cut: each describes a piece, together they hold the triangles of the piece that was cut, and their sizes and seams add up.
-- Assumes that the lengths are those of a filled ring in preorder, and a seam that cuts the piece.
use Rattle.std.proofs.Common.{◌≡◌, ℕ, ◌+◌, ◌*◌, ◌≤◌, Bool, true, false, cond, eqb, ltb, leb, ◌⊎◌, List, ◌∷◌, ◌++◌, length, sum_by, filter, refl, subst, inl, inr, ⊎_elim, arith}
use Rattle.std.proofs.lemmas.List.Sums.{sum_by-cons, sum_by-append}
use Rattle.std.proofs.lemmas.Bool.{cases_Bool, cond-true, cond-false, eqb-false, ne_eqb, ltb-true, le-ltb, lt-ltb, leb-true, le-leb, lt-leb}
use Rattle.pieces.specs.Sides.{Preorder, Inside, within}
use Rattle.records.specs.Few.{Among}
use Rattle.pieces.specs.Cuts.{load, triangles, seams, four}
use Rattle.pieces.proofs.Tree.{Fit, nested, lie, inside_fits, inside_trans}
use Rattle.pieces.proofs.Chosen.{among_kept, kept_among, among_left, among_right, among_either, sum_kept, sum_ones, sum_add}
use Rattle.pieces.proofs.Rows.{Row, inner, row_at, row_kept, row_join}
use Rattle.pieces.proofs.Weights.{Clear, Sound, within_inside, inside_within, within_outside, outside_within, load_top, load_bound}
use Rattle.pieces.proofs.Seam.{Cut}

-- the holes of the two parts, as lists
abbrev pub inner_list : (ℕ → ℕ) → ℕ → List ℕ → List ℕ
inner_list len v hs = filter (within len v) hs

abbrev pub behind : (ℕ → ℕ) → ℕ → ℕ → Bool
behind len v h = leb (v + 2 * len v) (h + 1)

abbrev pub outer_list : (ℕ → ℕ) → ℕ → List ℕ → List ℕ
outer_list len v hs = filter (λ h. ltb h v) hs ++ v ∷ filter (behind len v) hs

-- the piece with this top and these holes holds the triangle with the base b
abbrev pub Held : (ℕ → ℕ) → ℕ → List ℕ → ℕ → Type 0
Held len top hs b = (2 ≤ len b) × Inside len top b × Clear len hs b

module _ (n : ℕ) (len : ℕ → ℕ) (pre : Preorder n len) (top : ℕ) (hs : List ℕ) (s : Sound n len top hs) (v : ℕ) (c : Cut len top hs (four top hs) v) where
  -- a hole lies below the seam, or wholly before it, or wholly behind it
  where_hole : (h : ℕ) → Among h hs → Inside len v h ⊎ ((h + 2 * len h ≤ v + 1) ⊎ (v + 2 * len v ≤ h + 1))
  where_hole h m =
      ⊎_elim (λ i. inl i) (λ r. ⊎_elim (λ i. absurd (c.clear h m i)) (λ q. ⊎_elim (λ l. inr (inr l)) (λ l. inr (inl l)) q) r) (lie n len pre v h)

  hole_base : (h : ℕ) → Among h hs → 2 ≤ len h
  hole_base h m = (row_at len (top + 2) hs (top + 2 * len top) h s.row m).1

  seam_fits : Fit n len v
  seam_fits = inside_fits n len pre top v s.fit c.inside

  pub inner_row : Row len (v + 2) (inner_list len v hs) (v + 2 * len v)
  inner_row =
      row_kept len (within len v) (top + 2) hs (top + 2 * len top) (v + 2) (v + 2 * len v) s.row
      (λ h m t.
      let i = within_inside len v h t in
      let b = c.base in
      let other : v ≡ h → ⊥ = λ e. c.clear h m (subst (λ k. Inside len k v) e (omega arith, omega arith)) in
      (omega arith, nested n len pre v h seam_fits i))
      (omega (arith, c.base))

  pub outer_row : Row len (top + 2) (outer_list len v hs) (top + 2 * len top)
  outer_row =
      row_join len (top + 2) (filter (λ h. ltb h v) hs) v (filter (behind len v) hs) (top + 2 * len top)
      (row_kept len (λ h. ltb h v) (top + 2) hs (top + 2 * len top) (top + 2) (v + 1) s.row
      (λ h m t.
      let l = ltb-true h v t in
      let b = hole_base h m in (
        (row_at len (top + 2) hs (top + 2 * len top) h s.row m).0,
        ⊎_elim (λ i. absurd (omega arith)) (λ q. ⊎_elim (λ k. k) (λ k. absurd (omega (arith, c.base))) q) (where_hole h m),
      ))
      (omega (arith, c.below)))
      c.base
      (row_kept len (behind len v) (top + 2) hs (top + 2 * len top) (v + 2 * len v) (top + 2 * len top) s.row
      (λ h m t. (leb-true (v + 2 * len v) (h + 1) t, (row_at len (top + 2) hs (top + 2 * len top) h s.row m).2))
      (nested n len pre top v s.fit c.inside))

  pub among_inner : (h : ℕ) → Among h (inner_list len v hs) → Among h hs × Inside len v h
  among_inner h m = let r = among_kept (within len v) hs h m in (r.0, within_inside len v h r.1)

  pub inner_among : (h : ℕ) → Among h hs → Inside len v h → Among h (inner_list len v hs)
  inner_among h m i = kept_among (within len v) hs h m (inside_within len v h i)

  pub among_outer : (h : ℕ) → Among h (outer_list len v hs) → (h ≡ v) ⊎ (Among h hs × (Inside len v h → ⊥))
  among_outer h m =
      ⊎_elim
      (λ a. let r = among_kept (λ k. ltb k v) hs h a in inr (r.0, λ i. omega (arith, ltb-true h v r.1)))
      (λ a. ⊎_elim (λ e. inl e)
      (λ q. let r = among_kept (behind len v) hs h q in inr (r.0, λ i. omega (arith, leb-true (v + 2 * len v) (h + 1) r.1))) a)
      (among_either (filter (λ k. ltb k v) hs) (v ∷ filter (behind len v) hs) h m)

  pub outer_among : (h : ℕ) → Among h hs → (Inside len v h → ⊥) → Among h (outer_list len v hs)
  outer_among h m o =
      let b = hole_base h m in
      ⊎_elim (λ i. absurd (o i))
      (λ q. ⊎_elim
      (λ k. among_left (filter (λ k. ltb k v) hs) (v ∷ filter (behind len v) hs) h (kept_among (λ k. ltb k v) hs h m (lt-ltb h v (omega arith))))
      (λ k. among_right (filter (λ k. ltb k v) hs) (v ∷ filter (behind len v) hs) h (inr (kept_among (behind len v) hs h m (le-leb (v + 2 * len v) (h + 1) k)))) q)
      (where_hole h m)

  pub seam_among : Among v (outer_list len v hs)
  seam_among = among_right (filter (λ k. ltb k v) hs) (v ∷ filter (behind len v) hs) v (inl refl)

  -- a sum over the holes is shared out between those before the seam, those below it and those behind it
  three_ways : (w : ℕ → ℕ) → sum_by w hs ≡ sum_by w (filter (λ h. ltb h v) hs) + (load len w hs v + sum_by w (filter (behind len v) hs))
  three_ways w =
      let on = λ (t : Bool) (x : ℕ) (e : t ≡ true). cond-true t x 0 e in
      let off = λ (t : Bool) (x : ℕ) (e : t ≡ false). cond-false t x 0 e in
      let a = sum_add w (λ h. cond (ltb h v) (w h) 0) (λ h. cond (within len v h) (w h) 0 + cond (behind len v h) (w h) 0) hs
      (λ h m.
      let b = hole_base h m in
      let d = c.base in
      ⊎_elim
      (λ i. omega (arith, off (ltb h v) (w h) (le-ltb h v i.0), on (within len v h) (w h) (inside_within len v h i), off (behind len v h) (w h) (lt-leb (v + 2 * len v) (h + 1) i.1)))
      (λ q. ⊎_elim
      (λ l. omega (arith, on (ltb h v) (w h) (lt-ltb h v (omega arith)), off (within len v h) (w h) (outside_within len v h (λ i. omega arith)), off (behind len v h) (w h) (lt-leb (v + 2 * len v) (h + 1) (omega arith))))
      (λ l. omega (arith, off (ltb h v) (w h) (le-ltb h v (omega arith)), off (within len v h) (w h) (outside_within len v h (λ i. omega arith)), on (behind len v h) (w h) (le-leb (v + 2 * len v) (h + 1) l))) q)
      (where_hole h m)) in
      let e = sum_add (λ h. cond (within len v h) (w h) 0 + cond (behind len v h) (w h) 0) (λ h. cond (within len v h) (w h) 0) (λ h. cond (behind len v h) (w h) 0) hs (λ h m. refl) in
      omega (arith, sum_kept (λ h. ltb h v) w hs, sum_kept (behind len v) w hs)

  -- a sum over the outer part's holes: the seam takes the place of the holes below it
  outer_sum : (w : ℕ → ℕ) → sum_by w (outer_list len v hs) + load len w hs v ≡ sum_by w hs + w v
  outer_sum w =
      omega (arith, three_ways w, sum_by-append w (filter (λ h. ltb h v) hs) (v ∷ filter (behind len v) hs), sum_by-cons w v (filter (behind len v) hs))

  -- how many seams bound the two parts
  pub inner_seams : seams v (inner_list len v hs) ≡ load len (λ _. 1) hs v + 1
  inner_seams =
      omega (arith, sum_kept (within len v) (λ _. 1) hs, sum_ones (inner_list len v hs), cond-false {A = ℕ} (eqb v 0) 0 1 (ne_eqb v 0 (λ e. omega (arith, c.below))))

  pub outer_seams : seams top (outer_list len v hs) + load len (λ _. 1) hs v ≡ seams top hs + 1
  outer_seams = omega (arith, outer_sum (λ _. 1), sum_ones hs, sum_ones (outer_list len v hs))

  -- each part has at most four; a cut by holes leaves each part three, of which two are old
  parts_few : (b : Bool) → four top hs ≡ b → (seams v (inner_list len v hs) ≤ 4) × (seams top (outer_list len v hs) ≤ 4)
  parts_few true e = let t = c.by_holes e in let f = s.few in (omega (arith, inner_seams), omega (arith, outer_seams))
  parts_few false e =
      let other = eqb-false (seams top hs) 4 e in
      let f = s.few in
      let three : seams top hs ≤ 3 = omega arith in
      let all = three_ways (λ _. 1) in
      let ones = sum_ones hs in
      let le : length hs ≤ seams top hs = omega arith in
      (omega (arith, inner_seams), omega (arith, outer_seams))

  pub inner_sound : Sound n len v (inner_list len v hs)
  inner_sound = record { fit = seam_fits; base = c.base; row = inner_row; few = (parts_few (four top hs) refl).0 }

  pub outer_sound : Sound n len top (outer_list len v hs)
  outer_sound = record { fit = s.fit; base = s.base; row = outer_row; few = (parts_few (four top hs) refl).1 }

  -- how many triangles the two parts have
  pub inner_size : triangles len (inner_list len v hs) v ≡ triangles len hs v
  inner_size = omega (arith, load_top n len pre v (inner_list len v hs) inner_sound (inner len), sum_kept (within len v) (inner len) hs)

  pub sizes_add : triangles len (inner_list len v hs) v + triangles len (outer_list len v hs) top ≡ triangles len hs top
  sizes_add =
      let a = load_top n len pre v (inner_list len v hs) inner_sound (inner len) in
      let b = load_top n len pre top (outer_list len v hs) outer_sound (inner len) in
      let d = load_top n len pre top hs s (inner len) in
      let e = sum_kept (within len v) (inner len) hs in
      let f = outer_sum (inner len) in
      let g = load_bound n len pre v (inner_list len v hs) inner_sound v seam_fits (omega (arith, c.base)) in
      let h = load_bound n len pre top (outer_list len v hs) outer_sound top s.fit (omega (arith, s.base)) in
      let k = c.base in
      omega arith

  -- every triangle of the piece is in one part, and only in one
  pub held_parts : (b : ℕ) → Held len top hs b → Held len v (inner_list len v hs) b ⊎ Held len top (outer_list len v hs) b
  held_parts b h =
      ⊎_elim
      (λ t. inl (h.0, within_inside len v b t, λ k m i. h.2 k (among_inner k m).0 i))
      (λ t. inr (h.0, h.1, λ k m i. ⊎_elim (λ e. within_outside len v b t (subst (λ x. Inside len x b) e i)) (λ q. h.2 k q.0 i) (among_outer k m)))
      (cases_Bool (within len v b))

  pub inner_held : (b : ℕ) → Held len v (inner_list len v hs) b → Held len top hs b
  inner_held b h = (
    h.0,
    inside_trans n len pre top v b s.fit c.inside h.1,
    λ k m i.
        ⊎_elim (λ j. h.2 k (inner_among k m j) i)
        (λ q. let f = inside_fits n len pre v b seam_fits h.1 in ⊎_elim (λ l. omega (arith, h.1.0, i.1)) (λ l. omega (arith, h.1.1, i.0)) q)
        (where_hole k m),
  )

  pub outer_held : (b : ℕ) → Held len top (outer_list len v hs) b → Held len top hs b
  outer_held b h = (
    h.0,
    h.1,
    λ k m i. ⊎_elim
        (λ j. h.2 v seam_among (inside_trans n len pre v k b seam_fits j i))
        (λ q. h.2 k (outer_among k m (λ j. let d = hole_base k m in let e = c.base in ⊎_elim (λ l. omega arith) (λ l. omega arith) q)) i)
        (where_hole k m),
  )

  pub held_once : (b : ℕ) → Held len v (inner_list len v hs) b → Held len top (outer_list len v hs) b → ⊥
  held_once b h k = k.2 v seam_among h.1
