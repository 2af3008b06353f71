-- Marking one more link: its side, if there is one, is found and marked; all other records stay as they are.
-- Assumes nothing.
use Rattle.std.proofs.Common.{◌≡◌, ℕ, ◌+◌, ◌<◌, ◌≤◌, Bool, true, false, ◌||◌, List, length, take, set, Some, None, Option, sym, refl, ap, ◌∙◌, subst, inl, inr, ⊎_elim, arith, length-set, get_or-set_other, get_or-set_same}
use Rattle.std.proofs.lemmas.List.{drop-set-lt}
use Rattle.std.proofs.lemmas.Bool.{cases_eq, cases_Bool, or_right}
use Rattle.trips.specs.Links.{Ends, Named}
use Rattle.triangulation.specs.Trees.{side_count, side}
use Rattle.ring.specs.declared.Link.{Link}
use Rattle.ring.specs.declared.Side.{Side}
use Rattle.ring.specs.Linked.{link_at, ends_at, joins}
use Rattle.ring.specs.Areas.{side_at, side_ends, new_side, Finds, FilledWith}
use Rattle.ring.proofs.Scans.{is_named, decides_named, joins_more}
use Rattle.ring.proofs.InArea.{blank, ends_in, filled_triangulated, filled_record, filled_long, filled_from}

-- Naming is mutual.
turned : (x y a b : ℕ) → Named (side a b) x y → Named (side x y) a b
turned x y a b n =
    ⊎_elim (λ (h : (a ≡ x) × (b ≡ y)). inl (sym h.0, sym h.1)) (λ (h : (a ≡ y) × (b ≡ x)). inr (sym h.1, sym h.0)) n

some_inj : (a b : ℕ) → Some a ≡ Some b → a ≡ b
some_inj a b e = cc

none_some : (k : ℕ) → ◌≡◌ {A = Option ℕ} None (Some k) → ⊥
none_some k e = let z : ◌≡◌ {A = ℕ} 0 1 = cc in omega arith

or_kept : (x y : Bool) → y ≡ false → x ≡ (x || y)
or_kept true y e = refl
or_kept false y e = sym e

module _ (n : ℕ) (links : List Link) (i : ℕ) (within : i < length links) where
  -- A record of other ends is the same with one more link.
  new_other : (e : Ends) → is_named (link_at links i) e.from e.to ≡ false → new_side (take i links) e ≡ new_side (take (i + 1) links) e
  new_other e h =
      let m = joins_more links i e.from e.to (record { from = 0; to = 0 }) within in
      ap (λ (b : Bool). record { low = e.from; high = e.to; link = b; leaf = 0 })
      (or_kept (joins (take i links) e.from e.to) (is_named (link_at links i) e.from e.to) h ∙ sym m)

  -- A record of these ends is marked.
  new_same : (e : Ends) → is_named (link_at links i) e.from e.to ≡ true
      → record { low = e.from; high = e.to; link = true; leaf = 0 } ≡ new_side (take (i + 1) links) e
  new_same e h =
      let m = joins_more links i e.from e.to (record { from = 0; to = 0 }) within in
      ap (λ (b : Bool). record { low = e.from; high = e.to; link = b; leaf = 0 })
      (sym (m ∙ or_right (joins (take i links) e.from e.to) (is_named (link_at links i) e.from e.to) h))

  module _ (few : 3 ≤ n) (most : n ≤ 4096) (before sides : List Side) (p : FilledWith n links (take i links) before sides) where
    held : (k : ℕ) → k < side_count n → side_at sides k ≡ new_side (take i links) (ends_in n p.tree k)
    held = filled_record n links (take i links) before sides p (omega arith)

    -- A place whose ends are the link's is the answer of the search.
    answered : (r : Option ℕ) → Finds n sides (ends_at links i).from (ends_at links i).to r → (k : ℕ) → k < side_count n
        → is_named (link_at links i) (ends_in n p.tree k).from (ends_in n p.tree k).to ≡ true
        → r ≡ Some k
    answered r f k h t =
        let e = ends_in n p.tree k in
        let m = turned e.from e.to (ends_at links i).from (ends_at links i).to ((decides_named (link_at links i) e.from e.to).0 t) in
        f.complete few most (filled_triangulated n links (take i links) before sides p) k h
        (subst (λ (s : Side). Named (side_ends s) (ends_at links i).from (ends_at links i).to) (sym (held k h)) m)

    -- The link is no side: nothing is marked.
    pub mark_none : Finds n sides (ends_at links i).from (ends_at links i).to None → FilledWith n links (take (i + 1) links) before sides
    mark_none f =
        filled_from n links (take (i + 1) links) p.tree before sides (omega arith) p.filled (filled_long n links (take i links) before sides p (omega arith))
        (λ k h.
        let e = ends_in n p.tree k in
        held k h ∙ new_other e (⊎_elim
        (λ (t : is_named (link_at links i) e.from e.to ≡ true). absurd (none_some k (answered None f k h t)))
        (λ (t : is_named (link_at links i) e.from e.to ≡ false). t)
        (cases_Bool (is_named (link_at links i) e.from e.to))))
        p.rest

    -- The link is the side at a place, and only that one is marked.
    pub mark_some : (place : ℕ) → Finds n sides (ends_at links i).from (ends_at links i).to (Some place)
        → FilledWith n links (take (i + 1) links) before (set sides place (record { low = (side_at sides place).low; high = (side_at sides place).high; link = true; leaf = (side_at sides place).leaf }))
    mark_some place f =
        let s : Side = record { low = (side_at sides place).low; high = (side_at sides place).high; link = true; leaf = (side_at sides place).leaf } in
        let long = filled_long n links (take i links) before sides p (omega arith) in
        let w = f.found in
        let o = w.0 in
        filled_from n links (take (i + 1) links) p.tree before (set sides place s) (omega arith) p.filled (simp length-set long)
        (λ k h. ⊎_elim
        (λ (q : k ≡ place).
        ap (λ (z : ℕ). side_at (set sides place s) z) q
        ∙ (get_or-set_same sides place s blank w.1 ∙ (marked place w.0 w.2 ∙ ap (λ (z : ℕ). new_side (take (i + 1) links) (ends_in n p.tree z)) (sym q))))
        (λ (q : k ≡ place → ⊥). get_or-set_other sides place k s blank q ∙ (held k h ∙ untouched place f k h q))
        (cases_eq k place))
        (drop-set-lt (side_count n) sides place s o ∙ p.rest)
      where
        marked : (k : ℕ) → k < side_count n → Named (side_ends (side_at sides k)) (ends_at links i).from (ends_at links i).to
            → record { low = (side_at sides k).low; high = (side_at sides k).high; link = true; leaf = (side_at sides k).leaf } ≡ new_side (take (i + 1) links) (ends_in n p.tree k)
        marked k h m =
            let e = ends_in n p.tree k in
            ap (λ (z : Side). record { low = z.low; high = z.high; link = true; leaf = z.leaf }) (held k h)
            ∙ new_same e ((decides_named (link_at links i) e.from e.to).1
            (turned (ends_at links i).from (ends_at links i).to e.from e.to
            (subst (λ (z : Side). Named (side_ends z) (ends_at links i).from (ends_at links i).to) (held k h) m)))

        untouched : (place : ℕ) → Finds n sides (ends_at links i).from (ends_at links i).to (Some place) → (k : ℕ) → k < side_count n → (k ≡ place → ⊥)
            → new_side (take i links) (ends_in n p.tree k) ≡ new_side (take (i + 1) links) (ends_in n p.tree k)
        untouched place f k h q =
            let e = ends_in n p.tree k in
            new_other e (⊎_elim
            (λ (t : is_named (link_at links i) e.from e.to ≡ true). let z = answered (Some place) f k h t in absurd (q (sym (some_inj place k z))))
            (λ (t : is_named (link_at links i) e.from e.to ≡ false). t)
            (cases_Bool (is_named (link_at links i) e.from e.to)))
