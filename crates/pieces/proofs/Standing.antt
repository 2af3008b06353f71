-- The records written in order are a division, and there is only one list of them.
-- Assumes the ends of a filled ring in preorder.
use Rattle.std.proofs.Common.{◌≡◌, ℕ, suc, ◌+◌, ◌-◌, ◌*◌, ◌<◌, ◌≤◌, List, [], ◌∷◌, ◌++◌, length, get_or, take, sym, refl, ap, ◌∙◌, subst, inl, inr, ⊎_elim, arith}
use Rattle.std.proofs.lemmas.List.{length-append, get_or_append_left, get_or-append-add, get_or-take}
use Rattle.std.proofs.lemmas.Bool.{cases_lt, cases_eq}
use Rattle.records.specs.declared.Piece.{Piece}
use Rattle.pieces.specs.Sides.{Ends, span, Filled}
use Rattle.records.specs.Few.{listed}
use Rattle.pieces.specs.Cuts.{triangles, seams, cap, whole, size, single, deeper}
use Rattle.pieces.specs.Order.{Records, seam_in, first_of, second_of, cut_record}
use Rattle.pieces.specs.Order.Records.{leaf, node}
use Rattle.pieces.specs.Holding.{piece_at, Above}
use Rattle.pieces.specs.Holding.Above.{parent, higher}
use Rattle.pieces.specs.Division.{WholePlan, PieceStands, Division}
use Rattle.pieces.proofs.Tree.{root_fits}
use Rattle.pieces.proofs.Places.{preorder}
use Rattle.pieces.proofs.FewLists.{none_pinned}
use Rattle.pieces.proofs.Parts.{inner_list, outer_list, sizes_add}
use Rattle.pieces.proofs.Shares.{sound_size, inner_left, outer_left}
use Rattle.pieces.proofs.DepthBound.{deep_whole, deep_cut}
use Rattle.pieces.proofs.Ready.{Ready, seam_is_cut, first_list, second_list, first_ready, second_ready, first_size, second_size}
use Rattle.pieces.proofs.Known.{Known, known_first, known_second}
use Rattle.pieces.proofs.Shown.{Shown}
use Rattle.pieces.proofs.Clauses.{itself, uncut, cut_in_two, stands_by}

-- what the list of records begins with
pub head_shown : {e : Ends} {p : ℕ} {P : Piece} {ds : List Piece} → Records e p P ds → Shown (get_or ds 0 whole) P.top (listed P.holes) P.level P.parent
head_shown (leaf l) = record { top_is = refl; holes_are = refl; level_is = refl; parent_is = refl }
head_shown (node l a b) = record { top_is = refl; holes_are = refl; level_is = refl; parent_is = refl }

-- a piece and the cuts below it leave one list of records
pub records_once : {e : Ends} {p : ℕ} {P : Piece} {xs ys : List Piece} → Records e p P xs → Records e p P ys → xs ≡ ys
records_once (leaf l) (leaf k) = refl
records_once (leaf l) (node k a b) = absurd (omega arith)
records_once (node l a b) (leaf k) = absurd (omega arith)
records_once {e} {p} {P} (node {xs = xs} {ys = ys} l a b) (node {xs = us} {ys = vs} k c d) =
    ap (λ zs. cut_record e p P ∷ (zs ++ ys)) (records_once a c) ∙ ap (λ zs. cut_record e p P ∷ (us ++ zs)) (records_once b d)

head_plan : {e : Ends} {p : ℕ} {P : Piece} {ds : List Piece} → Records e p P ds → WholePlan P → WholePlan (get_or ds 0 whole)
head_plan (leaf l) w = record { no_parent = w.no_parent; level_0 = w.level_0; root_side = w.root_side; no_holes = w.no_holes }
head_plan (node l a b) w = record { no_parent = w.no_parent; level_0 = w.level_0; root_side = w.root_side; no_holes = w.no_holes }

-- the records ds stand in the area from the index p on
abbrev pub Placed : List Piece → ℕ → List Piece → Type 0
Placed ps p ds = (i : ℕ) → i < length ds → piece_at ps (p + i) ≡ get_or ds i whole

module _ (n : ℕ) (e : Ends) (fl : Filled n e) where
  pub size_halves : (p : ℕ) (P : Piece) → Ready n (span e) P → 2 ≤ size (span e) P → (size (span e) (first_of (span e) p P) + size (span e) (second_of (span e) p P) ≡ size (span e) P) × (1 ≤ size (span e) (first_of (span e) p P)) × (1 ≤ size (span e) (second_of (span e) p P))
  size_halves p P r two =
      let pre = preorder n e fl in
      let c = seam_is_cut n (span e) pre p P r two in
      let a = first_size n (span e) pre p P r two in
      let b = second_size n (span e) pre p P r two in
      let x = inner_left n (span e) pre P.top (listed P.holes) r.sound (seam_in (span e) P) c in
      let y = outer_left n (span e) pre P.top (listed P.holes) r.sound (seam_in (span e) P) c in
      (omega (arith, sizes_add n (span e) pre P.top (listed P.holes) r.sound (seam_in (span e) P) c), omega (arith, x.some), omega (arith, y.some))

  -- t triangles make 2t - 1 pieces
  pub records_length : {p : ℕ} {P : Piece} {ds : List Piece} → Records e p P ds → Ready n (span e) P → length ds + 1 ≡ 2 * size (span e) P
  records_length {p} {P} (leaf l) r = omega (arith, sound_size n (span e) (preorder n e fl) P.top (listed P.holes) r.sound)
  records_length {p} {P} (node {xs = xs} {ys = ys} two a b) r =
      let pre = preorder n e fl in
      omega (
        arith,
        length-append xs ys,
        size_halves p P r two,
        records_length a (first_ready n (span e) pre p P r two),
        records_length b (second_ready n (span e) pre p P r two),
      )

  module _ (ps : List Piece) where
    -- the piece of one triangle
    stands_leaf : (p : ℕ) (P : Piece) → size (span e) P ≤ 1 → Ready n (span e) P → piece_at ps p ≡ single e P → Known n (span e) ps p P.top (listed P.holes) P.level P.parent → PieceStands n e ps p (piece_at ps p)
    stands_leaf p P one r at k =
        subst (PieceStands n e ps p) (sym at)
        (stands_by n e fl ps p (single e P) k r.pinned refl
        (inl (uncut n (span e) (preorder n e fl) P.top (listed P.holes) r.sound (single e P) P.level P.parent (itself (single e P)) one refl refl refl)))

    -- the numbers of the parts fit 16 bits
    first_fits : (p : ℕ) (P : Piece) → p + 2 * size (span e) P + 4 ≤ 2 * n → 2 ≤ size (span e) P → cap (p + 1) ≡ p + 1
    first_fits p P range two = omega (arith, fl.most)

    second_fits : (p t : ℕ) (P : Piece) → p + 2 * size (span e) P + 4 ≤ 2 * n → t ≤ size (span e) P → cap (p + 2 * t) ≡ p + 2 * t
    second_fits p t P range l = omega (arith, fl.most)

    stands_node : (p : ℕ) (P : Piece) → 2 ≤ size (span e) P → Ready n (span e) P → piece_at ps p ≡ cut_record e p P
        → Known n (span e) ps p P.top (listed P.holes) P.level P.parent
        → Shown (piece_at ps (p + 1)) (seam_in (span e) P) (inner_list (span e) (seam_in (span e) P) (listed P.holes)) (P.level + 1) p
        → Shown (piece_at ps (p + 2 * size (span e) (first_of (span e) p P))) P.top (outer_list (span e) (seam_in (span e) P) (listed P.holes)) (P.level + 1) p
        → PieceStands n e ps p (piece_at ps p)
    stands_node p P two r at k wa wb =
        let pre = preorder n e fl in
        let c = seam_is_cut n (span e) pre p P r two in
        let v = seam_in (span e) P in
        let hs = listed P.holes in
        let fs = first_size n (span e) pre p P r two in
        let h = size_halves p P r two in
        let t = size (span e) (first_of (span e) p P) in
        let f1 = first_fits p P k.range two in
        let f2 = second_fits p t P k.range (omega (arith, h.0)) in
        subst (PieceStands n e ps p) (sym at)
        (stands_by n e fl ps p (cut_record e p P) k r.pinned refl
        (inr (cut_in_two n (span e) pre P.top hs r.sound v c p (cut_record e p P)
        (piece_at ps (cap (p + 1))) (piece_at ps (cap (p + 2 * t))) P.level P.parent (itself (cut_record e p P))
        (subst (λ x. Shown (piece_at ps x) v (inner_list (span e) v hs) (P.level + 1) p) (sym f1) wa)
        (subst (λ x. Shown (piece_at ps x) P.top (outer_list (span e) v hs) (P.level + 1) p) (sym f2) wb)
        refl f1 (f2 ∙ ap (λ x. p + 2 * x) fs) k.range two)))

    stand_all : {p : ℕ} {P : Piece} {ds : List Piece} → Records e p P ds → Ready n (span e) P → Placed ps p ds → Known n (span e) ps p P.top (listed P.holes) P.level P.parent → (q : ℕ) → p ≤ q → q < p + length ds → PieceStands n e ps q (piece_at ps q)
    stand_all {p} {P} (leaf one) r pl k q low high =
        let at : piece_at ps p ≡ single e P = ap (λ x. piece_at ps x) (omega arith) ∙ pl 0 (omega arith) in
        subst (λ x. PieceStands n e ps x (piece_at ps x)) (omega arith) (stands_leaf p P one r at k)
    stand_all {p} {P} (node {xs = xs} {ys = ys} two a b) r pl k q low high =
        let pre = preorder n e fl in
        let len = span e in
        let v = seam_in len P in
        let hs = listed P.holes in
        let c = seam_is_cut n len pre p P r two in
        let at : piece_at ps p ≡ cut_record e p P = ap (λ x. piece_at ps x) (omega arith) ∙ pl 0 (omega arith) in
        let la = length-append xs ys in
        let r1 = first_ready n len pre p P r two in
        let r2 = second_ready n len pre p P r two in
        let lx = records_length a r1 in
        let ly = records_length b r2 in
        let h = size_halves p P r two in
        let t = size len (first_of len p P) in
        let p2 = p + 2 * t in
        let pl1 : Placed ps (p + 1) xs = λ i l.
        ap (λ x. piece_at ps x) (omega arith) ∙ pl (suc i) (omega arith) ∙ get_or_append_left xs ys whole i l in
        let pl2 : Placed ps p2 ys = λ i l.
        ap (λ x. piece_at ps x) (omega arith) ∙ pl (suc (length xs + i)) (omega arith) ∙ get_or-append-add xs ys i whole in
        let hx = head_shown a in
        let hy = head_shown b in
        let e1 : piece_at ps (p + 1) ≡ get_or xs 0 whole = ap (λ x. piece_at ps x) (omega arith) ∙ pl1 0 (omega arith) in
        let e2 : piece_at ps p2 ≡ get_or ys 0 whole = ap (λ x. piece_at ps x) (omega arith) ∙ pl2 0 (omega arith) in
        let deep = deep_cut P.level (triangles len hs P.top) (seams P.top hs) k.deep two in
        let lev : deeper P ≡ P.level + 1 = omega arith in
        let l1 = first_list n len pre p P r two in
        let l2 = second_list n len pre p P r two in
        let wa : Shown (piece_at ps (p + 1)) v (inner_list len v hs) (P.level + 1) p =
        subst (λ x. Shown x v (inner_list len v hs) (P.level + 1) p) (sym e1)
        (record { top_is = hx.top_is; holes_are = hx.holes_are ∙ l1; level_is = hx.level_is ∙ lev; parent_is = hx.parent_is }) in
        let wb : Shown (piece_at ps p2) P.top (outer_list len v hs) (P.level + 1) p =
        subst (λ x. Shown x P.top (outer_list len v hs) (P.level + 1) p) (sym e2)
        (record { top_is = hy.top_is; holes_are = hy.holes_are ∙ l2; level_is = hy.level_is ∙ lev; parent_is = hy.parent_is }) in
        let f1 = first_fits p P k.range two in
        let f2 = second_fits p t P k.range (omega (arith, h.0)) in
        let fs = first_size n len pre p P r two in
        let k1 = known_first n len pre ps p P.top hs P.level P.parent k two v c (ap (λ (x : Piece). x.seam) at) (ap (λ (x : Piece). x.first) at ∙ f1) wa.parent_is in
        let k2 = known_second n len pre ps p P.top hs P.level P.parent k two v c (ap (λ (x : Piece). x.seam) at) p2 (ap (λ x. p + 2 * x) fs) (ap (λ (x : Piece). x.second) at ∙ f2) wb.parent_is in
        let k1' : Known n len ps (p + 1) v (listed (first_of len p P).holes) (deeper P) p =
        subst (λ x. Known n len ps (p + 1) v x (deeper P) p) (sym l1) (subst (λ x. Known n len ps (p + 1) v (inner_list len v hs) x p) (sym lev) k1) in
        let k2' : Known n len ps p2 P.top (listed (second_of len p P).holes) (deeper P) p =
        subst (λ x. Known n len ps p2 P.top x (deeper P) p) (sym l2) (subst (λ x. Known n len ps p2 P.top (outer_list len v hs) x p) (sym lev) k2) in
        ⊎_elim
        (λ z. subst (λ x. PieceStands n e ps x (piece_at ps x)) z (stands_node p P two r at k wa wb))
        (λ z. ⊎_elim
        (λ y. stand_all a r1 pl1 k1' q (omega arith) (omega arith))
        (λ y. stand_all b r2 pl2 k2' q (omega arith) (omega arith))
        (cases_lt q p2))
        (cases_eq p q)

    whole_ready : Ready n (span e) whole
    whole_ready =
        let pre = preorder n e fl in
        let root = pre.root in
        let least = fl.least in
        record { sound = record { fit = root_fits n (span e) pre; base = omega arith; row = omega arith; few = omega arith }; pinned = none_pinned }

    whole_known : Known n (span e) ps 0 0 [] 0 0
    whole_known =
        let pre = preorder n e fl in
        let root = pre.root in
        let least = fl.least in
        let most = fl.most in
        record {
          sound = whole_ready.sound;
          complete = λ a ab b h side. absurd (none_above a ab);
          cut_above = λ s m. absurd m;
          hole_sides = λ h m. absurd m;
          deep = deep_whole (span e 0 - 1 - 0) 0 (omega arith);
          under_parent = λ z. absurd (omega arith);
          range = omega arith;
        }
      where
        none_above : (a : ℕ) → Above ps a 0 → ⊥
        none_above a (parent z q) = omega arith
        none_above a (higher z q r) = omega arith

    pub divided : {ds : List Piece} → Records e 0 whole ds → take (2 * n - 5) ps ≡ ds → Division n e ps
    divided {ds} rec at =
        let pre = preorder n e fl in
        let root = pre.root in
        let least = fl.least in
        let l = records_length rec whole_ready in
        let m : length ds ≡ 2 * n - 5 = omega arith in
        let pl : Placed ps 0 ds = λ i b.
        ap (λ x. piece_at ps x) (omega arith) ∙ sym (get_or-take (2 * n - 5) ps i whole (omega arith)) ∙ ap (λ xs. get_or xs i whole) at in
        record {
          whole_plan = subst WholePlan (sym (pl 0 (omega arith))) (head_plan rec (record { no_parent = refl; level_0 = refl; root_side = refl; no_holes = refl }));
          stands = λ p b. stand_all rec whole_ready pl whole_known p (omega arith) (omega arith);
        }
