-- One turn of the division: the next piece is finished, and its parts, if it has any, wait in its place.
-- Assumes the ends of a filled ring in preorder.
use Rattle.std.proofs.Common.{◌≡◌, ℕ, zero, suc, ◌+◌, ◌-◌, ◌*◌, ◌<◌, ◌≤◌, ◌≢◌, List, [], ◌∷◌, ◌++◌, length, get_or, take, set, sym, refl, ap, ◌∙◌, subst, arith}
use Rattle.std.proofs.lemmas.List.{append_assoc, append-nil, take_more_set, get_or-set_same, get_or-set_other, length-set}
use Rattle.records.specs.declared.Piece.{Piece}
use Rattle.records.specs.Few.{listed}
use Rattle.pieces.specs.Sides.{Ends, span, Filled}
use Rattle.pieces.specs.Cuts.{whole, size, single, seams, deeper}
use Rattle.pieces.specs.Order.{Records, first_of, second_of, cut_record, seam_in}
use Rattle.pieces.specs.Order.Records.{leaf, node}
use Rattle.pieces.specs.Waiting.{ToCome, Together}
use Rattle.pieces.proofs.Places.{preorder}
use Rattle.pieces.proofs.Ready.{Ready, seam_is_cut, first_ready, second_ready, first_list, second_list}
use Rattle.pieces.proofs.Shares.{sound_size, inner_left, outer_left}
use Rattle.pieces.proofs.Tree.{root_fits}
use Rattle.pieces.proofs.FewLists.{none_pinned}
use Rattle.pieces.proofs.DepthBound.{Deep, deep_whole, deep_part, deep_cut, deep_level}
use Rattle.pieces.proofs.Standing.{size_halves}

-- the piece is ready to be cut, and no deeper than its size allows
pub record Waits (n : ℕ) (len : ℕ → ℕ) (P : Piece) : Type 0 where
  pub ready : Ready n len P
  pub deep : Deep P.level (size len P) (seams P.top (listed P.holes))

-- the k waiting pieces take the numbers from p up to the last; a piece with k below it lies at level k or deeper
abbrev pub InLine : ℕ → (ℕ → ℕ) → List Piece → ℕ → ℕ → Type 0
InLine n len ts zero p = p + 5 ≡ 2 * n
InLine n len ts (suc k) p =
    (q : ℕ) × (Waits n len (get_or ts k whole) × (k ≤ (get_or ts k whole).level) × (q + 1 ≡ p + 2 * size len (get_or ts k whole)) × InLine n len ts k q)

-- the state of the division when p records are written
pub record UnderWay (n : ℕ) (e : Ends) (p : ℕ) (ps ts : List Piece) (k : ℕ) : Type 0 where
  pub line : InLine n (span e) ts k p
  pub together : Together e p ps ts k

line_frame : (n : ℕ) (len : ℕ → ℕ) (ts us : List Piece) (k p : ℕ) → ((j : ℕ) → j < k → get_or us j whole ≡ get_or ts j whole) → InLine n len ts k p → InLine n len us k p
line_frame n len ts us zero p same l = l
line_frame n len ts us (suc k) p same l =
    let e = same k (omega arith) in (
      l.0,
      (
        subst (Waits n len) (sym e) l.1.0,
        subst (λ (x : Piece). k ≤ x.level) (sym e) l.1.1,
        subst (λ (x : Piece). l.0 + 1 ≡ p + 2 * size len x) (sym e) l.1.2,
        line_frame n len ts us k l.0 (λ j b. same j (omega arith)) l.1.3,
      ),
    )

come_frame : (e : Ends) (ts us : List Piece) (k p : ℕ) (ys : List Piece) → ((j : ℕ) → j < k → get_or us j whole ≡ get_or ts j whole) → ToCome e us k p ys → ToCome e ts k p ys
come_frame e ts us zero p ys same l = l
come_frame e ts us (suc k) p ys same l =
    let f = same k (omega arith) in (
      l.0,
      l.1,
      l.2,
      (
        l.3.0,
        subst (λ x. Records e p x l.0) f l.3.1,
        subst (λ x. l.2 + 1 ≡ p + 2 * size (span e) x) f l.3.2,
        come_frame e ts us k l.2 l.1 (λ j b. same j (omega arith)) l.3.3,
      ),
    )

module _ (n : ℕ) (e : Ends) (fl : Filled n e) where
  waits_size : (P : Piece) → Waits n (span e) P → 1 ≤ size (span e) P
  waits_size P w = sound_size n (span e) (preorder n e fl) P.top (listed P.holes) w.ready.sound

  -- no more pieces wait than there are numbers left
  line_room : (ts : List Piece) (k p : ℕ) → InLine n (span e) ts k p → p + k + 5 ≤ 2 * n
  line_room ts zero p l = omega (arith, l)
  line_room ts (suc k) p l = omega (arith, line_room ts k l.0 l.1.3, l.1.2, waits_size (get_or ts k whole) l.1.0)

  -- where records are missing a piece waits, and at most 41 wait
  pub one_waits : (ts : List Piece) (k p : ℕ) → InLine n (span e) ts k p → p + 5 < 2 * n → 0 < k
  one_waits ts zero p l b = absurd (omega (arith, l))
  one_waits ts (suc k) p l b = omega arith

  pub few_wait : (ts : List Piece) (k p : ℕ) → InLine n (span e) ts k p → k ≤ 41
  few_wait ts zero p l = omega arith
  few_wait ts (suc k) p l =
      let w = l.1.0 in
      let P = get_or ts k whole in
      omega (arith, l.1.1, deep_level P.level (size (span e) P) (seams P.top (listed P.holes)) w.deep (waits_size P w))

  parts_wait : (p : ℕ) (P : Piece) → Waits n (span e) P → 2 ≤ size (span e) P → Waits n (span e) (first_of (span e) p P) × Waits n (span e) (second_of (span e) p P) × (deeper P ≡ P.level + 1)
  parts_wait p P w two =
      let pre = preorder n e fl in
      let len = span e in
      let r = w.ready in
      let hs = listed P.holes in
      let v = seam_in len P in
      let c = seam_is_cut n len pre p P r two in
      let cut = deep_cut P.level (size len P) (seams P.top hs) w.deep two in
      let lev : deeper P ≡ P.level + 1 = omega arith in
      let a = inner_left n len pre P.top hs r.sound v c in
      let b = outer_left n len pre P.top hs r.sound v c in
      let l1 = first_list n len pre p P r two in
      let l2 = second_list n len pre p P r two in
      let few = r.sound.few in
      let d1 = deep_part P.level (size len P) (seams P.top hs) _ _ w.deep two few a in
      let d2 = deep_part P.level (size len P) (seams P.top hs) _ _ w.deep two few b in (
        record { ready = first_ready n len pre p P r two; deep = subst (λ (x : ℕ). Deep x (size len (first_of len p P)) (seams v (listed (first_of len p P).holes))) (sym lev) (subst (λ (xs : List ℕ). Deep (P.level + 1) (Rattle.pieces.specs.Cuts.triangles len xs v) (seams v xs)) (sym l1) d1) },
        record { ready = second_ready n len pre p P r two; deep = subst (λ (x : ℕ). Deep x (size len (second_of len p P)) (seams P.top (listed (second_of len p P).holes))) (sym lev) (subst (λ (xs : List ℕ). Deep (P.level + 1) (Rattle.pieces.specs.Cuts.triangles len xs P.top) (seams P.top xs)) (sym l2) d2) },
        lev,
      )

  module _ (p : ℕ) (ps ts : List Piece) (k : ℕ) (P : Piece) (is : P ≡ get_or ts k whole) (room : p < length ps) (u : UnderWay n e p ps ts (suc k)) where
    waits_here : Waits n (span e) P
    waits_here = subst (Waits n (span e)) (sym is) u.line.1.0

    next_number : u.line.0 + 1 ≡ p + 2 * size (span e) P
    next_number = subst (λ x. u.line.0 + 1 ≡ p + 2 * size (span e) x) (sym is) u.line.1.2

    written : (D : Piece) (ys : List Piece) → take (p + 1) (set ps p D) ++ ys ≡ take p ps ++ (D ∷ ys)
    written D ys = ap (λ xs. xs ++ ys) (take_more_set ps p D room) ∙ append_assoc (take p ps) (D ∷ []) ys

    -- a piece of one triangle is finished
    pub turn_leaf : size (span e) P ≤ 1 → UnderWay n e (p + 1) (set ps p (single e P)) ts k
    turn_leaf one =
        let some = waits_size P waits_here in
        record {
          line = subst (InLine n (span e) ts k) (omega (arith, next_number)) u.line.1.3;
          together = λ ys c.
              subst (Records e 0 whole) (sym (written (single e P) ys))
              (u.together (single e P ∷ ys) (
                single e P ∷ [],
                ys,
                p + 1,
                (refl, subst (λ x. Records e p x (single e P ∷ [])) is (leaf one), subst (λ x. p + 1 + 1 ≡ p + 2 * size (span e) x) is (omega arith), c),
              ));
        }

    -- a piece of several is finished, and its two parts wait, the first on top
    pub turn_node : 2 ≤ size (span e) P → suc k < length ts → UnderWay n e (p + 1) (set ps p (cut_record e p P)) (set (set ts k (second_of (span e) p P)) (suc k) (first_of (span e) p P)) (suc (suc k))
    turn_node two wide =
        let len = span e in
        let F = first_of len p P in
        let S = second_of len p P in
        let us = set (set ts k S) (suc k) F in
        let D = cut_record e p P in
        let long = length-set ts k S in
        let at_f : get_or us (suc k) whole ≡ F = get_or-set_same (set ts k S) (suc k) F whole (omega arith) in
        let ne : k ≢ suc k = λ x. omega arith in
        let at_s : get_or us k whole ≡ S = get_or-set_other (set ts k S) (suc k) k F whole ne ∙ get_or-set_same ts k S whole (omega arith) in
        let low : (j : ℕ) → j < k → get_or us j whole ≡ get_or ts j whole = λ j b.
        get_or-set_other (set ts k S) (suc k) j F whole (λ x. omega arith) ∙ get_or-set_other ts k j S whole (λ x. omega arith) in
        let w = parts_wait p P waits_here two in
        let h = size_halves n e fl p P waits_here.ready two in
        let level : k ≤ P.level = subst (λ (x : Piece). k ≤ x.level) (sym is) u.line.1.1 in
        let next = next_number in
        record {
          line = (
            p + 2 * size len F,
            (
              subst (Waits n len) (sym at_f) w.0,
              subst (λ (x : Piece). suc k ≤ x.level) (sym at_f) (omega (arith, w.2)),
              subst (λ (x : Piece). p + 2 * size len F + 1 ≡ p + 1 + 2 * size len x) (sym at_f) (omega arith),
              (
                u.line.0,
                (
                  subst (Waits n len) (sym at_s) w.1,
                  subst (λ (x : Piece). k ≤ x.level) (sym at_s) (omega (arith, w.2)),
                  subst (λ (x : Piece). u.line.0 + 1 ≡ p + 2 * size len F + 2 * size len x) (sym at_s) (omega (arith, h.0)),
                  line_frame n len ts us k u.line.0 low u.line.1.3,
                ),
              ),
            ),
          );
          together = λ ys c.
              let xs = c.0 in
              let zs = c.1 in
              let a = c.3 in
              let b = a.3 in
              let vs = b.0 in
              let ws = b.1 in
              let q : c.2 ≡ p + 2 * size len F = omega (arith, subst (λ (x : Piece). c.2 + 1 ≡ p + 1 + 2 * size len x) at_f a.2) in
              let first : Records e (p + 1) F xs = subst (λ x. Records e (p + 1) x xs) at_f a.1 in
              let second : Records e (p + 2 * size len F) S vs = subst (λ m. Records e m S vs) q (subst (λ x. Records e c.2 x vs) at_s b.3.1) in
              let last : b.2 + 1 ≡ p + 2 * size len P = omega (arith, q, h.0, subst (λ (x : Piece). b.2 + 1 ≡ c.2 + 2 * size len x) at_s b.3.2) in
              let rest : ys ≡ (xs ++ vs) ++ ws = a.0 ∙ ap (λ l. xs ++ l) b.3.0 ∙ sym (append_assoc xs vs ws) in
              subst (Records e 0 whole) (sym (written D ys ∙ ap (λ l. take p ps ++ (D ∷ l)) rest))
              (u.together (D ∷ ((xs ++ vs) ++ ws)) (
                D ∷ (xs ++ vs),
                ws,
                b.2,
                (
                  refl,
                  subst (λ x. Records e p x (D ∷ (xs ++ vs))) is (node two first second),
                  subst (λ x. b.2 + 1 ≡ p + 2 * size len x) is last,
                  come_frame e ts us k b.2 ws low b.3.3,
                ),
              ));
        }

  -- before the first turn only the whole plan waits
  pub begins : (ps ts : List Piece) → 0 < length ts → UnderWay n e 0 ps (set ts 0 whole) 1
  begins ps ts wide =
      let pre = preorder n e fl in
      let root = pre.root in
      let least = fl.least in
      let most = fl.most in
      let at : get_or (set ts 0 whole) 0 whole ≡ whole = get_or-set_same ts 0 whole whole wide in
      let w : Waits n (span e) whole =
      record {
        ready = record { sound = record { fit = root_fits n (span e) pre; base = omega arith; row = omega arith; few = omega arith }; pinned = none_pinned };
        deep = deep_whole (span e 0 - 1 - 0) 0 (omega arith);
      } in
      record {
        line = (2 * n - 5, (subst (Waits n (span e)) (sym at) w, omega arith, subst (λ x. 2 * n - 5 + 1 ≡ 0 + 2 * size (span e) x) (sym at) (omega arith), omega arith));
        together = λ ys c.
            subst (Records e 0 whole) (sym (c.3.0 ∙ ap (λ l. c.0 ++ l) c.3.3 ∙ append-nil c.0))
            (subst (λ x. Records e 0 x c.0) at c.3.1);
      }

  -- when every number is taken nothing waits, and the records are those of the whole plan
  pub ends : (p : ℕ) (ps ts : List Piece) (k : ℕ) → p + 5 ≡ 2 * n → UnderWay n e p ps ts k → Records e 0 whole (take p ps)
  ends p ps ts zero e' u = subst (Records e 0 whole) (append-nil (take p ps)) (u.together [] refl)
  ends p ps ts (suc k) e' u = absurd (omega (arith, line_room ts (suc k) p u.line))
