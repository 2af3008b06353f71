-- The pieces that hold a triangle lie on one way up.
-- Assumes a division, by its clauses alone.
use Rattle.std.proofs.Common.{◌≡◌, ℕ, zero, suc, ◌+◌, ◌*◌, ◌<◌, ◌≤◌, true, false, ltb, ◌⊎◌, List, [], ◌∷◌, length, sym, refl, ap, ◌∙◌, subst, inl, inr, ⊎_elim, arith}
use Rattle.std.proofs.lemmas.Bool.{cases_eq, cond-true, cond-false, and_from, and_right, lt-ltb, le-ltb}
use Rattle.records.specs.declared.Piece.{Piece}
use Rattle.records.specs.Few.{Among}
use Rattle.pieces.specs.Sides.{Ends, span}
use Rattle.pieces.specs.Holding.{piece_at, Holds, Above}
use Rattle.pieces.specs.Holding.Above.{parent, higher}
use Rattle.pieces.specs.Division.{Division, Uncut, CutInTwo}
use Rattle.pieces.specs.Holders.{OnWayUp, HoldersOnWayUp, climbs, way_up, WayUp, WayUpComplete}

module _ (n : ℕ) (e : Ends) (ps : List Piece) (d : Division n e ps) where
  -- a piece with a number above 0 is a child of its parent, which is cut
  pub record UnderCut (p : ℕ) : Type 0 where
    pub lower : (piece_at ps p).parent < p
    pub cut : CutInTwo n (span e) (piece_at ps p).parent (piece_at ps (piece_at ps p).parent) (piece_at ps (piece_at ps (piece_at ps p).parent).first) (piece_at ps (piece_at ps (piece_at ps p).parent).second)
    pub which : ((piece_at ps (piece_at ps p).parent).first ≡ p) ⊎ ((piece_at ps (piece_at ps p).parent).second ≡ p)

  pub under_cut : (p : ℕ) → 0 < p → p + 5 < 2 * n → UnderCut p
  under_cut p z r =
      let c = (d.stands p r).child_of_parent z in
      record {
        lower = c.0;
        which = c.1;
        cut = ⊎_elim
            (λ u. absurd (⊎_elim (λ f. omega (arith, u.no_first, f)) (λ f. omega (arith, u.no_second, f)) c.1))
            (λ k. k)
            (d.stands (piece_at ps p).parent (omega (arith, c.0))).cut;
      }

  parent_holds : (p b : ℕ) → 0 < p → p + 5 < 2 * n → Holds (span e) (piece_at ps p) b → Holds (span e) (piece_at ps (piece_at ps p).parent) b
  parent_holds p b z r h =
      let u = under_cut p z r in
      ⊎_elim (λ f. u.cut.parts.first_in b (subst (λ x. Holds (span e) (piece_at ps x) b) (sym f) h))
      (λ f. u.cut.parts.second_in b (subst (λ x. Holds (span e) (piece_at ps x) b) (sym f) h)) u.which

  above_holds : (p q b : ℕ) → q + 5 < 2 * n → Above ps p q → Holds (span e) (piece_at ps q) b → Holds (span e) (piece_at ps p) b
  above_holds p q b r (parent z f) h = subst (λ x. Holds (span e) (piece_at ps x) b) f (parent_holds q b z r h)
  above_holds p q b r (higher {q = m} z f w) h =
      above_holds p m b (omega (arith, (under_cut q z r).lower, f)) w (subst (λ x. Holds (span e) (piece_at ps x) b) f (parent_holds q b z r h))

  pub root_above : (g q : ℕ) → q ≤ g → q + 5 < 2 * n → 0 < q → Above ps 0 q
  root_above zero q l r z = absurd (omega arith)
  root_above (suc g) q l r z =
      let lower = (under_cut q z r).lower in
      ⊎_elim (λ f. parent z (sym f)) (λ f. higher z refl (root_above g (piece_at ps q).parent (omega arith) (omega arith) (positive (piece_at ps q).parent f))) (cases_eq 0 (piece_at ps q).parent)
    where
      positive : (m : ℕ) → (0 ≡ m → ⊥) → 0 < m
      positive m h = omega arith

  -- the child of r on the way up from q
  child_on : (r q : ℕ) → q + 5 < 2 * n → Above ps r q → (c : ℕ) × (((piece_at ps c).parent ≡ r) × (0 < c) × (c ≤ q) × OnWayUp ps c q)
  child_on r q l (parent z f) = (q, (f, z, omega arith, inl refl))
  child_on r q l (higher {q = m} z f w) =
      let low = (under_cut q z l).lower in
      let h = child_on r m (omega (arith, f)) w in
      (h.0, (h.1.0, h.1.1, omega (arith, h.1.2, f), inr (⊎_elim (λ s. parent z (f ∙ sym s)) (λ a. higher z f a) h.1.3)))

  on_holds : (p q b : ℕ) → q + 5 < 2 * n → OnWayUp ps p q → Holds (span e) (piece_at ps q) b → Holds (span e) (piece_at ps p) b
  on_holds p q b r o h = ⊎_elim (λ s. subst (λ x. Holds (span e) (piece_at ps x) b) (sym s) h) (λ a. above_holds p q b r a h) o

  -- two children of one piece that hold a triangle are one
  one_child : (p c b : ℕ) → 0 < p → p + 5 < 2 * n → 0 < c → c + 5 < 2 * n → (piece_at ps c).parent ≡ (piece_at ps p).parent → Holds (span e) (piece_at ps p) b → Holds (span e) (piece_at ps c) b → p ≡ c
  one_child p c b zp rp zc rc same hp hc =
      let u = under_cut p zp rp in
      let w : ((piece_at ps (piece_at ps p).parent).first ≡ c) ⊎ ((piece_at ps (piece_at ps p).parent).second ≡ c) =
      subst (λ r. ((piece_at ps r).first ≡ c) ⊎ ((piece_at ps r).second ≡ c)) same (under_cut c zc rc).which in
      let at = λ (x y : ℕ) (s : x ≡ y) (h : Holds (span e) (piece_at ps y) b). subst (λ z. Holds (span e) (piece_at ps z) b) (sym s) h in
      ⊎_elim
      (λ f. ⊎_elim (λ g. sym f ∙ g) (λ g. absurd (u.cut.parts.apart b (at _ p f hp) (at _ c g hc))) w)
      (λ f. ⊎_elim (λ g. absurd (u.cut.parts.apart b (at _ c g hc) (at _ p f hp))) (λ g. sym f ∙ g) w)
      u.which

  holds_on : (q b : ℕ) → q + 5 < 2 * n → Uncut n (span e) (piece_at ps q) → Holds (span e) (piece_at ps q) b → (g p : ℕ) → p ≤ g → p + 5 < 2 * n → Holds (span e) (piece_at ps p) b → OnWayUp ps p q
  holds_on q b rq leaf hq g zero l rp hp =
      ⊎_elim (λ s. inl s) (λ s. inr (root_above q q (omega arith) rq (positive q s))) (cases_eq 0 q)
    where
      positive : (m : ℕ) → (0 ≡ m → ⊥) → 0 < m
      positive m h = omega arith
  holds_on q b rq leaf hq zero (suc p) l rp hp = absurd (omega arith)
  holds_on q b rq leaf hq (suc g) (suc p) l rp hp =
      let u = under_cut (suc p) (omega arith) rp in
      let r = (piece_at ps (suc p)).parent in
      ⊎_elim
      (λ s. absurd (⊎_elim (λ f. omega (arith, ap (λ x. (piece_at ps x).first) s, leaf.no_first, f)) (λ f. omega (arith, ap (λ x. (piece_at ps x).second) s, leaf.no_second, f)) u.which))
      (λ a.
      let c = child_on r q rq a in
      let rc : c.0 + 5 < 2 * n = omega (arith, c.1.2) in
      let hc = on_holds c.0 q b rq c.1.3 hq in
      let s = one_child (suc p) c.0 b (omega arith) rp c.1.1 rc c.1.0 hp hc in
      subst (λ x. OnWayUp ps x q) (sym s) c.1.3)
      (holds_on q b rq leaf hq g r (omega (arith, u.lower)) (omega (arith, u.lower)) (parent_holds (suc p) b (omega arith) rp hp))

  -- a triangle is held by one uncut piece
  pub one_uncut : (p q b : ℕ) → p + 5 < 2 * n → q + 5 < 2 * n → Uncut n (span e) (piece_at ps p) → Uncut n (span e) (piece_at ps q) → Holds (span e) (piece_at ps p) b → Holds (span e) (piece_at ps q) b → p ≡ q
  one_uncut p q b rp rq up' uq hp hq =
      ⊎_elim (λ s. s)
      (λ a.
      let c = child_on p q rq a in
      let u = under_cut c.0 c.1.1 (omega (arith, c.1.2)) in
      let s = c.1.0 in
      let some = u.which in
      absurd (⊎_elim
      (λ f. omega (arith, ap (λ x. (piece_at ps x).first) s, up'.no_first, f, c.1.1))
      (λ f. omega (arith, ap (λ x. (piece_at ps x).second) s, up'.no_second, f, c.1.1)) some))
      (holds_on q b rq uq hq p p (omega arith) rp hp)

  -- a piece lies one level below its parent
  level_up : (p : ℕ) → 0 < p → p + 5 < 2 * n → (piece_at ps p).level ≡ (piece_at ps (piece_at ps p).parent).level + 1
  level_up p z r =
      let u = under_cut p z r in
      ⊎_elim (λ f. ap (λ x. (piece_at ps x).level) (sym f) ∙ u.cut.first_level) (λ f. ap (λ x. (piece_at ps x).level) (sym f) ∙ u.cut.second_level) u.which

  module _ (long : 2 * n ≤ length ps + 5) where
    goes_up : (q : ℕ) → 0 < q → q + 5 < 2 * n → climbs ps q ≡ true
    goes_up q z r =
        and_from (ltb q (length ps)) (ltb (piece_at ps q).parent q) (lt-ltb q (length ps) (omega arith)) (lt-ltb (piece_at ps q).parent q (under_cut q z r).lower)

    stops_at_0 : climbs ps 0 ≡ false
    stops_at_0 = and_right (ltb 0 (length ps)) (ltb (piece_at ps 0).parent 0) (le-ltb (piece_at ps 0).parent 0 (omega arith))

    none_above_0 : (p : ℕ) → Above ps p 0 → ⊥
    none_above_0 p (parent z f) = omega arith
    none_above_0 p (higher z f w) = omega arith

    above_parent : (p q : ℕ) → Above ps p q → OnWayUp ps p (piece_at ps q).parent
    above_parent p q (parent z f) = inl (sym f)
    above_parent p q (higher z f w) = inr (subst (Above ps p) (sym f) w)

    way : (f q : ℕ) → q + 5 < 2 * n → (piece_at ps q).level < f → (length (way_up ps f q) ≡ (piece_at ps q).level + 1) × ((p : ℕ) → Among p (way_up ps f q) → OnWayUp ps p q) × ((p : ℕ) → OnWayUp ps p q → Among p (way_up ps f q))
    way zero q r l = absurd (omega arith)
    way (suc f) zero r l =
        let e0 : way_up ps (suc f) 0 ≡ 0 ∷ [] = ap (λ ws. 0 ∷ ws) (cond-false (climbs ps 0) (way_up ps f (piece_at ps 0).parent) [] stops_at_0) in
        let lev = d.whole_plan.level_0 in (
          omega (arith, ap length e0),
          λ p m. ⊎_elim (λ s. inl s) (λ s. absurd s) (subst (λ ws. Among p ws) e0 m),
          λ p o. subst (λ ws. Among p ws) (sym e0) (⊎_elim (λ s. inl s) (λ a. absurd (none_above_0 p a)) o),
        )
    way (suc f) (suc q) r l =
        let z : 0 < suc q = omega arith in
        let u = under_cut (suc q) z r in
        let m = (piece_at ps (suc q)).parent in
        let e1 : way_up ps (suc f) (suc q) ≡ suc q ∷ way_up ps f m = ap (λ ws. suc q ∷ ws) (cond-true (climbs ps (suc q)) (way_up ps f m) [] (goes_up (suc q) z r)) in
        let lev = level_up (suc q) z r in
        let h = way f m (omega (arith, u.lower)) (omega arith) in (
          omega (arith, ap length e1, h.0),
          λ p a. ⊎_elim (λ s. inl s) (λ s. inr (⊎_elim (λ t. parent z (sym t)) (λ t. higher z refl t) (h.1 p s))) (subst (λ ws. Among p ws) e1 a),
          λ p o. subst (λ ws. Among p ws) (sym e1) (⊎_elim (λ s. inl s) (λ a. inr (h.2 p (above_parent p (suc q) a))) o),
        )

    pub way_up_stands : (q f : ℕ) → q + 5 < 2 * n → 41 ≤ f → WayUp ps q (way_up ps f q)
    way_up_stands q f r l =
        let deep = (d.stands q r).not_deeper in
        let w = way f q r (omega arith) in
        record { one_a_level = w.0; at_most = omega (arith, w.0); listed_are = w.1; all_listed = w.2 }

pub holders : HoldersOnWayUp
holders n e ps d q b rq leaf hq p rp =
    (holds_on n e ps d q b rq leaf hq p p (omega arith) rp, λ o. on_holds n e ps d p q b rq o hq)

pub way_up_complete : WayUpComplete
way_up_complete n e ps d long q f r l = way_up_stands n e ps d long q f r l
