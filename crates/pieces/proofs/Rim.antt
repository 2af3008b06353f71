-- The edge terminals: the ends of the bounding seams, put one behind the other, come out rising and complete.
-- Assumes the ends of a filled ring in preorder, and a piece whose holes stand in a row below its top.
use Rattle.std.proofs.Common.{◌≡◌, ℕ, ◌+◌, ◌-◌, ◌<◌, ◌≤◌, Bool, true, false, ◌||◌, eqb, ltb, ◌⊎◌, List, [], ◌∷◌, ◌++◌, length, get_or, set, sym, refl, ap, ◌∙◌, subst, inl, inr, ⊎_elim, arith}
use Rattle.std.proofs.lemmas.List.{get_or-set_same}
use Rattle.std.proofs.lemmas.Bool.{cases_Bool, cond-true, cond-false, or_cases, or_parts, eqb-true, eqb-false, ltb-true, ltb-false}
use Rattle.records.specs.declared.Few.{Few}
use Rattle.records.specs.Few.{listed, none, added, Among, RisingFrom, Pinned}
use Rattle.records.specs.Few.{raised}
use Rattle.pieces.proofs.Chosen.{among_left, among_right, among_either}
use Rattle.pieces.proofs.FewLists.{none_pinned, added_is, added_count, added_list, added_pinned, listed_length}

rising_push : (a : ℕ) (xs : List ℕ) (x : ℕ) → RisingFrom a xs → ((y : ℕ) → Among y xs → y < x) → a ≤ x → RisingFrom a (xs ++ x ∷ [])
rising_push a [] x r l b = (b, tt)
rising_push a (y ∷ ys) x r l b = (r.0, rising_push (y + 1) ys x r.1 (λ z m. l z (inr m)) (omega (arith, l y (inl refl))))

abbrev last_of : Few → ℕ
last_of f = get_or f.at (f.count - 1) 0

-- rising terminals, at most k of them, the last one the greatest
pub record Rises (f : Few) (k : ℕ) : Type 0 where
  pub pinned : Pinned f
  pub rising : RisingFrom 0 (listed f)
  pub top : (y : ℕ) → Among y (listed f) → y ≤ last_of f
  pub last : 0 < f.count → Among (last_of f) (listed f)
  pub few : f.count ≤ k

pub none_rises : (k : ℕ) → Rises none k
none_rises k = record { pinned = none_pinned; rising = tt; top = λ y m. absurd m; last = λ h. absurd (omega arith); few = omega arith }

-- one more terminal, not below the last
pub record Raised (f : Few) (x k : ℕ) (g : Few) : Type 0 where
  pub rises : Rises g (k + 1)
  pub last_is : last_of g ≡ x
  pub some : 0 < g.count
  pub old : (y : ℕ) → Among y (listed f) → Among y (listed g)
  pub new : Among x (listed g)
  pub only : (y : ℕ) → Among y (listed g) → Among y (listed f) ⊎ (y ≡ x)

pub raise : (f : Few) (x k : ℕ) → Rises f k → k < 8 → (0 < f.count → last_of f ≤ x) → Raised f x k (raised f x)
raise f x k r room low = go (cases_Bool test)
  where
    test : Bool
    test = eqb f.count 0 || ltb (last_of f) x

    go : (test ≡ true) ⊎ (test ≡ false) → Raised f x k (raised f x)
    go (inl t) =
        let p = r.pinned in
        let c : f.count < 8 = omega (arith, r.few) in
        let is = added_list f x p c in
        let n = added_count f x p c in
        let at : last_of (added f x) ≡ x =
        ap last_of (added_is f x p c)
        ∙ ap (λ (m : ℕ). get_or (set f.at f.count x) m 0) (omega arith)
        ∙ get_or-set_same f.at f.count x 0 (omega (arith, p.places)) in
        let above : (y : ℕ) → Among y (listed f) → y < x =
        λ y m. ⊎_elim
        (λ z. let e = eqb-true f.count 0 z in let l = listed_length f p in absurd (nothing (listed f) (omega arith) y m))
        (λ z. omega (arith, r.top y m, ltb-true (last_of f) x z))
        (or_cases (eqb f.count 0) (ltb (last_of f) x) t) in
        let into : (y : ℕ) → Among y (listed (added f x)) → Among y (listed f) ⊎ (y ≡ x) =
        λ y m. ⊎_elim (λ a. inl a) (λ a. ⊎_elim (λ e. inr e) (λ b. absurd b) a) (among_either (listed f) (x ∷ []) y (subst (λ ys. Among y ys) is m)) in
        let newest : Among x (listed (added f x)) = subst (λ ys. Among x ys) (sym is) (among_right (listed f) (x ∷ []) x (inl refl)) in
        subst (Raised f x k) (sym (cond-true test (added f x) f t))
        (record {
          rises = record {
            pinned = added_pinned f x p c;
            rising = subst (RisingFrom 0) (sym is) (rising_push 0 (listed f) x r.rising above (omega arith));
            top = λ y m. ⊎_elim (λ a. omega (arith, above y a, at)) (λ e. omega (arith, at)) (into y m);
            last = λ _. subst (λ y. Among y (listed (added f x))) (sym at) newest;
            few = omega (arith, r.few);
          };
          last_is = at;
          some = omega arith;
          old = λ y m. subst (λ ys. Among y ys) (sym is) (among_left (listed f) (x ∷ []) y m);
          new = newest;
          only = into;
        })
      where
        nothing : (xs : List ℕ) → length xs ≡ 0 → (y : ℕ) → Among y xs → ⊥
        nothing [] e y m = m
        nothing (z ∷ zs) e y m = omega arith
    go (inr t) =
        let q = or_parts (eqb f.count 0) (ltb (last_of f) x) t in
        let some : 0 < f.count = positive f.count (eqb-false f.count 0 q.0) in
        let e : last_of f ≡ x = omega (arith, low some, ltb-false (last_of f) x q.1) in
        subst (Raised f x k) (sym (cond-false test (added f x) f t))
        (record {
          rises = record { pinned = r.pinned; rising = r.rising; top = r.top; last = r.last; few = omega (arith, r.few) };
          last_is = e;
          some = some;
          old = λ y m. m;
          new = subst (λ y. Among y (listed f)) e (r.last some);
          only = λ y m. inl m;
        })
      where
        positive : (m : ℕ) → (m ≡ 0 → ⊥) → 0 < m
        positive m h = omega arith
