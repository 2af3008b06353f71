-- The rim of a piece lists exactly the ends of its bounding seams.
-- Assumes the ends of a filled ring in preorder, and a piece whose holes stand in a row below its top.
use Rattle.std.proofs.Common.{◌≡◌, ℕ, ◌+◌, ◌-◌, ◌*◌, ◌<◌, ◌≤◌, true, false, cond, eqb, ◌⊎◌, List, [], ◌∷◌, length, get_or, fold, sym, refl, ap, ◌∙◌, subst, inl, inr, ⊎_elim, arith}
use Rattle.std.proofs.lemmas.Bool.{cases_Bool, cond-true, cond-false}
use Rattle.records.specs.declared.Few.{Few}
use Rattle.records.specs.Few.{listed, none, Among, RisingFrom, Pinned}
use Rattle.pieces.specs.Sides.{Ends, span, Filled}
use Rattle.records.specs.Few.{raised}
use Rattle.pieces.specs.Cuts.{around, rim}
use Rattle.pieces.specs.Holding.{EndOf}
use Rattle.pieces.proofs.Rows.{Row, row_at}
use Rattle.pieces.proofs.Places.{ends_before, ends_between, preorder}
use Rattle.pieces.proofs.Weights.{Sound, hole_inside}
use Rattle.pieces.proofs.Rim.{Rises, none_rises, raise}

-- the ends of the sides hs were put behind the terminals of f
record Rimmed (e : Ends) (f : Few) (hs : List ℕ) (k : ℕ) (g : Few) : Type 0 where
  rises : Rises g (k + 2 * length hs)
  old : (y : ℕ) → Among y (listed f) → Among y (listed g)
  new : (h : ℕ) → Among h hs → Among (e.low h) (listed g) × Among (e.high h) (listed g)
  only : (y : ℕ) → Among y (listed g) → Among y (listed f) ⊎ EndOf e hs y
  under : (m : ℕ) → (0 < f.count → get_or f.at (f.count - 1) 0 ≤ m) → ((h : ℕ) → Among h hs → e.high h ≤ m) → 0 < g.count → get_or g.at (g.count - 1) 0 ≤ m

one_more : (e : Ends) (h : ℕ) (hs : List ℕ) (y : ℕ) → EndOf e hs y → EndOf e (h ∷ hs) y
one_more e h hs y d = record { of_side = d.of_side; listed_there = inr d.listed_there; low_or_high = d.low_or_high }

module _ (n : ℕ) (e : Ends) (fl : Filled n e) where
  go_round : (hs : List ℕ) (f : Few) (a z k : ℕ) → Row (span e) a hs z → ((h : ℕ) → Among h hs → h + 3 < 2 * n) → Rises f k → k + 2 * length hs ≤ 8 → (0 < f.count → (h : ℕ) → Among h hs → get_or f.at (f.count - 1) 0 ≤ e.low h) → Rimmed e f hs k (fold (around e) f hs)
  go_round [] f a z k row range r room low =
      record {
        rises = record { pinned = r.pinned; rising = r.rising; top = r.top; last = r.last; few = omega (arith, r.few) };
        old = λ y m. m;
        new = λ h m. absurd m;
        only = λ y m. inl m;
        under = λ m u _. u;
      }
  go_round (h ∷ hs) f a z k row range r room low =
      let rising = fl.rising h (range h (inl refl)) in
      let one = raise f (e.low h) k r (omega arith) (λ c. low c h (inl refl)) in
      let f1 = raised f (e.low h) in
      let two = raise f1 (e.high h) (k + 1) one.rises (omega arith) (λ _. omega (arith, one.last_is)) in
      let f2 = raised f1 (e.high h) in
      let rest = go_round hs f2 (h + 2 * span e h) z (k + 1 + 1) row.2 (λ x m. range x (inr m)) two.rises (omega arith)
      (λ _ x m. omega (arith, two.last_is, ends_before n e fl h x (range h (inl refl)) (range x (inr m)) (row_at (span e) (h + 2 * span e h) hs z x row.2 m).0)) in
      let rr = rest.rises in
      record {
        rises = record { pinned = rr.pinned; rising = rr.rising; top = rr.top; last = rr.last; few = omega (arith, rr.few) };
        old = λ y m. rest.old y (two.old y (one.old y m));
        new = λ x m. ⊎_elim
            (λ q. subst (λ s. Among (e.low s) (listed (fold (around e) f2 hs)) × Among (e.high s) (listed (fold (around e) f2 hs))) (sym q)
            (rest.old (e.low h) (two.old (e.low h) one.new), rest.old (e.high h) two.new))
            (λ q. rest.new x q) m;
        only = λ y m. ⊎_elim
            (λ a. ⊎_elim
            (λ b. ⊎_elim (λ c. inl c) (λ c. inr (record { of_side = h; listed_there = inl refl; low_or_high = inl c })) (one.only y b))
            (λ b. inr (record { of_side = h; listed_there = inl refl; low_or_high = inr b })) (two.only y a))
            (λ a. inr (one_more e h hs y a)) (rest.only y m);
        under = λ m u v. rest.under m (λ _. omega (arith, two.last_is, v h (inl refl))) (λ x q. v x (inr q));
      }

-- the bounding seams of a piece with this top and these holes
abbrev pub bounds_of : ℕ → List ℕ → List ℕ
bounds_of top hs = cond (eqb top 0) hs (top ∷ hs)

-- the terminals of f are the ends of the sides ss in rising order
pub record Listing (e : Ends) (ss : List ℕ) (f : Few) : Type 0 where
  pub pinned : Pinned f
  pub rising : RisingFrom 0 (listed f)
  pub all : (x : ℕ) → EndOf e ss x → Among x (listed f)
  pub only : (x : ℕ) → Among x (listed f) → EndOf e ss x

module _ (n : ℕ) (e : Ends) (fl : Filled n e) (top : ℕ) (hs : List ℕ) (s : Sound n (span e) top hs) where
  in_range : (h : ℕ) → Among h hs → h + 3 < 2 * n
  in_range h m = let b = s.base in let i = hole_inside n (span e) (preorder n e fl) top hs s h m in let f = s.fit in omega arith

  under_root : eqb top 0 ≡ true → Listing e (bounds_of top hs) (rim e top hs)
  under_root t =
      let few = s.few in
      let room : length hs ≤ 4 = omega (arith, cond-true {A = ℕ} (eqb top 0) 0 1 t) in
      let r = go_round n e fl hs none (top + 2) (top + 2 * span e top) 0 s.row in_range (none_rises 0) (omega arith) (λ c. absurd (omega arith)) in
      subst (λ ss. Listing e ss (rim e top hs)) (sym (cond-true (eqb top 0) hs (top ∷ hs) t))
      (subst (Listing e hs) (sym (cond-true (eqb top 0) (fold (around e) none hs) (raised (fold (around e) (raised none (e.low top)) hs) (e.high top)) t))
      (record {
        pinned = r.rises.pinned;
        rising = r.rises.rising;
        all = λ x d. ⊎_elim (λ q. subst (λ y. Among y (listed (fold (around e) none hs))) (sym q) (r.new d.of_side d.listed_there).0)
            (λ q. subst (λ y. Among y (listed (fold (around e) none hs))) (sym q) (r.new d.of_side d.listed_there).1) d.low_or_high;
        only = λ x m. ⊎_elim (λ a. absurd a) (λ d. d) (r.only x m);
      }))

  under_seam : eqb top 0 ≡ false → Listing e (bounds_of top hs) (rim e top hs)
  under_seam t =
      let few = s.few in
      let room : length hs ≤ 3 = omega (arith, cond-false {A = ℕ} (eqb top 0) 0 1 t) in
      let one = raise none (e.low top) 0 (none_rises 0) (omega arith) (λ c. absurd (omega arith)) in
      let f1 = raised none (e.low top) in
      let between = λ (h : ℕ) (m : Among h hs). ends_between n e fl top h s.fit (hole_inside n (span e) (preorder n e fl) top hs s h m) in
      let r = go_round n e fl hs f1 (top + 2) (top + 2 * span e top) 1 s.row in_range one.rises (omega arith)
      (λ _ h m. omega (arith, one.last_is, (between h m).0)) in
      let g = fold (around e) f1 hs in
      let base = s.base in
      let last = raise g (e.high top) (1 + 2 * length hs) r.rises (omega arith)
      (r.under (e.high top) (λ _. omega (arith, one.last_is)) (λ h m. (between h m).1)) in
      let end = raised g (e.high top) in
      subst (λ ss. Listing e ss (rim e top hs)) (sym (cond-false (eqb top 0) hs (top ∷ hs) t))
      (subst (Listing e (top ∷ hs)) (sym (cond-false (eqb top 0) (fold (around e) none hs) end t))
      (record {
        pinned = last.rises.pinned;
        rising = last.rises.rising;
        all = λ x d. ⊎_elim
            (λ q. ⊎_elim
            (λ p. subst (λ y. Among y (listed end)) (sym (q ∙ ap (λ y. e.low y) p)) (last.old (e.low top) (r.old (e.low top) one.new)))
            (λ p. subst (λ y. Among y (listed end)) (sym q) (last.old (e.low d.of_side) (r.new d.of_side p).0)) d.listed_there)
            (λ q. ⊎_elim
            (λ p. subst (λ y. Among y (listed end)) (sym (q ∙ ap (λ y. e.high y) p)) last.new)
            (λ p. subst (λ y. Among y (listed end)) (sym q) (last.old (e.high d.of_side) (r.new d.of_side p).1)) d.listed_there)
            d.low_or_high;
        only = λ x m. ⊎_elim
            (λ a. ⊎_elim
            (λ b. ⊎_elim (λ c. absurd c) (λ c. record { of_side = top; listed_there = inl refl; low_or_high = inl c }) (one.only x b))
            (λ d. one_more e top hs x d) (r.only x a))
            (λ a. record { of_side = top; listed_there = inl refl; low_or_high = inr a }) (last.only x m);
      }))

  pub rim_lists : Listing e (bounds_of top hs) (rim e top hs)
  rim_lists = ⊎_elim under_root under_seam (cases_Bool (eqb top 0))
