-- Where the ends of sides lie: those of the sides below a side between its own ends, all others not strictly between.
-- Assumes the ends of a filled ring in preorder.
use Rattle.std.proofs.Common.{◌≡◌, ℕ, zero, suc, ◌+◌, ◌*◌, ◌<◌, ◌≤◌, ap, ⊎_elim, arith}
use Rattle.std.proofs.lemmas.Bool.{cases_lt, cases_eq}
use Rattle.pieces.specs.Sides.{Ends, span, Filled, Halved, Preorder, Inside, right_of}
use Rattle.pieces.proofs.Tree.{Fit, root_fits, halves, left_fits, right_fits, walk, nested}

module _ (n : ℕ) (e : Ends) (f : Filled n e) where
  pub preorder : Preorder n (span e)
  preorder =
      record {
        least = f.least;
        most = f.most;
        root = omega (arith, f.first, f.last);
        rises = λ i l. omega (arith, f.rising i l);
        splits = λ i l b. let h = f.halved i l b in (omega (arith, h.low_same, h.above_low), omega (arith, h.meet, h.high_same, h.below_high), omega (arith, h.low_same, h.above_low, h.below_high, h.meet, h.high_same));
      }

  pub halved_at : (i : ℕ) → Fit n (span e) i → 2 ≤ span e i → Halved e i
  halved_at i fit base = f.halved i (omega arith) base

  -- the ends of a side below i lie between the ends of i
  pub ends_between : (i j : ℕ) → Fit n (span e) i → Inside (span e) i j → (e.low i ≤ e.low j) × (e.high j ≤ e.high i)
  ends_between i j fit into =
      walk n (span e) preorder (λ k. (e.low i ≤ e.low k) × (e.high k ≤ e.high i))
      (λ k fk base p.
      let h = halved_at k fk base in (
        (omega (arith, p.0, h.low_same), omega (arith, p.1, h.below_high)),
        (omega (arith, p.0, h.meet, h.above_low), omega (arith, p.1, h.high_same)),
      ))
      (span e i) i j (omega arith) fit (omega arith, omega arith) into

  -- Of two sides apart below k, the one that stands first lies before the other on the ring: go down from k until the two
  -- lie below different children, and then the terminal between the children is between them.
  before : (g k i j : ℕ) → span e k ≤ g → Fit n (span e) k → Inside (span e) k i → Inside (span e) k j → i + 2 * span e i ≤ j + 1 → 1 ≤ span e j → e.high i ≤ e.low j
  before zero k i j b fit p q apart r = absurd (omega arith)
  before (suc g) k i j b fit p q apart r =
      let low = nested n (span e) preorder k i fit p in
      let rises = f.rising i (omega arith) in
      let base : 2 ≤ span e k =
      ⊎_elim (λ eq. absurd (omega (arith, ap (span e) eq, p, q))) (λ ne. omega arith) (cases_eq k i) in
      let s = halves n (span e) preorder k fit base in
      let h = halved_at k fit base in
      let fl = left_fits n (span e) preorder k fit base in
      let fr = right_fits n (span e) preorder k fit base in
      let ni : k ≡ i → ⊥ = λ eq. omega (arith, ap (span e) eq, q.1) in
      let nj : k ≡ j → ⊥ = λ eq. omega (arith, p.0) in
      ⊎_elim
      (λ l. ⊎_elim
      (λ m. before g (k + 1) i j (omega arith) fl (omega arith, omega arith) (omega arith, omega arith) apart r)
      (λ m.
      let x = ends_between (k + 1) i fl (omega arith, omega arith) in
      let y = ends_between (right_of (span e) k) j fr (omega arith, omega arith) in
      omega (arith, x.1, y.0, h.meet))
      (cases_lt j (right_of (span e) k)))
      (λ l. before g (right_of (span e) k) i j (omega arith) fr (omega arith, omega arith) (omega arith, omega arith) apart r)
      (cases_lt i (right_of (span e) k))

  pub ends_before : (i j : ℕ) → i + 3 < 2 * n → j + 3 < 2 * n → i + 2 * span e i ≤ j + 1 → e.high i ≤ e.low j
  ends_before i j p q apart =
      let r = root_fits n (span e) preorder in
      let t = preorder.root in
      before (span e 0) 0 i j (omega arith) r (omega arith, omega arith) (omega arith, omega arith) apart (preorder.rises j q)
