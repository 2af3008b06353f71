-- One place after another of a row is relaxed by a lane.
-- Assumes nothing.
use Rattle.std.proofs.Common.{◌≡◌, ℕ, ◌+◌, ◌<◌, ◌≤◌, Bool, true, false, cond, List, map, length, get_or, set, sym, refl, ap, ◌∙◌, subst, ⊎_elim, arith}
use Rattle.std.proofs.lemmas.Bool.{cases_eq, both_ways}
use Rattle.rates.specs.Kinds.{Kind, exact_size}
use Rattle.rates.specs.Many.{better_of}
use Rattle.slow.specs.Areas.{at}
use Rattle.slow.proofs.Places.{read_at, set_here, set_others}
use Rattle.slow.specs.Rows.{Relaxed}

module _ {M : Type 0} (K : Kind M) where
  pub relaxed_none : (base : M) (out old : ℕ → M) → Relaxed K base out old old 0 false
  relaxed_none base out old = record {
    done = λ w l. absurd (omega arith);
    rest = λ w l. refl;
    unchanged = λ e w. refl;
    bettered = λ e. absurd (both_ways false refl e);
  }

  module _ (base : M) (out old now : ℕ → M) (i : ℕ) (changed : Bool) (h : Relaxed K base out old now i changed) (r : M)
      (exact : K.size base + K.size (out i) ≤ exact_size → r ≡ K.join base (out i)) where
    -- the better of what the place held and of the joined rate, given what the test answers
    chosen : (t : Bool) → K.better r (now i) ≡ t → K.size base + K.size (out i) ≤ exact_size → better_of K (old i) (K.join base (out i)) ≡ cond t r (now i)
    chosen t e s =
        ap (λ x. better_of K (old i) x) (sym (exact s))
        ∙ ap (λ x. better_of K x r) (sym (h.rest i (omega arith)))
        ∙ ap (λ x. cond x r (now i)) e

    pub relaxed_stores : (new : ℕ → M) → new i ≡ r → ((w : ℕ) → (w ≡ i → ⊥) → new w ≡ now w) → K.better r (now i) ≡ true → Relaxed K base out old new (i + 1) true
    relaxed_stores new here others e = record {
      done = λ w l s. ⊎_elim
          (λ z. subst (λ x. K.size base + K.size (out x) ≤ exact_size → new x ≡ better_of K (old x) (K.join base (out x))) (sym z) (λ q. here ∙ sym (chosen true e q)) s)
          (λ z. others w z ∙ h.done w (omega arith) s)
          (cases_eq w i);
      rest = λ w l. others w (λ z. omega arith) ∙ h.rest w (omega arith);
      unchanged = λ z. absurd (both_ways true z refl);
      bettered = λ z. (i, omega arith, ap (λ x. K.better x (old i)) here ∙ ap (K.better r) (sym (h.rest i (omega arith))) ∙ e);
    }

    pub relaxed_keeps : K.better r (now i) ≡ false → Relaxed K base out old now (i + 1) changed
    relaxed_keeps e = record {
      done = λ w l s. ⊎_elim
          (λ z. subst (λ x. K.size base + K.size (out x) ≤ exact_size → now x ≡ better_of K (old x) (K.join base (out x))) (sym z) (λ q. sym (chosen false e q)) s)
          (λ z. h.done w (omega arith) s)
          (cases_eq w i);
      rest = λ w l. h.rest w (omega arith);
      unchanged = h.unchanged;
      bettered = λ z. let b = h.bettered z in (b.0, omega (arith, b.1), b.2);
    }

  -- the same of the values of two slices
  module _ {V : Type 0} (means : V → M) (out row : List V) (old : ℕ → M) (i : ℕ) (base lane held rate : V) (changed : Bool)
      (in_out : i < length out) (in_row : i < length row) (lane_is : lane ≡ get_or out i lane) (held_is : held ≡ get_or row i held)
      (exact : K.size (means base) + K.size (means lane) ≤ exact_size → means rate ≡ K.join (means base) (means lane))
      (h : Relaxed K (means base) (at K (map means out)) old (at K (map means row)) i changed) where
    exact_at : K.size (means base) + K.size (at K (map means out) i) ≤ exact_size → means rate ≡ K.join (means base) (at K (map means out) i)
    exact_at =
        subst (λ x. K.size (means base) + K.size x ≤ exact_size → means rate ≡ K.join (means base) x) (sym (read_at K means out i lane in_out lane_is)) exact

    tested : (t r : Bool) → r ≡ K.better (means rate) (means held) → r ≡ t → K.better (means rate) (at K (map means row) i) ≡ t
    tested t r e z = ap (K.better (means rate)) (read_at K means row i held in_row held_is) ∙ sym e ∙ z

    pub value_stored : (r : Bool) → r ≡ K.better (means rate) (means held) → r ≡ true → Relaxed K (means base) (at K (map means out)) old (at K (map means (set row i rate))) (i + 1) true
    value_stored r e z =
        relaxed_stores (means base) (at K (map means out)) old (at K (map means row)) i changed h (means rate) exact_at
        (at K (map means (set row i rate))) (set_here K means row i rate in_row) (set_others K means row i rate) (tested true r e z)

    pub value_kept : (r : Bool) → r ≡ K.better (means rate) (means held) → r ≡ false → Relaxed K (means base) (at K (map means out)) old (at K (map means row)) (i + 1) changed
    value_kept r e z =
        relaxed_keeps (means base) (at K (map means out)) old (at K (map means row)) i changed h (means rate) exact_at (tested false r e z)
