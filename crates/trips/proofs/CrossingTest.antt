-- Whether two links cross, by a test that is computed.
-- Assumes nothing.
use Rattle.std.proofs.Common.{◌≡◌, ℕ, ◌<◌, Bool, true, ◌&&◌, ◌||◌, ltb, Decides, refl, ap, ◌∙◌, inl, inr, ⊎_elim}
use Rattle.std.proofs.lemmas.Bool.{and_parts, and_from, or_cases, or_left, or_right, ltb-true, lt-ltb}
use Rattle.std.proofs.lemmas.Bool.Decides.{Decides-or}
use Rattle.trips.specs.Links.{Ends, Named, Straddles, Cross}

-- a < c < b < d
abbrev in_turn : ℕ → ℕ → ℕ → ℕ → Bool
in_turn a b c d = ltb a c && (ltb c b && ltb b d)

in_turn_from : (a b c d : ℕ) → a < c → c < b → b < d → in_turn a b c d ≡ true
in_turn_from a b c d p q r =
    and_from (ltb a c) (ltb c b && ltb b d) (lt-ltb a c p) (and_from (ltb c b) (ltb b d) (lt-ltb c b q) (lt-ltb b d r))

straddles_from : (one other : Ends) (a b c d : ℕ) → Named one a b → Named other c d → in_turn a b c d ≡ true → Straddles one other
straddles_from one other a b c d n k e =
    let p = and_parts (ltb a c) (ltb c b && ltb b d) e in
    let q = and_parts (ltb c b) (ltb b d) p.1 in
    record { a = a; b = b; c = c; d = d; ends = n; other_ends = k; a_c = ltb-true a c p.0; c_b = ltb-true c b q.0; b_d = ltb-true b d q.1 }

-- the ends of the other in either order
abbrev either_order : ℕ → ℕ → Ends → Bool
either_order a b other = in_turn a b other.from other.to || in_turn a b other.to other.from

abbrev straddles_test : Ends → Ends → Bool
straddles_test one other = either_order one.from one.to other || either_order one.to one.from other

order_found : (one other : Ends) (a b : ℕ) → Named one a b → either_order a b other ≡ true → Straddles one other
order_found one other a b n e =
    ⊎_elim (straddles_from one other a b other.from other.to n (inl (refl, refl)))
    (straddles_from one other a b other.to other.from n (inr (refl, refl)))
    (or_cases (in_turn a b other.from other.to) (in_turn a b other.to other.from) e)

order_tested : (other : Ends) (a b c d : ℕ) → Named other c d → in_turn a b c d ≡ true → either_order a b other ≡ true
order_tested other a b c d (inl (p, q)) e =
    or_left (in_turn a b other.from other.to) (in_turn a b other.to other.from) (ap (λ x. in_turn a b x other.to) p ∙ ap (in_turn a b c) q ∙ e)
order_tested other a b c d (inr (p, q)) e =
    or_right (in_turn a b other.from other.to) (in_turn a b other.to other.from) (ap (λ x. in_turn a b x other.from) q ∙ ap (in_turn a b c) p ∙ e)

straddles_decided : (one other : Ends) → Decides (straddles_test one other) (Straddles one other)
straddles_decided one other = (
  λ e. ⊎_elim (order_found one other one.from one.to (inl (refl, refl))) (order_found one other one.to one.from (inr (refl, refl)))
      (or_cases (either_order one.from one.to other) (either_order one.to one.from other) e),
  λ s.
      let t = order_tested other s.a s.b s.c s.d s.other_ends (in_turn_from s.a s.b s.c s.d s.a_c s.c_b s.b_d) in
      ⊎_elim
      (λ n. or_left (either_order one.from one.to other) (either_order one.to one.from other) (ap (λ x. either_order x one.to other) n.0 ∙ ap (λ y. either_order s.a y other) n.1 ∙ t))
      (λ n. or_right (either_order one.from one.to other) (either_order one.to one.from other) (ap (λ x. either_order x one.from other) n.1 ∙ ap (λ y. either_order s.a y other) n.0 ∙ t))
      s.ends,
)

abbrev pub cross_test : Ends → Ends → Bool
cross_test l m = straddles_test l m || straddles_test m l

pub cross_decided : (l m : Ends) → Decides (cross_test l m) (Cross l m)
cross_decided l m = Decides-or (straddles_test l m) (straddles_test m l) (straddles_decided l m) (straddles_decided m l)
