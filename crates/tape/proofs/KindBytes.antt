-- A byte names at most one kind, and it can be told whether it names one.
-- Assumes nothing.
use Rattle.std.proofs.Common.{◌≡◌, ℕ, ◌≤◌, ◌⊎◌, [], ◌∷◌, get_or, sym, refl, ap, ◌∙◌, inl, inr, arith}
use Rattle.std.proofs.lemmas.Bool.{cases_eq}
use Rattle.tape.specs.declared.kinds.Kind.{Kind}
use Rattle.tape.specs.declared.kinds.Kind.TheVariants.{Head, Link, PlanEnd, Post, Shut, Try, Keep, Withdraw, Quote, Route}
use Rattle.tape.specs.Kinds.{kind_byte, Unknown, Numbered}

abbrev named : ℕ → Kind
named b = get_or (Head ∷ Head ∷ Link ∷ PlanEnd ∷ Post ∷ Shut ∷ Try ∷ Keep ∷ Withdraw ∷ Quote ∷ Route ∷ []) b Head

named_back : (k : Kind) → named (kind_byte k) ≡ k
named_back Head = refl
named_back Link = refl
named_back PlanEnd = refl
named_back Post = refl
named_back Shut = refl
named_back Try = refl
named_back Keep = refl
named_back Withdraw = refl
named_back Quote = refl
named_back Route = refl

pub same_kind : (b : ℕ) (j k : Kind) → b ≡ kind_byte j → b ≡ kind_byte k → j ≡ k
same_kind b j k p q = sym (named_back j) ∙ ap named (sym p ∙ q) ∙ named_back k

-- the kind that a byte would name, if it names any, is `named` of it: so one test tells
pub tell_kind : (b : ℕ) → ((k : Kind) × (b ≡ kind_byte k)) ⊎ Unknown b
tell_kind b = elim (cases_eq b (kind_byte (named b))) [
  | inl e ↦ inl (named b, e)
  | inr d ↦ inr (λ k e. d (sym e ∙ ap kind_byte (sym (named_back k) ∙ ap named e)))
]

within : (k : Kind) → (1 ≤ kind_byte k) × (kind_byte k ≤ 10)
within Head = (omega arith, omega arith)
within Link = (omega arith, omega arith)
within PlanEnd = (omega arith, omega arith)
within Post = (omega arith, omega arith)
within Shut = (omega arith, omega arith)
within Try = (omega arith, omega arith)
within Keep = (omega arith, omega arith)
within Withdraw = (omega arith, omega arith)
within Quote = (omega arith, omega arith)
within Route = (omega arith, omega arith)

no_gap : (b : ℕ) → 1 ≤ b → b ≤ 10 → Unknown b → ⊥
no_gap b l h u =
    let h₁ : 1 ≡ b → ⊥ = u Head in
    let h₂ : 2 ≡ b → ⊥ = u Link in
    let h₃ : 3 ≡ b → ⊥ = u PlanEnd in
    let h₄ : 4 ≡ b → ⊥ = u Post in
    let h₅ : 5 ≡ b → ⊥ = u Shut in
    let h₆ : 6 ≡ b → ⊥ = u Try in
    let h₇ : 7 ≡ b → ⊥ = u Keep in
    let h₈ : 8 ≡ b → ⊥ = u Withdraw in
    let h₉ : 9 ≡ b → ⊥ = u Quote in
    let h₀ : 10 ≡ b → ⊥ = u Route in
    omega arith

pub numbered : Numbered
numbered =
    record {
      within = within;
      apart = λ j k e. same_kind (kind_byte j) j k refl e;
      each = λ b l h. elim (tell_kind b) [ inl p ↦ (p.0, sym p.1) | inr u ↦ absurd (no_gap b l h u) ];
    }
