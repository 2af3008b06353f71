-- What a search among the values of a list found: that each is none or a lane rate, or the first that is neither.
-- Assumes nothing.
use Rattle.std.proofs.Common.{ℕ, ◌<◌, ◌≤◌, List, [], ◌∷◌, map, length, sym, subst, arith}
use Rattle.std.specs.List.{AllWithin, HoldsAt}
use Rattle.std.proofs.lemmas.List.{get_or-map, length-map}
use Rattle.rates.specs.Kinds.{Kind}
use Rattle.slow.specs.Areas.{LaneOrNone, LanesBelow, FirstNoRate}

module _ {M : Type 0} (K : Kind M) {V : Type 0} (means : V → M) where
  pub lanes_found : (vs : List V) (n : ℕ) → n ≤ length vs → AllWithin (λ v. LaneOrNone K (means v)) vs 0 n → LanesBelow K (map means vs) n
  lanes_found [] n l h j p = absurd (omega arith)
  lanes_found (v ∷ vs) n l h j p =
      subst (LaneOrNone K) (sym (get_or-map means (v ∷ vs) j v K.none (omega arith))) (h j v (omega arith) p)

  pub no_rate_found : (vs : List V) (i : ℕ) → i < length vs → HoldsAt (λ v. LaneOrNone K (means v) → ⊥) vs i → AllWithin (λ v. LaneOrNone K (means v)) vs 0 i → FirstNoRate K (map means vs) i
  no_rate_found [] i l h b = absurd (omega arith)
  no_rate_found (v ∷ vs) i l h b = record {
    within = rw length-map l;
    no_rate = λ z. h v (subst (LaneOrNone K) (get_or-map means (v ∷ vs) i v K.none l) z);
    before = lanes_found (v ∷ vs) i (omega arith) b;
  }
