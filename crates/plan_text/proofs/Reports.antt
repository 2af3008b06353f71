-- What is told of a text, one line after another.
-- Assumes nothing.
use Rattle.std.proofs.Common.{◌≡◌, ℕ, ◌+◌, ◌<◌, List, [], ◌∷◌, ◌++◌, length, Option, Some, inl, String, string_bytes, refl, sym, ap, ◌∙◌, subst, append_assoc}
use Rattle.std.specs.Str.Lines.{IsFirstLine}
use Rattle.ring.specs.declared.Link.{Link}
use Rattle.plan_text.specs.declared.laid.Plan.{Plan}
use Rattle.plan_text.specs.declared.telling.View.{View}
use Rattle.plan_text.specs.Texts.{GrownByA}
use Rattle.plan_text.specs.Reports.{Reading, ReadingEnds, LinkRead, LineTold, Told, nothing_read}
use Rattle.plan_text.specs.Readers.{reading}
use Rattle.plan_text.specs.Reports.Told.{at_end, next}

-- a link is added to the plan that is being read
pub link_read : (number : ℕ) (line : List ℕ) (link : Link) (before after : Option Plan) (p q : Plan) → before ≡ Some p → after ≡ Some q
    → q.terminals ≡ p.terminals → q.links.items ≡ p.links.items ++ link ∷ [] → LinkRead number line link (reading before) (reading after) []
link_read number line link before after p q was is terminals links =
    subst (λ o. LinkRead number line link (reading o) (reading after) []) (sym was)
    (subst (λ o. LinkRead number line link (reading (Some p)) (reading o) []) (sym is)
    (inl (refl, (cc (terminals, links), refl))))

module _ {A : Type 0} (view : View) (all : List ℕ) where
  -- what is told of a whole text is what is written, and what is told of the lines that are left
  abbrev pub ToldSoFar : ℕ → Reading → List ℕ → String A → Type 0
  ToldSoFar number reading text written =
      (later : List ℕ) → Told view number reading text later → Told view 1 nothing_read all (string_bytes written ++ later)

  -- before the first line nothing is written
  pub told_at_first : (number : ℕ) (reading : Reading) (text : List ℕ) (written : String A) → number ≡ 1 → reading ≡ nothing_read → text ≡ all → string_bytes written ≡ []
      → ToldSoFar number reading text written
  told_at_first number reading text written first nothing whole empty later told =
      subst (λ bytes. Told view 1 nothing_read all (bytes ++ later)) (sym empty)
      (subst (λ rest. Told view 1 nothing_read rest later) whole
      (subst (λ so_far. Told view 1 so_far text later) nothing
      (subst (λ k. Told view k reading text later) first told)))

  -- one more line
  pub line_told : (number : ℕ) (before after : Reading) (text line rest : List ℕ) (old new : String A) → 0 < length text → IsFirstLine text line rest
      → GrownByA (LineTold view number line before after) old new → ToldSoFar number before text old → ToldSoFar (number + 1) after rest new
  line_told number before after text line rest old new some first told so_far later after_it =
      subst (Told view 1 nothing_read all) (sym (append_assoc (string_bytes old) told.0 later) ∙ ap (λ x. x ++ later) (sym told.1.1))
      (so_far (told.0 ++ later) (next some first told.1.0 after_it refl))

  -- and the end
  pub end_told : (number : ℕ) (reading : Reading) (text : List ℕ) (old new : String A) → length text ≡ 0
      → GrownByA (ReadingEnds view reading) old new → ToldSoFar number reading text old → Told view 1 nothing_read all (string_bytes new)
  end_told number reading text old new none told so_far =
      subst (Told view 1 nothing_read all) (sym told.1.1) (so_far told.0 (at_end none told.1.0))
