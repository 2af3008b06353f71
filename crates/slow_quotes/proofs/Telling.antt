-- What one more line is answered with.
-- Assumes nothing.
use Rattle.std.proofs.Common.{◌≡◌, ℕ, ◌+◌, ◌<◌, List, [], ◌∷◌, ◌++◌, length, get_or, take, Ok, Err, Some, None, Option, Result, string_bytes, sym, refl, ap, ◌∙◌, subst, inl, inr, append_assoc}
use Rattle.std.specs.Result.{IfOk}
use Rattle.std.proofs.lemmas.List.{append-nil, flat_map_more, take_more}
use Rattle.rates.specs.Kinds.{Kind, Laws}
use Rattle.trips.specs.Trips.{NoEarning}
use Rattle.trips.proofs.Walks.{no_earning_fewer}
use Rattle.trips.proofs.Shown.{shutting_never_earns}
use Rattle.slow_quotes.specs.declared.order.Order.{Order}
use Rattle.slow_quotes.specs.declared.order.Order.TheVariants.{Terminals, Lane, Shut, Quote}
use Rattle.slow_quotes.specs.declared.fault.Fault.{Fault}
use Rattle.slow_quotes.specs.declared.fault.Fault.TheVariants.{NoKind}
use Rattle.slow_quotes.specs.declared.quotes.Line.{Line}
use Rattle.slow_quotes.specs.declared.held.Quotation.{Quotation}
use Rattle.slow_quotes.specs.Orders.{OrderIs}
use Rattle.slow_quotes.specs.Networks.{Network, Answered}
use Rattle.slow_quotes.specs.Quotes.{fault_text, kindless_text, answer_text, LineAnswered, LinesAnswered, QuotedUpTo}
use Rattle.slow_quotes.proofs.Keeping.{no_lanes_earn_not}

-- one more line above the first that names a kind
pub kindless_more : (lines : List Line) (i : ℕ) (line : Line) (v w : List ℕ) → i < length lines → line ≡ get_or lines i line → v ≡ kindless_text (take i lines) → w ≡ v ++ fault_text line.number NoKind → w ≡ kindless_text (take (i + 1) lines)
kindless_more lines i line v w h e p q =
    let f = λ (x : Line). fault_text x.number NoKind in
    q ∙ ap (λ b. b ++ f line) p ∙ flat_map_more f [] (take i lines) line
    ∙ ap kindless_text (ap (λ x. take i lines ++ (x ∷ [])) e ∙ sym (take_more lines i line h))

module _ {M V : Type 0} (K : Kind M) (means : V → M) (Reads : List ℕ → Option V → Type 0) (text : V → List ℕ) where
  -- the text that an order is answered with
  pub order_answered : (before after : Network M) (line : Line) (order : Order V) (answer answer' : Result (Option (Quotation V)) Fault) {S E : Type 0} (bytes : S → List ℕ) (r : Result S E) → OrderIs Reads (string_bytes line.text) (Some order) → Answered K means before order after answer → answer ≡ answer' → IfOk r (λ s. bytes s ≡ answer_text text line.number answer') → IfOk r (λ s. LineAnswered K means Reads text before line after (bytes s))
  order_answered before after line order answer answer' bytes (Ok s) w a e h =
      inr (record { order = order; answer = answer'; writes = w; answered = subst (Answered K means before order after) e a; text_is = h })
  order_answered before after line order answer answer' bytes (Err why) w a e h = tt

  pub lines_more : (before between after : Network M) (lines : List Line) (line : Line) (said next : List ℕ) → LinesAnswered K means Reads text before lines between said → LineAnswered K means Reads text between line after next → LinesAnswered K means Reads text before (lines ++ (line ∷ [])) after (said ++ next)
  lines_more before between after [] line said next (e, t) h =
      (after, next, [], subst (λ b. LineAnswered K means Reads text b line after next) e h, (refl, refl), ap (λ b. b ++ next) t ∙ sym (append-nil next))
  lines_more before between after (l ∷ lines) line said next (mid, first, others, a, rest, e) h =
      (mid, first, others ++ next, a, lines_more mid between after lines line others next rest h, ap (λ b. b ++ next) e ∙ append_assoc first others next)

  pub quoted_more : (lines : List Line) (i : ℕ) (line : Line) (last last' : Network M) (said next bytes whole : List ℕ) → i < length lines → line ≡ get_or lines i line → QuotedUpTo K means Reads text (take i lines) last said → LineAnswered K means Reads text last line last' next → whole ≡ said ++ bytes → bytes ≡ next → QuotedUpTo K means Reads text (take (i + 1) lines) last' whole
  quoted_more lines i line last last' said next bytes whole l e q a w z = record {
    first = q.first;
    begins = q.begins;
    answered =
        subst (λ list. LinesAnswered K means Reads text q.first list last' whole) (ap (λ x. take i lines ++ (x ∷ [])) e ∙ sym (take_more lines i line l))
        (subst (LinesAnswered K means Reads text q.first (take i lines ++ (line ∷ [])) last') (sym (w ∙ ap (λ b. said ++ b) z))
        (lines_more q.first last last' (take i lines) line said next q.answered a));
  }

  -- no closed trip earns after an order, if none did before
  module _ (X : Laws K) where
    answered_earns_not : (before after : Network M) (order : Order V) (r : Result (Option (Quotation V)) Fault) → NoEarning K before.lanes → Answered K means before order after r → NoEarning K after.lanes
    answered_earns_not before after (Terminals n) (Ok None) ne h = no_lanes_earn_not K h.1.none_stands
    answered_earns_not before after (Terminals n) (Ok (Some q)) ne h = absurd h
    answered_earns_not before after (Terminals n) (Err fault) ne h = no_lanes_earn_not K h.1.none_stands
    answered_earns_not before after (Lane ends rate) (Ok None) ne h =
        no_earning_fewer K X (λ u v _. h.1.lanes_are u v) h.0.none_earns
    answered_earns_not before after (Lane ends rate) (Ok (Some q)) ne h = absurd h
    answered_earns_not before after (Lane ends rate) (Err fault) ne h = subst (λ net. NoEarning K net.lanes) (sym h.1) ne
    answered_earns_not before after (Shut ends) (Ok None) ne h =
        no_earning_fewer K X (λ u v _. h.1.lanes_are u v) (shutting_never_earns K X before.lanes ne ends.from ends.to)
    answered_earns_not before after (Shut ends) (Ok (Some q)) ne h = absurd h
    answered_earns_not before after (Shut ends) (Err fault) ne h = subst (λ net. NoEarning K net.lanes) (sym h.1) ne
    answered_earns_not before after (Quote ends) (Ok None) ne h = absurd h
    answered_earns_not before after (Quote ends) (Ok (Some q)) ne h = subst (λ net. NoEarning K net.lanes) (sym h.3) ne
    answered_earns_not before after (Quote ends) (Err fault) ne h = subst (λ net. NoEarning K net.lanes) (sym h.1) ne

    line_earns_not : (before after : Network M) (line : Line) (said : List ℕ) → NoEarning K before.lanes → LineAnswered K means Reads text before line after said → NoEarning K after.lanes
    line_earns_not before after line said ne (inl h) = subst (λ net. NoEarning K net.lanes) (sym h.unchanged) ne
    line_earns_not before after line said ne (inr h) = answered_earns_not before after h.order h.answer ne h.answered

    lines_earn_not : (before after : Network M) (lines : List Line) (said : List ℕ) → NoEarning K before.lanes → LinesAnswered K means Reads text before lines after said → NoEarning K after.lanes
    lines_earn_not before after [] said ne (e, t) = subst (λ net. NoEarning K net.lanes) (sym e) ne
    lines_earn_not before after (line ∷ lines) said ne (mid, first, others, a, rest, e) =
        lines_earn_not mid after lines others (line_earns_not before mid line first ne a) rest

    pub quoted_earns_not : (lines : List Line) (last : Network M) (said : List ℕ) → QuotedUpTo K means Reads text lines last said → NoEarning K last.lanes
    quoted_earns_not lines last said q =
        lines_earn_not q.first last lines said (no_lanes_earn_not K q.begins.none_stands) q.answered
