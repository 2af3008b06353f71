use Rattle.std.proofs.Common.{sym, inr, ⊎_elim, ◌∙◌}
use Rattle.records.specs.Few.{listed}
use Rattle.quoting.proofs.Places.{both_places}
use Rattle.quoting.proofs.Turns.{denied}
use Rattle.quoting.proofs.walks.ends_there.Goals as goal

pub returns-else-is_single : goal.returns-else-is_single
returns-else-is_single c =
    let both = both_places (listed c.args.piece.edges) c.args.u c.args.v c.places_of.result c.places_of.ensures in (
      λ e. inr (both.0 (sym c.is_some.ensures ∙ e)),
      λ ends. ⊎_elim (λ z. absurd (denied c.is_single.ensures c.if-is_single.false z)) (λ z. c.is_some.ensures ∙ both.1 z) ends,
    )
