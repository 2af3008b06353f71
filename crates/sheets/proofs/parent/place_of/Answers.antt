use Rattle.std.specs.Prelude.{unwrap_or}
use Rattle.std.proofs.Common.{◌≡◌, ap, ◌∙◌, arith}
use Rattle.records.specs.Few.{listed}
use Rattle.piece_rates.specs.Climbing.{place}
use Rattle.piece_rates.proofs.Places.{place_at_most}
use Rattle.sheets.proofs.Reading.{position_place}
use Rattle.sheets.proofs.parent.place_of.Goals as goal

stands : (c : goal.After-unwrap_or) → c.unwrap_or.result ≡ place (listed c.args.edges) c.args.terminal
stands c =
    c.unwrap_or.ensures
    ∙ ap (unwrap_or c.position.result) c.len.ensures.is
    ∙ position_place (listed c.args.edges) c.args.terminal c.position.result c.position.ensures

pub overflow_cast-result : goal.overflow_cast-result
overflow_cast-result c = omega (arith, stands c, place_at_most (listed c.args.edges) c.args.terminal, c.len.ensures.is, c.len.ensures.few)

pub returns : goal.returns
returns c = stands c
