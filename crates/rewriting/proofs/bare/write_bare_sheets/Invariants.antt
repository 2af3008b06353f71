use Rattle.std.proofs.Common.{◌≡◌, ℕ, ◌+◌, ◌*◌, ◌<◌, map, length, get_or, drop}
use Rattle.records.specs.Few.{listed}
use Rattle.pieces.specs.Holding.{piece_at}
use Rattle.piece_rates.specs.Bare.{bare_place}
use Rattle.rewriting.proofs.bare.write_bare_sheets.Given as goal

abbrev pub invariant-loop-p : goal.invariant-loop-p
invariant-loop-p g l =
    (drop (64 * l.most) l.sheets ≡ drop (64 * l.most) l.initial.sheets)
    × ((q k : ℕ) → q < l.p → k < 64 → get_or (map g.R.Rate.means l.sheets) (64 * q + k) g.R.Rate.kind.none ≡ bare_place g.R.Rate.kind (length (listed (piece_at l.pieces q).edges)) k)
