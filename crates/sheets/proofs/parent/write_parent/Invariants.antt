use Rattle.std.proofs.Common.{◌≡◌, ℕ, ◌+◌, ◌*◌, ◌<◌, cond, ltb, map, get_or, drop}
use Rattle.piece_rates.specs.Sizes.{Within}
use Rattle.sheets.specs.Places.{entry_at}
use Rattle.sheets.proofs.parent.write_parent.Given as goal

abbrev pub invariant-loop-i : goal.invariant-loop-i
invariant-loop-i g l =
    (drop 64 l.sheet ≡ drop 64 l.initial.sheet)
    × (Within g.R.Rate.kind (map g.R.Rate.means l.a) → Within g.R.Rate.kind (map g.R.Rate.means l.b)
    → (i k : ℕ) → i < l.i → k < 8 → get_or (map g.R.Rate.means l.sheet) (8 * i + k) g.R.Rate.kind.none
    ≡ cond (ltb k (cond (ltb i l.count) l.count 0)) (entry_at g.R.Rate.kind l.first.part l.second.part (map g.R.Rate.means l.a) (map g.R.Rate.means l.b) i k) g.R.Rate.kind.none)
