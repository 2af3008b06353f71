use Rattle.std.proofs.Common.{◌*◌, map, length, drop, sym, ap, ◌∙◌, subst, arith, length-take}
use Rattle.std.proofs.lemmas.Bool.{both_ways}
use Rattle.records.specs.declared.Piece.{Piece}
use Rattle.pieces.specs.Sides.{ends_of}
use Rattle.piece_rates.specs.Leaves.{LeafStands}
use Rattle.piece_rates.specs.Sheets.{SheetShows}
use Rattle.piece_rates.proofs.Standing.{leaf_stands}
use Rattle.rewriting.proofs.Sheets.{parent_shown}
use Rattle.rewriting.proofs.one.sheet_into.Goals as goal

pub returns-then-is_single : goal.returns-then-is_single
returns-then-is_single g c =
    let K = g.R.Rate.kind in
    let m = g.R.Rate.means in
    let e = ends_of c.args.records.sides.now in
    let is = c.piece-piece.ensures in
    record {
      shows = λ n lanes h parts r wide.
          subst (λ (P : Piece). SheetShows K n e P lanes (map m c.write_leaf.new.sheet)) is
          (c.write_leaf.ensures.shows n lanes wide
          (subst (λ (P : Piece). LeafStands K n e lanes P (map m c.args.lanes.now)) (sym is)
          (leaf_stands K n lanes c.args.records.sides.now c.args.records.pieces.now (map m c.args.lanes.now) (map m c.args.sheets.now) h c.args.p r
          (sym (ap (λ (P : Piece). P.first) is) ∙ c.is_single.ensures.0 c.if-is_single.true))));
      kept = c.write_leaf.ensures.kept;
    }

pub returns-clause-shows : goal.returns-clause-shows
returns-clause-shows g c n lanes h parts r wide =
    let K = g.R.Rate.kind in
    let m = g.R.Rate.means in
    let P = c.piece-piece.result in
    let sheets = c.args.sheets.now in
    let first = c.in-Some.ensures.is in
    let second = c.in-Some-sheet_of.ensures.is in
    parent_shown K m n lanes c.args.records.sides.now c.args.records.pieces.now (map m c.args.lanes.now) sheets h c.args.p r
    (map m c.write_parent.new.sheet) P c.cut_of.result c.in-Some.a.now c.in-Some-sheet_of.b.now first second parts c.piece-piece.ensures c.cut_of.ensures
    (λ z. both_ways c.is_single.result c.if-is_single.false (c.is_single.ensures.1 z))
    (c.write_parent.ensures.shows n (ends_of c.args.records.sides.now) lanes wide
    (omega (arith, ap length first, length-take 64 (drop (64 * P.first) sheets)))
    (omega (arith, ap length second, length-take 64 (drop (64 * P.second) sheets))))
