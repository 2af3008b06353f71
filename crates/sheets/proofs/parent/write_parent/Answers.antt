use Rattle.std.proofs.Common.{◌≡◌, ◌+◌, ◌-◌, ◌*◌, cond, ltb, map, length, ◌∙◌, arith}
use Rattle.std.proofs.lemmas.List.{length-map}
use Rattle.std.proofs.lemmas.Slice.{drop-put_mid}
use Rattle.piece_rates.specs.Sizes.{Within}
use Rattle.piece_rates.specs.Parents.{ParentSheet}
use Rattle.piece_rates.proofs.Sizes.{parent_shows, shown_is_within}
use Rattle.sheets.specs.Places.{entry_at}
use Rattle.sheets.proofs.Climbing.{rows_next, rows_are_sheet}
use Rattle.sheets.proofs.parent.write_parent.Goals as goal

pub loop-i-preserved : goal.loop-i-preserved
loop-i-preserved g c =
    let K = g.R.Rate.kind in
    let m = g.R.Rate.means in
    let i = c.loop-i.i in
    let row = c.parent_row.new.row in
    let size : length row ≡ 8 = omega (arith, c.parent_row.auto.row) in (
      drop-put_mid (8 * i) (8 * i + 8 - 8 * i) c.loop-i.sheet row 64 (omega arith) (omega arith) (omega arith) ∙ c.loop-i.invariant.0,
      λ wa wb. rows_next K m
          (λ r k. cond (ltb k (cond (ltb r c.len-count.result) c.len-count.result 0))
          (entry_at K c.part_of.result c.part_of-2.result (map m c.args.a.now) (map m c.args.b.now) r k) K.none)
          c.loop-i.sheet row i (8 * i + 8 - 8 * i) (omega arith) size (c.loop-i.invariant.1 wa wb) (c.parent_row.ensures wa wb),
    )

written : (g : Rattle.sheets.proofs.parent.write_parent.Given.Over) (c : goal.After-loop-i g) → Within g.R.Rate.kind (map g.R.Rate.means c.args.a.now) → Within g.R.Rate.kind (map g.R.Rate.means c.args.b.now) → ParentSheet g.R.Rate.kind c.args.cut.piece c.args.cut.first c.args.cut.second c.args.cut.low c.args.cut.high (map g.R.Rate.means c.args.a.now) (map g.R.Rate.means c.args.b.now) (map g.R.Rate.means c.loop-i.sheet)
written g c wa wb =
    rows_are_sheet g.R.Rate.kind c.args.cut.piece c.args.cut.first c.args.cut.second c.args.cut.low c.args.cut.high
    c.part_of.result c.part_of-2.result c.part_of.ensures c.part_of-2.ensures
    (map g.R.Rate.means c.args.a.now) (map g.R.Rate.means c.args.b.now) c.len-count.result (map g.R.Rate.means c.loop-i.sheet)
    c.len-count.ensures.is c.len-count.ensures.few (λ i k l l'. c.loop-i.invariant.1 wa wb i k (omega arith) l')

pub returns : goal.returns
returns g c =
    let K = g.R.Rate.kind in
    let X = g.met.R.Rate.laws in
    let m = g.R.Rate.means in
    let P = c.args.cut.piece in
    let A = c.args.cut.first in
    let B = c.args.cut.second in
    let x = c.args.cut.low in
    let y = c.args.cut.high in
    let a = map m c.args.a.now in
    let b = map m c.args.b.now in record {
      written = λ l wa wb. written g c wa wb;
      shows = λ n e lanes l la lb h.
          parent_shows K X n e lanes P A B x y a b (map m c.loop-i.sheet) h
          (written g c
          (shown_is_within K X n e lanes A a h.lanes h.first_shown (omega (arith, length-map c.args.a.now m)))
          (shown_is_within K X n e lanes B b h.lanes h.second_shown (omega (arith, length-map c.args.b.now m))));
      kept = c.loop-i.invariant.0;
      short = λ l. absurd (omega arith);
    }
