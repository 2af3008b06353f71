use Rattle.std.proofs.Common.{◌≡◌, ℕ, ◌+◌, ◌-◌, ◌*◌, ◌<◌, ◌≤◌, map, length, drop, refl, ap, ◌∙◌, subst, arith, length-take}
use Rattle.std.proofs.lemmas.List.{length-map, get_or_default, get_or-take}
use Rattle.std.proofs.lemmas.Slice.{drop-put_mid}
use Rattle.records.specs.declared.Piece.{Piece}
use Rattle.records.specs.Few.{listed}
use Rattle.pieces.specs.Cuts.{whole}
use Rattle.pieces.specs.Holding.{piece_at}
use Rattle.piece_rates.specs.Bare.{bare_place, BareSheets}
use Rattle.piece_rates.proofs.Bare.{bare_sheets_show}
use Rattle.rewriting.proofs.Sheets.{sheets_next}
use Rattle.rewriting.proofs.bare.write_bare_sheets.Goals as goal

pub loop-p-init : goal.loop-p-init
loop-p-init g c = (refl, λ q k l m. absurd (omega arith))

pub loop-p-preserved : goal.loop-p-preserved
loop-p-preserved g c =
    let K = g.R.Rate.kind in
    let m = g.R.Rate.means in
    let p = c.loop-p.p in
    let ps = c.args.pieces.now in
    let sheet = c.write_bare_sheet.new.sheet in
    let most = c.min-most.result in
    let below : p < most = omega (arith, c.loop-p-test.true, length-take most ps) in
    let room : 64 * p + 64 ≤ length c.loop-p.sheets = omega (arith, c.min-most.ensures, below, c.loop-p.auto.sheets) in
    let size : length sheet ≡ 64 = omega (arith, c.write_bare_sheet.auto.sheet) in (
      drop-put_mid (64 * p) (64 * p + 64 - 64 * p) c.loop-p.sheets sheet (64 * most) (omega (arith, below)) (omega arith) (omega arith) ∙ c.loop-p.invariant.0,
      sheets_next K m (λ q k. bare_place K (length (listed (piece_at ps q).edges)) k) c.loop-p.sheets sheet p (64 * p + 64 - 64 * p) room size c.loop-p.invariant.1
          (λ k l. c.write_bare_sheet.ensures k l ∙ ap (λ (P : Piece). bare_place K (length (listed P.edges)) k) (get_or-take most ps p _ below ∙ get_or_default ps p _ whole (omega (arith, c.min-most.ensures, below)))),
    )

written : (g : Rattle.rewriting.proofs.bare.write_bare_sheets.Given.Over) (c : goal.After-loop-p g) → BareSheets g.R.Rate.kind c.args.pieces.now (map g.R.Rate.means c.loop-p.sheets)
written g c p l room k b =
    c.loop-p.invariant.1 p k (omega (arith, c.min-most.ensures, c.loop-p-test.false, length-take c.min-most.result c.args.pieces.now, c.loop-p.auto.sheets, length-map c.loop-p.sheets g.R.Rate.means)) b

pub returns : goal.returns
returns g c =
    let K = g.R.Rate.kind in
    let m = g.R.Rate.means in
    record {
      written = written g c;
      behind = subst (λ (v : ℕ). drop (64 * v) c.loop-p.sheets ≡ drop (64 * v) c.args.sheets.now) c.min-most.ensures c.loop-p.invariant.0;
      shown = λ n e lanes none d all room.
          bare_sheets_show K g.met.R.Rate.laws n e c.args.pieces.now lanes (map m c.loop-p.sheets) none d all
          (omega (arith, room, c.loop-p.auto.sheets, length-map c.loop-p.sheets m)) (written g c);
    }
