use Rattle.std.proofs.Common.{◌≡◌, ℕ, ◌+◌, ◌-◌, ◌*◌, ◌<◌, false, ◌⊎◌, map, length, refl, subst, ⊎_elim, arith, rules}
use Rattle.std.proofs.lemmas.Bool.{both_ways}
use Rattle.std.proofs.lemmas.List.{length-map}
use Rattle.pieces.specs.Sides.{ends_of}
use Rattle.pieces.specs.Holding.{piece_at}
use Rattle.pieces.specs.Holders.{climbs}
use Rattle.piece_rates.specs.Changes.{OffWayShown}
use Rattle.holders.proofs.Steps.{some_climbs, none_climbs}
use Rattle.rewriting.specs.Ways.{SheetRoom}
use Rattle.rewriting.proofs.Steps.{at_start, goes_on, stops, all_taken}
use Rattle.rewriting.proofs.Ways.{above_left, none_left}
use Rattle.rewriting.proofs.up.rewrite_up.Given as given
use Rattle.rewriting.proofs.up.rewrite_up.Goals as goal

none : (g : given.Over) (c : goal.After-from_residual g) → SheetRoom (length c.args.sheets.now) (length c.args.work.now) c.args.from → ⊥
none g c room = both_ways false refl (c.in_err-check_sheet.ensures.1 room)

pub returns-in_err-check_sheet-clause-rewritten : goal.returns-in_err-check_sheet-clause-rewritten
returns-in_err-check_sheet-clause-rewritten g c room = absurd (none g c room)

pub returns-in_err-check_sheet-clause-shown : goal.returns-in_err-check_sheet-clause-shown
returns-in_err-check_sheet-clause-shown g c n m w h r off =
    absurd (none g c (record { sheet_there = omega (arith, h.all_sheets, length-map c.args.sheets.now g.R.Rate.means); work_there = w }))

refused : (wide many from : ℕ) → SheetRoom many wide from → (wide < 64) ⊎ (many < 64 * from + 64) → ⊥
refused wide many from h s = ⊎_elim (λ t. omega (arith, h.work_there)) (λ t. omega (arith, h.sheet_there)) s

pub loop-k-init : goal.loop-k-init
loop-k-init g c = (at_start c.args.records.pieces.now c.args.from c.args.sheets.now c.args.work.now, λ n m h r off. off)

pub rewrite_sheet-requires : goal.rewrite_sheet-requires
rewrite_sheet-requires g c =
    let h = c.in_ok-check_sheet.ensures.0 refl in
    record {
      work_there = omega (arith, h.work_there, c.loop-k.auto.work);
      room = omega (arith, h.sheet_there, c.loop-k.auto.sheets, c.loop-k.invariant.0.no_higher);
    }

pub returns-in-None : goal.returns-in-None
returns-in-None g c =
    let K = g.R.Rate.kind in
    let m = g.R.Rate.means in
    let ps = c.args.records.pieces.now in
    let p = c.loop-k.p in
    let k = c.loop-k.k in
    let stop = none_climbs (climbs ps p) (piece_at ps p).parent c.in-None.ensures in
    let few : k < 41 = omega (arith, c.loop-k-test.true) in
    record {
      rewritten = λ _. stops ps c.args.from c.args.sheets.now c.args.work.now k p c.loop-k.sheets c.loop-k.work c.rewrite_sheet.new.sheets c.rewrite_sheet.new.work
          c.loop-k.invariant.0 few c.rewrite_sheet.ensures.only c.rewrite_sheet.ensures.kept stop;
      untouched = search rules;
      refused = λ s. absurd (refused (length c.args.work.now) (length c.args.sheets.now) c.args.from (c.in_ok-check_sheet.ensures.0 refl) s);
      shown = λ n lanes _ h r off.
          none_left K m n lanes c.args.records.sides.now ps (map m c.args.lanes.now) c.args.sheets.now c.loop-k.sheets c.rewrite_sheet.new.sheets c.args.from p k
          h c.loop-k.auto.sheets r c.loop-k.invariant.0.no_higher few (c.loop-k.invariant.1 n lanes h r off) c.rewrite_sheet.ensures.only (c.rewrite_sheet.ensures.shown n lanes) stop;
    }

pub loop-k-preserved : goal.loop-k-preserved
loop-k-preserved g c =
    let K = g.R.Rate.kind in
    let m = g.R.Rate.means in
    let ps = c.args.records.pieces.now in
    let p = c.loop-k.p in
    let k = c.loop-k.k in
    let up = some_climbs (climbs ps p) c.in-Some.parent (piece_at ps p).parent c.in-Some.ensures in
    let few : k < 41 = omega (arith, c.loop-k-test.true) in (
      goes_on ps c.args.from c.args.sheets.now c.args.work.now k p c.loop-k.sheets c.loop-k.work c.rewrite_sheet.new.sheets c.rewrite_sheet.new.work
          c.loop-k.invariant.0 few c.rewrite_sheet.ensures.only c.rewrite_sheet.ensures.kept c.in-Some.parent up.0 up.1,
      λ n lanes h r off.
          above_left K m n lanes c.args.records.sides.now ps (map m c.args.lanes.now) c.args.sheets.now c.loop-k.sheets c.rewrite_sheet.new.sheets c.args.from p k
          h c.loop-k.auto.sheets r c.loop-k.invariant.0.no_higher few (c.loop-k.invariant.1 n lanes h r off) c.rewrite_sheet.ensures.only (c.rewrite_sheet.ensures.shown n lanes) c.in-Some.parent up.0 up.1,
    )

pub returns : goal.returns
returns g c =
    let K = g.R.Rate.kind in
    let m = g.R.Rate.means in
    let ps = c.args.records.pieces.now in
    let at : c.loop-k.k ≡ 41 = omega (arith, c.loop-k-test.false, c.loop-k.auto.k-end) in
    record {
      rewritten = λ _. all_taken ps c.args.from c.args.sheets.now c.args.work.now c.loop-k.k c.loop-k.p c.loop-k.sheets c.loop-k.work c.loop-k.invariant.0 at;
      untouched = search rules;
      refused = λ s. absurd (refused (length c.args.work.now) (length c.args.sheets.now) c.args.from (c.in_ok-check_sheet.ensures.0 refl) s);
      shown = λ n lanes _ h r off.
          let none : 41 - c.loop-k.k ≡ 0 = omega arith in
          λ q l. subst (λ (f : ℕ). OffWayShown K n (ends_of c.args.records.sides.now) ps lanes (map m c.loop-k.sheets) f c.loop-k.p) none (c.loop-k.invariant.1 n lanes h r off) q l (λ a. a);
    }
