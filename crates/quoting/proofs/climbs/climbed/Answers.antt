use Rattle.std.proofs.Common.{map, ◌∙◌}
use Rattle.quoting.specs.Areas.{is_into}
use Rattle.quoting.specs.Climbs.{CanJoin}
use Rattle.quoting.specs.Places.{shown, climbed_at}
use Rattle.quoting.proofs.Places.{line_of, climbed_place, to_end_size}
use Rattle.quoting.proofs.climbs.climbed.Goals as goal

pub returns : goal.returns
returns g c wl wo wa =
    let K = g.R.Rate.kind in
    let X = g.met.R.Rate.laws in
    let m = g.R.Rate.means in
    let line = shown m c.args.line in
    let sheets = map m c.args.areas.sheets.now in
    let s = c.args.step in
    let into = is_into c.args.direction in
    let ends = c.to_seam.result in
    let is_low = c.to_seam.ensures.low wl wa in
    let is_high = c.to_seam.ensures.high wl wa in
    let joins : CanJoin K m c.args.areas (record { step = s; direction = c.args.direction; line = c.args.line; ends = ends }) = record {
      own_within = wo;
      across_within = wa;
      low_small = to_end_size K X line sheets s.across.piece into s.own.low s.own.high s.across.high s.across.low (m ends.low) wl wa is_low;
      high_small = to_end_size K X line sheets s.across.piece into s.own.high s.own.low s.across.low s.across.high (m ends.high) wl wa is_high;
    } in
    line_of K m _ (shown m c.of.result) (climbed_at K line sheets s into) c.of.ensures.short c.of.ensures.places
    (λ k r is. is joins ∙ climbed_place K line sheets s into (m ends.low) (m ends.high) k is_low is_high)
