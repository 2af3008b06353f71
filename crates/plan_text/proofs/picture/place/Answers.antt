-- The turn of a terminal fits, so nothing is cut off on the way to its place.
use Rattle.std.proofs.Common.{◌≡◌, ℕ, ◌+◌, ◌-◌, ◌*◌, ◌≤◌, arith, ap, subst, sym, ◌∙◌}
use Rattle.std.proofs.lemmas.Grind.{common_steps}
use Rattle.std.proofs.Math.Nat.{div-le_self}
use Rattle.plan_text.specs.Pictures.{angle_of, margin, NearCircle, point_at, radius, wave}
use Rattle.plan_text.proofs.Circles.{near_circle}
use Rattle.plan_text.proofs.picture.place.Goals as goal

pub returns-clause-is : goal.returns-clause-is
unfolding point_at
returns-clause-is c =
    let angle : ℕ = angle_of c.args.terminals c.args.terminal in
    let turned : c.unwrap_or-angle.result ≡ angle = grind (arith, common_steps) in
    let few : angle ≤ c.args.terminal * 2 * 1800 = div-le_self (c.args.terminal * 2 * 1800) c.args.terminals in
    let quarter : c.saturating_add-2.result ≡ angle + 900 = omega (arith, turned, few) in
    let right : c.saturating_add.result ≡ c.wave.result + margin = omega arith in
    let across : c.saturating_add.result ≡ wave angle + margin = right ∙ ap (λ (w : ℕ). w + margin) (c.wave.ensures.is ∙ ap wave turned) in
    let down : c.saturating_sub.result ≡ 2 * radius + margin - wave (angle + 900) = c.saturating_sub.ensures ∙ ap (λ (w : ℕ). 2 * radius + margin - w) (c.wave-2.ensures.is ∙ ap wave quarter) in
    cc (across, down)

pub returns-clause-near : goal.returns-clause-near
unfolding point_at
returns-clause-near c = subst NearCircle (sym (returns-clause-is c)) (near_circle (angle_of c.args.terminals c.args.terminal))
