-- No sine is longer than the radius.
use Rattle.std.proofs.Common.{◌≡◌, ◌≤◌, arith, subst, sym, ℕ}
use Rattle.std.proofs.lemmas.Grind.{common_steps}
use Rattle.plan_text.proofs.Drawing.{product_small, sine_within}
use Rattle.plan_text.specs.Pictures.{radius, sine}
use Rattle.plan_text.proofs.picture.sine.Goals as goal

pub returns-clause-within : goal.returns-clause-within
returns-clause-within c =
    let drawn : c.unwrap_or.result ≡ sine c.args.angle = grind (arith, common_steps, product_small c.args.angle) in
    subst (λ (s : ℕ). s ≤ radius) (sym drawn) (sine_within c.args.angle)
