use Rattle.std.proofs.Common.{◌≡◌, Some, subst, sym}
use Rattle.plan_text.specs.Reports.{ReadingEnds}
use Rattle.plan_text.specs.Readers.{reading}
use Rattle.plan_text.proofs.telling.Reader.end_plan.Goals as goal

pub returns-in_ok-tell_titled-clause-told : goal.returns-in_ok-tell_titled-clause-told
returns-in_ok-tell_titled-clause-told c =
    let told = c.in_ok-tell_titled.ensures in
    let is : c.args.self.now.plan ≡ Some c.in-Some.plan = cc in
    (told.0, (subst (λ plan. ReadingEnds c.args.self.now.view (reading plan) told.0) (sym is) told.1.0, told.1.1))
