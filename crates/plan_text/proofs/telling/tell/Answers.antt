use Rattle.std.proofs.Common.{◌≡◌, inl, inr, refl, subst}
use Rattle.plan_text.specs.Laid.{NotLaid}
use Rattle.plan_text.specs.declared.laid.LayError.TheVariants.{Refused}
use Rattle.plan_text.specs.Trees.{fault_text}
use Rattle.plan_text.proofs.Texts.{GrownBy-same, on_ok}
use Rattle.plan_text.proofs.telling.tell.Goals as goal

pub returns-in-Ok : goal.returns-in-Ok
returns-in-Ok c =
    on_ok c.write_laid.result c.write_laid.ensures (λ told. (told.0, (inl (c.in-Ok.laid, (c.in-Ok.ensures.laid, told.1.0)), told.1.1)))

pub returns-in-Err-Refused : goal.returns-in-Err-Refused
returns-in-Err-Refused c =
    let fault = c.in-Err-Refused.fault in
    let is : c.in-Err-Refused.field-0 ≡ Refused fault = cc in
    on_ok c.write_fault.result c.write_fault.ensures (λ grown. (
      fault_text c.args.plan.now.links.items fault,
      (
        inr (fault, (subst (NotLaid c.args.plan.now.terminals c.args.plan.now.links.items) is c.in-Err-Refused.ensures.refused, refl)),
        GrownBy-same c.args.text.now c.write_fault.new.text _ (fault_text c.args.plan.now.links.items fault) grown (cc (c.in-Err-Refused.fault-is, c.deref.ensures.value)),
      ),
    ))
