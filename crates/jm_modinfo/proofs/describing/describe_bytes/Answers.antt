use Rattle.std.proofs.Common.{◌≡◌, Err, sym, ap, ◌∙◌, subst}
use Rattle.jm_class.specs.declared.class.ClassFault.{ClassFault}
use Rattle.jm_class.specs.Views.{plain}
use Rattle.jm_modinfo.specs.declared.faults.DescriptorFault.TheVariants as kind
use Rattle.jm_modinfo.specs.Descriptions.{info_for}
use Rattle.jm_modinfo.proofs.DescriptionLaws.{a_class, an_info, legal_name, no_class, no_info}
use Rattle.jm_modinfo.proofs.describing.describe_bytes.Goals as goal

pub returns-in-Err-Fault-clause-info : goal.returns-in-Err-Fault-clause-info
returns-in-Err-Fault-clause-info c =
    let fault = c.in-Err-Fault.fault in
    subst (λ (f : ClassFault). Err (kind.Class f) ≡ info_for c.args.release c.args.bytes.now) (sym c.in-Err-Fault.fault-is)
    (sym (no_class c.args.release c.args.bytes.now fault (c.in-Err-Fault.ensures.fault fault (ap (λ e. Err e) c.in-Err-Fault.field-0-is))))

pub returns-in-Ok-describe-clause-info : goal.returns-in-Ok-describe-clause-info
returns-in-Ok-describe-clause-info c =
    let class = plain c.in-Ok.class in
    sym (a_class c.args.release c.args.bytes.now class c.in-Ok.ensures.class ∙ an_info class c.in-Ok-describe.descriptor c.in-Ok-describe.ensures.info)

pub returns-in-Ok-describe-clause-legal : goal.returns-in-Ok-describe-clause-legal
returns-in-Ok-describe-clause-legal c = legal_name (plain c.in-Ok.class) c.in-Ok-describe.descriptor c.in-Ok-describe.ensures.info

pub returns-in-Err-Fault-describe-clause-info : goal.returns-in-Err-Fault-describe-clause-info
returns-in-Err-Fault-describe-clause-info c =
    let class = plain c.in-Ok.class in
    let fault = c.in-Err-Fault-describe.fault in
    sym (a_class c.args.release c.args.bytes.now class c.in-Ok.ensures.class ∙ no_info class fault (c.in-Err-Fault-describe.ensures.fault fault
    (ap (λ e. Err e) c.in-Err-Fault-describe.field-0-is)))
