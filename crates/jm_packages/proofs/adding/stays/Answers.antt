use Rattle.std.proofs.Common.{Err, sym, ap, ◌∙◌, subst, true, ◌≡◌, ◌↔◌}
use Rattle.jm_class.specs.Views.{plain}
use Rattle.jm_packages.specs.Packages.{Stays}
use Rattle.jm_packages.proofs.WholeLaws.{class_stays}
use Rattle.jm_packages.proofs.adding.stays.Goals as goal

pub returns-in-Ok : goal.returns-in-Ok
returns-in-Ok c = subst (λ none. (none ≡ true) ↔ Stays c.args.release c.args.bytes.now) (sym c.takes_none.ensures)
    (class_stays c.args.release c.args.bytes.now (plain c.in-Ok.class) c.in-Ok.ensures.class)

pub returns-in-Err-Fault : goal.returns-in-Err-Fault
returns-in-Err-Fault c = (
  λ e. cc,
  λ stays. absurd (c.read_for.ensures.no_class c.in-Err-Fault.field-0-0 (c.in-Err-Fault.is ∙ ap (λ e. Err e) c.in-Err-Fault.field-0-is)
      stays.class stays.reads),
)
