use Rattle.jm_class.specs.Views.{plain}
use Rattle.jm_packages.proofs.WholeLaws.{lists_for, lists_not}
use Rattle.jm_packages.proofs.adding.add_packages_for.Goals as goal

pub returns : goal.returns
returns c = lists_for c.args.release (λ class. c.args.packages.now) c.args.bytes.now c.in_ok-text.text (plain c.in_ok-class.class)
    c.in_ok-class.ensures.class c.in_ok-text.ensures

pub returns-in_err-class : goal.returns-in_err-class
returns-in_err-class c = lists_not c.args.release (λ class. c.args.packages.now) c.args.bytes.now c.in_err-class.field-0.0
    c.from_residual.result c.in_err-class.ensures c.from_residual.ensures.1
