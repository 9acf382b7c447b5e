use Rattle.std.proofs.Common.{◌≡◌, ◌++◌, Err, OnOk, append-nil, subst, sym, ap}
use Rattle.jm_class.specs.Views.{plain}
use Rattle.jm_form.specs.Rising.{items_of}
use Rattle.jm_modinfo.proofs.InfoLaws.{info-computed}
use Rattle.jm_packages.specs.Packages.{named_in_result}
use Rattle.jm_packages.proofs.ListedLaws.{none_named}
use Rattle.jm_packages.proofs.listed.push_named_by.Goals as goal

pub returns-in-Ok : goal.returns-in-Ok
returns-in-Ok c =
    let class = plain c.args.class.now in
    subst (λ named. OnOk c.push_named.result (items_of c.push_named.new.packages.items ≡ items_of c.args.packages.now.items ++ named))
    (sym (ap named_in_result (info-computed class c.in-Ok.told c.in-Ok.ensures.info))) c.push_named.ensures

pub returns-in-Err-Fault : goal.returns-in-Err-Fault
returns-in-Err-Fault c =
    let fault = c.in-Err-Fault.field-0-0 in
    rw (none_named (plain c.args.class.now) fault (c.in-Err-Fault.ensures.fault fault (ap (λ e. Err e) c.in-Err-Fault.field-0-is)))
    (sym (append-nil (items_of c.args.packages.now.items)))
