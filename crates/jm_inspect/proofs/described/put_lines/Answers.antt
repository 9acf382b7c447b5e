use Rattle.jm_bytes.proofs.ResultLaws.{passed_on}
use Rattle.jm_inspect.proofs.PieceLaws.{cut_passed, then_passed}
use Rattle.jm_inspect.proofs.described.put_lines.Goals as goal

pub returns-in_err-put_module : goal.returns-in_err-put_module
returns-in_err-put_module g c =
    rw (passed_on c.from_residual.result c.in_err-put_module.field-0.0 c.from_residual.ensures.1)
    (cut_passed _ (cut_passed _ (cut_passed _ (cut_passed _ (cut_passed _ (cut_passed _ c.in_err-put_module.ensures))))))

pub returns-in_err-put_needs : goal.returns-in_err-put_needs
returns-in_err-put_needs g c =
    rw (passed_on c.from_residual-in_err-put_needs.result c.in_err-put_needs.field-0.0
    c.from_residual-in_err-put_needs.ensures.1)
    (cut_passed _ (cut_passed _ (cut_passed _ (cut_passed _
    (cut_passed _ (then_passed c.in_ok-put_module.ensures (rw c.as_slice.ensures at c.in_err-put_needs.ensures)))))))

pub returns-in_err-put_packages : goal.returns-in_err-put_packages
returns-in_err-put_packages g c =
    let needs = then_passed c.in_ok-put_module.ensures (rw c.as_slice.ensures at c.in_ok-put_needs.ensures) in
    rw (passed_on c.from_residual-in_err-put_packages.result c.in_err-put_packages.field-0.0
    c.from_residual-in_err-put_packages.ensures.1)
    (cut_passed _ (cut_passed _ (cut_passed _ (cut_passed _
    (then_passed needs (rw c.as_slice-2.ensures at c.in_err-put_packages.ensures))))))

pub returns-in_err-put_packages-2 : goal.returns-in_err-put_packages-2
returns-in_err-put_packages-2 g c =
    let needs = then_passed c.in_ok-put_module.ensures (rw c.as_slice.ensures at c.in_ok-put_needs.ensures) in
    let exports = then_passed needs (rw c.as_slice-2.ensures at c.in_ok-put_packages.ensures) in
    rw (passed_on c.from_residual-in_err-put_packages-2.result c.in_err-put_packages-2.field-0.0
    c.from_residual-in_err-put_packages-2.ensures.1)
    (cut_passed _ (cut_passed _ (cut_passed _ (then_passed exports
    (rw c.as_slice-3.ensures at c.in_err-put_packages-2.ensures)))))

pub returns-in_err-put_uses : goal.returns-in_err-put_uses
returns-in_err-put_uses g c =
    let needs = then_passed c.in_ok-put_module.ensures (rw c.as_slice.ensures at c.in_ok-put_needs.ensures) in
    let exports = then_passed needs (rw c.as_slice-2.ensures at c.in_ok-put_packages.ensures) in
    let opens = then_passed exports (rw c.as_slice-3.ensures at c.in_ok-put_packages-2.ensures) in
    rw (passed_on c.from_residual-in_err-put_uses.result c.in_err-put_uses.field-0.0
    c.from_residual-in_err-put_uses.ensures.1)
    (cut_passed _ (cut_passed _ (then_passed opens (rw c.as_slice-4.ensures at c.in_err-put_uses.ensures))))

pub returns-in_err-put_provides : goal.returns-in_err-put_provides
returns-in_err-put_provides g c =
    let needs = then_passed c.in_ok-put_module.ensures (rw c.as_slice.ensures at c.in_ok-put_needs.ensures) in
    let exports = then_passed needs (rw c.as_slice-2.ensures at c.in_ok-put_packages.ensures) in
    let opens = then_passed exports (rw c.as_slice-3.ensures at c.in_ok-put_packages-2.ensures) in
    let uses = then_passed opens (rw c.as_slice-4.ensures at c.in_ok-put_uses.ensures) in
    rw (passed_on c.from_residual-in_err-put_provides.result c.in_err-put_provides.field-0.0
    c.from_residual-in_err-put_provides.ensures.1)
    (cut_passed _ (then_passed uses (rw c.as_slice-5.ensures at c.in_err-put_provides.ensures)))

pub returns : goal.returns
returns g c =
    let needs = then_passed c.in_ok-put_module.ensures (rw c.as_slice.ensures at c.in_ok-put_needs.ensures) in
    let exports = then_passed needs (rw c.as_slice-2.ensures at c.in_ok-put_packages.ensures) in
    let opens = then_passed exports (rw c.as_slice-3.ensures at c.in_ok-put_packages-2.ensures) in
    let uses = then_passed opens (rw c.as_slice-4.ensures at c.in_ok-put_uses.ensures) in
    let provides = then_passed uses (rw c.as_slice-5.ensures at c.in_ok-put_provides.ensures) in
    then_passed provides c.put_main.ensures
