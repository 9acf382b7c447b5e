use Rattle.std.proofs.Common.{◌-◌, length, sym, ◌∙◌}
use Rattle.std.proofs.lemmas.Slice.Eq.{bytes_eq-Decides}
use Rattle.jm_relink.proofs.PackageLaws.{last_there}
use Rattle.jm_relink.proofs.packages.is_last.Goals as goal

pub returns-in-Some : goal.returns-in-Some
returns-in-Some c is =
    let last = c.as_slice.result.now in
    let package' = c.args.package.now in
    last_there c.args.packages.now (length c.args.packages.now - 1) c.in-Some.last.now package' c.in-Some.ensures.value
    (sym c.as_slice.ensures.value ∙ (bytes_eq-Decides last package').0 (sym c.eq.ensures ∙ is))
