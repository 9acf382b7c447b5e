use Rattle.std.proofs.Common.{◌≡◌, ap, subst, ◌∙◌}
use Rattle.jm_form.specs.Trees.{module_of}
use Rattle.jm_packages.specs.Packages.{listed, packages_text}
use Rattle.jm_plugins.specs.Packaging.{folders_by}
use Rattle.jm_plugins.specs.Steps.{RemadeAs}
use Rattle.jm_plugins.proofs.ClassLaws.{packages_as}
use Rattle.jm_plugins.proofs.classes.with_packages.Goals as goal

pub returns : goal.returns
returns c =
    let bytes = c.args.bytes.now in
    let same : c.as_slice.result.now ≡ folders_by c.args.keys.now (module_of c.args.name.now) = c.as_slice.ensures
    ∙ c.in_ok-folders.ensures ∙ ap (folders_by c.args.keys.now) c.module_of.ensures in
    subst (λ folders. RemadeAs c.args.release (λ class. packages_text (listed folders class) class) bytes c.list_packages_for.result) same
    (packages_as c.args.release bytes (listed c.as_slice.result.now) c.list_packages_for.result c.list_packages_for.ensures)
