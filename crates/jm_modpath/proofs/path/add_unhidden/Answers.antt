use Rattle.std.proofs.Common.{◌≡◌, ◌∙◌, false, ap, sym}
use Rattle.jm_modpath.specs.Modules.{is_named, name_of}
use Rattle.jm_modpath.proofs.path.add_unhidden.Goals as goal

pub returns-else-has : goal.returns-else-has
returns-else-has c =
    let new : is_named c.args.found (name_of c.args.module) ≡ false = sym (c.has.ensures ∙ ap (is_named c.args.found) c.as_slice.ensures)
    ∙ c.if-has.false in
    rw new c.with.ensures
