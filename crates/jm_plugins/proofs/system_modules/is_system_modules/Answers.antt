use Rattle.std.proofs.Common.{◌≡◌, ◌∙◌, Some, None, option_map, sym, ap, refl}
use Rattle.jm_outside.specs.Files.{after_front}
use Rattle.jm_outside.proofs.Names.{stripped}
use Rattle.jm_plugins.proofs.system_modules.is_system_modules.Goals as goal

pub returns-in-Some : goal.returns-in-Some
returns-in-Some c =
    let some : after_front c.as_slice.result.now c.args.name.now ≡ Some c.in-Some.rest.now =
    sym (stripped c.as_slice.result.now c.args.name.now c.strip_prefix.result c.strip_prefix.ensures.cases)
    ∙ ap (option_map (λ x. x.now)) c.in-Some.is in
    rw (rw c.as_slice.ensures at some) c.is_class_here.ensures

pub returns-in-None : goal.returns-in-None
returns-in-None c =
    let none : after_front c.as_slice.result.now c.args.name.now ≡ None =
    sym (stripped c.as_slice.result.now c.args.name.now c.strip_prefix.result c.strip_prefix.ensures.cases)
    ∙ ap (option_map (λ x. x.now)) c.in-None.is in
    rw (rw c.as_slice.ensures at none) refl
