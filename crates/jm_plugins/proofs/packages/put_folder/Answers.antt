use Rattle.std.proofs.Common.{◌≡◌, ◌∙◌, true, false, Some, None, option_map, append-nil, sym, ap}
use Rattle.jm_outside.specs.Files.{after_front}
use Rattle.jm_outside.proofs.Names.{stripped}
use Rattle.jm_packages.specs.PackageNames.{is_package_name}
use Rattle.jm_plugins.proofs.packages.put_folder.Goals as goal

pub returns-in_ok-push : goal.returns-in_ok-push
returns-in_ok-push c =
    let some : after_front c.args.front.now c.args.key.now ≡ Some c.in-Some.folder.now =
    sym (stripped c.args.front.now c.args.key.now c.strip_prefix.result c.strip_prefix.ensures.cases)
    ∙ ap (option_map (λ x. x.now)) c.in-Some.is in
    let yes : is_package_name c.in-Some.folder.now ≡ true = sym c.is_package_name.ensures ∙ c.if-is_package_name.true in
    rw (some, yes, ← c.in_ok-copy_of.ensures) c.in_ok-push.ensures.ok

pub returns-else-is_package_name : goal.returns-else-is_package_name
returns-else-is_package_name c =
    let some : after_front c.args.front.now c.args.key.now ≡ Some c.in-Some.folder.now =
    sym (stripped c.args.front.now c.args.key.now c.strip_prefix.result c.strip_prefix.ensures.cases)
    ∙ ap (option_map (λ x. x.now)) c.in-Some.is in
    let no : is_package_name c.in-Some.folder.now ≡ false = sym c.is_package_name.ensures ∙ c.if-is_package_name.false in
    rw (some, no) (sym (append-nil c.args.folders.now))

pub returns-in_default : goal.returns-in_default
returns-in_default c =
    let none : after_front c.args.front.now c.args.key.now ≡ None =
    sym (stripped c.args.front.now c.args.key.now c.strip_prefix.result c.strip_prefix.ensures.cases)
    ∙ ap (option_map (λ x. x.now)) c.in_default.is in
    rw none (sym (append-nil c.args.folders.now))
