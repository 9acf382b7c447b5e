use Rattle.std.proofs.Common.{◌∙◌, refl}
use Rattle.jm_class.proofs.Stops.{gives_stop}
use Rattle.jm_modinfo.proofs.fields.module.Goals as goal

pub returns-in_err-needs-clause-module : goal.returns-in_err-needs-clause-module
returns-in_err-needs-clause-module c =
    let after_name = c.in_ok-name.ensures.class in
    let version = rw after_name at c.in_ok-version.ensures.version in
    let after_version = c.in_ok-version.ensures.class ∙ after_name in
    gives_stop (λ x. x) (λ d. d) _ _ c.in_err-needs.field-0.0 c.from_residual-in_err-needs.result c.needs.new.cursor c.needs.new.cursor
    c.from_residual-in_err-needs.ensures.1 c.in_err-needs.ensures.needs
    (λ fault stops. let stop = rw after_version at stops in rw (c.in_ok-name.ensures.text, c.in_ok-flags.ensures, version, stop) refl)

pub returns-in_err-exports-clause-module : goal.returns-in_err-exports-clause-module
returns-in_err-exports-clause-module c =
    let after_name = c.in_ok-name.ensures.class in
    let version = rw after_name at c.in_ok-version.ensures.version in
    let after_version = c.in_ok-version.ensures.class ∙ after_name in
    let needs = rw after_version at c.in_ok-needs.ensures.needs in
    let after_needs = c.in_ok-needs.ensures.class ∙ after_version in
    gives_stop (λ x. x) (λ d. d) _ _ c.in_err-exports.field-0.0 c.from_residual-in_err-exports.result c.all_opened.new.cursor c.all_opened.new.cursor
    c.from_residual-in_err-exports.ensures.1 c.in_err-exports.ensures.all
    (λ fault stops. let stop = rw after_needs at stops in rw (c.in_ok-name.ensures.text, c.in_ok-flags.ensures, version, needs, stop) refl)

pub returns-in_err-opens-clause-module : goal.returns-in_err-opens-clause-module
returns-in_err-opens-clause-module c =
    let after_name = c.in_ok-name.ensures.class in
    let version = rw after_name at c.in_ok-version.ensures.version in
    let after_version = c.in_ok-version.ensures.class ∙ after_name in
    let needs = rw after_version at c.in_ok-needs.ensures.needs in
    let after_needs = c.in_ok-needs.ensures.class ∙ after_version in
    let exports = rw after_needs at c.in_ok-exports.ensures.all in
    let after_exports = c.in_ok-exports.ensures.class ∙ after_needs in
    gives_stop (λ x. x) (λ d. d) _ _ c.in_err-opens.field-0.0 c.from_residual-in_err-opens.result c.all_opened-2.new.cursor c.all_opened-2.new.cursor
    c.from_residual-in_err-opens.ensures.1 c.in_err-opens.ensures.all
    (λ fault stops. let stop = rw after_exports at stops in rw (c.in_ok-name.ensures.text, c.in_ok-flags.ensures, version, needs, exports, stop) refl)

pub returns-in_err-uses-clause-module : goal.returns-in_err-uses-clause-module
returns-in_err-uses-clause-module c =
    let after_name = c.in_ok-name.ensures.class in
    let version = rw after_name at c.in_ok-version.ensures.version in
    let after_version = c.in_ok-version.ensures.class ∙ after_name in
    let needs = rw after_version at c.in_ok-needs.ensures.needs in
    let after_needs = c.in_ok-needs.ensures.class ∙ after_version in
    let exports = rw after_needs at c.in_ok-exports.ensures.all in
    let after_exports = c.in_ok-exports.ensures.class ∙ after_needs in
    let opens = rw after_exports at c.in_ok-opens.ensures.all in
    let after_opens = c.in_ok-opens.ensures.class ∙ after_exports in
    gives_stop (λ x. x) (λ d. d) _ _ c.in_err-uses.field-0.0 c.from_residual-in_err-uses.result c.names.new.cursor c.names.new.cursor
    c.from_residual-in_err-uses.ensures.1 c.in_err-uses.ensures.names
    (λ fault stops. let stop = rw after_opens at stops in rw (c.in_ok-name.ensures.text, c.in_ok-flags.ensures, version, needs, exports, opens, stop) refl)

pub returns-in_err-provides-clause-module : goal.returns-in_err-provides-clause-module
returns-in_err-provides-clause-module c =
    let after_name = c.in_ok-name.ensures.class in
    let version = rw after_name at c.in_ok-version.ensures.version in
    let after_version = c.in_ok-version.ensures.class ∙ after_name in
    let needs = rw after_version at c.in_ok-needs.ensures.needs in
    let after_needs = c.in_ok-needs.ensures.class ∙ after_version in
    let exports = rw after_needs at c.in_ok-exports.ensures.all in
    let after_exports = c.in_ok-exports.ensures.class ∙ after_needs in
    let opens = rw after_exports at c.in_ok-opens.ensures.all in
    let after_opens = c.in_ok-opens.ensures.class ∙ after_exports in
    let uses = rw after_opens at c.in_ok-uses.ensures.names in
    let after_uses = c.in_ok-uses.ensures.class ∙ after_opens in
    gives_stop (λ x. x) (λ d. d) _ _ c.in_err-provides.field-0.0 c.from_residual-in_err-provides.result c.all_provides.new.cursor c.all_provides.new.cursor
    c.from_residual-in_err-provides.ensures.1 c.in_err-provides.ensures.all
    (λ fault stops. let stop = rw after_uses at stops in rw (c.in_ok-name.ensures.text, c.in_ok-flags.ensures, version, needs, exports, opens, uses, stop) refl)

pub returns-clause-module : goal.returns-clause-module
returns-clause-module c =
    let after_name = c.in_ok-name.ensures.class in
    let version = rw after_name at c.in_ok-version.ensures.version in
    let after_version = c.in_ok-version.ensures.class ∙ after_name in
    let needs = rw after_version at c.in_ok-needs.ensures.needs in
    let after_needs = c.in_ok-needs.ensures.class ∙ after_version in
    let exports = rw after_needs at c.in_ok-exports.ensures.all in
    let after_exports = c.in_ok-exports.ensures.class ∙ after_needs in
    let opens = rw after_exports at c.in_ok-opens.ensures.all in
    let after_opens = c.in_ok-opens.ensures.class ∙ after_exports in
    let uses = rw after_opens at c.in_ok-uses.ensures.names in
    let after_uses = c.in_ok-uses.ensures.class ∙ after_opens in
    let provides = rw after_uses at c.in_ok-provides.ensures.all in
    rw (c.in_ok-name.ensures.text, c.in_ok-flags.ensures, version, needs, exports, opens, uses, provides) refl
