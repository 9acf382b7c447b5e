use Rattle.std.proofs.Common.{sym, ◌∙◌}
use Rattle.jm_names.specs.Names.{is_dot}
use Rattle.jm_packages.specs.PackageNames.{is_identifier, is_package_name}
use Rattle.jm_packages.proofs.PartLaws.{all_last, all_later, all_not}
use Rattle.jm_packages.proofs.names.is_package_name.Goals as goal

pub returns-then-not-is_identifier : goal.returns-then-not-is_identifier
returns-then-not-is_identifier c =
    all_not is_dot c.loop-part.rest.now c.in-Some.part.now c.in-Some.behind.now c.in-Some.ensures.found c.in-Some.ensures.before
    c.in-Some.ensures.after is_identifier (is_package_name c.args.name.now) c.loop-part.invariant
    (sym c.is_identifier.ensures ∙ c.if-not-is_identifier.true)

pub loop-part-preserved : goal.loop-part-preserved
loop-part-preserved c =
    all_later is_dot c.loop-part.rest.now c.in-Some.part.now c.in-Some.behind.now c.in-Some.ensures.found c.in-Some.ensures.before
    c.in-Some.ensures.after is_identifier (is_package_name c.args.name.now) c.loop-part.invariant
    (sym c.is_identifier.ensures ∙ c.if-not-is_identifier.false)

pub returns : goal.returns
returns c =
    c.is_identifier-2.ensures
    ∙ all_last is_dot c.loop-part.rest.now c.in_default.ensures.none is_identifier (is_package_name c.args.name.now)
    c.loop-part.invariant
