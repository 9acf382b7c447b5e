use Rattle.std.proofs.Common.{◌++◌, ap, arith, sym, ◌∙◌}
use Rattle.std.proofs.lemmas.List.{take_all}
use Rattle.jm_form.specs.Rising.{items_of}
use Rattle.jm_packages.proofs.ListedLaws.{grown_by, provider_one, provider_packages, providers_join}
use Rattle.jm_packages.proofs.listed.push_providers.Goals as goal

pub loop-service-preserved : goal.loop-service-preserved
loop-service-preserved c =
    grown_by provider_packages providers_join c.args.provides.now c.loop-service.service-index c.service-item.result (items_of c.args.packages.now.items)
    (items_of c.loop-service.packages.items) (items_of c.push_classes.new.packages.items) c.loop-service-test.true c.service-item.is
    c.loop-service.invariant (rw c.as_slice.ensures at c.in_ok-push_classes.ensures
    ∙ ap (λ more. items_of c.loop-service.packages.items ++ more) (sym (provider_one c.service-item.result)))

pub returns : goal.returns
returns c =
    c.loop-service.invariant ∙ ap (λ xs. items_of c.args.packages.now.items ++ provider_packages xs)
    (take_all c.loop-service.service-index c.args.provides.now (omega arith))
