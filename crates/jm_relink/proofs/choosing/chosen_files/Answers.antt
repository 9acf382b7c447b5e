use Rattle.std.proofs.Common.{◌≡◌, ◌∷◌, [], Err, get_or, of_calls, refl, rules}
use Rattle.jm_relink.specs.Choosing.{Chooses, ChoosesAll}
use Rattle.jm_relink.specs.Gathering.{gathered}
use Rattle.jm_relink.proofs.ChoosingLaws.{module_put, module_refused}
use Rattle.jm_relink.proofs.GatherLaws.{next_module, refused_as}
use Rattle.jm_relink.proofs.choosing.chosen_files.Goals as goal

pub returns-in_err-put_module-clause-chooses : goal.returns-in_err-put_module-clause-chooses
returns-in_err-put_module-clause-chooses c b has =
    let modules = c.args.modules.now in
    let chosen = c.args.chosen.now in
    let i = c.loop-place.place-index in
    let place = get_or chosen i 0 in
    let same : c.from_residual.result ≡ Err c.in_err-put_module.field-0.0 = search (rules, of_calls) in
    rw same (refused_as (Chooses b (gathered b modules (place ∷ [])) c.loop-place.list c.put_module.new.list)
    (ChoosesAll b (gathered b modules chosen)) c.in_err-put_module.field-0.0
    (λ fault given. module_refused b modules chosen i (gathered b modules (place ∷ [])) fault
    (next_module b modules chosen i place c.loop-place-test.true refl) (c.loop-place.invariant.put b has).sound given)
    (c.in_err-put_module.ensures.chooses b has))

pub loop-place-preserved : goal.loop-place-preserved
loop-place-preserved c =
    let modules = c.args.modules.now in
    let chosen = c.args.chosen.now in
    let i = c.loop-place.place-index in
    let place = get_or chosen i 0 in
    record {
      put = λ b has.
          module_put b modules chosen i (gathered b modules (place ∷ [])) [] c.loop-place.list c.put_module.new.list
          (next_module b modules chosen i place c.loop-place-test.true refl) (c.loop-place.invariant.put b has)
          (c.in_ok-put_module.ensures.chooses b has);
      within = λ size inside. c.in_ok-put_module.ensures.within size (c.loop-place.invariant.within size inside) inside;
    }
