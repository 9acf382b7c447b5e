use Rattle.std.proofs.Common.{ap, refl, sym, ◌∙◌}
use Rattle.jm_inspect.specs.Outcome.{ls_outcome}
use Rattle.jm_inspect.specs.declared.stop.Stop.TheVariants as stop
use Rattle.jm_inspect.specs.Stops.{stop_of_sink}
use Rattle.jm_inspect.proofs.PieceLaws.{text_put, text_unput}
use Rattle.jm_inspect.proofs.StepLaws.{complained, from_stop, no_memory}
use Rattle.jm_inspect.proofs.ls.list_folder.Goals as goal

pub returns-in_err-put_children-in-Ok : goal.returns-in_err-put_children-in-Ok
returns-in_err-put_children-in-Ok g c b file node =
    let listed = rw c.as_index.ensures at c.in-Ok.ensures.rest in
    let unput = c.in_err-put_children-in-Ok in
    let is = from_stop c.from_residual.result (stop_of_sink unput.field-0.0) c.from_residual.ensures.1 in
    rw (sym (listed b file node), is) (text_unput _ unput.field-0.0 _ _ unput.ensures)

pub returns-in-Ok : goal.returns-in-Ok
returns-in-Ok g c b file node =
    let listed = rw c.as_index.ensures at c.in-Ok.ensures.rest in
    rw (sym (listed b file node)) (text_put _ _ _ c.in_ok-put_children-in-Ok.ensures)

pub returns-in_err-ls_complaint-in-Err : goal.returns-in_err-ls_complaint-in-Err
returns-in_err-ls_complaint-in-Err g c b file node =
    let is = from_stop c.from_residual-in_err-ls_complaint-in-Err.result stop.Memory c.from_residual-in_err-ls_complaint-in-Err.ensures.1 in
    rw is (no_memory _ _ _ refl)

pub returns : goal.returns
returns g c b file node =
    let refused = rw c.as_index.ensures at c.in-Err.ensures.rest in
    complained _ _ _ _ (ap (ls_outcome c.args.asked.path.now) (sym (refused b file node)) ∙ c.in_ok-ls_complaint-in-Err.ensures) refl
