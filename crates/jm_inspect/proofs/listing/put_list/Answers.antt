use Rattle.jm_inspect.specs.Stops.{stop_of_sink}
use Rattle.jm_inspect.proofs.PieceLaws.{text_put, text_unput}
use Rattle.jm_inspect.proofs.StepLaws.{from_stop}
use Rattle.jm_inspect.proofs.listing.put_list.Goals as goal

pub returns-in_err-put_taken : goal.returns-in_err-put_taken
returns-in_err-put_taken g c b file =
    rw (from_stop c.from_residual.result (stop_of_sink c.in_err-put_taken.field-0.0) c.from_residual.ensures.1)
    (text_unput _ c.in_err-put_taken.field-0.0 _ _ (c.in_err-put_taken.ensures b file))

pub returns : goal.returns
returns g c b file = text_put _ _ _ (c.in_ok-put_taken.ensures b file)
