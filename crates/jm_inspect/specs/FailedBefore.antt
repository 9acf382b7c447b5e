-- Which failure of the outside may stand in place of what is due (this project's rule).
use Rattle.std.specs.Prelude.{ℕ, ◌≡◌, ◌⊎◌, true, List, Option, Some, None}
use Rattle.jm_inspect.specs.declared.status.Status.{Status}
use Rattle.jm_inspect.specs.declared.status.Status.TheVariants as status
use Rattle.jm_inspect.specs.Outcome.{Early, Outcome}
use Rattle.jm_outside.specs.Shelves.{ShelfFailed}
use Rattle.jm_inspect.specs.Sinks.{Failed, Seen}
use Rattle.jm_inspect.specs.World.{World}

-- the shelf failed, in work that reads files: no other work calls it
abbrev pub FilesFailed : Early → World → World → Type 0
FilesFailed early old new = (early.reads ≡ true) × ShelfFailed old.shelf new.shelf

-- one of these failed, which the work reaches no later than the status that is due: of a session
-- the source or the output; without one, of `Done` the files or the output, of `Refused`, `Damaged`
-- and `NotThere` the files, and of all others none
abbrev pub WorkFailed : Early → Option (List ℕ) → Status → World → World → Type 0
WorkFailed early (Some b) is old new = Failed old.input new.input ⊎ Failed old.out new.out
WorkFailed early None status.Done old new = FilesFailed early old new ⊎ Failed old.out new.out
WorkFailed early None status.Refused old new = FilesFailed early old new
WorkFailed early None status.Damaged old new = FilesFailed early old new
WorkFailed early None status.NotThere old new = FilesFailed early old new
WorkFailed early None status.Words old new = ⊥
WorkFailed early None status.Session old new = ⊥
WorkFailed early None status.Outside old new = ⊥
WorkFailed early None status.Memory old new = ⊥

-- the error sink failed, and with the status that is due it gets a line
abbrev pub LineFailed : Status → Seen (List ℕ) → Seen (List ℕ) → Type 0
LineFailed status.Words err new_err = Failed err new_err
LineFailed status.Refused err new_err = Failed err new_err
LineFailed status.Damaged err new_err = Failed err new_err
LineFailed status.NotThere err new_err = Failed err new_err
LineFailed status.Session err new_err = Failed err new_err
LineFailed status.Done err new_err = ⊥
LineFailed status.Outside err new_err = ⊥
LineFailed status.Memory err new_err = ⊥

-- an object failed that the work reaches no later than this outcome
abbrev pub FailedBefore
    : Early → Outcome → World → World → Seen (List ℕ) → Seen (List ℕ) → Type 0
FailedBefore early due old new err new_err =
    WorkFailed early due.session due.status old new ⊎ LineFailed due.status err new_err
