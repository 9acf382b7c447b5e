-- What a step does, from what the words were read to.
use Rattle.std.proofs.Common.{◌≡◌, Result, Ok, Err, refl, subst}
use Rattle.jm_words.specs.declared.tasks.Command.{Command}
use Rattle.jm_words.specs.declared.errors.WordsFault.{WordsFault}
use Rattle.jm_bytes.specs.declared.faults.Or.{Or}
use Rattle.jm_bytes.specs.declared.faults.Or.TheVariants as or
use Rattle.jm_bytes.specs.Results.{IfAnswered}
use Rattle.jm_inspect.specs.declared.complaint.Complaint.{Complaint}
use Rattle.jm_inspect.specs.declared.complaint.Complaint.TheVariants as complaint
use Rattle.jm_inspect.specs.declared.stop.Stop.{Stop}
use Rattle.jm_inspect.specs.declared.stop.Stop.TheVariants as stop
use Rattle.jm_inspect.specs.Outcome.{faulty, without_files}
use Rattle.jm_commands.specs.Outcome.{early_in, early_of}
use Rattle.jm_inspect.specs.Steps.{StepComesTo}
use Rattle.jm_commands.specs.Run.{TaskComesTo, WordsComeTo}
use Rattle.jm_inspect.specs.Stops.{stop_of_words}
use Rattle.jm_inspect.specs.World.{World}
use Rattle.jm_inspect.proofs.StepLaws.{complains, out_of_memory}

-- words that were read to a command
pub words_read : (asked : Result Command WordsFault) (given : Command) (answer : Result (Unit {0}) Stop) (old new : World)
    → Ok given ≡ asked → StepComesTo (TaskComesTo old.shelf.told old.input.told given.task)
    (early_of given.task) answer old new → StepComesTo (WordsComeTo old.shelf.told old.input.told asked) (early_in asked) answer old new
words_read asked given answer old new read step =
    subst (λ (a : Result Command WordsFault). StepComesTo (WordsComeTo old.shelf.told old.input.told a) (early_in a) answer old new)
    read step

-- words that weren't read to a command
pub words_unread : (asked : Result Command WordsFault) (error : Or WordsFault) (now : World) → IfAnswered (λ read. read ≡ asked)
    (Err error) → StepComesTo (WordsComeTo now.shelf.told now.input.told asked) (early_in asked) (Err (stop_of_words error)) now now
words_unread asked or.Memory now read = out_of_memory (WordsComeTo now.shelf.told now.input.told asked) (early_in asked) now
words_unread asked (or.Fault fault) now read =
    subst (λ (a : Result Command WordsFault). StepComesTo (WordsComeTo now.shelf.told now.input.told a) (early_in a)
    (Err (stop.Complaint given)) now now) read
    (complains (λ due. due ≡ faulty fault) without_files (faulty fault) given given now now refl
    refl refl (record { files = refl; source = refl; output = refl }))
  where
    given : Complaint
    given = complaint.Words fault
