-- What a step of a run did to the outside, said by what its command comes to (this project's rule).
use Rattle.std.specs.Prelude.{ℕ, ◌≡◌, ◌≢◌, ◌⊎◌, IsTrue, IsOk, List, [], Result, Ok, Err}
use Rattle.jm_form.specs.Head.{IsFileOf}
use Rattle.jm_outside.specs.Made.{MadeAll, MadePart, Writes}
use Rattle.jm_outside.specs.Shelves.{ShelfSeen}
use Rattle.jm_valid.specs.Opened.{Front}
use Rattle.jm_words.specs.declared.tasks.ImageWork.{ImageWork}
use Rattle.jm_inspect.specs.declared.complaint.Complaint.{Complaint}
use Rattle.jm_inspect.specs.declared.complaint.Complaint.TheVariants as complaint
use Rattle.jm_inspect.specs.declared.status.Status.{Status}
use Rattle.jm_inspect.specs.declared.status.Status.TheVariants as status
use Rattle.jm_inspect.specs.declared.stop.Stop.{Stop}
use Rattle.jm_inspect.specs.declared.stop.Stop.TheVariants as stop
use Rattle.jm_inspect.specs.FailedBefore.{FilesFailed, WorkFailed}
use Rattle.jm_inspect.specs.Outcome.{Early, Outcome, done, reading, refused}
use Rattle.jm_inspect.specs.SessionHeld.{SourceRead, StopsAs}
use Rattle.jm_inspect.specs.Sinks.{Failed, Gets, GetsFront, Seen}
use Rattle.jm_inspect.specs.Texts.{complaint_text, line_of}
use Rattle.jm_inspect.specs.World.{NoneRose, World, world}
use Rattle.jm_inspect.specs.Works.{TextComesTo, WorkComesTo}

-- the status with which a complaint ends a run
abbrev pub status_of : Complaint → Status
status_of (complaint.Words fault) = status.Words
status_of (complaint.Damaged damage) = status.Damaged
status_of (complaint.NotThere text) = status.NotThere
status_of (complaint.Refused refusal) = status.Refused
status_of (complaint.BadNode at) = status.Damaged
status_of (complaint.NoNode name) = status.Damaged
status_of (complaint.BadNodeAt name at) = status.Damaged
status_of complaint.NotFolder = status.Refused
status_of (complaint.LongLine k) = status.Session
status_of complaint.TooManyLines = status.Session

-- the step's answer is that of the outcome, unless the outside failed or no memory was found
abbrev pub Answers : Outcome → Result (Unit {0}) Stop → Type 0
Answers due (Ok _) = (due.status ≡ status.Done) × (due.line ≡ [])
Answers due (Err (stop.Complaint complaint)) =
    (due.status ≡ status_of complaint) × (due.line ≡ line_of complaint)
Answers due (Err stop.Outside) = Unit {0}
Answers due (Err stop.Memory) = Unit {0}

-- the output is whole, but a prefix of it where the outside failed or no memory was found
abbrev pub Outputs : Result (Unit {0}) Stop → List ℕ → Seen (List ℕ) → Seen (List ℕ) → Type 0
Outputs (Ok _) output old new = Gets output old new
Outputs (Err (stop.Complaint complaint)) output old new = Gets output old new
Outputs (Err stop.Outside) output old new = GetsFront output old new
Outputs (Err stop.Memory) output old new = GetsFront output old new

-- all files were made, and, where there are any, they stand whole under their own names
pub record StandAll (writes : Writes) (old new : ShelfSeen) : Type 0 where
  pub made : MadeAll writes old.told new.told
  pub whole : writes ≢ [] → IsTrue new.whole

-- all files were made and stand, and where there are any, the making of files was ended after them
pub record StandSafe (writes : Writes) (old new : ShelfSeen) : Type 0 where
  pub stand : StandAll writes old new
  pub durable : writes ≢ [] → IsTrue new.durable

-- the files are made and stand, and making them was ended, unless a complaint ends the work; but
-- some of them are made where the outside failed or no memory was found
abbrev pub FilesMade : Result (Unit {0}) Stop → Writes → (old new : ShelfSeen) → Type 0
FilesMade (Ok _) writes old new = StandSafe writes old new
FilesMade (Err (stop.Complaint complaint)) writes old new = StandAll writes old new
FilesMade (Err stop.Outside) writes old new = MadePart writes old.told new.told
FilesMade (Err stop.Memory) writes old new = MadePart writes old.told new.told

-- a failure of the outside, or want of memory
abbrev pub IsFailure : Result (Unit {0}) Stop → Type 0
IsFailure (Ok _) = ⊥
IsFailure (Err (stop.Complaint complaint)) = ⊥
IsFailure (Err stop.Outside) = Unit {0}
IsFailure (Err stop.Memory) = Unit {0}

-- the output is put after all files were made and making them was ended, or nothing was put
abbrev pub FilesFirst : Writes → World → World → Type 0
FilesFirst writes old new =
    StandSafe writes old.shelf new.shelf ⊎ (new.out.told ≡ old.out.told)

-- what any step does, where this is what the command comes to
pub record StepDoes (early : Early) (due : Outcome) (answer : Result (Unit {0}) Stop)
    (old new : World) : Type 0 where
  pub answers : Answers due answer
  pub output : Outputs answer due.output old.out new.out
  pub files : FilesMade answer due.writes old.shelf new.shelf
  pub files_first : FilesFirst due.writes old new
  pub source : SourceRead due.session (StopsAs answer) old new
  pub outside : answer ≡ Err stop.Outside → WorkFailed early due.session due.status old new
  pub none_rose : IsOk answer → NoneRose old new

-- a step failed before it was known what the command comes to: with nothing put and nothing read
-- from the source, and of these files some made
pub record FailsAtOnce (early : Early) (answer : Result (Unit {0}) Stop) (old new : World)
    : Type 0 where
  pub failed : IsFailure answer
  pub files : MadePart early.writes old.shelf.told new.shelf.told
  pub source : new.input.told ≡ old.input.told
  pub output : new.out.told ≡ old.out.told
  pub outside : answer ≡ Err stop.Outside → FilesFailed early old new

-- a step does what is due, or fails at once, whatever would have been due
abbrev pub StepComesTo : (Outcome → Type 0) → Early → Result (Unit {0}) Stop → World → World
    → Type 0
StepComesTo Due early answer old new =
    FailsAtOnce early answer old new
    ⊎ ((due : Outcome) × Due due × StepDoes early due answer old new)

-- a step does what is due for the text of the source
abbrev pub StepOnText : (List ℕ → Outcome) → Result (Unit {0}) Stop → World → World → Type 0
StepOnText of_text answer old new =
    StepComesTo (TextComesTo old.input.told of_text) reading answer old new

-- what a complaint comes to by itself
abbrev pub outcome_of : Complaint → Outcome
outcome_of complaint = refused (status_of complaint) (complaint_text complaint)

-- the answer of a command that makes no file is the whole outcome; the outside fails only where an
-- output is due
abbrev pub AnswersAll : Outcome → Result (Unit {0}) Stop → Type 0
AnswersAll due (Ok _) = due ≡ done due.output
AnswersAll due (Err (stop.Complaint complaint)) = due ≡ outcome_of complaint
AnswersAll due (Err stop.Outside) = due ≡ done due.output
AnswersAll due (Err stop.Memory) = Unit {0}

-- what a step does that only puts to the output; memory may run out after a part of an output that
-- is due
pub record PutDoes (due : Outcome) (answer : Result (Unit {0}) Stop)
    (out new_out : Seen (List ℕ)) : Type 0 where
  pub answers : AnswersAll due answer
  pub output : Outputs answer due.output out new_out
  pub outside : answer ≡ Err stop.Outside → Failed out new_out
  pub kept : IsOk answer → new_out.faults ≡ out.faults
  pub memory : answer ≡ Err stop.Memory → (due ≡ done due.output) ⊎ (new_out.told ≡ out.told)

-- whatever file begins with this front, its text is due, and is put
abbrev pub PutsOfFront
    : Front → (List ℕ → List ℕ) → Result (Unit {0}) Stop → (out new_out : Seen (List ℕ)) → Type 0
PutsOfFront front text answer out new_out =
    (b : List ℕ) → IsFileOf front.bytes front.length b → PutDoes (done (text b)) answer out new_out

-- what a work that doesn't use the source does on the image in the file of a path; the source stays
abbrev pub WorkDoes
    : ImageWork → List ℕ → Result (Unit {0}) Stop → (shelf new_shelf : ShelfSeen)
    → (out new_out : Seen (List ℕ)) → Type 0
WorkDoes work path answer shelf new_shelf out new_out =
    (source : Seen (List ℕ))
    → StepComesTo (WorkComesTo shelf.told source.told path work) reading answer
    (world shelf source out) (world new_shelf source new_out)
