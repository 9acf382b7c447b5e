-- What a run did to the outside, said by what its command comes to (this project's rule).
use Rattle.std.specs.Prelude.{ℕ, ◌≡◌, ◌≢◌, ◌⊎◌, IsTrue, List, [], Option, Some, None, option_map}
use Rattle.std.specs.Prelude.{Result, Ok, Err}
use Rattle.jm_outside.specs.Made.{MadePart, written}
use Rattle.jm_jrt.specs.TreesShown.{ShowsTrees}
use Rattle.jm_texts.specs.declared.refusal.Refusal.{Refusal}
use Rattle.jm_decompress.specs.Decompressed.{DecompressComes}
use Rattle.jm_link.specs.declared.linking.Summary.{Summary}
use Rattle.jm_link.specs.Linked.{LinkedImage}
use Rattle.jm_link.specs.Links.{ComesTo, request_of}
use Rattle.jm_modpath.specs.Listed.{IsBelow}
use Rattle.jm_outside.specs.Files.{Files}
use Rattle.jm_outside.specs.Outcome.{Shows}
use Rattle.jm_words.specs.declared.errors.WordsFault.{WordsFault}
use Rattle.jm_words.specs.declared.tasks.Command.{Command}
use Rattle.jm_words.specs.declared.tasks.DecompressTask.{DecompressTask}
use Rattle.jm_words.specs.declared.tasks.GenTask.{GenTask}
use Rattle.jm_words.specs.declared.tasks.LinkTask.{LinkTask}
use Rattle.jm_words.specs.declared.tasks.Task.{Task}
use Rattle.jm_words.specs.declared.tasks.Task.TheVariants as task
use Rattle.jm_inspect.specs.declared.complaint.Complaint.{Complaint}
use Rattle.jm_inspect.specs.declared.status.Status.{Status}
use Rattle.jm_inspect.specs.declared.status.Status.TheVariants as status
use Rattle.jm_inspect.specs.declared.stop.Stop.{Stop}
use Rattle.jm_inspect.specs.declared.stop.Stop.TheVariants as stop
use Rattle.jm_inspect.specs.FailedBefore.{FailedBefore, FilesFailed}
use Rattle.jm_commands.specs.Gen.{gen_link, made_first}
use Rattle.jm_commands.specs.HelpText.{help_text, version_text}
use Rattle.jm_commands.specs.KeptOrder.{ordered_by}
use Rattle.jm_commands.specs.LinkText.{decompress_text, gen_text, link_text}
use Rattle.jm_inspect.specs.Outcome.{Early, Outcome, describe_outcome, done, faulty, not_there}
use Rattle.jm_commands.specs.Outcome.{behind, link_outcome}
use Rattle.jm_inspect.specs.SessionHeld.{EndsAs, SourceRead}
use Rattle.jm_inspect.specs.Sinks.{Seen, Failed, Gets, GetsFront}
use Rattle.jm_inspect.specs.Steps.{FilesFirst, StandAll, status_of}
use Rattle.jm_inspect.specs.Texts.{line_of}
use Rattle.jm_inspect.specs.Works.{FileComesTo, ImageComes, StoredComes, WorkComesTo}
use Rattle.jm_inspect.specs.World.{NoneRose, World}

-- What the words come to

-- at every path of an image's trees stands what the trees of its resources have there, and nothing
-- else; of a refusal, nothing
abbrev pub ShowsLinked : Result LinkedImage Refusal → Type 0
ShowsLinked (Ok image) = ShowsTrees image.bytes image.resources
ShowsLinked (Err refusal) = Unit {0}

-- a link of the modules of an image of these bytes, if there is one, and of a module path comes to
-- what these do; a shelf that tells nothing may say of a file that it listed below a directory of
-- the module path that it isn't there. Told or not, an image is laid out and shows its trees
abbrev pub LinkComesOf
    : (Summary → List ℕ) → Option Files → Option (List ℕ) → LinkTask → Outcome → Type 0
LinkComesOf text told image link due =
    ((result : Result LinkedImage Refusal)
    × ComesTo told image link.directories (request_of link) result
    × ShowsLinked result × (due ≡ link_outcome text link.output result))
    ⊎ ((listed : List ℕ) × Shows told (λ files. ⊥) × IsBelow link.directories listed
    × (due ≡ not_there listed))

-- the same with an image without a damage; its plug-ins know the order of that image
abbrev pub LinkComesWith
    : (Summary → List ℕ) → Option Files → LinkTask → List ℕ → Outcome → Type 0
LinkComesWith text told link b due = LinkComesOf text told (Some b) (ordered_by b link) due

-- what a link comes to, by the path of its image, if it has one: the file of the path first
abbrev pub LinkComesBy
    : (Summary → List ℕ) → Option Files → LinkTask → Option (List ℕ) → Outcome → Type 0
LinkComesBy text told link None due = LinkComesOf text told None link due
LinkComesBy text told link (Some path) due =
    ImageComes told path (LinkComesWith text told link) due

-- what a link comes to, by the text on what was linked and by the files
abbrev pub LinkComesTo : (Summary → List ℕ) → Option Files → LinkTask → Outcome → Type 0
LinkComesTo text told link due = LinkComesBy text told link link.image due

-- a `decompress` of an image without a damage, read as stored: the image of its resources as
-- `DecompressComes` says, laid out and showing its trees, or what is refused
abbrev pub DecompressComesTo : DecompressTask → List ℕ → Outcome → Type 0
DecompressComesTo decompress b due =
    (result : Result LinkedImage Refusal) × DecompressComes b result × ShowsLinked result
    × (due ≡ link_outcome decompress_text decompress.output result)

-- a `gen` comes to what its link does, where the files that it makes first are there
abbrev pub GenComesTo : Option Files → GenTask → Outcome → Type 0
GenComesTo told gen due =
    (linked : Outcome)
    × LinkComesTo gen_text (option_map (λ files. written files (made_first gen)) told)
    (gen_link gen) linked
    × (due ≡ behind (made_first gen) linked)

-- what a task comes to, by the told files and the told text of the source
abbrev pub TaskComesTo : Option Files → Option (List ℕ) → Task → Outcome → Type 0
TaskComesTo told rest (task.Link link) due = LinkComesTo link_text told link due
TaskComesTo told rest (task.Image image work) due = WorkComesTo told rest image work due
TaskComesTo told rest (task.Decompress decompress) due =
    StoredComes told decompress.image (DecompressComesTo decompress) due
TaskComesTo told rest (task.Gen gen) due = GenComesTo told gen due
TaskComesTo told rest (task.Describe file release) due =
    FileComesTo told file (λ b described. described ≡ describe_outcome release file b) due
TaskComesTo told rest task.Help due = due ≡ done help_text
TaskComesTo told rest task.Version due = due ≡ done version_text

-- what all words come to: the task of their command, for any number of jobs, or their first fault
abbrev pub WordsComeTo
    : Option Files → Option (List ℕ) → Result Command WordsFault → Outcome → Type 0
WordsComeTo told rest (Ok command) due = TaskComesTo told rest command.task due
WordsComeTo told rest (Err fault) due = due ≡ faulty fault

-- words ask for the same: one task, by any numbers of jobs, or the same fault is theirs
abbrev pub AskTheSame : (asked same : Result Command WordsFault) → Type 0
AskTheSame (Ok command) (Ok other) = command.task ≡ other.task
AskTheSame (Err fault) (Err other) = fault ≡ other
AskTheSame (Ok command) (Err fault) = ⊥
AskTheSame (Err fault) (Ok command) = ⊥

-- A run

-- the report of a complaint: its line with its status, and else a front of it
abbrev pub ReportDoes : Complaint → Status → Seen (List ℕ) → Seen (List ℕ) → Type 0
ReportDoes complaint status.Outside err new_err =
    GetsFront (line_of complaint) err new_err × Failed err new_err
ReportDoes complaint status.Memory err new_err = GetsFront (line_of complaint) err new_err
ReportDoes complaint is err new_err =
    (is ≡ status_of complaint) × Gets (line_of complaint) err new_err

-- how a run ends by what its step answered: a complaint is reported, and else nothing is put to the
-- error sink
abbrev pub EndsStep : Result (Unit {0}) Stop → Status → Seen (List ℕ) → Seen (List ℕ) → Type 0
EndsStep (Ok _) is err new_err = (is ≡ status.Done) × (new_err ≡ err)
EndsStep (Err (stop.Complaint complaint)) is err new_err = ReportDoes complaint is err new_err
EndsStep (Err stop.Outside) is err new_err = (is ≡ status.Outside) × (new_err ≡ err)
EndsStep (Err stop.Memory) is err new_err = (is ≡ status.Memory) × (new_err ≡ err)

-- all was done: the sinks got their texts, and the files were made and stand; with `Done` making
-- them was ended
pub record DoesAll (due : Outcome) (old new : World) (err new_err : Seen (List ℕ)) : Type 0 where
  pub output : Gets due.output old.out new.out
  pub line : Gets due.line err new_err
  pub files : StandAll due.writes old.shelf new.shelf
  pub durable : due.status ≡ status.Done → due.writes ≢ [] → IsTrue new.shelf.durable

-- a front of all was done: some files, or all of them and a front of the output
pub record DoesFront (due : Outcome) (old new : World) (err new_err : Seen (List ℕ)) : Type 0 where
  pub output : GetsFront due.output old.out new.out
  pub line : GetsFront due.line err new_err
  pub files : MadePart due.writes old.shelf.told new.shelf.told
  pub files_first : FilesFirst due.writes old new

-- with the outcome's status all was done; else a front was done, and the status is `Outside`, where
-- an object failed that the work reaches no later, or `Memory`
abbrev pub EndsWith : Early → Outcome → Status → World → World → Seen (List ℕ) → Seen (List ℕ)
    → Type 0
EndsWith early due status.Outside old new err new_err =
    DoesFront due old new err new_err × FailedBefore early due old new err new_err
EndsWith early due status.Memory old new err new_err = DoesFront due old new err new_err
EndsWith early due is old new err new_err =
    (is ≡ due.status) × DoesAll due old new err new_err

-- the status of a failure
abbrev pub IsFailed : Status → Type 0
IsFailed is = (is ≡ status.Outside) ⊎ (is ≡ status.Memory)

-- what a whole run does, where this is what the words come to; with `Done` no call failed
pub record RunDoes (early : Early) (due : Outcome) (is : Status) (old new : World)
    (err new_err : Seen (List ℕ)) : Type 0 where
  pub ends : EndsWith early due is old new err new_err
  pub source : SourceRead due.session (EndsAs is err new_err) old new
  pub none_rose : is ≡ status.Done → NoneRose old new × (new_err.faults ≡ err.faults)

-- a run failed before it was known what the words come to: with nothing put and nothing read from
-- the source, and of these files some made
pub record RunStops (early : Early) (is : Status) (old new : World) (err new_err : Seen (List ℕ))
    : Type 0 where
  pub failed : IsFailed is
  pub files : MadePart early.writes old.shelf.told new.shelf.told
  pub source : new.input.told ≡ old.input.told
  pub output : new.out.told ≡ old.out.told
  pub line : new_err.told ≡ err.told
  pub outside : is ≡ status.Outside → FilesFailed early old new

-- a run does what is due, or fails at once, whatever would have been due
abbrev pub RunComesTo : (Outcome → Type 0) → Early → Status → World → World
    → Seen (List ℕ) → Seen (List ℕ) → Type 0
RunComesTo Due early is old new err new_err =
    RunStops early is old new err new_err
    ⊎ ((due : Outcome) × Due due × RunDoes early due is old new err new_err)
