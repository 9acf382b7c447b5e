-- What a run does that relinks an image (this project's rule).
use Rattle.std.specs.Prelude.{ℕ, ◌≡◌, List, [], Option, Some, Result, Ok, Err}
use Rattle.jm_outside.specs.Holds.{Holds}
use Rattle.jm_link.specs.Links.{request_of}
use Rattle.jm_link.specs.Relinked.{Relinks}
use Rattle.jm_outside.specs.Files.{Files, file}
use Rattle.jm_words.specs.declared.errors.WordsFault.{WordsFault}
use Rattle.jm_words.specs.declared.tasks.Command.{Command}
use Rattle.jm_words.specs.declared.tasks.LinkTask.{LinkTask}
use Rattle.jm_words.specs.declared.tasks.Task.{Task}
use Rattle.jm_words.specs.declared.tasks.Task.TheVariants as task
use Rattle.jm_inspect.specs.declared.status.Status.{Status}
use Rattle.jm_inspect.specs.declared.status.Status.TheVariants as status

-- the image that is linked alone is these bytes, where the files are told, and what is asked for
-- relinks it
pub record RelinksFile (link : LinkTask) (told : Option Files) (b : List ℕ) : Type 0 where
  pub path : List ℕ
  pub image : link.image ≡ Some path
  pub alone : link.directories ≡ []
  pub files : Files
  pub tells : told ≡ Some files
  pub found : file files path ≡ Some b
  pub relinks : Relinks b (request_of link)

-- by the status: the output is these bytes, and all other files are as before; it is no refusal
abbrev pub IsRelinked : List ℕ → List ℕ → Status → (old new : Option Files) → Type 0
IsRelinked output b status.Done old new = Holds old output b new
IsRelinked output b status.Outside old new = Unit {0}
IsRelinked output b status.Memory old new = Unit {0}
IsRelinked output b is old new = ⊥

-- a task that relinks an image gives it back; of another task, nothing
abbrev pub RelinksTask : Task → Status → (old new : Option Files) → Type 0
RelinksTask (task.Link link) is old new =
    (b : List ℕ) → RelinksFile link old b → IsRelinked link.output b is old new
RelinksTask _ is old new = Unit {0}

-- the same of what words ask for
abbrev pub RelinksRun : Result Command WordsFault → Status → (old new : Option Files) → Type 0
RelinksRun (Ok command) is old new = RelinksTask command.task is old new
RelinksRun (Err fault) is old new = Unit {0}
