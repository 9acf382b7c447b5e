-- What a run of `serve` does with the source and the output (this project's rule).
use Rattle.std.specs.Prelude.{ℕ, ◌≡◌, ◌⊎◌, List, Option, Some, None, Result, Ok, Err}
use Rattle.jm_form.specs.Damages.{first_damage}
use Rattle.jm_words.specs.declared.errors.WordsFault.{WordsFault}
use Rattle.jm_words.specs.declared.tasks.Command.{Command}
use Rattle.jm_words.specs.declared.tasks.ImageWork.TheVariants as work
use Rattle.jm_words.specs.declared.tasks.Task.{Task}
use Rattle.jm_words.specs.declared.tasks.Task.TheVariants as task
use Rattle.jm_inspect.specs.declared.status.Status.{Status}
use Rattle.jm_inspect.specs.Works.{HasFile}
use Rattle.jm_inspect.specs.SessionHeld.{EndsAs, Held, NotBegun}
use Rattle.jm_inspect.specs.Sinks.{Seen}
use Rattle.jm_inspect.specs.World.{World}

-- the image of a `serve`, if a task is one
abbrev pub served : Task → Option (List ℕ)
served (task.Image image work.Serve) = Some image
served _ = None

-- the image of a `serve`, if words ask for one
abbrev pub served_in : Result Command WordsFault → Option (List ℕ)
served_in (Ok command) = served command.task
served_in (Err fault) = None

-- a `serve` of an image: no session began, or its file has no damage, and a session over its bytes
-- was held that ended with this status; all else leaves the source alone
abbrev pub ServesRun : Option (List ℕ) → Status → World → World → Seen (List ℕ) → Seen (List ℕ)
    → Type 0
ServesRun None is old new err new_err = new.input.told ≡ old.input.told
ServesRun (Some image) is old new err new_err =
    NotBegun old new
    ⊎ ((b : List ℕ) × HasFile old.shelf.told image (Some b)
    × (first_damage b ≡ None) × Held b (EndsAs is err new_err) old new)
