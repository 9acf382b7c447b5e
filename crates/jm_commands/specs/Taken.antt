-- How many bytes of files a run takes from the shelf (this project's rule).
use Rattle.std.specs.Prelude.{ℕ, ◌+◌, ◌≡◌, ◌≤◌, List, length, Option, Some, None}
use Rattle.std.specs.Prelude.{option_map, Result, Ok, Err}
use Rattle.jm_form.specs.declared.damage.Damage.{Damage}
use Rattle.jm_decompress.specs.Decompressed.{stored_sizes}
use Rattle.jm_form.specs.Damages.{first_damage, stored_damage}
use Rattle.jm_link.specs.Links.{request_of}
use Rattle.jm_link.specs.Taken as taken
use Rattle.jm_outside.specs.Files.{Files}
use Rattle.jm_outside.specs.Made.{written}
use Rattle.jm_words.specs.declared.errors.WordsFault.{WordsFault}
use Rattle.jm_words.specs.declared.tasks.Command.{Command}
use Rattle.jm_words.specs.declared.tasks.GenTask.{GenTask}
use Rattle.jm_words.specs.declared.tasks.LinkTask.{LinkTask}
use Rattle.jm_words.specs.declared.tasks.Task.{Task}
use Rattle.jm_words.specs.declared.tasks.Task.TheVariants as task
use Rattle.jm_commands.specs.Gen.{gen_link, made_first}
use Rattle.jm_inspect.specs.Taken.{TakesBy, TakesFrom, WorkTakes, front_size, opened_size_by}

-- what a link takes with an image, by its first damage: the front, and without a damage what is
-- said of the link of its modules and of those of the module path besides
abbrev pub TakesOpened : Option Damage → Option Files → LinkTask → List ℕ → (old new : ℕ) → Type 0
TakesOpened None told task b old new =
    taken.LinkTakes told (Some b) task.directories (request_of task) (old + front_size b) new
TakesOpened (Some damage) told task b old new = new ≤ old + front_size b

-- what a link takes, by the path of its image, if it has one
abbrev pub LinkTakesBy : Option Files → LinkTask → Option (List ℕ) → (old new : ℕ) → Type 0
LinkTakesBy told task None old new =
    taken.LinkTakes told None task.directories (request_of task) old new
LinkTakesBy told task (Some path) old new =
    TakesBy told path (λ b. TakesOpened (first_damage b) told task b) old new

-- what a link takes
abbrev pub LinkTakes : Option Files → LinkTask → (old new : ℕ) → Type 0
LinkTakes told task old new = LinkTakesBy told task task.image old new

-- how many bytes a `decompress` takes of its image: the front, and of one without a damage, read as
-- stored, the bytes of its resources as they are stored besides
abbrev pub decompress_size : List ℕ → ℕ
decompress_size b = opened_size_by stored_damage stored_sizes b

-- what a `gen` takes: nothing while it makes its files, and then what its link does, of the files
-- with these
abbrev pub GenTakes : Option Files → GenTask → (old new : ℕ) → Type 0
GenTakes told gen old new =
    LinkTakes (option_map (λ files. written files (made_first gen)) told) (gen_link gen) old new

-- what a task takes: such a work, link, `decompress` or `gen` as said, `describe` the file at its
-- path once, `--help` and `--version` nothing
abbrev pub TaskTakes : Option Files → Task → (old new : ℕ) → Type 0
TaskTakes told (task.Image image work) old new = WorkTakes told image work old new
TaskTakes told (task.Link link) old new = LinkTakes told link old new
TaskTakes told (task.Decompress decompress) old new =
    TakesFrom told decompress.image decompress_size old new
TaskTakes told (task.Gen gen) old new = GenTakes told gen old new
TaskTakes told (task.Describe file release) old new = TakesFrom told file (λ b. length b) old new
TaskTakes told task.Help old new = new ≡ old
TaskTakes told task.Version old new = new ≡ old

-- what a run of all words takes: their command as its task does, faulty words nothing
abbrev pub TakesNoMore : Option Files → Result Command WordsFault → (old new : ℕ) → Type 0
TakesNoMore told (Ok command) old new = TaskTakes told command.task old new
TakesNoMore told (Err fault) old new = new ≡ old
