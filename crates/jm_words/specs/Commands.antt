-- The command that words make (this project's rule).
use Rattle.std.specs.Prelude.{ℕ, List, Option, Some, None, option_map}
use Rattle.std.specs.Prelude.{unwrap_or, if◌then◌else◌}
use Rattle.std.specs.List.{find}
use Rattle.std.specs.Str.{bytes_eq}
use Rattle.jm_bytes.specs.declared.words.Order.TheVariants.{Little}
use Rattle.jm_words.specs.declared.drafts.Draft.{Draft}
use Rattle.jm_words.specs.Givens.{Given}
use Rattle.jm_words.specs.declared.tables.Field.TheVariants as field
use Rattle.jm_words.specs.declared.tables.Verb.{Verb}
use Rattle.jm_words.specs.declared.tables.Verb.TheVariants as verb
use Rattle.jm_words.specs.declared.tasks.Command.{Command}
use Rattle.jm_words.specs.declared.tasks.DecompressTask.{DecompressTask}
use Rattle.jm_words.specs.declared.tasks.GenTask.{GenTask}
use Rattle.jm_words.specs.declared.tasks.ImageWork.{ImageWork}
use Rattle.jm_words.specs.declared.tasks.ImageWork.TheVariants as work
use Rattle.jm_words.specs.declared.tasks.LinkTask.{LinkTask}
use Rattle.jm_words.specs.declared.tasks.Plugin.{Plugin}
use Rattle.jm_words.specs.declared.tasks.Task.{Task}
use Rattle.jm_words.specs.declared.tasks.Task.TheVariants as task
use Rattle.jm_pattern.specs.declared.signs.Sign.{Sign}
use Rattle.jm_words.specs.Drafts.{gives_modules, has, name_in, names_in, number_in, order_in}
use Rattle.jm_words.specs.Drafts.{path_in, paths_in, patterns_in, the}
use Rattle.jm_words.specs.Tables.{verbs, verb_name}

-- what is made of a value that must be there, if it is
abbrev pub needing : {A B : Type 0} → Option A → (A → Option B) → Option B
needing None make = None
needing (Some value) make = make value

-- the release that was given, or else 21
abbrev pub release_of : List Given → ℕ
release_of values = unwrap_or (number_in (the field.Release values)) 21

-- the `link` of what was given, or none where an option isn't there that must be: one of a module
-- path and an image, the roots, and the output
abbrev pub link_of : List Given → List Plugin → Option LinkTask
link_of values plugins =
    if gives_modules values then
    needing (names_in (the field.Roots values)) (λ roots.
    needing (path_in (the field.Output values)) (λ output.
    Some (record {
      directories = paths_in (the field.Directories values);
      image = path_in (the field.FromImage values);
      roots = roots;
      output = output;
      plugins = plugins;
      order = unwrap_or (order_in (the field.Order values)) Little;
      bind = has values field.Bind;
      release = release_of values;
    })))
    else None

-- the `decompress` of what was given, or none where the image or an option isn't there that must be
abbrev pub decompress_of : List Given → Option DecompressTask
decompress_of values =
    needing (path_in (the field.File values)) (λ image.
    needing (path_in (the field.Output values)) (λ output.
    Some (record { image = image; output = output })))

-- the `gen` of what was given, or none where something isn't there that must be
abbrev pub gen_of : List Given → Option GenTask
gen_of values =
    needing (number_in (the field.Modules values)) (λ modules.
    needing (number_in (the field.Classes values)) (λ classes.
    needing (number_in (the field.Seed values)) (λ seed.
    needing (path_in (the field.Folder values)) (λ dir.
    Some (record { dir = dir; modules = modules; classes = classes; seed = seed })))))

-- the work on an image, or none where the image wasn't given
abbrev pub on_image : List Given → ImageWork → Option Task
on_image values work =
    needing (path_in (the field.File values)) (λ image. Some (task.Image image work))

-- the patterns of what is taken, if some were given
abbrev pub included : List Given → Option (List (List Sign))
included values = patterns_in (the field.Include values)

-- the task of what was given, or none where an argument or an option isn't there that must be
abbrev pub task_of : Verb → Draft → Option Task
task_of verb.Link draft =
    needing (link_of draft.values draft.plugins) (λ link. Some (task.Link link))
task_of verb.Cat draft =
    needing (name_in (the field.Name draft.values)) (λ name.
    on_image draft.values (work.Cat name))
task_of verb.List draft =
    on_image draft.values (work.List (included draft.values) (has draft.values field.Digests))
task_of verb.Ls draft =
    needing (name_in (the field.Name draft.values)) (λ path.
    on_image draft.values (work.Ls path))
task_of verb.Info draft = on_image draft.values work.Info
task_of verb.Extract draft =
    needing (path_in (the field.Folder draft.values)) (λ dir.
    on_image draft.values (work.Extract dir (included draft.values)))
task_of verb.Verify draft = on_image draft.values (work.Verify (has draft.values field.Nodes))
task_of verb.Serve draft = on_image draft.values work.Serve
task_of verb.Decompress draft =
    needing (decompress_of draft.values) (λ decompress. Some (task.Decompress decompress))
task_of verb.Gen draft = needing (gen_of draft.values) (λ gen. Some (task.Gen gen))
task_of verb.Describe draft =
    needing (path_in (the field.File draft.values)) (λ file.
    Some (task.Describe file (release_of draft.values)))
task_of verb.Help draft = Some task.Help
task_of verb.Version draft = Some task.Version

-- the number of jobs that was given, or else one
abbrev pub jobs_of : List Given → ℕ
jobs_of values = unwrap_or (number_in (the field.Jobs values)) 1

-- the task of what was given, for the number of jobs
abbrev pub command_of : Verb → Draft → Option Command
command_of verb draft =
    option_map (λ task. record { jobs = jobs_of draft.values; task = task }) (task_of verb draft)

-- the command of a name
abbrev pub verb_named : List ℕ → Option Verb
verb_named name = find (λ verb. bytes_eq (verb_name verb) name) verbs
