-- What a run takes of files.
use Rattle.std.proofs.Common.{◌≡◌, ℕ, List, Option, Some, None, option_map, Result, Ok, Err, length, refl, subst, arith}
use Rattle.jm_link.specs.Links.{request_of}
use Rattle.jm_outside.specs.Files.{Files}
use Rattle.jm_outside.specs.Made.{MadeAll, written}
use Rattle.jm_words.specs.declared.errors.WordsFault.{WordsFault}
use Rattle.jm_words.specs.declared.tasks.Command.{Command}
use Rattle.jm_words.specs.declared.tasks.GenTask.{GenTask}
use Rattle.jm_words.specs.declared.tasks.LinkTask.{LinkTask}
use Rattle.jm_words.specs.declared.tasks.Task.{Task}
use Rattle.jm_words.specs.declared.tasks.Task.TheVariants as task
use Rattle.jm_commands.specs.Gen.{gen_link, made_first}
use Rattle.jm_commands.specs.Taken.{GenTakes, LinkTakes, LinkTakesBy, TakesNoMore, TaskTakes, decompress_size}
use Rattle.jm_inspect.specs.Taken.{front_size}
use Rattle.jm_inspect.proofs.FrontLaws.{takes_nothing, work_takes_nothing}
use Rattle.jm_commands.proofs.LinkLaws.{takes_link_front, takes_little}

-- a `gen`, whose link takes of the files with those that were made
pub gen_takes : (gen : GenTask) (told now : Option Files) (old before new : ℕ) → MadeAll (made_first gen) told now → before ≡ old
    → LinkTakes now (gen_link gen) before new → GenTakes told gen old new
gen_takes gen told now old before new made same takes =
    let of = subst (λ (t : Option Files). LinkTakes t (gen_link gen) before new) made takes in
    subst (λ (n : ℕ). GenTakes told gen n new) same of

-- Nothing

pub link_takes_nothing : (told : Option Files) (link : LinkTask) (n : ℕ) → LinkTakes told link n n
link_takes_nothing told link n = go link.image
  where
    go : (path : Option (List ℕ)) → LinkTakesBy told link path n n
    go None = takes_little told None link.directories (request_of link) n n (omega arith)
    go (Some path) = takes_link_front told path link n n (takes_nothing told path front_size n)

task_takes_nothing : (told : Option Files) (given : Task) (n : ℕ) → TaskTakes told given n n
task_takes_nothing told (task.Image image does) n = work_takes_nothing told image does n
task_takes_nothing told (task.Link link) n = link_takes_nothing told link n
task_takes_nothing told (task.Decompress decompress) n = takes_nothing told decompress.image decompress_size n
task_takes_nothing told (task.Gen gen) n =
    link_takes_nothing (option_map (λ files. written files (made_first gen)) told) (gen_link gen) n
task_takes_nothing told (task.Describe file release) n = takes_nothing told file (λ b. length b) n
task_takes_nothing told task.Help n = refl
task_takes_nothing told task.Version n = refl

-- words that weren't read to a command take nothing
pub words_take_nothing : (told : Option Files) (asked : Result Command WordsFault) (n : ℕ) → TakesNoMore told asked n n
words_take_nothing told (Ok command) n = task_takes_nothing told command.task n
words_take_nothing told (Err fault) n = refl

-- words that were read to a command take what its task does
pub words_take : (told : Option Files) (asked : Result Command WordsFault) (given : Command) (old new : ℕ)
    → Ok given ≡ asked → TaskTakes told given.task old new → TakesNoMore told asked old new
words_take told asked given old new read takes = subst (λ (a : Result Command WordsFault). TakesNoMore told a old new) read takes
