-- The files that a `gen` makes first, and the link of them (this project's rule).
use Rattle.std.specs.Prelude.{ℕ, List, [], ◌∷◌, ◌++◌, false, None, codes}
use Rattle.jm_bytes.specs.declared.words.Order.TheVariants.{Little}
use Rattle.jm_outside.specs.Made.{Writes}
use Rattle.jm_gen.specs.Generated.{generated, module_names}
use Rattle.jm_words.specs.declared.tasks.GenTask.{GenTask}
use Rattle.jm_words.specs.declared.tasks.LinkTask.{LinkTask}
use Rattle.jm_words.specs.declared.tasks.Plugin.TheVariants as plugin

-- where the modules of a `gen` go
abbrev pub modules_path : GenTask → List ℕ
modules_path gen = gen.dir ++ codes "/mods"

-- where the image of a `gen` goes
abbrev pub image_path : GenTask → List ℕ
image_path gen = gen.dir ++ codes "/image"

-- the files that a `gen` makes first
abbrev pub made_first : GenTask → Writes
made_first gen = generated (modules_path gen) gen.modules gen.classes gen.seed

-- the link of a `gen`: all modules that it makes, without what their classes say for debuggers
abbrev pub gen_link : GenTask → LinkTask
gen_link gen = record {
  directories = modules_path gen ∷ [];
  image = None;
  roots = module_names gen.modules;
  output = image_path gen;
  plugins = plugin.Strip ∷ [];
  order = Little;
  bind = false;
  release = 21;
}
