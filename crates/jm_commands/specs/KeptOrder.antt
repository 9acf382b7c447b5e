-- The order of an image that a link of its modules keeps (this project's rule).
use Rattle.std.specs.Prelude.{ℕ, Bool, true, false, List, map}
use Rattle.jm_filed.specs.FileOrder.{file_order}
use Rattle.jm_words.specs.declared.tasks.LinkTask.{LinkTask}
use Rattle.jm_words.specs.declared.tasks.Plugin.{Plugin}
use Rattle.jm_words.specs.declared.tasks.Plugin.TheVariants as plugin

-- a plug-in keeps the order of an image
abbrev pub keeps_order : Plugin → Bool
keeps_order (plugin.KeepOrder names) = true
keeps_order (plugin.Exclude patterns) = false
keeps_order (plugin.Order patterns) = false
keeps_order plugin.Strip = false
keeps_order plugin.Compact = false
keeps_order plugin.Packages = false
keeps_order plugin.DropSystemModules = false

-- a plug-in that keeps the order of an image, with these names; any other one as it is
abbrev pub with_order : List (List ℕ) → Plugin → Plugin
with_order names (plugin.KeepOrder given) = plugin.KeepOrder names
with_order names (plugin.Exclude patterns) = plugin.Exclude patterns
with_order names (plugin.Order patterns) = plugin.Order patterns
with_order names plugin.Strip = plugin.Strip
with_order names plugin.Compact = plugin.Compact
with_order names plugin.Packages = plugin.Packages
with_order names plugin.DropSystemModules = plugin.DropSystemModules

-- what is asked of a link of the modules of an image: each plug-in that keeps its order gets the
-- names of its resources, in the order of their contents
abbrev pub ordered_by : List ℕ → LinkTask → LinkTask
ordered_by b link = record {
  directories = link.directories;
  image = link.image;
  roots = link.roots;
  output = link.output;
  plugins = map (with_order (file_order b)) link.plugins;
  order = link.order;
  bind = link.bind;
  release = link.release;
}
