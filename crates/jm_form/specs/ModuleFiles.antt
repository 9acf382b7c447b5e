-- Files of a module: the one that makes it a module, and those that are classes in a package (JEP
-- 220; that no package begins with `META-INF` is this project's rule).
use Rattle.std.specs.Prelude.{if◌then◌else◌, ℕ, List, Option, Some, None, option_map, codes, not}
use Rattle.std.specs.Prelude.{◌&&◌, nat_eq}
use Rattle.std.specs.List.{before_last, ends_with, list_any}
use Rattle.jm_names.specs.Names.{dotted, is_empty, is_slash}
use Rattle.jm_form.specs.Trees.{is_meta, path_of}

-- the name of the file that makes a folder a module: `module-info.class`
abbrev pub info_name : List ℕ
info_name = codes "module-info.class"

-- the folder of a path within a module that is that of a class in a package
abbrev pub class_folder : List ℕ → Option (List ℕ)
class_folder path =
    if ends_with nat_eq path (codes ".class") && list_any is_slash path
    && not (is_empty (before_last is_slash path)) && not (is_meta (before_last is_slash path))
    then Some (before_last is_slash path)
    else None

-- the package of a path that is that of a class in one
abbrev pub class_package : List ℕ → Option (List ℕ)
class_package path = option_map dotted (class_folder path)

-- the same by the name of the resource
abbrev pub named_package : List ℕ → Option (List ℕ)
named_package name = class_package (path_of name)
