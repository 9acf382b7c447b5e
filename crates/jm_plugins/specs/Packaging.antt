-- The packages of modules among resources, and the descriptors that are to list them (JVMS 4.7.26
-- has the list; which folders are packages is this project's rule).
use Rattle.std.specs.Prelude.{ℕ, nat_eq, List, ◌∷◌, ◌++◌, Bool, ◌&&◌, Option, Some, None}
use Rattle.std.specs.Prelude.{option_map, filter, codes, if◌then◌else◌}
use Rattle.std.specs.List.{before_last, filter_map, list_any, starts_with}
use Rattle.std.specs.Str.{bytes_eq}
use Rattle.jm_class.specs.Classes.{ClassData}
use Rattle.jm_form.specs.Rising.{rising}
use Rattle.jm_form.specs.Trees.{module_of, path_of}
use Rattle.jm_modpath.specs.Finding.{names_within}
use Rattle.jm_names.specs.Names.{dotted, is_slash}
use Rattle.jm_packages.specs.PackageNames.{is_package_name}
use Rattle.jm_packages.specs.Packages.{listed, packages_text}

-- the folder of a resource `/m/p` within its module: what of p stands before its last slash, if it
-- has one
abbrev pub folder_of : List ℕ → Option (List ℕ)
folder_of name =
    if starts_with nat_eq name (codes "/") && list_any is_slash (path_of name)
    then Some (before_last is_slash (path_of name))
    else None

-- the same with dots, as a package is called
abbrev pub dotted_folder : List ℕ → Option (List ℕ)
dotted_folder name = option_map dotted (folder_of name)

-- the folders of a module among the names of resources, where they are names of packages
abbrev pub package_folders : List (List ℕ) → List ℕ → List (List ℕ)
package_folders names «module» =
    filter is_package_name
    (filter_map dotted_folder (filter (λ name. bytes_eq (module_of name) «module») names))

-- the packages of a module among the names of resources, by the class of its descriptor: those
-- folders and what the class names, rising, with slashes
abbrev pub packages_of : List (List ℕ) → List ℕ → ClassData → List (List ℕ)
packages_of names «module» = listed (package_folders names «module»)

-- the name is that of a module's descriptor, `/m/module-info.class`, where m has no slash: it
-- begins with a slash, and its path within its module is `module-info.class`
abbrev pub is_descriptor : List ℕ → Bool
is_descriptor name =
    starts_with nat_eq name (codes "/") && bytes_eq (path_of name) (codes "module-info.class")

-- the text of a descriptor's class that lists the packages of its module among some names; the
-- class stays where it takes no list, as where a package has more than 65,535 bytes
abbrev pub listing_text : List (List ℕ) → List ℕ → ClassData → List ℕ
listing_text names name class = packages_text (packages_of names (module_of name) class) class

-- The same, computed: the module and the folder of each resource, rising, of which those of a
-- module lie side by side

-- the module of a resource, a slash and its folder with dots, if it has one
abbrev pub folder_key : List ℕ → Option (List ℕ)
folder_key name = option_map (λ folder. module_of name ++ 47 ∷ folder) (dotted_folder name)

-- those of all names, rising
abbrev pub folder_keys : List (List ℕ) → List (List ℕ)
folder_keys names = rising (filter_map folder_key names)

-- the folders of a module that are packages, by those of all names
abbrev pub folders_by : List (List ℕ) → List ℕ → List (List ℕ)
folders_by keys «module» = filter is_package_name (names_within «module» keys)

-- the packages of a module by those of all names
abbrev pub packages_by : List (List ℕ) → List ℕ → ClassData → List (List ℕ)
packages_by keys «module» = listed (folders_by keys «module»)
