-- The two trees of an image, from the names of its resources alone (JEP 220): the folders of
-- modules below `/modules`, and packages with their owners below `/packages`. What a package is,
-- and the order of all that is listed, is this project's rule.
use Rattle.std.specs.Prelude.{ℕ, ◌≡◌, nat_eq, nat_lt, Bool, false, ◌&&◌, not, List, ◌∷◌}
use Rattle.std.specs.Prelude.{◌++◌}
use Rattle.std.specs.Prelude.{length, take, drop, map, filter, reverse, All, codes, if◌then◌else◌}
use Rattle.std.specs.Prelude.{Option, None, slice_get, slice_index_or}
use Rattle.std.specs.List.{after_first, before_first, before_last, flat_map}
use Rattle.std.specs.List.{ends_with, list_any, range_with_len, starts_with}
use Rattle.std.specs.Str.{bytes_eq}
use Rattle.jm_names.specs.Names.{dotted, is_node, is_slash}
use Rattle.jm_names.specs.NameFaults.{IsSound}
use Rattle.jm_form.specs.declared.trees.Holds.{Holds}
use Rattle.jm_form.specs.declared.trees.Holds.TheVariants.{Children, Owners}
use Rattle.jm_form.specs.declared.trees.Owner.{Owner}
use Rattle.jm_form.specs.declared.trees.TreeNode.{TreeNode}
use Rattle.jm_form.specs.Rising.{rising}

-- Resources: the module and the path of the name `/module/path`

-- the module of a resource: what stands between the first slash and the next one
abbrev pub module_of : List ℕ → List ℕ
module_of name = before_first is_slash (drop 1 name)

-- the path of a resource within its module: what stands behind the second slash
abbrev pub path_of : List ℕ → List ℕ
path_of name = after_first is_slash (drop 1 name)

-- the modules that have a resource, rising
abbrev pub modules : List (List ℕ) → List (List ℕ)
modules names = rising (map module_of names)

-- Folders

-- a folder of a module, by its path within the module
pub record ModuleFolder : Type 0 where
  pub «module» : List ℕ
  pub path : List ℕ

-- the fronts of a path, of at least one byte, behind which a slash stands
abbrev pub fronts : List ℕ → List (List ℕ)
fronts path =
    map (λ at. take at path)
    (filter (λ at. nat_lt 0 at && is_slash (slice_index_or path at 0))
    (range_with_len 0 (length path)))

-- the folders in which a resource stands, the outer ones first
abbrev pub folders_of : List ℕ → List ModuleFolder
folders_of name =
    map (λ front. record { «module» = module_of name; path = front }) (fronts (path_of name))

-- all folders; one that has more resources is named again
abbrev pub folders : List (List ℕ) → List ModuleFolder
folders names = flat_map folders_of names

-- the resource stands in the folder itself and in no folder below it
abbrev pub stands_in : List ℕ → ModuleFolder → Bool
stands_in name folder =
    bytes_eq folder.module (module_of name)
    && list_any is_slash (path_of name)
    && bytes_eq folder.path (before_last is_slash (path_of name))

-- the name that a resource would have in the folder's place: `/`, the module, `/`, the path
abbrev pub folder_name : ModuleFolder → List ℕ
folder_name folder = 47 ∷ folder.module ++ 47 ∷ folder.path

-- the name is that of another's folder
abbrev pub is_folder : List (List ℕ) → List ℕ → Bool
is_folder names name = list_any (λ folder. bytes_eq name (folder_name folder)) (folders names)

-- the least name that is that of another's folder, or none
abbrev pub first_clash : List (List ℕ) → Option (List ℕ)
first_clash names = slice_get (rising (filter (is_folder names) names)) 0

-- names of which trees can be made: each passes the check of names, none is that of a node, and
-- none is that of another's folder
pub record IsPlain (names : List (List ℕ)) : Type 0 where
  pub sound : All IsSound names
  pub resources : All (λ name. is_node name ≡ false) names
  pub apart : first_clash names ≡ None

-- Packages

-- a path begins with `META-INF`: it makes no package
abbrev pub is_meta : List ℕ → Bool
is_meta path = starts_with nat_eq path (codes "META-INF")

-- the folders that are packages
abbrev pub package_folders : List (List ℕ) → List ModuleFolder
package_folders names = filter (λ folder. not (is_meta folder.path)) (folders names)

-- a folder as a package is called
abbrev pub package_of : ModuleFolder → List ℕ
package_of folder = dotted folder.path

-- the packages of all modules, rising
abbrev pub packages : List (List ℕ) → List (List ℕ)
packages names = rising (map package_of (package_folders names))

-- the folders that have a package's name
abbrev pub folders_called : List (List ℕ) → List ℕ → List ModuleFolder
folders_called names called =
    filter (λ folder. bytes_eq called (package_of folder)) (package_folders names)

-- none of the module's folders of that name has a resource in itself
abbrev pub is_empty_in : List (List ℕ) → List ℕ → List ℕ → Bool
is_empty_in names called «module» =
    not (list_any
    (λ folder. bytes_eq «module» folder.module && list_any (λ name. stands_in name folder) names)
    (folders_called names called))

-- the modules that have a package, rising, each with whether it is empty there
abbrev pub owners : List (List ℕ) → List ℕ → List Owner
owners names called =
    map (λ «module». record { empty = is_empty_in names called «module»; «module» = «module» })
    (rising (map (λ folder. folder.module) (folders_called names called)))

-- the packages that have a class in themselves, rising; for the names of one module
abbrev pub class_packages : List (List ℕ) → List (List ℕ)
class_packages names =
    rising (map package_of
    (filter
    (λ folder. list_any
    (λ name. stands_in name folder && ends_with nat_eq name (codes ".class")) names)
    (package_folders names)))

-- Nodes

-- the name of a module's node
abbrev pub module_node : List ℕ → List ℕ
module_node «module» = codes "/modules/" ++ «module»

-- the name of a folder's node
abbrev pub folder_node : ModuleFolder → List ℕ
folder_node folder = codes "/modules" ++ folder_name folder

-- the name of a package's node
abbrev pub package_node : List ℕ → List ℕ
package_node called = codes "/packages/" ++ called

-- the nodes of modules and of their folders
abbrev pub inner_nodes : List (List ℕ) → List (List ℕ)
inner_nodes names = map module_node (modules names) ++ map folder_node (folders names)

-- the nodes of packages, rising
abbrev pub package_nodes : List (List ℕ) → List (List ℕ)
package_nodes names = map package_node (packages names)

-- all nodes, falling: `/modules` and `/packages`, which are always there, and one for each module,
-- folder and package
abbrev pub node_names : List (List ℕ) → List (List ℕ)
node_names names =
    reverse (rising
    (codes "/modules" ∷ codes "/packages" ∷ inner_nodes names ++ package_nodes names))

-- Children

-- where a resource stands in the tree of modules
abbrev pub tree_place : List ℕ → List ℕ
tree_place name = codes "/modules" ++ name

-- the places of all that stands below `/modules`, rising
abbrev pub tree_places : List (List ℕ) → List (List ℕ)
tree_places names = rising (inner_nodes names ++ map tree_place names)

-- the place is that of a node and one part behind it
abbrev pub is_child : List ℕ → List ℕ → Bool
is_child node place = list_any is_slash place && bytes_eq node (before_last is_slash place)

-- the name of the entry at a place: of the resource there, or else of the node
abbrev pub entry_name : List (List ℕ) → List ℕ → List ℕ
entry_name names place =
    if list_any (λ name. bytes_eq place (tree_place name)) names then drop 8 place else place

-- the names of the entries directly below `/modules` or a node of it, rising by their last part: a
-- resource's own name, a folder's node's name
abbrev pub children : List (List ℕ) → List ℕ → List (List ℕ)
children names node = map (entry_name names) (filter (is_child node) (tree_places names))

-- the name begins with `/packages/`
abbrev pub is_package_node : List ℕ → Bool
is_package_node node = starts_with nat_eq node (codes "/packages/")

-- what a node holds: the owners of its package, the nodes of all packages for `/packages`, or else
-- its children
abbrev pub holds_of : List (List ℕ) → List ℕ → Holds
holds_of names node =
    if is_package_node node then Owners (owners names (drop 10 node))
    else if bytes_eq node (codes "/packages") then Children (package_nodes names)
    else Children (children names node)

-- the nodes of the two trees with what they hold, falling by name
abbrev pub tree_nodes : List (List ℕ) → List TreeNode
tree_nodes names =
    map (λ node. record { name = node; holds = holds_of names node }) (node_names names)
