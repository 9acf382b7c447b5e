-- The two trees as a file system answers for them (JEP 220: the `jrt` file system), from a map of
-- resources alone.
use Rattle.std.specs.Prelude.{ℕ, nat_eq, Bool, ◌&&◌, List, [], ◌∷◌, drop, map}
use Rattle.std.specs.Prelude.{codes}
use Rattle.std.specs.Prelude.{Option, Some, None, if◌then◌else◌}
use Rattle.std.specs.List.{after_last, before_last, list_any, starts_with}
use Rattle.std.specs.Map.{lookup}
use Rattle.std.specs.Str.{bytes_eq}
use Rattle.jm_names.specs.Names.{is_slash}
use Rattle.jm_form.specs.declared.trees.Holds.{Holds}
use Rattle.jm_form.specs.declared.trees.Holds.TheVariants.{Children, Owners}
use Rattle.jm_form.specs.declared.trees.Owner.{Owner}
use Rattle.jm_form.specs.Trees.{holds_of, is_package_node, node_names, owners}

-- what stands at a path: a folder with the names of its children, or with the owners of a package;
-- a file with its bytes; a link to a module
pub data TreeItem : Type 0 where
  Folder : (children : List (List ℕ)) → TreeItem
  Package : (owners : List Owner) → TreeItem
  File : (bytes : List ℕ) → TreeItem
  Link : («module» : List ℕ) → TreeItem

-- what a node holds as what stands there: children as a folder, owners as a package
abbrev pub item_of : Holds → TreeItem
item_of (Children list) = Folder list
item_of (Owners list) = Package list

-- the names of resources
abbrev pub names_of : List (List ℕ × List ℕ) → List (List ℕ)
names_of resources = map (λ r. r.0) resources

-- the bytes that were found as a file, if any were
abbrev pub file_of : Option (List ℕ) → Option TreeItem
file_of None = None
file_of (Some bytes) = Some (File bytes)

-- the path is that of a package, a slash, and one of its owners
abbrev pub is_link : List (List ℕ) → List ℕ → Bool
is_link names path =
    is_package_node (before_last is_slash path)
    && list_any (bytes_eq (before_last is_slash path)) (node_names names)
    && list_any (λ o. bytes_eq (after_last is_slash path) o.module)
    (owners names (drop 10 (before_last is_slash path)))

-- what a file system of both trees has at a path: a folder, a package with its owners, a file, a
-- link, or nothing
abbrev pub tree : List (List ℕ × List ℕ) → List ℕ → Option TreeItem
tree resources path =
    if bytes_eq path (codes "/")
    then Some (Folder (codes "/modules" ∷ codes "/packages" ∷ []))
    else if list_any (bytes_eq path) (node_names (names_of resources))
    then Some (item_of (holds_of (names_of resources) path))
    else if starts_with nat_eq path (codes "/modules/")
    then file_of (lookup (λ name. bytes_eq (drop 8 path) name) resources)
    else if is_link (names_of resources) path
    then Some (Link (after_last is_slash path))
    else None
