-- The two trees by the fronts of names, computed; the rule is `tree_nodes` of jm_form, and
-- proofs/NodeLaws ties the two together.
use Rattle.std.specs.Prelude.{ℕ, Bool, true, false, not, ◌&&◌, ◌≡◌, List, [], ◌∷◌, ◌++◌}
use Rattle.std.specs.Prelude.{drop, map, reverse, Option, Some, None, codes, if◌then◌else◌}
use Rattle.std.specs.List.{before_last, filter_map, flat_map, list_any}
use Rattle.jm_names.specs.Names.{dotted, is_slash}
use Rattle.jm_form.specs.Rising.{rising}
use Rattle.jm_form.specs.Trees.{is_meta, module_of, package_node, path_of}
use Rattle.jm_form.specs.declared.trees.Holds.TheVariants.{Children, Owners}
use Rattle.jm_form.specs.declared.trees.Owner.{Owner}
use Rattle.jm_form.specs.declared.trees.TreeNode.{TreeNode}
use Rattle.jm_nodes.specs.Filings.{filed_under, is_filed, FilesAll, Filing}
use Rattle.jm_nodes.specs.declared.packages.PackageFolder.{PackageFolder}

-- a resource, or a folder with the mark, under what it stands in
abbrev pub child_filing : Bool → List ℕ → Filing
child_filing is_folder name =
    record { under = before_last is_slash name; name = name; mark = is_folder }

-- all resources and all folders, each under what it stands in
abbrev pub child_filings : List (List ℕ) → List (List ℕ) → List Filing
child_filings names folders = map (child_filing false) names ++ map (child_filing true) folders

-- the name of a child's entry
abbrev pub entry_of : Filing → List ℕ
entry_of child = if child.mark then codes "/modules" ++ child.name else child.name

-- the names of the entries of a front's children, from the table
abbrev pub children_of : List Filing → List ℕ → List (List ℕ)
children_of table front = map entry_of (filed_under front table)

-- no resource stands directly in it
abbrev pub is_bare : List Filing → List ℕ → Bool
is_bare table front = not (list_any (λ child. not child.mark) (filed_under front table))

-- a folder that is a package of its module
pub record Folder : Type 0 where
  pub front : List ℕ
  pub «module» : List ℕ
  pub path : List ℕ

-- a package's folder that the code holds, as plain data
abbrev pub folder_of : PackageFolder → Folder
folder_of folder =
    record { front = folder.front.now; «module» = folder.module.now; path = folder.path.now }

-- the front is that of a folder that makes a package
abbrev pub is_package : List ℕ → Bool
is_package front = list_any is_slash (drop 1 front) && not (is_meta (path_of front))

-- the folder of a front, if it makes a package
abbrev pub package_folder : List ℕ → Option Folder
package_folder front =
    if is_package front
    then Some (record { front = front; «module» = module_of front; path = path_of front })
    else None

-- the packages of folders, with dots for slashes
abbrev pub called_all : List Folder → List (List ℕ)
called_all folders = map (λ folder. dotted folder.path) folders

-- its module under the package, the mark where it has no resource
abbrev pub package_filing : List Filing → Folder → Filing
package_filing table folder = record {
  under = dotted folder.path;
  name = folder.module;
  mark = is_bare table folder.front;
}

-- the modules of all folders, each under its package
abbrev pub package_filings : List Filing → List Folder → List Filing
package_filings table folders = map (package_filing table) folders

-- an owner, unless the module has another folder of the package that has a resource
abbrev pub owner_alone : List Filing → Filing → List Owner
owner_alone owned filing =
    if filing.mark && is_filed (record filing { mark = false }) owned then []
    else record { empty = filing.mark; «module» = filing.name } ∷ []

-- the owners of a package, from the table
abbrev pub owners_of : List Filing → List ℕ → List Owner
owners_of owned called = flat_map (owner_alone owned) (filed_under called owned)

-- Nodes

-- the node of a module or folder; that of all modules, for the front of no byte
abbrev pub front_node : List Filing → List ℕ → TreeNode
front_node table front =
    record { name = codes "/modules" ++ front; holds = Children (children_of table front) }

-- the node of `/packages`, whose children are the nodes of packages
abbrev pub packages_node : List (List ℕ) → TreeNode
packages_node packages =
    record { name = codes "/packages"; holds = Children (map package_node packages) }

-- the node of a package
abbrev pub owners_node : List Filing → List ℕ → TreeNode
owners_node owned called =
    record { name = package_node called; holds = Owners (owners_of owned called) }

-- all nodes, rising
abbrev pub rising_nodes : List Filing → List (List ℕ) → List Filing → List (List ℕ) → List TreeNode
rising_nodes table fronts owned packages =
    front_node table []
    ∷ map (front_node table) fronts
    ++ packages_node packages
    ∷ map (owners_node owned) packages

-- the folders that make packages
abbrev pub folders_among : List (List ℕ) → List Folder
folders_among fronts = filter_map package_folder fronts

-- the nodes are made of tables of the names and the fronts
pub record IsMadeOf (names fronts : List (List ℕ)) (nodes : List TreeNode) : Type 0 where
  pub table : List Filing
  pub owned : List Filing
  pub children : FilesAll (child_filings names fronts) table
  pub owners : FilesAll (package_filings table (folders_among fronts)) owned
  pub made : nodes
      ≡ reverse (rising_nodes table fronts owned (rising (called_all (folders_among fronts))))
