-- What stands at a path of the two trees of an image (JEP 220: the `jrt` file system; the answers
-- are this project's rule).
use Rattle.std.specs.Prelude.{◌≡◌, ℕ, nat_eq, Bool, true, ◌&&◌, ◌||◌, not, List, [], ◌∷◌, drop, filter, codes}
use Rattle.std.specs.Prelude.{Option, Some, None, option_and_then, option_map, is_none, is_some}
use Rattle.std.specs.Prelude.{Result, Ok, Err}
use Rattle.std.specs.Prelude.{if◌then◌else◌}
use Rattle.std.specs.List.{after_last, before_last, find, list_any, starts_with}
use Rattle.std.specs.Str.{bytes_eq}
use Rattle.jm_names.specs.Names.{is_node, is_slash}
use Rattle.jm_form.specs.declared.container.Header.{Header}
use Rattle.jm_form.specs.declared.container.HeaderFault.{HeaderFault}
use Rattle.jm_form.specs.declared.rows.Row.{Row}
use Rattle.jm_form.specs.declared.trees.Holds.{Holds}
use Rattle.jm_form.specs.declared.trees.Holds.TheVariants.{Children, Owners}
use Rattle.jm_form.specs.declared.trees.Owner.{Owner}
use Rattle.jm_form.specs.Head.{header_of}
use Rattle.jm_form.specs.Trees.{is_package_node}
use Rattle.jm_form.specs.TreeView.{TreeItem, Folder, Package, File, Link, item_of}
use Rattle.jm_form.specs.Validity.{look}
use Rattle.jm_jrt.specs.declared.jrt_error.JrtError.{JrtError}
use Rattle.jm_jrt.specs.declared.jrt_error.JrtError.TheVariants.{NotThere, NotFolder}
use Rattle.jm_jrt.specs.declared.words.Form.{Form}
use Rattle.jm_jrt.specs.declared.words.Form.TheVariants as form
use Rattle.jm_jrt.specs.Told.{bad_word, children_told, owners_told, Tells}

-- what look-up gives: a row and a content
abbrev Sought : Type 0
Sought = Option (Row × List ℕ)

-- Folders

-- the roots of the two trees that the image has
abbrev pub roots : List ℕ → List (List ℕ)
roots b = filter (λ name. is_some (look b name)) (codes "/modules" ∷ codes "/packages" ∷ [])

-- a path is `/modules` or `/packages`
abbrev pub is_root : List ℕ → Bool
is_root path = bytes_eq path (codes "/modules") || bytes_eq path (codes "/packages")

-- what the content of a node tells, in the form of children
abbrev pub children_of : List ℕ → Sought → Result Holds JrtError
children_of b None = Err NotThere
children_of b (Some found) = children_told b found.1

-- what the content of a node tells, in the form of pairs
abbrev pub owners_of : List ℕ → Sought → Result Holds JrtError
owners_of b None = Err NotThere
owners_of b (Some found) = owners_told b found.1

-- the folder or package that was told, or the error
abbrev pub folder : Result Holds JrtError → Result TreeItem JrtError
folder (Err error) = Err error
folder (Ok holds) = Ok (item_of holds)

-- Below `/modules/`

-- the file of a content that was found
abbrev pub file : Sought → Result TreeItem JrtError
file None = Err NotThere
file (Some found) = Ok (File found.1)

-- the file of the path without `/modules`, if that is the name of no node
abbrev pub resource : List ℕ → List ℕ → Result TreeItem JrtError
resource b path = if is_node (drop 8 path) then Err NotThere else file (look b (drop 8 path))

-- what stands below `/modules/`: a folder where the path is that of a node, and else a file
abbrev pub in_modules : List ℕ → List ℕ → Sought → Result TreeItem JrtError
in_modules b path None = resource b path
in_modules b path (Some found) = folder (children_told b found.1)

-- Below `/packages/`

-- the link to a module among the owners
abbrev pub link_among : List ℕ → List Owner → Result TreeItem JrtError
link_among «module» owners =
    if list_any (λ o. bytes_eq «module» o.module) owners then Ok (Link «module») else Err NotThere

-- the link to a module where it is one of the owners that were told
abbrev pub link : List ℕ → Result Holds JrtError → Result TreeItem JrtError
link «module» (Err error) = Err error
link «module» (Ok (Children names)) = Err NotThere
link «module» (Ok (Owners owners)) = link_among «module» owners

-- a path is `/packages/p` with no slash in p
abbrev pub is_package : List ℕ → Bool
is_package path = is_package_node path && not (list_any is_slash (drop 10 path))

-- what stands below `/packages/`: a package, or behind one more slash a link to one of its owners
abbrev pub in_packages : List ℕ → List ℕ → Result TreeItem JrtError
in_packages b path =
    if is_package path then folder (owners_of b (look b path))
    else if is_package (before_last is_slash path)
    then link (after_last is_slash path) (owners_of b (look b (before_last is_slash path)))
    else Err NotThere

-- Paths

-- what stands at a path of an image
abbrev pub stat_with : List ℕ → List ℕ → Result TreeItem JrtError
stat_with b path =
    if bytes_eq path (codes "/") then Ok (Folder (roots b))
    else if is_root path then folder (children_of b (look b path))
    else if starts_with nat_eq path (codes "/modules/") then in_modules b path (look b path)
    else in_packages b path

-- the same by what was read as the header: nothing where that is a fault
abbrev pub stat_read : List ℕ → List ℕ → Result Header HeaderFault → Result TreeItem JrtError
stat_read b path (Err fault) = Err NotThere
stat_read b path (Ok h) = stat_with b path

-- what stands at a path: nothing, an item of the trees, or a node whose content is bad at a place
abbrev pub stat : List ℕ → List ℕ → Result TreeItem JrtError
stat b path = stat_read b path (header_of b)

-- The node that says what stands at a path

-- a path is that of a node, if one is there, whose content tells children
abbrev pub has_children : List ℕ → Bool
has_children path = is_root path || starts_with nat_eq path (codes "/modules/")

-- the path of the node whose content says what stands at a path: the path itself for a root, below
-- `/modules/` and for a package, and that of its package for a link; none elsewhere, as at `/`
abbrev pub node_path : List ℕ → Option (List ℕ)
node_path path =
    if has_children path || is_package path then Some path
    else if is_package (before_last is_slash path) then Some (before_last is_slash path)
    else None

-- the look-up of that path, if there is one
abbrev pub node_sought : List ℕ → List ℕ → Sought
node_sought b path = option_and_then (look b) (node_path path)

-- the content of that node
abbrev pub node_content : List ℕ → List ℕ → Option (List ℕ)
node_content b path = option_map (λ found. found.1) (node_sought b path)

-- how many hashes that look-up takes at most
abbrev pub node_hashes : List ℕ → ℕ
node_hashes path = if is_none (node_path path) then 0 else 2

-- Nodes that are judged

-- what the content of the node of a name is read as: children, or below `/packages/` pairs
abbrev pub form_of : List ℕ → Form
form_of name = if has_children name then form.Children else form.Owners

-- the place of the first bad word of the content of the node of a name, or none
abbrev pub node_fault : List ℕ → List ℕ → List ℕ → Option ℕ
node_fault b name content = bad_word b content (form_of name)

-- Folders and owners

-- what a folder holds
abbrev pub held : Result TreeItem JrtError → Result Holds JrtError
held (Err error) = Err error
held (Ok (Folder names)) = Ok (Children names)
held (Ok (Package owners)) = Ok (Owners owners)
held (Ok (File bytes)) = Err NotFolder
held (Ok (Link «module»)) = Err NotFolder

-- the first owner that isn't empty, or none
abbrev pub first_full : List Owner → Option (List ℕ)
first_full owners = option_map (λ o. o.module) (find (λ o. not o.empty) owners)

-- the first owner that isn't empty, of what a package holds
abbrev pub full_among : Result Holds JrtError → Result (Option (List ℕ)) JrtError
full_among (Err error) = Err error
full_among (Ok (Children names)) = Err NotThere
full_among (Ok (Owners owners)) = Ok (first_full owners)

-- the first owner that isn't empty of the package at a path of an image
abbrev pub owner_with : List ℕ → List ℕ → Result (Option (List ℕ)) JrtError
owner_with b path = if is_package path then full_among (owners_of b (look b path)) else Err NotThere

-- the same by what was read as the header: nothing where that is a fault
abbrev pub owner_read
    : List ℕ → List ℕ → Result Header HeaderFault → Result (Option (List ℕ)) JrtError
owner_read b path (Err fault) = Err NotThere
owner_read b path (Ok h) = owner_with b path

-- the first owner of a package that isn't empty there; only the path of a package is there
abbrev pub owner : List ℕ → List ℕ → Result (Option (List ℕ)) JrtError
owner b path = owner_read b path (header_of b)

-- The rule

-- what stands at a path of which the content of its node tells this: a folder or a package, or the
-- link to one of the owners that are told
abbrev pub shown_by : List ℕ → Result Holds JrtError → Result TreeItem JrtError
shown_by path told =
    if has_children path || is_package path then folder told
    else link (after_last is_slash path) told

-- the rule: where a node says what stands at a path, that is what its content tells
abbrev pub IsToldAt : List ℕ → List ℕ → Result TreeItem JrtError → Type 0
IsToldAt b path item =
    (content : List ℕ) (told : Result Holds JrtError) → node_content b path ≡ Some content
    → Tells b content (form_of path) told → item ≡ shown_by path told

-- the rule: the first full owner of the package at a path is that of the owners that the content of
-- its node tells
abbrev pub IsOwnerToldAt : List ℕ → List ℕ → Result (Option (List ℕ)) JrtError → Type 0
IsOwnerToldAt b path owner =
    (content : List ℕ) (told : Result Holds JrtError) → is_package path ≡ true
    → node_content b path ≡ Some content → Tells b content form.Owners told
    → owner ≡ full_among told
