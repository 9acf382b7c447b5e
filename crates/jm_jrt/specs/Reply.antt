-- The reply to a line of a session (this project's rule).
use Rattle.std.specs.Prelude.{ℕ, ◌+◌, ◌==◌, Bool, ◌&&◌, List, [], ◌∷◌, ◌++◌, length, codes}
use Rattle.std.specs.Prelude.{flat_map}
use Rattle.std.specs.Prelude.{Option, Some, None, Result, Ok, Err, if◌then◌else◌}
use Rattle.std.specs.Fmt.{decimal}
use Rattle.std.specs.List.{after_first, before_first, list_any}
use Rattle.std.specs.Str.{bytes_eq}
use Rattle.jm_bytes.specs.Metered.{CostsAtMost, Metered}
use Rattle.jm_names.specs.Names.{is_node}
use Rattle.jm_names.specs.Shown.{shown}
use Rattle.jm_names.specs.UtfForms.{modified}
use Rattle.jm_form.specs.declared.rows.Row.{Row}
use Rattle.jm_form.specs.declared.trees.Holds.{Holds}
use Rattle.jm_form.specs.declared.trees.Holds.TheVariants.{Children, Owners}
use Rattle.jm_form.specs.declared.trees.Owner.{Owner}
use Rattle.jm_form.specs.TreeView.{TreeItem, Folder, Package, File, Link}
use Rattle.jm_form.specs.Validity.{look}
use Rattle.jm_reader.specs.Walk.{IsLater}
use Rattle.jm_jrt.specs.declared.jrt_error.JrtError.{JrtError}
use Rattle.jm_jrt.specs.declared.jrt_error.JrtError.TheVariants.{BadNode, NotFolder, NotThere}
use Rattle.jm_jrt.specs.Stat.{held, owner, stat}
use Rattle.jm_jrt.specs.Views.{count_of}

-- Lines of a reply

-- a text and a newline
abbrev pub line : List ℕ → List ℕ
line text = text ++ 10 ∷ []

-- a word with its space, and a number
abbrev pub numbered : List ℕ → ℕ → List ℕ
numbered word n = line (word ++ decimal n)

-- a word with its space, or a path, and a name as it is shown
abbrev pub named : List ℕ → List ℕ → List ℕ
named word name = line (word ++ shown name)

-- the reply of an error
abbrev pub error_reply : JrtError → List ℕ
error_reply NotThere = line (codes "error NotThere")
error_reply (BadNode at) = numbered (codes "error BadNode ") at
error_reply NotFolder = line (codes "error NotFolder")

-- the reply to a line that is no request
abbrev pub request_error : List ℕ
request_error = line (codes "error Request")

-- `find`

-- the reply of `find`, by what the look-up found
abbrev pub find_reply : Option (Row × List ℕ) → List ℕ
find_reply None = line (codes "none")
find_reply (Some found) = numbered (codes "found ") (length found.1) ++ line found.1

-- `stat`

-- the reply of `stat` where something stands at the path; of a folder with the number of its
-- children, of a file with that of its bytes
abbrev pub item_reply : TreeItem → List ℕ
item_reply (Folder names) = numbered (codes "folder ") (length names)
item_reply (Package owners) = numbered (codes "folder ") (length owners)
item_reply (File bytes) = numbered (codes "file ") (length bytes)
item_reply (Link «module») = named (codes "link /modules/") «module»

-- the reply of `stat`, by what stands at the path
abbrev pub stat_reply : Result TreeItem JrtError → List ℕ
stat_reply (Err error) = error_reply error
stat_reply (Ok item) = item_reply item

-- `ls`

-- the line of a child: a node by its name, a resource by its path
abbrev pub entry_line : List ℕ → List ℕ
entry_line name = named (if is_node name then [] else codes "/modules") name

-- what stands behind an owner for whom the package is empty
abbrev pub empty_mark : Bool → List ℕ
empty_mark empty = if empty then codes " empty" else []

-- the line of an owner in the package at a path, which is given as it is shown
abbrev pub owner_line : List ℕ → Owner → List ℕ
owner_line path owner = line (path ++ 47 ∷ shown owner.module ++ empty_mark owner.empty)

-- the lines of what a folder at a path holds
abbrev pub held_lines : List ℕ → Holds → List ℕ
held_lines path (Children names) = flat_map entry_line names
held_lines path (Owners owners) = flat_map (owner_line (shown path)) owners

-- the reply of `ls`: the number of what a folder holds, and a line for each
abbrev pub ls_reply : List ℕ → Result Holds JrtError → List ℕ
ls_reply path (Err error) = error_reply error
ls_reply path (Ok holds) = numbered (codes "folder ") (count_of holds) ++ held_lines path holds

-- `owner`

-- the reply of `owner`, by the first owner that isn't empty, if there is one
abbrev pub full_reply : Option (List ℕ) → List ℕ
full_reply None = line (codes "none")
full_reply (Some «module») = named (codes "owner ") «module»

-- the reply of `owner`, by what stands at the path
abbrev pub owner_reply : Result (Option (List ℕ)) JrtError → List ℕ
owner_reply (Err error) = error_reply error
owner_reply (Ok full) = full_reply full

-- Requests

-- the byte that ends the verb
abbrev pub is_space : ℕ → Bool
is_space b = b == 32

-- a line has a space, and this verb stands in front of the first one
abbrev pub has_verb : List ℕ → List ℕ → Bool
has_verb verb line = list_any is_space line && bytes_eq (before_first is_space line) verb

-- the reply by verb and argument; the argument is a name or a path as an image stores it
abbrev pub request_reply : List ℕ → List ℕ → List ℕ → List ℕ
request_reply b verb argument =
    if bytes_eq verb (codes "find") then find_reply (look b argument)
    else if bytes_eq verb (codes "stat") then stat_reply (stat b argument)
    else if bytes_eq verb (codes "ls") then ls_reply argument (held (stat b argument))
    else if bytes_eq verb (codes "owner")
    then owner_reply (owner b (codes "/packages/" ++ argument))
    else request_error

-- the reply to a line: by the verb in front of its first space, with the rest of the line as
-- Modified UTF-8
abbrev pub reply : List ℕ → List ℕ → List ℕ
reply b line =
    if list_any is_space line
    then request_reply b (before_first is_space line) (modified (after_first is_space line))
    else request_error

-- What a reply costs

-- how many bytes of content a look-up found
abbrev pub found_length : Option (Row × List ℕ) → ℕ
found_length None = 0
found_length (Some found) = length found.1

-- the bytes that a look-up reads at most
abbrev pub find_bytes : List ℕ → List ℕ → ℕ
find_bytes b name = length name + 76 + found_length (look b name)

-- the bytes that the reply to a line reads at most, where the line is a `find`
abbrev pub line_bytes : List ℕ → List ℕ → Option ℕ
line_bytes b line =
    if has_verb (codes "find") line
    then Some (find_bytes b (modified (after_first is_space line)))
    else None

-- at most so many bytes more were read, or without a bound not fewer
abbrev pub IsWithin : Option ℕ → Metered → Metered → Type 0
IsWithin None old new = IsLater old new
IsWithin (Some n) old new = CostsAtMost old new n
