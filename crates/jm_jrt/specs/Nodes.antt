-- What `stat` hands out, as plain data.
use Rattle.std.specs.Prelude.{ℕ, ◌+◌, ◌*◌, ◌≡◌, List, length, Result, Ok, Err}
use Rattle.jm_bytes.specs.Metered.{CostsAtMost, Metered}
use Rattle.jm_form.specs.TreeView.{TreeItem, File, Link, item_of}
use Rattle.jm_reader.specs.Walk.{IsLater}
use Rattle.jm_jrt.specs.declared.jrt_error.JrtError.{JrtError}
use Rattle.jm_jrt.specs.declared.node.Node.{Node}
use Rattle.jm_jrt.specs.declared.node.Node.TheVariants as node

-- a node, or the refusal
abbrev pub item_as : Result Node JrtError → Result TreeItem JrtError
item_as (Err error) = Err error
item_as (Ok (node.Folder list)) = Ok (item_of list.rest)
item_as (Ok (node.File bytes)) = Ok (File bytes.now)
item_as (Ok (node.Link «module»)) = Ok (Link «module».now)

-- the children are read from these bytes
abbrev pub IsOf : List ℕ → Node → Type 0
IsOf b (node.Folder list) = list.bytes ≡ b
IsOf b (node.File bytes) = Unit {0}
IsOf b (node.Link «module») = Unit {0}

-- a file costs at most so many bytes; what anything else costs isn't bound here
abbrev pub StatCosts : Result Node JrtError → List ℕ → Metered → Metered → Type 0
StatCosts (Ok (node.File bytes)) path old new =
    CostsAtMost old new (2 * length path + 152 + length bytes.now)
StatCosts (Ok (node.Folder list)) path old new = IsLater old new
StatCosts (Ok (node.Link «module»)) path old new = IsLater old new
StatCosts (Err error) path old new = IsLater old new

-- what was made of it, or the same refusal
abbrev pub on_ok : {A B E : Type 0} → (A → B) → Result A E → Result B E
on_ok make (Err error) = Err error
on_ok make (Ok value) = Ok (make value)
