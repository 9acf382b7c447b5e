-- What an index and the content of a path's node say, as plain data.
use Rattle.std.specs.Prelude.{ℕ, ◌≡◌, Bool, false, List, length, Result, Ok, Err}
use Rattle.jm_bytes.specs.Metered.{CostsAtMost, Metered}
use Rattle.jm_form.specs.Entries.{content_of}
use Rattle.jm_form.specs.Places.{contents}
use Rattle.jm_form.specs.TreeView.{TreeItem, File, Link, item_of}
use Rattle.jm_valid.specs.Opened.{Front}
use Rattle.jm_reader.specs.Look.{head, SoundIn}
use Rattle.jm_reader.specs.Walk.{IsLater}
use Rattle.jm_jrt.specs.declared.jrt_error.JrtError.{JrtError}
use Rattle.jm_jrt.specs.declared.trees.Standing.{Standing}
use Rattle.jm_jrt.specs.declared.trees.Standing.TheVariants as standing

-- what stands in a file of the index, whose contents the file has, or the refusal
abbrev pub standing_as : List ℕ → Result Standing JrtError → Result TreeItem JrtError
standing_as b (Err error) = Err error
standing_as b (Ok (standing.Folder list)) = Ok (item_of list.rest)
standing_as b (Ok (standing.File row)) = Ok (File (content_of (contents b (head b)) row))
standing_as b (Ok (standing.Link «module»)) = Ok (Link «module».now)

-- bytes as a file of which all were read
abbrev pub whole : List ℕ → Front
whole b = record { bytes = b; length = length b }

-- the children are read from these first bytes, and the row is sound in their files
abbrev pub IsIn : Front → Standing → Type 0
IsIn front (standing.Folder list) = list.bytes ≡ front.bytes
IsIn front (standing.File row) = SoundIn front row
IsIn front (standing.Link «module») = Unit {0}

-- a file stands where there is no node, and costs at most so many bytes; what anything else costs
-- isn't bound here
abbrev pub StandingCosts : Result Standing JrtError → Bool → ℕ → Metered → Metered → Type 0
StandingCosts (Ok (standing.File row)) node most old new =
    (node ≡ false) × CostsAtMost old new most
StandingCosts (Ok (standing.Folder list)) node most old new = IsLater old new
StandingCosts (Ok (standing.Link «module»)) node most old new = IsLater old new
StandingCosts (Err error) node most old new = IsLater old new
