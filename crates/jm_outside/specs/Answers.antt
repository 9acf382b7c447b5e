-- What answers say of the outside.
use Rattle.std.specs.Prelude.{Bool, true, false, Result, Ok, Err, Option, Some, None}
use Rattle.std.specs.Prelude.{ℕ, List, length}
use Rattle.jm_outside.specs.declared.shelf.ShelfError.{ShelfError}
use Rattle.jm_outside.specs.declared.shelf.ShelfError.TheVariants as shelf_error
use Rattle.jm_outside.specs.declared.streams.SinkError.{SinkError}
use Rattle.jm_outside.specs.declared.streams.SinkError.TheVariants as sink_error

-- a shelf's answer is `Failed`
abbrev pub shelf_failed : {T : Type 0} → Result T ShelfError → Bool
shelf_failed (Ok _) = false
shelf_failed (Err shelf_error.Failed) = true
shelf_failed (Err shelf_error.Memory) = false

-- how many bytes of a file a shelf's answer hands out
abbrev pub handed_out : {E : Type 0} → Result (Option (List ℕ)) E → ℕ
handed_out (Ok (Some bytes)) = length bytes
handed_out (Ok None) = 0
handed_out (Err _) = 0

-- how many bytes of a file a shelf's answer hands out that was asked for exactly this many
abbrev pub handed_exactly : {T E : Type 0} → Result T E → ℕ → ℕ
handed_exactly (Ok _) count = count
handed_exactly (Err _) count = 0

-- a sink's answer is `Failed`
abbrev pub sink_failed : {T : Type 0} → Result T SinkError → Bool
sink_failed (Ok _) = false
sink_failed (Err sink_error.Failed) = true
sink_failed (Err sink_error.Memory) = false
