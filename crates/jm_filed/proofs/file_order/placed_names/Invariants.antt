use Rattle.std.proofs.Common.{◌≡◌, ◌++◌, ℕ, List, length, map}
use Rattle.jm_form.specs.Head.{IsFileOf}
use Rattle.jm_reader.specs.Listing.{entry_listed}
use Rattle.jm_reader.specs.Walk.{IsLater, entries_of}
use Rattle.jm_filed.specs.FileOrder.{placed_among}
use Rattle.jm_filed.proofs.file_order.placed_names.Given as goal

abbrev pub invariant-loop-entry : goal.invariant-loop-entry
invariant-loop-entry g l = record {
  bytes : l.entries.bytes ≡ l.index.bytes;
  metered : l.reads.bytes ≡ l.index.bytes;
  reads : IsLater l.fn.reads l.reads;
  placed : (b : List ℕ) → IsFileOf l.index.bytes l.index.length b → placed_among (entries_of b) ≡ l.names
      ++ placed_among (map (entry_listed b) l.entries.rest);
}

abbrev pub decreases-loop-entry : goal.decreases-loop-entry
decreases-loop-entry g l = length l.entries.rest
