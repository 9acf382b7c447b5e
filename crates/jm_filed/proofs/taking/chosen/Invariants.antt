use Rattle.std.proofs.Common.{◌≡◌, ◌++◌, ℕ, List, length, map}
use Rattle.jm_form.specs.Head.{IsFileOf}
use Rattle.jm_reader.specs.Listing.{entry_listed}
use Rattle.jm_reader.specs.Walk.{entries_of, IsLater}
use Rattle.jm_filed.specs.Taken.{LieWithin, is_chosen, named_among, taken_as}
use Rattle.jm_filed.proofs.taking.chosen.Given as goal

abbrev pub invariant-loop-entry : goal.invariant-loop-entry
invariant-loop-entry g l = record {
  bytes : l.entries.bytes ≡ l.index.bytes;
  length : l.entries.length ≡ l.index.length;
  metered : l.reads.bytes ≡ l.index.bytes;
  reads : IsLater l.fn.reads l.reads;
  taken : (b : List ℕ) → IsFileOf l.index.bytes l.index.length b → named_among (is_chosen l.choice) (entries_of b) ≡ map (taken_as b) l.by_slot
      ++ named_among (is_chosen l.choice) (map (entry_listed b) l.entries.rest);
  within : LieWithin l.index.length l.by_slot;
}

abbrev pub decreases-loop-entry : goal.decreases-loop-entry
decreases-loop-entry g l = length l.entries.rest
