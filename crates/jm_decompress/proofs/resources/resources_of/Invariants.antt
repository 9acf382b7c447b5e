use Rattle.std.proofs.Common.{◌≡◌, ◌++◌, ℕ, All, List, length, map}
use Rattle.jm_form.specs.Head.{IsFileOf}
use Rattle.jm_reader.specs.Listing.{listed}
use Rattle.jm_reader.specs.Walk.{IsLater, entries_of}
use Rattle.jm_decompress.specs.Steps.{LiesIn}
use Rattle.jm_decompress.proofs.ResourceLaws.{told_of}
use Rattle.jm_decompress.proofs.resources.resources_of.Given as goal

abbrev pub invariant-loop-entry : goal.invariant-loop-entry
invariant-loop-entry g l = record {
  bytes : l.entries.bytes ≡ l.index.bytes;
  length : l.entries.length ≡ l.index.length;
  metered : l.reads.bytes ≡ l.index.bytes;
  reads : IsLater l.fn.reads l.reads;
  told : (b : List ℕ) → IsFileOf l.index.bytes l.index.length b → told_of (map listed (entries_of b)) ≡ l.resources
      ++ told_of l.entries.rest;
  lie : All (LiesIn l.index) l.resources;
}

abbrev pub decreases-loop-entry : goal.decreases-loop-entry
decreases-loop-entry g l = length l.entries.rest
