use Rattle.std.proofs.Common.{◌++◌, ◌∙◌, ap, arith, map, refl, sym}
use Rattle.jm_reader.specs.Listing.{entry_listed, handed}
use Rattle.jm_reader.specs.Walk.{entries_of}
use Rattle.jm_reader.proofs.IndexLaws.{relisted}
use Rattle.jm_reader.proofs.WalkLaws.{later_further}
use Rattle.jm_filed.specs.FileOrder.{placed_among}
use Rattle.jm_filed.proofs.FileOrderLaws.{placed_all, placed_step}
use Rattle.jm_filed.proofs.file_order.placed_names.Goals as goal

pub loop-entry-init : goal.loop-entry-init
loop-entry-init g c =
    let from = c.list-entries.ensures in
    let rest = c.list-entries.result.rest in
    record {
      bytes = from.bytes;
      metered = c.requires;
      reads = record { bytes = refl; count = omega arith };
      placed = λ b file. ap placed_among (sym (ap (map (entry_listed b)) (from.rest b file) ∙ relisted b))
          ∙ ap (λ ps. ps ++ placed_among (map (entry_listed b) rest)) (sym c.new-names.ensures);
    }

pub loop-entry-preserved : goal.loop-entry-preserved
loop-entry-preserved g c =
    let before = c.loop-entry.invariant in
    let step = c.step.ensures in
    record {
      bytes = step.bytes ∙ before.bytes;
      metered = step.reads.bytes ∙ before.metered;
      reads = later_further c.args.reads.now c.loop-entry.reads c.step.new.reads before.reads step.reads;
      placed = λ b file. placed_step b (placed_among (entries_of b)) c.loop-entry.names c.put_placed.new.names
          c.loop-entry.entries.rest c.step.new.self.rest (handed c.in-Some.entry) (before.placed b file) c.in-Some.ensures.entry
          c.in_ok-put_placed.ensures;
    }

pub returns : goal.returns
returns g c =
    record {
      placed = λ b file. placed_all b (placed_among (entries_of b)) c.loop-entry.names c.loop-entry.entries.rest
          (c.loop-entry.invariant.placed b file) (rw c.in_default.is at c.step.ensures.end);
      reads = later_further c.args.reads.now c.loop-entry.reads c.step.new.reads c.loop-entry.invariant.reads c.step.ensures.reads;
    }
