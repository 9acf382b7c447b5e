use Rattle.std.proofs.Common.{◌++◌, ◌∙◌, All, ap, arith, refl, subst, sym}
use Rattle.std.proofs.lemmas.List.Elements.{All-append, All-nil}
use Rattle.jm_form.specs.Rows.{as_stored}
use Rattle.jm_reader.specs.Listing.{handed}
use Rattle.jm_reader.specs.Look.{SoundIn}
use Rattle.jm_reader.proofs.WalkLaws.{later_further}
use Rattle.jm_decompress.specs.Steps.{LiesIn, resource_alone}
use Rattle.jm_decompress.proofs.ResourceLaws.{alone_lies, told_of, told_step, told_whole}
use Rattle.jm_decompress.proofs.resources.resources_of.Goals as goal

pub loop-entry-init : goal.loop-entry-init
loop-entry-init g c =
    let from = c.list_stored-entries.ensures in
    let rest = c.list_stored-entries.result.rest in
    record {
      bytes = from.bytes;
      length = from.length;
      metered = c.requires;
      reads = record { bytes = refl; count = omega arith };
      told = λ b file. ap told_of (sym (from.rest b file)) ∙ ap (λ rs. rs ++ told_of rest) (sym c.new-resources.ensures);
      lie = subst (All (LiesIn c.args.index.now)) (sym c.new-resources.ensures) (All-nil (LiesIn c.args.index.now));
    }

pub loop-entry-preserved : goal.loop-entry-preserved
loop-entry-preserved g c =
    let before = c.loop-entry.invariant in
    let step = c.step.ensures in
    let entry = c.in-Some.entry in
    let index = c.args.index.now in
    let sound = subst (λ l. SoundIn (record { bytes = l; length = index.length }) (as_stored entry.row)) before.bytes
    (subst (λ n. SoundIn (record { bytes = c.loop-entry.entries.bytes; length = n }) (as_stored entry.row)) before.length
    c.in-Some.ensures.sound) in
    record {
      bytes = step.bytes ∙ before.bytes;
      length = step.length ∙ before.length;
      metered = step.reads.bytes ∙ before.metered;
      reads = later_further c.args.reads.now c.loop-entry.reads c.step.new.reads before.reads step.reads;
      told = λ b file. told_step _ c.loop-entry.resources c.put_resource.new.resources c.loop-entry.entries.rest
          c.step.new.self.rest (handed entry) (before.told b file) c.in-Some.ensures.entry c.in_ok-put_resource.ensures;
      lie = subst (All (LiesIn index)) (sym c.in_ok-put_resource.ensures)
          (All-append (LiesIn index) c.loop-entry.resources (resource_alone (handed entry)) before.lie
          (alone_lies index (handed entry) sound));
    }

pub returns : goal.returns
returns g c =
    record {
      told = λ b file. told_whole b c.loop-entry.resources c.loop-entry.entries.rest (c.loop-entry.invariant.told b file)
          (rw c.in_default.is at c.step.ensures.end);
      lie = c.loop-entry.invariant.lie;
      reads = later_further c.args.reads.now c.loop-entry.reads c.step.new.reads c.loop-entry.invariant.reads c.step.ensures.reads;
    }
