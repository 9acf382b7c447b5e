use Rattle.std.proofs.Common.{◌++◌, ◌∙◌, ℕ, IsPermutation, List, ap, arith, map, of_calls, refl, rules, subst, sym}
use Rattle.std.proofs.lemmas.List.Elements.{All-nil}
use Rattle.std.proofs.lemmas.List.Sorted.{All-permutation}
use Rattle.jm_filed.specs.declared.taking.TakenEntry.{TakenEntry}
use Rattle.jm_names.proofs.NameOrder.{names_sorted}
use Rattle.jm_reader.specs.Listing.{entry_listed, handed}
use Rattle.jm_reader.specs.Look.{SoundIn}
use Rattle.jm_reader.specs.Walk.{entries_of}
use Rattle.jm_reader.proofs.IndexLaws.{relisted}
use Rattle.jm_reader.proofs.WalkLaws.{later_further}
use Rattle.jm_filed.specs.Filed.{IsWithin}
use Rattle.jm_filed.specs.Taken.{LieWithin, is_chosen, named_among, taken_as}
use Rattle.jm_filed.proofs.TakingLaws.{taken_all, taken_rises, taken_sorted, taken_step}
use Rattle.jm_filed.proofs.taking.chosen.Goals as goal

pub loop-entry-init : goal.loop-entry-init
loop-entry-init g c =
    let passes = is_chosen c.args.choice in
    let from = c.list-entries.ensures in
    let rest = c.list-entries.result.rest in
    record {
      bytes = from.bytes;
      length = from.length;
      metered = c.requires;
      reads = record { bytes = refl; count = omega arith };
      taken = λ b file. ap (named_among passes) (sym (ap (map (entry_listed b)) (from.rest b file) ∙ relisted b))
          ∙ ap (λ ts. map (taken_as b) ts ++ named_among passes (map (entry_listed b) rest)) (sym c.new-by_slot.ensures);
      within = subst (LieWithin c.args.index.now.length) (sym c.new-by_slot.ensures)
          (All-nil (λ (t : TakenEntry). IsWithin c.args.index.now.length t.content));
    }

pub take_entry-requires : goal.take_entry-requires
take_entry-requires g c =
    let before = c.loop-entry.invariant in
    let entry = c.in-Some.entry in
    subst (λ l. SoundIn (record { bytes = l; length = c.args.index.now.length }) entry.row) before.bytes
    (subst (λ n. SoundIn (record { bytes = c.loop-entry.entries.bytes; length = n }) entry.row) before.length c.in-Some.ensures.sound)

pub loop-entry-preserved : goal.loop-entry-preserved
loop-entry-preserved g c =
    let before = c.loop-entry.invariant in
    let step = c.step.ensures in
    let put = c.in_ok-take_entry.ensures in
    let passes = is_chosen c.args.choice in
    let entry = c.in-Some.entry in
    record {
      bytes = step.bytes ∙ before.bytes;
      length = step.length ∙ before.length;
      metered = step.reads.bytes ∙ before.metered;
      reads = later_further c.args.reads.now c.loop-entry.reads c.step.new.reads before.reads step.reads;
      taken = λ b file. taken_step passes b (named_among passes (entries_of b)) (map (taken_as b) c.loop-entry.by_slot)
          (map (taken_as b) c.take_entry.new.list) c.loop-entry.entries.rest c.step.new.self.rest (handed entry) (before.taken b file)
          c.in-Some.ensures.entry (put.taken b file);
      within = put.within before.within;
    }

pub returns : goal.returns
returns g c =
    let passes = is_chosen c.args.choice in
    let by_slot = c.loop-entry.by_slot in
    let sorted = c.sort_unstable_by.new.self.items in
    let moved = subst (λ (ts : List TakenEntry). IsPermutation ts sorted) c.into_vec-sorted.ensures
    c.sort_unstable_by.ensures.permutation in
    let up = λ (b : List ℕ). names_sorted (taken_as b) sorted c.sort_unstable_by.ensures.sorted (λ a r q k. search (rules, of_calls)) in
    record {
      taken = λ b file. rw c.from_vec.ensures (taken_sorted passes b by_slot sorted (taken_all passes b _ _ _
          (c.loop-entry.invariant.taken b file) (rw c.in_default.is at c.step.ensures.end)) moved (up b));
      rises = λ b file. rw c.from_vec.ensures (taken_rises passes b by_slot sorted (taken_all passes b _ _ _
          (c.loop-entry.invariant.taken b file) (rw c.in_default.is at c.step.ensures.end)) moved (up b));
      within = rw c.from_vec.ensures (All-permutation (λ (t : TakenEntry). IsWithin c.args.index.now.length t.content)
          by_slot sorted moved c.loop-entry.invariant.within);
      reads = later_further c.args.reads.now c.loop-entry.reads c.step.new.reads c.loop-entry.invariant.reads c.step.ensures.reads;
    }
