use Rattle.std.proofs.Common.{◌<◌, ◌^◌, ap, flat_map, length, arith, refl, rules, of_calls, subst}
use Rattle.std.proofs.lemmas.List.FromFn.{length-range_with_len}
use Rattle.std.specs.List.{AllZip}
use Rattle.jm_halves.proofs.Zipped.{zipped_each}
use Rattle.jm_valid.specs.declared.sections.Sections.{Sections}
use Rattle.jm_valid.specs.Parts.{part_slots}
use Rattle.jm_valid.proofs.PartLaws.{IsPart, part_joined, part_room, parts_all}
use Rattle.jm_valid.proofs.entries.contents_of.Goals as goal

pub loop-part-init : goal.loop-part-init
loop-part-init g c =
    let zipped = zipped_each _ _ (IsPart c.in_ok-names.names.sections) c.as_slice.result.now c.in_ok-parts.parts
    (λ x b says. search (rules, of_calls)) c.in_ok-parts.ensures in
    let beside = rw (c.as_slice.ensures, ← c.as_slice-part-items.ensures) at zipped in
    record {
      firsts = c.in_ok-firsts.firsts;
      zipped = subst (λ (s : Sections). AllZip (IsPart s) c.in_ok-firsts.firsts c.as_slice-part-items.result.now)
          c.in_ok-names.ensures.names beside;
      slots = c.in_ok-firsts.ensures;
      contents = record { count = refl; ranges = c.new.ensures.items };
    }

pub add_part-requires : goal.add_part-requires
add_part-requires g c =
    let s = c.args.sections.now in
    let put = c.loop-part.invariant in
    let count = length-range_with_len 0 s.header.length in
    let whole = ap length put.slots in
    let few : length (flat_map (part_slots s.header.length) put.firsts) < 2 ^ 32 = omega (arith, whole, count) in
    part_room s put.firsts c.as_slice-part-items.result.now c.loop-part.part-index c.part-item.result c.loop-part.all put.zipped
    (omega arith) c.part-item.is put.contents few

pub loop-part-preserved : goal.loop-part-preserved
loop-part-preserved g c =
    let put = c.loop-part.invariant in
    record {
      firsts = put.firsts;
      zipped = put.zipped;
      slots = put.slots;
      contents = part_joined c.args.sections.now put.firsts c.as_slice-part-items.result.now c.loop-part.part-index
          c.part-item.result c.loop-part.all c.add_part.new.all put.zipped (omega arith) c.part-item.is put.contents
          c.in_ok-add_part.ensures;
    }

pub returns-clause-count : goal.returns-clause-count
returns-clause-count g c =
    let done = parts_all c.args.sections.now c.as_slice-part-items.result.now c.loop-part.part-index c.loop-part.all
    c.loop-part.invariant (omega arith) in
    done.count

pub returns-clause-ranges : goal.returns-clause-ranges
returns-clause-ranges g c =
    let done = parts_all c.args.sections.now c.as_slice-part-items.result.now c.loop-part.part-index c.loop-part.all
    c.loop-part.invariant (omega arith) in
    done.ranges
