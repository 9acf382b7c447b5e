use Rattle.std.proofs.Common.{◌<◌, ◌%◌, length, get_or, ap, ◌∙◌, arith}
use Rattle.jm_redirect.proofs.SizeLaws.{size_of_le, size_at, turns_more}
use Rattle.std.proofs.lemmas.List.FromFn.{length-map-range_with_len}
use Rattle.jm_redirect.specs.Turns.{size_of}
use Rattle.jm_redirect.proofs.turns.turns_of.Goals as goal

pub bounds-sizes-bucket : goal.bounds-sizes-bucket
bounds-sizes-bucket c =
    let positive : 0 < c.args.slots = c.requires.some (omega arith) in
    let below : get_or c.args.hashes.now c.loop-place.place 0 % c.args.slots < c.args.slots = omega arith in
    let long = ap length c.requires.sizes ∙ length-map-range_with_len (size_of c.args.hashes.now c.args.slots) 0 c.args.slots in
    omega (arith, below, long)

pub overflow_sub-hashes : goal.overflow_sub-hashes
overflow_sub-hashes c =
    let positive : 0 < c.args.slots = c.requires.some (omega arith) in
    let below : get_or c.args.hashes.now c.loop-place.place 0 % c.args.slots < c.args.slots = omega arith in
    let is = size_at c.args.hashes.now c.args.sizes.now c.args.slots (get_or c.args.hashes.now c.loop-place.place 0 % c.args.slots)
    c.requires.sizes below in
    let few = size_of_le c.args.hashes.now c.args.slots (get_or c.args.hashes.now c.loop-place.place 0 % c.args.slots) in
    omega (arith, is, few)

pub loop-place-preserved : goal.loop-place-preserved
loop-place-preserved c =
    let positive : 0 < c.args.slots = c.requires.some (omega arith) in
    let below : get_or c.args.hashes.now c.loop-place.place 0 % c.args.slots < c.args.slots = omega arith in
    c.in_ok-push.ensures.ok ∙ turns_more c.args.hashes.now c.args.sizes.now c.args.slots c.loop-place.place c.loop-place.turns
    c.requires.sizes below c.loop-place.invariant
