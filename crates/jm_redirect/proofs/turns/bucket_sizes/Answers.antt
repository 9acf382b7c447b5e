use Rattle.std.proofs.Common.{rules, ◌≡◌, replicate, ◌<◌, ◌%◌, ◌+◌, set, length, get_or, refl, ap, ◌∙◌, arith}
use Rattle.std.proofs.lemmas.List.{get_or_default}
use Rattle.jm_redirect.proofs.SizeLaws.{length-sizes, sizes_none, sizes_fit, sizes_more}
use Rattle.jm_redirect.proofs.turns.bucket_sizes.Goals as goal

pub loop-hash-init : goal.loop-hash-init
loop-hash-init c =
    let zeros : c.in_ok-sizes.sizes.items ≡ replicate c.args.slots 0 = search rules in
    zeros ∙ sizes_none c.args.hashes.now c.args.slots

pub index_mut-requires : goal.index_mut-requires
index_mut-requires c =
    let positive : 0 < c.args.slots = c.requires.some (omega arith) in
    let below : get_or c.args.hashes.now c.loop-hash.hash-index 0 % c.args.slots < c.args.slots = omega arith in
    let long = ap length c.loop-hash.invariant ∙ length-sizes c.args.hashes.now c.args.slots c.loop-hash.hash-index in
    omega (arith, below, long)

pub overflow_add-index_mut : goal.overflow_add-index_mut
overflow_add-index_mut c =
    let positive : 0 < c.args.slots = c.requires.some (omega arith) in
    let below : get_or c.args.hashes.now c.loop-hash.hash-index 0 % c.args.slots < c.args.slots = omega arith in
    let long = ap length c.loop-hash.invariant ∙ length-sizes c.args.hashes.now c.args.slots c.loop-hash.hash-index in
    let in_sizes : get_or c.args.hashes.now c.loop-hash.hash-index 0 % c.args.slots < length c.loop-hash.sizes.items =
    omega (arith, below, long) in
    let fit = sizes_fit c.args.hashes.now c.loop-hash.sizes.items c.args.slots c.loop-hash.hash-index _ c.loop-hash.invariant
    c.loop-hash-test.true below in
    let read = c.index_mut.ensures.value ∙ get_or_default c.loop-hash.sizes.items (get_or c.args.hashes.now c.loop-hash.hash-index 0
    % c.args.slots) c.index_mut.result.now 0 in_sizes in
    omega (arith, fit, read)

pub loop-hash-preserved : goal.loop-hash-preserved
loop-hash-preserved c =
    let positive : 0 < c.args.slots = c.requires.some (omega arith) in
    let below : get_or c.args.hashes.now c.loop-hash.hash-index 0 % c.args.slots < c.args.slots = omega arith in
    let long = ap length c.loop-hash.invariant ∙ length-sizes c.args.hashes.now c.args.slots c.loop-hash.hash-index in
    let in_sizes : get_or c.args.hashes.now c.loop-hash.hash-index 0 % c.args.slots < length c.loop-hash.sizes.items =
    omega (arith, below, long) in
    let more = sizes_more c.args.hashes.now c.loop-hash.sizes.items c.args.slots c.loop-hash.hash-index _ c.loop-hash.invariant
    c.loop-hash-test.true below refl in
    let read = c.index_mut.ensures.value ∙ get_or_default c.loop-hash.sizes.items (get_or c.args.hashes.now c.loop-hash.hash-index 0
    % c.args.slots) c.index_mut.result.now 0 in_sizes in
    ap (λ n. set c.loop-hash.sizes.items (get_or c.args.hashes.now c.loop-hash.hash-index 0 % c.args.slots) (n + 1)) read ∙ more
