use Rattle.std.proofs.Common.{get_or}
use Rattle.jm_modset.proofs.ItemLaws.{item_at, item_of, taken_more}
use Rattle.jm_modset.proofs.files.files_at.Goals as goal

pub module_files-requires : goal.module_files-requires
module_files-requires c =
    let set = c.args.set.now in
    let place = get_or c.args.places.now c.loop-place.place-index 0 in
    item_of set c.requires.set place _ _
    (item_at set c.requires.set place _ _ (c.requires.places c.loop-place.place-index 0 c.loop-place-test.true)
    (rw c.as_slice.ensures at c.index-as_slice-place.is) (rw c.as_slice-in-loop-place.ensures at c.index-as_slice-place-in-loop-place.is))

pub loop-place-preserved : goal.loop-place-preserved
loop-place-preserved c =
    let set = c.args.set.now in
    let place = get_or c.args.places.now c.loop-place.place-index 0 in
    let there = item_at set c.requires.set place c.index-as_slice-place.result c.index-as_slice-place-in-loop-place.result
    (c.requires.places c.loop-place.place-index 0 c.loop-place-test.true)
    (rw c.as_slice.ensures at c.index-as_slice-place.is) (rw c.as_slice-in-loop-place.ensures at c.index-as_slice-place-in-loop-place.is) in
    taken_more set c.args.places.now c.loop-place.place-index c.index-as_slice-place.result c.index-as_slice-place-in-loop-place.result
    c.loop-place.files c.in_ok-module_files.field-0 c.append.new.files c.loop-place-test.true there c.loop-place.invariant
    c.in_ok-module_files.ensures c.in_ok-append.ensures
