use Rattle.std.proofs.Common.{◌≡◌, length, arith}
use Rattle.jm_closure.proofs.NameLaws.{found_at, index_more, index_all}
use Rattle.jm_closure.proofs.names.names_of.Goals as goal

pub loop-place-preserved : goal.loop-place-preserved
loop-place-preserved c =
    index_more c.args.found.now c.loop-place.names c.put.new.self c.loop-place.place c.index-found-place.result
    c.requires
    (found_at c.args.found.now c.loop-place.place c.index-found-place.result c.loop-place-test.true c.index-found-place.is)
    (rw c.as_slice.ensures at c.in_ok-put.ensures.ok) c.loop-place.invariant

pub returns : goal.returns
returns c =
    let all : c.loop-place.place ≡ length c.args.found.now = omega arith in
    index_all c.args.found.now c.loop-place.names (rw all at c.loop-place.invariant)
