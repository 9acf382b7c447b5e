use Rattle.std.proofs.Common.{ℕ, List, [], ◌<◌, length, arith, map, take, get_or, Bor}
use Rattle.std.proofs.lemmas.List.{get_or-map, length-map, take_more}
use Rattle.jm_nodes.proofs.FrontLaws.{fronts_next}
use Rattle.jm_nodes.proofs.fronts.all_fronts.Goals as goal

pub loop-place-preserved : goal.loop-place-preserved
loop-place-preserved c =
    let names = c.args.names.now in
    let place = c.loop-place.place in
    let plain : List (List ℕ) = map (λ name. name.now) names in
    let none : Bor (List ℕ) = record { ref_ptr = (0, 0); now = [] } in
    let long = length-map names (λ (name : Bor (List ℕ)). name.now) in
    let below : place < length plain = omega (arith, c.loop-place-test.true) in
    let is = get_or-map (λ (name : Bor (List ℕ)). name.now) names place none [] c.loop-place-test.true in
    rw (take_more plain place [] below, c.in_ok-put_fronts.ensures, is)
    (fronts_next (take place plain) (get_or names place none).now c.known_len.result (map (λ front. front.now) c.loop-place.list)
    (rw is at c.known_len.ensures.within) c.loop-place.invariant (rw is at c.known_len.ensures.known))
