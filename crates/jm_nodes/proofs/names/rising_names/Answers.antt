use Rattle.std.proofs.Common.{◌∙◌, ◌≤◌, ap, length, arith}
use Rattle.std.proofs.lemmas.List.{length-map, take_all}
use Rattle.jm_form.specs.Rising.{rising}
use Rattle.jm_pool.specs.Pairs.{names_of}
use Rattle.jm_nodes.proofs.NameLaws.{names_next}
use Rattle.jm_nodes.proofs.names.rising_names.Goals as goal

pub loop-place-preserved : goal.loop-place-preserved
loop-place-preserved c = names_next c.args.pool.now c.loop-place.place c.loop-place.names c.push.new.self c.at.result.0
    c.at.result.1.now c.at.ensures c.loop-place.invariant c.in_ok-push.ensures.ok

pub returns : goal.returns
returns c =
    let pool = c.args.pool.now in
    let long = length-map pool (λ p. p.0) in
    let all : length (names_of pool) ≤ c.loop-place.place = omega (arith, long) in
    c.rising.ensures ∙ ap rising (c.loop-place.invariant ∙ take_all c.loop-place.place (names_of pool) all)
