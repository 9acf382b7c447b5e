use Rattle.std.proofs.Common.{take, rules}
use Rattle.std.proofs.lemmas.List.{take_all, take_more}
use Rattle.jm_closure.proofs.NameLaws.{found_at}
use Rattle.jm_bind.specs.Binding.{ProvidesService, UsesService}
use Rattle.jm_bind.specs.Nodes.{Below}
use Rattle.jm_bind.proofs.NodeLaws.{drawn_has, uses_begin, uses_end, uses_more, uses_of, With}
use Rattle.jm_bind.proofs.nodes.add_uses.Goals as goal

pub loop-service-init : goal.loop-service-init
loop-service-init c = search (rules, uses_begin)

pub loop-service-preserved : goal.loop-service-preserved
loop-service-preserved c =
    let found = c.args.found.now in
    let Uses = Below c.args.place (UsesService found) in
    let Provides = Below c.args.place (ProvidesService found) in
    let texts = c.as_slice-service-items.result.now in
    let at = c.loop-service.service-index in
    let x = c.service-item.result in
    let services = c.node_of.new.services in
    let graph = c.node_of.new.graph in
    record {
      drawn = rw (c.in_ok-add.ensures.ok, take_more texts at x c.loop-service-test.true, ← c.service-item.is)
          (uses_more found Uses Provides services graph c.args.place (take at texts) x c.in_ok-node.node
          c.requires.place (rw c.as_slice-service.ensures at c.in_ok-node.ensures.node)
          (drawn_has found (With Uses c.args.place (take at texts)) Provides
          c.loop-service.services services c.loop-service.graph graph x
          (rw c.as_slice-service.ensures at c.in_ok-node.ensures.has) c.loop-service.invariant.drawn));
      last = c.in_ok-node.ensures.node;
    }

pub returns : goal.returns
returns c =
    let found = c.args.found.now in
    let one = c.index-found-place.result in
    let texts = c.as_slice-service-items.result.now in
    let all = take_all c.loop-service.service-index texts c.loop-service-test.false in
    uses_end found (UsesService found) (Below c.args.place (ProvidesService found))
    c.loop-service.services c.loop-service.graph c.args.place one.descriptor.uses
    (uses_of found c.args.place one
    (found_at found c.args.place one c.requires.place c.index-found-place.is))
    (rw (all, c.as_slice-service-items.ensures, ← c.index-found-place.is)
    at c.loop-service.invariant.drawn)
