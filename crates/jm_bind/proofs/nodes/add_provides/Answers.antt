use Rattle.std.proofs.Common.{◌+◌, ℕ, List, map, take, rules}
use Rattle.std.proofs.lemmas.List.{map_more, take_all}
use Rattle.jm_modinfo.specs.declared.descriptor.Provides.{Provides}
use Rattle.jm_closure.proofs.NameLaws.{found_at}
use Rattle.jm_bind.specs.Binding.{ProvidesService, UsesService}
use Rattle.jm_bind.specs.Nodes.{Below}
use Rattle.jm_bind.proofs.NodeLaws.{drawn_has, provides_begin, provides_end, provides_more, provides_of, With}
use Rattle.jm_bind.proofs.nodes.add_provides.Goals as goal

abbrev service_of : Provides → List ℕ
service_of provided = provided.service

pub loop-provided-init : goal.loop-provided-init
loop-provided-init c = search (rules, provides_begin)

pub loop-provided-preserved : goal.loop-provided-preserved
loop-provided-preserved c =
    let found = c.args.found.now in
    let Uses = Below (c.args.place + 1) (UsesService found) in
    let Provided = Below c.args.place (ProvidesService found) in
    let items = c.as_slice-provided-items.result.now in
    let at = c.loop-provided.provided-index in
    let x = c.provided-item.result in
    let front = map service_of (take at items) in
    let services = c.node_of.new.services in
    let graph = c.node_of.new.graph in
    record {
      drawn = rw (
        c.in_ok-add.ensures.ok,
        map_more service_of items at x c.loop-provided-test.true,
        ← c.provided-item.is,
      )
          (provides_more found Uses Provided services graph c.args.place front x.service c.in_ok-node.node
          c.requires.place (rw c.as_slice-service.ensures at c.in_ok-node.ensures.node)
          (drawn_has found Uses (With Provided c.args.place front)
          c.loop-provided.services services c.loop-provided.graph graph x.service
          (rw c.as_slice-service.ensures at c.in_ok-node.ensures.has) c.loop-provided.invariant.drawn));
      last = c.in_ok-node.ensures.node;
    }

pub returns : goal.returns
returns c =
    let found = c.args.found.now in
    let one = c.index-found-place.result in
    let items = c.as_slice-provided-items.result.now in
    let all = take_all c.loop-provided.provided-index items c.loop-provided-test.false in
    provides_end found (Below (c.args.place + 1) (UsesService found)) (ProvidesService found)
    c.loop-provided.services c.loop-provided.graph c.args.place
    (map service_of one.descriptor.provides)
    (provides_of found c.args.place one
    (found_at found c.args.place one c.requires.place c.index-found-place.is))
    (rw (all, c.as_slice-provided-items.ensures, ← c.index-found-place.is)
    at c.loop-provided.invariant.drawn)
