use Rattle.std.proofs.Common.{◌≡◌, ◌≤◌, ◌+◌, None, take}
use Rattle.jm_extract.specs.Filed.{sizes}
use Rattle.jm_inspect.specs.NodeSteps.{JudgesRead}
use Rattle.jm_inspect.proofs.nodes.judge_nodes.Given as goal

abbrev pub invariant-loop-node : goal.invariant-loop-node
invariant-loop-node g l = record {
  files : g.S.Shelf.files l.shelf ≡ g.S.Shelf.files l.fn.shelf;
  count : g.S.Shelf.faults l.shelf ≡ g.S.Shelf.faults l.fn.shelf;
  metered : l.reads.bytes ≡ l.judging.image.index.now.bytes;
  judged : JudgesRead l.judging.image.index.now (g.S.Shelf.files l.fn.shelf) l.judging.image.path.now (take l.node-index l.entries) None;
  handed : g.S.Shelf.handed l.shelf ≤ g.S.Shelf.handed l.fn.shelf + sizes (take l.node-index l.entries);
}
