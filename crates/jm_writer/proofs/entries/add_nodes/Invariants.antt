use Rattle.std.proofs.Common.{◌≡◌, ◌++◌, map, drop}
use Rattle.jm_form.specs.Layout.{sized_node}
use Rattle.jm_writer.proofs.entries.add_nodes.Given as goal

abbrev pub invariant-loop-node : goal.invariant-loop-node
invariant-loop-node l = record {
  names : l.entries.names ++ map (λ e. e.name) (map sized_node (drop l.node-index l.nodes))
      ≡ l.fn.entries.names ++ map (λ e. e.name) (map sized_node l.nodes);
  sizes : l.entries.sizes ++ map (λ e. e.size) (map sized_node (drop l.node-index l.nodes))
      ≡ l.fn.entries.sizes ++ map (λ e. e.size) (map sized_node l.nodes);
}
