use Rattle.std.proofs.Common.{◌≡◌, ◌++◌, map, drop}
use Rattle.jm_form.specs.Layout.{sized}
use Rattle.jm_writer.proofs.entries.resources_of.Given as goal

abbrev pub invariant-loop-place : goal.invariant-loop-place
invariant-loop-place l = record {
  names : l.names.items ++ map (λ e. e.name) (map sized (drop l.place l.pool)) ≡ map (λ e. e.name) (map sized l.pool);
  sizes : l.sizes.items ++ map (λ e. e.size) (map sized (drop l.place l.pool)) ≡ map (λ e. e.size) (map sized l.pool);
}
