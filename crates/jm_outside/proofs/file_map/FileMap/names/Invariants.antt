use Rattle.std.proofs.Common.{◌≡◌, ◌++◌}
use Rattle.jm_outside.specs.Files.{names_below}
use Rattle.jm_outside.proofs.Map.{files_in}
use Rattle.jm_outside.proofs.file_map.FileMap.names.Given as goal

abbrev pub invariant-loop-path : goal.invariant-loop-path
invariant-loop-path l = record {
  can : (goal.iterator-loop-path).can_next l.path-iterator;
  ends : (goal.iterator-loop-path).is_finite l.path-iterator;
  so_far : l.names ++ names_below l.folder (files_in (λ k. k.items) (λ v. v.items) l.path-iterator) ≡ names_below l.folder l.self;
}
