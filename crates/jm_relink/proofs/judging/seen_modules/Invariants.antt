use Rattle.std.proofs.Common.{◌≡◌, ◌++◌, ℕ, List, [], All, map}
use Rattle.jm_relink.specs.declared.entries.ModuleEntries.{ModuleEntries}
use Rattle.jm_relink.specs.declared.judging.SeenModule.{SeenModule}
use Rattle.jm_relink.specs.Entries.{AreInfosIn, HasInfoAt}
use Rattle.jm_relink.specs.Groups.{group_in}
use Rattle.jm_relink.specs.Judging.{groups_due, seen_in}
use Rattle.jm_relink.proofs.judging.seen_modules.Given as goal

abbrev pub invariant-loop-module : goal.invariant-loop-module
invariant-loop-module l = record {
  can : (goal.iterator-loop-module).can_next l.module-iterator;
  ends : (goal.iterator-loop-module).is_finite l.module-iterator;
  all : l.yielded ++ l.module-iterator.rest.items ≡ l.fn.modules;
  files : map (λ (s : SeenModule). s.files) l.done ≡ map (λ (m : ModuleEntries). m.files) l.yielded;
  so_far : (b : List ℕ) → All (HasInfoAt b) l.fn.modules → AreInfosIn b l.fn.modules l.infos
      → groups_due l.release (map (seen_in b) l.done) (map (group_in b) l.module-iterator.rest.items)
      ≡ groups_due l.release [] (map (group_in b) l.fn.modules);
}
