use Rattle.std.proofs.Common.{◌≡◌, ◌++◌, drop, map, take}
use Rattle.jm_plugins.specs.SystemModules.{with_plain_map}
use Rattle.jm_plugins.proofs.system_modules.put_plain_map.Given as goal

abbrev pub invariant-loop-place : goal.invariant-loop-place
invariant-loop-place l = l.pool ≡ map with_plain_map (take l.place l.fn.pool) ++ drop l.place l.fn.pool
