use Rattle.std.proofs.Common.{◌∙◌, ℕ, List, ap, arith, sym}
use Rattle.jm_pool.specs.Pairs.{with_bytes_at}
use Rattle.jm_plugins.proofs.SystemModulesLaws.{map_put, other_stays}
use Rattle.jm_plugins.proofs.system_modules.put_plain_map.Goals as goal
use Rattle.jm_plugins.proofs.system_modules.put_plain_map.Goals.{then-is_map+in_ok-copy_of, else-is_map}

pub loop-place-preserved : goal.loop-place-preserved
loop-place-preserved c =
    let pairs = c.args.pool.now in
    let pool = c.loop-place.pool in
    let place = c.loop-place.place in
    let pair : List ℕ × List ℕ = (c.at.result.0.now, c.at.result.1.now) in
    elim c.if-is_map.branch [
      | then-is_map+in_ok-copy_of w ↦ rw w.pool-is
          (map_put pairs pool place pair (omega arith) c.loop-place.invariant c.at.ensures (sym c.is_map.ensures ∙ w.if-is_map.true) _
          (w.replace.ensures ∙ ap (with_bytes_at pool place) (w.in_ok-copy_of.ensures ∙ w.plain_map.ensures)))
      | else-is_map w ↦ rw w.pool-is
          (other_stays pairs pool place pair (omega arith) c.loop-place.invariant c.at.ensures (sym c.is_map.ensures
          ∙ w.if-is_map.false))
    ]
