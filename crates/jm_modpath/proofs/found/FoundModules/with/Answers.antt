use Rattle.jm_modpath.proofs.FoundLaws.{holds_more}
use Rattle.jm_modpath.proofs.found.FoundModules.with.Goals as goal

pub invariant_of-result : goal.invariant_of-result
invariant_of-result c =
    rw c.in_ok-push.ensures.ok
    (holds_more c.self.inside.modules c.args.module c.self.inside.names c.put.new.self c.len-place.result c.self.invariant
    (rw (← c.self.view_is) at c.requires.new) c.requires.texts (rw c.as_slice.ensures at c.in_ok-put.ensures.ok))
