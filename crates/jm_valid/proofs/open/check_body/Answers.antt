use Rattle.std.proofs.Common.{rules, of_calls}
use Rattle.jm_halves.proofs.Least.{first_weaker}
use Rattle.jm_valid.proofs.open.check_body.Goals as goal

pub check_slots-requires : goal.check_slots-requires
check_slots-requires g c = first_weaker _ _ c.first_some-fault.ensures (λ i r from to says. search (rules, of_calls))
