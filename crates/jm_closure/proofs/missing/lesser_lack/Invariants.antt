use Rattle.std.proofs.Common.{◌≡◌, drop, option_map}
use Rattle.jm_closure.specs.ComputedLeast.{is_lost, least_of}
use Rattle.jm_closure.specs.Modules.{needed_by}
use Rattle.jm_closure.proofs.missing.lesser_lack.Given as goal

abbrev pub invariant-loop-need : goal.invariant-loop-need
invariant-loop-need l =
    least_of (is_lost l.names) (option_map (λ x. x.now) l.least) (needed_by (drop l.need-index l.candidate.descriptor.needs))
    ≡ least_of (is_lost l.names) (option_map (λ x. x.now) l.fn.least) (needed_by l.candidate.descriptor.needs)
