use Rattle.std.proofs.Common.{◌≡◌}
use Rattle.std.specs.Io.KnownBytes.{Keeps}
use Rattle.jm_outside.proofs.std_streams.StdSourceSource.take.Given as goal

abbrev pub invariant-loop : goal.invariant-loop
invariant-loop g l =
    (l.self.faults ≡ l.fn.self.faults) × Keeps (g.R.Read.remaining l.fn.self.input) (g.R.Read.remaining l.self.input)
