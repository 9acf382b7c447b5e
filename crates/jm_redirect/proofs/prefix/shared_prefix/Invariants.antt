use Rattle.std.proofs.Common.{take, All}
use Rattle.jm_redirect.specs.Prefixes.{BeginsWith}
use Rattle.jm_redirect.proofs.prefix.shared_prefix.Given as goal

abbrev pub invariant-loop-name : goal.invariant-loop-name
invariant-loop-name l = All (λ name. BeginsWith l.prefix name.now) (take l.name-index l.names)
