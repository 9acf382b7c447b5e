use Rattle.std.proofs.Common.{All, subst, arith}
use Rattle.std.proofs.lemmas.List.{take_all}
use Rattle.jm_redirect.specs.Prefixes.{BeginsWith}
use Rattle.jm_redirect.proofs.PrefixLaws.{begins_more}
use Rattle.jm_redirect.proofs.prefix.shared_prefix.Goals as goal

pub loop-name-preserved : goal.loop-name-preserved
loop-name-preserved c =
    begins_more c.loop-name.prefix.now c.args.names.now c.loop-name.name-index c.shared_len.result _ c.loop-name-test.true
    c.shared_len.ensures.text c.shared_len.ensures.same c.loop-name.invariant

pub returns : goal.returns
returns c =
    subst (All (λ name. BeginsWith c.loop-name.prefix.now name.now)) (take_all c.loop-name.name-index c.args.names.now (omega arith))
    c.loop-name.invariant
