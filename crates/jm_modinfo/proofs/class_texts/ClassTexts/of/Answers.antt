use Rattle.std.proofs.Common.{◌≡◌, length, None, arith}
use Rattle.std.proofs.lemmas.List.{replicate_more}
use Rattle.jm_modinfo.proofs.KeptLaws.{kept_none}
use Rattle.jm_modinfo.proofs.class_texts.ClassTexts.of.Goals as goal

pub loop-k-preserved : goal.loop-k-preserved
loop-k-preserved c = rw (c.in_ok-push.ensures.items, c.loop-k.invariant) (replicate_more c.loop-k._k None)

pub invariant_of-result : goal.invariant_of-result
invariant_of-result c =
    let all : c.loop-k._k ≡ length c.args.class.now.pool = omega (arith, c.loop-k-test.false, c.loop-k.auto._k-end, c.len-k-end.ensures) in
    rw (c.loop-k.invariant, all) (kept_none c.args.class.now.pool)
