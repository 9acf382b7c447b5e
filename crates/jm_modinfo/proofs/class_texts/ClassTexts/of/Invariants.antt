use Rattle.std.proofs.Common.{◌≡◌, replicate, None}
use Rattle.jm_modinfo.proofs.class_texts.ClassTexts.of.Given as goal

abbrev pub invariant-loop-k : goal.invariant-loop-k
invariant-loop-k l = l.kept.items ≡ replicate l._k None
