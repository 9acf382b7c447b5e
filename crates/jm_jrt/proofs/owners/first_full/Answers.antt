use Rattle.std.proofs.Common.{arith, rules}
use Rattle.std.proofs.lemmas.Bool.{eqb-true, false_from_ne_true}
use Rattle.jm_jrt.proofs.PairLaws.{full_here, full_later, items_more, pair_at}
use Rattle.jm_jrt.proofs.owners.first_full.Goals as goal

pub word-requires : goal.word-requires
word-requires g c =
    (pair_at c.args.index.now.bytes c.args.content.now c.loop-k.k c.requires.sound (omega arith)).flag_fits

pub returns-then-word-ne1-clause-found : goal.returns-then-word-ne1-clause-found
returns-then-word-ne1-clause-found g c = search (rules, eqb-true, false_from_ne_true, full_here, items_more)

pub loop-k-preserved : goal.loop-k-preserved
loop-k-preserved g c = search (rules, full_later, items_more)
