use Rattle.jm_modinfo.specs.Written.{numbers_text}
use Rattle.jm_modinfo.proofs.WrittenLoops.{numbers-next}
use Rattle.jm_modinfo.proofs.writing.name_numbers.Goals as goal

pub loop-k-preserved : goal.loop-k-preserved
loop-k-preserved c =
    numbers-next c.args.count c.loop-k.k c.loop-k-test.true c.loop-k.numbers.items c.put16.new.text.items
    (numbers_text 6 c.args.count) c.loop-k.invariant c.in_ok-put16.ensures.text
