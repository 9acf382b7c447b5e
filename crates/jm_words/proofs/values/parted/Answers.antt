use Rattle.std.proofs.Common.{None, arith, sym}
use Rattle.std.proofs.lemmas.Str.Pattern.{split_once_first}
use Rattle.jm_words.proofs.ValueLaws.{behind_none}
use Rattle.jm_words.proofs.values.parted.Goals as goal

pub returns-in-None-clause-value : goal.returns-in-None-clause-value
returns-in-None-clause-value c =
    sym (behind_none 61 c.args.word.now (split_once_first 61 c.args.word.now None c.in-None.ensures.cases (omega arith)))
