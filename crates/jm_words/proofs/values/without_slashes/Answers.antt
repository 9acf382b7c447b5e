use Rattle.jm_words.proofs.ValueLaws.{trimmed_is}
use Rattle.jm_words.proofs.values.without_slashes.Goals as goal

pub returns : goal.returns
returns c = trimmed_is c.args.text.now c.trim_end_matches.result.now c.trim_end_matches.ensures.matches
