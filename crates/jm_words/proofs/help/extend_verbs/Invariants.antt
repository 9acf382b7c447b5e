use Rattle.std.proofs.Common.{◌≡◌, ◌++◌, drop, flat_map}
use Rattle.jm_words.specs.Help.{verb_text}
use Rattle.jm_words.specs.Tables.{verbs}
use Rattle.jm_words.proofs.help.extend_verbs.Given as goal

-- what is left goes behind what was put
abbrev pub invariant-loop-verb : goal.invariant-loop-verb
invariant-loop-verb l = l.fn.text ++ flat_map verb_text verbs ≡ l.text ++ flat_map verb_text (drop l.verb-index l.verb-items)
