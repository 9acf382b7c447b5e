use Rattle.std.proofs.Common.{◌≡◌, ◌++◌, drop, flat_map, map}
use Rattle.jm_words.specs.Help.{line_text, verb_text}
use Rattle.jm_words.proofs.help.extend_verb.Given as goal

-- what is left goes behind what was put
abbrev pub invariant-loop-line : goal.invariant-loop-line
invariant-loop-line l = l.fn.text ++ verb_text l.fn.verb
    ≡ l.text ++ flat_map line_text (map (λ line. (line.0.now, line.1.now)) (drop l.line-index l.line-items))
