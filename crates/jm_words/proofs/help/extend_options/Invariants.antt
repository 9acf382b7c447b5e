use Rattle.std.proofs.Common.{◌≡◌, ◌++◌, drop, flat_map, map}
use Rattle.jm_words.specs.Help.{options_text, text_in}
use Rattle.jm_words.specs.Rows.{row_of}
use Rattle.jm_words.proofs.help.extend_options.Given as goal

-- what is left goes behind what was put
abbrev pub invariant-loop-row : goal.invariant-loop-row
invariant-loop-row l = l.fn.text ++ options_text l.fn.verb l.fn.part
    ≡ l.text ++ flat_map (text_in l.fn.part) (map row_of (drop l.row-index l.row-items))
