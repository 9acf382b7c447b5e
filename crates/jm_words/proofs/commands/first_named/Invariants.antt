use Rattle.std.proofs.Common.{◌≡◌, drop}
use Rattle.std.specs.List.{find}
use Rattle.std.specs.Str.{bytes_eq}
use Rattle.jm_words.specs.Tables.{verb_name}
use Rattle.jm_words.proofs.commands.first_named.Given as goal

-- the commands so far have another name
abbrev pub invariant-loop-verb : goal.invariant-loop-verb
invariant-loop-verb l =
    find (λ verb. bytes_eq (verb_name verb) l.name) l.verbs
    ≡ find (λ verb. bytes_eq (verb_name verb) l.name) (drop l.verb-index l.verbs)
