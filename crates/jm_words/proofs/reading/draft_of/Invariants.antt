use Rattle.std.proofs.Common.{◌≡◌, None, map, string_bytes}
use Rattle.jm_words.specs.Reading.{standing_at}
use Rattle.jm_words.specs.Rule.{fault_before}
use Rattle.jm_words.proofs.reading.draft_of.Given as goal

-- what stands at the place was read, and no word before it has a fault
abbrev pub invariant-loop-i : goal.invariant-loop-i
invariant-loop-i l =
    (l.progress ≡ standing_at l.fn.verb (map string_bytes l.fn.words) l.i)
    × (fault_before l.fn.verb (map string_bytes l.fn.words) l.i ≡ None)
