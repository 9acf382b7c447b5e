use denote.Shadow.{shadow}
use denote.Text.{Utf8}
use Rattle.std.proofs.Common.{◌≡◌, ◌++◌, length, map}
use Rattle.jm_names.specs.UtfForms.{modified}
use Rattle.jm_words.specs.Values.{parts_at}
use Rattle.jm_words.proofs.values.names_of.Given as goal

-- what is left goes behind what was put
abbrev pub invariant-loop-part : goal.invariant-loop-part
invariant-loop-part l =
    (map modified (parts_at 44 l.fn.text) ≡ l.names ++ map modified (parts_at 44 l.rest)) × shadow (Utf8 l.rest)

abbrev pub decreases-loop-part : goal.decreases-loop-part
decreases-loop-part l = length l.rest
