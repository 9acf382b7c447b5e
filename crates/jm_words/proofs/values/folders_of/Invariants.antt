use denote.Shadow.{shadow}
use denote.Text.{Utf8}
use Rattle.std.proofs.Common.{◌≡◌, ◌++◌, length, map, All, IsUtf8}
use Rattle.jm_words.specs.Values.{parts_at, without_slashes}
use Rattle.jm_words.proofs.values.folders_of.Given as goal

-- what is left goes behind what was put, which is text
abbrev pub invariant-loop-part : goal.invariant-loop-part
invariant-loop-part l =
    (map without_slashes (parts_at 58 l.fn.text) ≡ l.folders ++ map without_slashes (parts_at 58 l.rest))
    × All IsUtf8 l.folders × shadow (Utf8 l.rest)

abbrev pub decreases-loop-part : goal.decreases-loop-part
decreases-loop-part l = length l.rest
