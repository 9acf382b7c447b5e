use Rattle.std.proofs.Common.{◌≡◌, ◌++◌, take}
use Rattle.jm_names.specs.Shown.{shown_text}
use Rattle.jm_names.proofs.printed.extend_shown_text.Given as goal

abbrev pub invariant-loop-byte : goal.invariant-loop-byte
invariant-loop-byte l = l.text.items ≡ l.fn.text.items ++ shown_text (take l.byte-index l.bytes)
