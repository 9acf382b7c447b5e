use Rattle.std.proofs.Common.{◌≡◌, ◌++◌, ◌+◌, length, drop}
use Rattle.jm_compact.specs.Pieces.{renumbered}
use Rattle.jm_compact.specs.Steps.{AreIn, by_numbers}
use Rattle.jm_compact.proofs.sites.put_renumbered.Given as goal

abbrev pub invariant-loop-site : goal.invariant-loop-site
invariant-loop-site l =
    (l.at + length l.rest ≡ l.place + length l.bytes)
    × AreIn (drop l.site-index l.sites) l.at (l.place + length l.bytes)
    × (l.text.items ++ renumbered (by_numbers l.numbers) (drop l.site-index l.sites) l.at l.rest ≡ l.fn.text.items
    ++ renumbered (by_numbers l.numbers) l.sites l.place l.bytes)
