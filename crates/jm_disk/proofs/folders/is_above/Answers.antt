use Rattle.std.proofs.Common.{sym, ◌∙◌, ap, arith}
use Rattle.std.specs.Option.{option_copied}
use Rattle.jm_disk.proofs.Last.{rising_last, rising_one}
use Rattle.jm_disk.proofs.folders.is_above.Goals as goal

pub returns-in-Some : goal.returns-in-Some
returns-in-Some c = λ above rising. rising_last c.args.names.now c.in-Some.last.now c.args.name.now (sym c.last.ensures.value
    ∙ ap option_copied c.in-Some.is) (rw (← c.as_slice.ensures, ← c.cmp.ensures, ← c.is_lt.ensures) above) rising

pub returns-in-None : goal.returns-in-None
returns-in-None c = λ _ rising. rising_one c.args.names.now c.args.name.now (omega (arith, c.in-None.ensures.item.3)) rising
