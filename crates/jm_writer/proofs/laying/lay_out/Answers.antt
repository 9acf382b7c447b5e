use Rattle.std.proofs.Common.{All, sym, subst}
use Rattle.jm_form.specs.Strings.{IsZeroFree}
use Rattle.jm_writer.proofs.laying.lay_out.Goals as goal

pub strings_within-requires : goal.strings_within-requires
strings_within-requires c = subst (All IsZeroFree) (sym c.as_slice.ensures) c.requires.entries.free
