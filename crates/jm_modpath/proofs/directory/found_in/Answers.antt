use Rattle.jm_modpath.proofs.PathLaws.{found_told}
use Rattle.jm_modpath.proofs.directory.found_in.Goals as goal

pub returns-clause-told : goal.returns-clause-told
returns-clause-told g c =
    found_told c.args.release _ c.args.directory.now c.in_ok-names.names _ c.in_ok-names.ensures.told
    (rw (c.in_ok-names.ensures.files, c.as_slice.ensures) at c.found_among.ensures.told)
