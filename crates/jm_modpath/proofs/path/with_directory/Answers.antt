use Rattle.jm_modpath.specs.Listed.{IsInside}
use Rattle.jm_modpath.proofs.ListedLaws.{with_from}
use Rattle.jm_modpath.proofs.path.with_directory.Goals as goal

pub returns-clause-from : goal.returns-clause-from
returns-clause-from g c m there =
    with_from c.args.found c.into_list-modules.result (λ m. IsInside c.args.directory.now m.folder)
    (rw (← c.into_list-modules.ensures.list) at c.in_ok-found_in.ensures.below) m (rw c.in_ok-with_unhidden.ensures at there)
