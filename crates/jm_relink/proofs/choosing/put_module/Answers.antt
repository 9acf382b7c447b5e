use Rattle.jm_relink.proofs.ChoosingLaws.{infos_read}
use Rattle.jm_relink.proofs.GatherLaws.{module_there}
use Rattle.jm_relink.proofs.choosing.put_module.Goals as goal

pub returns-clause-chooses : goal.returns-clause-chooses
returns-clause-chooses c b has =
    let modules = c.args.modules.now in
    let files = rw c.as_slice-3.ensures at c.index-as_slice-place-3.is in
    let at_place = module_there b modules c.args.place c.index-as_slice-place.result c.index-as_slice-place-3.result
    c.requires.modules
    c.requires.within (rw c.as_slice.ensures at c.index-as_slice-place.is) files in
    let read = infos_read b modules c.args.place c.index-as_slice-place-2.result c.index-as_slice-place-3.result
    c.requires.modules has
    c.requires.within (rw c.as_slice-2.ensures at c.index-as_slice-place-2.is) files in
    let put = c.put_files.ensures.chooses b (rw (c.as_slice-4.ensures, c.as_slice-5.ensures) read) in
    rw at_place (rw (c.as_slice-module.ensures, c.as_slice-5.ensures) at put)
