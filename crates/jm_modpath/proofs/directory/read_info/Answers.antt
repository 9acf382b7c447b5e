use Rattle.jm_form.specs.ModuleFiles.{info_name}
use Rattle.jm_modpath.proofs.ListedLaws.{read_taken}
use Rattle.jm_modpath.proofs.StepLaws.{info_is_text, read_none, read_told}
use Rattle.jm_modpath.proofs.TextCuts.{inside_is_text}
use Rattle.jm_modpath.proofs.directory.read_info.Goals as goal

pub read-requires : goal.read-requires
read-requires g c = record {
  text = rw (c.as_slice.ensures, c.in_ok-path.ensures) (inside_is_text c.args.folder.now info_name c.requires info_is_text);
}

pub returns-in-Ok-Some-clause-told : goal.returns-in-Ok-Some-clause-told
returns-in-Ok-Some-clause-told g c =
    read_told c.args.release _ c.args.folder.now _ c.in-Ok-Some.bytes _ c.in_ok-path.ensures
    (rw (c.as_slice.ensures, c.in-Ok-Some.field-0-is) at c.in-Ok-Some.ensures.told) c.info_at.ensures.due

pub returns-in-Ok-None-clause-told : goal.returns-in-Ok-None-clause-told
returns-in-Ok-None-clause-told g c =
    read_none _ c.args.folder.now _ c.in_ok-path.ensures (rw (c.as_slice.ensures, c.in-Ok-None.field-0-is) at c.in-Ok-None.ensures.told)

pub returns-in-Ok-Some-clause-takes : goal.returns-in-Ok-Some-clause-takes
returns-in-Ok-Some-clause-takes g c =
    read_taken _ c.args.folder.now _ c.in-Ok-Some.bytes _ _ c.in_ok-path.ensures
    (rw (c.as_slice.ensures, c.in-Ok-Some.field-0-is) at c.in-Ok-Some.ensures.told) (rw c.in-Ok-Some.field-0-is at c.in-Ok-Some.ensures.handed)
