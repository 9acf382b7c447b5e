use Rattle.std.proofs.Common.{◌≡◌, None, Some, ap, cond, refl, sym, ◌∙◌}
use Rattle.std.specs.Str.{bytes_eq}
use Rattle.std.specs.Result.{result_err}
use Rattle.jm_form.specs.ModuleFiles.{info_name}
use Rattle.jm_names.specs.ComputedFault.{name_fault}
use Rattle.jm_relink.specs.Files.{file_name}
use Rattle.jm_relink.proofs.ChoosingLaws.{file_chosen}
use Rattle.jm_relink.proofs.choosing.chosen_file.Goals as goal

pub returns-clause-file : goal.returns-clause-file
returns-clause-file c b read =
    let m = c.args.module.now in
    let info = c.args.info.now in
    let path = c.in_ok-path.ensures in
    let named : c.in_ok-name.name ≡ file_name m c.args.file.now.path = c.in_ok-name.ensures
    ∙ ap (file_name m) (c.as_slice.ensures ∙ path) in
    let kept = c.in_ok-described.ensures ∙ ap (λ path. cond (bytes_eq path info_name) (Some info) None) (c.as_slice-3.ensures ∙ path) in
    let sound = sym (ap name_fault (c.as_slice-2.ensures ∙ named)) ∙ sym c.check_name.ensures.fault
    ∙ ap result_err c.in_default.is in
    file_chosen b m info c.args.file.now
    (record { name = c.in_ok-name.name; content = c.args.file.now.content; described = c.in_ok-described.field-0 })
    c.requires read named refl kept sound
