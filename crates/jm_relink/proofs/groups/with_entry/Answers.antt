use Rattle.std.proofs.Common.{ap, option_map, refl, sym, ◌∙◌}
use Rattle.jm_relink.specs.Files.{module_and_path}
use Rattle.jm_relink.specs.Groups.{files_of}
use Rattle.jm_relink.proofs.GroupingLaws.{entry_joins, file_within}
use Rattle.jm_relink.proofs.NameLaws.{path_after}
use Rattle.jm_relink.proofs.groups.with_entry.Goals as goal

pub of-requires : goal.of-requires
of-requires c =
    let text = c.as_slice.ensures ∙ c.in_ok-text.ensures ∙ c.view.ensures in
    (path_after c.args.entry.name c.in-Some.module.now c.in-Some.path.now (ap module_and_path (sym text) ∙ sym c.in-Some.ensures)).0

pub with_file-requires-clause-path : goal.with_file-requires-clause-path
with_file-requires-clause-path c =
    let text = c.as_slice.ensures ∙ c.in_ok-text.ensures ∙ c.view.ensures in
    c.of.ensures
    ∙ (path_after c.args.entry.name c.in-Some.module.now c.in-Some.path.now (ap module_and_path (sym text) ∙ sym c.in-Some.ensures)).1

pub returns-clause-group : goal.returns-clause-group
returns-clause-group c b =
    let text = c.as_slice.ensures ∙ c.in_ok-text.ensures ∙ c.view.ensures in
    let m = c.in-Some.module.now in
    let p = c.in-Some.path.now in
    let cut = ap module_and_path (sym text) ∙ sym c.in-Some.ensures in
    entry_joins b c.args.done.now c.group_of.new.done (option_map (files_of b) c.args.current) c.in_ok-group.group
    c.in_ok-with_file.field-0 c.args.entry m p (record { path = c.of.result; content = c.args.entry.content }) cut
    (c.of.ensures ∙ (path_after c.args.entry.name m p cut).1) refl
    c.in_ok-group.ensures.name c.in_ok-with_file.ensures.name c.in_ok-with_file.ensures.files (c.in_ok-group.ensures.group b)

pub returns-clause-within : goal.returns-clause-within
returns-clause-within c size all here this =
    let so = c.in_ok-group.ensures.within size all here in (
      so.0,
      file_within size c.in_ok-group.group.files c.in_ok-with_file.field-0.files
          (record { path = c.of.result; content = c.args.entry.content }) c.in_ok-with_file.ensures.files so.1 this,
    )
