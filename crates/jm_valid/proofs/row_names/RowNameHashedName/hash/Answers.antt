use Rattle.std.proofs.Common.{◌^◌, ◌%◌, [], ◌∷◌, ap, ◌∙◌}
use Rattle.jm_form.specs.Texts.{text_at}
use Rattle.jm_names.specs.Hash.{state_after}
use Rattle.jm_names.specs.Names.{Cut}
use Rattle.jm_valid.specs.Marks.{with_marks}
use Rattle.jm_valid.specs.Sections.{strings_in}
use Rattle.jm_valid.proofs.NameLaws.{joined_state}
use Rattle.jm_valid.proofs.row_names.RowNameHashedName.hash.Goals as goal

pub returns : goal.returns
returns c =
    let section = strings_in c.args.self.now.names.now.sections in
    let row = c.args.self.now.row in
    let cut : Cut = record {
      «module» = text_at section row.module;
      parent = text_at section row.parent;
      base = text_at section row.base;
      ext = text_at section row.ext;
    } in
    let behind_parent = c.state_after_marked-state-2.ensures
    ∙ ap (λ s. state_after s (with_marks [] cut.parent (47 ∷ []))) c.state_after_marked-state.ensures in
    let behind_base = c.state_after_text-state.ensures ∙ ap (λ s. state_after s cut.base) behind_parent in
    c.hash_of_state.ensures ∙ ap (λ s. s % 2 ^ 31) (c.state_after_marked.ensures
    ∙ ap (λ s. state_after s (with_marks (46 ∷ []) cut.ext [])) behind_base ∙ joined_state cut c.args.seed)
