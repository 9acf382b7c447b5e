use Rattle.std.proofs.Common.{◌∙◌, sym, ap}
use Rattle.std.proofs.lemmas.Bool.{false≢true}
use Rattle.jm_form.specs.Entries.{spelled_row}
use Rattle.jm_reader.proofs.entries.held_by.Goals as goal

-- where the texts of the rows end, the row has its pieces
pub returns-in_err-pieces-clause-spare : goal.returns-in_err-pieces-clause-spare
returns-in_err-pieces-clause-spare g c =
    let there = sym (c.in_ok-row.ensures ∙ ap spelled_row c.row_of_slot.ensures.row) in
    absurd (false≢true (c.in_err-pieces.ensures.ends ∙ c.requires.ends c.args.slot c.in_ok-row.row c.requires.below there))
