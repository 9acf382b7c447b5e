use Rattle.std.proofs.Common.{ℕ, List, ◌+◌, ◌-◌, ◌/◌, ◌∙◌, ap₂, get_or, arith}
use Rattle.jm_valid.proofs.PassageLaws.{passage_read}
use Rattle.jm_valid.proofs.row_names.Names.passage_behind.Goals as goal

pub returns : goal.returns
returns c =
    let names = c.args.self.now in
    let nth = c.args.place / 512 + 1 in
    let size = c.len-count.ensures in
    let test = c.if-nth-count.false in
    let read = c.index-as_slice-count.result in
    c.as_slice-2.ensures ∙ c.index-as_slice-count.is ∙ ap₂ (λ n (l : List (List ℕ)). get_or l (n - 1 - nth) read) size c.as_slice.ensures
    ∙ passage_read names.sections.texts.now names.passages nth read names.passages_are (omega (arith, size, test))
