use Rattle.std.proofs.Common.{◌∙◌, sym, ap}
use Rattle.std.proofs.lemmas.Slice.Eq.{bytes_eq-Decides}
use Rattle.std.specs.Cmp.Lexicographic.{slice_cmp}
use Rattle.std.specs.Ordering.{nat_cmp}
use Rattle.jm_names.specs.Names.{join}
use Rattle.jm_names.specs.Pieces.{cut_of}
use Rattle.jm_reader.specs.Views.{without_folder}
use Rattle.jm_reader.proofs.OrderLaws.{same_folder}
use Rattle.jm_reader.proofs.order.order.Goals as goal

pub returns-then-eq-2 : goal.returns-then-eq-2
returns-then-eq-2 c =
    let one = cut_of c.args.pieces.now in
    let other = cut_of c.args.other.now in
    let same_module = (bytes_eq-Decides one.module other.module).0 (sym c.eq.ensures ∙ c.if-eq.true) in
    let same_parent = (bytes_eq-Decides one.parent other.parent).0 (sym c.eq-then-eq.ensures ∙ c.if-eq-2.true) in
    c.order_from.ensures
    ∙ ap (λ l. slice_cmp nat_cmp l c.of-other_bytes.result) (c.of-bytes.ensures ∙ ap join c.without_folder-tail.ensures)
    ∙ ap (slice_cmp nat_cmp (join (without_folder one))) (c.of-other_bytes.ensures ∙ ap join c.without_folder-other_tail.ensures)
    ∙ same_folder one other same_module same_parent
