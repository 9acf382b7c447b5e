-- The length of a layout, which is the same in both orders.
use Rattle.std.proofs.Common.{◌≡◌, ℕ, ◌+◌, ◌*◌, List, length, map, Some, sym, ap, ◌∙◌}
use Rattle.std.specs.Prelude.{sum}
use Rattle.jm_bytes.proofs.Choice.{same_some}
use Rattle.jm_bytes.specs.declared.words.Order.{Order}
use Rattle.jm_form.specs.Strings.{section_of}
use Rattle.jm_form.specs.Greedy.{GreedyTable}
use Rattle.jm_form.specs.Layout.{Written, all_names, all_sized, layout, layout_index, layout_table, layout_with, locations_text, texts_of}
use Rattle.jm_writer.proofs.LaidTable.{layout_from, table_found}
use Rattle.jm_writer.proofs.LayoutLaws.{layout_length}

-- the header, two words a slot, the rows, the strings, and the contents, whose sizes are known before
-- them
pub laid_length : (order : Order) (resources : List Written) (table : GreedyTable) (b : List ℕ) → layout_table resources
    ≡ Some table → layout order resources ≡ Some b
    → length b
    ≡ ((28 + 8 * table.length) + length (locations_text (layout_index order table resources))
    + length (section_of (texts_of (all_names resources)))) + sum (map (λ e. e.size) (all_sized resources))
laid_length order resources table b of is =
    let (other, found, whole) = layout_from order resources b is in
    let same : other ≡ table = same_some other table (sym found ∙ of) in
    ap length (sym whole) ∙ ap (λ t. length (layout_with order resources t)) same
    ∙ layout_length order resources table (table_found (all_names resources) table of).redirects
