-- What the layout of resources is: the promise that is kept for each pool whose names are fit.
use Rattle.std.proofs.Common.{◌≡◌, ℕ, ◌≤◌, List, length, Some, sym, subst}
use Rattle.jm_bytes.specs.declared.words.Order.{Order}
use Rattle.jm_form.specs.Greedy.{GreedyTable}
use Rattle.jm_form.specs.Layout.{Written, layout, layout_table, layout_with}
use Rattle.jm_writer.specs.Laid.{CanLay, IsLaidOut}
use Rattle.jm_writer.specs.Drafts.{image_limit}
use Rattle.jm_writer.proofs.LaidLooks.{laid_answers, laid_ordered}
use Rattle.jm_writer.proofs.LaidNodes.{laid_nodes}
use Rattle.jm_writer.proofs.LaidTable.{layout_from}
use Rattle.jm_writer.proofs.LaidWritable.{laid_prefixes, laid_stands, laid_valid}

laid_by : (order : Order) (resources : List Written) → CanLay resources → (table : GreedyTable) → layout_table resources
    ≡ Some table → length (layout_with order resources table) ≤ image_limit → IsLaidOut order resources (layout_with order resources table)
laid_by order resources can table is within = record {
  ordered = laid_ordered order resources can table is within;
  within = within;
  valid = laid_valid order resources can table is within;
  stands = laid_stands order resources can table is within;
  nodes = laid_nodes order resources can table is within;
  prefixes = laid_prefixes order resources can table is within;
  answers = laid_answers order resources can table is within;
}

-- a layout of no more bytes than the limit
pub laid_out : (order : Order) (resources : List Written) (b : List ℕ) → CanLay resources → layout order resources ≡ Some b
    → length b ≤ image_limit → IsLaidOut order resources b
laid_out order resources b can is within =
    let (table, of, whole) = layout_from order resources b is in
    subst (IsLaidOut order resources) whole (laid_by order resources can table of (subst (λ l. length l ≤ image_limit) (sym whole) within))
