-- A draft and the image of its pool.
use Rattle.std.proofs.Common.{◌≡◌, ℕ, List, ◌++◌, Some, option_map, sym, ap, ◌∙◌}
use Rattle.jm_bytes.specs.declared.words.Order.{Order}
use Rattle.jm_form.specs.Layout.{Written, contents_text, index_text, layout, layout_index, layout_with}
use Rattle.jm_writer.specs.declared.draft.Draft.{Draft}
use Rattle.jm_writer.specs.Drafts.{IsDraft}
use Rattle.jm_writer.proofs.LayoutLaws.{layout_parts}

-- the index, the contents of the resources and the tail are the image
pub draft_image : (order : Order) (pool : List Written) (draft : Draft) → IsDraft order pool draft → layout order pool
    ≡ Some (draft.index ++ (contents_text pool ++ draft.tail))
draft_image order pool draft is =
    ap (option_map (layout_with order pool)) is.has_table
    ∙ ap (λ (l : List ℕ). Some l) (layout_parts order pool is.table
    ∙ sym (ap (λ l. l ++ (contents_text pool ++ draft.tail)) is.index ∙ ap (λ l. index_text (layout_index order is.table pool)
    ++ (contents_text pool ++ l)) is.tail))
