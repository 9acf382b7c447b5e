-- What is given: one thing more, and a value that is taken out.
use Rattle.std.proofs.Common.{◌≡◌, ℕ, zero, suc, ◌<◌, Bool, true, false, List, [], ◌∷◌, ◌++◌, length, get_or}
use Rattle.std.proofs.Common.{Option, Some, None, refl, ap, ◌∙◌, arith, append-nil}
use Rattle.std.specs.Prelude.{filter, is_none, slice_set}
use Rattle.std.specs.List.{cons_option, filter_map}
use Rattle.std.proofs.lemmas.List.Elements.{filter-append, filter_map-append}
use denote.Enum.Bare.{same_true}
use Rattle.jm_words.specs.contracts.tables.Field.{the_type}
use Rattle.jm_words.specs.declared.drafts.Draft.{Draft}
use Rattle.jm_words.specs.declared.given.Value.{Value}
use Rattle.jm_words.specs.declared.tables.Field.{Field}
use Rattle.jm_words.specs.declared.tasks.Plugin.{Plugin}
use Rattle.jm_words.specs.Drafts.{LeavesOthers, draft_of, kept_with, the, with_given}
use Rattle.jm_words.specs.Givens.{Given, plugin_in}
use Rattle.jm_words.specs.Reading.{with_word}
use Rattle.jm_words.specs.Tables.{same_field}

same_one : (one other : Field) → same_field one other ≡ true → one ≡ other
same_one one other same = same_true the_type tt one other same

-- what stands for one value leaves those of the other fields
pub others_left : (field : Field) (v : Value) (values : List Given) (i : ℕ) (d e : Given) → i < length values
    → same_field (get_or values i e).field field ≡ true
    → LeavesOthers field values (slice_set values i (record (get_or values i d) { value = v }))
others_left field v [] i d e below same other differs = absurd (omega (arith, below))
others_left field v (g ∷ values) zero d e below same other differs =
    let no : same_field g.field other ≡ false = ap (λ (f : Field). same_field f other) (same_one g.field field same) ∙ differs in
    rw no refl
others_left field v (g ∷ values) (suc i) d e below same other differs =
    go (same_field g.field other) refl (others_left field v values i d e (omega (arith, below)) same other differs)
  where
    left : List Given
    left = slice_set values i (record (get_or values i d) { value = v })

    go : (here : Bool) → same_field g.field other ≡ here → the other left ≡ the other values
        → the other (g ∷ left) ≡ the other (g ∷ values)
    go true e rest = rw e refl
    go false e rest = rw e rest

kept_none : (at : ℕ) (kept : Option ℕ) → kept_with at None kept ≡ kept
kept_none at None = refl
kept_none at (Some first) = refl

-- all that is given, with what the word of a number gives besides
pub draft_of_more : (at : ℕ) (kept : Option ℕ) (givens : List Given) (o : Option Given)
    → draft_of (kept_with at o kept) (givens ++ cons_option o []) ≡ with_word at (draft_of kept givens) o
draft_of_more at kept givens None = rw (append-nil givens, kept_none at kept) refl
draft_of_more at kept givens (Some g) =
    rw (filter-append is_value givens (g ∷ []), filter_map-append plugin_in givens (g ∷ [])) (go (plugin_in g) refl)
  where
    is_value : Given → Bool
    is_value given = is_none (plugin_in given)

    go : (o : Option Plugin) → plugin_in g ≡ o → ◌≡◌ {A = Draft} (record {
      values = filter is_value givens ++ filter is_value (g ∷ []);
      plugins = filter_map plugin_in givens ++ filter_map plugin_in (g ∷ []);
      kept_at = kept_with at (Some g) kept;
    }) (with_given at (draft_of kept givens) g)
    go None e = rw (e, append-nil (filter_map plugin_in givens)) refl
    go (Some plugin) e = rw (e, append-nil (filter is_value givens)) refl
