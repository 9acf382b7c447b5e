-- The lines of `list`, by the index alone.
use Rattle.std.proofs.Common.{◌≡◌, ℕ, List, Option, [], ◌∷◌, ap, flat_map, length, map, refl, sym, ◌∙◌}
use Rattle.std.proofs.lemmas.List.Elements.{All-head, All-tail}
use Rattle.std.proofs.lemmas.List.Folds.{flat_map-map}
use Rattle.jm_filed.specs.Filed.{IsWithin}
use Rattle.jm_filed.proofs.ExtentLaws.{content_length}
use Rattle.jm_filed.specs.declared.taking.TakenEntry.{TakenEntry}
use Rattle.jm_filed.specs.Taken.{LieWithin, taken, taken_as}
use Rattle.jm_pattern.specs.declared.signs.Sign.{Sign}
use Rattle.jm_inspect.specs.ListText.{list_text, sized, sized_as, sized_line}

-- what is listed of taken entries is what their extents say
sizes_are : (size : ℕ) (b : List ℕ) → length b ≡ size → (ts : List TakenEntry) → LieWithin size ts
    → map sized (map (taken_as b) ts) ≡ map sized_as ts
sizes_are size b long [] within = refl
sizes_are size b long (t ∷ ts) within =
    rw (
      content_length size b t.content long (All-head (λ (t : TakenEntry). IsWithin size t.content) t ts within),
      sizes_are size b long ts (All-tail (λ (t : TakenEntry). IsWithin size t.content) t ts within),
    ) refl

-- so the text of `list` is made of these
pub listed : (size : ℕ) (b : List ℕ) (include : Option (List (List Sign))) (ts : List TakenEntry) → length b ≡ size
    → map (taken_as b) ts ≡ taken b include → LieWithin size ts → list_text b include ≡ flat_map (λ t. sized_line (sized_as t)) ts
listed size b include ts long is within =
    ap (flat_map sized_line) (ap (map sized) (sym is) ∙ sizes_are size b long ts within) ∙ flat_map-map sized_line sized_as ts
