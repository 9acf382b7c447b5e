-- The modules at some places, with the files that are taken of each.
use Rattle.std.proofs.Common.{◌≡◌, ◌<◌, ◌+◌, ◌++◌, ℕ, List, [], ◌∷◌, append-nil, map, take, get_or, length}
use Rattle.std.proofs.Common.{All, Contains, Some, option_map, slice_get, refl, sym, ap, subst, ◌∙◌, arith}
use Rattle.std.proofs.lemmas.Grind.{flat_map-append}
use Rattle.std.proofs.lemmas.List.{map-append, take_more}
use Rattle.std.proofs.lemmas.List.Elements.{All-append, All-contains, All-weaker, filter_map-append}
use Rattle.std.proofs.lemmas.Option.{get_or_from_slice_get, slice_get-map, slice_get_read, slice_get_within}
use Rattle.std.proofs.lemmas.Slice.Zip.{get_or-zip, length-zip}
use Rattle.std.specs.List.{filter_map, flat_map}
use Rattle.jm_closure.specs.declared.candidate.Candidate.{Candidate}
use Rattle.jm_form.specs.Layout.{Written}
use Rattle.jm_outside.specs.Files.{Files}
use Rattle.jm_modset.specs.declared.files.LinkFile.{LinkFile}
use Rattle.jm_modset.specs.declared.set.ModuleFiles.{ModuleFiles}
use Rattle.jm_modset.specs.declared.set.ModuleSet.{ModuleSet}
use Rattle.jm_modset.specs.Files.{AreTakenAt, AreTakenOf, IsTakenFrom, IsTakenOf, written_in}
use Rattle.jm_modset.specs.Set.{AreSet, IsItem, items, set_in, shown_by}
use Rattle.jm_modset.specs.Shown.{Shown, gathered}

-- the item at a place has what stands there in both lists
pub item_at : (set : ModuleSet) → AreSet set → (i : ℕ) (c : Candidate) (of : ModuleFiles) → i < length set.candidates
    → c ≡ get_or set.candidates i c → of ≡ get_or set.files i of → slice_get (items set) i ≡ Some (c, of)
item_at set are i c of below one other =
    let long = length-zip set.candidates set.files in
    let both = get_or-zip set.candidates set.files i (c, of) below (omega (arith, below, are.long)) in
    slice_get_read (items set) (length (items set)) i (c, of) refl (omega (arith, below, long, are.long))
    (ap (λ (d : Candidate). (d, of)) one ∙ ap (λ (g : ModuleFiles). (get_or set.candidates i c, g)) other ∙ sym both)

-- an element at a place is among all
pub got : {X : Type 0} (xs : List X) (i : ℕ) (x : X) → slice_get xs i ≡ Some x → Contains xs x
got xs i x is = (i, slice_get_within xs i x is, get_or_from_slice_get xs i x x is)

pub item_of : (set : ModuleSet) → AreSet set → (i : ℕ) (c : Candidate) (of : ModuleFiles) → slice_get (items set) i ≡ Some (c, of)
    → IsItem c of
item_of set are i c of is = All-contains (λ m. IsItem m.0 m.1) (items set) (c, of) are.each (got (items set) i (c, of) is)

-- the resources of one module more
pub gathered_more : (found : List Shown) (places : List ℕ) (i : ℕ) (m : Shown) → i < length places
    → slice_get found (get_or places i 0) ≡ Some m
    → gathered found (take (i + 1) places) ≡ gathered found (take i places) ++ m.resources
gathered_more found places i m below there =
    let place = get_or places i 0 in
    let one : filter_map (slice_get found) (place ∷ []) ≡ m ∷ [] = rw there refl in
    let both = flat_map-append (λ (k : Shown). k.resources) (filter_map (slice_get found) (take i places))
    (filter_map (slice_get found) (place ∷ [])) in
    let ends : flat_map (λ (k : Shown). k.resources) (filter_map (slice_get found) (place ∷ [])) ≡ m.resources =
    ap (flat_map (λ (k : Shown). k.resources)) one ∙ append-nil m.resources
    in
    ap (gathered found) (take_more places i 0 below)
    ∙ ap (flat_map (λ (k : Shown). k.resources)) (filter_map-append (slice_get found) (take i places) (place ∷ [])) ∙ both
    ∙ ap (λ (rs : List Written). gathered found (take i places) ++ rs) ends

-- the files of one module more
pub taken_more : (set : ModuleSet) (places : List ℕ) (i : ℕ) (c : Candidate) (of : ModuleFiles) (old more new : List LinkFile)
    → i < length places → slice_get (items set) (get_or places i 0) ≡ Some (c, of) → AreTakenAt set (take i places) old
    → AreTakenOf c of more → new ≡ old ++ more → AreTakenAt set (take (i + 1) places) new
taken_more set places i c of old more new below there before one put = record {
  shown = λ files b.
      ap (map (written_in files b)) put ∙ map-append (written_in files b) old more
      ∙ ap (λ (rs : List Written). rs ++ map (written_in files b) more) (before.shown files b)
      ∙ ap (λ (rs : List Written). gathered (set_in files b set) (take i places) ++ rs) (one.shown files b)
      ∙ sym (gathered_more (set_in files b set) places i (shown_by files b c of) below (shown_there files b));
  taken = subst (All (IsTakenFrom set)) (sym put)
      (All-append (IsTakenFrom set) old more before.taken
      (All-weaker (IsTakenOf c of) (IsTakenFrom set) (λ f is. record {
        candidate = c;
        files = of;
        there = got (items set) (get_or places i 0) (c, of) there;
        of = is;
      }) more one.taken));
}
  where
    shown_there : (files : Files) (b : List ℕ) → slice_get (set_in files b set) (get_or places i 0) ≡ Some (shown_by files b c of)
    shown_there files b =
        slice_get-map (λ (m : Candidate × ModuleFiles). shown_by files b m.0 m.1) (items set) (get_or places i 0)
        ∙ ap (option_map (λ (m : Candidate × ModuleFiles). shown_by files b m.0 m.1)) there
