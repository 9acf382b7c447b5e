-- The modules of an image and of a module path as one list.
use Rattle.std.proofs.Common.{◌≡◌, ◌≢◌, ◌<◌, inl, inr, ℕ, zero, suc, Bool, true, false, not, cond, List, [], ◌∷◌, ◌++◌, filter, length, map, All, AllPairs, arith, rules}
use Rattle.std.proofs.Common.{Contains, Option, Some, None, is_some, is_none, slice_get, refl, sym, ap, subst, ◌∙◌, append-nil}
use Rattle.std.specs.List.{list_any, zip}
use Rattle.std.specs.Str.{bytes_eq}
use Rattle.std.proofs.lemmas.Bool.{cases_order, false≢true}
use Rattle.std.proofs.lemmas.List.Kept.{AllPairs-filter}
use Rattle.std.proofs.lemmas.Option.{get_or_from_slice_get, slice_get-get_or, slice_get_within}
use Rattle.std.proofs.lemmas.Slice.Eq.{bytes_eq-Decides}
use Rattle.jm_bytes.proofs.Choice.{same_some}
use Rattle.jm_bytes.proofs.Pairs.{pairs_append, pairs_map}
use Rattle.jm_bytes.proofs.SameOrder.{filter_mapped, mapped_twice}
use Rattle.jm_bytes.proofs.Members.{all_from_contains, any_contains, contains_cases, contains_here, contains_later, contains_map, contains_none}
use Rattle.jm_bytes.proofs.Members.{from_any, from_filter, from_map}
use Rattle.jm_closure.specs.declared.candidate.Candidate.{Candidate}
use Rattle.jm_closure.specs.Modules.{HasName, name_of}
use Rattle.jm_closure.specs.Names.{Indexes, NamesDiffer}
use Rattle.jm_closure.specs.Places.{place_in}
use Rattle.jm_modpath.specs.declared.visible.ModuleFolder.{ModuleFolder}
use Rattle.jm_modset.proofs.ItemLaws.{got}
use Rattle.jm_modset.specs.declared.set.ModuleSet.{ModuleSet}
use Rattle.jm_modset.specs.declared.set.ModuleFiles.TheVariants as of
use Rattle.jm_modpath.specs.declared.visible.VisibleModule.{VisibleModule}
use Rattle.jm_modpath.specs.Finding.{AreVisible, HasTexts}
use Rattle.jm_modpath.specs.Modules.{candidates}
use Rattle.jm_modpath.specs.ModulesView.{module_with_folder}
use Rattle.jm_outside.specs.Files.{Files}
use Rattle.jm_relink.specs.declared.modules.ImageFile.{ImageFile}
use Rattle.jm_relink.specs.Files.{files_in}
use Rattle.jm_modset.specs.Found.{is_called, unhidden_by}
use Rattle.jm_names.specs.Names.{is_slash}
use Rattle.jm_modset.specs.Set.{AreSet, IsFrom, IsItem, image_in, image_set, items, kept, set_in, shown_by, with_unhidden}
use Rattle.jm_modset.specs.Shown.{Shown, candidates_of, of_entries, of_folder}
use Rattle.jm_modset.specs.Shown as shown
use Rattle.jm_relink.specs.declared.modules.ImageModules.{ImageModules}
use Rattle.jm_relink.specs.Gathering.{AreModules}
use Rattle.jm_relink.proofs.ListLaws.{pairs_unmap}
use Rattle.std.proofs.Common.{append_assoc, get_or, length-append, ◌+◌}
use Rattle.std.proofs.lemmas.List.{length-map, map-append}
use Rattle.std.proofs.lemmas.List.Elements.{All-append, All-contains, All-weaker, filter-append}
use Rattle.std.proofs.lemmas.Slice.Zip.{firsts-zip, length-zip, seconds-zip}
use Rattle.jm_modset.specs.declared.set.ModuleFiles.{ModuleFiles}

-- Places

-- an element has a place
pub place_of : {X : Type 0} (xs : List X) (x : X) → Contains xs x → (i : ℕ) × (slice_get xs i ≡ Some x)
place_of [] x there = absurd (contains_none x there)
place_of (y ∷ xs) x there =
    elim (contains_cases y xs x there) [
      | inl same ↦ (0, ap Some same)
      | inr later ↦ let at = place_of xs x later in (suc at.0, at.1)
    ]

-- what holds of pairs holds of elements at two places
pub pairs_at : {X : Type 0} (R : X → X → Type 0) (xs : List X) → AllPairs R xs → (i j : ℕ) (x y : X) → slice_get xs i ≡ Some x
    → slice_get xs j ≡ Some y → i < j → R x y
pairs_at R xs pairs i j x y one other less =
    let up = pairs i j x less (slice_get_within xs j y other) in
    rw (at i x one, at j y other) at up
  where
    at : (k : ℕ) (z : _) → slice_get xs k ≡ Some z → get_or xs k x ≡ z
    at k z is = same_some _ _ (sym (slice_get-get_or xs k x (slice_get_within xs k z is)) ∙ is)

-- Names that are looked up

-- a name isn't indexed exactly where no module is called so
pub unindexed : (found : List Candidate) (names : List (List ℕ × ℕ)) (name : List ℕ) → Indexes found names
    → is_none (place_in names name) ≡ not (is_called found name)
unindexed found names name indexed = go (place_in names name) refl (is_called found name) refl
  where
    go : (o : Option ℕ) → place_in names name ≡ o → (b : Bool) → is_called found name ≡ b → is_none o ≡ not b
    go None is false none = refl
    go (Some i) is true there = refl
    go None is true there =
        let one = from_any (λ (c : Candidate). bytes_eq name (name_of c)) found there in
        let at = place_of found one.0 one.1 in
        let named : name_of one.0 ≡ name = sym ((bytes_eq-Decides name (name_of one.0)).0 one.2) in
        absurd (no_some at.0 (sym is ∙ (indexed name at.0).1 (one.0, at.1, named)))
      where
        no_some : (i : ℕ) → ◌≡◌ {A = Option ℕ} None (Some i) → ⊥
        no_some i same = cc
    go (Some i) is false none =
        let has = (indexed name i).0 is in
        absurd (false≢true (sym none ∙ any_contains (λ (c : Candidate). bytes_eq name (name_of c)) found has.0
        (got found i has.0 has.1) ((bytes_eq-Decides name (name_of has.0)).1 (sym has.2))))

-- One module more

-- of one module its two parts, or none
module _ (image : List Candidate) (c : Candidate) (folder : ModuleFolder) where
  kept_one : (b : Bool) → is_called image (name_of c) ≡ b → kept image ((c, folder) ∷ []) ≡ cond b [] ((c, folder) ∷ [])
  kept_one true is = rw is refl
  kept_one false is = rw is refl

  pub put_more : (set : ModuleSet) → is_called image (name_of c) ≡ false
      → ◌≡◌ {A = ModuleSet} (record {
        candidates = set.candidates ++ c ∷ [];
        files = set.files ++ of.Folder folder ∷ [];
      }) (with_unhidden image set ((c, folder) ∷ []))
  put_more set is = rw (kept_one false is) refl

  pub none_more : (set : ModuleSet) → is_called image (name_of c) ≡ true
      → set ≡ with_unhidden image set ((c, folder) ∷ [])
  none_more set is = rw (kept_one true is) (λ i. record {
    candidates = sym (append-nil set.candidates) i;
    files = sym (append-nil set.files) i;
  })

pub off : (b : Bool) → not b ≡ true → b ≡ false
off false h = refl
off true h = cc

pub on : (b : Bool) → not b ≡ false → b ≡ true
on true h = refl
on false h = cc

-- none more
pub joined_none : (image : List Candidate) (set : ModuleSet) → set ≡ with_unhidden image set []
joined_none image set = λ i. record {
  candidates = sym (append-nil set.candidates) i;
  files = sym (append-nil set.files) i;
}

-- the modules so far with one more
pub joined_more : (image : List Candidate) (set : ModuleSet) (done : List (Candidate × ModuleFolder))
    (m : Candidate × ModuleFolder)
    → with_unhidden image (with_unhidden image set done) (m ∷ []) ≡ with_unhidden image set (done ++ m ∷ [])
joined_more image set done m = λ i. record {
  candidates = (append_assoc set.candidates (map (λ k. k.0) (kept image done)) (map (λ k. k.0) (kept image (m ∷ [])))
      ∙ ap (λ cs. set.candidates ++ cs) (sym (map-append (λ (k : Candidate × ModuleFolder). k.0) (kept image done) (kept image (m ∷ [])))
      ∙ ap (map (λ (k : Candidate × ModuleFolder). k.0)) (sym (both)))) i;
  files = (append_assoc set.files (map folder (kept image done)) (map folder (kept image (m ∷ [])))
      ∙ ap (λ fs. set.files ++ fs) (sym (map-append folder (kept image done) (kept image (m ∷ []))) ∙ ap (map folder) (sym both))) i;
}
  where
    folder : Candidate × ModuleFolder → ModuleFiles
    folder k = of.Folder k.1

    both : kept image (done ++ m ∷ []) ≡ kept image done ++ kept image (m ∷ [])
    both = filter-append (λ (k : Candidate × ModuleFolder). not (is_called image (name_of k.0))) done (m ∷ [])

-- Two lists side by side

zip_append : {A B : Type 0} (xs ys : List A) (us vs : List B) → length xs ≡ length us
    → zip (xs ++ ys) (us ++ vs) ≡ zip xs us ++ zip ys vs
zip_append [] ys [] vs long = refl
zip_append [] ys (u ∷ us) vs long = absurd (omega (arith, long))
zip_append (x ∷ xs) ys [] vs long = absurd (omega (arith, long))
zip_append (x ∷ xs) ys (u ∷ us) vs long = ap (λ rest. (x, u) ∷ rest) (zip_append xs ys us vs (omega (arith, long)))

zip_mapped : {X A B : Type 0} (f : X → A) (g : X → B) (xs : List X) → zip (map f xs) (map g xs) ≡ map (λ x. (f x, g x)) xs
zip_mapped f g [] = refl
zip_mapped f g (x ∷ xs) = ap (λ rest. (f x, g x) ∷ rest) (zip_mapped f g xs)

-- Candidates whose names differ, by pairs

apart : (cs : List Candidate) → NamesDiffer cs → AllPairs (λ c d. name_of c ≢ name_of d) cs
apart cs differ i j d before inside same =
    let one = slice_get-get_or cs i d (omega (arith, before, inside)) in
    let other = slice_get-get_or cs j d inside in
    let is = differ i j (name_of (get_or cs i d)) (get_or cs i d, one, refl) (get_or cs j d, other, sym same) in
    omega (arith, before, is)

from_apart : (cs : List Candidate) → AllPairs (λ c d. name_of c ≢ name_of d) cs → NamesDiffer cs
from_apart cs pairs i j name (c, at, is) (e, other, also) = elim (cases_order i j) [
  | inl same ↦ same
  | inr rest ↦
      elim rest [
        | inl less ↦ absurd (pairs_at (λ c d. name_of c ≢ name_of d) cs pairs i j c e at other less (is ∙ sym also))
        | inr more ↦ absurd (pairs_at (λ c d. name_of c ≢ name_of d) cs pairs j i e c other at more (also ∙ sym is))
      ]
]

-- The modules joined

module _ (image : ImageModules) (are : AreModules image) (path : List (Candidate × ModuleFolder)) where
  abbrev set : ModuleSet
  set = with_unhidden image.candidates (image_set image) path

  abbrev those : List (Candidate × ModuleFolder)
  those = kept image.candidates path

  entries_long : length image.candidates ≡ length (image_set image).files
  entries_long =
      let infos : length image.infos ≡ length image.files = sym are.infos ∙ are.long in
      are.infos ∙ sym (length-map (zip image.infos image.files) (λ m. of.Image (record { info = m.0; files = m.1 }))
      ∙ length-zip image.infos image.files ∙ (omega (arith, infos)))

  items_are : items set ≡ zip image.candidates (image_set image).files ++ map (λ m. (m.0, of.Folder m.1)) those
  items_are =
      zip_append image.candidates (map (λ m. m.0) those) (image_set image).files (map (λ m. of.Folder m.1) those) entries_long
      ∙ ap (λ rest. zip image.candidates (image_set image).files ++ rest)
      (zip_mapped (λ (m : Candidate × ModuleFolder). m.0) (λ (m : Candidate × ModuleFolder). of.Folder m.1) those)

  -- the modules of the image, and after them those that it doesn't hide
  module _ (files : Files) (b : List ℕ) where
    abbrev pub as_shown : Candidate × ModuleFiles → Shown
    as_shown m = shown_by files b m.0 m.1

    abbrev pub entry_of : Candidate × List ImageFile → Shown
    entry_of m = of_entries (record { candidate = m.0; files = files_in b m.1 })

    abbrev pub folder_of : Candidate × ModuleFolder → Shown
    folder_of m = of_folder files (module_with_folder m)

    entries_in : (cs : List Candidate) (infos : List (List ℕ)) (fs : List (List ImageFile)) → length cs ≡ length infos
        → length cs ≡ length fs → map (λ m. shown_by files b m.0 m.1) (zip cs (map (λ m. of.Image (record { info = m.0; files = m.1 })) (zip infos fs)))
        ≡ map entry_of (zip cs fs)
    entries_in [] infos fs long other = refl
    entries_in (c ∷ cs) [] fs long other = absurd (omega (arith, long))
    entries_in (c ∷ cs) (i ∷ infos) [] long other = absurd (omega (arith, other))
    entries_in (c ∷ cs) (i ∷ infos) (f ∷ fs) long other =
        ap (λ rest. entry_of (c, f) ∷ rest) (entries_in cs infos fs (omega (arith, long)) (omega (arith, other)))

    same_candidates : candidates_of (image_in b image) ≡ image.candidates
    same_candidates = mapped_twice (λ (m : Shown). m.candidate) entry_of (zip image.candidates image.files)
        ∙ firsts-zip image.candidates image.files (sym are.long)

    unhidden_are : unhidden_by (image_in b image) (map folder_of path) ≡ map folder_of those
    unhidden_are =
        ap (λ cs. filter (λ (m : Shown). not (is_called cs (shown.name_of m))) (map folder_of path)) same_candidates
        ∙ filter_mapped (λ (m : Shown). not (is_called image.candidates (shown.name_of m))) folder_of path

    pub set_is : set_in files b set ≡ image_in b image ++ unhidden_by (image_in b image) (map folder_of path)
    set_is =
        ap (map as_shown) items_are
        ∙ map-append as_shown (zip image.candidates (image_set image).files) (map (λ m. (m.0, of.Folder m.1)) those)
        ∙ ap (λ ms. ms ++ map as_shown (map (λ (m : Candidate × ModuleFolder). (m.0, of.Folder m.1)) those))
        (entries_in image.candidates image.infos image.files are.infos are.long)
        ∙ ap (λ ms. image_in b image ++ ms) (mapped_twice as_shown
        (λ (m : Candidate × ModuleFolder). (m.0, of.Folder m.1)) those ∙ sym unhidden_are)

  -- where each is from

  from_entries : (cs : List Candidate) (infos : List (List ℕ)) (fs : List (List ImageFile)) (c : Candidate) (files : ModuleFiles)
      → Contains (zip cs (map (λ m. of.Image (record { info = m.0; files = m.1 })) (zip infos fs))) (c, files)
      → (info : List ℕ) × (own : List ImageFile) × Contains (zip cs (zip infos fs)) (c, (info, own))
      × (of.Image (record { info = info; files = own }) ≡ files)
  from_entries [] infos fs c files there = absurd (contains_none (c, files) there)
  from_entries (d ∷ cs) [] fs c files there = absurd (contains_none (c, files) there)
  from_entries (d ∷ cs) (i ∷ infos) [] c files there = absurd (contains_none (c, files) there)
  from_entries (d ∷ cs) (i ∷ infos) (f ∷ fs) c files there =
      elim (contains_cases (d, of.Image (record { info = i; files = f })) (zip cs (map (λ m. of.Image (record { info = m.0; files = m.1 })) (zip infos fs)))
      (c, files) there) [
        | inl same ↦ (
          i,
          f,
          subst (λ (e : Candidate). Contains (zip (d ∷ cs) (zip (i ∷ infos) (f ∷ fs))) (e, (i, f))) (ap (λ (m : Candidate × ModuleFiles). m.0) same)
              (contains_here (d, (i, f)) (zip cs (zip infos fs))),
          ap (λ (m : Candidate × ModuleFiles). m.1) same,
        )
        | inr later ↦
            let rest = from_entries cs infos fs c files later in
            (rest.0, rest.1, contains_later (d, (i, f)) (zip cs (zip infos fs)) (c, (rest.0, rest.1)) rest.2, rest.3)
      ]

  module _ (found : List VisibleModule) (shown_are : map module_with_folder path ≡ found) where
    pub all_from : All (λ m. IsFrom image found m.0 m.1) (items set)
    all_from = subst (All (λ m. IsFrom image found m.0 m.1)) (sym items_are)
        (All-append (λ m. IsFrom image found m.0 m.1) (zip image.candidates (image_set image).files) (map (λ m. (m.0, of.Folder m.1)) those)
        (all_from_contains (λ (m : Candidate × ModuleFiles). IsFrom image found m.0 m.1) (zip image.candidates (image_set image).files)
        (λ m there. let from = from_entries image.candidates image.infos image.files m.0 m.1 there in
        subst (IsFrom image found m.0) from.3 from.2))
        (all_from_contains (λ (m : Candidate × ModuleFiles). IsFrom image found m.0 m.1) (map (λ m. (m.0, of.Folder m.1)) those)
        (λ m there.
        let from = from_map (λ (k : Candidate × ModuleFolder). (k.0, of.Folder k.1)) those m there in
        let kept = from_filter (λ (k : Candidate × ModuleFolder). not (is_called image.candidates (name_of k.0))) path from.0 from.1 in
        subst (λ (k : Candidate × ModuleFiles). IsFrom image found k.0 k.1) from.2
        (subst (λ ms. Contains ms (module_with_folder from.0)) shown_are (contains_map module_with_folder path from.0 kept.0)))))

    -- Modules that differ

    abbrev Named : Candidate → Candidate → Type 0
    Named c d = name_of c ≢ name_of d

    module _ (texts : AreVisible found) where
      each_item : (c : Candidate) (files : ModuleFiles) → IsFrom image found c files → IsItem c files
      each_item c (of.Folder folder) from = All-contains HasTexts found (module_with_folder (c, folder)) texts.texts from
      each_item c (of.Image entries) from =
          let all = zip image.candidates (zip image.infos image.files) in
          let first = contains_map (λ (m : Candidate × (List ℕ × List ImageFile)). m.0) all (c, (entries.info, entries.files)) from in
          let last = contains_map (λ (m : Candidate × (List ℕ × List ImageFile)). m.1.1) all (c, (entries.info, entries.files)) from in (
            All-contains (λ (d : Candidate). list_any is_slash (name_of d) ≡ false) image.candidates c are.whole
                (subst (λ cs. Contains cs c) (firsts-zip image.candidates (zip image.infos image.files) infos_long) first),
            All-contains (λ (fs : List ImageFile). AllPairs (λ e f. e.path ≢ f.path) fs) image.files entries.files are.apart
                (subst (λ fs. Contains fs entries.files) files_are last),
          )
        where
          infos_long : length (zip image.infos image.files) ≡ length image.candidates
          infos_long =
              let infos : length image.infos ≡ length image.files = sym are.infos ∙ are.long in
              length-zip image.infos image.files ∙ (let same = are.infos in omega (arith, infos, same))

          files_are : map (λ (m : Candidate × (List ℕ × List ImageFile)). m.1.1) (zip image.candidates (zip image.infos image.files)) ≡ image.files
          files_are =
              sym (mapped_twice (λ (m : List ℕ × List ImageFile). m.1) (λ (m : Candidate × (List ℕ × List ImageFile)). m.1)
              (zip image.candidates (zip image.infos image.files)))
              ∙ ap (map (λ (m : List ℕ × List ImageFile). m.1)) (seconds-zip image.candidates (zip image.infos image.files) infos_long)
              ∙ seconds-zip image.infos image.files (sym (sym are.infos ∙ are.long))

      path_candidates : candidates found ≡ map (λ (m : Candidate × ModuleFolder). m.0) path
      path_candidates = ap candidates (sym shown_are) ∙ mapped_twice (λ (m : VisibleModule). m.candidate) module_with_folder path

      those_apart : AllPairs Named (map (λ (m : Candidate × ModuleFolder). m.0) those)
      those_apart =
          pairs_map Named (λ (m : Candidate × ModuleFolder). m.0) those
          (AllPairs-filter (λ m k. Named m.0 k.0) (λ m. not (is_called image.candidates (name_of m.0))) path
          (pairs_unmap Named (λ (m : Candidate × ModuleFolder). m.0) path
          (subst (AllPairs Named) path_candidates (apart (candidates found) texts.differ))))

      two_apart : (c d : Candidate) → Contains image.candidates c → Contains (map (λ (m : Candidate × ModuleFolder). m.0) those) d
          → Named c d
      two_apart c d there other same =
          let from = from_map (λ (m : Candidate × ModuleFolder). m.0) those d other in
          let new = (from_filter (λ (m : Candidate × ModuleFolder). not (is_called image.candidates (name_of m.0))) path from.0 from.1).1 in
          let named : name_of from.0.0 ≡ name_of c = ap name_of from.2 ∙ sym same in
          absurd (false≢true (sym (off (is_called image.candidates (name_of from.0.0)) new)
          ∙ any_contains (λ (e : Candidate). bytes_eq (name_of from.0.0) (name_of e)) image.candidates c there
          ((bytes_eq-Decides (name_of from.0.0) (name_of c)).1 named)))

      pub are_set : AreSet set
      are_set = record {
        long =
            let kept_long : length (map (λ (m : Candidate × ModuleFolder). m.0) those) ≡ length (map (λ (m : Candidate × ModuleFolder). of.Folder m.1) those) =
            length-map those (λ m. m.0) ∙ sym (length-map those (λ m. of.Folder m.1)) in
            length-append image.candidates (map (λ m. m.0) those) ∙ ap (λ n. n + length (map (λ (m : Candidate × ModuleFolder). m.0) those)) entries_long
            ∙ ap (λ n. length (image_set image).files + n) kept_long ∙ sym (length-append (image_set image).files (map (λ m. of.Folder m.1) those));
        differ = from_apart set.candidates (pairs_append Named image.candidates (map (λ m. m.0) those)
            (apart image.candidates are.differ) those_apart two_apart);
        each = All-weaker (λ m. IsFrom image found m.0 m.1) (λ m. IsItem m.0 m.1) (λ m from. each_item m.0 m.1 from) (items set) all_from;
      }
