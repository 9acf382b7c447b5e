-- The least name that is also that of another's folder is the first that is a front.
use Rattle.std.proofs.Common.{◌≡◌, ℕ, inl, inr, Bool, true, cond, List, [], ◌∷◌, ◌++◌, drop, Some, None}
use Rattle.std.proofs.Common.{Contains, refl, sym, ap, ◌∙◌, subst, slice_get}
use Rattle.std.specs.Prelude.{filter}
use Rattle.std.specs.Cmp.{both_ways}
use Rattle.std.specs.List.{find, flat_map, list_any}
use Rattle.std.specs.Str.{bytes_eq}
use Rattle.std.proofs.lemmas.Bool.{false≢true}
use Rattle.std.proofs.lemmas.List.Kept.{AllPairs-filter}
use Rattle.std.proofs.lemmas.Slice.Eq.{bytes_eq-Decides}
use Rattle.jm_bytes.proofs.Finds.{find_nowhere}
use Rattle.jm_bytes.proofs.Members.{any_contains, contains_filter, contains_here, contains_later, from_any, from_filter}
use Rattle.jm_names.specs.Names.{is_slash}
use Rattle.jm_form.specs.Rising.{rising}
use Rattle.jm_form.specs.Trees.{first_clash, folder_name, folders, fronts, is_folder, module_of, path_of}
use Rattle.jm_nodes.specs.Order.{is_among, SameElements}
use Rattle.jm_nodes.proofs.FolderLaws.{front_of, front_there_of}
use Rattle.jm_form.proofs.RisingLaws.{contains_rising, from_rising, rising_only, rising_rises, Before}
use Rattle.jm_nodes.proofs.SharedLaws.{first_found}
use Rattle.jm_nodes.proofs.SoundLaws.{any_behind, IsCut}

find_same : {X : Type 0} (p q : X → Bool) (xs : List X) → ((x : X) → Contains xs x → p x ≡ q x) → find p xs ≡ find q xs
find_same p q [] same = refl
find_same p q (x ∷ xs) same =
    ap (λ b. cond b (Some x) (find p xs)) (same x (contains_here x xs))
    ∙ ap (λ o. cond (q x) (Some x) o) (find_same p q xs (λ y there. same y (contains_later x xs y there)))

-- the rising texts that pass are the rising ones of those that pass
filter_rising : (p : List ℕ → Bool) (texts : List (List ℕ)) → filter p (rising texts) ≡ rising (filter p texts)
filter_rising p texts =
    rising_only (filter p texts) (filter p (rising texts)) (AllPairs-filter Before p (rising texts) (rising_rises texts))
    (λ x there. let from = from_filter p texts x there in contains_filter p (rising texts) x (contains_rising texts x from.0) from.1)
    (λ x there. let from = from_filter p (rising texts) x there in contains_filter p texts x (from_rising texts x from.0) from.1)

module _ (names risen : List (List ℕ)) (cut : (name : List ℕ) → Contains names name → IsCut name) (same_fronts : SameElements
    (flat_map fronts names) risen) where
  front_from : (name : List ℕ) → is_among name risen ≡ true → Contains (flat_map fronts names) name
  front_from name some =
      let one = from_any (λ front. bytes_eq front name) risen some in
      same_fronts.only name (subst (Contains risen) ((bytes_eq-Decides one.0 name).0 one.2) one.1)

  front_to : (name : List ℕ) → Contains (flat_map fronts names) name → is_among name risen ≡ true
  front_to name there = any_contains (λ front. bytes_eq front name) risen name (same_fronts.has name there)
      ((bytes_eq-Decides name name).1 refl)

  -- a name that is a front is that of a folder
  is_folder_same : (name : List ℕ) → Contains names name → is_among name risen ≡ is_folder names name
  is_folder_same name there =
      both_ways (is_among name risen) (is_folder names name)
      (λ some.
      elim (front_of names cut name (front_from name some)) [
        | inl of_module ↦
            let one = cut name there in
            let same : 47 ∷ module_of name ++ 47 ∷ path_of name ≡ 47 ∷ module_of of_module.0 = sym one.whole ∙ of_module.2 in
            absurd (false≢true (sym (cut of_module.0 of_module.1).plain ∙ ap (λ t. list_any is_slash (drop 1 t)) (sym same)
            ∙ any_behind (module_of name) (path_of name)))
        | inr of_folder ↦ any_contains (λ folder. bytes_eq name (folder_name folder)) (folders names) of_folder.0 of_folder.1
            ((bytes_eq-Decides name (folder_name of_folder.0)).1 of_folder.2)
      ])
      (λ some.
      let one = from_any (λ folder. bytes_eq name (folder_name folder)) (folders names) some in
      front_to name (subst (Contains (flat_map fronts names)) (sym ((bytes_eq-Decides name (folder_name one.0)).0 one.2))
      (front_there_of names cut one.0 one.1)))

  pub clash_found : find (λ name. is_among name risen) (rising names) ≡ first_clash names
  clash_found =
      find_same (λ name. is_among name risen) (is_folder names) (rising names) (λ name there. is_folder_same name
      (from_rising names name there))
      ∙ sym (first_found (is_folder names) (rising names))
      ∙ ap (λ texts. slice_get texts 0) (filter_rising (is_folder names) names)

  -- where no name is found, none is a front
  pub apart_from : find (λ name. is_among name risen) (rising names) ≡ None → (name : List ℕ) → Contains names name
      → Contains (flat_map fronts names) name → ⊥
  apart_from none name there front =
      false≢true (sym (find_nowhere (λ name. is_among name risen) (rising names) none name (contains_rising names name there))
      ∙ front_to name front)
