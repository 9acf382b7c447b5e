-- The class packages of the files of a module, from their paths.
use Rattle.std.proofs.Common.{◌≡◌, inl, inr, ℕ, ◌+◌, ◌<◌, false, List, [], ◌∷◌, ◌++◌, take, length, get_or, rules}
use Rattle.std.proofs.Common.{map, Contains, Some, option_map, option_to_list, slice_get, sym, ap, subst, ◌∙◌, append-nil}
use Rattle.std.proofs.lemmas.List.{map_push, take_more}
use Rattle.std.proofs.lemmas.List.Elements.{Contains-append_cases, Contains-append_left, Contains-append_right}
use Rattle.std.proofs.lemmas.List.Elements.{filter_map-append}
use Rattle.std.proofs.lemmas.Option.{get_or_from_slice_get, slice_get_within}
use Rattle.std.specs.List.{filter_map, list_any}
use Rattle.std.specs.declared.alloc.Global.{Global}
use Rattle.std.specs.declared.vec.Vec.{Vec}
use Rattle.jm_form.specs.ModuleFiles.{class_folder, class_package, named_package}
use Rattle.jm_bytes.proofs.Members.{contains_cases, contains_map, contains_none}
use Rattle.jm_form.specs.Rising.{items_of, rising}
use Rattle.jm_form.specs.Trees as trees
use Rattle.jm_form.proofs.ClassPackageLaws.{class_packages_are}
use Rattle.jm_form.proofs.RisingLaws.{contains_rising, from_rising, rising_same}
use Rattle.jm_names.specs.Names.{dotted, is_slash}
use Rattle.jm_relink.specs.declared.modules.ImageFile.{ImageFile}
use Rattle.jm_relink.specs.Files.{file_in, file_name, files_in}
use Rattle.jm_names.specs.ByName.{Named}
use Rattle.jm_relink.specs.Packages.{packages_of}
use Rattle.jm_relink.proofs.ListLaws.{put_alone}
use Rattle.jm_relink.proofs.NameLaws.{path_of_file}

-- Rising texts with more of them

-- what is contained in one of two lists that are the same, rising, is contained in the other
also_with : (xs ys zs : List (List ℕ)) → rising xs ≡ rising ys → (g : List ℕ) → Contains (xs ++ zs) g → Contains (ys ++ zs) g
also_with xs ys zs same g there =
    elim (Contains-append_cases xs zs g there) [
      | inl here ↦ Contains-append_left ys zs g (from_rising ys g (subst (λ ts. Contains ts g) same (contains_rising xs g here)))
      | inr later ↦ Contains-append_right ys zs g later
    ]

rising_more : (xs ys zs : List (List ℕ)) → rising xs ≡ rising ys → rising (xs ++ zs) ≡ rising (ys ++ zs)
rising_more xs ys zs same = rising_same (xs ++ zs) (ys ++ zs) (also_with xs ys zs same) (also_with ys xs zs (sym same))

-- one that is there isn't put again
pub rising_again : (xs : List (List ℕ)) (text : List ℕ) → Contains xs text → rising xs ≡ rising (xs ++ text ∷ [])
rising_again xs text there = rising_same xs (xs ++ text ∷ []) (λ g among. Contains-append_left xs (text ∷ []) g among) back
  where
    back : (g : List ℕ) → Contains (xs ++ text ∷ []) g → Contains xs g
    back g among =
        elim (Contains-append_cases xs (text ∷ []) g among) [
          | inl here ↦ here
          | inr last ↦
              elim (contains_cases text [] g last) [
                | inl same ↦ subst (Contains xs) same there
                | inr none ↦ absurd (contains_none g none)
              ]
        ]

-- the last of some owned texts
pub last_there : (texts : List (Vec ℕ Global)) (i : ℕ) (v : Vec ℕ Global) (text : List ℕ) → Some v ≡ slice_get texts i
    → v.items ≡ text → Contains (items_of texts) text
last_there texts i v text is same =
    subst (Contains (items_of texts)) same
    (contains_map (λ (w : Vec ℕ Global). w.items) texts v (
      i,
      slice_get_within texts i v (sym is),
      get_or_from_slice_get texts i
          v v (sym is),
    ))

-- the package of a file, put at the end
pub package_put : (old new : List (List ℕ)) (path folder text : List ℕ) → Some folder ≡ class_folder path → text ≡ dotted folder
    → rising new ≡ rising (old ++ text ∷ []) → rising new ≡ rising (old ++ option_to_list (class_package path))
package_put old new path folder text is made put =
    put ∙ ap (λ t. rising (old ++ t ∷ [])) made ∙ ap (λ o. rising (old ++ option_to_list (option_map dotted o))) is

-- one file more
pub file_more : (b : List ℕ) (fs : List ImageFile) (i : ℕ) (f : ImageFile) (old new : List (List ℕ)) → i < length fs
    → f ≡ get_or fs i f → rising new ≡ rising (old ++ option_to_list (class_package f.path))
    → rising old ≡ packages_of (files_in b (take i fs)) → rising new ≡ packages_of (files_in b (take (i + 1) fs))
file_more b fs i f old new below is put so_far =
    let paths : List ImageFile → List (List ℕ) = λ gs. map (λ (p : Named). p.0) (files_in b gs) in
    let step : take (i + 1) fs ≡ take i fs ++ f ∷ [] = take_more fs i f below ∙ ap (λ g. take i fs ++ g ∷ []) (sym is) in
    let apart : paths (take i fs ++ f ∷ []) ≡ paths (take i fs) ++ f.path ∷ [] =
    ap (map (λ (p : Named). p.0)) (map_push (file_in b) (take i fs) f)
    ∙ map_push (λ (p : Named). p.0) (files_in b (take i fs)) (file_in b f) in
    put ∙ rising_more old (filter_map class_package (paths (take i fs))) (option_to_list (class_package f.path)) so_far
    ∙ ap (λ ps. rising (filter_map class_package (paths (take i fs)) ++ ps))
    (sym (append-nil (option_to_list (class_package f.path))) ∙ sym (put_alone (class_package f.path) []))
    ∙ ap rising (sym (filter_map-append class_package (paths (take i fs)) (f.path ∷ [])))
    ∙ ap (λ ps. rising (filter_map class_package ps)) (sym apart)
    ∙ ap (λ gs. packages_of (files_in b gs)) (sym step)

-- The same by the names of the resources

all_same : (m : List ℕ) (fs : List Named) → list_any is_slash m ≡ false → filter_map class_package (map (λ f. f.0) fs)
    ≡ filter_map named_package (map (λ f. file_name m f.0) fs)
all_same m [] whole = search (rules)
all_same m (f ∷ fs) whole = search (rules, path_of_file, (all_same m fs whole))

pub packages_are : (m : List ℕ) (fs : List Named) → list_any is_slash m ≡ false → packages_of fs
    ≡ trees.class_packages (map (λ f. file_name m f.0) fs)
packages_are m fs whole = ap rising (all_same m fs whole) ∙ class_packages_are (map (λ (f : Named). file_name m f.0) fs)
