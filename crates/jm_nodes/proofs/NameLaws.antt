-- The names of a pool and what folders are called, one place at a time.
use Rattle.std.proofs.Common.{◌≡◌, ℕ, zero, suc, ◌+◌, ◌<◌, List, [], ◌∷◌, ◌++◌, length, map, take, add-one}
use Rattle.std.proofs.Common.{get_or, Option, Some, None, refl, sym, subst, All, ap, ◌∙◌, arith, slice_get}
use Rattle.std.proofs.Common.{Bor}
use Rattle.std.proofs.lemmas.List.{get_or-map, length-map, map-append, map_more, map_push}
use Rattle.std.proofs.lemmas.List.Elements.{filter_map-append, All-append, All-cons, All-nil}
use Rattle.std.specs.List.{cons_option, filter_map}
use Rattle.std.specs.Option.{option_to_list}
use Rattle.jm_pool.specs.Pairs.{names_of}
use Rattle.jm_names.specs.Names.{dotted}
use Rattle.jm_bytes.proofs.Choice.{same_some}
use Rattle.jm_nodes.specs.FrontTrees.{called_all, folder_of, folders_among, package_folder, Folder}
use Rattle.jm_nodes.specs.declared.packages.PackageFolder.{PackageFolder}

taken_next : (pairs : List (List ℕ × List ℕ)) (place : ℕ) (name bytes : List ℕ) → slice_get pairs place ≡ Some (name, bytes)
    → take (place + 1) (names_of pairs) ≡ take place (names_of pairs) ++ name ∷ []
taken_next [] place name bytes there = cc
taken_next (pair ∷ pairs) zero name bytes there = ap (λ (p : List ℕ × List ℕ). p.0 ∷ []) (same_some pair (name, bytes) there)
taken_next (pair ∷ pairs) (suc place) name bytes there =
    rw add-one (ap (λ l. pair.0 ∷ l) (rw add-one at (taken_next pairs place name bytes there)))

-- what holds of all names of a pool, one more at a time
pub all_next : (P : List ℕ → Type 0) (pairs : List (List ℕ × List ℕ)) (place : ℕ) (name bytes : List ℕ) → slice_get pairs place
    ≡ Some (name, bytes)
    → All P (take place (names_of pairs)) → P name → All P (take (place + 1) (names_of pairs))
all_next P pairs place name bytes there before one =
    subst (All P) (sym (taken_next pairs place name bytes there)) (All-append P (take place (names_of pairs)) (name ∷ []) before
    (All-cons P name [] one (All-nil P)))

-- one name more of a pool
pub names_next : (pairs : List (List ℕ × List ℕ)) (place : ℕ) (before after : List (Bor (List ℕ))) (name : Bor (List ℕ))
    (bytes : List ℕ) → slice_get pairs place ≡ Some (name.now, bytes)
    → map (λ n. n.now) before ≡ take place (names_of pairs) → after ≡ before ++ name ∷ [] → map (λ n. n.now) after
    ≡ take (place + 1) (names_of pairs)
names_next pairs place before after name bytes there was is =
    ap (map (λ (n : Bor (List ℕ)). n.now)) is ∙ map_push (λ (n : Bor (List ℕ)). n.now) before name
    ∙ ap (λ l. l ++ name.now ∷ []) was ∙ sym (taken_next pairs place name.now bytes there)

-- what the folder at a place is called
pub called_at : (folders : List PackageFolder) (called : List (List ℕ)) (place : ℕ) (d : PackageFolder) (e : List ℕ)
    → place < length folders → called ≡ called_all (map folder_of folders) → get_or called place e
    ≡ dotted (get_or folders place d).path.now
called_at folders called place d e below is =
    let long = length-map folders folder_of in
    ap (λ l. get_or l place e) is ∙ get_or-map (λ (f : Folder). dotted f.path) (map folder_of folders) place (folder_of d) e (omega arith)
    ∙ ap (λ (f : Folder). dotted f.path) (get_or-map folder_of folders place d (folder_of d) below)

-- the folder of one front more, where it makes a package
pub folders_next : (fronts : List (Bor (List ℕ))) (place : ℕ) (d : Bor (List ℕ)) (before after : List Folder) → place < length fronts
    → before ≡ filter_map package_folder (map (λ f. f.now) (take place fronts)) → after
    ≡ before ++ option_to_list (package_folder (get_or fronts place d).now)
    → after ≡ filter_map package_folder (map (λ f. f.now) (take (place + 1) fronts))
folders_next fronts place d before after below was is =
    let front = (get_or fronts place d).now in
    is ∙ ap (λ l. l ++ option_to_list (package_folder front)) was
    ∙ ap (λ l. filter_map package_folder (map (λ f. f.now) (take place fronts)) ++ l) (alone (package_folder front))
    ∙ sym (ap (filter_map package_folder) (map_more (λ (f : Bor (List ℕ)). f.now) fronts place d below)
    ∙ filter_map-append package_folder (map (λ f. f.now) (take place fronts)) (front ∷ []))
  where
    alone : (o : Option Folder) → option_to_list o ≡ cons_option o []
    alone None = refl
    alone (Some folder) = refl

-- the package of one front more, where its folder makes one
pub packages_next : (fronts : List (Bor (List ℕ))) (place : ℕ) (d : Bor (List ℕ)) (before after : List (List ℕ))
    → place < length fronts → before ≡ called_all (folders_among (map (λ f. f.now) (take place fronts)))
    → after ≡ before ++ called_all (option_to_list (package_folder (get_or fronts place d).now))
    → after ≡ called_all (folders_among (map (λ f. f.now) (take (place + 1) fronts)))
packages_next fronts place d before after below was is =
    let so_far = folders_among (map (λ (f : Bor (List ℕ)). f.now) (take place fronts)) in
    let one = option_to_list (package_folder (get_or fronts place d).now) in
    is ∙ ap (λ l. l ++ called_all one) was ∙ sym (map-append (λ (f : Folder). dotted f.path) so_far one)
    ∙ ap called_all (folders_next fronts place d so_far (so_far ++ one) below refl refl)
