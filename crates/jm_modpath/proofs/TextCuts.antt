-- What is cut out of a text at a slash is text, and what is put together with a slash.
use Rattle.std.proofs.Common.{◌≡◌, ℕ, Bool, true, false, List, [], ◌∷◌, ◌++◌}
use Rattle.std.proofs.Common.{drop, length, length-append, cond, All, Contains, IsUtf8, Option, Some}
use Rattle.std.proofs.Common.{None, Result, Ok, Err, IfOk, refl, subst, arith, rules, lit<}
use Rattle.std.specs.List.{list_any, before_first, filter_map}
use Rattle.std.specs.Str.{IsCharBoundary}
use Rattle.std.proofs.lemmas.Bool.{eqb-true}
use Rattle.std.proofs.lemmas.List.{take_at, drop_at}
use Rattle.std.proofs.lemmas.List.Elements.{All-contains}
use Rattle.std.proofs.lemmas.List.Sums.{passes_at_first}
use Rattle.std.proofs.lemmas.Str.{IsCharBoundary-before_ascii, IsCharBoundary-from_take, IsUtf8-append}
use Rattle.std.proofs.lemmas.Str.{IsUtf8-drop, IsUtf8-encode, IsUtf8-take, encode_ascii}
use Rattle.jm_bytes.proofs.Firsts.{position_below}
use Rattle.jm_bytes.proofs.Members.{all_filter_map}
use Rattle.jm_names.specs.Names.{is_slash}
use Rattle.jm_outside.specs.Files.{after_front}
use Rattle.jm_outside.proofs.Names.{front_of}
use Rattle.jm_form.proofs.RisingLaws.{rising_all}
use Rattle.jm_modpath.specs.Finding.{folders_among, names_within}
use Rattle.jm_modpath.specs.Modules.{folder_with_info, inside}

pub before_is_text : (text : List ℕ) → IsUtf8 text → list_any is_slash text ≡ true → IsUtf8 (before_first is_slash text)
before_is_text text is some = search (rules, eqb-true, passes_at_first, IsCharBoundary-before_ascii, IsUtf8-take, position_below)

-- the folder of a text is text
pub folder_is_text : (name folder : List ℕ) → IsUtf8 name → folder_with_info name ≡ Some folder → IsUtf8 folder
folder_is_text name folder is found = go (list_any is_slash name) refl found
  where
    some : {A : Type 0} (test : Bool) (x y : A) → cond test (Some x) None ≡ Some y → x ≡ y
    some true x y h = cc
    some false x y h = cc

    go : (b : Bool) → list_any is_slash name ≡ b → folder_with_info name ≡ Some folder → IsUtf8 folder
    go true has h = subst IsUtf8 (some _ (before_first is_slash name) folder h) (before_is_text name is has)
    go false has h =
        let nothing : ◌≡◌ {A = Option (List ℕ)} None (Some folder) = rw has at h in
        cc

pub slash : IsUtf8 (47 ∷ [])
slash = rw (encode_ascii 47 (lit< tt)) at (IsUtf8-encode 47 (search rules))

-- a name within a folder
pub inside_is_text : (folder name : List ℕ) → IsUtf8 folder → IsUtf8 name → IsUtf8 (inside folder name)
inside_is_text folder name first last = IsUtf8-append folder (47 ∷ name) first (IsUtf8-append (47 ∷ []) name slash last)

behind_is_text : (a b : List ℕ) → IsUtf8 a → IsUtf8 (a ++ b) → IsUtf8 b
behind_is_text a b front whole =
    let cut : IsCharBoundary (a ++ b) (length a) = IsCharBoundary-from_take (a ++ b) (length a) whole
    (omega (arith, length-append a b)) (rw (take_at a b (length a) refl) front) in
    let rest : IsUtf8 (drop (length a) (a ++ b)) = IsUtf8-drop (a ++ b) (length a) whole cut in
    rw (drop_at a b (length a) refl) at rest

-- the names within a folder are text
pub within_is_text : (folder : List ℕ) (names : List (List ℕ)) → IsUtf8 folder → All IsUtf8 names → All IsUtf8 (names_within folder names)
within_is_text folder names is all =
    let front = IsUtf8-append folder (47 ∷ []) is slash in
    all_filter_map IsUtf8 IsUtf8 (after_front (folder ++ 47 ∷ []))
    (λ name rest own h. behind_is_text (folder ++ 47 ∷ []) rest front (subst IsUtf8 (front_of (folder ++ 47 ∷ []) name rest h) own))
    names all

-- an answer whose texts are known to be text
pub texts_of : {E : Type 0} (r : Result (List (List ℕ)) E) (texts : List (List ℕ)) → IfOk r (λ found. found ≡ texts)
    → All IsUtf8 texts → IfOk r (All IsUtf8)
texts_of (Ok found) texts is all = rw is all
texts_of (Err e) texts is all = tt

-- the folders among names are text
pub folders_are_text : (names : List (List ℕ)) → All IsUtf8 names → All IsUtf8 (folders_among names)
folders_are_text names all = rising_all IsUtf8 (filter_map folder_with_info names) (all_filter_map IsUtf8 IsUtf8 folder_with_info
    (λ name folder own h. folder_is_text name folder own h) names all)

-- a folder among names is text
pub listed_is_text : (names : List (List ℕ)) (folder : List ℕ) → All IsUtf8 names → Contains (folders_among names) folder → IsUtf8 folder
listed_is_text names folder all listed = All-contains IsUtf8 (folders_among names) folder (folders_are_text names all) listed
