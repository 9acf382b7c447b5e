-- The class packages of names: the packages of those that are classes in one.
use Rattle.std.proofs.Common.{◌≡◌, ℕ, zero, suc, ◌+◌, ◌-◌, ◌<◌, ◌≤◌, Bool, true, false, ◌&&◌, ◌||◌, not, cond}
use Rattle.std.proofs.Common.{List, [], ◌∷◌, ◌++◌, take, drop, length, length-append, append_assoc, get_or}
use Rattle.std.proofs.Common.{map, filter, Contains, Some, None, option_map, refl, sym, ap, ◌∙◌}
use Rattle.std.proofs.Common.{subst, arith, codes, nat_eq, nat_lt}
use Rattle.std.proofs.lemmas.Bool.{ltb-true, ltb-false, lt-ltb, false≢true, false_from_ne_true}
use Rattle.std.proofs.lemmas.List.{take_at, take-append-drop}
use Rattle.std.proofs.lemmas.Slice.Eq.{bytes_eq-Decides}
use Rattle.std.specs.Cmp.Lexicographic.{pointwise}
use Rattle.std.specs.List.{after_first, before_first, position_or_len, after_last, before_last}
use Rattle.std.specs.List.{ends_with, filter_map, list_any, range_with_len}
use Rattle.std.specs.Str.{bytes_eq}
use Rattle.jm_bytes.proofs.Choice.{mapped_some, same_some}
use Rattle.jm_bytes.proofs.Cuts.{first_parts, last_parts, last_within}
use Rattle.jm_bytes.proofs.Members.{any_contains, contains_filter, contains_filter_map, contains_map}
use Rattle.jm_bytes.proofs.Members.{contains_range, from_any, from_filter, from_filter_map, from_map}
use Rattle.jm_bytes.proofs.Members.{from_range}
use Rattle.jm_bytes.proofs.SameOrder.{contains_flat_map, from_flat_map}
use Rattle.jm_form.specs.Rising.{rising}
use Rattle.jm_form.specs.Trees.{ModuleFolder, class_packages, folders, folders_of, fronts, is_meta, module_of}
use Rattle.jm_form.specs.Trees.{package_folders, package_of, path_of, stands_in}
use Rattle.jm_names.specs.Names.{dotted, is_empty, is_slash}
use Rattle.jm_form.specs.ModuleFiles.{class_folder, named_package}
use Rattle.jm_form.proofs.ListLaws.{any_behind, drop_front}
use Rattle.jm_form.proofs.RisingLaws.{rising_same}

-- Choices by tests

both : (a b : Bool) → (a && b) ≡ true → (a ≡ true) × (b ≡ true)
both true b h = (refl, h)
both false b h = absurd (false≢true h)

-- a choice by four tests
all_four : {A : Type 0} (a b c d : Bool) (x : A) → a ≡ true → b ≡ true → c ≡ true → d ≡ true → cond (a && b && c && d) (Some x) None
    ≡ Some x
all_four a b c d x p q r s = rw (p, q, r, s) refl

four_all : {A : Type 0} (a b c d : Bool) (x y : A) → cond (a && b && c && d) (Some x) None ≡ Some y → (a ≡ true) × (b ≡ true)
    × (c ≡ true) × (d ≡ true) × (x ≡ y)
four_all true true true true x y h = (refl, refl, refl, refl, same_some x y h)
four_all true true true false x y h = cc
four_all true true false d x y h = cc
four_all true false c d x y h = cc
four_all false b c d x y h = cc

-- Fronts of a path

filled : (path : List ℕ) (at : ℕ) → 0 < at → at < length path → not (is_empty (take at path)) ≡ true
filled [] at some below = absurd (omega arith)
filled (b ∷ path) zero some below = absurd (omega arith)
filled (b ∷ path) (suc at) some below = refl

-- a slash stands at a place, behind at least one byte
abbrev slash_at : List ℕ → ℕ → Bool
slash_at path at = nat_lt 0 at && is_slash (get_or path at 0)

-- a front isn't empty
front_filled : (path front : List ℕ) → Contains (fronts path) front → not (is_empty front) ≡ true
front_filled path front there =
    let from = from_map (λ at. take at path) (filter (slash_at path) (range_with_len 0 (length path))) front there in
    let at = from.0 in
    let passed = from_filter (slash_at path) (range_with_len 0 (length path)) at from.1 in
    let within = from_range 0 (length path) at passed.0 in
    let some = ltb-true 0 at (both (nat_lt 0 at) (is_slash (get_or path at 0)) passed.1).0 in
    subst (λ f. not (is_empty f) ≡ true) from.2 (filled path at some (omega (arith, within.1)))

get_middle : (front : List ℕ) (b : ℕ) (back : List ℕ) → get_or (front ++ b ∷ back) (length front) 0 ≡ b
get_middle [] b back = refl
get_middle (a ∷ front) b back = get_middle front b back

longer : (front : List ℕ) → not (is_empty front) ≡ true → 0 < length front
longer [] some = absurd (false≢true some)
longer (b ∷ front) some = omega arith

-- what stands before the last slash is a front, if it isn't empty
last_front : (path : List ℕ) → list_any is_slash path ≡ true → not (is_empty (before_last is_slash path)) ≡ true
    → Contains (fronts path) (before_last is_slash path)
last_front path some full =
    let parts = last_parts is_slash path 0 (last_within is_slash path 0 some) in
    let front = before_last is_slash path in
    let at = length front in
    let whole : front ++ parts.0 ∷ after_last is_slash path ≡ path = parts.2 in
    let below : at < length path = subst (λ p. at < length p) whole
    (omega (arith, length-append front (parts.0 ∷ after_last is_slash path))) in
    let byte : is_slash (get_or path at 0) ≡ true = subst (λ p. is_slash (get_or p at 0) ≡ true) whole
    (rw (get_middle front parts.0 (after_last is_slash path)) parts.1) in
    let passes : slash_at path at ≡ true = rw (lt-ltb 0 at (longer front full), byte) refl in
    let cut : take at path ≡ front = subst (λ p. take at p ≡ front) whole (take_at front (parts.0 ∷ after_last is_slash path) at refl) in
    subst (Contains (fronts path)) cut
    (contains_map (λ k. take k path) (filter (slash_at path) (range_with_len 0 (length path))) at
    (contains_filter (slash_at path) (range_with_len 0 (length path)) at (contains_range 0 (length path) at (omega arith)
    (omega (arith, below))) passes))

-- Packages

abbrev is_class : List ℕ → Bool
is_class name = ends_with nat_eq name (codes ".class")

-- behind the first of none that pass stands nothing
pub after_none : (p : ℕ → Bool) (xs : List ℕ) → list_any p xs ≡ false → after_first p xs ≡ []
after_none p [] none = refl
after_none p (x ∷ xs) none = go (p x) none (after_none p xs)
  where
    go : (b : Bool) → (b || list_any p xs) ≡ false → (list_any p xs ≡ false → after_first p xs ≡ [])
        → drop (cond (not b) (1 + position_or_len p xs) 0 + 1) (x ∷ xs) ≡ []
    go true none rest = absurd (false≢true (sym none))
    go false none rest =
        let next : 1 + position_or_len p xs + 1 ≡ suc (position_or_len p xs + 1) = omega arith in
        ap (λ n. drop n (x ∷ xs)) next ∙ rest none

drop_short : (front back : List ℕ) (k : ℕ) → k ≤ length front → drop k (front ++ back) ≡ drop k front ++ back
drop_short front back zero within = refl
drop_short [] back (suc k) within = absurd (omega (arith, within))
drop_short (b ∷ front) back (suc k) within = drop_short front back k (omega (arith, within))

abbrev class_end : List ℕ
class_end = codes ".class"

slash_ends : (bs : List ℕ) → class_end ≡ bs → list_any is_slash bs ≡ true → ⊥
slash_ends bs is some =
    let here : list_any is_slash class_end ≡ true = subst (λ cs. list_any is_slash cs ≡ true) (sym is) some in false≢true here

-- a path in which a slash stands ends as all of its name does
ends_same : (front path : List ℕ) → list_any is_slash path ≡ true → ends_with nat_eq (front ++ path) class_end
    ≡ ends_with nat_eq path class_end
ends_same front path some = go (nat_lt (length path) 6) refl
  where
    long : length (front ++ path) ≡ length front + length path
    long = length-append front path

    never : (k : ℕ) → k ≤ length front → pointwise nat_eq class_end (drop k (front ++ path)) ≡ false
    never k within =
        false_from_ne_true _
        (λ same.
        let is = (bytes_eq-Decides class_end (drop k (front ++ path))).0 same in
        slash_ends (drop k front ++ path) (is ∙ drop_short front path k within) (any_behind is_slash (drop k front) path some))

    short : length path < 6 → pointwise nat_eq class_end path ≡ false
    short few =
        false_from_ne_true _
        (λ same.
        let is = (bytes_eq-Decides class_end path).0 same in
        let size : 6 ≡ length path = ap length is in
        absurd (omega (arith, size, few)))

    go : (b : Bool) → nat_lt (length path) 6 ≡ b → ends_with nat_eq (front ++ path) class_end ≡ ends_with nat_eq path class_end
    go true is =
        let few = ltb-true (length path) 6 is in
        let none : length path - 6 ≡ 0 = omega (arith, few) in
        never (length (front ++ path) - 6) (omega (arith, few, long)) ∙ sym (short few)
        ∙ ap (λ n. pointwise nat_eq class_end (drop n path)) (sym none)
    go false is =
        let many = ltb-false (length path) 6 is in
        let place : length (front ++ path) - 6 ≡ length front + (length path - 6) = omega (arith, many, long) in
        ap (λ n. pointwise nat_eq class_end (drop n (front ++ path))) place ∙ ap (pointwise nat_eq class_end)
        (drop_front front path (length path - 6))

-- a name whose path has a slash is that of a class exactly where the path is
class_path : (name : List ℕ) → list_any is_slash (path_of name) ≡ true → is_class name ≡ is_class (path_of name)
class_path name some = go (list_any is_slash (drop 1 name)) refl
  where
    go : (b : Bool) → list_any is_slash (drop 1 name) ≡ b → is_class name ≡ is_class (path_of name)
    go true has =
        let cut = first_parts is_slash (drop 1 name) 0 has in
        let front = take 1 name ++ (before_first is_slash (drop 1 name) ++ cut.0 ∷ []) in
        let whole : name ≡ front ++ path_of name =
        sym (take-append-drop 1 name) ∙ ap (λ rest. take 1 name ++ rest) (sym cut.2)
        ∙ ap (λ rest. take 1 name ++ rest) (sym (append_assoc (before_first is_slash (drop 1 name)) (cut.0 ∷ []) (path_of name)))
        ∙ sym (append_assoc (take 1 name) (before_first is_slash (drop 1 name) ++ cut.0 ∷ []) (path_of name))
        in
        ap is_class whole ∙ ends_same front (path_of name) some
    go false none = absurd (false≢true (sym (ap (list_any is_slash) (after_none is_slash (drop 1 name) none)) ∙ some))

-- one of the names is a class that stands in the folder itself
abbrev has_class : List (List ℕ) → ModuleFolder → Bool
has_class names folder = list_any (λ name. stands_in name folder && is_class name) names

package_there : (names : List (List ℕ)) (g : List ℕ) → Contains (map package_of (filter (has_class names) (package_folders names)))
    g → Contains (filter_map named_package names) g
package_there names g there =
    let from = from_map package_of (filter (has_class names) (package_folders names)) g there in
    let folder = from.0 in
    let passed = from_filter (has_class names) (package_folders names) folder from.1 in
    let kept = from_filter (λ f. not (is_meta f.path)) (folders names) folder passed.0 in
    let of = from_flat_map folders_of names folder kept.0 in
    let front = from_map (λ front. record { «module» = module_of of.0; path = front }) (fronts (path_of of.0)) folder of.2 in
    let full : not (is_empty folder.path) ≡ true = subst (λ (f : ModuleFolder). not (is_empty f.path) ≡ true) front.2
    (front_filled (path_of of.0) front.0 front.1) in
    let found = from_any (λ name. stands_in name folder && is_class name) names passed.1 in
    let name = found.0 in
    let tests = both (stands_in name folder) (is_class name) found.2 in
    let stands = both (bytes_eq folder.module (module_of name) && list_any is_slash (path_of name))
    (bytes_eq folder.path (before_last is_slash (path_of name))) tests.0 in
    let has = both (bytes_eq folder.module (module_of name)) (list_any is_slash (path_of name)) stands.0 in
    let same : folder.path ≡ before_last is_slash (path_of name) =
    (bytes_eq-Decides folder.path (before_last is_slash (path_of name))).0 stands.1 in
    let is : class_folder (path_of name) ≡ Some (before_last is_slash (path_of name)) =
    all_four (is_class (path_of name)) (list_any is_slash (path_of name)) (not (is_empty (before_last is_slash (path_of name))))
    (not (is_meta (before_last is_slash (path_of name)))) (before_last is_slash (path_of name)) (sym (class_path name has.1)
    ∙ tests.1) has.1
    (subst (λ f. not (is_empty f) ≡ true) same full) (subst (λ f. not (is_meta f) ≡ true) same kept.1)
    in
    contains_filter_map named_package names name g found.1 (ap (option_map dotted) is ∙ ap (λ f. Some (dotted f)) (sym same)
    ∙ ap Some from.2)

package_named : (names : List (List ℕ)) (g : List ℕ) → Contains (filter_map named_package names) g
    → Contains (map package_of (filter (has_class names) (package_folders names))) g
package_named names g there =
    let from = from_filter_map named_package names g there in
    let name = from.0 in
    let last = before_last is_slash (path_of name) in
    let some = mapped_some dotted (class_folder (path_of name)) g from.2 in
    let tests = four_all (is_class (path_of name)) (list_any is_slash (path_of name)) (not (is_empty last)) (not (is_meta last))
    last some.0 some.1 in
    let folder : ModuleFolder = record { «module» = module_of name; path = last } in
    let among : Contains (folders_of name) folder = contains_map (λ front. record { «module» = module_of name; path = front })
    (fronts (path_of name)) last (last_front (path_of name) tests.1 tests.2) in
    let kept = contains_filter (λ f. not (is_meta f.path)) (folders names) folder (contains_flat_map folders_of names name folder
    from.1 among) tests.3 in
    let stands : stands_in name folder ≡ true = rw (
      (bytes_eq-Decides (module_of name) (module_of name)).1 refl,
      tests.1,
      (bytes_eq-Decides last last).1 refl,
    ) refl in
    let has : has_class names folder ≡ true = any_contains (λ n. stands_in n folder && is_class n) names name from.1
    (rw (stands, class_path name tests.1 ∙ tests.0) refl) in
    subst (Contains (map package_of (filter (has_class names) (package_folders names)))) (ap dotted tests.4 ∙ some.2)
    (contains_map package_of (filter (has_class names) (package_folders names)) folder (contains_filter (has_class names)
    (package_folders names) folder kept has))

pub class_packages_are : (names : List (List ℕ)) → rising (filter_map named_package names) ≡ class_packages names
class_packages_are names =
    rising_same (filter_map named_package names) (map package_of (filter (has_class names) (package_folders names)))
    (package_named names) (package_there names)
