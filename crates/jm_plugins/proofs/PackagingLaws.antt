-- The packages of a module, by the keys of all folders: the keys of one module are those with its
-- name and a slash in front.
use Rattle.std.proofs.Common.{◌≡◌, ℕ, zero, suc, ◌+◌, ◌<◌, Bool, true, false, cond, not, ◌||◌, List}
use Rattle.std.proofs.Common.{[], ◌∷◌, ◌++◌, take, drop, length, get_or, map, filter, All, AllPairs, Contains}
use Rattle.std.proofs.Common.{Some, option_map, Ok, inl, inr, slice_get, nat_eq, refl, sym, ap, subst}
use Rattle.std.proofs.Common.{◌∙◌, arith, append_assoc}
use Rattle.std.proofs.lemmas.Bool.{false≢true}
use Rattle.std.proofs.lemmas.List.{take_more}
use Rattle.std.proofs.lemmas.List.Elements.{All-head, All-more, All-tail, All-weaker}
use Rattle.std.proofs.lemmas.List.Elements.{Contains-append_cases, Contains-append_left, Contains-append_right}
use Rattle.std.proofs.lemmas.List.Elements.{filter-append, filter_map-append}
use Rattle.std.proofs.lemmas.Option.{get_or_from_slice_get}
use Rattle.std.proofs.lemmas.Slice.Eq.{bytes_eq-Decides}
use Rattle.std.specs.List.{AllByRecursion, before_first, filter_map, list_any, position_or_len}
use Rattle.std.specs.List.Sorted.{IsStrictlySortedBy}
use Rattle.std.specs.Str.{bytes_eq}
use Rattle.jm_bytes.specs.Results.{followed}
use Rattle.jm_bytes.proofs.Choice.{mapped_some, same_ok, same_some}
use Rattle.jm_bytes.proofs.Members.{all_from_contains}
use Rattle.jm_bytes.proofs.Members.{contains_filter, contains_filter_map, from_filter}
use Rattle.jm_bytes.proofs.Members.{from_filter_map}
use Rattle.jm_bytes.proofs.Pairs.{pairs_head, pairs_tail}
use Rattle.jm_class.specs.Classes.{ClassData}
use Rattle.jm_class.specs.Releases.{ReadsFor, class_for}
use Rattle.jm_class.specs.declared.class.ClassFault.{ClassFault}
use Rattle.jm_class.proofs.ReleaseLaws.{reads-class_for}
use Rattle.jm_form.specs.Trees.{module_of}
use Rattle.jm_form.proofs.RisingLaws.{Before, contains_rising, from_rising, rising_rises, rising_same}
use Rattle.jm_modpath.specs.Finding.{names_within}
use Rattle.jm_names.specs.Names.{is_slash}
use Rattle.jm_outside.specs.Files.{Rising, after_front}
use Rattle.jm_outside.proofs.Names.{after_front-is, front_of}
use Rattle.jm_modinfo.specs.declared.descriptor.Descriptor.{Descriptor}
use Rattle.jm_modinfo.specs.ComputedInfo.{info_of}
use Rattle.jm_packages.specs.PackageNames.{is_package_name}
use Rattle.jm_packages.specs.Packages.{named_by, named_in, packages_text, slashed, Stays}
use Rattle.jm_packages.proofs.ListedLaws.{named_listed}
use Rattle.jm_packages.proofs.WholeLaws.{stays_text}
use Rattle.jm_pool.specs.Pairs.{names_of}
use Rattle.jm_plugins.specs.Packaging.{package_folders, packages_of, is_descriptor, listing_text, dotted_folder, folder_key, folder_keys}
use Rattle.jm_plugins.specs.Packaging.{folders_by, packages_by}
use Rattle.jm_plugins.specs.ComputedPlugins.{remade, remade_pair, remade_pairs}
use Rattle.jm_plugins.specs.Steps.{ReadsByRule, Serves, TakenRead}

-- Modules have no slash

within_text : (xs : List ℕ) → list_any is_slash (take (position_or_len is_slash xs) xs) ≡ false
within_text [] = refl
within_text (x ∷ xs) = go (is_slash x) refl (within_text xs)
  where
    go : (b : Bool) → is_slash x ≡ b → list_any is_slash (take (position_or_len is_slash xs) xs) ≡ false
        → list_any is_slash (take (cond (not b) (1 + position_or_len is_slash xs) 0) (x ∷ xs)) ≡ false
    go true is rest = refl
    go false is rest =
        let next : 1 + position_or_len is_slash xs ≡ suc (position_or_len is_slash xs) = omega arith in
        ap (λ n. list_any is_slash (take n (x ∷ xs))) next
        ∙ ap (λ c. c || list_any is_slash (take (position_or_len is_slash xs) xs)) is ∙ rest

-- a text without a slash stands before none
pub before_none : (xs : List ℕ) → list_any is_slash xs ≡ false → before_first is_slash xs ≡ xs
before_none [] none = refl
before_none (x ∷ xs) none = go (is_slash x) none (before_none xs)
  where
    go : (b : Bool) → (b || list_any is_slash xs) ≡ false → (list_any is_slash xs ≡ false → take (position_or_len is_slash xs) xs
        ≡ xs) → take (cond (not b) (1 + position_or_len is_slash xs) 0) (x ∷ xs) ≡ x ∷ xs
    go true some rest = absurd (false≢true (sym some))
    go false none rest =
        let next : 1 + position_or_len is_slash xs ≡ suc (position_or_len is_slash xs) = omega arith in
        ap (λ n. take n (x ∷ xs)) next ∙ ap (λ l. x ∷ l) (rest none)

module_whole : (name : List ℕ) → list_any is_slash (module_of name) ≡ false
module_whole name = within_text (drop 1 name)

-- a text before the first slash is told by the whole
parts_told : (m k p q : List ℕ) → list_any is_slash m ≡ false → list_any is_slash k ≡ false → m ++ 47 ∷ p ≡ k ++ 47 ∷ q → (m ≡ k) × (p ≡ q)
parts_told [] [] p q whole other same = (refl, cc)
parts_told [] (c ∷ k) p q whole other same =
    let head : c ≡ 47 = cc in
    absurd (false≢true (sym other ∙ ap (λ b. nat_eq b 47 || list_any is_slash k) head))
parts_told (b ∷ m) [] p q whole other same =
    let head : b ≡ 47 = cc in
    absurd (false≢true (sym whole ∙ ap (λ b. nat_eq b 47 || list_any is_slash m) head))
parts_told (b ∷ m) (c ∷ k) p q whole other same =
    let head : b ≡ c = cc in
    let tail : m ++ 47 ∷ p ≡ k ++ 47 ∷ q = cc in
    let rest = parts_told m k p q (later (is_slash b) (list_any is_slash m) whole) (later (is_slash c) (list_any is_slash k) other) tail in
    let front : m ≡ k = rest.0 in
    (cc, rest.1)
  where
    later : (x y : Bool) → (x || y) ≡ false → y ≡ false
    later true y is = absurd (false≢true (sym is))
    later false y is = is

-- The keys

-- a front of a list may grow
beside : (xs ys zs : List (List ℕ)) (g : List ℕ) → (Contains xs g → Contains ys g) → Contains (xs ++ zs) g → Contains (ys ++ zs) g
beside xs ys zs g also there =
    elim (Contains-append_cases xs zs g there) [
      | inl front ↦ Contains-append_left ys zs g (also front)
      | inr back ↦ Contains-append_right ys zs g back
    ]

kept_beside : (xs ys : List (List ℕ)) (g : List ℕ) → (Contains xs g → Contains ys g) → Contains (filter is_package_name xs) g
    → Contains (filter is_package_name ys) g
kept_beside xs ys g also there =
    let kept = from_filter is_package_name xs g there in contains_filter is_package_name ys g (also kept.0) kept.1

-- the keys of a module's folders are those of its resources' folders
module _ (names : List (List ℕ)) (m : List ℕ) (whole : list_any is_slash m ≡ false) where
  abbrev own : List (List ℕ)
  own = filter (λ name. bytes_eq (module_of name) m) names

  abbrev folders : List (List ℕ)
  folders = filter_map dotted_folder own

  abbrev found : List (List ℕ)
  found = names_within m (folder_keys names)

  also_found : (g : List ℕ) → Contains folders g → Contains found g
  also_found g there =
      let from = from_filter_map dotted_folder own g there in
      let name = from.0 in
      let kept = from_filter (λ name. bytes_eq (module_of name) m) names name from.1 in
      let same : module_of name ≡ m = (bytes_eq-Decides (module_of name) m).0 kept.1 in
      let key : folder_key name ≡ Some (m ++ 47 ∷ g) = ap (option_map (λ p. module_of name ++ 47 ∷ p)) from.2
      ∙ ap (λ n. Some (n ++ 47 ∷ g)) same in
      contains_filter_map (after_front (m ++ 47 ∷ [])) (folder_keys names) (m ++ 47 ∷ g) g
      (contains_rising (filter_map folder_key names) (m ++ 47 ∷ g) (contains_filter_map folder_key names name (m ++ 47 ∷ g) kept.0 key))
      (after_front-is (m ++ 47 ∷ []) (m ++ 47 ∷ g) g (sym (append_assoc m (47 ∷ []) g)))

  from_found : (g : List ℕ) → Contains found g → Contains folders g
  from_found g there =
      let from = from_filter_map (after_front (m ++ 47 ∷ [])) (folder_keys names) g there in
      let key = from.0 in
      let is = front_of (m ++ 47 ∷ []) key g from.2 ∙ append_assoc m (47 ∷ []) g in
      let made = from_filter_map folder_key names key (from_rising (filter_map folder_key names) key from.1) in
      let name = made.0 in
      let some = mapped_some (λ p. module_of name ++ 47 ∷ p) (dotted_folder name) key made.2 in
      let told = parts_told (module_of name) m some.0 g (module_whole name) whole (some.2 ∙ is) in
      contains_filter_map dotted_folder own name g
      (contains_filter (λ name. bytes_eq (module_of name) m) names name made.1 ((bytes_eq-Decides (module_of name) m).1 told.0))
      (some.1 ∙ ap Some told.1)

  pub packages_found : (c : ClassData) → packages_by (folder_keys names) m c ≡ packages_of names m c
  packages_found c =
      let kept = filter is_package_name folders in
      let by_keys = filter is_package_name found in
      ap (map slashed) (rising_same (by_keys ++ named_by c) (kept ++ named_by c)
      (λ g. beside by_keys kept (named_by c) g (kept_beside found folders g (from_found g)))
      (λ g. beside kept by_keys (named_by c) g (kept_beside folders found g (also_found g))))

-- the packages of a resource's module
pub packages_known : (names : List (List ℕ)) (name : List ℕ) (c : ClassData) → packages_by (folder_keys names) (module_of name) c
    ≡ packages_of names (module_of name) c
packages_known names name = packages_found names (module_of name) (module_whole name)

-- The law of the plug-in: what a descriptor names is in the list that its class gets

pub named_in_list : (names : List (List ℕ)) (name : List ℕ) (c : ClassData) (d : Descriptor) → info_of c ≡ Ok d → (one : List ℕ)
    → Contains (named_in d) one → Contains (packages_of names (module_of name) c) (slashed one)
named_in_list names name = named_listed (package_folders names (module_of name))

-- A name at its place

pub name_at : (pairs : List (List ℕ × List ℕ)) (place : ℕ) (pair : List ℕ × List ℕ) → slice_get pairs place ≡ Some pair → pair.0
    ≡ get_or (names_of pairs) place pair.0
name_at [] place pair is = cc
name_at (p ∷ pairs) zero pair is = sym (ap (λ (q : List ℕ × List ℕ). q.0) (same_some p pair is))
name_at (p ∷ pairs) (suc place) pair is = name_at pairs place pair is

-- One key more

pub folders_more : (m : List ℕ) (keys : List (List ℕ)) (i : ℕ) (key : List ℕ) → i < length keys → key ≡ get_or keys i key
    → folders_by (take i keys) m ++ filter is_package_name (filter_map (after_front (m ++ 47 ∷ [])) (key ∷ []))
    ≡ folders_by (take (i + 1) keys) m
folders_more m keys i key below is =
    let f = after_front (m ++ 47 ∷ []) in
    let grown = take_more keys i key below ∙ ap (λ k. take i keys ++ k ∷ []) (sym is) in
    sym (filter-append is_package_name (filter_map f (take i keys)) (filter_map f (key ∷ [])))
    ∙ ap (filter is_package_name) (sym (filter_map-append f (take i keys) (key ∷ [])))
    ∙ ap (λ ks. filter is_package_name (filter_map f ks)) (sym grown)

-- The keys rise

before_all : (key : List ℕ) (keys : List (List ℕ)) → All (Before key) keys → AllByRecursion (Before key) keys
before_all key [] all = tt
before_all key (other ∷ keys) all =
    (All-head (Before key) other keys all, before_all key keys (All-tail (Before key) other keys all))

strictly : (keys : List (List ℕ)) → AllPairs Before keys → Rising keys
unfolding IsStrictlySortedBy
strictly [] rises = tt
strictly (key ∷ keys) rises =
    (before_all key keys (pairs_head Before key keys rises), strictly keys (pairs_tail Before key keys rises))

pub keys_rise : (names : List (List ℕ)) → Rising (folder_keys names)
keys_rise names = strictly (folder_keys names) (rising_rises (filter_map folder_key names))

-- Descriptors that stay

module _ (release : ℕ) where
  -- where the class of each descriptor stays, all pairs do
  abbrev pub StaysListed : List ℕ × List ℕ → Type 0
  StaysListed pair = is_descriptor pair.0 ≡ true → Stays release pair.1

  -- one pair more
  pub listed_next : (pairs : List (List ℕ × List ℕ)) (place : ℕ) (pair : List ℕ × List ℕ) → slice_get pairs place ≡ Some pair
      → place < length pairs → All StaysListed (take place pairs) → StaysListed pair → All StaysListed (take (place + 1) pairs)
  listed_next pairs place pair there below before one =
      All-more StaysListed pairs place pair below before (subst StaysListed (sym (get_or_from_slice_get pairs place pair pair there)) one)

  pair_stays : (names : List (List ℕ)) (pair : List ℕ × List ℕ) → StaysListed pair
      → remade_pair release is_descriptor (listing_text names) pair ≡ Ok pair
  pair_stays names pair stays = go (is_descriptor pair.0) refl
    where
      go : (b : Bool) → is_descriptor pair.0 ≡ b
          → cond b (remade (listing_text names pair.0) pair.0 (class_for release pair.1)) (Ok pair) ≡ Ok pair
      go false is = refl
      go true is =
          let own = stays is in
          ap (remade (listing_text names pair.0) pair.0) (reads-class_for release pair.1 own.class own.reads)
          ∙ ap (λ text. Ok (pair.0, text)) (stays_text release (packages_of names (module_of pair.0) own.class) pair.1 own)

  pub pairs_stay : (names : List (List ℕ)) (pairs : List (List ℕ × List ℕ)) → All StaysListed pairs
      → remade_pairs release is_descriptor (listing_text names) pairs ≡ Ok pairs
  pairs_stay names [] all = refl
  pairs_stay names (pair ∷ pairs) all =
      ap (λ o. followed o (λ first. followed (remade_pairs release is_descriptor (listing_text names) pairs) (λ rest. Ok (first ∷ rest))))
      (pair_stays names pair (All-head StaysListed pair pairs all))
      ∙ ap (λ o. followed o (λ rest. Ok (pair ∷ rest))) (pairs_stay names pairs (All-tail StaysListed pair pairs all))

  -- a class that stays reads by the rule
  stays_read : (bytes : List ℕ) → Stays release bytes → ReadsByRule release bytes
  stays_read bytes stays c is =
      let same : stays.class ≡ c =
      same_ok {E = ClassFault} stays.class c (sym (reads-class_for release bytes stays.class stays.reads) ∙ is) in
      subst (ReadsFor release bytes) same stays.reads

  pub pairs_read : (pairs : List (List ℕ × List ℕ)) → All StaysListed pairs → TakenRead release is_descriptor pairs
  pairs_read pairs all =
      All-weaker StaysListed (λ (pair : List ℕ × List ℕ). is_descriptor pair.0 ≡ true → ReadsByRule release pair.1)
      (λ pair stays listed. stays_read pair.1 (stays listed)) pairs all

  -- Keys that serve

  pub keys_serve : (pairs : List (List ℕ × List ℕ)) → Serves release pairs (folder_keys (names_of pairs))
  keys_serve pairs =
      let names = names_of pairs in
      all_from_contains
      (λ (pair : List ℕ × List ℕ). is_descriptor pair.0 ≡ true → (c : ClassData) → class_for release pair.1 ≡ Ok c
      → packages_text (packages_by (folder_keys names) (module_of pair.0) c) c ≡ listing_text names pair.0 c)
      pairs (λ pair there descriptor c reads. ap (λ (ps : List (List ℕ)). packages_text ps c) (packages_known names pair.0 c))
