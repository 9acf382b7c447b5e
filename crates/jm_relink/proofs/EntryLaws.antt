-- The modules that have a descriptor, of the entries of an image that rise by name.
use Rattle.std.proofs.Common.{◌≡◌, ◌≢◌, ℕ, Bool, true, false, ◌&&◌, List, [], ◌∷◌, ◌++◌, All, AllPairs, Contains, map, rules}
use Rattle.std.proofs.Common.{get_or, IsPermutation, None, option_to_list, refl, sym, ap, subst, ◌∙◌}
use Rattle.std.proofs.lemmas.List.Elements.{All-weaker}
use Rattle.std.proofs.lemmas.List.Kept.{AllPairs-filter}
use Rattle.std.proofs.lemmas.List.Sorted.{All-permutation, Contains-permutation, IsPermutation-map}
use Rattle.std.proofs.lemmas.List.Sorted.{IsPermutation-sym, IsPermutation-trans}
use Rattle.std.specs.List.{filter, filter_map, flat_map}
use Rattle.jm_bytes.proofs.ByteOrderLaws.{before_apart, before_or, one_way}
use Rattle.jm_bytes.proofs.Members.{all_from_contains, contains_filter, from_filter}
use Rattle.jm_bytes.proofs.Pairs.{pairs_map, pairs_weaker}
use Rattle.jm_bytes.proofs.SameOrder.{filter_mapped, filter_same, same_order}
use Rattle.jm_bytes.specs.ByteOrder.{is_before}
use Rattle.jm_filed.specs.declared.taking.TakenEntry.{TakenEntry}
use Rattle.jm_filed.specs.Taken.{taken, taken_among, taken_as}
use Rattle.jm_form.specs.Entries.{Entry}
use Rattle.jm_form.specs.Validity.{resources}
use Rattle.jm_names.proofs.KeyLaws.{differ_moved}
use Rattle.jm_names.specs.ByName.{Named, RisesByName, by_name}
use Rattle.jm_reader.specs.Walk.{entries_of}
use Rattle.jm_relink.specs.declared.entries.ModuleEntries.{ModuleEntries}
use Rattle.jm_relink.specs.Entries.{AreEntriesOf, EntriesWithin, FilesWithin, HasExtent, HasInfoAt}
use Rattle.jm_relink.specs.Files.{Filed, located, located_among, resources_of}
use Rattle.jm_relink.specs.Groups.{Group, group_in, groups, has_info, ungrouped}
use Rattle.jm_relink.proofs.GroupLaws.{groups_whole}
use Rattle.jm_relink.proofs.InfoLaws.{entries_within, info_stands}
use Rattle.jm_relink.proofs.JoinedLaws.{HasFiles, PathsRise, groups_again, have_files, joined_falls}
use Rattle.jm_relink.proofs.ListLaws.{put_alone}
use Rattle.jm_relink.proofs.OrderLaws.{flat_by_name, flat_in_order, in_order, in_order_moved, in_order_rises}
use Rattle.jm_relink.proofs.RunLaws.{modules_apart, paths_rise}

-- The entries that are taken are the resources

no_other : (b : Bool) → (b && true) ≡ b
no_other true = refl
no_other false = refl

all_taken : (es : List Entry) → taken_among None es ≡ resources es
all_taken es = search (rules, filter_mapped, filter_same, no_other)

abbrev files_of : Named → List Filed
files_of r = option_to_list (located r)

files_flat : (rs : List Named) → filter_map located rs ≡ flat_map files_of rs
files_flat [] = refl
files_flat (r ∷ rs) = put_alone (located r) (filter_map located rs) ∙ ap (λ fs. files_of r ++ fs) (files_flat rs)

abbrev name : Group → List ℕ
name g = g.0

abbrev Before : Group → Group → Type 0
Before g h = is_before g.0 h.0 ≡ true

abbrev Apart : Group → Group → Type 0
Apart g h = g.0 ≢ h.0

module _ (b : List ℕ) (ts : List TakenEntry) (all : map (taken_as b) ts ≡ taken b None) (rises : RisesByName (map (taken_as b) ts)) where
  abbrev found : List Group
  found = groups (located_among b ts)

  abbrev sorted : List Group
  sorted = in_order name found

  apart : AllPairs Apart found
  apart = modules_apart (map (taken_as b) ts) rises

  modules_rise : AllPairs Before sorted
  modules_rise = in_order_rises name found apart

  files_moved : IsPermutation (filter_map located (resources_of b)) (flat_map ungrouped sorted)
  files_moved =
      let these : flat_map files_of (by_name (resources_of b)) ≡ located_among b ts =
      sym (files_flat (by_name (resources_of b)))
      ∙ ap (filter_map located) (sym (all ∙ ap by_name (all_taken (entries_of b)))) in
      subst (λ fs. IsPermutation fs (flat_map ungrouped sorted)) (sym (files_flat (resources_of b)))
      (IsPermutation-trans (flat_map files_of (resources_of b)) (located_among b ts) (flat_map ungrouped sorted)
      (subst (IsPermutation (flat_map files_of (resources_of b))) these (flat_by_name files_of (resources_of b)))
      (subst (λ fs. IsPermutation fs (flat_map ungrouped sorted)) (groups_whole (located_among b ts))
      (flat_in_order name ungrouped found)))

  paths : All PathsRise sorted
  paths =
      All-permutation PathsRise found sorted (in_order_moved name found)
      (all_from_contains PathsRise found (paths_rise (map (taken_as b) ts) rises))

  again : groups (flat_map ungrouped sorted) ≡ sorted
  again =
      groups_again sorted
      (pairs_weaker Before Apart (λ g h before. before_apart g.0 h.0 before) sorted modules_rise)
      (All-permutation HasFiles found sorted (in_order_moved name found) (have_files (located_among b ts)))

  module _ (ms us : List ModuleEntries) (is : map (group_in b) ms ≡ filter has_info found) (moved : IsPermutation ms us)
      (up : AllPairs (λ (m k : ModuleEntries). is_before k.module m.module ≡ false) us) where
    abbrev own : List Group
    own = map (group_in b) us

    own_moved : IsPermutation (filter has_info found) own
    own_moved = subst (λ gs. IsPermutation gs own) is (IsPermutation-map (group_in b) ms us moved)

    own_rises : AllPairs Before own
    own_rises i j d before inside =
        before_or (get_or own i d).0 (get_or own j d).0
        (differ_moved name (filter has_info found) own own_moved (AllPairs-filter Apart has_info found apart) i j d before inside)
        (pairs_map (λ (g h : Group). is_before h.0 g.0 ≡ false) (group_in b) us up i j d before inside)

    among : (g : Group) → Contains own g → Contains (filter has_info sorted) g
    among g there =
        let from = from_filter has_info found g (Contains-permutation own (filter has_info found) g
        (IsPermutation-sym (filter has_info found) own own_moved) there) in
        contains_filter has_info sorted g (Contains-permutation found sorted g (in_order_moved name found) from.0) from.1

    back : (g : Group) → Contains (filter has_info sorted) g → Contains own g
    back g there =
        let from = from_filter has_info sorted g there in
        Contains-permutation (filter has_info found) own g own_moved
        (contains_filter has_info found g (Contains-permutation sorted found g (IsPermutation-sym found sorted
        (in_order_moved name found)) from.0) from.1)

    pub entries_are : All HasExtent us → AreEntriesOf b us
    entries_are infos = record {
      files = flat_map ungrouped sorted;
      moved = files_moved;
      sorted = joined_falls sorted modules_rise paths;
      groups = same_order Before (λ g h before behind. one_way g.0 h.0 before behind) own (filter has_info sorted) own_rises
          (AllPairs-filter Before has_info sorted modules_rise) among back ∙ ap (filter has_info) (sym again);
      infos = All-weaker HasExtent (HasInfoAt b) (info_stands b) us infos;
    }

-- Their contents lie in a file

pub modules_within : (size : ℕ) (ms us : List ModuleEntries) → IsPermutation ms us → All HasExtent ms → All (FilesWithin size) ms
    → All (EntriesWithin size) us
modules_within size ms us moved infos files =
    All-permutation (EntriesWithin size) ms us moved
    (λ k d below. entries_within size (get_or ms k d) (infos k d below) (files k d below))
