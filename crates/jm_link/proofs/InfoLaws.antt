-- The descriptors of an image's modules, by what its index says of them.
use Rattle.std.proofs.Common.{◌≡◌, ◌≢◌, ◌≤◌, ◌+◌, ℕ, true, false, List, [], ◌∷◌, length, map, All, AllPairs, Contains}
use Rattle.std.proofs.Common.{find, refl, sym, ap, subst, ◌∙◌, arith}
use Rattle.std.proofs.lemmas.List.Elements.{All-contains, All-head, All-tail}
use Rattle.std.proofs.lemmas.List.Sums.{sum_by-cons}
use Rattle.std.proofs.lemmas.List.Kept.{AllPairs-filter}
use Rattle.std.proofs.lemmas.List.Sorted.{Contains-permutation, IsPermutation-sym}
use Rattle.std.proofs.lemmas.Slice.Eq.{bytes_eq-Decides}
use Rattle.std.specs.List.{filter_map, list_any}
use Rattle.std.specs.Str.{bytes_eq}
use Rattle.jm_bytes.proofs.Choice.{mapped_some}
use Rattle.jm_bytes.proofs.Finds.{find_found}
use Rattle.jm_bytes.proofs.Members.{contains_filter, contains_map, from_filter, from_filter_map, from_map}
use Rattle.jm_bytes.proofs.Pairs.{pairs_among, pairs_map, pairs_weaker}
use Rattle.jm_bytes.proofs.ByteOrderLaws.{before_apart}
use Rattle.jm_bytes.specs.ByteOrder.{is_before}
use Rattle.jm_filed.specs.Filed.{content_at}
use Rattle.jm_filed.proofs.ExtentLaws.{content_length}
use Rattle.jm_form.specs.Layout.{Written}
use Rattle.jm_form.specs.ModuleFiles.{info_name}
use Rattle.jm_names.specs.ByName.{Named}
use Rattle.jm_names.specs.Names.{is_slash}
use Rattle.jm_relink.specs.declared.entries.ModuleEntries.{ModuleEntries}
use Rattle.jm_relink.specs.Entries.{AreEntriesOf, EntriesWithin, HasInfoAt}
use Rattle.jm_relink.specs.Files.{Filed, file_name, info_entry, located, module_and_path, resources_of}
use Rattle.jm_relink.specs.Groups.{Group, group_in, groups, has_info}
use Rattle.jm_relink.proofs.GroupLaws.{groups_rise, in_group}
use Rattle.jm_relink.proofs.ListLaws.{pairs_unmap}
use Rattle.jm_relink.proofs.NameLaws.{file_of_parts, names_tell}
use Rattle.jm_modset.specs.Infos.{info_sizes}
use Rattle.jm_modset.specs.Infos.{infos_of, is_info, sizes}
use Rattle.jm_link.proofs.TakenLaws.{info_by_path, sum_among}

-- the descriptor of a module in an image
abbrev pub info_in : List ℕ → ModuleEntries → Written
info_in b m = (info_entry m.module, content_at b m.info)

module _ (b : List ℕ) (ms : List ModuleEntries) (are : AreEntriesOf b ms) where
  abbrev Before : ModuleEntries → ModuleEntries → Type 0
  Before m n = is_before m.module n.module ≡ true

  abbrev Rises : Group → Group → Type 0
  Rises g h = is_before g.0 h.0 ≡ true

  rises : AllPairs Before ms
  rises =
      pairs_unmap Rises (group_in b) ms (subst (AllPairs Rises) (sym are.groups)
      (AllPairs-filter Rises has_info (groups are.files) (groups_rise are.files are.sorted)))

  -- the file of a module's descriptor is among all files
  abbrev info_file : ModuleEntries → Named
  info_file m = (info_name, content_at b m.info)

  info_filed : (m : ModuleEntries) → Contains ms m → Contains (filter_map located (resources_of b)) (m.module, info_file m)
  info_filed m there =
      let g = group_in b m in
      let grouped = subst (λ gs. Contains gs g) are.groups (contains_map (group_in b) ms m there) in
      let among = from_filter has_info (groups are.files) g grouped in
      let some = mapped_some (λ (f : Named). f.1) (find (λ (f : Named). bytes_eq f.0 info_name) g.1) (content_at b m.info)
      (All-contains (HasInfoAt b) ms m are.infos there) in
      let found = find_found (λ (f : Named). bytes_eq f.0 info_name) g.1 some.0 some.1 in
      let is : some.0 ≡ info_file m = λ i. ((bytes_eq-Decides some.0.0 info_name).0 found.1 i, some.2 i) in
      Contains-permutation are.files (filter_map located (resources_of b)) (m.module, info_file m)
      (IsPermutation-sym (filter_map located (resources_of b)) are.files are.moved)
      (in_group are.files g (info_file m) among.0 (subst (Contains g.1) is found.0))

  -- what stands there
  record IsInfo (m : ModuleEntries) : Type 0 where
    whole : list_any is_slash m.module ≡ false
    there : Contains (infos_of b) (info_in b m)

  is_there : (m : ModuleEntries) → Contains ms m → IsInfo m
  is_there m among =
      let e : Filed = (m.module, info_file m) in
      let from = from_filter_map located (resources_of b) e (info_filed m among) in
      let r : Named = from.0 in
      let some = mapped_some (λ (cut : List ℕ × List ℕ). (cut.0, (cut.1, r.1))) (module_and_path r.0) e from.2 in
      let name = file_of_parts r.0 some.0.0 some.0.1 some.1 in
      let module_is : some.0.0 ≡ m.module = ap (λ (f : Filed). f.0) some.2 in
      let path_is : some.0.1 ≡ info_name = ap (λ (f : Filed). f.1.0) some.2 in
      let content_is : r.1 ≡ content_at b m.info = ap (λ (f : Filed). f.1.1) some.2 in
      let whole : list_any is_slash m.module ≡ false = subst (λ n. list_any is_slash n ≡ false) module_is name.whole in
      let name_is = name.is ∙ ap (λ n. file_name n some.0.1) module_is ∙ ap (file_name m.module) path_is in
      let is : ◌≡◌ {A = Named} r (info_in b m) = λ i. (name_is i, content_is i) in
      record {
        whole = whole;
        there = contains_filter is_info (resources_of b) (info_in b m) (subst (Contains (resources_of b)) is from.1)
            (info_by_path m.module info_name (content_at b m.info) whole);
      }

  pub info_there : (m : ModuleEntries) → Contains ms m → Contains (infos_of b) (info_in b m)
  info_there m among = (is_there m among).there

  -- their names differ
  pub infos_apart : AllPairs (λ m n. info_entry m.module ≢ info_entry n.module) ms
  infos_apart = pairs_among Before (λ m n. info_entry m.module ≢ info_entry n.module) ms
      (λ m n first second before same. before_apart m.module n.module before
      (names_tell m.module n.module info_name info_name (is_there m first).whole (is_there n second).whole same).0)
      rises

  -- they have together no more bytes than all descriptors
  pub infos_within : All (EntriesWithin (length b)) ms → info_sizes ms ≤ sizes (infos_of b)
  infos_within within =
      let apart = pairs_map (λ (r q : Written). r ≢ q) (info_in b) ms
      (pairs_weaker (λ (m n : ModuleEntries). info_entry m.module ≢ info_entry n.module) (λ m n. info_in b m ≢ info_in b n)
      (λ m n differ same. differ (ap (λ (r : Written). r.0) same)) ms infos_apart) in
      let most = sum_among (λ (r : Written). length r.1) (map (info_in b) ms) (infos_of b) apart
      (λ r there. let from = from_map (info_in b) ms r there in
      subst (Contains (infos_of b)) from.2 (info_there from.0 from.1)) in
      let same = sizes_are ms within in
      omega (arith, most, same)
    where
      sizes_are : (ns : List ModuleEntries) → All (EntriesWithin (length b)) ns → sizes (map (info_in b) ns) ≡ info_sizes ns
      sizes_are [] all = refl
      sizes_are (m ∷ ns) all =
          let one = content_length (length b) b m.info refl (All-head (EntriesWithin (length b)) m ns all).info in
          let rest = sizes_are ns (All-tail (EntriesWithin (length b)) m ns all) in
          sum_by-cons (λ (r : Written). length r.1) (info_in b m) (map (info_in b) ns)
          ∙ ap (λ n. n + sizes (map (info_in b) ns)) one ∙ ap (λ n. m.info.size + n) rest
          ∙ sym (sum_by-cons (λ (n : ModuleEntries). n.info.size) m ns)
