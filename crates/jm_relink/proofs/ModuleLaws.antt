-- The modules of an image, from its files sorted by module and by path.
use Rattle.std.proofs.Common.{◌≡◌, ◌≢◌, ℕ, inl, inr, true, false, List, [], ◌∷◌, ◌++◌, find, map, AllPairs, rules}
use Rattle.std.proofs.Common.{Contains, IsPermutation, IsTrue, Option, Some, None, option_map, not, Result}
use Rattle.std.proofs.Common.{Ok, Err, refl, sym, ap, subst, ◌∙◌}
use Rattle.std.proofs.lemmas.List.Elements.{All-contains, Contains-append_cases, Contains-append_right}
use Rattle.std.proofs.lemmas.List.Kept.{AllPairs-filter}
use Rattle.std.proofs.lemmas.List.Sorted.{Contains-permutation, IsPermutation-sym}
use Rattle.std.proofs.lemmas.Slice.Eq.{bytes_eq-Decides}
use Rattle.std.specs.List.{filter, filter_map, list_any}
use Rattle.std.specs.Str.{bytes_eq}
use Rattle.jm_bytes.proofs.Choice.{same_some}
use Rattle.jm_bytes.proofs.Finds.{find_found, find_only}
use Rattle.jm_bytes.proofs.Members.{all_from_contains, contains_cases, contains_filter_map, contains_here, contains_map, from_filter_map}
use Rattle.jm_bytes.proofs.Pairs.{pairs_among, pairs_filter_map, pairs_head, pairs_map, pairs_none, pairs_weaker}
use Rattle.jm_form.specs.Entries.{Entry, entries}
use Rattle.jm_form.specs.Head.{header_of}
use Rattle.jm_form.specs.Validity.{resources}
use Rattle.jm_form.specs.declared.container.Header.{Header}
use Rattle.jm_form.specs.declared.container.HeaderFault.{HeaderFault}
use Rattle.jm_modinfo.specs.declared.descriptor.Descriptor.{Descriptor}
use Rattle.jm_bytes.specs.ByteOrder.{is_before}
use Rattle.jm_modinfo.specs.Descriptions.{info_for}
use Rattle.jm_form.specs.ModuleFiles.{info_name}
use Rattle.jm_names.specs.Names.{is_node, is_slash}
use Rattle.jm_reader.specs.Walk.{entries_with}
use Rattle.jm_relink.specs.declared.fault.RelinkFault.{RelinkFault}
use Rattle.jm_relink.specs.Files.{Filed, NeverFalls, file_name, info_entry, located, resources_of}
use Rattle.jm_names.specs.ByName.{Named}
use Rattle.jm_relink.specs.Groups.{Group, groups, info_content}
use Rattle.jm_relink.specs.Judging.{entry_due, group_due, groups_due, seen_with}
use Rattle.jm_relink.specs.Modules.{AreFilesOf, HasInfo, IsRefusedIn, IsSeenIn}
use Rattle.jm_relink.specs.Modules.{IsVisibleIn, SeenModule, info_refusal, name_of}
use Rattle.jm_relink.proofs.GroupLaws.{files_rise, groups_rise, in_group, of_group, one_group}
use Rattle.jm_relink.proofs.JudgingLaws.{IsFirstRefused, IsFree, entry_err, entry_ok, groups_err, groups_ok, seen_of, value}
use Rattle.jm_bytes.proofs.Choice.{mapped_some}
use Rattle.jm_relink.proofs.ListLaws.{one_of, pairs_right}
use Rattle.jm_relink.proofs.NameLaws.{located_from, parts_of_file}
use Rattle.jm_bytes.proofs.ByteOrderLaws.{before_apart, one_way}
use Rattle.jm_names.proofs.KeyLaws.{differ_moved}
use Rattle.jm_relink.proofs.PackageLaws.{packages_are}
use Rattle.jm_reader.proofs.WalkLaws.{entries_differ}

-- The names of the entries of an image differ

abbrev pub Differ : List Named → Type 0
Differ rs = AllPairs (λ e f. e.0 ≢ f.0) rs

differ_with : (b : List ℕ) (header : Result Header HeaderFault) → Differ (resources (entries_with b header))
differ_with b (Err fault) = pairs_none (λ (e f : Named). e.0 ≢ f.0)
differ_with b (Ok h) =
    pairs_map (λ (e f : Named). e.0 ≢ f.0) (λ (e : Entry). (e.name, e.content)) (filter (λ e. not (is_node e.name)) (entries b h))
    (AllPairs-filter (λ (e f : Entry). e.name ≢ f.name) (λ e. not (is_node e.name)) (entries b h) (entries_differ b h))

pub resources_differ : (b : List ℕ) → Differ (resources_of b)
resources_differ b = differ_with b (header_of b)

-- one name has one content
pub one_content : (rs : List Named) (n m c d : List ℕ) → Differ rs → Contains rs (n, c) → Contains rs (m, d) → n ≡ m → c ≡ d
one_content rs n m c d differ there too same =
    ap (λ (e : Named). e.1) (one_of (λ (e : Named). e.0) rs (n, c) (m, d) differ there too same)

-- The files of modules are resources

-- the resources of an image as files of modules, sorted
pub record AreSorted (rs : List Named) (fs : List Filed) : Type 0 where
  pub differ : Differ rs
  pub moved : IsPermutation (filter_map located rs) fs
  pub sorted : NeverFalls fs

-- what a resource is that is a file of a module
pub record IsFileOf (rs : List Named) (m : List ℕ) (f : Named) : Type 0 where
  pub whole : list_any is_slash m ≡ false
  pub there : Contains rs (file_name m f.0, f.1)

file_from : (rs : List Named) (fs : List Filed) (m : List ℕ) (f : Named) → AreSorted rs fs → Contains fs (m, f) → IsFileOf rs m f
file_from rs fs m f are there =
    let back = Contains-permutation fs (filter_map located rs) (m, f) (IsPermutation-sym (filter_map located rs) fs are.moved) there in
    let from = from_filter_map located rs (m, f) back in
    let is = located_from from.0 (m, f) from.2 in
    record { whole = is.0; there = subst (Contains rs) is.1 from.1 }

file_there : (rs : List Named) (fs : List Filed) (m : List ℕ) (f : Named) → AreSorted rs fs → list_any is_slash m ≡ false
    → Contains rs (file_name m f.0, f.1) → Contains fs (m, f)
file_there rs fs m f are whole there = search (rules, Contains-permutation, contains_filter_map, parts_of_file)

-- no two files have one module and one path
keys_differ : (rs : List Named) (fs : List Filed) → AreSorted rs fs → AllPairs (λ e f. file_name e.0 e.1.0 ≢ file_name f.0 f.1.0) fs
keys_differ rs fs are =
    differ_moved (λ (e : Filed). file_name e.0 e.1.0) (filter_map located rs) fs are.moved
    (pairs_filter_map (λ (e f : Named). e.0 ≢ f.0) (λ (e f : Filed). file_name e.0 e.1.0 ≢ file_name f.0 f.1.0) located
    (λ r q apart e f one other same.
    apart (ap (λ (x : Named). x.0) (located_from r e one).1 ∙ same ∙ sym (ap (λ (x : Named). x.0) (located_from q f other).1)))
    rs are.differ)

-- the files of a group are those of its module
group_files : (rs : List Named) (fs : List Filed) (g : Group) → AreSorted rs fs → Contains (groups fs) g → list_any is_slash g.0
    ≡ false → AreFilesOf rs g.0 g.1
group_files rs fs g are there whole = record {
  rising = files_rise fs g are.sorted (keys_differ rs fs are) there;
  each = λ path content. (
    λ among. (file_from rs fs g.0 (path, content) are (in_group fs g (path, content) there among)).there,
    λ among.
        let has = of_group fs g.0 (path, content) (file_there rs fs g.0 (path, content) are whole among) in
        let one = one_group fs has.group g are.sorted has.there there has.name in
        subst (λ (h : Group). Contains h.1 (path, content)) one has.among,
  );
}

-- The entry that makes a module

-- the group of a module with its entry
record HasInfoGroup (fs : List Filed) (m content : List ℕ) : Type 0 where
  group : Group
  there : Contains (groups fs) group
  name : group.0 ≡ m
  info : info_content group.1 ≡ Some content

info_there : (rs : List Named) (fs : List Filed) (m content : List ℕ) → AreSorted rs fs → HasInfo rs m content → HasInfoGroup fs m content
info_there rs fs m content are info =
    let has = of_group fs m (info_name, content) (file_there rs fs m (info_name, content) are info.whole info.there) in
    let g = has.group in
    let up = files_rise fs g are.sorted (keys_differ rs fs are) has.there in
    let apart = pairs_weaker (λ (e f : Named). is_before e.0 f.0 ≡ true) (λ e f. e.0 ≢ f.0) (λ e f lesser. before_apart e.0 f.0
    lesser) g.1 up in
    record {
      group = g;
      there = has.there;
      name = has.name;
      info = ap (option_map (λ (f : Named). f.1))
          (find_only (λ (f : Named). bytes_eq f.0 info_name) g.1 (info_name, content) has.among refl
          (λ y among test. one_of (λ (f : Named). f.0) g.1 y (info_name, content) apart among has.among
          ((bytes_eq-Decides y.0 info_name).0 test)));
    }

info_from : (rs : List Named) (fs : List Filed) (g : Group) (content : List ℕ) → AreSorted rs fs → Contains (groups fs) g
    → info_content g.1 ≡ Some content → HasInfo rs g.0 content
info_from rs fs g content are there is =
    let some = mapped_some (λ (f : Named). f.1) (find (λ (f : Named). bytes_eq f.0 info_name) g.1) content is in
    let f = some.0 in
    let found = find_found (λ (x : Named). bytes_eq x.0 info_name) g.1 f some.1 in
    let file = file_from rs fs g.0 f are (in_group fs g f there found.0) in
    record {
      whole = file.whole;
      there =
          subst (λ c. Contains rs (info_entry g.0, c)) some.2
          (subst (λ p. Contains rs (file_name g.0 p, f.1)) ((bytes_eq-Decides f.0 info_name).0 found.1) file.there);
    }

-- What is seen of a module

seen_from : (release : ℕ) (rs : List Named) (fs : List Filed) (g : Group) (s : SeenModule) → AreSorted rs fs
    → Contains (groups fs) g → group_due release g ≡ Ok (Some s) → (name_of s ≡ g.0) × IsSeenIn release rs s
seen_from release rs fs g s are there due = go (info_content g.1) refl due
  where
    go : (o : Option (List ℕ)) → info_content g.1 ≡ o → entry_due release g o ≡ Ok (Some s)
        → (name_of s ≡ g.0) × IsSeenIn release rs s
    go None is k = cc
    go (Some content) is k =
        let judged = entry_ok release g content (Some s) k in
        let d = judged.descriptor in
        let info = info_from rs fs g content are there is in
        let files = group_files rs fs g are there info.whole in
        let seen : IsSeenIn release rs (seen_with g.1 d) = record {
          content = content;
          info = subst (λ n. HasInfo rs n content) (sym judged.own.name) info;
          says = judged.own.says;
          packages = packages_are d.name g.1 (subst (λ n. list_any is_slash n ≡ false) (sym judged.own.name) info.whole);
          files = subst (λ n. AreFilesOf rs n g.1) (sym judged.own.name) files;
        } in
        let same : seen_with g.1 d ≡ s = sym (same_some s (seen_with g.1 d) judged.is) in (
          subst (λ (x : SeenModule). name_of x ≡ g.0) same judged.own.name,
          subst (IsSeenIn release rs) same seen,
        )

value_some : (release : ℕ) (g : Group) (s : SeenModule) → IsFree release g → seen_of release g ≡ Some s
    → group_due release g ≡ Ok (Some s)
value_some release g s free is = cc

-- a module whose entry is there is judged by it
free_of : (release : ℕ) (g : Group) (content : List ℕ) → info_content g.1 ≡ Some content → IsFree release g
    → (d : Descriptor) × (info_for release content ≡ Ok d) × (d.name ≡ g.0) × (group_due release g ≡ Ok (Some (seen_with g.1 d)))
    × (info_refusal g.0 (info_for release content) ≡ None)
free_of release g content is free =
    let due : entry_due release g (Some content) ≡ Ok free.0 = ap (entry_due release g) (sym is) ∙ free.1 in
    let judged = entry_ok release g content free.0 due in
    (judged.descriptor, judged.own.says, judged.own.name, free.1 ∙ ap (λ o. Ok o) judged.is, judged.own.free)

pub visible_from : (release : ℕ) (rs : List Named) (fs : List Filed) (seen : List SeenModule) → AreSorted rs fs
    → groups_due release [] (groups fs) ≡ Ok seen → IsVisibleIn release rs seen
visible_from release rs fs seen are due = subst (IsVisibleIn release rs) (sym ok.0) visible
  where
    ok : (seen ≡ filter_map (seen_of release) (groups fs)) × ((g : Group) → Contains (groups fs) g → IsFree release g)
    ok = groups_ok release [] (groups fs) seen due

    from_seen : (s : SeenModule) → Contains (filter_map (seen_of release) (groups fs)) s → (g : Group) × Contains (groups fs) g
        × (name_of s ≡ g.0) × IsSeenIn release rs s
    from_seen s there =
        let from = from_filter_map (seen_of release) (groups fs) s there in
        let g = from.0 in
        let is = seen_from release rs fs g s are from.1 (value_some release g s (ok.1 g from.1) from.2) in
        (g, from.1, is.0, is.1)

    up : AllPairs (λ s t. IsTrue (is_before (name_of s) (name_of t))) (filter_map (seen_of release) (groups fs))
    up =
        pairs_filter_map (λ (g h : Group). Contains (groups fs) g × Contains (groups fs) h × (is_before g.0 h.0 ≡ true))
        (λ (s t : SeenModule). IsTrue (is_before (name_of s) (name_of t))) (seen_of release)
        (λ g h has s t one other.
        let first = seen_from release rs fs g s are has.0 (value_some release g s (ok.1 g has.0) one) in
        let second = seen_from release rs fs h t are has.1 (value_some release h t (ok.1 h has.1) other) in
        rw (first.0, second.0) has.2)
        (groups fs)
        (pairs_among (λ (g h : Group). is_before g.0 h.0 ≡ true) (λ g h. Contains (groups fs) g × Contains (groups fs) h
        × (is_before g.0 h.0 ≡ true)) (groups fs)
        (λ g h there too lesser. (there, too, lesser)) (groups_rise fs are.sorted))

    visible : IsVisibleIn release rs (filter_map (seen_of release) (groups fs))
    visible = record {
      rising = up;
      each = all_from_contains (IsSeenIn release rs) (filter_map (seen_of release) (groups fs)) (λ s there. (from_seen s there).3);
      all = λ m content info.
          let has = info_there rs fs m content are info in
          let g = has.group in
          let free = free_of release g content has.info (ok.1 g has.there) in
          let s = seen_with g.1 free.0 in
          let among = contains_filter_map (seen_of release) (groups fs) g s has.there (ap value free.3) in
          subst (Contains (map name_of (filter_map (seen_of release) (groups fs)))) (free.2 ∙ has.name)
          (contains_map name_of (filter_map (seen_of release) (groups fs)) s among);
    }

-- what is less than an element of rising groups stands before it
in_front_of : (front : List Group) (g : Group) (back : List Group) (h : Group) → AllPairs (λ x y. is_before x.0 y.0 ≡ true)
    (front ++ g ∷ back) → Contains (front ++ g ∷ back) h → is_before h.0 g.0 ≡ true → Contains front h
in_front_of front g back h rising there lesser =
    elim (Contains-append_cases front (g ∷ back) h there) [
      | inl one ↦ one
      | inr other ↦
          elim (contains_cases g back h other) [
            | inl same ↦ absurd (one_way h.0 g.0 lesser (subst (λ (x : Group). is_before x.0 h.0 ≡ true) (sym same)
                (subst (λ (x : Group). is_before h.0 x.0 ≡ true) same lesser)))
            | inr behind ↦
                let rest = pairs_right (λ (x y : Group). is_before x.0 y.0 ≡ true) front (g ∷ back) rising in
                absurd (one_way h.0 g.0 lesser (All-contains (λ (y : Group). is_before g.0 y.0 ≡ true) back h
                (pairs_head (λ (x y : Group). is_before x.0 y.0 ≡ true) g back rest) behind))
          ]
    ]

refused_at : (release : ℕ) (rs : List Named) (fs : List Filed) (e : RelinkFault) → AreSorted rs fs
    → IsFirstRefused release (groups fs) e → IsRefusedIn release rs e
refused_at release rs fs e are refused = go (info_content refused.group.1) refl refused.refused
  where
    go : (o : Option (List ℕ)) → info_content refused.group.1 ≡ o → entry_due release refused.group o ≡ Err e
        → IsRefusedIn release rs e
    go None is k = cc
    go (Some content) is k = record {
      «module» = refused.group.0;
      content = content;
      info = info_from rs fs refused.group content are (subst (λ gs. Contains gs refused.group) (sym refused.cut)
          (Contains-append_right refused.front (refused.group ∷ refused.back) refused.group (contains_here refused.group refused.back))) is;
      refused = entry_err release refused.group content e k;
      first = λ lesser other info before.
          let has = info_there rs fs lesser other are info in
          let h = has.group in
          let rising = subst (AllPairs (λ (x y : Group). is_before x.0 y.0 ≡ true)) refused.cut (groups_rise fs are.sorted) in
          let below : is_before h.0 refused.group.0 ≡ true = rw has.name before in
          let in_front : Contains refused.front h = in_front_of refused.front refused.group refused.back h rising
          (subst (λ gs. Contains gs h) refused.cut has.there) below in
          let free = free_of release h other has.info (refused.free h in_front) in
          subst (λ n. info_refusal n (info_for release other) ≡ None) has.name free.4;
    }

pub refused_from : (release : ℕ) (rs : List Named) (fs : List Filed) (e : RelinkFault) → AreSorted rs fs
    → groups_due release [] (groups fs) ≡ Err e → IsRefusedIn release rs e
refused_from release rs fs e are due = refused_at release rs fs e are (groups_err release [] (groups fs) e due)

-- What the code hands out

pub are_sorted : (b : List ℕ) (fs : List Filed) → IsPermutation (filter_map located (resources_of b)) fs → NeverFalls fs
    → AreSorted (resources_of b) fs
are_sorted b fs moved sorted = record { differ = resources_differ b; moved = moved; sorted = sorted }
