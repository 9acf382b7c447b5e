-- How much of its files a link takes: the contents that are read of the modules that are linked are
-- among those that are awaited of them.
use Rattle.std.proofs.Common.{◌≡◌, ◌≢◌, ◌∙◌, ◌≤◌, ◌+◌, ℕ, Bool, true, false, not, List, [], ◌∷◌, length, map, filter, All, AllPairs, Contains}
use Rattle.std.proofs.Common.{Option, Some, None, slice_get, refl, sym, ap, subst, arith}
use Rattle.std.proofs.lemmas.List.Elements.{All-contains, All-head, All-tail}
use Rattle.std.proofs.lemmas.List.Kept.{AllPairs-filter}
use Rattle.std.proofs.lemmas.List.Sums.{sum_by-cons}
use Rattle.std.specs.List.{filter_map, list_any}
use Rattle.jm_bytes.proofs.Choice.{same_some}
use Rattle.jm_bytes.proofs.Members.{all_from_contains, contains_filter, contains_map, from_filter, from_filter_map, from_map}
use Rattle.jm_bytes.proofs.Pairs.{pairs_map}
use Rattle.jm_bytes.proofs.SameOrder.{contains_flat_map, from_flat_map}
use Rattle.jm_closure.specs.declared.candidate.Candidate.{Candidate}
use Rattle.jm_closure.specs.Modules as closure
use Rattle.jm_filed.specs.declared.extent.Extent.{Extent}
use Rattle.jm_filed.specs.Filed.{IsWithin, content_at}
use Rattle.jm_filed.proofs.ExtentLaws.{content_length}
use Rattle.jm_form.specs.Layout.{Written}
use Rattle.jm_modpath.specs.Modules.{bytes_at}
use Rattle.jm_modset.specs.declared.files.Content.{Content}
use Rattle.jm_modset.specs.declared.files.Content.TheVariants as content
use Rattle.jm_modset.specs.declared.files.LinkFile.{LinkFile}
use Rattle.jm_modset.specs.declared.set.EntryFiles.{EntryFiles}
use Rattle.jm_modset.specs.declared.set.ModuleFiles.{ModuleFiles}
use Rattle.jm_modset.specs.declared.set.ModuleFiles.TheVariants as of
use Rattle.jm_modset.specs.declared.set.ModuleSet.{ModuleSet}
use Rattle.jm_modset.specs.Files.{IsTakenFrom, IsTakenOf, file_names, written_in}
use Rattle.jm_modset.specs.Infos.{is_info, sizes}
use Rattle.jm_modset.specs.Parts.{read_size, read_sizes}
use Rattle.jm_modset.specs.Set.{AreSet, IsItem, items, set_in, shown_by}
use Rattle.jm_modset.specs.Shown.{Shown, awaited_at, gathered}
use Rattle.jm_names.specs.ByName.{Named}
use Rattle.jm_names.specs.Names.{is_slash}
use Rattle.jm_names.specs.UtfForms.{modified}
use Rattle.jm_outside.specs.Files.{Files}
use Rattle.jm_relink.specs.Files.{file_name, files_in}
use Rattle.jm_relink.specs.Gathering.{resource_of}
use Rattle.jm_relink.proofs.ListLaws.{pairs_unmap}
use Rattle.jm_relink.proofs.NameLaws.{names_tell}
use Rattle.jm_modset.proofs.ItemLaws.{got}
use Rattle.jm_modset.proofs.NameLaws.{legal_plain}
use Rattle.jm_link.proofs.SetFiles.{zip_at}
use Rattle.jm_link.proofs.TakenLaws.{sum_among}

-- the content of a file is read: it is one of its own, or a part that wasn't described
abbrev is_read : Content → Option (List ℕ) → Bool
is_read (content.File path) described = true
is_read (content.Part x) (Some text) = false
is_read (content.Part x) None = true

module _ (files : Files) (b : List ℕ) (set : ModuleSet) (are : AreSet set) where
  -- the modules of one name are one
  one_item : (c : Candidate) (m : ModuleFiles) (e : Candidate) (n : ModuleFiles) → Contains (items set) (c, m)
      → Contains (items set) (e, n) → closure.name_of c ≡ closure.name_of e → m ≡ n
  one_item c m e n there too same =
      let one = zip_at set.candidates set.files (c, m) there in
      let other = zip_at set.candidates set.files (e, n) too in
      let place = are.differ one.place other.place (closure.name_of e) (c, one.first, same) (e, other.first, refl) in
      same_some m n (sym one.second ∙ ap (slice_get set.files) place ∙ other.second)

  -- a name of a module has no slash
  whole_of : (c : Candidate) (m : ModuleFiles) → IsItem c m → list_any is_slash (closure.name_of c) ≡ false
  whole_of c (of.Folder folder) item = legal_plain (closure.name_of c) item.legal
  whole_of c (of.Image entries) item = item.0

  item_at : (c : Candidate) (m : ModuleFiles) → Contains (items set) (c, m) → IsItem c m
  item_at c m there = All-contains (λ (k : Candidate × ModuleFiles). IsItem k.0 k.1) (items set) (c, m) are.each there

  -- a file is named as one of its module
  record NamedIn (c : Candidate) (name : List ℕ) : Type 0 where
    path : List ℕ
    is : name ≡ file_name (closure.name_of c) path

  named_in : (c : Candidate) (m : ModuleFiles) (f : LinkFile) → IsTakenOf c m f → NamedIn c f.name
  named_in c (of.Folder folder) f (path, there, is) = record { path = modified path; is = ap (λ (g : LinkFile). g.name) is }
  named_in c (of.Image entries) f (file, there, is) = record { path = file.path; is = ap (λ (g : LinkFile). g.name) is }

  -- a file that is read isn't a descriptor of a module of an image
  module _ (f : LinkFile) (taken : IsTakenFrom set f) (plain : (x : Extent) → f.content ≡ content.Part x → f.described ≡ None
      → (text : List ℕ) → is_info (f.name, text) ≡ false) (read : is_read f.content f.described ≡ true) where
    of_image : (e : Candidate) (entries : EntryFiles) → Contains (items set) (e, of.Image entries) → NamedIn e f.name
        → (text : List ℕ) → is_info (f.name, text) ≡ false
    of_image e entries there name text =
        let mine = named_in taken.candidate taken.files f taken.of in
        let tell = names_tell (closure.name_of taken.candidate) (closure.name_of e) mine.path name.path
        (whole_of taken.candidate taken.files (item_at taken.candidate taken.files taken.there))
        (whole_of e (of.Image entries) (item_at e (of.Image entries) there)) (sym mine.is ∙ name.is) in
        let same = one_item taken.candidate taken.files e (of.Image entries) taken.there there tell.0 in
        go (subst (λ (m : ModuleFiles). IsTakenOf taken.candidate m f) same taken.of)
      where
        part_read : (x : Extent) (described : Option (List ℕ)) → is_read (content.Part x) described ≡ true → described ≡ None
        part_read x (Some text) is = cc
        part_read x None is = refl

        go : IsTakenOf taken.candidate (of.Image entries) f → is_info (f.name, text) ≡ false
        go (file, among, is) =
            let part : f.content ≡ content.Part file.content = ap (λ (g : LinkFile). g.content) is in
            plain file.content part
            (part_read file.content f.described (subst (λ (c : Content). is_read c f.described ≡ true) part read)) text

    -- so it is awaited
    pub is_awaited : (places : List ℕ) → Contains (gathered (set_in files b set) places) (written_in files b f)
        → Contains (awaited_at (set_in files b set) places) (written_in files b f)
    is_awaited places there =
        let chosen = filter_map (slice_get (set_in files b set)) places in
        let from = from_flat_map (λ (m : Shown). m.resources) chosen (written_in files b f) there in
        let at = from_filter_map (slice_get (set_in files b set)) places from.0 from.1 in
        let item = from_map (λ (m : Candidate × ModuleFiles). shown_by files b m.0 m.1) (items set) from.0
        (got (set_in files b set) at.0 from.0 at.2) in
        contains_flat_map (λ (m : Shown). m.awaited) chosen from.0 (written_in files b f) from.1
        (subst (λ (m : Shown). Contains m.awaited (written_in files b f)) item.2
        (awaits item.0.0 item.0.1 item.1 (subst (λ (m : Shown). Contains m.resources (written_in files b f)) (sym item.2) from.2)))
      where
        awaits : (e : Candidate) (m : ModuleFiles) → Contains (items set) (e, m)
            → Contains (shown_by files b e m).resources (written_in files b f)
            → Contains (shown_by files b e m).awaited (written_in files b f)
        awaits e (of.Folder folder) there among = among
        awaits e (of.Image entries) there among =
            let own = from_map (resource_of (closure.name_of e)) (files_in b entries.files) (written_in files b f) among in
            let name : NamedIn e f.name = record { path = own.0.0; is = ap (λ (r : Named). r.0) (sym own.2) } in
            contains_filter (λ r. not (is_info r))
            (map (resource_of (closure.name_of e)) (files_in b entries.files)) (written_in files b f) among
            (ap not (of_image e entries there name (written_in files b f).1))

  module _ (fs : List LinkFile) (taken : All (IsTakenFrom set) fs) (differ : AllPairs (λ m n. m ≢ n) (file_names fs))
      (plain : (f : LinkFile) → Contains fs f → (x : Extent) → f.content ≡ content.Part x → f.described ≡ None → (text : List ℕ)
      → is_info (f.name, text) ≡ false)
      (within : (f : LinkFile) → Contains fs f → (x : Extent) → f.content ≡ content.Part x → IsWithin (length b) x)
      (places : List ℕ) (written : map (written_in files b) fs ≡ gathered (set_in files b set) places) where
    abbrev reads : LinkFile → Bool
    reads f = is_read f.content f.described

    abbrev some : List Written
    some = map (written_in files b) (filter reads fs)

    awaited : (r : Written) → Contains some r → Contains (awaited_at (set_in files b set) places) r
    awaited r there =
        let from = from_map (written_in files b) (filter reads fs) r there in
        let kept = from_filter reads fs from.0 from.1 in
        subst (Contains (awaited_at (set_in files b set) places)) from.2
        (is_awaited from.0 (All-contains (IsTakenFrom set) fs from.0 taken kept.0) (plain from.0 kept.0) kept.1 places
        (subst (λ (rs : List Written). Contains rs (written_in files b from.0)) written (contains_map (written_in files b) fs from.0 kept.0)))

    apart : AllPairs (λ (r q : Written). r ≢ q) some
    apart =
        pairs_unnamed (AllPairs-filter (λ (f g : LinkFile). f.name ≢ g.name) reads fs
        (pairs_unmap (λ (m n : List ℕ). m ≢ n) (λ (f : LinkFile). f.name) fs differ))
      where
        pairs_unnamed : AllPairs (λ (f g : LinkFile). f.name ≢ g.name) (filter reads fs) → AllPairs (λ (r q : Written). r ≢ q) some
        pairs_unnamed all = λ i j d less inside same. absurd (named_apart i j d less inside (ap (λ (r : Written). r.0) same))
          where
            named_apart : AllPairs (λ (r q : Written). r.0 ≢ q.0) some
            named_apart = pairs_map (λ (r q : Written). r.0 ≢ q.0) (written_in files b) (filter reads fs) all

    -- that many bytes are read
    sizes_read : (fs : List LinkFile)
        → ((f : LinkFile) → Contains fs f → (x : Extent) → f.content ≡ content.Part x → IsWithin (length b) x)
        → read_sizes files fs ≡ sizes (map (written_in files b) (filter reads fs))
    sizes_read fs within = go fs (all_from_contains Lies fs within)
      where
        Lies : LinkFile → Type 0
        Lies f = (x : Extent) → f.content ≡ content.Part x → IsWithin (length b) x

        one : (f : LinkFile) (c : Content) (described : Option (List ℕ)) → f.content ≡ c → f.described ≡ described → Lies f
            → (rest : List LinkFile) → read_size files c described + sizes (map (written_in files b) (filter reads rest))
            ≡ sizes (map (written_in files b) (filter reads (f ∷ rest)))
        one f (content.File path) described is known lies rest =
            rw is (sym (sum_by-cons (λ (r : Written). length r.1) (f.name, bytes_at files path) (map (written_in files b) (filter reads rest))))
        one f (content.Part x) (Some text) is known lies rest = rw (is, known) (omega arith)
        one f (content.Part x) None is known lies rest =
            let long = content_length (length b) b x refl (lies x is) in
            rw (is, known)
            (ap (λ n. n + sizes (map (written_in files b) (filter reads rest))) (sym long)
            ∙ sym (sum_by-cons (λ (r : Written). length r.1) (f.name, content_at b x) (map (written_in files b) (filter reads rest))))

        go : (fs : List LinkFile) → All Lies fs → read_sizes files fs ≡ sizes (map (written_in files b) (filter reads fs))
        go [] lie = refl
        go (f ∷ fs) lie =
            sum_by-cons (λ (g : LinkFile). read_size files g.content g.described) f fs
            ∙ ap (λ n. read_size files f.content f.described + n) (go fs (All-tail Lies f fs lie))
            ∙ one f f.content f.described refl refl (All-head Lies f fs lie) fs

    pub awaited_most : read_sizes files fs ≤ sizes (awaited_at (set_in files b set) places)
    awaited_most =
        let same = sizes_read fs within in
        let most = sum_among (λ (r : Written). length r.1) some (awaited_at (set_in files b set) places) apart awaited in
        omega (arith, same, most)
