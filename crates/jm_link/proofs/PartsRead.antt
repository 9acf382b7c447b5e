-- The parts of an image among the contents that were read, and the resources that all of them are.
use Rattle.std.proofs.Common.{◌≡◌, ◌≢◌, ◌∙◌, ℕ, false, List, [], ◌∷◌, ◌++◌, length, map, All, AllPairs, Contains}
use Rattle.std.proofs.Common.{Option, Some, None, inl, inr, refl, sym, ap, subst}
use Rattle.std.proofs.lemmas.List.Elements.{All-contains, Contains-append_cases, Contains-append_left, Contains-append_right}
use Rattle.std.proofs.lemmas.Slice.Zip.{AllZip-map}
use Rattle.std.specs.List.{AllZip}
use Rattle.jm_bytes.proofs.Members.{all_from_contains, contains_cases, contains_here, contains_later, contains_none}
use Rattle.jm_filed.specs.declared.extent.Extent.{Extent}
use Rattle.jm_filed.specs.Filed.{IsAt, IsReadAt, content_at}
use Rattle.jm_filed.specs.Parts.{AgreeByName, HasContents, HasSizes, IsSizedIn, named}
use Rattle.jm_filed.proofs.ExtentLaws.{content_length}
use Rattle.jm_form.specs.Layout.{Written}
use Rattle.jm_modpath.specs.Modules.{bytes_at}
use Rattle.jm_modset.specs.declared.files.Content.{Content}
use Rattle.jm_modset.specs.declared.files.Content.TheVariants as content
use Rattle.jm_modset.specs.declared.files.LinkFile.{LinkFile}
use Rattle.jm_modset.specs.Files.{file_names, written_in}
use Rattle.jm_modset.specs.Infos.{is_info}
use Rattle.jm_modset.specs.Parts.{AreReadAs, IsContentOf, IsReadAs, IsSizedBy}
use Rattle.jm_names.specs.ByName.{Named}
use Rattle.jm_outside.specs.Files.{Files}
use Rattle.jm_outside.specs.Outcome.{Shows}
use Rattle.jm_reader.specs.Walk.{entries_of}
use Rattle.jm_relink.proofs.ListLaws.{pairs_unmap}
use Rattle.jm_relink.proofs.ModuleLaws.{one_content}
use Rattle.jm_link.specs.ModuleSteps.{HoldsRead, bytes_of}
use Rattle.jm_link.proofs.PartLaws.{content_read, resource_entry, same_content, shown_all, zipped_as, zipped_same}
use Rattle.jm_link.proofs.SetFiles.{StandsIn}

-- Contents that were read as parts

-- a resource whose content was read as a part of an image
abbrev part_of : Content → Option (List ℕ) → Written → List Named
part_of (content.File path) described r = []
part_of (content.Part x) (Some text) r = []
part_of (content.Part x) None r = r ∷ []

-- of some resources, which are these files, those that were read as parts
abbrev pub parts : List LinkFile → List Written → List Named
parts [] rs = []
parts (f ∷ fs) [] = []
parts (f ∷ fs) (r ∷ rs) = part_of f.content f.described r ++ parts fs rs

-- a file that was read as a part stands beside a resource
pub record WasPart (told : Option Files) (image : List ℕ) (fs : List LinkFile) (pool : List Written) (r : Written) : Type 0 where
  pub file : LinkFile
  pub extent : Extent
  pub there : Contains fs file
  pub among : Contains pool r
  pub part : file.content ≡ content.Part extent
  pub undescribed : file.described ≡ None
  pub name : r.0 ≡ file.name
  pub read : IsReadAt told image extent r.1

module _ (told : Option Files) (image : List ℕ) where
  from_one : (f : LinkFile) (q r : Written) (c : Content) (described : Option (List ℕ)) → f.content ≡ c → f.described ≡ described
      → q.0 ≡ f.name → IsContentOf told image c described q.1 → Contains (part_of c described q) r
      → WasPart told image (f ∷ []) (q ∷ []) r
  from_one f q r (content.File path) described is known name read there = absurd (contains_none r there)
  from_one f q r (content.Part x) (Some text) is known name read there = absurd (contains_none r there)
  from_one f q r (content.Part x) None is known name read there = elim (contains_cases q [] r there) [
    | inl same ↦ subst (WasPart told image (f ∷ []) (q ∷ [])) same (record {
      file = f;
      extent = x;
      there = contains_here f [];
      among = contains_here q [];
      part = is;
      undescribed = known;
      name = name;
      read = read;
    })
    | inr later ↦ absurd (contains_none r later)
  ]

  pub from_parts : (fs : List LinkFile) (pool : List Written) → AreReadAs told image fs pool → (r : Written)
      → Contains (parts fs pool) r → WasPart told image fs pool r
  from_parts [] pool read r there = absurd (contains_none r there)
  from_parts (f ∷ fs) [] read r there = absurd (contains_none r there)
  from_parts (f ∷ fs) (q ∷ pool) read r there =
      elim (Contains-append_cases (part_of f.content f.described q) (parts fs pool) r there) [
        | inl one ↦
            let was = from_one f q r f.content f.described refl refl read.0.0 read.0.1 one in
            record {
              file = was.file;
              extent = was.extent;
              there = first (λ g. g) f fs was.file was.there;
              among = first (λ g. g) q pool r was.among;
              part = was.part;
              undescribed = was.undescribed;
              name = was.name;
              read = was.read;
            }
        | inr later ↦
            let was = from_parts fs pool read.1 r later in
            record {
              file = was.file;
              extent = was.extent;
              there = contains_later f fs was.file was.there;
              among = contains_later q pool r was.among;
              part = was.part;
              undescribed = was.undescribed;
              name = was.name;
              read = was.read;
            }
      ]
    where
      first : {X : Type 0} (same : X → X) (x : X) (xs : List X) (y : X) → Contains (x ∷ []) y → Contains (x ∷ xs) y
      first same x xs y there = elim (contains_cases x [] y there) [
        | inl is ↦ subst (Contains (x ∷ xs)) is (contains_here x xs)
        | inr later ↦ absurd (contains_none y later)
      ]

  -- a resource beside a part that wasn't described is one of them
  abbrev pub IsMarked : List Named → LinkFile → Written → Type 0
  IsMarked all f r = (x : Extent) → f.content ≡ content.Part x → f.described ≡ None → Contains all r

  marked_one : (f : LinkFile) (r : Written) (x : Extent) → f.content ≡ content.Part x → f.described ≡ None
      → Contains (part_of f.content f.described r) r
  marked_one f r x part none = rw (part, none) (contains_here r [])

  marked : (all : List Named) (fs : List LinkFile) (pool : List Written) → ((r : Named) → Contains (parts fs pool) r → Contains all r)
      → AreReadAs told image fs pool → AllZip (λ f r. IsReadAs told image f r × IsMarked all f r) fs pool
  marked all [] [] within read = tt
  marked all [] (r ∷ pool) within read = absurd read
  marked all (f ∷ fs) [] within read = absurd read
  marked all (f ∷ fs) (r ∷ pool) within read = (
    (
      read.0,
      λ x part none. within r (Contains-append_left (part_of f.content f.described r) (parts fs pool) r
          (marked_one f r x part none)),
    ),
    marked all fs pool (λ q there. within q (Contains-append_right (part_of f.content f.described r) (parts fs pool) q there)) read.1,
  )

module _ (told : Option Files) (image : List ℕ) (fs : List LinkFile) (pool : List Written) (read : AreReadAs told image fs pool) where
  pub names_read : map (λ (r : Written). r.0) pool ≡ file_names fs
  names_read = zipped_same (IsReadAs told image) (λ (f : LinkFile). f.name) (λ (r : Written). r.0) fs pool read (λ f r is. is.0)

  abbrev all : List Named
  all = parts fs pool

  was : (r : Named) → Contains all r → WasPart told image fs pool r
  was r there = from_parts told image fs pool read r there

  -- one content of each name
  pub parts_agree : AllPairs (λ m n. m ≢ n) (file_names fs) → AgreeByName all
  parts_agree differ p q there too same =
      let own = pairs_unmap (λ (m n : List ℕ). m ≢ n) (λ (r : Written). r.0) pool
      (subst (AllPairs (λ (m n : List ℕ). m ≢ n)) (sym names_read) differ) in
      one_content pool p.0 q.0 p.1 q.1 own (was p there).among (was q too).among same

  -- none is a descriptor
  pub parts_plain : ((f : LinkFile) → Contains fs f → (x : Extent) → f.content ≡ content.Part x → f.described ≡ None
      → (text : List ℕ) → is_info (f.name, text) ≡ false) → All (λ r. is_info r ≡ false) all
  parts_plain plain = all_from_contains (λ (r : Named). is_info r ≡ false) all (λ r there.
      let one = was r there in
      ap (λ n. is_info (n, r.1)) one.name ∙ plain one.file one.there one.extent one.part one.undescribed r.1)

  -- An image in which the files stand

  module _ (b : List ℕ) (stands : (f : LinkFile) → Contains fs f → (x : Extent) → f.content ≡ content.Part x
      → StandsIn b f.name f.described x) where
    entry : (f : LinkFile) (x : Extent) → StandsIn b f.name f.described x → Contains (map named (entries_of b)) (f.name, content_at b x)
    entry f x stand = resource_entry b (f.name, content_at b x) stand.there

    pub parts_sized : HasSizes b all
    parts_sized = all_from_contains (IsSizedIn (map named (entries_of b))) all (λ r there.
        let one = was r there in
        let stand = stands one.file one.there one.extent one.part in (
          content_at b one.extent,
          subst (λ n. Contains (map named (entries_of b)) (n, content_at b one.extent)) (sym one.name) (entry one.file one.extent stand),
          content_length (length b) b one.extent refl stand.within ∙ sym one.read.size,
        ))

    pub parts_contents : IsAt told image b → Shows told (λ files. HasContents b all)
    parts_contents at = shown_all told (Contains (map named (entries_of b))) all (λ r there.
        let one = was r there in
        let stand = stands one.file one.there one.extent one.part in
        content_read told image b one.extent r.1 at one.read (λ text. Contains (map named (entries_of b)) (r.0, text))
        (subst (λ n. Contains (map named (entries_of b)) (n, content_at b one.extent)) (sym one.name) (entry one.file one.extent stand)))

  -- If an image has what was read of it, the resources are the files, on told files and in it

  module _ (bytes : Option (List ℕ)) (files : Files) (held : HoldsRead bytes all) (none : bytes ≡ None → (f : LinkFile) → Contains fs f
      → (x : Extent) → f.content ≡ content.Part x → ⊥)
      (stands : (f : LinkFile) → Contains fs f → (x : Extent) → f.content ≡ content.Part x
      → StandsIn (bytes_of bytes) f.name f.described x)
      (sized : (f : LinkFile) → Contains fs f → IsSizedBy told files f.content) where
    abbrev b : List ℕ
    b = bytes_of bytes

    had : (r : Named) → Contains all r → (bytes ≡ None → ⊥) → Contains (map named (entries_of b)) r
    had r there some = go bytes held some
      where
        go : (o : Option (List ℕ)) → HoldsRead o all → (o ≡ None → ⊥) → Contains (map named (entries_of (bytes_of o))) r
        go None held some = absurd (some refl)
        go (Some c) held some = All-contains (Contains (map named (entries_of c))) all r held there

    text_is : (f : LinkFile) (r : Written) → Contains fs f → r.0 ≡ f.name → IsMarked told image all f r → (c : Content)
        → f.content ≡ c → (described : Option (List ℕ)) → f.described ≡ described → IsContentOf told image c described r.1
        → r ≡ written_in files b f
    text_is f r there name mark (content.File path) is described known text =
        let same = subst (IsSizedBy told files) is (sized f there) in
        let shown = subst (λ (t : Option Files). Shows t (λ files. r.1 ≡ bytes_at files path)) same text.1 in
        rw is (λ i. (name i, shown i))
    text_is f r there name mark (content.Part x) is (Some own) known text =
        let stand = subst (λ d. StandsIn b f.name d x) known (stands f there x is) in
        rw is (λ i. (name i, (text ∙ stand.info) i))
    text_is f r there name mark (content.Part x) is None known text =
        let stand = stands f there x is in
        let mine = had r (mark x is known) (λ nothing. none nothing f there x is) in
        let same = same_content b f.name r.1 (content_at b x) (subst (λ n. Contains (map named (entries_of b)) (n, r.1)) name mine)
        (resource_entry b (f.name, content_at b x) stand.there) in
        rw is (λ i. (name i, same i))

    pub all_written : map (written_in files b) fs ≡ pool
    all_written =
        sym (AllZip-map (written_in files b) fs pool
        (zipped_as (λ f r. IsReadAs told image f r × IsMarked told image all f r) (λ f r. r ≡ written_in files b f) fs pool
        (marked told image all fs pool (λ r there. there) read)
        (λ f r there among is. text_is f r there is.0.0 is.1 f.content refl f.described refl is.0.1)))
