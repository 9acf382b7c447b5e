-- What a link finds: the resources of each module are its own, and those of some modules stand by
-- module and then by path.
use Rattle.std.proofs.Common.{◌≡◌, ◌≢◌, ◌<◌, ◌⊎◌, inl, inr, ℕ, Bool, true, false, ◌&&◌, cond, List, [], ◌∷◌, ◌++◌}
use Rattle.std.proofs.Common.{append-nil, drop, filter, length, map, unwrap_or, All, AllPairs, Contains, Option, Some, None}
use Rattle.std.proofs.Common.{option_map, slice_get, Result, Ok, Err, refl, sym, ap, subst, ◌∙◌, not}
use Rattle.std.proofs.lemmas.Bool.{false≢true}
use Rattle.std.proofs.lemmas.Option.{slice_get-map}
use Rattle.std.proofs.lemmas.List.Elements.{All-append, All-contains, All-drop, All-map, All-nil, All-take}
use Rattle.std.specs.List.{cons_option, filter_map, flat_map, list_all, list_any}
use Rattle.std.specs.Prelude.{nat_lt}
use Rattle.jm_bytes.specs.ByteOrder.{is_before}
use Rattle.jm_bytes.specs.Checks.{unless_fault}
use Rattle.jm_bytes.specs.Results.{followed}
use Rattle.jm_bytes.proofs.Choice.{mapped_some, same_ok, same_some}
use Rattle.jm_bytes.proofs.Members.{all_from_contains, contains_filter_map, contains_map, contains_none}
use Rattle.jm_bytes.proofs.Members.{from_filter, from_filter_map, from_map}
use Rattle.jm_bytes.proofs.Pairs.{pairs_among, pairs_map, pairs_weaker}
use Rattle.jm_bytes.proofs.SameOrder.{from_flat_map}
use Rattle.jm_class.proofs.ReadingLaws.{IsBytes}
use Rattle.jm_closure.specs.declared.candidate.Candidate.{Candidate}
use Rattle.jm_closure.specs.Refusals.{AreChosen}
use Rattle.jm_form.specs.Layout.{Written}
use Rattle.jm_form.specs.Validity.{resources}
use Rattle.jm_form.specs.Entries.{Entry, entries, entry_at, entry_of, is_reached, row_at, slots}
use Rattle.jm_form.specs.Head.{header_of, index_length}
use Rattle.jm_form.specs.ModuleFiles.{info_name, named_package}
use Rattle.jm_form.specs.Places.{contents}
use Rattle.jm_form.specs.Trees.{class_packages}
use Rattle.jm_form.specs.declared.container.Header.{Header}
use Rattle.jm_form.specs.declared.container.HeaderFault.{HeaderFault}
use Rattle.jm_form.proofs.ClassPackageLaws.{class_packages_are}
use Rattle.jm_form.proofs.RisingLaws.{contains_rising}
use Rattle.jm_modinfo.specs.declared.descriptor.Descriptor.{Descriptor}
use Rattle.jm_modinfo.specs.declared.faults.DescriptorFault.{DescriptorFault}
use Rattle.jm_modpath.specs.declared.visible.VisibleModule.{VisibleModule}
use Rattle.jm_modpath.specs.Modules.{bytes_at, folder_info, folders_in, info_path}
use Rattle.jm_modpath.specs.Modules.{inside, module_in, module_of, module_with, modules_in, path_refusal, resource_name}
use Rattle.jm_modpath.specs.Modules.{visible}
use Rattle.jm_modpath.specs.Modules as shelf
use Rattle.jm_modpath.proofs.StepLaws.{from_unhidden}
use Rattle.jm_modset.specs.Found.{Finds, Found, ImageShows, Sources, found_of, is_called, path_refusal_as, seen_shows, unhidden_by}
use Rattle.jm_modset.specs.Shown.{Shown, candidates_of, gathered, module_files, of_entries, of_folder}
use Rattle.jm_modset.specs.Shown as modset
use Rattle.jm_names.specs.ByName.{Named}
use Rattle.jm_names.specs.Names.{is_node, is_slash}
use Rattle.jm_names.specs.UtfForms.{four_number, is_four, modified, pair_bytes}
use Rattle.jm_names.proofs.NameOrder.{from_by_name}
use Rattle.jm_names.proofs.UtfLaws.{pair_bytes-high}
use Rattle.jm_nodes.proofs.OrderLaws.{pairs_unmapped}
use Rattle.jm_outside.specs.Files.{AreBytes, Files, HaveBytes, names_below}
use Rattle.jm_outside.proofs.Sound.{bytes_added}
use Rattle.jm_reader.specs.Walk.{entries_with}
use Rattle.jm_relink.specs.declared.fault.RelinkFault.{RelinkFault}
use Rattle.jm_relink.specs.Files.{file_name, info_entry}
use Rattle.jm_relink.specs.Files as image
use Rattle.jm_relink.specs.Gathering.{resource_of}
use Rattle.jm_relink.specs.Modules.{IsSeenIn, ModulesOf, SeenModule, name_of}
use Rattle.jm_relink.proofs.AskedLaws.{Before, visible_in}
use Rattle.jm_relink.proofs.ModuleLaws.{one_content, resources_differ}
use Rattle.jm_texts.specs.declared.refusal.Refusal.{Refusal}
use Rattle.jm_link.specs.Relinked.{AreOnShelf, IsImageOnShelf}
use Rattle.jm_link.proofs.ClosedAgain.{taken, taken_rise}
use Rattle.jm_modset.proofs.ItemLaws.{got}
use Rattle.jm_modset.proofs.NameLaws.{legal_plain}
use Rattle.jm_link.proofs.FileOrder.{AreNamed, IsFirst, IsFirstOrOne, by_name_sorted, entries_rise, named_first, pairs_shown}
use Rattle.jm_link.proofs.SaidLaws.{Says, said_legal, says_from}
use Rattle.jm_link.proofs.SeenAgain.{AreOf, IsOf}

abbrev Sorted : Written → Written → Type 0
Sorted e f = IsFirstOrOne e.0 f.0

-- a module whose resources are its own, by path
pub record IsSoundShown (release : ℕ) (m : Shown) : Type 0 where
  pub whole : list_any is_slash (modset.name_of m) ≡ false
  pub each : (r : Written) → Contains m.resources r → IsOf release m.candidate r
  pub order : AllPairs Sorted m.resources

-- The modules at the places of a closure

picks_mapped : {A B : Type 0} (f : A → B) (xs : List A) (places : List ℕ) → map f (filter_map (slice_get xs) places)
    ≡ filter_map (slice_get (map f xs)) places
picks_mapped f xs [] = refl
picks_mapped f xs (p ∷ places) =
    go (slice_get xs p) ∙ ap (λ ys. cons_option (option_map f (slice_get xs p)) ys) (picks_mapped f xs places)
    ∙ ap (λ o. cons_option o (filter_map (slice_get (map f xs)) places)) (sym (slice_get-map f xs p))
  where
    go : (o : Option _) → map f (cons_option o (filter_map (slice_get xs) places)) ≡ cons_option (option_map f o) (map f (filter_map (slice_get xs)
        places))
    go (Some x) = refl
    go None = refl

module _ (release : ℕ) (ms : List Shown) (sound : All (IsSoundShown release) ms) (Taken : ℕ → Type 0) (places : List ℕ)
    (chosen : AreChosen (candidates_of ms) Taken places) (within : (i : ℕ) → Contains places i → i < length (candidates_of ms)) where
  abbrev picked : List Shown
  picked = filter_map (slice_get ms) places

  picked_are : candidates_of picked ≡ taken (candidates_of ms) Taken places chosen within
  picked_are = picks_mapped (λ (m : Shown). m.candidate) ms places

  all_picked : All (IsSoundShown release) picked
  all_picked = all_from_contains (IsSoundShown release) picked
      (λ m there. let from = from_filter_map (slice_get ms) places m there in
      All-contains (IsSoundShown release) ms m sound (got ms from.0 m from.2))

  is_sound : (m : Shown) → Contains picked m → IsSoundShown release m
  is_sound m there = All-contains (IsSoundShown release) picked m all_picked there

  rise : AllPairs Before (candidates_of picked)
  rise = subst (AllPairs Before) (sym picked_are) (taken_rise (candidates_of ms) Taken places chosen within)

  -- their resources stand by module and then by path
  pub gathered_are : AreOf release (taken (candidates_of ms) Taken places chosen within) (gathered ms places)
  gathered_are = subst (λ cs. AreOf release cs (gathered ms places)) picked_are (record {
    rising = rise;
    whole = λ c there.
        let (m, among, is) = from_map (λ (m : Shown). m.candidate) picked c there in
        subst (λ (d : Candidate). list_any is_slash d.descriptor.name ≡ false) is (is_sound m among).whole;
    each = λ r there.
        let (m, among, has) = from_flat_map (λ (m : Shown). m.resources) picked r there in
        (m.candidate, contains_map (λ (m : Shown). m.candidate) picked m among, (is_sound m among).each r has);
    order =
        pairs_shown Sorted (λ e f first differ. first) picked
        (all_from_contains (λ m. AreNamed m) picked (λ m there.
        let is = is_sound m there in
        record { whole = is.whole; each = λ r has. let of = is.each r has in (of.path, of.name) }))
        (all_from_contains (λ m. AllPairs Sorted m.resources) picked (λ m there. (is_sound m there).order))
        (pairs_unmapped Before (λ (m : Shown). m.candidate) picked rise);
  })

-- Packages

-- a module that has the class packages of its names has the package of each
has_package_of : (packages names : List (List ℕ)) → packages ≡ class_packages names → (name : List ℕ) → Contains names name
    → (shared : List ℕ) → named_package name ≡ Some shared → Contains packages shared
has_package_of packages names are name there shared has =
    subst (λ ps. Contains ps shared) (class_packages_are names ∙ sym are)
    (contains_rising (filter_map named_package names) shared (contains_filter_map named_package names name shared there has))

-- From a module path

-- what has only bytes below 128 in Modified UTF-8 is the same in UTF-8
modified_back : (text form : List ℕ) → list_all (λ b. nat_lt b 128) form ≡ true → modified text ≡ form → text ≡ form
modified_back [] form low is = is
modified_back (a ∷ []) form low is = is
modified_back (a ∷ x ∷ []) form low is = is
modified_back (a ∷ x ∷ y ∷ []) form low is = is
modified_back (a ∷ x ∷ y ∷ z ∷ text) form low is = go (is_four a x y z) refl form low is (λ rest fine same. modified_back (x ∷ y ∷ z
    ∷ text) rest fine same)
  where
    go : (b : Bool) → is_four a x y z ≡ b → (form : List ℕ) → list_all (λ b. nat_lt b 128) form ≡ true
        → cond b (pair_bytes (four_number a x y z) ++ modified text) (a ∷ modified (x ∷ y ∷ z ∷ text)) ≡ form
        → ((rest : List ℕ) → list_all (λ b. nat_lt b 128) rest ≡ true → modified (x ∷ y ∷ z ∷ text) ≡ rest → x ∷ y ∷ z ∷ text
        ≡ rest) → a ∷ x ∷ y ∷ z ∷ text ≡ form
    go true four form low is back = absurd (false≢true (sym (pair_bytes-high (four_number a x y z) (modified text))
        ∙ ap (list_all (λ b. nat_lt b 128)) is ∙ low))
    go false four [] low is back = cc
    go false four (c ∷ form) low is back =
        let head : a ≡ c = cc in
        let rest : modified (x ∷ y ∷ z ∷ text) ≡ form = cc in
        ap (λ d. d ∷ x ∷ y ∷ z ∷ text) head ∙ ap (λ t. c ∷ t) (back form (later (nat_lt c 128) (list_all (λ b. nat_lt b 128) form)
        low) rest)
      where
        later : (u v : Bool) → (u && v) ≡ true → v ≡ true
        later true v h = h
        later false v h = absurd (false≢true h)

-- the bytes of a file, among files that have bytes alone
told_bytes : (files : Files) (path : List ℕ) → HaveBytes files → AreBytes (bytes_at files path)
told_bytes files path bytes =
    subst AreBytes (append-nil (bytes_at files path)) (bytes_added files path [] bytes (All-nil (λ byte. byte < 256)))

module _ (release : ℕ) (files : Files) (directories : List (List ℕ)) (bytes : (path : List ℕ) → AreBytes (bytes_at files path)) where
  abbrev pub ms : List VisibleModule
  ms = visible release files directories

  -- the module that a folder shows
  record IsShown (m : VisibleModule) : Type 0 where
    says : Says release (bytes_at files (info_path m.folder)) m.candidate.descriptor
    packages : m.candidate.packages ≡ class_packages (map (resource_name (shelf.name_of m)) m.files)

  shown_by : (folder : List ℕ) (r : Result Descriptor DescriptorFault) (m : VisibleModule) → folder_info release files folder ≡ r
      → module_of files folder r ≡ Some m → IsShown m
  shown_by folder (Ok d) m info is =
      subst IsShown (same_some (module_with folder d (bytes_at files (info_path folder)) (names_below folder files)) m is)
      (record { says = says_from release (bytes_at files (info_path folder)) d (bytes (info_path folder)) info; packages = refl })
  shown_by folder (Err fault) m info is = cc

  shown : (m : VisibleModule) → Contains ms m → IsShown m
  shown m there =
      let one = from_flat_map (modules_in release files) directories m (from_unhidden [] (flat_map (modules_in release files)
      directories) m there) in
      let two = from_filter_map (λ folder. module_in release files (inside one.0 folder)) (folders_in files one.0) m one.2 in
      shown_by (inside one.0 two.0) (folder_info release files (inside one.0 two.0)) m refl two.2

  shown_whole : (m : VisibleModule) → Contains ms m → list_any is_slash (shelf.name_of m) ≡ false
  shown_whole m there =
      legal_plain (shelf.name_of m) (said_legal release (bytes_at files (info_path m.folder)) m.candidate.descriptor (shown m there).says)

  -- a file as a resource, and its path on the shelf
  abbrev file_of : VisibleModule → List ℕ → Named
  file_of m path = (resource_name (shelf.name_of m) path, inside m.folder path)

  file_from : (m : VisibleModule) (f : Named) → Contains (module_files m) f → (path : List ℕ) × Contains m.files path × (file_of m path ≡ f)
  file_from m f there = from_map (file_of m) m.files f (from_by_name (map (file_of m) m.files) f there)

  abbrev Comes : Named → Named → Type 0
  Comes e f = IsFirstOrOne e.0 f.0

  module_sorted : (m : VisibleModule) → Contains ms m → AllPairs Comes (module_files m)
  module_sorted m there =
      pairs_among (λ (e f : Named). e.0 ≢ f.0 → is_before e.0 f.0 ≡ true) Comes (module_files m)
      (λ e f among too sorted differ.
      let one = file_from m e among in
      let two = file_from m f too in
      named_first (shelf.name_of m) (shown_whole m there) (modified one.0) (modified two.0) e.0 f.0 (ap (λ (x : Named). x.0) one.2)
      (ap (λ (x : Named). x.0) two.2) (sorted differ))
      (by_name_sorted (map (file_of m) m.files))

  abbrev written : Named → Written
  written f = (f.0, bytes_at files f.1)

  folder_sound : (m : VisibleModule) → Contains ms m → IsSoundShown release (of_folder files m)
  folder_sound m there = record {
    whole = shown_whole m there;
    each = λ r has.
        let is = shown m there in
        let from = from_map written (module_files m) r has in
        let file = file_from m from.0 from.1 in
        let same : written (file_of m file.0) ≡ r = ap written file.2 ∙ from.2 in
        record {
          path = modified file.0;
          name = ap (λ (x : Written). x.0) (sym same);
          has_package = λ shared has. has_package_of m.candidate.packages (map (resource_name (shelf.name_of m)) m.files) is.packages r.0
              (subst (Contains (map (resource_name (shelf.name_of m)) m.files)) (ap (λ (x : Written). x.0) same)
              (contains_map (resource_name (shelf.name_of m)) m.files file.0 file.1)) shared has;
          says = λ named.
              let plain : file.0 ≡ info_name = modified_back file.0 info_name refl named in
              subst (λ (x : Written). Says release x.1 m.candidate.descriptor) same
              (subst (λ p. Says release (bytes_at files (inside m.folder p)) m.candidate.descriptor) (sym plain) is.says);
        };
    order = pairs_map Sorted written (module_files m) (module_sorted m there);
  }

  path_sound : All (IsSoundShown release) (map (of_folder files) ms)
  path_sound = All-map (IsSoundShown release) (of_folder files) ms
      (all_from_contains (λ m. IsSoundShown release (of_folder files m)) ms folder_sound)

-- From an image

content_with : (b : List ℕ) (header : Result Header HeaderFault) (r : Written) → IsBytes b
    → Contains (resources (entries_with b header)) r → IsBytes r.1
content_with b (Err fault) r bytes there = absurd (contains_none r there)
content_with b (Ok h) r bytes there =
    let Byte : ℕ → Type 0 = λ byte. byte < 256 in
    let from = from_map (λ (e : Entry). (e.name, e.content)) (filter (λ (e : Entry). not (is_node e.name)) (entries b h)) r there in
    let reached = from_filter (λ (e : Entry). not (is_node e.name)) (entries b h) from.0 from.1 in
    let spelled = from_filter (is_reached b h) (filter_map (entry_at b h) (slots h)) from.0 reached.0 in
    let at = from_filter_map (entry_at b h) (slots h) from.0 spelled.0 in
    let row = mapped_some (entry_of b h at.0) (row_at b h at.0) from.0 at.2 in
    subst (λ (x : Written). IsBytes x.1) from.2 (subst (λ (e : Entry). IsBytes e.content) row.2
    (All-take Byte row.0.size (drop row.0.offset (contents b h)) (All-drop Byte row.0.offset (contents b h)
    (All-drop Byte (index_length h) b bytes))))

module _ (release : ℕ) (b : List ℕ) (bytes : AreBytes b) (s : SeenModule) (is : IsSeenIn release (image.resources_of b) s) where
  seen_says : (f : Named) → Contains s.files f → f.0 ≡ info_name → Says release f.1 s.candidate.descriptor
  seen_says f there named =
      let here = (is.files.each f.0 f.1).0 there in
      let same = one_content (image.resources_of b) (file_name (name_of s) f.0) (info_entry (name_of s)) f.1 is.content
      (resources_differ b) here is.info.there (ap (file_name (name_of s)) named) in
      let content = content_with b (header_of b) (info_entry (name_of s), is.content) bytes is.info.there in
      subst (λ c. Says release c s.candidate.descriptor) (sym same) (says_from release is.content s.candidate.descriptor content is.says)

  abbrev names : List (List ℕ)
  names = map (λ (g : Named). file_name (name_of s) g.0) s.files

  entries_sound : IsSoundShown release (of_entries s)
  entries_sound = record {
    whole = is.info.whole;
    each = λ r has.
        let (f, among, same) = from_map (resource_of (name_of s)) s.files r has in
        record {
          path = f.0;
          name = ap (λ (x : Written). x.0) (sym same);
          has_package = λ shared has. has_package_of s.candidate.packages names is.packages r.0
              (subst (Contains names) (ap (λ (x : Written). x.0) same) (contains_map (λ (g : Named). file_name (name_of s) g.0) s.files f
              among)) shared has;
          says = λ named. subst (λ (x : Written). Says release x.1 s.candidate.descriptor) same (seen_says f among named);
        };
    order = pairs_weaker (λ (e f : Written). IsFirst e.0 f.0) Sorted (λ e f first differ. first) _
        (entries_rise s is.info.whole is.files.rising);
  }

seen_sound : (release : ℕ) (b : List ℕ) (seen : List SeenModule) → AreBytes b → ModulesOf release b (Ok seen)
    → All (IsSoundShown release) (map of_entries seen)
seen_sound release b seen bytes shows =
    All-map (IsSoundShown release) of_entries seen
    (all_from_contains (λ s. IsSoundShown release (of_entries s)) seen
    (λ s among. entries_sound release b bytes s
    (All-contains (IsSeenIn release (image.resources_of b)) seen s (visible_in release b seen shows).each among)))

image_bytes : (b : List ℕ) → IsImageOnShelf (Some b) → AreBytes b
image_bytes b (files, sound, path, there) = subst (λ o. AreBytes (unwrap_or o [])) there (told_bytes files path sound.bytes)

seen_parts : (seen : Result (List SeenModule) RelinkFault) (ms : List Shown) → ◌≡◌ {A = Result (List Shown) Refusal} (Ok ms) (seen_shows seen)
    → (ss : List SeenModule) × (seen ≡ Ok ss) × (map of_entries ss ≡ ms)
seen_parts (Ok ss) ms is = (ss, refl, sym (same_ok {E = Refusal} ms (map of_entries ss) is))
seen_parts (Err fault) ms is = cc

-- the modules that an image shows, if there is one
image_parts : (release : ℕ) (image : Option (List ℕ)) (ms : List Shown) → ImageShows release image (Ok ms) → (ms ≡ [])
    ⊎ ((b : List ℕ) × (image ≡ Some b) × (ss : List SeenModule) × ModulesOf release b (Ok ss) × (map of_entries ss ≡ ms))
image_parts release None ms is = inl (same_ok {E = Refusal} ms [] is)
image_parts release (Some b) ms (seen, shows, is) =
    let parts = seen_parts seen ms is in
    inr (b, refl, parts.0, subst (ModulesOf release b) parts.1 shows, parts.2)

image_sound : (release : ℕ) (image : Option (List ℕ)) (ms : List Shown) → IsImageOnShelf image → ImageShows release image (Ok ms)
    → All (IsSoundShown release) ms
image_sound release image ms stands shows =
    elim (image_parts release image ms shows) [
      | inl none ↦ subst (All (IsSoundShown release)) (sym none) (All-nil (IsSoundShown release))
      | inr parts ↦
          subst (All (IsSoundShown release)) parts.4
          (seen_sound release parts.0 parts.2 (image_bytes parts.0 (subst IsImageOnShelf parts.1 stands)) parts.3)
    ]

-- Both

path_parts : (directories : List (List ℕ)) (ms path : List Shown) (o : Option Refusal) (found : Found) → ◌≡◌ {A = Result Found Refusal}
    (Ok found) (followed (unless_fault o path) (λ ps. Ok (found_of directories ms ps))) → found ≡ found_of directories ms path
path_parts directories ms path None found is = same_ok {E = Refusal} found (found_of directories ms path) is
path_parts directories ms path (Some refusal) found is = cc

-- what is found are the modules of an image and those of a module path
finds_parts : (release : ℕ) (source : Sources) (found : Found) → Finds release source (Ok found) → (ms : List Shown)
    × ImageShows release source.image (Ok ms)
    × (found ≡ found_of source.directories ms (map (of_folder source.files) (visible release source.files source.directories)))
finds_parts release source found (Ok ms, shows, is) = (
  ms,
  shows,
  path_parts source.directories ms (map (of_folder source.files) (visible release source.files source.directories))
      (option_map path_refusal_as (path_refusal release source.files source.directories)) found is,
)
finds_parts release source found (Err refusal, shows, is) = cc

-- all modules that are found are sound
pub finds_sound : (release : ℕ) (source : Sources) (found : Found) → AreOnShelf source → Finds release source (Ok found)
    → All (IsSoundShown release) found.modules
finds_sound release source found (sound, stands) finds =
    let (ms, shows, is) = finds_parts release source found finds in
    let path = map (of_folder source.files) (visible release source.files source.directories) in
    let shown = path_sound release source.files source.directories (λ p. told_bytes source.files p sound.bytes) in
    subst (λ (f : Found). All (IsSoundShown release) f.modules) (sym is)
    (All-append (IsSoundShown release) ms (unhidden_by ms path) (image_sound release source.image ms stands shows)
    (all_from_contains (IsSoundShown release) (unhidden_by ms path)
    (λ m there. All-contains (IsSoundShown release) path m shown (from_filter (λ k. not (is_called (candidates_of ms) (modset.name_of k)))
    path m there).0)))
