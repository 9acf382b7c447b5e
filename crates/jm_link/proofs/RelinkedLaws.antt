-- Relinking: a link of the image that a link made, with all its modules and without plug-ins, comes
-- to that image.
use Rattle.std.proofs.Common.{◌≡◌, ◌≢◌, ◌<◌, ◌≤◌, ◌↔◌, ℕ, suc, ◌+◌, Bool, true, false, List, [], ◌∷◌, ◌++◌, rules}
use Rattle.std.proofs.Common.{append-nil, append_assoc, length, length-append, map, AllPairs, Contains}
use Rattle.std.proofs.Common.{IsPermutation, Some, None, option_map, slice_get, Result, Ok, refl}
use Rattle.std.proofs.Common.{sym, ap, subst, ◌∙◌}
use Rattle.std.proofs.lemmas.Bool.{false≢true}
use Rattle.std.proofs.lemmas.List.{length-map}
use Rattle.std.proofs.lemmas.List.FromFn.{length-range_with_len}
use Rattle.std.proofs.lemmas.List.Elements.{All-contains}
use Rattle.std.proofs.lemmas.List.Sorted.{Contains-permutation, IsPermutation-sym}
use Rattle.std.proofs.lemmas.Slice.Eq.{bytes_eq-Decides}
use Rattle.std.specs.List.{filter_map, flat_map, range_with_len}
use Rattle.std.specs.Str.{bytes_eq}
use Rattle.jm_bytes.proofs.Choice.{same_ok}
use Rattle.jm_bytes.proofs.CheckLaws.{no_fault_all, no_fault_from}
use Rattle.jm_bytes.proofs.Members.{all_from_contains, any_contains, contains_filter_map, contains_here, contains_later}
use Rattle.jm_bytes.proofs.Members.{contains_map, element_at, from_any, from_filter_map, from_map}
use Rattle.jm_bytes.proofs.SameOrder.{mapped_twice}
use Rattle.jm_closure.specs.declared.candidate.Candidate.{Candidate}
use Rattle.jm_closure.specs.Modules as closure
use Rattle.jm_closure.specs.Refusals.{Closes}
use Rattle.jm_form.specs.Layout.{Written, names_of}
use Rattle.jm_form.specs.Validity.{Stands, resources}
use Rattle.jm_modset.specs.Found.{Finds, Found, image_alone, is_called, reserved, roots_among}
use Rattle.jm_modset.specs.Found.{Sources}
use Rattle.jm_modset.specs.Shown.{Shown, candidates_of, gathered, name_of, of_entries}
use Rattle.jm_names.specs.ComputedFault.{name_fault}
use Rattle.jm_names.proofs.KeyLaws.{differ_moved}
use Rattle.jm_plugins.specs.Plugins.{Applies}
use Rattle.jm_reader.specs.Walk.{entries_with}
use Rattle.jm_relink.specs.Files.{info_entry, resources_of}
use Rattle.jm_relink.specs.Modules.{ModulesOf, SeenModule}
use Rattle.jm_relink.proofs.ModuleLaws.{resources_differ}
use Rattle.jm_texts.specs.declared.refusal.Refusal.{Refusal}
use Rattle.jm_texts.specs.declared.refusal.Refusal.TheVariants as refusal
use Rattle.jm_texts.specs.NameRefusals.{first_bad_name, name_refusal}
use Rattle.jm_link.specs.Chosen.{Chosen}
use Rattle.jm_link.specs.Linked.{IsFoundTo, IsGatheredTo, LinkedImage, LinksAmong, LinksFrom, PlugsTo, Request}
use Rattle.jm_link.specs.Linked.{laid_out, layout_refusal}
use Rattle.jm_link.specs.Links.{IsLaid}
use Rattle.jm_link.specs.Relinked.{IsLinkedFrom, Relinks, Takes}
use Rattle.jm_link.proofs.ClosedAgain.{chosen_further, closes_again, found_again, place_again, root_chosen}
use Rattle.jm_modset.proofs.ItemLaws.{got}
use Rattle.jm_modset.proofs.NameLaws.{free_names}
use Rattle.jm_link.proofs.FileOrder.{IsFirstOrOne}
use Rattle.jm_link.proofs.KeptLaws.{AreKept}
use Rattle.jm_link.proofs.MadeFrom.{IsMade, IsMadeFrom, left_kept, left_of, linked_laid, made_from, modules_taken, taken_within}
use Rattle.jm_link.proofs.OnceLaws.{finds_once}
use Rattle.jm_link.proofs.SeenAgain.{AreOf, only_packages, resources_again, see, seen, seen_visible, shown}

-- What an image holds that stands for resources

module _ (b : List ℕ) (rs : List Written) (stands : Stands b rs) where
  moved : IsPermutation (resources_of b) rs
  moved = subst (λ h. IsPermutation (resources (entries_with b h)) rs) (sym stands.1.header) stands.2

  pub held : (r : Written) → Contains (resources_of b) r ↔ Contains rs r
  held r = search (rules, Contains-permutation, IsPermutation-sym, moved)

  pub names_apart : AllPairs (λ (e f : Written). e.0 ≢ f.0) rs
  names_apart = differ_moved (λ (r : Written). r.0) (resources_of b) rs moved (resources_differ b)

-- No name is refused

called_some : (found : List Candidate) (name : List ℕ) → is_called found name ≡ true → (c : Candidate) × Contains found c
    × (closure.name_of c ≡ name)
called_some found name is = search (rules, bytes_eq-Decides, from_any)

uncalled : (found others : List Candidate) → ((c : Candidate) → Contains others c → (d : Candidate) × Contains found d
    × (closure.name_of d ≡ closure.name_of c)) → (name : List ℕ) → is_called found name ≡ false → is_called others name ≡ false
uncalled found others from name none = go (is_called others name) refl
  where
    go : (b : Bool) → is_called others name ≡ b → b ≡ false
    go true is =
        let one = called_some others name is in
        let before = from one.0 one.1 in
        absurd (false≢true (sym none ∙ any_contains (λ (c : Candidate). bytes_eq name (closure.name_of c)) found before.0 before.1
        ((bytes_eq-Decides name (closure.name_of before.0)).1 (sym (before.2 ∙ one.2)))))
    go false is = refl

free_again : (found others : List Candidate) → ((c : Candidate) → Contains others c → (d : Candidate) × Contains found d
    × (closure.name_of d ≡ closure.name_of c)) → reserved found ≡ None → reserved others ≡ None
free_again found others from free = search (rules, free_names, uncalled)

good_name : (rs : List Written) (r : Written) → first_bad_name rs ≡ None → Contains rs r → name_refusal r ≡ None
good_name rs r none there = All-contains (λ o. o ≡ None) (map name_refusal rs) (name_refusal r) (no_fault_all (map name_refusal rs)
    none) (contains_map name_refusal rs r there)

sound_again : (release : ℕ) (old new : List Written) → AreKept release IsFirstOrOne old new → first_bad_name old ≡ None
    → first_bad_name new ≡ None
sound_again release old new kept none =
    no_fault_from (map name_refusal new)
    (all_from_contains (λ o. o ≡ None) (map name_refusal new)
    (λ o there.
    let from = from_map name_refusal new o there in
    let one = kept.each from.0 from.1 in
    sym from.2 ∙ ap (λ n. option_map (λ fault. refusal.BadName n fault) (name_fault n)) (sym one.name)
    ∙ good_name old one.was none one.there))

-- All of a list, by its places

in_middle : {X : Type 0} (front : List X) (x : X) (xs : List X) → slice_get (front ++ x ∷ xs) (length front) ≡ Some x
in_middle [] x xs = refl
in_middle (y ∷ front) x xs = in_middle front x xs

all_from : {X : Type 0} (front xs : List X) → filter_map (slice_get (front ++ xs)) (range_with_len (length front) (length xs)) ≡ xs
all_from front [] = refl
all_from front (x ∷ xs) =
    let place : length (front ++ x ∷ []) ≡ length front + 1 = length-append front (x ∷ []) in
    let rest = ap (λ ys. filter_map (slice_get ys) (range_with_len (length (front ++ x ∷ [])) (length xs)))
    (sym (append_assoc front (x ∷ []) xs)) ∙ all_from (front ++ x ∷ []) xs in
    rw (in_middle front x xs) (ap (λ ys. x ∷ ys) (ap (λ n. filter_map (slice_get (front ++ x ∷ xs)) (range_with_len n (length xs)))
    (sym place) ∙ rest))

count_taken : {X : Type 0} (xs : List X) (places : List ℕ) → ((i : ℕ) → Contains places i → i < length xs)
    → length (filter_map (slice_get xs) places) ≡ length places
count_taken xs [] within = refl
count_taken xs (p ∷ places) within =
    let held = element_at xs p (within p (contains_here p places)) in
    rw held.1 (ap suc (count_taken xs places (λ i among. within i (contains_later p places i among))))

-- What is found of an image alone

abbrev found_alone : List Shown → Found
found_alone ms = record { modules = ms; named = map name_of ms }

alone_finds : (release : ℕ) (b : List ℕ) (ss : List SeenModule) (ms : List Shown) → ModulesOf release b (Ok ss) → map of_entries ss ≡ ms
    → Finds release (image_alone b) (Ok (found_alone ms))
alone_finds release b ss ms shows is = (
  Ok ms,
  (Ok ss, shows, ap Ok (sym is)),
  ap (λ ns. Ok (record { modules = ns; named = map name_of ms })) (sym (append-nil ms)),
)

-- Once more

module _ (b : List ℕ) (source : Sources) (first : Request) (was : IsLinkedFrom source first b) where
  abbrev image : LinkedImage
  image = was.image

  -- the image that was linked is what the layout of its resources is
  pub laid : IsLaid first.order (Ok was.image)
  laid = linked_laid source first image was.stands was.linked

  abbrev from : IsMadeFrom source first image
  from = made_from source first image was.stands was.linked

  abbrev found : List Candidate
  found = candidates_of from.found.modules

  abbrev first_roots : List (List ℕ)
  first_roots = roots_among from.found.named first.roots

  abbrev made : IsMade first first_roots found (gathered from.found.modules) image
  made = from.made

  abbrev Taken : ℕ → Type 0
  Taken = Chosen first.bind found first_roots

  within : (i : ℕ) → Contains made.places i → i < length found
  within = taken_within first first_roots found (gathered from.found.modules) image made

  abbrev cs : List Candidate
  cs = modules_taken first first_roots found (gathered from.found.modules) image made

  takes : (c : Candidate) → Contains cs c → Takes source first (closure.name_of c)
  takes c there =
      let at = from_filter_map (slice_get found) made.places c there in
      (from.found, from.finds, at.0, (made.closes.4.exactly at.0).0 at.1, (c, at.2, refl))

  taken_by : (name : List ℕ) → Takes source first name → (c : Candidate) × Contains cs c × (closure.name_of c ≡ name)
  taken_by name (others, finds, i, has, named) =
      let same = same_ok {E = Refusal} others from.found
      (finds_once first.release source (Ok others) (Ok from.found) finds from.finds) in
      let (c, here, is) = subst (λ (f : Found). closure.HasName (candidates_of f.modules) i name) same named in
      let chosen : Taken i =
      subst (λ (f : Found). Chosen first.bind (candidates_of f.modules) (roots_among f.named first.roots) i) same has in
      (c, contains_filter_map (slice_get found) made.places i c ((made.closes.4.exactly i).1 chosen) here, is)

  left_is : image.resources ≡ made.left
  left_is = ap (λ (x : LinkedImage). x.resources) made.is

  stands : Stands b made.left
  stands = subst (Stands b) left_is (subst (λ x. Stands x image.resources) (sym was.made) laid.stands)

  infos : (c : Candidate) → Contains cs c → (content : List ℕ) × Contains made.left (info_entry (closure.name_of c), content)
  infos c there =
      let named = subst (λ (rs : List Written). Contains (names_of rs) (info_entry (closure.name_of c))) left_is
      (was.infos (closure.name_of c) (takes c there)) in
      let has = from_map (λ (r : Written). r.0) made.left (info_entry (closure.name_of c)) named in
      (has.0.1, subst (λ n. Contains made.left (n, has.0.1)) has.2 has.1)

  are : AreOf first.release cs made.left
  are = left_of source first image from was.unordered

  apart : AllPairs (λ (e f : Written). e.0 ≢ f.0) made.left
  apart = names_apart b made.left stands

  -- The modules that are seen again

  abbrev again : Candidate → Candidate
  again c = (see first.release cs made.left are apart c).candidate

  abbrev ms : List Shown
  ms = shown first.release cs made.left are apart

  abbrev others : List Candidate
  others = found_again found Taken made.places made.closes.4 within again (λ c. refl) (only_packages first.release cs made.left are apart)

  same_found : candidates_of ms ≡ others
  same_found = mapped_twice (λ (m : Shown). m.candidate) (λ c. of_entries (see first.release cs made.left are apart c)) cs

  abbrev all : List ℕ
  all = range_with_len 0 (length others)

  free : reserved others ≡ None
  free = free_again found others
      (λ c there.
      let from = from_map again cs c there in
      let at = from_filter_map (slice_get found) made.places from.0 from.1 in
      (from.0, got found at.0 from.0 at.2, ap closure.name_of from.2)) made.free

  gathered_again : gathered ms all ≡ made.left
  gathered_again =
      ap (λ n. gathered ms (range_with_len 0 n))
      (length-map cs again ∙ sym (length-map cs (λ c. of_entries (see first.release cs made.left are apart c))))
      ∙ ap (flat_map (λ m. m.resources)) (all_from [] ms) ∙ resources_again first.release cs made.left are apart

  count : length all ≡ length made.places
  count = length-range_with_len 0 (length others) ∙ length-map cs again ∙ count_taken found made.places within

  module _ (asked : Request) (rises : first.release ≤ asked.release) where
    modules_held : ModulesOf asked.release b (Ok (seen first.release cs made.left are apart))
    unfolding ModulesOf
    modules_held = seen_visible first.release cs made.left are apart asked.release rises infos (resources_of b) (held b made.left stands)

    finds : Finds asked.release (image_alone b) (Ok (found_alone ms))
    finds = alone_finds asked.release b (seen first.release cs made.left are apart) ms modules_held
        (mapped_twice of_entries (see first.release cs made.left are apart) cs)

    abbrev roots : List (List ℕ)
    roots = roots_among (map name_of ms) asked.roots

    abbrev Again : ℕ → Type 0
    Again = Chosen asked.bind others roots

    -- where the names of all modules that were taken are roots, all are taken
    pub roots_take : ((found : Found) → Finds asked.release (image_alone b) (Ok found) → (name : List ℕ) → Takes source first name
        → Contains (roots_among found.named asked.roots) name) → (name : List ℕ) → Takes source first name
        → Takes (image_alone b) asked name
    roots_take rooted name has =
        let (c, there, is) = taken_by name has in
        let at = place_again found Taken made.places made.closes.4 within again (λ c. refl) (only_packages first.release cs made.left
        are apart) c there in
        let named = subst (closure.HasName others at.0) is at.1 in (
          found_alone ms,
          finds,
          at.0,
          subst (λ fs. Chosen asked.bind fs roots at.0) (sym same_found) (root_chosen asked.bind others roots at.0 (
            name,
            rooted
                (found_alone ms) finds name has,
            named,
          )),
          subst (λ fs. closure.HasName fs at.0 name) (sym same_found) named,
        )

    -- a module that is taken is chosen
    chosen_too : (name : List ℕ) → Takes (image_alone b) asked name → (k : ℕ) × Again k × closure.HasName others k name
    chosen_too name (alone, finds', k, chosen, named) =
        let same = same_ok {E = Refusal} alone (found_alone ms) (finds_once asked.release (image_alone b) (Ok alone) (Ok (found_alone ms))
        finds' finds) in
        let here = subst (λ (f : Found). Chosen asked.bind (candidates_of f.modules) (roots_among f.named asked.roots) k) same chosen in
        let is = subst (λ (f : Found). closure.HasName (candidates_of f.modules) k name) same named in
        (k, subst (λ fs. Chosen asked.bind fs roots k) same_found here, subst (λ fs. closure.HasName fs k name) same_found is)

    module _ (every : (name : List ℕ) → Takes source first name → Takes (image_alone b) asked name)
        (only : (name : List ℕ) → Contains roots name → Takes source first name) (order : asked.order ≡ first.order)
        (plugins : asked.plugins ≡ []) where
      closes : Closes others roots Again (Ok all)
      closes =
          closes_again found Taken made.places made.closes.4 within again (λ c. refl) (only_packages first.release cs made.left are apart)
          roots asked.bind (λ c there. chosen_too (closure.name_of c) (every (closure.name_of c) (takes c there)))
          (λ name asks. taken_by name (only name asks)) made.closes.1 made.closes.2 made.closes.3
          (λ i j has requires. chosen_further first.bind found first_roots i j has requires)

      laid_again : ◌≡◌ {A = Result LinkedImage Refusal} (Ok image) (laid_out asked.order (length all) made.left
          (layout_refusal asked.order made.left))
      laid_again =
          ap (λ x. Ok x) made.is
          ∙ sym (ap (λ o. laid_out o (length all) made.left (layout_refusal o made.left)) order
          ∙ ap (λ n. laid_out first.order n made.left (layout_refusal first.order made.left)) count
          ∙ ap (laid_out first.order (length made.places) made.left) made.fits)

      plugged_again : PlugsTo asked (length all) made.left (Ok image)
      plugged_again = (Ok made.left, subst (λ ps. Applies asked.release ps made.left (Ok made.left)) (sym plugins) refl, laid_again)

      gathered_to : IsGatheredTo asked (length all) (gathered ms all) (first_bad_name (gathered ms all)) (Ok image)
      gathered_to =
          subst (λ rs. IsGatheredTo asked (length all) rs (first_bad_name rs) (Ok image)) (sym gathered_again)
          (subst (λ o. IsGatheredTo asked (length all) made.left o (Ok image))
          (sym (sound_again first.release (gathered from.found.modules made.places) made.left (left_kept source first image from was.unordered) made.sound)) plugged_again)

      links_again : LinksAmong asked roots (candidates_of ms) (gathered ms) (Ok image)
      links_again =
          subst (λ fs. LinksAmong asked roots fs (gathered ms) (Ok image)) (sym same_found)
          (subst (λ o. IsFoundTo asked roots others (gathered ms) o (Ok image)) (sym free) (Ok all, closes, gathered_to))

      links_to : LinksFrom (image_alone b) asked (Ok image)
      links_to = (Ok (found_alone ms), finds, links_again)

-- The link comes to the same image

pub comes_again : (b : List ℕ) (asked : Request) (relinks : Relinks b asked) → LinksFrom (image_alone b) asked (Ok relinks.was.image)
comes_again b asked relinks =
    let source = relinks.source in
    let first = relinks.first in
    let was = relinks.was in
    links_to b source first was asked relinks.release relinks.takes
    (relinks.roots (found_alone (ms b source first was)) (finds b source first was asked relinks.release)) relinks.order relinks.plugins
