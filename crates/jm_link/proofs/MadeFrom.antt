-- A link that made an image, wherever it took its modules from: what it was made of, and that the
-- image is what the layout of its resources is.
use Rattle.std.proofs.Common.{◌≡◌, ◌<◌, ℕ, List, All, Contains, length, slice_get, Option, Some, None, Result, Ok, Err, codes, false, true, rules}
use Rattle.std.proofs.Common.{refl, sym, ap, subst, ◌∙◌}
use Rattle.std.proofs.lemmas.List.{map-id}
use Rattle.std.proofs.lemmas.List.Elements.{All-map}
use Rattle.jm_bytes.proofs.Choice.{same_ok}
use Rattle.jm_bytes.proofs.Members.{all_from_contains, from_filter_map}
use Rattle.jm_bytes.specs.declared.words.Order.{Order}
use Rattle.jm_closure.specs.declared.candidate.Candidate.{Candidate}
use Rattle.jm_closure.specs.declared.fault.CloseFault.{CloseFault}
use Rattle.jm_closure.specs.Modules as closure
use Rattle.jm_closure.specs.Refusals.{Closes}
use Rattle.jm_form.specs.Layout.{Written, names_of}
use Rattle.jm_modset.specs.Found.{Finds, Found, Sources, reserved, roots_among}
use Rattle.jm_modset.specs.Shown.{candidates_of, gathered}
use Rattle.jm_names.specs.NameFaults.{IsSound}
use Rattle.jm_names.specs.Names.{is_node}
use Rattle.jm_plugins.specs.declared.chain.BadClass.{BadClass}
use Rattle.jm_plugins.specs.ComputedPlugins.{apply}
use Rattle.jm_plugins.proofs.NameLaws.{names_kept}
use Rattle.jm_texts.specs.declared.refusal.Refusal.{Refusal}
use Rattle.jm_texts.specs.NameRefusals.{first_bad_name}
use Rattle.jm_texts.proofs.NameRefusalLaws.{all_sound}
use Rattle.jm_link.specs.Chosen.{Chosen}
use Rattle.jm_link.specs.Linked.{IsClosedTo, IsFoundTo, IsGatheredTo, IsLinkedOf, IsPluggedTo, LinkedImage}
use Rattle.jm_link.specs.Linked.{LinksAmong, LinksFound, LinksFrom, Request, image_with, laid_out, layout_refusal}
use Rattle.jm_link.specs.Links.{IsLaid}
use Rattle.jm_link.specs.Relinked.{AreOnShelf, leaves_order}
use Rattle.jm_link.proofs.ChosenLaws.{chosen_below}
use Rattle.jm_link.proofs.ClosedAgain.{taken}
use Rattle.jm_modset.proofs.ItemLaws.{got}
use Rattle.jm_modset.proofs.NameLaws.{free_names, no_node, other_name}
use Rattle.jm_link.proofs.FileOrder.{IsFirstOrOne}
use Rattle.jm_link.proofs.KeptLaws.{AreKept, applied}
use Rattle.jm_link.proofs.LaidLaws.{laid_free}
use Rattle.jm_link.proofs.OnceLaws.{plugs_computed}
use Rattle.jm_link.proofs.SeenAgain.{AreOf, kept_of}
use Rattle.jm_link.proofs.ShownResources.{finds_sound, gathered_are}

-- Parts of a link that made an image

pub record IsMade (asked : Request) (roots : List (List ℕ)) (found : List Candidate) (resources : List ℕ → List Written)
    (image : LinkedImage) : Type 0 where
  pub free : reserved found ≡ None
  pub places : List ℕ
  pub closes : Closes found roots (Chosen asked.bind found roots) (Ok places)
  pub sound : first_bad_name (resources places) ≡ None
  pub left : List Written
  pub plugged : apply asked.release asked.plugins (resources places) ≡ Ok left
  pub fits : layout_refusal asked.order left ≡ None
  pub is : image ≡ image_with asked.order (length places) left

laid_parts : (order : Order) (modules : ℕ) (left : List Written) (o : Option Refusal) (image : LinkedImage)
    → ◌≡◌ {A = Result LinkedImage Refusal} (Ok image) (laid_out order modules left o) → (o ≡ None) × (image ≡ image_with order modules left)
laid_parts order modules left None image is = (refl, same_ok {E = Refusal} image (image_with order modules left) is)
laid_parts order modules left (Some refusal) image is = cc

plugged_parts : (order : Order) (modules : ℕ) (r : Result (List Written) BadClass) (image : LinkedImage)
    → IsPluggedTo order modules r (Ok image) → (left : List Written) × (r ≡ Ok left) × (layout_refusal order left ≡ None)
    × (image ≡ image_with order modules left)
plugged_parts order modules (Ok left) image is = search (rules, laid_parts)
plugged_parts order modules (Err fault) image is = search (rules)

gathered_parts : (asked : Request) (modules : ℕ) (rs : List Written) (o : Option Refusal) (image : LinkedImage)
    → IsGatheredTo asked modules rs o (Ok image) → (o ≡ None) × IsPluggedTo asked.order modules (apply asked.release asked.plugins rs)
    (Ok image)
gathered_parts asked modules rs None image is = (refl, plugs_computed asked modules rs (Ok image) is)
gathered_parts asked modules rs (Some refusal) image is = cc

closed_parts : (asked : Request) (resources : List ℕ → List Written) (closed : Result (List ℕ) CloseFault) (image : LinkedImage)
    → IsClosedTo asked resources closed (Ok image) → (places : List ℕ) × (closed ≡ Ok places) × IsGatheredTo asked (length places)
    (resources places) (first_bad_name (resources places)) (Ok image)
closed_parts asked resources (Ok places) image is = (places, refl, is)
closed_parts asked resources (Err fault) image is = cc

module _ (asked : Request) (roots : List (List ℕ)) (found : List Candidate) (resources : List ℕ → List Written) (image : LinkedImage) where
  among_parts : (o : Option Refusal) → IsFoundTo asked roots found resources o (Ok image) → (o ≡ None)
      × IsLinkedOf asked roots found resources (Ok image)
  among_parts None is = (refl, is)
  among_parts (Some refusal) is = cc

  pub made_parts : LinksAmong asked roots found resources (Ok image) → IsMade asked roots found resources image
  made_parts is = search (rules, plugged_parts, gathered_parts, closed_parts, among_parts)

  module _ (made : IsMade asked roots found resources image) where
    pub taken_within : (i : ℕ) → Contains made.places i → i < length found
    taken_within i there = chosen_below asked.bind found roots i ((made.closes.4.exactly i).0 there)

    -- the modules that were taken
    abbrev pub modules_taken : List Candidate
    modules_taken = taken found (Chosen asked.bind found roots) made.places made.closes.4 taken_within

-- What it was made of

-- what is found of the sources, and the parts of the link of it
pub record IsMadeFrom (source : Sources) (asked : Request) (image : LinkedImage) : Type 0 where
  pub found : Found
  pub finds : Finds asked.release source (Ok found)
  pub made : IsMade asked (roots_among found.named asked.roots) (candidates_of found.modules) (gathered found.modules) image
  pub of : AreOf asked.release (modules_taken asked (roots_among found.named asked.roots) (candidates_of found.modules)
      (gathered found.modules) image made) (gathered found.modules made.places)

found_parts : (asked : Request) (r : Result Found Refusal) (image : LinkedImage) → LinksFound asked r (Ok image) → (found : Found)
    × (r ≡ Ok found) × LinksFound asked (Ok found) (Ok image)
found_parts asked (Ok found) image is = (found, refl, is)
found_parts asked (Err refusal) image is = cc

of_found : (source : Sources) (asked : Request) (image : LinkedImage) (found : Found) → AreOnShelf source
    → Finds asked.release source (Ok found) → LinksFound asked (Ok found) (Ok image) → IsMadeFrom source asked image
of_found source asked image found stands finds is =
    let roots = roots_among found.named asked.roots in
    let cs = candidates_of found.modules in
    let made = made_parts asked roots cs (gathered found.modules) image is in
    record {
      found = found;
      finds = finds;
      made = made;
      of = gathered_are asked.release found.modules (finds_sound asked.release source found stands finds) (Chosen asked.bind cs roots)
          made.places made.closes.4 (taken_within asked roots cs (gathered found.modules) image made);
    }

pub made_from : (source : Sources) (asked : Request) (image : LinkedImage) → AreOnShelf source → LinksFrom source asked (Ok image)
    → IsMadeFrom source asked image
made_from source asked image stands linked =
    let parts = found_parts asked linked.0 image linked.2 in
    of_found source asked image parts.0 stands (subst (Finds asked.release source) parts.1 linked.1) parts.2

-- Its layout

module _ (source : Sources) (asked : Request) (image : LinkedImage) (from : IsMadeFrom source asked image) where
  abbrev pub cs : List Candidate
  cs = candidates_of from.found.modules

  abbrev pub before : List Written
  before = gathered from.found.modules from.made.places

  -- no name is a node's, as no module is called like one of the two trees
  plain : All (λ name. is_node name ≡ false) (names_of before)
  plain = All-map (λ name. is_node name ≡ false) (λ (r : Written). r.0) before
      (all_from_contains (λ (r : Written). is_node r.0 ≡ false) before (λ r there.
      let one = from.of.each r there in
      let c = one.0 in
      let at = from_filter_map (slice_get cs) from.made.places c one.1 in
      let among = got cs at.0 c at.2 in
      let free = free_names cs from.made.free in
      ap is_node one.2.name
      ∙ no_node (closure.name_of c) one.2.path (from.of.whole c one.1) (other_name cs (codes "modules") c free.0 among)
      (other_name cs (codes "packages") c free.1 among)))

  sound : All IsSound (names_of before)
  sound = All-map IsSound (λ (r : Written). r.0) before
      (all_sound (λ (r : Written). r) before (ap first_bad_name (map-id before) ∙ from.made.sound))

  -- nor what the plug-ins left of them
  pub left_plain : All (λ name. is_node name ≡ false) (names_of from.made.left)
  left_plain = names_kept (λ name. is_node name ≡ false) asked.release asked.plugins before from.made.left from.made.plugged plain

  pub left_sound : All IsSound (names_of from.made.left)
  left_sound = names_kept IsSound asked.release asked.plugins before from.made.left from.made.plugged sound

  -- where these leave the order, it stands by module and then by path
  module _ (unordered : All (λ one. leaves_order one ≡ true) asked.plugins) where
    pub left_kept : AreKept asked.release IsFirstOrOne before from.made.left
    left_kept = applied asked.release IsFirstOrOne asked.plugins before from.made.left unordered from.made.plugged

    pub left_of : AreOf asked.release (modules_taken asked (roots_among from.found.named asked.roots) cs (gathered from.found.modules) image
        from.made) from.made.left
    left_of = kept_of asked.release _ before from.made.left left_kept from.of

  pub made_laid : IsLaid asked.order (Ok image)
  made_laid =
      subst (λ (x : LinkedImage). IsLaid asked.order (Ok x)) (sym from.made.is)
      (laid_free asked.order from.made.left from.made.fits (length from.made.places) left_sound left_plain)

-- an image that was linked is what the layout of its resources is
pub linked_laid : (source : Sources) (asked : Request) (image : LinkedImage) → AreOnShelf source → LinksFrom source asked (Ok image)
    → IsLaid asked.order (Ok image)
linked_laid source asked image stands linked = made_laid source asked image (made_from source asked image stands linked)
