-- What a `link` comes to: the image of the closure's resources, or the first refusal that holds
-- (JEP 282; the order of the refusals is this project's rule).
use Rattle.std.specs.Prelude.{ℕ, ◌≡◌, nat_lt, Bool, List, [], ◌∷◌, length}
use Rattle.std.specs.Prelude.{Option, Some, None, is_none, option_and_then, option_map, unwrap_or}
use Rattle.std.specs.Prelude.{Result, Ok, Err}
use Rattle.jm_bytes.specs.Checks.{fault_if, first_fault}
use Rattle.jm_bytes.specs.declared.words.Order.{Order}
use Rattle.jm_closure.specs.declared.candidate.Candidate.{Candidate}
use Rattle.jm_closure.specs.declared.fault.CloseFault.{CloseFault}
use Rattle.jm_closure.specs.declared.fault.CloseFault.TheVariants as closing
use Rattle.jm_closure.specs.Refusals.{Closes}
use Rattle.jm_form.specs.Greedy.{GreedyTable}
use Rattle.jm_form.specs.Layout.{Written, all_sized, layout, layout_table, layout_with, names_of}
use Rattle.jm_form.specs.Trees.{first_clash}
use Rattle.jm_words.specs.declared.tasks.Plugin.{Plugin}
use Rattle.jm_plugins.specs.declared.chain.BadClass.{BadClass}
use Rattle.jm_plugins.specs.Plugins.{Applies}
use Rattle.jm_writer.specs.Drafts.{entry_limit, image_limit, large_number}
use Rattle.jm_texts.specs.declared.refusal.Refusal.{Refusal}
use Rattle.jm_texts.specs.declared.refusal.Refusal.TheVariants as refusal
use Rattle.jm_modset.specs.Found.{Finds, Found, Sources, reserved, roots_among}
use Rattle.jm_modset.specs.Shown.{candidates_of, gathered}
use Rattle.jm_link.specs.Chosen.{Chosen}
use Rattle.jm_texts.specs.NameRefusals.{first_bad_name}

-- what is asked for, whatever shows the modules: the release of Java SE up to which classes are
-- read, the names of the roots, whether providers of services are linked too, the plug-ins in their
-- order, and the byte order
pub record Request : Type 0 where
  pub release : ℕ
  pub roots : List (List ℕ)
  pub bind : Bool
  pub plugins : List Plugin
  pub order : Order

-- an image with the number of its modules, its resources and the length of its table
pub record LinkedImage : Type 0 where
  pub bytes : List ℕ
  pub modules : ℕ
  pub resources : List Written
  pub slots : ℕ

-- What keeps resources from being laid out

-- `TooLarge` where the image by this table has too many bytes
abbrev pub size_refusal : Order → List Written → GreedyTable → Option Refusal
size_refusal order resources table =
    fault_if (nat_lt image_limit (length (layout_with order resources table)))
    (refusal.TooLarge (large_number order resources table))

-- what keeps resources from being laid out: one with the name of another's folder; too many
-- entries; no table; too many bytes
abbrev pub layout_checks : Order → List Written → List (Option Refusal)
layout_checks order resources =
    option_map (λ name. refusal.Clash name) (first_clash (names_of resources))
    ∷ fault_if (nat_lt entry_limit (length (all_sized resources)))
    (refusal.TooMany (length (all_sized resources)))
    ∷ fault_if (is_none (layout_table resources)) (refusal.NoTable 64)
    ∷ option_and_then (size_refusal order resources) (layout_table resources)
    ∷ []

-- the first refusal of the resources' layout, or none
abbrev pub layout_refusal : Order → List Written → Option Refusal
layout_refusal order resources = first_fault (layout_checks order resources)

-- the image of resources of that many modules
abbrev pub image_with : Order → ℕ → List Written → LinkedImage
image_with order modules resources = record {
  bytes = unwrap_or (layout order resources) [];
  modules = modules;
  resources = resources;
  slots = unwrap_or (option_map (λ table. table.length) (layout_table resources)) 0;
}

-- the image of the resources of that many modules, or the refusal if there is one
abbrev pub laid_out : Order → ℕ → List Written → Option Refusal → Result LinkedImage Refusal
laid_out order modules resources None = Ok (image_with order modules resources)
laid_out order modules resources (Some refusal) = Err refusal

-- the fault of plug-ins as the refusal of a link
abbrev pub plugging_refusal : BadClass → Refusal
plugging_refusal bad = refusal.BadClass bad.name bad.fault

-- what plug-ins left of the resources of that many modules is laid out, or their fault is refused
abbrev pub IsPluggedTo : Order → ℕ → Result (List Written) BadClass
    → Result LinkedImage Refusal → Type 0
IsPluggedTo order modules (Ok resources) result =
    result ≡ laid_out order modules resources (layout_refusal order resources)
IsPluggedTo order modules (Err fault) result = result ≡ Err (plugging_refusal fault)

-- what the resources of that many modules come to: the plug-ins act on them, and what these leave
-- is laid out
abbrev pub PlugsTo : Request → ℕ → List Written → Result LinkedImage Refusal → Type 0
PlugsTo asked modules resources result =
    (left : Result (List Written) BadClass)
    × Applies asked.release asked.plugins resources left
    × IsPluggedTo asked.order modules left result

-- the first unfit name of the resources of that many modules is refused, else the plug-ins act on
-- them
abbrev pub IsGatheredTo : Request → ℕ → List Written → Option Refusal
    → Result LinkedImage Refusal → Type 0
IsGatheredTo asked modules resources (Some refusal) result = result ≡ Err refusal
IsGatheredTo asked modules resources None result = PlugsTo asked modules resources result

-- The closure

-- the fault of a closure as the refusal of a link
abbrev pub closing_refusal : CloseFault → Refusal
closing_refusal (closing.NoRoot name) = refusal.NoRoot name
closing_refusal (closing.Missing name by) = refusal.Missing name by
closing_refusal (closing.Cycle name) = refusal.Cycle name
closing_refusal (closing.SplitPackage shared first second) =
    refusal.SplitPackage shared first second

-- what the resources of the modules at a closure's places come to, or its fault is refused
abbrev pub IsClosedTo : Request → (List ℕ → List Written) → Result (List ℕ) CloseFault
    → Result LinkedImage Refusal → Type 0
IsClosedTo asked resources (Ok places) result =
    IsGatheredTo asked (length places) (resources places) (first_bad_name (resources places)) result
IsClosedTo asked resources (Err fault) result = result ≡ Err (closing_refusal fault)

-- what the closure of the roots among the modules found comes to
abbrev pub IsLinkedOf : Request → List (List ℕ) → List Candidate → (List ℕ → List Written)
    → Result LinkedImage Refusal → Type 0
IsLinkedOf asked roots found resources result =
    (closed : Result (List ℕ) CloseFault)
    × Closes found roots (Chosen asked.bind found roots) closed
    × IsClosedTo asked resources closed result

-- the given refusal is the result if there is one, else what the closure comes to
abbrev pub IsFoundTo : Request → List (List ℕ) → List Candidate → (List ℕ → List Written)
    → Option Refusal → Result LinkedImage Refusal → Type 0
IsFoundTo asked roots found resources (Some refusal) result = result ≡ Err refusal
IsFoundTo asked roots found resources None result = IsLinkedOf asked roots found resources result

-- what a link of modules comes to from these roots, by the resources of those at some places
abbrev pub LinksAmong : Request → List (List ℕ) → List Candidate → (List ℕ → List Written)
    → Result LinkedImage Refusal → Type 0
LinksAmong asked roots found resources result =
    IsFoundTo asked roots found resources (reserved found) result

-- what a link of what was found comes to; a refusal of what was to be found is its own
abbrev pub LinksFound : Request → Result Found Refusal → Result LinkedImage Refusal → Type 0
LinksFound asked (Ok found) result =
    LinksAmong asked (roots_among found.named asked.roots) (candidates_of found.modules)
    (gathered found.modules) result
LinksFound asked (Err refusal) result = result ≡ Err refusal

-- the rule: what a link of the modules of an image and of a module path comes to, refusal by
-- refusal in their order
abbrev pub LinksFrom : Sources → Request → Result LinkedImage Refusal → Type 0
LinksFrom source asked result =
    (found : Result Found Refusal) × Finds asked.release source found
    × LinksFound asked found result
