-- A module that a link finds, whatever shows it: what a closure takes of it, and its resources
-- (JEP 261, exploded modules; JEP 220, the modules of an image).
use Rattle.std.specs.Prelude.{ℕ, ◌≡◌, ◌≢◌, false, List, map, slice_get, All, AllPairs}
use Rattle.std.specs.List.{filter_map, flat_map}
use Rattle.jm_closure.specs.declared.candidate.Candidate.{Candidate}
use Rattle.jm_closure.specs.Modules as closure
use Rattle.jm_form.specs.Layout.{Written}
use Rattle.jm_modpath.specs.declared.visible.VisibleModule.{VisibleModule}
use Rattle.jm_modpath.specs.Modules as path
use Rattle.jm_names.specs.ByName.{Named, by_name}
use Rattle.jm_names.specs.NameFaults.{IsSound}
use Rattle.jm_names.specs.Names.{is_node}
use Rattle.jm_outside.specs.Files.{Files}
use Rattle.jm_relink.specs.Gathering.{resources_with}
use Rattle.jm_relink.specs.Modules as image
use Rattle.jm_modset.specs.Infos.{undescribed}

-- a module that a link finds: its descriptor and class packages, its resources, rising by path, and
-- those of them whose contents are read once it is linked
pub record Shown : Type 0 where
  pub candidate : Candidate
  pub resources : List Written
  pub awaited : List Written

-- the name of a module
abbrev pub name_of : Shown → List ℕ
name_of m = closure.name_of m.candidate

-- modules as a closure takes them
abbrev pub candidates_of : List Shown → List Candidate
candidates_of found = map (λ m. m.candidate) found

-- the resources of the modules at some places, one module after another
abbrev pub gathered : List Shown → List ℕ → List Written
gathered found places = flat_map (λ m. m.resources) (filter_map (slice_get found) places)

-- those of them whose contents are read once these modules are linked
abbrev pub awaited_at : List Shown → List ℕ → List Written
awaited_at found places = flat_map (λ m. m.awaited) (filter_map (slice_get found) places)

-- Modules of a module path

-- the files of a module: the name of each as a resource and its path on the shelf, rising by name
abbrev pub module_files : VisibleModule → List Named
module_files m =
    by_name (map (λ p. (path.resource_name (path.name_of m) p, path.inside m.folder p)) m.files)

-- each name with the bytes of its file
abbrev pub resources_of : Files → List Named → List Written
resources_of files names = map (λ f. (f.0, path.bytes_at files f.1)) names

-- a module of a module path, on told files: all of its files are read once it is linked
abbrev pub of_folder : Files → VisibleModule → Shown
of_folder files m = record {
  candidate = m.candidate;
  resources = resources_of files (module_files m);
  awaited = resources_of files (module_files m);
}

-- Modules of an image

-- the resources of a module of an image, rising by path; each path stays as it is
abbrev pub seen_resources : image.SeenModule → List Written
seen_resources s = resources_with (image.name_of s) s.files

-- a module of an image, whose descriptor was read before it is linked
abbrev pub of_entries : image.SeenModule → Shown
of_entries s = record {
  candidate = s.candidate;
  resources = seen_resources s;
  awaited = undescribed (seen_resources s);
}

-- Names

-- names that the resources of an image may have: they differ, each may stand in an image, and none
-- is a node's
pub record AreFit (names : List (List ℕ)) : Type 0 where
  pub differ : AllPairs (λ name other. name ≢ other) names
  pub sound : All IsSound names
  pub plain : All (λ name. is_node name ≡ false) names
