-- The resources of chosen modules of an image (this project's rule; JEP 220 for their names).
use Rattle.std.specs.Prelude.{ℕ, ◌≡◌, ◌≢◌, ◌<◌, false, List, length, map, All, AllPairs}
use Rattle.std.specs.Prelude.{Option, Some, None, option_map, Result, Ok, Err, slice_get}
use Rattle.std.specs.List.{filter_map, flat_map, list_any, zip}
use Rattle.jm_bytes.specs.Checks.{first_fault}
use Rattle.jm_closure.specs.Names.{NamesDiffer}
use Rattle.jm_names.specs.ComputedFault.{name_fault}
use Rattle.jm_names.specs.Names.{is_slash}
use Rattle.jm_names.specs.declared.check.NameFault.{NameFault}
use Rattle.jm_relink.specs.declared.fault.GatherFault.{GatherFault}
use Rattle.jm_relink.specs.declared.modules.ImageModules.{ImageModules}
use Rattle.jm_relink.specs.Files.{AllWithin, file_name, files_in}
use Rattle.jm_relink.specs.Groups.{info_content}
use Rattle.jm_names.specs.ByName.{Named}

-- What is asked of modules and of places

-- the three lists are equally long, the modules' names differ and have no `/`, and no module has
-- two files of one path
pub record AreModules (modules : ImageModules) : Type 0 where
  pub long : length modules.candidates ≡ length modules.files
  pub infos : length modules.candidates ≡ length modules.infos
  pub differ : NamesDiffer modules.candidates
  pub whole : All (λ c. list_any is_slash c.descriptor.name ≡ false) modules.candidates
  pub apart : All (λ fs. AllPairs (λ e f. e.path ≢ f.path) fs) modules.files

-- places of modules, rising
pub record ArePlaces (modules : ImageModules) (places : List ℕ) : Type 0 where
  pub within : All (λ place. place < length modules.candidates) places
  pub rising : AllPairs (λ place later. place < later) places

-- the content of each module's file `module-info.class` is the one that was read
abbrev pub HasInfos : List ℕ → ImageModules → Type 0
HasInfos b modules =
    map (λ fs. info_content (files_in b fs)) modules.files ≡ map Some modules.infos

-- the contents of the modules' files lie in a file of that many bytes
abbrev pub LieWithin : ℕ → ImageModules → Type 0
LieWithin size modules = All (AllWithin size) modules.files

-- the modules' files stand in an image of these bytes, and their descriptors are those there
pub record StandIn (b : List ℕ) (modules : ImageModules) : Type 0 where
  pub infos : HasInfos b modules
  pub within : LieWithin (length b) modules

-- Resources

-- a file of a module as a resource: its name in the image, and its bytes
abbrev pub resource_of : List ℕ → Named → Named
resource_of «module» f = (file_name «module» f.0, f.1)

-- the files of a module as resources
abbrev pub resources_with : List ℕ → List Named → List Named
resources_with «module» files = map (resource_of «module») files

-- the name of each module and its files in an image of these bytes
abbrev pub named_files : List ℕ → ImageModules → List (List ℕ × List Named)
named_files b modules =
    zip (map (λ c. c.descriptor.name) modules.candidates) (map (files_in b) modules.files)

-- the resources of the modules at these places, in the order of the places and of their files
abbrev pub gathered : List ℕ → ImageModules → List ℕ → List Named
gathered b modules places =
    flat_map (λ m. resources_with m.0 m.1) (filter_map (slice_get (named_files b modules)) places)

-- the fault of a resource of this name
abbrev pub bad_name : List ℕ → NameFault → GatherFault
bad_name name fault = record { name = name; fault = fault }

-- the fault of a name that may not stand in an image
abbrev pub name_refusal : Named → Option GatherFault
name_refusal r = option_map (bad_name r.0) (name_fault r.0)

-- the fault of the first name that may not stand in an image, or none
abbrev pub first_bad_name : List Named → Option GatherFault
first_bad_name rs = first_fault (map name_refusal rs)

-- the pool of exactly these resources, or the fault of the first name that may not stand in an
-- image
abbrev pub GathersAll : List Named → Result (List Named) GatherFault → Type 0
GathersAll rs (Ok pool) = (first_bad_name rs ≡ None) × (pool ≡ rs)
GathersAll rs (Err fault) = first_bad_name rs ≡ Some fault
