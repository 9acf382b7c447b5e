-- What the index of an image says of its modules, and what is read of their descriptors (this
-- project's rule).
use Rattle.std.specs.Prelude.{◌≡◌, ℕ, List, All, IsPermutation, Some, filter, map}
use Rattle.std.specs.List.{filter_map}
use Rattle.jm_filed.specs.Filed.{IsWithin, content_at}
use Rattle.jm_relink.specs.declared.entries.ModuleEntries.{ModuleEntries}
use Rattle.jm_relink.specs.Files.{AllWithin, Filed, NeverFalls, files_in, located}
use Rattle.jm_relink.specs.Files.{resources_of}
use Rattle.jm_relink.specs.Groups.{group_in, groups, has_info, info_content, info_extent}

-- the place of a module's descriptor is that of its file `module-info.class`
abbrev pub HasInfoAt : List ℕ → ModuleEntries → Type 0
HasInfoAt b m = info_content (files_in b m.files) ≡ Some (content_at b m.info)

-- the same of the extents, whatever the bytes are
abbrev pub HasExtent : ModuleEntries → Type 0
HasExtent m = Some m.info ≡ info_extent m.files

-- these are the modules that have a descriptor among the resources of an image: the groups of its
-- files, sorted by module and by path, that have a file `module-info.class`
pub record AreEntriesOf (b : List ℕ) (ms : List ModuleEntries) : Type 0 where
  pub files : List Filed
  pub moved : IsPermutation (filter_map located (resources_of b)) files
  pub sorted : NeverFalls files
  pub groups : map (group_in b) ms ≡ filter has_info (groups files)
  pub infos : All (HasInfoAt b) ms

-- the contents of a module's descriptor and of its files lie in a file of that many bytes
pub record EntriesWithin (size : ℕ) (m : ModuleEntries) : Type 0 where
  pub info : IsWithin size m.info
  pub files : AllWithin size m.files

-- the contents of a module's files lie in a file of that many bytes
abbrev pub FilesWithin : ℕ → ModuleEntries → Type 0
FilesWithin size m = AllWithin size m.files

-- these are the contents of the modules' descriptors
abbrev pub AreInfosIn : List ℕ → List ModuleEntries → List (List ℕ) → Type 0
AreInfosIn b ms infos = infos ≡ map (λ m. content_at b m.info) ms
