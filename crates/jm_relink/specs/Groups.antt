-- Files side by side, module by module (this project's rule).
use Rattle.std.specs.Prelude.{ℕ, ◌≡◌, Bool, List, [], ◌∷◌, ◌++◌, filter, find, map}
use Rattle.std.specs.Prelude.{Option, Some, None, option_map, is_some, if◌then◌else◌}
use Rattle.std.specs.Str.{bytes_eq}
use Rattle.jm_filed.specs.declared.extent.Extent.{Extent}
use Rattle.jm_form.specs.ModuleFiles.{info_name}
use Rattle.jm_relink.specs.declared.entries.ModuleEntries.{ModuleEntries}
use Rattle.jm_relink.specs.declared.groups.ModuleFiles.{ModuleFiles}
use Rattle.jm_relink.specs.declared.modules.ImageFile.{ImageFile}
use Rattle.jm_relink.specs.Files.{AllWithin, Filed, files_in}
use Rattle.jm_names.specs.ByName.{Named}

-- a module and files of it
abbrev pub Group : Type 0
Group = List ℕ × List Named

-- a module's name and its files in an image of these bytes, as plain data
abbrev pub group_in : List ℕ → ModuleEntries → Group
group_in b m = (m.module, files_in b m.files)

-- the same before it is known whether it has a descriptor
abbrev pub files_of : List ℕ → ModuleFiles → Group
files_of b g = (g.module, files_in b g.files)

-- a module of which no file is known yet
abbrev pub begun_group : List ℕ → ModuleFiles
begun_group «module» = record { «module» = «module»; info = None; files = [] }

-- a module with its first file
abbrev pub begun_as : Filed → Group
begun_as e = (e.0, e.1 ∷ [])

-- a module with its first files, and the groups of the files after them
abbrev pub groups_from : Group → List Filed → List Group
groups_from g [] = g ∷ []
groups_from g (e ∷ es) =
    if bytes_eq g.0 e.0 then groups_from (g.0, g.1 ++ e.1 ∷ []) es
    else g ∷ groups_from (begun_as e) es

-- the modules of some files, each with its run of them
abbrev pub groups : List Filed → List Group
groups [] = []
groups (e ∷ es) = groups_from (begun_as e) es

-- the files of a group beside the name of their module
abbrev pub ungrouped : Group → List Filed
ungrouped g = map (λ f. (g.0, f)) g.1

-- the content of the file `module-info.class`
abbrev pub info_content : List Named → Option (List ℕ)
info_content files = option_map (λ f. f.1) (find (λ f. bytes_eq f.0 info_name) files)

-- where the content of the file `module-info.class` stands
abbrev pub info_extent : List ImageFile → Option Extent
info_extent files = option_map (λ f. f.content) (find (λ f. bytes_eq f.path info_name) files)

-- the code knows where that of a group stands
abbrev pub KnowsInfo : ModuleFiles → Type 0
KnowsInfo g = g.info ≡ info_extent g.files

-- the contents of a group's files lie in a file of that many bytes
abbrev pub GroupWithin : ℕ → ModuleFiles → Type 0
GroupWithin size g = AllWithin size g.files

-- a module has a file `module-info.class`
abbrev pub has_info : Group → Bool
has_info g = is_some (info_content g.1)

-- the groups of some files that have one, after the first files of another group, if there is one
abbrev pub described_from : Option Group → List Filed → List Group
described_from None es = filter has_info (groups es)
described_from (Some g) es = filter has_info (groups_from g es)
