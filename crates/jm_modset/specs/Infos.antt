-- The descriptors among the resources of an image (JEP 220: `/module/module-info.class`).
use Rattle.std.specs.Prelude.{ℕ, not, Bool, false, List, length, filter}
use Rattle.std.specs.Prelude.{Option, Some, None}
use Rattle.std.specs.List.{AllZip, sum_by}
use Rattle.std.specs.Str.{bytes_eq}
use Rattle.jm_filed.specs.Filed.{IsReadAt}
use Rattle.jm_form.specs.Layout.{Written}
use Rattle.jm_form.specs.ModuleFiles.{info_name}
use Rattle.jm_names.specs.ByName.{Named}
use Rattle.jm_outside.specs.Files.{Files}
use Rattle.jm_relink.specs.declared.entries.ModuleEntries.{ModuleEntries}
use Rattle.jm_relink.specs.Files.{module_and_path, resources_of}

-- the path within a module, if there is a module, is that of its descriptor
abbrev pub has_info_path : Option (List ℕ × List ℕ) → Bool
has_info_path None = false
has_info_path (Some cut) = bytes_eq cut.1 info_name

-- a resource is the descriptor of a module: its name is `/module/module-info.class`
abbrev pub is_info : Named → Bool
is_info r = has_info_path (module_and_path r.0)

-- the descriptors of all modules of an image
abbrev pub infos_of : List ℕ → List Named
infos_of b = filter is_info (resources_of b)

-- of some resources those that are no descriptors
abbrev pub undescribed : List Written → List Written
undescribed resources = filter (λ r. not (is_info r)) resources

-- how many bytes the contents of some resources have together
abbrev pub sizes : List Written → ℕ
sizes resources = sum_by (λ r. length r.1) resources

-- Descriptors that are read

-- the descriptors of modules were read, in their order
abbrev pub AreInfosRead : Option Files → List ℕ → List ModuleEntries → List (List ℕ) → Type 0
AreInfosRead told path entries infos =
    AllZip (λ m info. IsReadAt told path m.info info) entries infos

-- how many bytes the descriptors of modules have together
abbrev pub info_sizes : List ModuleEntries → ℕ
info_sizes entries = sum_by (λ m. m.info.size) entries
