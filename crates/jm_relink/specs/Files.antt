-- The resources of an image as files of modules (JEP 220: `/module/path`).
use Rattle.std.specs.Prelude.{ℕ, ◌&&◌, List, [], ◌∷◌, ◌++◌, map, All, AllPairs}
use Rattle.std.specs.Prelude.{Option, Some, None, option_map, if◌then◌else◌, IsFalse}
use Rattle.std.specs.Cmp.Lexicographic.{slice_cmp}
use Rattle.std.specs.List.{after_first, before_first, filter_map, list_any}
use Rattle.std.specs.Ordering.{is_lt, nat_cmp, ordering_then}
use Rattle.std.specs.declared.cmp.Ordering.{Ordering}
use Rattle.jm_filed.specs.Filed.{IsWithin, content_at}
use Rattle.jm_filed.specs.Taken.{taken_as}
use Rattle.jm_filed.specs.declared.taking.TakenEntry.{TakenEntry}
use Rattle.jm_form.specs.Validity.{resources}
use Rattle.jm_names.specs.ByName.{Named}
use Rattle.jm_form.specs.ModuleFiles.{info_name}
use Rattle.jm_names.specs.Names.{is_slash}
use Rattle.jm_reader.specs.Walk.{entries_of}
use Rattle.jm_relink.specs.declared.modules.ImageFile.{ImageFile}

-- the entries of an image whose names are no nodes'
abbrev pub resources_of : List ℕ → List Named
resources_of b = resources (entries_of b)

-- Names

-- the name of the resource that a file of a module is: `/module/path`; the path stays as it is
abbrev pub file_name : List ℕ → List ℕ → List ℕ
file_name «module» path = 47 ∷ «module» ++ 47 ∷ path

-- the name of the entry that makes a module
abbrev pub info_entry : List ℕ → List ℕ
info_entry «module» = file_name «module» info_name

-- the module and the path of a resource: the module stands between a first slash and the next one
abbrev pub module_and_path : List ℕ → Option (List ℕ × List ℕ)
module_and_path [] = None
module_and_path (b ∷ name) =
    if is_slash b && list_any is_slash name
    then Some (before_first is_slash name, after_first is_slash name)
    else None

-- Files

-- a file beside the name of its module: its path and its content
abbrev pub Filed : Type 0
Filed = List ℕ × Named

-- a file of an image of these bytes: its path and its content
abbrev pub file_in : List ℕ → ImageFile → Named
file_in b f = (f.path, content_at b f.content)

-- files of an image of these bytes, as their paths and contents
abbrev pub files_in : List ℕ → List ImageFile → List Named
files_in b fs = map (file_in b) fs

-- the contents of some files lie in a file of that many bytes
abbrev pub AllWithin : ℕ → List ImageFile → Type 0
AllWithin size fs = All (λ f. IsWithin size f.content) fs

-- a resource as a file of a module, if its name is that of one
abbrev pub located : Named → Option Filed
located r = option_map (λ cut. (cut.0, (cut.1, r.1))) (module_and_path r.0)

-- the files of modules among entries of an image of these bytes
abbrev pub located_among : List ℕ → List TakenEntry → List Filed
located_among b entries = filter_map located (map (taken_as b) entries)

-- the order of files: by module and then by path
abbrev pub filed_cmp : Filed → Filed → Ordering
filed_cmp e f = ordering_then (slice_cmp nat_cmp e.0 f.0) (slice_cmp nat_cmp e.1.0 f.1.0)

-- no file stands before an earlier one
abbrev pub NeverFalls : List Filed → Type 0
NeverFalls fs = AllPairs (λ e f. IsFalse (is_lt (filed_cmp f e))) fs
