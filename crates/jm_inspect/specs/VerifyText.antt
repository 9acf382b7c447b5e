-- What `verify` prints of an image without a damage, and what it finds in its nodes (this project's
-- rule).
use Rattle.std.specs.Prelude.{ℕ, List, ◌∷◌, ◌++◌, length, map, codes}
use Rattle.std.specs.Prelude.{Option, is_none, option_map}
use Rattle.std.specs.Fmt.{decimal}
use Rattle.jm_bytes.specs.Checks.{fault_if, first_fault}
use Rattle.jm_filed.specs.Taken.{nodes}
use Rattle.jm_form.specs.Validity.{look}
use Rattle.jm_jrt.specs.Stat.{node_fault}
use Rattle.jm_names.specs.ByName.{Named}
use Rattle.jm_reader.specs.Walk.{entries_of}
use Rattle.jm_inspect.specs.declared.complaint.Complaint.{Complaint}
use Rattle.jm_inspect.specs.declared.complaint.Complaint.TheVariants as complaint

-- the line of `verify`, with the number of the image's entries
abbrev pub verify_text : List ℕ → List ℕ
verify_text b = codes "valid " ++ decimal (length (entries_of b)) ++ codes "\n"

-- `verify --nodes`

-- the complaint that no entry has this name
abbrev pub no_node : List ℕ → List ℕ → Option Complaint
no_node b name = fault_if (is_none (look b name)) (complaint.NoNode name)

-- the complaint of a node, by its name and content, with the place of the first bad word
abbrev pub bad_node : List ℕ → Named → Option Complaint
bad_node b e = option_map (λ at. complaint.BadNodeAt e.0 at) (node_fault b e.0 e.1)

-- the complaint of the nodes of an image: a root that isn't there, or of the nodes by rising name
-- the first that has a bad word
abbrev pub nodes_complaint : List ℕ → Option Complaint
nodes_complaint b = first_fault
    (no_node b (codes "/modules") ∷ no_node b (codes "/packages") ∷ map (bad_node b) (nodes b))
