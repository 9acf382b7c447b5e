use Rattle.std.proofs.Common.{◌≡◌, ◌||◌, Bool, false, List, [], ℕ, Option, Some, None, if◌then◌else◌, rules}
use Rattle.std.specs.List.{before_last}
use Rattle.jm_bytes.proofs.Cuts.{before_last_none}
use Rattle.jm_names.specs.Names.{is_slash}
use Rattle.jm_jrt.specs.Stat.{has_children, is_package, node_path}
use Rattle.jm_jrt.proofs.paths.node_path.Goals as goal

-- the node's path by the tests of the path and what stands before its last slash
abbrev chosen : (folder lower : Bool) (path before : List ℕ) → Option (List ℕ)
chosen folder lower path before =
    if folder || lower then Some path
    else if is_package before then Some before
    else None

no_node : (path : List ℕ) → has_children path ≡ false → is_package path ≡ false → before_last is_slash path ≡ [] → node_path path ≡ None
no_node path folder lower before = cc

pub returns-in_err-package-clause-path : goal.returns-in_err-package-clause-path
returns-in_err-package-clause-path c = search (rules, before_last_none, no_node)
