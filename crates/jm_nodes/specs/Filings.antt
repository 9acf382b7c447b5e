-- Names that are filed under other texts: the children of a folder under the folder, the owners of
-- a package under the package (this project's rule).
use Rattle.std.specs.Prelude.{ℕ, ◌≡◌, Bool, List, filter, AllPairs}
use Rattle.std.specs.Cmp.Lexicographic.{slice_cmp}
use Rattle.std.specs.List.{list_any}
use Rattle.std.specs.Ordering.{bool_cmp, is_eq, nat_cmp, ordering_then}
use Rattle.std.specs.Str.{bytes_eq}
use Rattle.std.specs.declared.cmp.Ordering.{Ordering}
use Rattle.std.specs.declared.cmp.Ordering.TheVariants.{Less}
use Rattle.jm_nodes.specs.Order.{SameElements}
use Rattle.jm_nodes.specs.declared.filed.Filed.{Filed}

-- a name, what it is filed under, and a mark
pub record Filing : Type 0 where
  pub under : List ℕ
  pub name : List ℕ
  pub mark : Bool

-- what the code files, as plain data
abbrev pub filing_of : Filed → Filing
filing_of filed = record { under = filed.under.now; name = filed.name.now; mark = filed.mark }

-- by what it is filed under, then by name, then by mark
abbrev pub filing_cmp : Filing → Filing → Ordering
filing_cmp filing other =
    ordering_then (slice_cmp nat_cmp filing.under other.under)
    (ordering_then (slice_cmp nat_cmp filing.name other.name)
    (bool_cmp filing.mark other.mark))

-- each stands before all later ones
abbrev pub IsFiledInOrder : List Filing → Type 0
IsFiledInOrder filings = AllPairs (λ filing later. filing_cmp filing later ≡ Less) filings

-- the table has the same, in order
pub record FilesAll (filings table : List Filing) : Type 0 where
  pub ordered : IsFiledInOrder table
  pub same : SameElements filings table

-- what is filed under a text, in order
abbrev pub filed_under : List ℕ → List Filing → List Filing
filed_under text table = filter (λ filing. bytes_eq filing.under text) table

-- just this is filed
abbrev pub is_filed : Filing → List Filing → Bool
is_filed filing table = list_any (λ other. is_eq (filing_cmp other filing)) table
