-- The order in which the contents of an image stand in its file (this project's rule).
use Rattle.std.specs.Prelude.{ℕ, nat_lt, not, List, [], ◌∷◌, map, filter, if◌then◌else◌}
use Rattle.std.specs.Cmp.Lexicographic.{slice_cmp}
use Rattle.std.specs.Ordering.{bool_cmp, is_lt, nat_cmp, on, then_cmp}
use Rattle.std.specs.declared.cmp.Ordering.{Ordering}
use Rattle.jm_form.specs.declared.rows.Row.{Row}
use Rattle.jm_form.specs.Entries.{Entry}
use Rattle.jm_form.specs.Trees.{module_of, path_of}
use Rattle.jm_names.specs.Names.{is_node}
use Rattle.jm_reader.specs.Walk.{entries_of}
use Rattle.jm_filed.specs.declared.file_order.PlacedName.{PlacedName}

-- by module, and then by path within the module; names of one module and one path, as only names
-- without a second slash can be, by themselves
abbrev pub name_cmp : List ℕ → List ℕ → Ordering
name_cmp =
    then_cmp (on module_of (slice_cmp nat_cmp))
    (then_cmp (on path_of (slice_cmp nat_cmp)) (slice_cmp nat_cmp))

-- by the place of the content, and at one place an empty one first
abbrev pub place_cmp : PlacedName → PlacedName → Ordering
place_cmp =
    then_cmp (on (λ p. p.offset) nat_cmp) (on (λ p. nat_lt 0 p.size) bool_cmp)

-- by the place of the content, and then by the name
abbrev pub file_cmp : PlacedName → PlacedName → Ordering
file_cmp = then_cmp place_cmp (on (λ p. p.name) name_cmp)

-- names with one more, after those that stand before it
abbrev pub inserted : PlacedName → List PlacedName → List PlacedName
inserted p [] = p ∷ []
inserted p (q ∷ qs) = if is_lt (file_cmp q p) then q ∷ inserted p qs else p ∷ q ∷ qs

-- the same names, in that order
abbrev pub in_file_order : List PlacedName → List PlacedName
in_file_order [] = []
in_file_order (p ∷ ps) = inserted p (in_file_order ps)

-- the name of an entry, and what its row says of its content
abbrev pub placed_name : Entry → PlacedName
placed_name e = record { offset = e.row.offset; size = e.row.size; name = e.name }

-- the resources among some entries, in their order
abbrev pub placed_among : List Entry → List PlacedName
placed_among es = map placed_name (filter (λ e. not (is_node e.name)) es)

-- what is listed of one entry, if it is a resource
abbrev pub placed_alone : ℕ × List ℕ × Row → List PlacedName
placed_alone x =
    if is_node x.1 then []
    else record { offset = x.2.offset; size = x.2.size; name = x.1 } ∷ []

-- the names of the resources of an image, in the order of their contents
abbrev pub file_order : List ℕ → List (List ℕ)
file_order b = map (λ p. p.name) (in_file_order (placed_among (entries_of b)))
