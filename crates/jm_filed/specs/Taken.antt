-- The entries that are taken of an image: all but the nodes', or those that patterns match; and the
-- nodes (this project's rule). A name and the content that stands under it are a pair.
use Rattle.std.specs.Prelude.{ℕ, ◌&&◌, not, Bool, true, List, [], ◌∷◌, map, filter}
use Rattle.std.specs.Prelude.{All, Option, Some, None, if◌then◌else◌}
use Rattle.std.specs.List.{list_any}
use Rattle.jm_names.specs.Names.{is_node}
use Rattle.jm_form.specs.Entries.{Entry}
use Rattle.jm_pattern.specs.ComputedMatching.{matches}
use Rattle.jm_pattern.specs.declared.signs.Sign.{Sign}
use Rattle.jm_reader.specs.Walk.{entries_of}
use Rattle.jm_names.specs.ByName.{Named, by_name}
use Rattle.jm_filed.specs.Filed.{IsWithin, content_at}
use Rattle.jm_filed.specs.Parts.{named}
use Rattle.jm_filed.specs.declared.taking.Choice.{Choice}
use Rattle.jm_filed.specs.declared.taking.Choice.TheVariants as choice
use Rattle.jm_filed.specs.declared.taking.TakenEntry.{TakenEntry}

-- the content of what the code hands out, in a file
abbrev pub content_in : List ℕ → TakenEntry → List ℕ
content_in b t = content_at b t.content

-- its name, and that content
abbrev pub taken_as : List ℕ → TakenEntry → Named
taken_as b t = (t.name, content_in b t)

-- the name alone, with no content
abbrev pub name_alone : TakenEntry → Named
name_alone t = (t.name, [])

-- the contents of entries lie within a file of so many bytes
abbrev pub LieWithin : ℕ → List TakenEntry → Type 0
LieWithin size entries = All (λ t. IsWithin size t.content) entries

-- one of the patterns matches a name, or none are given
abbrev pub is_included : Option (List (List Sign)) → List ℕ → Bool
is_included None name = true
is_included (Some patterns) name = list_any (λ signs. matches signs name) patterns

-- a name is no node's, and is included
abbrev pub is_taken : Option (List (List Sign)) → List ℕ → Bool
is_taken include name = not (is_node name) && is_included include name

-- of some entries those whose name passes a test, in their order
abbrev pub named_among : (List ℕ → Bool) → List Entry → List Named
named_among passes entries = filter (λ e. passes e.0) (map named entries)

-- one pair, if its name passes a test
abbrev pub named_alone : (List ℕ → Bool) → Named → List Named
named_alone passes e = if passes e.0 then e ∷ [] else []

-- the entries of an image whose names pass a test, by rising name
abbrev pub named_of : (List ℕ → Bool) → List ℕ → List Named
named_of passes b = by_name (named_among passes (entries_of b))

-- of some entries those that are taken, in their order
abbrev pub taken_among : Option (List (List Sign)) → List Entry → List Named
taken_among include entries = named_among (is_taken include) entries

-- what is taken of an image, by rising name
abbrev pub taken : List ℕ → Option (List (List Sign)) → List Named
taken b include = named_of (is_taken include) b

-- the entries of an image with the name of a node, by rising name
abbrev pub nodes : List ℕ → List Named
nodes b = named_of is_node b

-- a name is one of those that are chosen
abbrev pub is_chosen : Choice → List ℕ → Bool
is_chosen (choice.Resources include) name = is_taken include.now name
is_chosen choice.Nodes name = is_node name
