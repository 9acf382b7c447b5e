-- The parts of an image that is written, from the lists that the code has (jimage 1.0). Their laws
-- say that they are those of the layout.
use Rattle.std.specs.Prelude.{ℕ, ◌+◌, ◌==◌, ◌≡◌, List, [], ◌∷◌, ◌++◌, length, map, slice_get}
use Rattle.std.specs.Prelude.{Option, Some, None, unwrap_or}
use Rattle.std.specs.List.{flat_map, range_with_len, zip}
use Rattle.std.specs.Map.{lookup}
use Rattle.jm_bytes.specs.declared.words.Order.{Order}
use Rattle.jm_names.specs.Hash.{hash, default_seed}
use Rattle.jm_names.specs.Names.{Cut, split}
use Rattle.jm_form.specs.Strings.{place_of}
use Rattle.jm_form.specs.declared.rows.Row.{Row}
use Rattle.jm_form.specs.declared.trees.Holds.{Holds}
use Rattle.jm_form.specs.declared.trees.Holds.TheVariants.{Children, Owners}
use Rattle.jm_form.specs.declared.trees.Owner.{Owner}
use Rattle.jm_form.specs.declared.trees.TreeNode.{TreeNode}
use Rattle.jm_form.specs.Layout.{Sized, location_of, text_place, texts_of}
use Rattle.jm_form.specs.Nodes.{empty_flag, words_text}
use Rattle.jm_form.specs.Table.{slot_of}
use Rattle.jm_redirect.specs.Built.{redirect_at}
use Rattle.jm_redirect.specs.declared.building.Table.{Table}
use Rattle.jm_writer.specs.declared.entries.Entries.{Entries}
use Rattle.jm_writer.specs.declared.interning.TextPlaces.{TextPlaces}

-- Entries

-- names beside sizes, as entries
abbrev pub sized_as : List (List ℕ) → List ℕ → List Sized
sized_as [] sizes = []
sized_as (name ∷ names) [] = []
sized_as (name ∷ names) (size ∷ sizes) =
    record { name = name; size = size } ∷ sized_as names sizes

-- the two lists are those of these entries
pub record IsOfEntries (es : List Sized) (entries : Entries) : Type 0 where
  pub names : entries.names ≡ map (λ e. e.name) es
  pub sizes : entries.sizes ≡ map (λ e. e.size) es

-- Rows

-- the four pieces of a name are held, and stand at these places
pub record StandAt (texts : List (List ℕ)) (cut : Cut) (places : TextPlaces) : Type 0 where
  pub «module» : place_of cut.module texts ≡ Some places.module
  pub parent : place_of cut.parent texts ≡ Some places.parent
  pub base : place_of cut.base texts ≡ Some places.base
  pub ext : place_of cut.ext texts ≡ Some places.ext

-- the places of the four pieces of a name
abbrev pub places_in : List (List ℕ) → Cut → TextPlaces
places_in texts cut = record {
  «module» = text_place texts cut.module;
  parent = text_place texts cut.parent;
  base = text_place texts cut.base;
  ext = text_place texts cut.ext;
}

-- the places of the pieces of each name among the texts of all
abbrev pub places_of : List (List ℕ) → List TextPlaces
places_of names = map (λ name. places_in (texts_of names) (split name)) names

-- the row of an entry by the places of its pieces
abbrev pub row_at : TextPlaces → ℕ → ℕ → Row
row_at places offset size = record {
  «module» = places.module;
  parent = places.parent;
  base = places.base;
  ext = places.ext;
  offset = offset;
  packed = 0;
  size = size;
}

-- the rows of entries by the places of their pieces and their sizes, whose contents stand one
-- behind another from an offset on
abbrev pub rows_at : ℕ → List TextPlaces → List ℕ → List Row
rows_at offset [] sizes = []
rows_at offset (places ∷ others) [] = []
rows_at offset (places ∷ others) (size ∷ sizes) =
    row_at places offset size ∷ rows_at (offset + size) others sizes

-- Slots

-- the first row of each slot below a count, or none
abbrev pub rows_in_slots : List ℕ → List Row → ℕ → List (Option Row)
rows_in_slots slots rows count =
    map (λ slot. lookup (λ other. slot == other) (zip slots rows)) (range_with_len 0 count)

-- the slot to which the redirect of its bucket leads a name
abbrev pub slot_in : Table → List ℕ → Option ℕ
slot_in table name =
    slot_of table.length name (redirect_at table.redirects (hash default_seed name))

-- the slot to which the table leads a name, or slot 0 where it leads it to none
abbrev pub slot_or_first : Table → List ℕ → ℕ
slot_or_first table name = unwrap_or (slot_in table name) 0

-- Locations

-- one byte 0, and the rows that slots have
abbrev pub locations_of : List (Option Row) → List ℕ
locations_of rows = 0 ∷ flat_map location_of rows

-- the place of a slot's row, where it is put at a place
abbrev pub place_at : ℕ → Option Row → ℕ
place_at at None = 0
place_at at (Some row) = at

-- the places of the rows that are put one behind another from a place on
abbrev pub places_from : ℕ → List (Option Row) → List ℕ
places_from at [] = []
places_from at (row ∷ rows) =
    place_at at row ∷ places_from (at + length (location_of row)) rows

-- Index

-- the header's words, by what they count
abbrev pub header_of : ℕ → ℕ → ℕ → ℕ → List ℕ
header_of entries slots locations strings =
    0xCAFEDADA ∷ 0x00010000 ∷ 0 ∷ entries ∷ slots ∷ locations ∷ strings ∷ []

-- the file up to the contents, from its parts
abbrev pub index_bytes :
    Order → ℕ → List ℕ → List ℕ → List ℕ → List ℕ → List ℕ
index_bytes order entries redirect places locations strings =
    words_text order
    (header_of entries (length redirect) (length locations) (length strings)
    ++ (redirect ++ places))
    ++ (locations ++ strings)

-- Nodes

-- the word of a child: the place at the slot to which its name is led, or at slot 0
abbrev pub child_word : Table → List ℕ → List ℕ → ℕ
child_word table places name =
    unwrap_or (slice_get places (unwrap_or (slot_in table name) 0)) 0

-- the two words of an owner
abbrev pub owner_pair : List (List ℕ) → Owner → List ℕ
owner_pair texts owner = empty_flag owner.empty ∷ text_place texts owner.module ∷ []

-- the words of what a node holds: one for a child, two for an owner
abbrev pub holds_words : List (List ℕ) → Table → List ℕ → Holds → List ℕ
holds_words texts table places (Children names) = map (child_word table places) names
holds_words texts table places (Owners owners) = flat_map (owner_pair texts) owners

-- the contents of the nodes
abbrev pub tail_bytes :
    Order → List (List ℕ) → Table → List ℕ → List TreeNode → List ℕ
tail_bytes order texts table places nodes =
    flat_map (λ node. words_text order (holds_words texts table places node.holds)) nodes
