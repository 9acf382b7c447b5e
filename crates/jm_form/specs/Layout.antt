-- The image that is written of resources (jimage 1.0; the order of its parts, the strings, the
-- spare slots and the table are this project's rules). First the image of any entries and any table
-- for their names; then of resources, with the nodes of their trees and the greedy table.
use Rattle.std.specs.Prelude.{ℕ, ◌+◌, ◌*◌, ◌==◌, List, [], ◌∷◌, ◌++◌, length, map}
use Rattle.std.specs.Prelude.{Option, Some, None, is_some, option_map, unwrap_or, codes}
use Rattle.std.specs.Prelude.{if◌then◌else◌}
use Rattle.std.specs.List.{flat_map, range_with_len, zip}
use Rattle.std.specs.Map.{lookup}
use Rattle.std.specs.Str.{bytes_eq}
use Rattle.jm_bytes.specs.declared.words.Order.{Order}
use Rattle.jm_names.specs.Names.{Cut, split}
use Rattle.jm_form.specs.Strings.{place_of, section_of, with_text}
use Rattle.jm_form.specs.declared.rows.Row.{Row}
use Rattle.jm_form.specs.declared.trees.Holds.{Holds}
use Rattle.jm_form.specs.declared.trees.Holds.TheVariants.{Children, Owners}
use Rattle.jm_form.specs.declared.trees.Owner.{Owner}
use Rattle.jm_form.specs.declared.trees.TreeNode.{TreeNode}
use Rattle.jm_form.specs.Greedy.{GreedyTable, first_table, word_of}
use Rattle.jm_form.specs.Nodes.{empty_flag, words_text}
use Rattle.jm_form.specs.Rows.{usual}
use Rattle.jm_form.specs.Trees.{tree_nodes}

-- Strings

-- the four pieces of a name
abbrev pub pieces : Cut → List (List ℕ)
pieces cut = cut.module ∷ cut.parent ∷ cut.base ∷ cut.ext ∷ []

-- texts that are held, with others in turn, each put last where it isn't held
abbrev pub with_texts : List (List ℕ) → List (List ℕ) → List (List ℕ)
with_texts held [] = held
with_texts held (text ∷ texts) = with_texts (with_text text held) texts

-- the texts of the strings: the empty text, `class`, and then the pieces of the names, each once
abbrev pub texts_of : List (List ℕ) → List (List ℕ)
texts_of names =
    with_texts ([] ∷ codes "class" ∷ []) (flat_map (λ name. pieces (split name)) names)

-- the place of a text in the strings, 0 where it isn't held
abbrev pub text_place : List (List ℕ) → List ℕ → ℕ
text_place texts text = unwrap_or (place_of text texts) 0

-- Rows

-- the name of an entry and the size of its content in bytes
pub record Sized : Type 0 where
  pub name : List ℕ
  pub size : ℕ

-- the row of a name's four pieces, of an offset and a size, nothing compressed
abbrev pub row_with : List (List ℕ) → Cut → ℕ → ℕ → Row
row_with texts cut offset size = record {
  «module» = text_place texts cut.module;
  parent = text_place texts cut.parent;
  base = text_place texts cut.base;
  ext = text_place texts cut.ext;
  offset = offset;
  packed = 0;
  size = size;
}

-- the rows of entries whose contents stand one behind another from an offset on
abbrev pub rows_from : List (List ℕ) → ℕ → List Sized → List Row
rows_from texts offset [] = []
rows_from texts offset (e ∷ es) =
    row_with texts (split e.name) offset e.size ∷ rows_from texts (offset + e.size) es

-- Index

-- what the index tells: the table, the strings, and the rows of the entries, whose slots the table
-- gives
pub record Index : Type 0 where
  pub order : Order
  pub table : GreedyTable
  pub texts : List (List ℕ)
  pub rows : List Row

-- the index of entries of these names and sizes
abbrev pub index_of : Order → GreedyTable → List Sized → Index
index_of order table es = record {
  order = order;
  table = table;
  texts = texts_of (map (λ e. e.name) es);
  rows = rows_from (texts_of (map (λ e. e.name) es)) 0 es;
}

-- the row of the entry that has a slot, or none where the slot is spare
abbrev pub row_in : Index → ℕ → Option Row
row_in index slot = lookup (λ other. slot == other) (zip index.table.slots index.rows)

-- the usual spelling of a row, or no byte for a spare slot
abbrev pub location_of : Option Row → List ℕ
location_of None = []
location_of (Some row) = usual row

-- the rows of the slots below one, in their usual spelling, behind one byte 0
abbrev pub locations_below : Index → ℕ → List ℕ
locations_below index slot =
    0 ∷ flat_map (λ below. location_of (row_in index below)) (range_with_len 0 slot)

-- the locations: one byte 0, and then the rows of all slots
abbrev pub locations_text : Index → List ℕ
locations_text index = locations_below index index.table.length

-- the place of a slot's row; a spare slot has the blank row at place 0
abbrev pub row_place : Index → ℕ → ℕ
row_place index slot =
    if is_some (row_in index slot) then length (locations_below index slot) else 0

-- the word of each slot: the place of its row
abbrev pub offset_words : Index → List ℕ
offset_words index = map (row_place index) (range_with_len 0 index.table.length)

-- the word of each bucket
abbrev pub redirect_words : Index → List ℕ
redirect_words index = map word_of index.table.redirects

-- the words of the header: magic, version, flags, entries, slots, bytes of locations, bytes of
-- strings
abbrev pub header_words : Index → List ℕ
header_words index =
    0xCAFEDADA ∷ 0x00010000 ∷ 0 ∷ length index.rows ∷ index.table.length
    ∷ length (locations_text index) ∷ length (section_of index.texts) ∷ []

-- all words of the index, as they stand
abbrev pub index_words : Index → List ℕ
index_words index = header_words index ++ (redirect_words index ++ offset_words index)

-- the file up to the contents
abbrev pub index_text : Index → List ℕ
index_text index =
    words_text index.order (index_words index)
    ++ (locations_text index ++ section_of index.texts)

-- The image of any entries

-- a name and its content
abbrev pub Written : Type 0
Written = List ℕ × List ℕ

-- an entry's name with the size of its content
abbrev pub sized : Written → Sized
sized e = record { name = e.0; size = length e.1 }

-- the contents, with nothing between
abbrev pub contents_text : List Written → List ℕ
contents_text es = flat_map (λ e. e.1) es

-- the image of any entries, by a table of their names
abbrev pub image_of : Order → GreedyTable → List Written → List ℕ
image_of order table es =
    index_text (index_of order table (map sized es)) ++ contents_text es

-- The image of resources

-- the names of resources
abbrev pub names_of : List Written → List (List ℕ)
names_of resources = map (λ r. r.0) resources

-- the bytes of a node's content: 4 for a child, 8 for an owner
abbrev pub holds_size : Holds → ℕ
holds_size (Children names) = 4 * length names
holds_size (Owners owners) = 8 * length owners

-- a node's name with the size of its content
abbrev pub sized_node : TreeNode → Sized
sized_node node = record { name = node.name; size = holds_size node.holds }

-- names and sizes of all entries: the resources, then the nodes
abbrev pub all_sized : List Written → List Sized
all_sized resources =
    map sized resources ++ map sized_node (tree_nodes (names_of resources))

-- the names of all entries
abbrev pub all_names : List Written → List (List ℕ)
all_names resources = map (λ e. e.name) (all_sized resources)

-- the word of a child: the place of the row of the entry that has its name
abbrev pub name_place : Index → List (List ℕ) → List ℕ → ℕ
name_place index names name =
    row_place index (unwrap_or (lookup (bytes_eq name) (zip names index.table.slots)) 0)

-- an owner as two words: its flag and the place of its text in the strings
abbrev pub owner_words : Index → Owner → List ℕ
owner_words index owner = empty_flag owner.empty ∷ text_place index.texts owner.module ∷ []

-- all words of what a node holds
abbrev pub node_words : Index → List (List ℕ) → Holds → List ℕ
node_words index names (Children list) = map (name_place index names) list
node_words index names (Owners list) = flat_map (owner_words index) list

-- a node as an entry, by the index and the names of all entries
abbrev pub written_node : Index → List (List ℕ) → TreeNode → Written
written_node index names node =
    (node.name, words_text index.order (node_words index names node.holds))

-- all nodes of the resources' trees as entries, by the index
abbrev pub written_nodes : Index → List Written → List Written
written_nodes index resources =
    map (written_node index (all_names resources)) (tree_nodes (names_of resources))

-- the index of resources and the nodes of their trees, before any content is known
abbrev pub layout_index : Order → GreedyTable → List Written → Index
layout_index order table resources = index_of order table (all_sized resources)

-- the image of resources and the nodes of their trees, by a table
abbrev pub layout_with : Order → List Written → GreedyTable → List ℕ
layout_with order resources table =
    image_of order table
    (resources ++ written_nodes (layout_index order table resources) resources)

-- the table of the resources and the nodes: the greedy one at the first length that has one
abbrev pub layout_table : List Written → Option GreedyTable
layout_table resources = first_table (all_names resources)

-- the image of resources, where their names have a table
abbrev pub layout : Order → List Written → Option (List ℕ)
layout order resources = option_map (layout_with order resources) (layout_table resources)
