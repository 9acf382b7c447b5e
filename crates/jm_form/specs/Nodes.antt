-- How an image tells the two trees (JEP 220): the contents of its nodes (jimage 1.0).
use Rattle.std.specs.Prelude.{ℕ, ◌≡◌, ◌<◌, Bool, true, List, [], ◌∷◌, map, filter}
use Rattle.std.specs.Prelude.{Contains, IsPermutation, Ok, if◌then◌else◌}
use Rattle.std.specs.List.{AllZip, flat_map, zip}
use Rattle.jm_bytes.specs.declared.words.Order.{Order}
use Rattle.jm_bytes.specs.Word.{word_bytes}
use Rattle.jm_names.specs.Names.{is_node}
use Rattle.jm_form.specs.declared.container.Header.{Header}
use Rattle.jm_form.specs.declared.trees.Holds.{Holds}
use Rattle.jm_form.specs.declared.trees.Holds.TheVariants.{Children, Owners}
use Rattle.jm_form.specs.declared.trees.Owner.{Owner}
use Rattle.jm_form.specs.Entries.{Entry, entries}
use Rattle.jm_form.specs.Head.{header_of}
use Rattle.jm_form.specs.Places.{offset_word, strings}
use Rattle.jm_form.specs.Texts.{text_at, text_ends}
use Rattle.jm_form.specs.Trees.{holds_of, node_names}

-- numbers as words, one behind another
abbrev pub words_text : Order → List ℕ → List ℕ
words_text order numbers = flat_map (word_bytes order) numbers

-- 1 where a package is empty for its owner, and else 0
abbrev pub empty_flag : Bool → ℕ
empty_flag empty = if empty then 1 else 0

-- an owner's flag and the place of its text, as two words
abbrev pub owner_text : Order → Owner × ℕ → List ℕ
owner_text order o = words_text order (empty_flag o.0.empty ∷ o.1 ∷ [])

-- owners with the places of their texts, as words one behind another
abbrev pub owners_text : Order → List Owner → List ℕ → List ℕ
owners_text order owners places = flat_map (owner_text order) (zip owners places)

-- the word is the offset word of the slot of the entry that has the name
abbrev pub LeadsTo : List ℕ → Header → List ℕ → ℕ → Type 0
LeadsTo b h name word =
    (e : Entry) × Contains (entries b h) e × (e.name ≡ name) × (word ≡ offset_word b h e.slot)

-- the owner's text stands at the place, and ends within the strings
pub record StandsAt (b : List ℕ) (h : Header) (owner : Owner) (place : ℕ) : Type 0 where
  pub below : place < h.strings
  pub ends : text_ends (strings b h) place ≡ true
  pub text : text_at (strings b h) place ≡ owner.module

-- the content of a node is one word a child, or two words an owner: the flag and the place of its
-- text
abbrev pub Tells : List ℕ → Header → Holds → List ℕ → Type 0
Tells b h (Children names) content =
    (words : List ℕ) × AllZip (LeadsTo b h) names words
    × (content ≡ words_text h.order words)
Tells b h (Owners owners) content =
    (places : List ℕ) × AllZip (StandsAt b h) owners places
    × (content ≡ owners_text h.order owners places)

-- the entries that are nodes
abbrev pub nodes_among : List Entry → List Entry
nodes_among es = filter (λ e. is_node e.name) es

-- the nodes of an image with this header are those of the names, each once, and each tells what the
-- trees of the names hold there
pub record NodesAs (b : List ℕ) (h : Header) (names : List (List ℕ)) : Type 0 where
  pub header : header_of b ≡ Ok h
  pub all : IsPermutation (map (λ e. e.name) (nodes_among (entries b h))) (node_names names)
  pub tell : (e : Entry) → Contains (nodes_among (entries b h)) e
      → Tells b h (holds_of names e.name) e.content

-- the image tells the trees of resources with these names
abbrev pub NodesOf : List ℕ → List (List ℕ) → Type 0
NodesOf b names = (h : Header) × NodesAs b h names
