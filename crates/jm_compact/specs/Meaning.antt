-- What a class says, whatever the numbers of its constants are (this project's rule).
use Rattle.std.specs.Prelude.{ℕ, zero, suc, ◌≡◌, ◌<◌, List, length, Option, Some, None}
use Rattle.jm_class.specs.Classes.{SlotData, Constant, Hole, ClassData, slot_at}
use Rattle.jm_class.specs.Classes.{ReadsAs}
use Rattle.jm_poolmap.specs.declared.site.Site.{Site}
use Rattle.jm_poolmap.specs.Live.{IsLive, number_of}
use Rattle.jm_poolmap.specs.Sites.{name_sites, pool_end, back, sites_of}
use Rattle.jm_compact.specs.Pieces.{Piece, cut, put_for_all}
use Rattle.jm_compact.specs.Compact.{front}

-- Trees of constants, down to a depth

-- a constant as far as that many steps lead: none, or its tag and its body with a tree in the place
-- of each number
abbrev pub Tree : ℕ → Type 0
Tree zero = Unit {0}
Tree (suc depth) = Option (ℕ × List (Piece (Tree depth)))

-- the tag of a constant, and its body with something else in the place of each number; none for a
-- hole
abbrev pub slot_tree : {A : Type 0} → (ℕ → A) → Option SlotData → Option (ℕ × List (Piece A))
slot_tree tree None = None
slot_tree tree (Some Hole) = None
slot_tree tree (Some (Constant tag body)) =
    Some (tag, put_for_all tree (cut (name_sites tag) 0 body))

-- the constant of a number as a tree, at most that deep
abbrev pub tree : (depth : ℕ) → List SlotData → ℕ → Tree depth
tree zero pool index = tt
tree (suc depth) pool index = slot_tree (tree depth pool) (slot_at pool index)

-- A constant names one of a lower rank, and ranks are 0 to 3, so no tree is deeper than 4

-- the text of a class of which these sites are known, without its pool and with a tree in the place
-- of each number
abbrev pub meaning : List Site → ClassData → List ℕ × List (Piece (Tree 4))
meaning sites c = (front c, put_for_all (tree 4 c.pool) (cut sites (pool_end c) (back c)))

-- the text reads as a class that has sites and the same meaning, and all of whose constants are
-- live
pub record SaysTheSame (c : ClassData) (old : List Site) (text : List ℕ) : Type 0 where
  pub class : ClassData
  pub reads : ReadsAs text class
  pub sites : List Site
  pub found : sites_of class ≡ Some sites
  pub same : meaning sites class ≡ meaning old c
  pub live : (place : ℕ) → place < length class.pool → IsLive class (number_of class.pool place)
