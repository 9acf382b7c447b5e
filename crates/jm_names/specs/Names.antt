-- The names of an image (jimage 1.0; where a name's shape leaves a choice, this project's rule; JEP
-- 220 for nodes, JLS 7 for packages): a name is a list of bytes that is kept in four pieces.
use Rattle.std.specs.Prelude.{ℕ, Bool, true, false, nat_eq, map, ◌==◌, ◌&&◌, ◌||◌, not, List, []}
use Rattle.std.specs.Prelude.{◌∷◌, ◌++◌, if◌then◌else◌, codes}
use Rattle.std.specs.List.{list_any, before_first, after_first, before_last, after_last}
use Rattle.std.specs.List.{starts_with}
use Rattle.std.specs.Str.{bytes_eq}

-- the four pieces of a name: module, parent, base, extension
pub record Cut : Type 0 where
  pub «module» : List ℕ
  pub parent : List ℕ
  pub base : List ℕ
  pub ext : List ℕ

-- a byte is `/`
abbrev pub is_slash : ℕ → Bool
is_slash b = b == 47

-- a byte is `.`
abbrev pub is_dot : ℕ → Bool
is_dot b = b == 46

-- a text has no byte
abbrev pub is_empty : List ℕ → Bool
is_empty [] = true
is_empty (b ∷ bs) = false

-- `/`, the module and `/`, all three only where the module is not empty
abbrev pub module_front : List ℕ → List ℕ
module_front [] = []
module_front (b ∷ bs) = 47 ∷ ((b ∷ bs) ++ 47 ∷ [])

-- the parent and `/`, both only where the parent is not empty
abbrev pub parent_front : List ℕ → List ℕ
parent_front [] = []
parent_front (b ∷ bs) = (b ∷ bs) ++ 47 ∷ []

-- `.` and the extension, both only where the extension is not empty
abbrev pub ext_end : List ℕ → List ℕ
ext_end [] = []
ext_end (b ∷ bs) = 46 ∷ (b ∷ bs)

-- the name that the pieces make
abbrev pub join : Cut → List ℕ
join cut = module_front cut.module ++ (parent_front cut.parent ++ (cut.base ++ ext_end cut.ext))

-- a text is `modules` or `packages`, the two first parts that a tree's own nodes have
abbrev pub is_tree : List ℕ → Bool
is_tree text = bytes_eq text (codes "modules") || bytes_eq text (codes "packages")

-- a name that is base alone
abbrev pub base_only : List ℕ → Cut
base_only base = record { «module» = []; parent = []; base = base; ext = [] }

-- what stands after the parent is cut at its last dot that a byte follows
abbrev pub cut_tail : List ℕ → List ℕ → List ℕ → Cut
cut_tail «module» parent tail =
    if list_any is_dot tail && not (is_empty (after_last is_dot tail))
    then record {
      «module» = «module»;
      parent = parent;
      base = before_last is_dot tail;
      ext = after_last is_dot tail;
    }
    else record { «module» = «module»; parent = parent; base = tail; ext = [] }

-- what stands after the module is cut at its last slash that a byte precedes; below the two trees
-- it stays whole
abbrev pub cut_rest : List ℕ → List ℕ → Cut
cut_rest «module» rest =
    if is_tree «module» then record { «module» = «module»; parent = []; base = rest; ext = [] }
    else if not (is_empty (before_last is_slash rest))
    then cut_tail «module» (before_last is_slash rest) (after_last is_slash rest)
    else cut_tail «module» [] rest

-- the four pieces of a name: the module stands between a first slash and the next one, with a byte
-- between the two; a name of another shape is base alone
abbrev pub split : List ℕ → Cut
split [] = base_only []
split (b ∷ name) =
    if is_slash b && (list_any is_slash name && not (is_empty (before_first is_slash name)))
    then cut_rest (before_first is_slash name) (after_first is_slash name)
    else base_only (b ∷ name)

-- a name is `/modules` or `/packages`, or begins with one of these and `/`
abbrev pub is_node : List ℕ → Bool
is_node name =
    bytes_eq name (codes "/modules") || bytes_eq name (codes "/packages")
    || (starts_with nat_eq name (codes "/modules/") || starts_with nat_eq name (codes "/packages/"))

-- a folder with a dot for each slash, as a package is called
abbrev pub dotted : List ℕ → List ℕ
dotted folder = map (λ b. if is_slash b then 46 else b) folder
