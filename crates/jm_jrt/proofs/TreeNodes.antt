-- The nodes of an image that tells the trees of names: each name of a node is looked up, and its
-- content tells what the trees hold there.
use Rattle.std.proofs.Common.{◌≡◌, ℕ, ◌⊎◌, inl, inr, true, false, List, map, Option, Some, None, Contains, refl, sym, ap, ◌∙◌, subst, rules}
use Rattle.std.specs.List.{list_any}
use Rattle.std.specs.Str.{bytes_eq}
use Rattle.std.proofs.lemmas.Bool.{cases_Bool, false≢true}
use Rattle.std.proofs.lemmas.List.Sorted.{Contains-permutation, IsPermutation-sym}
use Rattle.std.proofs.lemmas.Slice.Eq.{bytes_eq-Decides}
use Rattle.jm_bytes.proofs.Members.{any_contains, contains_filter, contains_map, from_any, from_filter, from_map}
use Rattle.jm_names.specs.Names.{is_node}
use Rattle.jm_form.specs.declared.container.Header.{Header}
use Rattle.jm_form.specs.declared.rows.Row.{Row}
use Rattle.jm_form.specs.Entries.{Entry, entries}
use Rattle.jm_form.specs.Nodes.{NodesAs, Tells, nodes_among}
use Rattle.jm_form.specs.Trees.{holds_of, node_names}
use Rattle.jm_form.specs.Validity.{entry_found, look}
use Rattle.jm_form.proofs.LookLaws.{look_none, look_some}

-- the name is looked up, and the content tells what the trees hold
pub record NodeThere (b : List ℕ) (h : Header) (names : List (List ℕ)) (path : List ℕ) : Type 0 where
  pub row : Row
  pub content : List ℕ
  pub found : ◌≡◌ {A = Option (Row × List ℕ)} (look b path) (Some (row, content))
  pub tells : Tells b h (holds_of names path) content
  pub listed : list_any (bytes_eq path) (node_names names) ≡ true

-- no node has the name, in the image and in the trees
pub record NodeMissing (b : List ℕ) (names : List (List ℕ)) (path : List ℕ) : Type 0 where
  pub none : look b path ≡ None
  pub unlisted : list_any (bytes_eq path) (node_names names) ≡ false

-- a path that is found in a list of names is one of them
pub from_listed : (names : List (List ℕ)) (path : List ℕ) → list_any (bytes_eq path) names ≡ true → Contains names path
from_listed names path listed = search (rules, bytes_eq-Decides, from_any)

pub to_listed : (names : List (List ℕ)) (path : List ℕ) → Contains names path → list_any (bytes_eq path) names ≡ true
to_listed names path there = any_contains (bytes_eq path) names path there ((bytes_eq-Decides path path).1 refl)

pub node_there : (b : List ℕ) (h : Header) (names : List (List ℕ)) (path : List ℕ) → NodesAs b h names
    → Contains (node_names names) path → NodeThere b h names path
node_there b h names path nodes there =
    let all : List (List ℕ) = map (λ e. e.name) (nodes_among (entries b h)) in
    let back = Contains-permutation (node_names names) all path (IsPermutation-sym all (node_names names) nodes.all) there in
    let (e, among, same) = from_map (λ e. e.name) (nodes_among (entries b h)) path back in
    let inside = (from_filter (λ e. is_node e.name) (entries b h) e among).0 in
    record {
      row = e.row;
      content = e.content;
      found = subst (λ (n : List ℕ). look b n ≡ Some (entry_found e)) same (look_some b h e nodes.header inside);
      tells = subst (λ (n : List ℕ). Tells b h (holds_of names n) e.content) same (nodes.tell e among);
      listed = to_listed (node_names names) path there;
    }

-- an entry with the name of a node is one of the nodes
entry_listed : (b : List ℕ) (h : Header) (names : List (List ℕ)) (e : Entry) → NodesAs b h names → Contains (entries b h) e
    → is_node e.name ≡ true → Contains (node_names names) e.name
entry_listed b h names e nodes there node =
    let among = contains_filter (λ e. is_node e.name) (entries b h) e there node in
    let named = contains_map (λ e. e.name) (nodes_among (entries b h)) e among in
    Contains-permutation (map (λ e. e.name) (nodes_among (entries b h))) (node_names names) e.name nodes.all named

pub node_cases : (b : List ℕ) (h : Header) (names : List (List ℕ)) (path : List ℕ) → NodesAs b h names → is_node path ≡ true
    → NodeThere b h names path ⊎ NodeMissing b names path
node_cases b h names path nodes node =
    elim (cases_Bool (list_any (bytes_eq path) (node_names names))) [
      | inl listed ↦ inl (node_there b h names path nodes (from_listed (node_names names) path listed))
      | inr unlisted ↦ inr (record { none = look_none b h path nodes.header (other unlisted); unlisted = unlisted })
    ]
  where
    other : list_any (bytes_eq path) (node_names names) ≡ false → (e : Entry) → Contains (entries b h) e → path ≡ e.name → ⊥
    other unlisted e there same =
        let listed = entry_listed b h names e nodes there (ap is_node (sym same) ∙ node) in
        let found = to_listed (node_names names) path (subst (Contains (node_names names)) (sym same) listed) in
        false≢true (sym unlisted ∙ found)
