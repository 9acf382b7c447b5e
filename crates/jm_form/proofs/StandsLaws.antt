-- What an image stands for is what its look-up answers.
use Rattle.std.proofs.Common.{◌≡◌, ℕ, true, false, not, List, Some, None, Contains, option_map, sym, ap, ◌∙◌, subst}
use Rattle.std.proofs.lemmas.List.Sorted.{Contains-permutation, IsPermutation-sym}
use Rattle.std.specs.List.{filter}
use Rattle.std.specs.List.Sorted.{IsPermutation}
use Rattle.jm_names.specs.Names.{is_node}
use Rattle.jm_bytes.proofs.Members.{contains_filter, contains_map, from_filter, from_map}
use Rattle.jm_form.specs.declared.container.Header.{Header}
use Rattle.jm_form.specs.declared.rows.Row.{Row}
use Rattle.jm_form.specs.Entries.{Entry, entries}
use Rattle.jm_form.specs.Validity.{Stands, look, resources}
use Rattle.jm_form.proofs.LookLaws.{look_entry, look_none, look_some}

abbrev Pair : Type 0
Pair = List ℕ × List ℕ

abbrev pair_of : Entry → Pair
pair_of e = (e.name, e.content)

-- a resource is the name and the content of an entry
resource_entry : (es : List Entry) (n content : List ℕ) → Contains (resources es) (n, content) → (e : Entry) × Contains es e
    × (pair_of e ≡ (n, content))
resource_entry es n content there =
    let from = from_map pair_of (filter (λ e. not (is_node e.name)) es) (n, content) there in
    (from.0, (from_filter (λ e. not (is_node e.name)) es from.0 from.1).0, from.2)

entry_resource : (es : List Entry) (e : Entry) → Contains es e → is_node e.name ≡ false → Contains (resources es) (pair_of e)
entry_resource es e there no_node =
    let passes : not (is_node e.name) ≡ true = ap not no_node in
    contains_map pair_of (filter (λ e. not (is_node e.name)) es) e (contains_filter (λ e. not (is_node e.name)) es e there passes)

-- (a) each pair is answered
pub stands_found : (b : List ℕ) (m : List (List ℕ × List ℕ)) (n content : List ℕ) → Stands b m → Contains m (n, content)
    → option_map (λ r. r.1) (look b n) ≡ Some content
stands_found b m n content (h, valid, same) there =
    let among = Contains-permutation m (resources (entries b h)) (n, content) (IsPermutation-sym (resources (entries b h)) m same) there in
    let from = resource_entry (entries b h) n content among in
    let answer = look_some b h from.0 valid.header from.1 in
    let names : from.0.name ≡ n = ap (λ (p : Pair). p.0) from.2 in
    let contents : from.0.content ≡ content = ap (λ (p : Pair). p.1) from.2 in
    ap (λ (l : List ℕ). option_map (λ r. r.1) (look b l)) (sym names) ∙ ap (option_map (λ r. r.1)) answer
    ∙ ap (λ (l : List ℕ). Some l) contents

-- an entry that is no node is a pair
entry_pair : (b : List ℕ) (m : List (List ℕ × List ℕ)) (h : Header) (e : Entry) → IsPermutation (resources (entries b h)) m
    → Contains (entries b h) e → is_node e.name ≡ false → Contains m (pair_of e)
entry_pair b m h e same there no_node = Contains-permutation (resources (entries b h)) m (pair_of e) same
    (entry_resource (entries b h) e there no_node)

-- (b) a name of no pair is looked up in vain, unless it is a node's
pub stands_nowhere : (b : List ℕ) (m : List (List ℕ × List ℕ)) (n : List ℕ) → Stands b m
    → ((content : List ℕ) → Contains m (n, content) → ⊥) → is_node n ≡ false → look b n ≡ None
stands_nowhere b m n (h, valid, same) nowhere no_node = look_none b h n valid.header other
  where
    other : (e : Entry) → Contains (entries b h) e → n ≡ e.name → ⊥
    other e there names =
        let pair = entry_pair b m h e same there (ap is_node (sym names) ∙ no_node) in
        nowhere e.content (subst (λ (l : List ℕ). Contains m (l, e.content)) (sym names) pair)

-- (c) what the look-up answers of a name that is no node's is a pair
pub stands_pair : (b : List ℕ) (m : List (List ℕ × List ℕ)) (n : List ℕ) (found : Row × List ℕ) → Stands b m → look b n ≡ Some found
    → is_node n ≡ false → Contains m (n, found.1)
stands_pair b m n found (h, valid, same) answer no_node =
    let (e, there, names, is) = look_entry b h n found valid.header answer in
    let pair = entry_pair b m h e same there (ap is_node (sym names) ∙ no_node) in
    let content : e.content ≡ found.1 = ap (λ (r : Row × List ℕ). r.1) is in
    let placed = subst (λ (l : List ℕ). Contains m (l, e.content)) (sym names) pair in
    subst (λ (c : List ℕ). Contains m (n, c)) content placed
