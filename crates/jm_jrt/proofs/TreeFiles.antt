-- Files below `/modules/`: the look-up of an image that stands for resources answers these.
use Rattle.std.proofs.Common.{◌≡◌, ℕ, inl, inr, Bool, true, false, cond, not, List, [], ◌∷◌, Option, Some}
use Rattle.std.proofs.Common.{None, All, Contains, Ok, Err, option_map, refl, sym, ap, ◌∙◌, subst}
use Rattle.std.specs.Prelude.{if◌then◌else◌}
use Rattle.std.specs.Option.{ok_or}
use Rattle.std.specs.Map.{lookup}
use Rattle.std.specs.Str.{bytes_eq}
use Rattle.std.proofs.lemmas.Bool.{false≢true}
use Rattle.std.proofs.lemmas.List.Elements.{All-contains}
use Rattle.std.proofs.lemmas.Slice.Eq.{bytes_eq-Decides}
use Rattle.jm_bytes.proofs.Choice.{same_some}
use Rattle.std.proofs.lemmas.List.Sorted.{Contains-permutation, IsPermutation-sym}
use Rattle.std.specs.List.{filter}
use Rattle.jm_bytes.proofs.Members.{all_from_contains, from_filter, from_map, contains_cases, contains_here}
use Rattle.jm_bytes.proofs.Members.{contains_later, contains_map, contains_none}
use Rattle.jm_names.specs.Names.{is_node}
use Rattle.jm_form.specs.declared.rows.Row.{Row}
use Rattle.jm_form.specs.TreeView.{File, file_of, names_of}
use Rattle.jm_form.specs.Entries.{entries}
use Rattle.jm_form.specs.Validity.{Stands, look, resources}
use Rattle.jm_form.proofs.StandsLaws.{stands_found, stands_nowhere}
use Rattle.jm_jrt.specs.declared.jrt_error.JrtError.TheVariants.{NotThere}
use Rattle.jm_jrt.specs.Stat.{file}

abbrev Pairs : Type 0
Pairs = List (List ℕ × List ℕ)

-- what is found among pairs is one of them
lookup_pair : (m : Pairs) (n v : List ℕ) → lookup (bytes_eq n) m ≡ Some v → Contains m (n, v)
lookup_pair [] n v e = cc
lookup_pair (p ∷ m) n v e = go (bytes_eq n p.0) refl e (lookup_pair m n v)
  where
    go : (same : Bool) → bytes_eq n p.0 ≡ same → cond same (Some p.1) (lookup (bytes_eq n) m) ≡ Some v
        → (lookup (bytes_eq n) m ≡ Some v → Contains m (n, v)) → Contains (p ∷ m) (n, v)
    go true is e later =
        let name : p.0 ≡ n = sym ((bytes_eq-Decides n p.0).0 is) in
        let value : p.1 ≡ v = same_some p.1 v e in
        let whole : ◌≡◌ {A = List ℕ × List ℕ} p (n, v) = ap (λ (l : List ℕ). (l, p.1)) name ∙ ap (λ (c : List ℕ). (n, c)) value in
        subst (Contains (p ∷ m)) whole (contains_here p m)
    go false is e later = contains_later p m (n, v) (later e)

-- where nothing is found no pair has the name
lookup_nowhere : (m : Pairs) (n v : List ℕ) → lookup (bytes_eq n) m ≡ None → Contains m (n, v) → ⊥
lookup_nowhere [] n v e there = contains_none (n, v) there
lookup_nowhere (p ∷ m) n v e there = go (bytes_eq n p.0) refl e (lookup_nowhere m n v)
  where
    go : (same : Bool) → bytes_eq n p.0 ≡ same → cond same (Some p.1) (lookup (bytes_eq n) m) ≡ None → (lookup (bytes_eq n) m ≡ None
        → Contains m (n, v) → ⊥) → ⊥
    go true is e later = cc
    go false is e later =
        elim (contains_cases p m (n, v) there) [
          | inl same ↦
              let name : n ≡ p.0 = sym (ap (λ (q : List ℕ × List ℕ). q.0) same) in
              false≢true (sym is ∙ (bytes_eq-Decides n p.0).1 name)
          | inr among ↦ later e among
        ]

file_there : (found : Option (Row × List ℕ)) (v : List ℕ) → option_map (λ r. r.1) found ≡ Some v → file found ≡ Ok (File v)
file_there None v e = cc
file_there (Some found) v e = ap (λ (c : List ℕ). Ok (File c)) (same_some found.1 v e)

file_is : (b : List ℕ) (m : Pairs) (n : List ℕ) → Stands b m → is_node n ≡ false → file (look b n)
    ≡ ok_or (file_of (lookup (bytes_eq n) m)) NotThere
file_is b m n stands other = go (lookup (bytes_eq n) m) refl
  where
    go : (o : Option (List ℕ)) → lookup (bytes_eq n) m ≡ o → file (look b n) ≡ ok_or (file_of o) NotThere
    go None is = ap file (stands_nowhere b m n stands (λ v there. lookup_nowhere m n v is there) other)
    go (Some v) is = file_there (look b n) v (stands_found b m n v stands (lookup_pair m n v is))

-- no resource has the name of a node
no_file : (m : Pairs) (n : List ℕ) → All (λ name. is_node name ≡ false) (names_of m) → is_node n ≡ true → lookup (bytes_eq n) m ≡ None
no_file m n others node = go (lookup (bytes_eq n) m) refl
  where
    go : (o : Option (List ℕ)) → lookup (bytes_eq n) m ≡ o → o ≡ None
    go None is = refl
    go (Some v) is =
        let named = contains_map (λ r. r.0) m (n, v) (lookup_pair m n v is) in
        absurd (false≢true (sym (All-contains (λ name. is_node name ≡ false) (names_of m) n others named) ∙ node))

-- an image stands for no resource with the name of a node
stands_free : (b : List ℕ) (m : Pairs) → Stands b m → All (λ name. is_node name ≡ false) (names_of m)
stands_free b m (h, valid, same) = all_from_contains (λ name. is_node name ≡ false) (names_of m) free
  where
    fails : (node : Bool) → not node ≡ true → node ≡ false
    fails true e = cc
    fails false e = refl

    free : (name : List ℕ) → Contains (names_of m) name → is_node name ≡ false
    free name there =
        let (p, among, named) = from_map (λ r. r.0) m name there in
        let back = Contains-permutation m (resources (entries b h)) p (IsPermutation-sym (resources (entries b h)) m same) among in
        let (e, kept, is) = from_map (λ e. (e.name, e.content)) (filter (λ e. not (is_node e.name)) (entries b h)) p back in
        let passes = (from_filter (λ e. not (is_node e.name)) (entries b h) e kept).1 in
        let names : name ≡ e.name = sym named ∙ ap (λ (q : List ℕ × List ℕ). q.0) (sym is) in
        ap is_node names ∙ fails (is_node e.name) passes

pub resource_is : (b : List ℕ) (m : Pairs) (n : List ℕ) → Stands b m → (if is_node n then Err NotThere else file (look b n))
    ≡ ok_or (file_of (lookup (bytes_eq n) m)) NotThere
resource_is b m n stands = go (is_node n) refl
  where
    go : (node : Bool) → is_node n ≡ node → (if node then Err NotThere else file (look b n))
        ≡ ok_or (file_of (lookup (bytes_eq n) m)) NotThere
    go true is = ap (λ (o : Option (List ℕ)). ok_or (file_of o) NotThere) (sym (no_file m n (stands_free b m stands) is))
    go false is = file_is b m n stands is
