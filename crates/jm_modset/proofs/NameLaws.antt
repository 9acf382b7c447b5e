-- Names of the resources of modules: those of modules of two names differ, and none of a module
-- whose name isn't reserved is a node's.
use Rattle.std.proofs.Common.{◌≡◌, ◌≢◌, ◌⊎◌, ◌&&◌, inl, inr, ℕ, Bool, true, false, List, [], ◌∷◌, ◌++◌, length, drop}
use Rattle.std.proofs.Common.{Contains, Some, None, find, option_map, refl, sym, ap, ◌∙◌, IsUtf8}
use Rattle.std.proofs.lemmas.Bool.{eqb-true, false≢true, false_from_ne_true, or_cases}
use Rattle.std.proofs.lemmas.Bool.Decides.{Decides-eqb}
use Rattle.std.proofs.lemmas.Slice.Eq.{bytes_eq-Decides, starts_is}
use Rattle.std.specs.List.{list_all, list_any, starts_with}
use Rattle.std.specs.Prelude.{codes, nat_eq}
use Rattle.std.specs.Str.{bytes_eq}
use Rattle.jm_bytes.proofs.Members.{any_contains}
use Rattle.jm_closure.specs.declared.candidate.Candidate.{Candidate}
use Rattle.jm_closure.specs.Modules.{name_of}
use Rattle.jm_modinfo.specs.Constants.{is_legal, is_legal_byte}
use Rattle.jm_names.specs.Names.{is_node, is_slash}
use Rattle.jm_names.specs.UtfForms.{modified, utf}
use Rattle.jm_names.proofs.UtfLaws.{utf-modified}
use Rattle.jm_relink.specs.Files.{file_name, module_and_path}
use Rattle.jm_relink.proofs.NameLaws.{names_tell, parts_of_file}
use Rattle.jm_texts.specs.declared.refusal.Refusal.{Refusal}
use Rattle.jm_texts.specs.declared.refusal.Refusal.TheVariants as refusal
use Rattle.jm_modset.specs.Found.{is_called, reserved}

-- Legal names

both : (x y : Bool) → (x && y) ≡ true → (x ≡ true) × (y ≡ true)
both true true is = (refl, refl)
both true false is = cc
both false y is = cc

legal_bytes : (name : List ℕ) → list_all is_legal_byte name ≡ true → list_any is_slash name ≡ false
legal_bytes [] legal = refl
legal_bytes (b ∷ name) legal = go (is_slash b) refl (both _ _ legal).0 (legal_bytes name (both _ _ legal).1)
  where
    go : (slash : Bool) → is_slash b ≡ slash → is_legal_byte b ≡ true → list_any is_slash name ≡ false
        → list_any is_slash (b ∷ name) ≡ false
    go true is fine rest = absurd (false≢true (ap is_legal_byte (sym (eqb-true b 47 is)) ∙ fine))
    go false is fine rest = rw is rest

-- a legal name has no slash
pub legal_plain : (name : List ℕ) → is_legal name ≡ true → list_any is_slash name ≡ false
legal_plain name legal = legal_bytes name (both _ _ legal).1

-- Paths

-- texts of one form in Modified UTF-8 are one
pub modified_tells : (path other : List ℕ) → IsUtf8 path → IsUtf8 other → modified path ≡ modified other → path ≡ other
modified_tells path other text too same = sym (utf-modified path text) ∙ ap utf same ∙ utf-modified other too

-- Names of nodes

-- a resource of a module with another name than the two trees' is no node
pub no_node : (m path : List ℕ) → list_any is_slash m ≡ false → m ≢ codes "modules" → m ≢ codes "packages"
    → is_node (file_name m path) ≡ false
no_node m path whole one other = false_from_ne_true (is_node (file_name m path)) go
  where
    never : (root : List ℕ) → module_and_path root ≡ None → file_name m path ≡ root → ⊥
    never root none same =
        let is : module_and_path root ≡ Some (m, path) = sym (ap module_and_path same) ∙ parts_of_file m path whole in
        cc

    within : (tree rest : List ℕ) → list_any is_slash tree ≡ false → file_name m path ≡ file_name tree rest → m ≡ tree
    within tree rest plain same = (names_tell m tree path rest whole plain same).0

    front : (text : List ℕ) → starts_with nat_eq (file_name m path) text ≡ true
        → file_name m path ≡ text ++ drop (length text) (file_name m path)
    front text starts = (starts_is Decides-eqb (file_name m path) text (starts_with nat_eq (file_name m path) text) refl).0 starts

    root : (bytes_eq (file_name m path) (codes "/modules") ≡ true) ⊎ (bytes_eq (file_name m path) (codes "/packages") ≡ true) → ⊥
    root (inl same) = never (codes "/modules") refl ((bytes_eq-Decides (file_name m path) (codes "/modules")).0 same)
    root (inr same) = never (codes "/packages") refl ((bytes_eq-Decides (file_name m path) (codes "/packages")).0 same)

    below : (starts_with nat_eq (file_name m path) (codes "/modules/") ≡ true)
        ⊎ (starts_with nat_eq (file_name m path) (codes "/packages/") ≡ true) → ⊥
    below (inl starts) = one (within (codes "modules") _ refl (front (codes "/modules/") starts))
    below (inr starts) = other (within (codes "packages") _ refl (front (codes "/packages/") starts))

    go : is_node (file_name m path) ≡ true → ⊥
    go is = elim (or_cases _ _ is) [ inl roots ↦ root (or_cases _ _ roots) | inr fronts ↦ below (or_cases _ _ fronts) ]

-- Reserved names

not_some : (r : Refusal) → Some r ≡ None → ⊥
not_some r is = cc

-- no module has a reserved name
pub free_names : (found : List Candidate) → reserved found ≡ None → (is_called found (codes "modules") ≡ false)
    × (is_called found (codes "packages") ≡ false)
free_names found free = go (is_called found (codes "modules")) refl (is_called found (codes "packages")) refl free
  where
    go : (m : Bool) → is_called found (codes "modules") ≡ m → (p : Bool) → is_called found (codes "packages") ≡ p
        → option_map (λ name. refusal.ReservedModule name) (find (is_called found) (codes "modules" ∷ codes "packages" ∷ [])) ≡ None
        → (is_called found (codes "modules") ≡ false) × (is_called found (codes "packages") ≡ false)
    go true is p also none = absurd (not_none is none)
      where
        not_none : is_called found (codes "modules") ≡ true → option_map (λ name. refusal.ReservedModule name)
            (find (is_called found) (codes "modules" ∷ codes "packages" ∷ [])) ≡ None → ⊥
        not_none is none = not_some _ (rw is at none)
    go false is true also none = absurd (not_none is also none)
      where
        not_none : is_called found (codes "modules") ≡ false → is_called found (codes "packages") ≡ true
            → option_map (λ name. refusal.ReservedModule name) (find (is_called found) (codes "modules" ∷ codes "packages" ∷ [])) ≡ None → ⊥
        not_none is also none = not_some _ (rw (is, also) at none)
    go false is false also none = (is, also)

pub other_name : (found : List Candidate) (name : List ℕ) (c : Candidate) → is_called found name ≡ false → Contains found c
    → name_of c ≢ name
other_name found name c free there same =
    false≢true (sym free ∙ any_contains (λ d. bytes_eq name (name_of d)) found c there
    ((bytes_eq-Decides name (name_of c)).1 (sym same)))

-- where no module has a reserved name, no resource of one of them is a node
pub free_no_node : (found : List Candidate) (c : Candidate) (path : List ℕ) → reserved found ≡ None → Contains found c
    → list_any is_slash (name_of c) ≡ false → is_node (file_name (name_of c) path) ≡ false
free_no_node found c path free there whole =
    let names = free_names found free in
    no_node (name_of c) path whole (other_name found (codes "modules") c names.0 there)
    (other_name found (codes "packages") c names.1 there)
