-- The least texts, computed in one pass over a list (this project's rule).
use Rattle.std.specs.Prelude.{if◌then◌else◌, ℕ, Bool, true, List, [], ◌∷◌, Option, Some, None}
use Rattle.std.specs.Prelude.{filter, is_none, map, not, ◌&&◌}
use Rattle.std.specs.List.{list_any}
use Rattle.std.specs.Str.{bytes_eq}
use Rattle.jm_modinfo.specs.Flags.{is_static}
use Rattle.jm_closure.specs.declared.candidate.Candidate.{Candidate}
use Rattle.jm_closure.specs.Least.{lesser}
use Rattle.jm_closure.specs.Modules.{name_of}
use Rattle.jm_closure.specs.Places.{place_in}

-- the lesser of a text, if there is one, and the least of those of a list that pass
abbrev pub least_of : (List ℕ → Bool) → Option (List ℕ) → List (List ℕ) → Option (List ℕ)
least_of p least [] = least
least_of p least (text ∷ texts) =
    least_of p (if p text then lesser least (Some text) else least) texts

-- a text has no place
abbrev pub is_lost : List (List ℕ × ℕ) → List ℕ → Bool
is_lost names text = is_none (place_in names text)

-- the modules that are marked
abbrev pub chosen_of : List Bool → List Candidate → List Candidate
chosen_of [] found = []
chosen_of (flag ∷ flags) [] = []
chosen_of (flag ∷ flags) (c ∷ found) =
    if flag then c ∷ chosen_of flags found else chosen_of flags found

-- a module requires a name without `static`
abbrev pub is_required : List ℕ → Candidate → Bool
is_required name c =
    list_any (λ need. not (is_static need.flags) && bytes_eq need.name name) c.descriptor.needs

-- a module has a class package
abbrev pub holds : List ℕ → Candidate → Bool
holds shared c = list_any (λ held. bytes_eq held shared) c.packages

-- the names of the modules that pass
abbrev pub names_where : (Candidate → Bool) → List Candidate → List (List ℕ)
names_where p found = map name_of (filter p found)

-- the text isn't another one, if there is one
abbrev pub differs : Option (List ℕ) → List ℕ → Bool
differs None text = true
differs (Some other) text = not (bytes_eq text other)
