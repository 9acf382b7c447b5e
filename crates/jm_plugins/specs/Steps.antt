-- How far the plug-ins have come (words of the proof).
use Rattle.std.specs.Prelude.{ℕ, ◌≡◌, ◌+◌, ◌⊎◌, List, [], ◌∷◌, Some, Result, Ok, Err, Bool}
use Rattle.std.specs.Prelude.{All, true, map, nat_lt, slice_get, slice_index_or}
use Rattle.std.specs.Prelude.{if◌then◌else◌}
use Rattle.std.specs.List.{position_or_len}
use Rattle.std.specs.Str.{bytes_eq}
use Rattle.jm_bytes.specs.declared.faults.Or.{Or}
use Rattle.jm_bytes.specs.declared.faults.Or.TheVariants.{Fault, Memory}
use Rattle.jm_class.specs.Classes.{ClassData}
use Rattle.jm_class.specs.Releases.{ReadsFor, class_for}
use Rattle.jm_class.specs.declared.class.ClassFault.{ClassFault}
use Rattle.jm_pattern.specs.ComputedMatching.{matches}
use Rattle.jm_compact.specs.Compact.{compact_text}
use Rattle.jm_form.specs.Trees.{module_of}
use Rattle.jm_packages.specs.Packages.{packages_text}
use Rattle.jm_pool.specs.Pairs.{names_of, with_bytes_at}
use Rattle.jm_plugins.specs.declared.chain.BadClass.{BadClass}
use Rattle.jm_plugins.specs.declared.classes.Remade.{Remade}
use Rattle.jm_plugins.specs.declared.classes.Remaking.{Remaking}
use Rattle.jm_plugins.specs.declared.classes.Remaking.TheVariants as remaking
use Rattle.jm_plugins.specs.declared.exclusion.Dropping.{Dropping}
use Rattle.jm_plugins.specs.declared.exclusion.Dropping.TheVariants as dropping
use Rattle.jm_plugins.specs.declared.order.Ranking.{Ranking}
use Rattle.jm_plugins.specs.declared.order.Ranking.TheVariants as ranking
use Rattle.jm_plugins.specs.Packaging.{is_descriptor, listing_text, packages_by}
use Rattle.jm_plugins.specs.ComputedPlugins.{bad_class, stripped_text}
use Rattle.jm_plugins.specs.Plugins.{is_class}
use Rattle.jm_plugins.specs.SystemModules.{is_system_modules}

-- the number of the first test that a name passes, or how many tests there are
abbrev pub rank : List (List ℕ → Bool) → List ℕ → ℕ
rank tests name = position_or_len (λ test. test name) tests

-- the tests of one of the ways: that a pattern matches, or that it is a name
abbrev pub tests_of : Ranking → List (List ℕ → Bool)
tests_of (ranking.Patterns index) = map matches index.now
tests_of (ranking.Names index) = map bytes_eq index.now

-- the places of the pairs whose name is taken, where the first pair has a given place
abbrev pub class_places : (List ℕ → Bool) → ℕ → List (List ℕ × List ℕ) → List ℕ
class_places takes at [] = []
class_places takes at (pair ∷ pairs) =
    if takes pair.0 then at ∷ class_places takes (at + 1) pairs
    else class_places takes (at + 1) pairs

-- a name is dropped by one of the ways
abbrev pub is_dropped : Dropping → List ℕ → Bool
is_dropped (dropping.Matched index count) name =
    nat_lt (position_or_len (λ pattern. matches pattern name) index.now) count
is_dropped dropping.SystemModules name = is_system_modules name

-- which names one of the ways takes
abbrev pub taken_by : Remaking → List ℕ → Bool
taken_by remaking.Strip = is_class
taken_by remaking.Compact = is_class
taken_by (remaking.Packages keys) = is_descriptor

-- the text that one of the ways gives of the class of a name
abbrev pub text_of : Remaking → List ℕ → ClassData → List ℕ
text_of remaking.Strip name class = stripped_text class
text_of remaking.Compact name class = compact_text class
text_of (remaking.Packages keys) name class =
    packages_text (packages_by keys.now (module_of name) class) class

-- the other text of the class of a release that some bytes are, or their fault
abbrev pub RemadeAs : ℕ → (ClassData → List ℕ) → List ℕ → Result (List ℕ) (Or ClassFault) → Type 0
RemadeAs release text bytes (Ok made) =
    (c : _) × (class_for release bytes ≡ Ok c) × (made ≡ text c)
RemadeAs release text bytes (Err (Fault fault)) = class_for release bytes ≡ Err fault
RemadeAs release text bytes (Err Memory) = Unit {0}

-- the class of a release that is computed of some bytes is the one that they read as, by the rule
abbrev pub ReadsByRule : ℕ → List ℕ → Type 0
ReadsByRule release bytes =
    (c : ClassData) → class_for release bytes ≡ Ok c → ReadsFor release bytes c

-- that holds of each pair whose name is taken
abbrev pub TakenRead : ℕ → (List ℕ → Bool) → List (List ℕ × List ℕ) → Type 0
TakenRead release takes pairs =
    All (λ pair. takes pair.0 ≡ true → ReadsByRule release pair.1) pairs

-- what making the class at a place anew gave
abbrev pub IsRemade : ℕ → (List ℕ → ClassData → List ℕ) → List (List ℕ × List ℕ) → ℕ → Remade
    → Type 0
IsRemade release text pairs place one =
    (one.place ≡ place)
    × ((pair : _) → slice_get pairs place ≡ Some pair → ReadsByRule release pair.1)
    × ((pair : _) → slice_get pairs place ≡ Some pair
    → RemadeAs release (text pair.0) pair.1 one.outcome)

-- the refusal of the class at a place by its fault
abbrev pub refusal_at : List (List ℕ × List ℕ) → ℕ → ClassFault → BadClass
refusal_at pairs place = bad_class (slice_index_or (names_of pairs) place [])

-- the refusal is by the fault of the class at a place, with its name, or want of memory
abbrev pub Refuses : List (List ℕ × List ℕ) → ℕ → Or ClassFault → Or BadClass → Type 0
Refuses pairs place (Fault fault) refusal =
    (refusal ≡ Memory) ⊎ (refusal ≡ Fault (refusal_at pairs place fault))
Refuses pairs place Memory refusal = refusal ≡ Memory

-- a class made anew is put at its place, then the later ones; the first that was refused decides
abbrev pub put_one : ℕ → Result (List ℕ) (Or ClassFault)
    → (List (List ℕ × List ℕ) → Result (List (List ℕ × List ℕ)) (Or BadClass))
    → List (List ℕ × List ℕ) → Result (List (List ℕ × List ℕ)) (Or BadClass)
put_one place (Ok text) later pairs = later (with_bytes_at pairs place text)
put_one place (Err (Fault fault)) later pairs = Err (Fault (refusal_at pairs place fault))
put_one place (Err Memory) later pairs = Err Memory

-- the pairs with several classes made anew at their places; the first that was refused decides
abbrev pub put_remade : List Remade → List (List ℕ × List ℕ)
    → Result (List (List ℕ × List ℕ)) (Or BadClass)
put_remade [] pairs = Ok pairs
put_remade (one ∷ later) pairs = put_one one.place one.outcome (put_remade later) pairs

-- by these keys each descriptor of a release lists the packages of its module among the pairs
abbrev pub Serves : ℕ → List (List ℕ × List ℕ) → List (List ℕ) → Type 0
Serves release pairs keys =
    All (λ pair. is_descriptor pair.0 ≡ true → (c : ClassData) → class_for release pair.1 ≡ Ok c
    → packages_text (packages_by keys (module_of pair.0) c) c
    ≡ listing_text (names_of pairs) pair.0 c) pairs
