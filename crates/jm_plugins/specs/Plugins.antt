-- What plug-ins make of the resources before they are written (JEP 282; what each plug-in does is
-- this project's rule). Each takes the release of Java SE up to which classes are read; one that no
-- plug-in takes is of any release. ComputedPlugins has the same as values.
use Rattle.std.specs.Prelude.{ℕ, ◌≡◌, true, false, nat_eq, Bool, List, [], ◌∷◌, ◌++◌, All, codes}
use Rattle.std.specs.Prelude.{Some, Result, Ok, Err}
use Rattle.std.specs.List.{ends_with, AllZip}
use Rattle.jm_class.specs.Classes.{ClassData, class_text}
use Rattle.jm_class.specs.Releases.{ReadsFor, fault_for}
use Rattle.jm_compact.specs.Compact.{IsCompact}
use Rattle.jm_pool.specs.Pairs.{names_of}
use Rattle.jm_strip.specs.Strip.{strip}
use Rattle.jm_words.specs.declared.tasks.Plugin.{Plugin}
use Rattle.jm_words.specs.declared.tasks.Plugin.TheVariants as plugin
use Rattle.jm_plugins.specs.declared.chain.BadClass.{BadClass}
use Rattle.jm_plugins.specs.Matching.{excluded, kept, ordered}
use Rattle.jm_plugins.specs.Packaging.{is_descriptor, listing_text}
use Rattle.jm_plugins.specs.SystemModules.{without_system_modules}

-- names with their bytes
abbrev pub Pairs : Type 0
Pairs = List (List ℕ × List ℕ)

-- the name ends in `.class`
abbrev pub is_class : List ℕ → Bool
is_class name = ends_with nat_eq name (codes ".class")

-- what becomes of a pair: it stays where its name isn't taken; else its bytes read as a class of a
-- release, and give way to a text that is right for the name and the class
pub data IsMadeAnew (release : ℕ) (takes : List ℕ → Bool)
    (IsRight : List ℕ → ClassData → List ℕ → Type 0) (pair made : List ℕ × List ℕ)
    : Type 0 where
  Untaken : takes pair.0 ≡ false → made ≡ pair → IsMadeAnew release takes IsRight pair made
  Taken : takes pair.0 ≡ true → (c : ClassData) → ReadsFor release pair.1 c → (text : List ℕ)
      → IsRight pair.0 c text → made ≡ (pair.0, text)
      → IsMadeAnew release takes IsRight pair made

-- this is the name, and the fault of the bytes, of the first pair whose name is taken and whose
-- bytes read as no class of the release
pub record IsFirstBad (release : ℕ) (takes : List ℕ → Bool) (pairs : Pairs) (refusal : BadClass)
    : Type 0 where
  pub before : Pairs
  pub bytes : List ℕ
  pub behind : Pairs
  pub is : pairs ≡ before ++ (refusal.name, bytes) ∷ behind
  pub read : All (λ pair. takes pair.0 ≡ true → (c : ClassData) × ReadsFor release pair.1 c) before
  pub taken : takes refusal.name ≡ true
  pub bad : fault_for release bytes ≡ Some refusal.fault

-- all pairs made anew so, or the first whose bytes read as no class of the release
abbrev pub AreMadeAnew : ℕ → (List ℕ → Bool) → (List ℕ → ClassData → List ℕ → Type 0) → Pairs
    → Result Pairs BadClass → Type 0
AreMadeAnew release takes IsRight pairs (Ok made) =
    AllZip (IsMadeAnew release takes IsRight) pairs made
AreMadeAnew release takes IsRight pairs (Err refusal) = IsFirstBad release takes pairs refusal

-- what one plug-in makes of the pairs, where classes are those of a release
abbrev pub Makes : ℕ → Plugin → Pairs → Result Pairs BadClass → Type 0
Makes release (plugin.Exclude patterns) pairs result = result ≡ Ok (excluded patterns pairs)
Makes release (plugin.Order patterns) pairs result = result ≡ Ok (ordered patterns pairs)
Makes release (plugin.KeepOrder names) pairs result = result ≡ Ok (kept names pairs)
Makes release plugin.Strip pairs result =
    AreMadeAnew release is_class (λ name c text. text ≡ class_text (strip c)) pairs result
Makes release plugin.Compact pairs result =
    AreMadeAnew release is_class (λ name. IsCompact) pairs result
Makes release plugin.Packages pairs result =
    AreMadeAnew release is_descriptor
    (λ name c text. text ≡ listing_text (names_of pairs) name c) pairs result
Makes release plugin.DropSystemModules pairs result = result ≡ Ok (without_system_modules pairs)

-- what is made goes on to the later plug-ins; a refusal is the result
abbrev pub GoesOn : (Pairs → Result Pairs BadClass → Type 0) → Result Pairs BadClass
    → Result Pairs BadClass → Type 0
GoesOn Later (Ok made) result = Later made result
GoesOn Later (Err refusal) result = result ≡ Err refusal

-- what plug-ins make of the pairs, where classes are those of a release, from the first plug-in to
-- the last, or the first refusal
abbrev pub Applies : ℕ → List Plugin → Pairs → Result Pairs BadClass → Type 0
Applies release [] pairs result = result ≡ Ok pairs
Applies release (one ∷ later) pairs result =
    (made : Result Pairs BadClass) × Makes release one pairs made
    × GoesOn (Applies release later) made result
