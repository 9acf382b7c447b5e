-- What plug-ins make of the resources, as values that compute. The rules are `Makes` and `Applies`
-- of Plugins; proofs/ComputedPluginsLaws ties them together.
use Rattle.std.specs.Prelude.{ℕ, Bool, List, [], ◌∷◌, Result, Ok, Err, if◌then◌else◌}
use Rattle.jm_bytes.specs.Results.{followed}
use Rattle.jm_class.specs.Classes.{ClassData, class_text}
use Rattle.jm_class.specs.Releases.{class_for}
use Rattle.jm_class.specs.declared.class.ClassFault.{ClassFault}
use Rattle.jm_compact.specs.Compact.{compact_text}
use Rattle.jm_pool.specs.Pairs.{names_of}
use Rattle.jm_strip.specs.Strip.{strip}
use Rattle.jm_words.specs.declared.tasks.Plugin.{Plugin}
use Rattle.jm_words.specs.declared.tasks.Plugin.TheVariants as plugin
use Rattle.jm_plugins.specs.declared.chain.BadClass.{BadClass}
use Rattle.jm_plugins.specs.Matching.{excluded, kept, ordered}
use Rattle.jm_plugins.specs.Packaging.{is_descriptor, listing_text}
use Rattle.jm_plugins.specs.Plugins.{Pairs, is_class}
use Rattle.jm_plugins.specs.SystemModules.{without_system_modules}

-- the refusal of the class of a name by its fault
abbrev pub bad_class : List ℕ → ClassFault → BadClass
bad_class name fault = record { name = name; fault = fault }

-- the pair of a class that was read, with another text of it, or the refusal by its fault
abbrev pub remade : (ClassData → List ℕ) → List ℕ → Result ClassData ClassFault
    → Result (List ℕ × List ℕ) BadClass
remade text name (Ok class) = Ok (name, text class)
remade text name (Err fault) = Err (bad_class name fault)

-- a pair with the other text of its class of a release, where its name is taken, or that class's
-- refusal
abbrev pub remade_pair : ℕ → (List ℕ → Bool) → (List ℕ → ClassData → List ℕ) → List ℕ × List ℕ
    → Result (List ℕ × List ℕ) BadClass
remade_pair release takes text pair =
    if takes pair.0 then remade (text pair.0) pair.0 (class_for release pair.1) else Ok pair

-- all pairs so, or the first refusal
abbrev pub remade_pairs : ℕ → (List ℕ → Bool) → (List ℕ → ClassData → List ℕ) → Pairs
    → Result Pairs BadClass
remade_pairs release takes text [] = Ok []
remade_pairs release takes text (pair ∷ pairs) =
    followed (remade_pair release takes text pair)
    (λ first. followed (remade_pairs release takes text pairs) (λ rest. Ok (first ∷ rest)))

-- the text of a class without its debug information: that of `Strip`, as `compact_text` is that of
-- `Compact`
abbrev pub stripped_text : ClassData → List ℕ
stripped_text class = class_text (strip class)

-- `Makes` as a value: what one plug-in makes of the pairs, or its refusal
abbrev pub act : ℕ → Plugin → Pairs → Result Pairs BadClass
act release (plugin.Exclude patterns) pairs = Ok (excluded patterns pairs)
act release (plugin.Order patterns) pairs = Ok (ordered patterns pairs)
act release (plugin.KeepOrder names) pairs = Ok (kept names pairs)
act release plugin.Strip pairs = remade_pairs release is_class (λ name. stripped_text) pairs
act release plugin.Compact pairs = remade_pairs release is_class (λ name. compact_text) pairs
act release plugin.Packages pairs =
    remade_pairs release is_descriptor (listing_text (names_of pairs)) pairs
act release plugin.DropSystemModules pairs = Ok (without_system_modules pairs)

-- `Applies` as a value: what plug-ins make of the pairs, from the first to the last, or the first
-- refusal
abbrev pub apply : ℕ → List Plugin → Pairs → Result Pairs BadClass
apply release [] pairs = Ok pairs
apply release (one ∷ later) pairs = followed (act release one pairs) (apply release later)
