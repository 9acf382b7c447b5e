-- What `describe` prints of a module's descriptor (this project's rule): a line for each thing that
-- it says, in the order of the Module attribute (JVMS 4.7.25). Texts are put in UTF-8.
use Rattle.std.specs.Prelude.{ℕ, ◌==◌, Bool, not, bit_and, List, [], ◌∷◌, ◌++◌, Option, Some, None}
use Rattle.std.specs.Prelude.{if◌then◌else◌, codes}
use Rattle.std.specs.List.{flat_map}
use Rattle.jm_names.specs.Shown.{shown}
use Rattle.jm_modinfo.specs.declared.descriptor.Descriptor.{Descriptor}
use Rattle.jm_modinfo.specs.declared.descriptor.Need.{Need}
use Rattle.jm_modinfo.specs.declared.descriptor.Opened.{Opened}
use Rattle.jm_modinfo.specs.declared.descriptor.Provides.{Provides}
use Rattle.jm_modinfo.specs.Flags.{is_static}

-- the flag 0x0020 is set: a module is open, or who requires this module gets the one that it
-- requires
abbrev pub is_marked : ℕ → Bool
is_marked flags = not (bit_and flags 0x0020 == 0)

-- a word, if something is so, or no byte
abbrev pub word_if : Bool → List ℕ → List ℕ
word_if there word = if there then word else []

-- a text in UTF-8 after a comma
abbrev pub behind_comma : List ℕ → List ℕ
behind_comma text = 44 ∷ shown text

-- texts in UTF-8 with commas between them
abbrev pub listed : List (List ℕ) → List ℕ
listed [] = []
listed (text ∷ texts) = shown text ++ flat_map behind_comma texts

-- a word and some texts, or nothing where there are none
abbrev pub listed_behind : List ℕ → List (List ℕ) → List ℕ
listed_behind word [] = []
listed_behind word (text ∷ texts) = word ++ listed (text ∷ texts)

-- one text after a word, or nothing where there is none
abbrev pub behind : List ℕ → Option (List ℕ) → List ℕ
behind word None = []
behind word (Some text) = word ++ shown text

-- the line of a module: whether it is open, its name, its version
abbrev pub module_line : Descriptor → List ℕ
module_line d =
    word_if (is_marked d.flags) (codes "open ") ++ codes "module " ++ shown d.name
    ++ behind (codes "@") d.version ++ 10 ∷ []

-- the line of a module that is required
abbrev pub need_line : Need → List ℕ
need_line n =
    codes "requires " ++ word_if (is_marked n.flags) (codes "transitive ")
    ++ word_if (is_static n.flags) (codes "static ") ++ shown n.name ++ 10 ∷ []

-- the line of a package that is exported or opened, after that word
abbrev pub opened_line : List ℕ → Opened → List ℕ
opened_line word p = word ++ shown p.package ++ listed_behind (codes " to ") p.to ++ 10 ∷ []

-- the line of a service that is used
abbrev pub uses_line : List ℕ → List ℕ
uses_line service = codes "uses " ++ shown service ++ 10 ∷ []

-- the line of a service that is provided
abbrev pub provides_line : Provides → List ℕ
provides_line p =
    codes "provides " ++ shown p.service ++ codes " with" ++ listed_behind (codes " ") p.classes
    ++ 10 ∷ []

-- the line of the main class, if there is one
abbrev pub main_line : Option (List ℕ) → List ℕ
main_line None = []
main_line (Some text) = codes "main " ++ shown text ++ 10 ∷ []

-- the text of `describe`: a line for each thing that a descriptor says, the main class last
abbrev pub describe_text : Descriptor → List ℕ
describe_text d =
    module_line d ++ flat_map need_line d.needs
    ++ flat_map (opened_line (codes "exports ")) d.exports
    ++ flat_map (opened_line (codes "opens ")) d.opens
    ++ flat_map uses_line d.uses ++ flat_map provides_line d.provides ++ main_line d.main
