-- Entries of an image whose contents were read from its file, one after another (this project's
-- rule).
use Rattle.std.specs.Prelude.{ℕ, ◌≡◌, List, [], ◌∷◌, Option}
use Rattle.jm_names.specs.ByName.{Named}
use Rattle.jm_outside.specs.Files.{Files}
use Rattle.jm_filed.specs.Filed.{IsReadAt}
use Rattle.jm_filed.specs.declared.taking.TakenEntry.{TakenEntry}

-- the content of an entry was read, and stands under its name
abbrev pub IsEntryRead : Option Files → List ℕ → TakenEntry → Named → Type 0
IsEntryRead told path t p = (p.0 ≡ t.name) × IsReadAt told path t.content p.1

-- the contents of the first of some entries were read, in their order
abbrev pub AreFirstRead : Option Files → List ℕ → List TakenEntry → List Named → Type 0
AreFirstRead told path entries [] = Unit {0}
AreFirstRead told path [] (p ∷ read) = ⊥
AreFirstRead told path (t ∷ entries) (p ∷ read) =
    IsEntryRead told path t p × AreFirstRead told path entries read
