-- Names in the order of the file, by their definition.
use Rattle.std.proofs.Common.{◌≡◌, [], ◌∷◌, List, ℕ, codes, map, refl}
use Rattle.jm_filed.specs.declared.file_order.PlacedName.{PlacedName}
use Rattle.jm_filed.specs.FileOrder.{in_file_order}

abbrev at : ℕ → ℕ → List ℕ → PlacedName
at offset size name = record { offset = offset; size = size; name = name }

-- the place decides first; at one place an empty content comes first, and then the module, which isn't the order
-- of the names
ordered : map (λ p. p.name)
    (in_file_order (at 7 2 (codes "/a/a") ∷ at 0 7 (codes "/a/b") ∷ at 9 0 (codes "/a.b/x") ∷ at 9 0 (codes "/a/y") ∷ at 7 0 (codes "/z/z")
    ∷ at 9 0 (codes "/a/x") ∷ []))
    ≡ codes "/a/b" ∷ codes "/z/z" ∷ codes "/a/a" ∷ codes "/a/x" ∷ codes "/a/y" ∷ codes "/a.b/x" ∷ []
ordered = refl
