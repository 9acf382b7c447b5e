-- What the index refuses of a few resources.
use Rattle.std.proofs.Common.{◌≡◌, ◌^◌, ◌-◌, ℕ, List, [], ◌∷◌, Some, None, refl}
use Rattle.std.specs.Prelude.{codes}
use Rattle.jm_form.specs.Rows.{blank}
use Rattle.jm_names.specs.declared.check.NameFault.TheVariants.{Dots}
use Rattle.jm_texts.specs.declared.refusal.Refusal.TheVariants.{BadName, TooLarge}
use Rattle.jm_decompress.specs.declared.resources.StoredResource.{StoredResource}
use Rattle.jm_decompress.specs.Decompressed.{index_refusal}

-- a resource whose content is to have so many bytes, of which 9 are stored
abbrev sized : List ℕ → ℕ → StoredResource
sized name size = record { name = name; row = record blank { packed = 9; size = size } }

-- no more than 1 GiB
most : index_refusal (sized (codes "/m/a") 1073741823 ∷ sized (codes "/m/b") 1 ∷ []) ≡ None
most = refl

-- one byte more
more : index_refusal (sized (codes "/m/a") 1073741823 ∷ sized (codes "/m/b") 2 ∷ []) ≡ Some (TooLarge 1073741825)
more = refl

-- as many as can be named
huge : index_refusal (sized (codes "/m/a") (2 ^ 64 - 1) ∷ sized (codes "/m/b") (2 ^ 64 - 1) ∷ []) ≡ Some (TooLarge (2 ^ 64 - 1))
huge = refl

-- a name comes first
unfit : index_refusal (sized (codes "/m/a") (2 ^ 64 - 1) ∷ sized (codes "/m/..") 1 ∷ []) ≡ Some (BadName (codes "/m/..") Dots)
unfit = refl
