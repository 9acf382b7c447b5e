-- Small names in byte order, computed from the definitions.
use Rattle.std.proofs.Common.{◌≡◌, true, false, ◌∷◌, [], refl}
use Rattle.std.specs.Prelude.{codes}
use Rattle.jm_names.specs.ByName.{by_name}
use Rattle.jm_bytes.specs.ByteOrder.{is_before}

front_first : is_before (codes "/m/a") (codes "/m/a/b") ≡ true
front_first = refl

-- `-` stands before `/`
bytes_decide : is_before (codes "/m/a/b") (codes "/m/a-b") ≡ false
bytes_decide = refl

not_before_itself : is_before (codes "/m/a") (codes "/m/a") ≡ false
not_before_itself = refl

above_ascii : is_before (codes "z") (0xC3 ∷ 0xA9 ∷ []) ≡ true
above_ascii = refl

three_by_name : by_name ((codes "/m/b", codes "2") ∷ (codes "/m/a/b", codes "1") ∷ (codes "/m/a", codes "0") ∷ [])
    ≡ (codes "/m/a", codes "0") ∷ (codes "/m/a/b", codes "1") ∷ (codes "/m/b", codes "2") ∷ []
three_by_name = refl
