-- The files of one module of one class from the seed 0, computed.
use Rattle.std.proofs.Common.{◌≡◌, ◌*◌, [], ◌∷◌, length, map, refl, codes}
use Rattle.jm_gen.specs.Draws.{draw, drawn}
use Rattle.jm_gen.specs.Generated.{class_name, generated, module_name, needs, need_of}

first_draw : draw 0 ≡ 1442695040888963407
first_draw = refl

second_draw : drawn 0 2 ≡ 1876011003808476466
second_draw = refl

paths : map (λ f. f.0) (generated (codes "d/mods") 1 1 0) ≡ codes "d/mods/m000/module-info.class"
    ∷ codes "d/mods/m000/m000/p0/C0000.class" ∷ []
paths = refl

sizes : map (λ f. length f.1) (generated (codes "d/mods") 1 1 0) ≡ 82 ∷ 185 ∷ []
sizes = refl

module_255 : module_name 255 ≡ codes "m255"
module_255 = refl

class_1023 : class_name 1023 ≡ codes "C1023"
class_1023 = refl

-- by the draw 2^33 * 7: the module before, and module 7 modulo 4
needs_of_five : needs 5 (7 * 8589934592) ≡ need_of 4 ∷ need_of 3 ∷ []
needs_of_five = refl

needs_of_one : needs 1 (7 * 8589934592) ≡ need_of 0 ∷ []
needs_of_one = refl
