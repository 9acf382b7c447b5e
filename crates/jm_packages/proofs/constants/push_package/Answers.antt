use Rattle.std.proofs.Common.{◌≡◌, ◌∷◌, [], ◌++◌, ap, ◌∙◌, append_assoc}
use Rattle.jm_bytes.proofs.ResultLaws.{on_ok_map}
use Rattle.jm_class.proofs.Stops.{map_pushed}
use Rattle.jm_class.specs.Classes.{Constant}
use Rattle.jm_class.specs.Views.{slot_of, pool_of}
use Rattle.jm_modinfo.specs.Written.{utf8}
use Rattle.jm_packages.proofs.constants.push_package.Goals as goal

pub returns : goal.returns
returns c =
    let old = pool_of c.args.pool.now in
    let name = utf8 c.args.«package».now in
    let constant = Constant 20 c.args.number.now in
    let first : pool_of c.push.new.self ≡ old ++ name ∷ [] = map_pushed slot_of c.args.pool.now c.push.new.self _ c.in_ok-push.ensures.ok in
    on_ok_map _ (pool_of c.push-2.new.self ≡ old ++ name ∷ constant ∷ []) c.push-2.result
    (λ grown. map_pushed slot_of c.push.new.self c.push-2.new.self _ grown ∙ ap (λ t. t ++ constant ∷ []) first
    ∙ append_assoc old (name ∷ []) (constant ∷ []))
    c.push-2.ensures.ok
