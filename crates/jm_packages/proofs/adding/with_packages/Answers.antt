use Rattle.std.proofs.Common.{◌≡◌, ◌+◌, ◌∷◌, [], ◌++◌, List, length, map, sym, ap, ◌∙◌}
use Rattle.std.proofs.lemmas.List.{length-map}
use Rattle.jm_class.proofs.Stops.{map_pushed}
use Rattle.jm_class.specs.Classes.{SlotData, AttributeData}
use Rattle.jm_class.specs.Views.{slot_of, pool_of, attribute_of, plain}
use Rattle.jm_packages.specs.Packages.{added_slots, package_slots, packages_attribute}
use Rattle.jm_packages.proofs.Loops.{pool-with}
use Rattle.jm_packages.proofs.adding.with_packages.Goals as goal

pub returns : goal.returns
returns c =
    let class = plain c.args.class in
    let packages = c.args.packages.now in
    let first = map_pushed slot_of c.args.class.pool c.push.new.self _ c.in_ok-push.ensures.ok in
    let long = length-map c.push.new.self slot_of in
    let pools : pool_of c.push_packages.new.pool ≡ class.pool ++ added_slots (length class.pool + 1) packages =
    pool-with class.pool (pool_of c.push.new.self) (pool_of c.push_packages.new.pool) packages first
    (c.in_ok-push_packages.ensures ∙ ap (λ n. pool_of c.push.new.self ++ package_slots (n + 1) packages) (sym long)) in
    let slots : length class.pool ≡ length c.args.class.pool = length-map c.args.class.pool slot_of in
    let pushed = map_pushed attribute_of c.args.class.attributes c.push-2.new.self _ c.in_ok-push-2.ensures.ok in
    let attributes : map attribute_of c.push-2.new.self ≡ class.attributes ++ packages_attribute (length class.pool + 1) packages
    ∷ [] = rw (slots, sym c.requires.body, sym c.len.ensures) pushed in
    ap (λ (p : List SlotData). record class { pool = p; attributes = map attribute_of c.push-2.new.self }) pools
    ∙ ap (λ (own : List AttributeData). record class {
      pool = class.pool ++ added_slots (length class.pool + 1) packages;
      attributes
          = own;
    }) attributes
