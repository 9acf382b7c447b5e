use Rattle.std.proofs.Common.{◌++◌, ◌∷◌, ℕ, List, Option, ap, arith, option_map, sym, rules}
use Rattle.std.proofs.lemmas.List.{length-map, take_all}
use Rattle.jm_form.specs.Rising.{items_of}
use Rattle.jm_form.specs.Trees.{module_of}
use Rattle.jm_form.proofs.ListLaws.{grown_none, grown_some}
use Rattle.jm_form.proofs.RisingLaws.{items_push}
use Rattle.jm_names.specs.Names.{dotted}
use Rattle.jm_pool.specs.Pairs.{names_of}
use Rattle.jm_plugins.specs.Packaging.{folder_key}
use Rattle.jm_plugins.proofs.PackagingLaws.{keys_rise, name_at}
use Rattle.jm_plugins.proofs.packages.folder_keys.Goals as goal
use Rattle.jm_plugins.proofs.packages.folder_keys.Goals.{in-Some+in_ok-key+in_ok-push, in_default}

pub loop-place-preserved : goal.loop-place-preserved
loop-place-preserved c =
    let pairs = c.args.pool.now in
    let place = c.loop-place.place in
    let pair : List ℕ × List ℕ = (c.at.result.0.now, c.at.result.1.now) in
    let size = length-map pairs (λ (p : List ℕ × List ℕ). p.0) in
    let is = name_at pairs place pair c.at.ensures in
    let old = items_of c.loop-place.keys.items in
    let key_of = λ (folder : List ℕ). module_of pair.0 ++ 47 ∷ dotted folder in
    let key_in = λ (folder : Option (List ℕ)). option_map (λ p. module_of pair.0 ++ 47 ∷ p) (option_map dotted folder) in
    elim c.match-folder_of.branch [
      | in-Some+in_ok-key+in_ok-push w ↦ rw w.keys-is
          (let gives = ap key_in (sym w.in-Some.ensures) in
          grown_some folder_key (names_of pairs) place pair.0 (key_of w.in-Some.folder.now) old (items_of w.push.new.self.items)
          (omega (arith, size)) is gives
          (items_push c.loop-place.keys.items w.push.new.self.items w.in_ok-key.field-0 (key_of w.in-Some.folder.now)
          w.in_ok-push.ensures.items (rw w.module_of.ensures at w.in_ok-key.ensures)) c.loop-place.invariant)
      | in_default w ↦ rw w.keys-is
          (let gives = ap key_in (sym w.in_default.ensures) in
          grown_none folder_key (names_of pairs) place pair.0 old (omega (arith, size)) is gives c.loop-place.invariant)
    ]

pub invariant_of-result : goal.invariant_of-result
invariant_of-result c = search (rules, length-map, take_all, keys_rise)

pub returns : goal.returns
returns c = search (rules, length-map, take_all)
