use Rattle.std.proofs.Common.{◌≡◌, ◌≤◌, ℕ, List, All, false, refl, subst, length, arith}
use Rattle.std.proofs.lemmas.List.{length-map, take_all}
use Rattle.jm_names.specs.NameFaults.{IsSound}
use Rattle.jm_names.specs.Names.{is_node}
use Rattle.jm_form.specs.Layout.{names_of}
use Rattle.jm_writer.proofs.ItemLaws.{all_mapped}
use Rattle.jm_call_cases.proofs.fit.are_fit.Goals as goal

pub loop-place-preserved : goal.loop-place-preserved
loop-place-preserved c =
    let before = c.loop-place.invariant in
    let pair : List ℕ × List ℕ = (c.at.result.0.now, c.at.result.1.now) in
    record {
      sound = all_mapped IsSound (λ (p : List ℕ × List ℕ). p.0) c.args.pool.now c.loop-place.place pair c.at.ensures before.sound
          (c.if-not-is_fit.ensures.sound refl);
      resources = all_mapped (λ name. is_node name ≡ false) (λ (p : List ℕ × List ℕ). p.0) c.args.pool.now c.loop-place.place pair
          c.at.ensures before.resources (c.if-not-is_fit.ensures.resource refl);
    }

pub returns-clause-sound : goal.returns-clause-sound
returns-clause-sound c = λ _.
    let long = length-map c.args.pool.now (λ (p : List ℕ × List ℕ). p.0) in
    let all : length (names_of c.args.pool.now) ≤ c.loop-place.place =
    omega (arith, c.len-place-end.ensures.len, c.loop-place-test.false) in
    subst (All IsSound) (take_all c.loop-place.place (names_of c.args.pool.now) all) c.loop-place.invariant.sound

pub returns-clause-resources : goal.returns-clause-resources
returns-clause-resources c = λ _.
    let long = length-map c.args.pool.now (λ (p : List ℕ × List ℕ). p.0) in
    let all : length (names_of c.args.pool.now) ≤ c.loop-place.place =
    omega (arith, c.len-place-end.ensures.len, c.loop-place-test.false) in
    subst (All (λ name. is_node name ≡ false)) (take_all c.loop-place.place (names_of c.args.pool.now) all) c.loop-place.invariant.resources
