use Rattle.std.proofs.Common.{◌∙◌, ℕ, List, None, Some, ap, map, sym, arith}
use Rattle.std.proofs.lemmas.List.{length-map}
use Rattle.std.specs.List.{flat_map}
use Rattle.jm_form.proofs.RisingLaws.{rising_rises}
use Rattle.jm_form.specs.Trees.{fronts}
use Rattle.jm_pool.specs.Pairs.{names_of}
use Rattle.jm_nodes.specs.PackagePaths.{called_of}
use Rattle.jm_nodes.proofs.EndLaws.{clash_is, count_is, nodes_are}
use Rattle.jm_nodes.proofs.trees.nodes_within.Goals as goal

pub first_front-requires-clause-names : goal.first_front-requires-clause-names
first_front-requires-clause-names c = rw (c.as_slice-names.ensures, c.in_ok-listed.ensures) (rising_rises (names_of c.args.pool.now))

pub first_front-requires-clause-fronts : goal.first_front-requires-clause-fronts
first_front-requires-clause-fronts c = rw (c.as_slice-fronts.ensures, c.in_ok-risen.ensures)
    (rising_rises (flat_map fronts (map (λ name. name.now) c.as_slice-names.result.now)))

pub returns-in-Some-clause-refused : goal.returns-in-Some-clause-refused
returns-in-Some-clause-refused c =
    let names_are = ap (map (λ name. name.now)) c.as_slice-names.ensures ∙ c.in_ok-listed.ensures in
    let fronts_are = ap (map (λ front. front.now)) c.as_slice-fronts.ensures ∙ c.in_ok-risen.ensures in
    sym (clash_is (names_of c.args.pool.now) c.requires.sound (map (λ name. name.now) c.as_slice-names.result.now)
    (map (λ front. front.now) c.as_slice-fronts.result.now) names_are fronts_are (Some c.in-Some.name.now) c.in-Some.ensures)
    ∙ ap (λ (name : List ℕ). Some name) (sym c.in_ok-copy_of.ensures)

pub returns-then-count-room-clause-refused : goal.returns-then-count-room-clause-refused
returns-then-count-room-clause-refused c =
    let names = names_of c.args.pool.now in
    let ns = map (λ name. name.now) c.as_slice-names.result.now in
    let fs = map (λ front. front.now) c.as_slice-fronts.result.now in
    let names_are = ap (map (λ name. name.now)) c.as_slice-names.ensures ∙ c.in_ok-listed.ensures in
    let fronts_are = ap (map (λ front. front.now)) c.as_slice-fronts.ensures ∙ c.in_ok-risen.ensures in
    let called_are = ap (map called_of) c.as_slice-packages.ensures ∙ c.in_ok-paths.ensures in
    let all = count_is names c.requires.sound ns fs names_are fronts_are (map called_of c.as_slice-packages.result.now)
    called_are in
    let few = length-map c.as_slice-fronts.result.now (λ front. front.now) in
    let many = length-map c.as_slice-packages.result.now called_of in (
      sym (clash_is names c.requires.sound ns fs names_are fronts_are None c.in_default.ensures),
      omega (arith, c.if-count-room.true),
      omega (arith, c.in_ok-count.ensures, all, few, many),
    )

pub returns-clause-nodes : goal.returns-clause-nodes
returns-clause-nodes c =
    let names = names_of c.args.pool.now in
    let ns = map (λ name. name.now) c.as_slice-names.result.now in
    let fs = map (λ front. front.now) c.as_slice-fronts.result.now in
    let names_are = ap (map (λ name. name.now)) c.as_slice-names.ensures ∙ c.in_ok-listed.ensures in
    let fronts_are = ap (map (λ front. front.now)) c.as_slice-fronts.ensures ∙ c.in_ok-risen.ensures in
    let none = sym (clash_is names c.requires.sound ns fs names_are fronts_are None c.in_default.ensures) in
    nodes_are names c.requires.sound ns fs names_are fronts_are c.in_ok-nodes_of.field-0 none c.in_ok-nodes_of.ensures

pub returns-clause-within : goal.returns-clause-within
returns-clause-within c =
    let names = names_of c.args.pool.now in
    let ns = map (λ name. name.now) c.as_slice-names.result.now in
    let fs = map (λ front. front.now) c.as_slice-fronts.result.now in
    let names_are = ap (map (λ name. name.now)) c.as_slice-names.ensures ∙ c.in_ok-listed.ensures in
    let fronts_are = ap (map (λ front. front.now)) c.as_slice-fronts.ensures ∙ c.in_ok-risen.ensures in
    let called_are = ap (map called_of) c.as_slice-packages.ensures ∙ c.in_ok-paths.ensures in
    let all = count_is names c.requires.sound ns fs names_are fronts_are (map called_of c.as_slice-packages.result.now)
    called_are in
    let few = length-map c.as_slice-fronts.result.now (λ front. front.now) in
    let many = length-map c.as_slice-packages.result.now called_of in
    omega (arith, c.in_ok-count.ensures, all, few, many, c.if-count-room.false)

pub returns-clause-apart : goal.returns-clause-apart
returns-clause-apart c =
    let names_are = ap (map (λ name. name.now)) c.as_slice-names.ensures ∙ c.in_ok-listed.ensures in
    let fronts_are = ap (map (λ front. front.now)) c.as_slice-fronts.ensures ∙ c.in_ok-risen.ensures in
    sym (clash_is (names_of c.args.pool.now) c.requires.sound (map (λ name. name.now) c.as_slice-names.result.now)
    (map (λ front. front.now) c.as_slice-fronts.result.now) names_are fronts_are None c.in_default.ensures)
