use Rattle.std.proofs.Common.{◌++◌, ◌∷◌, [], ◌∙◌, ap, arith, option_map, sym}
use Rattle.std.proofs.lemmas.List.{take_all}
use Rattle.jm_outside.specs.Files.{after_front}
use Rattle.jm_outside.proofs.Names.{stripped}
use Rattle.jm_modpath.specs.Finding.{names_within}
use Rattle.jm_form.proofs.ListLaws.{grown_none, grown_some}
use Rattle.jm_modpath.proofs.TextCuts.{within_is_text}
use Rattle.jm_modpath.proofs.folders.names_within.Goals as goal
use Rattle.jm_modpath.proofs.folders.names_within.Goals.{in-Some+in_ok-copy_of+in_ok-push-2, in_default}

pub loop-name-preserved : goal.loop-name-preserved
loop-name-preserved c =
    let front = c.args.folder.now ++ 47 ∷ [] in
    let items = c.in_ok-name-items.name-items.now in
    let cut = rw (c.as_slice.ensures, c.as_slice-in-loop-name.ensures, c.in_ok-push.ensures.ok, c.in_ok-front.ensures) at
    (sym (stripped c.as_slice-in-loop-name.result.now c.as_slice.result.now c.strip_prefix.result c.strip_prefix.ensures.cases)) in
    elim c.match-strip_prefix.branch [
      | in-Some+in_ok-copy_of+in_ok-push-2 w ↦ rw w.rests-is
          (grown_some (after_front front) items c.loop-name.name-index c.name-item.result w.in-Some.rest.now c.loop-name.rests
          w.push-in-Some.new.self c.loop-name-test.true c.name-item.is (cut ∙ ap (option_map (λ x. x.now)) w.in-Some.is)
          (rw (← w.in_ok-copy_of.ensures) w.in_ok-push-2.ensures.ok) c.loop-name.invariant)
      | in_default w ↦ rw w.rests-is
          (grown_none (after_front front) items c.loop-name.name-index c.name-item.result c.loop-name.rests
          c.loop-name-test.true c.name-item.is (cut ∙ ap (option_map (λ x. x.now)) w.in_default.is) c.loop-name.invariant)
    ]

pub returns-clause-texts : goal.returns-clause-texts
returns-clause-texts c =
    let all = take_all c.loop-name.name-index c.in_ok-name-items.name-items.now (omega arith) in
    let is = c.loop-name.invariant ∙ ap (names_within c.args.folder.now) all ∙ c.in_ok-name-items.ensures in
    rw is (within_is_text c.args.folder.now c.args.names.now c.requires.folder c.requires.texts)
