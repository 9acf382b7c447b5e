use Rattle.std.proofs.Common.{◌∙◌, ap, arith, sym, rules}
use Rattle.std.specs.List.{filter_map}
use Rattle.std.proofs.lemmas.List.{take_all}
use Rattle.jm_modpath.specs.Finding.{folders_among}
use Rattle.jm_modpath.specs.Modules.{folder_with_info}
use Rattle.jm_modpath.proofs.TextCuts.{folders_are_text, texts_of}
use Rattle.jm_form.specs.Rising.{items_of}
use Rattle.jm_form.proofs.ListLaws.{grown_none, grown_some}
use Rattle.jm_form.proofs.RisingLaws.{items_push}
use Rattle.jm_modpath.proofs.folders.folders_among.Goals as goal
use Rattle.jm_modpath.proofs.folders.folders_among.Goals.{in-Some+in_ok-copy_of+in_ok-push, in_default}

pub loop-name-preserved : goal.loop-name-preserved
loop-name-preserved c =
    let names = c.args.names.now in
    let at = c.loop-name.name-index in
    let name = c.name-item.result in
    let old = items_of c.loop-name.folders.items in
    elim c.match-folder_with_info.branch [
      | in-Some+in_ok-copy_of+in_ok-push w ↦ rw w.folders-is
          (grown_some folder_with_info names at name w.in-Some.folder.now old (items_of w.push.new.self.items) c.loop-name-test.true
          c.name-item.is (rw c.as_slice.ensures at (sym w.in-Some.ensures))
          (items_push c.loop-name.folders.items w.push.new.self.items w.in_ok-copy_of.field-0 w.in-Some.folder.now
          w.in_ok-push.ensures.items w.in_ok-copy_of.ensures) c.loop-name.invariant)
      | in_default w ↦ rw w.folders-is
          (grown_none folder_with_info names at name old c.loop-name-test.true c.name-item.is
          (rw c.as_slice.ensures at (sym w.in_default.ensures)) c.loop-name.invariant)
    ]

pub returns-clause-folders : goal.returns-clause-folders
returns-clause-folders c = search (rules, take_all)

pub returns-clause-texts : goal.returns-clause-texts
returns-clause-texts c =
    let all = take_all c.loop-name.name-index c.args.names.now (omega arith) in
    texts_of c.rising.result (folders_among c.args.names.now)
    (rw (c.loop-name.invariant ∙ ap (filter_map folder_with_info) all) at c.rising.ensures)
    (folders_are_text c.args.names.now c.requires)
