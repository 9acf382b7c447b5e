use Rattle.std.proofs.Common.{◌≡◌, Err, arith, of_calls, rules, subst, sym}
use Rattle.std.proofs.lemmas.List.{take_all}
use Rattle.jm_filed.specs.Filed.{IsWithin}
use Rattle.jm_relink.specs.declared.modules.ImageFile.{ImageFile}
use Rattle.jm_relink.specs.Choosing.{ArePut, Chooses, IsChosen, WasRead}
use Rattle.jm_relink.specs.Files.{file_in, files_in}
use Rattle.jm_relink.specs.Gathering.{resource_of, resources_with}
use Rattle.jm_relink.proofs.ChoosingLaws.{element, more_within, put_next}
use Rattle.jm_relink.proofs.GatherLaws.{all_with, file_refused, refused_as}
use Rattle.jm_relink.proofs.choosing.put_files.Goals as goal

pub returns-in_err-chosen_file-clause-chooses : goal.returns-in_err-chosen_file-clause-chooses
returns-in_err-chosen_file-clause-chooses c b read =
    let m = c.args.module.now in
    let fs = c.args.files.now in
    let i = c.loop-file.file-index in
    let f = c.file-item.result in
    let same : c.from_residual.result ≡ Err c.in_err-chosen_file.field-0.0 = search (rules, of_calls) in
    rw same (refused_as (IsChosen b (resource_of m (file_in b f)))
    (Chooses b (resources_with m (files_in b fs)) c.args.list.now c.loop-file.list) c.in_err-chosen_file.field-0.0
    (λ fault given. file_refused b m fs i f fault c.loop-file-test.true c.file-item.is (c.loop-file.invariant.put b read).sound
    given)
    (c.in_err-chosen_file.ensures.file b (element (WasRead b c.args.info.now) fs i f read c.loop-file-test.true c.file-item.is)))

pub loop-file-preserved : goal.loop-file-preserved
loop-file-preserved c =
    let fs = c.args.files.now in
    let i = c.loop-file.file-index in
    let f = c.file-item.result in
    let chosen = c.in_ok-chosen_file in
    record {
      put = λ b read.
          put_next b c.args.module.now c.args.info.now fs i f c.args.list.now c.loop-file.list c.push.new.self chosen.field-0
          c.loop-file-test.true c.file-item.is (c.loop-file.invariant.put b read)
          (chosen.ensures.file b (element (WasRead b c.args.info.now) fs i f read c.loop-file-test.true c.file-item.is))
          c.in_ok-push.ensures.ok;
      within = λ size all inside.
          more_within size c.loop-file.list c.push.new.self chosen.field-0 c.in_ok-push.ensures.ok
          (c.loop-file.invariant.within size all inside)
          (subst (IsWithin size) (sym chosen.ensures.content)
          (element (λ (x : ImageFile). IsWithin size x.content) fs i f inside c.loop-file-test.true c.file-item.is));
    }

pub returns-clause-chooses : goal.returns-clause-chooses
returns-clause-chooses c b read =
    subst (λ gs. ArePut b (all_with b c.args.module.now gs) c.args.list.now c.loop-file.list)
    (take_all c.loop-file.file-index c.args.files.now (omega arith)) (c.loop-file.invariant.put b read)
