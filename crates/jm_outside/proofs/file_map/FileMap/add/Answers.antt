use Rattle.std.proofs.Common.{ap, sym, ◌∙◌}
use Rattle.std.specs.Option.{option_copied_mut}
use Rattle.std.proofs.lemmas.Result.{on_ok_weaker, on_err_weaker}
use Rattle.jm_outside.proofs.Map.{files_in-grown, files_in-kept, files_in-new}
use Rattle.jm_outside.proofs.file_map.FileMap.add.Goals as goal

pub returns-in-Some-clause-ok : goal.returns-in-Some-clause-ok
returns-in-Some-clause-ok c =
    let there = sym c.get_mut.ensures.value ∙ ap option_copied_mut c.in-Some.is in
    on_ok_weaker c.extend.result
    (λ grown. rw (← c.self.view_is)
    (files_in-grown (λ k. k.items) (λ v. v.items) c.args.path.now c.args.bytes.now c.in-Some.file.now c.extend.new.text
    c.self.inside.files.entries (c.get_mut.follows.lender c.extend.new.text).entries
    c.get_mut.ensures.ordered there (c.get_mut.follows.holds c.extend.new.text).0 grown))
    c.extend.ensures.ok

pub returns-in-Some-clause-err : goal.returns-in-Some-clause-err
returns-in-Some-clause-err c =
    let there = sym c.get_mut.ensures.value ∙ ap option_copied_mut c.in-Some.is in
    on_err_weaker c.extend.result
    (λ same. rw (← c.self.view_is)
    (files_in-kept (λ k. k.items) (λ v. v.items) c.args.path.now c.in-Some.file.now c.extend.new.text
    c.self.inside.files.entries (c.get_mut.follows.lender c.extend.new.text).entries
    there (c.get_mut.follows.holds c.extend.new.text).0 same))
    c.extend.ensures.err

pub returns-in_ok-copy_of-in-None-2-clause-ok : goal.returns-in_ok-copy_of-in-None-2-clause-ok
returns-in_ok-copy_of-in-None-2-clause-ok c =
    let missing = sym c.get_mut.ensures.value ∙ ap option_copied_mut c.in-None.is in
    let stored = rw (c.in_ok-copy_of-in-None.ensures, c.in_ok-copy_of-in-None-2.ensures, c.get_mut.follows.holds-at-none) at
    c.put.ensures.ok in
    rw (← c.self.view_is)
    (on_ok_weaker c.put.result
    (λ put. put ∙ files_in-new (λ k. k.items) (λ v. v.items) c.args.path.now c.args.bytes.now c.self.inside.files.entries missing)
    stored)
