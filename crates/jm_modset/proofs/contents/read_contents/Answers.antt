use Rattle.std.proofs.Common.{◌∙◌, ◌∷◌, ◌++◌, ℕ, List, [], append_assoc, ap, refl, sym}
use Rattle.jm_bytes.proofs.ResultLaws.{passed_on}
use Rattle.jm_form.specs.Layout.{Written}
use Rattle.jm_modset.specs.declared.files.LinkFile.{LinkFile}
use Rattle.jm_modset.proofs.ReadLaws.{lacks_among, name_is_new, names_read, read_more, sizes_more, sizes_within}
use Rattle.jm_modset.proofs.contents.read_contents.Goals as goal

pub returns-in_err-bytes-clause-lacks : goal.returns-in_err-bytes-clause-lacks
returns-in_err-bytes-clause-lacks g c =
    let all = ap (λ rest. c.loop-file.yielded ++ rest) (sym c.in-Some.ensures.steps.0) ∙ c.loop-file.invariant.all in
    rw (passed_on c.from_residual.result _ c.from_residual.ensures.1)
    (lacks_among (List ℕ) (List Written) _ _ c.args.files c.loop-file.yielded c.in-Some.file c.next.new.self.rest.items c.in_err-bytes.field-0.0 all
    c.loop-file.invariant.files c.in_err-bytes.ensures.lacks)

pub returns-in_err-bytes-clause-takes : goal.returns-in_err-bytes-clause-takes
returns-in_err-bytes-clause-takes g c told sized =
    let all = ap (λ rest. c.loop-file.yielded ++ rest) (sym c.in-Some.ensures.steps.0) ∙ c.loop-file.invariant.all in
    sizes_within _ _ told c.args.files c.loop-file.yielded c.in-Some.file c.next.new.self.rest.items all c.loop-file.invariant.files
    _ _ _ sized (c.loop-file.invariant.taken told sized) (c.read_bytes.ensures.takes told)

pub push-requires : goal.push-requires
push-requires g c =
    name_is_new (λ (f : LinkFile). f.name) c.args.files c.loop-file.yielded c.in-Some.file c.next.new.self.rest.items
    c.loop-file.pool c.requires.differ
    (ap (λ rest. c.loop-file.yielded ++ rest) (sym c.in-Some.ensures.steps.0) ∙ c.loop-file.invariant.all)
    (names_read _ _ c.loop-file.yielded c.loop-file.pool c.loop-file.invariant.put)

pub loop-file-preserved : goal.loop-file-preserved
loop-file-preserved g c =
    let before = c.loop-file.invariant in
    let file = c.in-Some.file in
    let did = c.in_ok-bytes.ensures in
    let all = ap (λ rest. c.loop-file.yielded ++ rest) (sym c.in-Some.ensures.steps.0) ∙ before.all in
    record {
      can = tt;
      ends = tt;
      all = append_assoc c.loop-file.yielded (file ∷ []) c.next.new.self.rest.items ∙ all;
      files = did.files ∙ before.files;
      count = did.faults.kept refl ∙ before.count;
      whole = λ whole. did.whole (before.whole whole);
      put = read_more _ _ c.args.image.now c.loop-file.yielded file c.loop-file.pool c.push.new.self c.in_ok-bytes.bytes
          before.files before.put did.content c.in_ok-push.ensures.ok;
      taken = λ told sized.
          sizes_more _ _ told c.args.files c.loop-file.yielded file c.next.new.self.rest.items all before.files _ _ _ sized
          (before.taken told sized) (did.takes told);
    }

pub returns-in_err-push-clause-takes : goal.returns-in_err-push-clause-takes
returns-in_err-push-clause-takes g c told sized =
    let all = ap (λ rest. c.loop-file.yielded ++ rest) (sym c.in-Some.ensures.steps.0) ∙ c.loop-file.invariant.all in
    sizes_within _ _ told c.args.files c.loop-file.yielded c.in-Some.file c.next.new.self.rest.items all c.loop-file.invariant.files
    _ _ _ sized (c.loop-file.invariant.taken told sized) (c.read_bytes.ensures.takes told)
