use Rattle.std.proofs.Common.{rules, ◌≡◌, not, true, false, refl, sym, ap, ◌∙◌, is_none}
use Rattle.jm_closure.specs.Modules.{name_of}
use Rattle.jm_modset.specs.Found.{is_called}
use Rattle.jm_modset.proofs.SetLaws.{none_more, off, on, put_more, unindexed}
use Rattle.jm_modset.proofs.set.put_unhidden.Goals as goal

pub returns-in_ok-push-2 : goal.returns-in_ok-push-2
returns-in_ok-push-2 c = λ image indexed.
    let candidate = c.args.candidate in
    let test = unindexed image c.args.names.now (name_of candidate) indexed in
    let named : is_none c.get.result ≡ true = search (rules) in
    let same : is_none c.get.result ≡ not (is_called image (name_of candidate)) = rw (c.get.ensures, c.as_slice.ensures) test in
    rw (c.in_ok-push.ensures.ok, c.in_ok-push-2.ensures.ok)
    (put_more image candidate c.args.folder c.args.set.now (off (is_called image (name_of candidate)) (sym same ∙ named)))

pub returns-else-is_none : goal.returns-else-is_none
returns-else-is_none c = λ image indexed.
    let candidate = c.args.candidate in
    let test = unindexed image c.args.names.now (name_of candidate) indexed in
    let named : is_none c.get.result ≡ false = search (rules) in
    let same : is_none c.get.result ≡ not (is_called image (name_of candidate)) = rw (c.get.ensures, c.as_slice.ensures) test in
    none_more image candidate c.args.folder c.args.set.now (on (is_called image (name_of candidate)) (sym same ∙ named))
