use Rattle.std.proofs.Common.{◌≡◌, ◌∙◌, refl, sym, length, arith}
use Rattle.std.proofs.lemmas.Bool.{false≢true}
use Rattle.jm_closure.proofs.NameLaws.{all_differ, found_at, index_new, not_different}
use Rattle.jm_closure.proofs.names.names_differ.Goals as goal

pub loop-place-preserved : goal.loop-place-preserved
loop-place-preserved c =
    index_new c.args.found.now c.loop-place.names c.put.new.self c.loop-place.place c.index-found-place.result
    (rw c.as_slice-name.ensures at (sym c.get.ensures ∙ c.in-None.is))
    (found_at c.args.found.now c.loop-place.place c.index-found-place.result c.loop-place-test.true c.index-found-place.is)
    (rw c.as_slice-name.ensures at c.in_ok-put-in-None.ensures.ok) c.loop-place.invariant

pub returns : goal.returns
returns c =
    let all : c.loop-place.place ≡ length c.args.found.now = omega arith in
    ((λ is. all_differ c.args.found.now c.loop-place.names (rw all at c.loop-place.invariant)), λ differ. refl)

pub returns-in-Some : goal.returns-in-Some
returns-in-Some c = (
  (λ is. absurd (false≢true is)),
  λ differ. absurd
      (not_different c.args.found.now c.loop-place.names c.loop-place.place c.in-Some.field-0 c.index-found-place.result
      c.loop-place.invariant
      (found_at c.args.found.now c.loop-place.place c.index-found-place.result c.loop-place-test.true c.index-found-place.is)
      (rw c.as_slice-name.ensures at (sym c.get.ensures ∙ c.in-Some.is)) differ),
)
