use Rattle.std.proofs.Common.{◌+◌, ◌∷◌, [], ◌∙◌, sym, arith, map, take}
use Rattle.std.proofs.lemmas.List.{map-append, take_all}
use Rattle.jm_archive.specs.Cuts.{candidate_of}
use Rattle.jm_archive.proofs.BestLaws.{so_far_all}
use Rattle.jm_archive.proofs.ChoiceLaws.{next_pushed, next_greater, next_kept}
use Rattle.jm_archive.proofs.choice.best_of_each.Goals as goal
use Rattle.jm_archive.proofs.choice.best_of_each.Goals.{then-ne+in_ok-push, else-ne+then-last-cut, else-ne+else-last-cut}

pub loop-cut-preserved : goal.loop-cut-preserved
loop-cut-preserved c =
    let cuts = c.args.cuts.now in
    let later = c.in-Some.later.now in
    let best = c.loop-cut.best in
    let last = c.loop-cut.last in
    let is = c.in-Some.ensures.cases.0 in
    elim c.if-ne.branch [
      | then-ne+in_ok-push w ↦
          next_pushed cuts later best _ last _ c.loop-cut.cut-index c.requires is c.loop-cut-test.true c.loop-cut.invariant
          c.if-ne.best c.if-ne.last (sym c.ne.ensures ∙ w.if-ne.true) (w.best-is ∙ w.in_ok-push.ensures.ok) w.last-is
      | else-ne+then-last-cut w ↦ rw w.best-is
          (next_greater cuts later best _ last _ c.loop-cut.cut-index c.requires is c.loop-cut-test.true c.loop-cut.invariant
          c.if-ne.last (sym c.ne.ensures ∙ w.if-ne.false) w.if-last-cut.true w.last-is)
      | else-ne+else-last-cut w ↦ rw (w.best-is, w.last-is)
          (next_kept cuts later best _ last _ c.loop-cut.cut-index c.requires is c.loop-cut-test.true c.loop-cut.invariant
          (sym c.ne.ensures ∙ w.if-ne.false) w.if-last-cut.false)
    ]

pub returns : goal.returns
returns c =
    let cuts = c.args.cuts.now in
    let all = so_far_all (map candidate_of (take (c.loop-cut.cut-index + 1) cuts)) (map candidate_of c.loop-cut.best)
    (candidate_of c.loop-cut.last) c.loop-cut.invariant
    in
    rw (
      c.in_ok-push-2.ensures.ok,
      map-append candidate_of c.loop-cut.best (c.loop-cut.last ∷ []),
      ← take_all (c.loop-cut.cut-index + 1) cuts (omega (arith, c.loop-cut-test.false, c.in-Some.ensures.cases.1)),
    ) all
