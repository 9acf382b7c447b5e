use Rattle.std.proofs.Common.{Some, ap, option_map, sym, take, ◌∙◌}
use Rattle.std.proofs.lemmas.List.{take_all}
use Rattle.jm_closure.specs.Holders.{besides}
use Rattle.jm_closure.proofs.HolderLaws.{besides_more, noted_again, noted_first, noted_twice}
use Rattle.jm_closure.proofs.split.note.Goals as goal
use Rattle.jm_closure.proofs.split.note.Goals.{in-None+in_ok-put-in-None, in-Some+then-holder-place, in-Some+else-holder-place}

pub loop-package-preserved : goal.loop-package-preserved
loop-package-preserved c = λ pairs noted.
    let before = besides pairs c.args.place (take c.loop-package.package-index c.args.packages.now) in
    let now = c.loop-package.invariant pairs noted in
    rw (besides_more pairs c.args.place c.args.packages.now c.loop-package.package-index c.package-item.result
    c.loop-package-test.true c.package-item.is)
    (elim c.match-get.branch [
      | in-None+in_ok-put-in-None w ↦ rw (w.holders-is, w.least-is)
          (noted_first before c.args.place c.package-item.result c.loop-package.holders w.put.new.self
          (option_map (λ x. x.now) c.loop-package.least)
          (rw c.as_slice-package.ensures at (sym c.get.ensures ∙ w.in-None.is))
          (rw c.as_slice-package.ensures at w.in_ok-put-in-None.ensures.ok) now)
      | in-Some+then-holder-place w ↦ rw (w.holders-is, w.least-is, w.lesser-least.ensures, c.as_slice-package.ensures)
          (noted_twice before c.args.place c.package-item.result c.loop-package.holders
          (option_map (λ x. x.now) c.loop-package.least) w.in-Some.holder
          (rw c.as_slice-package.ensures at (sym c.get.ensures ∙ w.in-Some.is)) w.if-holder-place.true now)
      | in-Some+else-holder-place w ↦ rw (w.holders-is, w.least-is)
          (noted_again before c.args.place c.package-item.result c.loop-package.holders
          (option_map (λ x. x.now) c.loop-package.least)
          (rw c.as_slice-package.ensures at (sym c.get.ensures ∙ w.in-Some.is ∙ ap (λ p. Some p) w.if-holder-place.false)) now)
    ])

pub returns : goal.returns
returns c = λ pairs noted.
    let all = take_all c.loop-package.package-index c.args.packages.now c.loop-package-test.false in
    rw all at (c.loop-package.invariant pairs noted)
