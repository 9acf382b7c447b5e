use Rattle.std.proofs.Common.{None, Some, sym}
use Rattle.jm_closure.proofs.JudgeLaws.{least_holding, least_shared}
use Rattle.jm_closure.proofs.RefusalLaws.{other_holder, some_holder, splits_at}
use Rattle.jm_closure.proofs.split.split.Goals as goal

pub returns-in_default-clause-none : goal.returns-in_default-clause-none
returns-in_default-clause-none c =
    least_shared c.args.found.now c.args.chosen.now None c.requires.differ (rw c.in_default.is at c.in_ok-package.ensures)

pub returns-in_default-least_holder-clause-none : goal.returns-in_default-least_holder-clause-none
returns-in_default-least_holder-clause-none c =
    let shared = c.in-Some.«package».now in
    let least = least_shared c.args.found.now c.args.chosen.now (Some shared) c.requires.differ
    (rw c.in-Some.is at c.in_ok-package.ensures) in
    absurd (some_holder c.args.found.now c.args.chosen.now shared least.0
    (rw (sym c.in_default-least_holder.ensures) at (least_holding c.args.found.now c.args.chosen.now shared None)))

pub returns-in_default-least_holder-2-clause-none : goal.returns-in_default-least_holder-2-clause-none
returns-in_default-least_holder-2-clause-none c =
    let shared = c.in-Some.«package».now in
    let first = c.in-Some-least_holder.first.now in
    let least = least_shared c.args.found.now c.args.chosen.now (Some shared) c.requires.differ
    (rw c.in-Some.is at c.in_ok-package.ensures) in
    absurd (other_holder c.args.found.now c.args.chosen.now shared first least.0
    (rw (sym c.in_default-least_holder-2.ensures) at (least_holding c.args.found.now c.args.chosen.now shared (Some first))))

pub returns-clause-some : goal.returns-clause-some
returns-clause-some c =
    let shared = c.in-Some.«package».now in
    let first = c.in-Some-least_holder.first.now in
    let second = c.in-Some-least_holder-2.second.now in
    let least = least_shared c.args.found.now c.args.chosen.now (Some shared) c.requires.differ
    (rw c.in-Some.is at c.in_ok-package.ensures) in
    splits_at c.args.found.now c.args.chosen.now shared first second least
    (rw (sym c.in-Some-least_holder.ensures) at (least_holding c.args.found.now c.args.chosen.now shared None))
    (rw (sym c.in-Some-least_holder-2.ensures) at (least_holding c.args.found.now c.args.chosen.now shared (Some first)))
