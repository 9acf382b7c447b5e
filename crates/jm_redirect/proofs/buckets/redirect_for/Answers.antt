use Rattle.std.proofs.Common.{◌≡◌, ◌++◌, ◌<◌, ℕ, List, length, map, sym, subst, arith}
use Rattle.std.proofs.lemmas.List.{length-map}
use Rattle.jm_redirect.specs.Marks.{Marks}
use Rattle.jm_redirect.proofs.FreeSlotLaws.{led_single}
use Rattle.jm_redirect.proofs.buckets.redirect_for.Goals as goal

pub returns-in_ok-least_free-clause-marks : goal.returns-in_ok-least_free-clause-marks
returns-in_ok-least_free-clause-marks c = λ before marks.
    let slot = c.in_ok-least_free.field-0 in
    let names : List (List ℕ) = map (λ name. name.now) c.args.names.now in
    let one : length names ≡ 1 = simp length-map c.if-names-eq1.true in
    let below : slot < c.args.slots = omega (arith, c.in_ok-least_free.ensures.below) in
    let led = led_single c.args.slots slot names below one in
    subst (λ l. Marks c.least_free.new.taken (l ++ before)) (sym led) (c.in_ok-least_free.ensures.marks before marks)
