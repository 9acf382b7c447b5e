use Rattle.std.proofs.Common.{arith, ◌≡◌, ◌==◌, ◌≤◌, false, ap, drop, drop-drop, length, not, sym, take, ◌+◌, ◌∙◌}
use Rattle.std.specs.List.{before_first, list_any}
use Rattle.jm_valid.proofs.PassageLaws.{long_stretch}
use Rattle.jm_valid.proofs.passages.has_long_text.Goals as goal

pub returns-then-is_none : goal.returns-then-is_none
returns-then-is_none c _ =
    let bytes = c.loop-rest.rest.now in
    let none : list_any (λ x. x == 0) (take 512 bytes) ≡ false = ap (list_any (λ x. x == 0)) (sym c.split_at.ensures.front)
    ∙ sym c.front.ensures.ends ∙ c.is_none.ensures ∙ ap not c.if-is_none.true in
    let within : 512 ≤ length bytes = omega (arith, c.split_at.ensures.front_len) in
    let long = long_stretch bytes 512 within none in
    let same : length (before_first (λ x. x == 0) (drop c.loop-rest.invariant.0 c.args.texts.now))
    ≡ length (before_first (λ x. x == 0) bytes) = ap (λ l. length (before_first (λ x. x == 0) l)) (sym c.loop-rest.invariant.1) in
    (c.loop-rest.invariant.0, omega (arith, long, same))

pub loop-rest-preserved : goal.loop-rest-preserved
loop-rest-preserved c = (
  c.loop-rest.invariant.0 + 512,
  c.split_at.ensures.back ∙ ap (drop 512) c.loop-rest.invariant.1
      ∙ drop-drop 512 c.loop-rest.invariant.0 c.args.texts.now,
)
