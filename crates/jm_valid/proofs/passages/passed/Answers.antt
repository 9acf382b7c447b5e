use Rattle.std.proofs.Common.{◌≡◌, ℕ, ◌%◌, ◌<◌, get_or, ap, ◌∙◌, List, arith}
use Rattle.jm_names.specs.Hash.{state_after}
use Rattle.jm_valid.proofs.PassageLaws.{get_passage, passed_is}
use Rattle.jm_valid.proofs.passages.passed.Goals as goal

pub returns : goal.returns
returns c text bytes is =
    let s = c.args.state in
    let p = c.args.passage.now in
    let read : (l : ℕ) → l < 257 → get_or p l 0 ≡ state_after l text = λ l below. ap (λ (q : List ℕ). get_or q l 0) is
    ∙ get_passage text l below in
    let first = read 0 (omega arith) in
    let last = read 256 (omega arith) in
    let low = read (s % 256) (omega arith) in
    rw (low, last, first) (passed_is text s _ (omega arith) bytes (omega (arith, first, last)) (omega (arith, first)))
