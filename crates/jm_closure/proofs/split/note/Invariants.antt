use Rattle.std.proofs.Common.{List, ℕ, take, option_map}
use Rattle.jm_closure.specs.Holders.{besides, Noted, Pairs}
use Rattle.jm_closure.proofs.split.note.Given as goal

abbrev pub invariant-loop-package : goal.invariant-loop-package
invariant-loop-package l =
    (pairs : List (ℕ × List ℕ)) → Noted (Pairs pairs) l.fn.holders (option_map (λ x. x.now) l.fn.least)
    → Noted (Pairs (besides pairs l.place (take l.package-index l.packages))) l.holders (option_map (λ x. x.now) l.least)
