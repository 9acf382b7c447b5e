use Rattle.std.proofs.Common.{◌<◌, ◌∙◌, [], get_or, length, not, sym, ap, subst, arith, rules}
use Rattle.std.proofs.lemmas.List.{get_or_default}
use Rattle.std.proofs.lemmas.List.Sums.{prefix_len-le-length}
use Rattle.std.specs.List.{position_or_len}
use Rattle.jm_pattern.specs.ComputedMatching.{matches}
use Rattle.jm_pattern.specs.Indexing.{is_literal, IsIndexTo}
use Rattle.jm_pattern.proofs.IndexLaws.{failed_more, other_first, own_first}
use Rattle.jm_pattern.proofs.index.PatternIndex.first_match.Goals as goal

pub returns-then-number-found : goal.returns-then-number-found
returns-then-number-found c =
    let patterns = c.self.inside.patterns.now in
    let items = c.as_slice-number-items.result.now in
    let name = c.args.name.now in
    let index = subst (IsIndexTo (length patterns) patterns c.self.inside.literals) (sym c.as_slice-number-items.ensures) c.self.invariant in
    let found = c.first_literal-found.ensures ∙ ap (position_or_len (is_literal name)) (sym c.self.view_is) in
    found ∙ own_first patterns c.self.inside.literals items name index c.loop-number.number-index c.loop-number.invariant
    (λ below. omega (arith, c.if-number-found.true, found)) ∙ ap (position_or_len (λ p. matches p name)) c.self.view_is

pub bounds-self-inside-number : goal.bounds-self-inside-number
bounds-self-inside-number c =
    let patterns = c.self.inside.patterns.now in
    let name = c.args.name.now in
    let found = c.first_literal-found.ensures ∙ ap (position_or_len (is_literal name)) (sym c.self.view_is) in
    let within = prefix_len-le-length (λ p. not (is_literal name p)) patterns in
    omega (arith, c.if-number-found.false, found, within)

pub offset_bounds-self-inside-number : goal.offset_bounds-self-inside-number
offset_bounds-self-inside-number c =
    let patterns = c.self.inside.patterns.now in
    let name = c.args.name.now in
    let found = c.first_literal-found.ensures ∙ ap (position_or_len (is_literal name)) (sym c.self.view_is) in
    let within = prefix_len-le-length (λ p. not (is_literal name p)) patterns in
    let bound : get_or c.as_slice-number-items.result.now c.loop-number.number-index 0 < length patterns =
    omega (arith, c.if-number-found.false, found, within) in
    search (rules, bound)

pub returns-then-matches : goal.returns-then-matches
returns-then-matches c =
    let patterns = c.self.inside.patterns.now in
    let items = c.as_slice-number-items.result.now in
    let name = c.args.name.now in
    let number = get_or items c.loop-number.number-index 0 in
    let index = subst (IsIndexTo (length patterns) patterns c.self.inside.literals) (sym c.as_slice-number-items.ensures) c.self.invariant in
    let found = c.first_literal-found.ensures ∙ ap (position_or_len (is_literal name)) (sym c.self.view_is) in
    let within = prefix_len-le-length (λ p. not (is_literal name p)) patterns in
    let pattern = c.index-self-number.result in
    let here = get_or_default patterns number [] pattern (omega (arith, c.if-number-found.false, found, within)) in
    other_first patterns c.self.inside.literals items name index c.loop-number.number-index c.loop-number.invariant
    (omega (arith, c.if-number-found.false, found)) (ap (λ p. matches p name) here ∙ sym c.matches.ensures.value ∙ c.if-matches.true)
    ∙ ap (position_or_len (λ p. matches p name)) c.self.view_is

pub loop-number-preserved : goal.loop-number-preserved
loop-number-preserved c =
    let patterns = c.self.inside.patterns.now in
    let items = c.as_slice-number-items.result.now in
    let name = c.args.name.now in
    let number = get_or items c.loop-number.number-index 0 in
    let found = c.first_literal-found.ensures ∙ ap (position_or_len (is_literal name)) (sym c.self.view_is) in
    let within = prefix_len-le-length (λ p. not (is_literal name p)) patterns in
    let pattern = c.index-self-number.result in
    let here = get_or_default patterns number [] pattern (omega (arith, c.if-number-found.false, found, within)) in
    failed_more patterns items name c.loop-number.number-index c.loop-number.invariant (ap (λ p. matches p name) here
    ∙ sym c.matches.ensures.value ∙ c.if-matches.false)

pub returns : goal.returns
returns c =
    let patterns = c.self.inside.patterns.now in
    let items = c.as_slice-number-items.result.now in
    let name = c.args.name.now in
    let index = subst (IsIndexTo (length patterns) patterns c.self.inside.literals) (sym c.as_slice-number-items.ensures) c.self.invariant in
    let found = c.first_literal-found.ensures ∙ ap (position_or_len (is_literal name)) (sym c.self.view_is) in
    found ∙ own_first patterns c.self.inside.literals items name index c.loop-number.number-index c.loop-number.invariant
    (λ below. omega (arith, c.loop-number-test.false, below)) ∙ ap (position_or_len (λ p. matches p name)) c.self.view_is
