use Rattle.std.proofs.Common.{List, ℕ, sym, ◌∙◌}
use Rattle.std.specs.List.{list_any}
use Rattle.std.specs.Str.{bytes_eq}
use Rattle.jm_packages.specs.PackageNames.{is_space, java_words}
use Rattle.jm_packages.proofs.PartLaws.{any_here, any_last, any_later}
use Rattle.jm_packages.proofs.names.is_java_word.Goals as goal

pub returns-then-eq : goal.returns-then-eq
returns-then-eq c =
    let test = λ (word : List ℕ). bytes_eq c.args.text.now word in
    any_here is_space c.loop-word.rest.now c.in-Some.word.now c.in-Some.behind.now c.in-Some.ensures.found c.in-Some.ensures.before
    c.in-Some.ensures.after test (list_any test java_words) c.loop-word.invariant (sym c.eq.ensures ∙ c.if-eq.true)

pub loop-word-preserved : goal.loop-word-preserved
loop-word-preserved c =
    let test = λ (word : List ℕ). bytes_eq c.args.text.now word in
    any_later is_space c.loop-word.rest.now c.in-Some.word.now c.in-Some.behind.now c.in-Some.ensures.found c.in-Some.ensures.before
    c.in-Some.ensures.after test (list_any test java_words) c.loop-word.invariant (sym c.eq.ensures ∙ c.if-eq.false)

pub returns : goal.returns
returns c =
    let test = λ (word : List ℕ). bytes_eq c.args.text.now word in
    c.eq-2.ensures ∙ any_last is_space c.loop-word.rest.now c.in_default.ensures.none test (list_any test java_words)
    c.loop-word.invariant
