use Rattle.std.proofs.Common.{sym, ap, ◌∙◌, rules}
use Rattle.std.specs.Str.{bytes_eq}
use Rattle.jm_names.specs.Names.{is_node}
use Rattle.jm_jrt.specs.Stat as answers
use Rattle.jm_jrt.proofs.StandingLaws.{is_row_found, no_resource, no_row_found, stat_unsaid, unsaid_file, unsaid_inner}
use Rattle.jm_jrt.proofs.StandingLaws.{unsaid_other, unsaid_roots}
use Rattle.jm_jrt.proofs.trees.said_by_none.Goals as goal

pub returns-then-eq-clause-item : goal.returns-then-eq-clause-item
returns-then-eq-clause-item g c = search (rules, is_row_found, stat_unsaid, unsaid_roots)

pub returns-then-not-starts_with-clause-item : goal.returns-then-not-starts_with-clause-item
returns-then-not-starts_with-clause-item g c = λ b file node.
    let path = c.args.path.now in
    let slash = sym (c.eq.ensures ∙ ap (bytes_eq path) c.as_slice.ensures) ∙ c.if-eq.false in
    let inner = sym c.starts_with.ensures.value ∙ c.if-not-starts_with.true in
    unsaid_other b path slash inner ∙ sym (stat_unsaid b path c.header-header.result (c.header-header.ensures.valid b file).header node)

pub returns-then-is_node-clause-item : goal.returns-then-is_node-clause-item
returns-then-is_node-clause-item g c = λ b file node.
    let path = c.args.path.now in
    let slash = sym (c.eq.ensures ∙ ap (bytes_eq path) c.as_slice.ensures) ∙ c.if-eq.false in
    let inner = sym c.starts_with.ensures.value ∙ c.if-not-starts_with.false in
    let is = sym (c.is_node.ensures ∙ ap is_node c.split_at.ensures.back) ∙ c.if-is_node.true in
    no_resource b path is ∙ sym (stat_unsaid b path c.header-header.result (c.header-header.ensures.valid b file).header node
    ∙ unsaid_inner b path slash inner)

pub returns-in-None-clause-item : goal.returns-in-None-clause-item
returns-in-None-clause-item g c = λ b file node.
    ap answers.file (sym (no_row_found _ (c.in-None.ensures.found b file)))
    ∙ unsaid_file b c.args.path.now c.split_at.result.1.now c.header-header.result (c.header-header.ensures.valid b file).header node
    (sym (c.eq.ensures ∙ ap (bytes_eq c.args.path.now) c.as_slice.ensures) ∙ c.if-eq.false)
    (sym c.starts_with.ensures.value ∙ c.if-not-starts_with.false) c.split_at.ensures.back (sym c.is_node.ensures ∙ c.if-is_node.false)

pub returns-in-Some-clause-item : goal.returns-in-Some-clause-item
returns-in-Some-clause-item g c = λ b file node.
    ap answers.file (sym (c.in-Some.ensures.content b file))
    ∙ unsaid_file b c.args.path.now c.split_at.result.1.now c.header-header.result (c.header-header.ensures.valid b file).header node
    (sym (c.eq.ensures ∙ ap (bytes_eq c.args.path.now) c.as_slice.ensures) ∙ c.if-eq.false)
    (sym c.starts_with.ensures.value ∙ c.if-not-starts_with.false) c.split_at.ensures.back (sym c.is_node.ensures ∙ c.if-is_node.false)
