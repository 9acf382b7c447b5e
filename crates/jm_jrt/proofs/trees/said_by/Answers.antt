use Rattle.std.proofs.Common.{Ok, sym, ap, ◌∙◌}
use Rattle.jm_bytes.proofs.ResultLaws.{passed_on}
use Rattle.jm_jrt.specs.declared.words.Form.TheVariants as form
use Rattle.jm_form.specs.TreeView.{Link}
use Rattle.jm_jrt.specs.Standings.{standing_as}
use Rattle.jm_jrt.specs.Stat.{folder}
use Rattle.jm_jrt.specs.Told.{all_told, children_told, owners_told}
use Rattle.jm_jrt.proofs.StandingLaws.{folder_of, linked, no_slash_no_node, owners_refused}
use Rattle.jm_jrt.proofs.StandingLaws.{said_children, said_owners, stat_said}
use Rattle.jm_jrt.proofs.LinkLaws.{link_none, link_some}
use Rattle.jm_jrt.proofs.trees.said_by.Goals as goal

pub returns-in_err-check-clause-item : goal.returns-in_err-check-clause-item
returns-in_err-check-clause-item g c = λ b file node.
    let path = c.args.path.now in
    let content = c.args.content.now in
    let has = sym c.has_children.ensures ∙ c.if-has_children.true in
    ap (standing_as b) (passed_on c.from_residual.result c.in_err-check.field-0.0 c.from_residual.ensures.1)
    ∙ ap folder (c.in_err-check.ensures.told b file) ∙ sym (stat_said b path content node ∙ said_children b path content has)

pub returns-then-has_children-clause-item : goal.returns-then-has_children-clause-item
returns-then-has_children-clause-item g c = λ b file node.
    let path = c.args.path.now in
    let content = c.args.content.now in
    let has = sym c.has_children.ensures ∙ c.if-has_children.true in
    folder_of (all_told c.args.index.now.bytes content form.Children) c.of.result.rest (children_told b content) c.of.ensures.rest
    (c.in_ok-check.ensures.told b file) ∙ sym (stat_said b path content node ∙ said_children b path content has)

pub returns-in_err-check-2-clause-item : goal.returns-in_err-check-2-clause-item
returns-in_err-check-2-clause-item g c = λ b file node.
    let path = c.args.path.now in
    let content = c.args.content.now in
    let other = sym c.has_children.ensures ∙ c.if-has_children.false in
    let result = c.from_residual-in_err-check-2.result in
    let error = c.in_err-check-2.field-0.0 in
    ap (standing_as b) (passed_on result error c.from_residual-in_err-check-2.ensures.1)
    ∙ owners_refused b path content error other (c.in_err-check-2.ensures.told b file) ∙ sym (stat_said b path content node)

pub returns-then-is_package-clause-item : goal.returns-then-is_package-clause-item
returns-then-is_package-clause-item g c = λ b file node.
    let path = c.args.path.now in
    let content = c.args.content.now in
    let other = sym c.has_children.ensures ∙ c.if-has_children.false in
    let pack = sym c.is_package.ensures ∙ c.if-is_package.true in
    folder_of (all_told c.args.index.now.bytes content form.Owners) c.of-then-is_package.result.rest (owners_told b content)
    c.of-then-is_package.ensures.rest (c.in_ok-check-2.ensures.told b file) ∙ sym (stat_said b path content node
    ∙ said_owners b path content other pack)

pub returns-in_default-clause-item : goal.returns-in_default-clause-item
returns-in_default-clause-item g c = λ b file node.
    let other = sym c.has_children.ensures ∙ c.if-has_children.false in
    let pack = sym c.is_package.ensures ∙ c.if-is_package.false in
    absurd (no_slash_no_node b c.args.path.now c.args.content.now other pack c.in_default.ensures.none node)

pub returns-in-None-clause-item : goal.returns-in-None-clause-item
returns-in-None-clause-item g c = λ b file node.
    sym (link_none c.in-Some.module.now _ (sym c.in-None.ensures.found))
    ∙ linked b c.args.path.now c.args.content.now c.in-Some.module.now _ (sym c.has_children.ensures ∙ c.if-has_children.false)
    (sym c.is_package.ensures ∙ c.if-is_package.false) c.in-Some.ensures.after (c.in_ok-check-2.ensures.told b file) node

pub returns-in-Some-find_owner-clause-item : goal.returns-in-Some-find_owner-clause-item
returns-in-Some-find_owner-clause-item g c = λ b file node.
    ap (λ n. Ok (Link n)) c.in-Some-find_owner.ensures.same
    ∙ sym (link_some c.in-Some.module.now _ (sym c.in-Some-find_owner.ensures.found))
    ∙ linked b c.args.path.now c.args.content.now c.in-Some.module.now _ (sym c.has_children.ensures ∙ c.if-has_children.false)
    (sym c.is_package.ensures ∙ c.if-is_package.false) c.in-Some.ensures.after (c.in_ok-check-2.ensures.told b file) node
