use Rattle.std.proofs.Common.{[], Ok, ◌++◌, ◌∙◌, append-nil, ap, refl, sym}
use Rattle.jm_bytes.proofs.ResultLaws.{passed_on}
use Rattle.jm_jrt.specs.Reply.{held_lines}
use Rattle.jm_outside.specs.declared.streams.SinkError.TheVariants as sink_error
use Rattle.jm_inspect.proofs.PieceLaws.{broken, front_cut, front_put, last_put, no_child, none_passed, passed_then}
use Rattle.jm_inspect.proofs.ls.put_children.Goals as goal

pub returns-in_err-extend_next_children : goal.returns-in_err-extend_next_children
returns-in_err-extend_next_children g c =
    rw (passed_on c.from_residual.result sink_error.Memory c.from_residual.ensures.1)
    (broken refl (passed_then c.loop-text.invariant.left (none_passed {held = []})))

pub loop-text-preserved : goal.loop-text-preserved
loop-text-preserved g c =
    let before = c.loop-text.invariant in
    let added = c.in_ok-extend_next_children.ensures in
    let lines = added.lines ∙ ap (λ l. l ++ held_lines c.args.path.now c.loop-text.list.rest) before.empty in
    let put = c.in_ok-put_piece.ensures in record {
      bytes = added.reads.bytes ∙ before.bytes ∙ sym added.bytes;
      empty = put.emptied;
      left = passed_then before.left (front_put (held_lines c.args.path.now c.extend_next_children.new.list.rest) put.puts (sym lines) refl refl);
    }

pub returns-in_err-put_piece : goal.returns-in_err-put_piece
returns-in_err-put_piece g c =
    let before = c.loop-text.invariant in
    let lines = c.in_ok-extend_next_children.ensures.lines ∙ ap
    (λ l. l ++ held_lines c.args.path.now c.loop-text.list.rest) before.empty in
    rw (passed_on c.from_residual-in_err-put_piece.result c.in_err-put_piece.field-0.0
    c.from_residual-in_err-put_piece.ensures.1)
    (front_cut (held_lines c.args.path.now c.extend_next_children.new.list.rest) refl before.left (sym lines) c.in_err-put_piece.ensures.puts)

pub returns : goal.returns
returns g c =
    let before = c.loop-text.invariant in
    let added = c.in_ok-extend_next_children.ensures in
    let path = c.args.path.now in
    let text = c.extend_next_children.new.text.items in
    let none = no_child path c.extend_next_children.new.list.rest (added.end (ap (λ b. Ok b) c.if-branch.false)) in
    let lines = sym (added.lines ∙ ap (λ l. l ++ held_lines path c.loop-text.list.rest) before.empty) in
    let last = lines ∙ ap (λ l. text ++ l) none ∙ append-nil text ∙ sym c.as_slice.ensures.value in
    let put = c.put.ensures in
    last_put refl (rw last at before.left) (record { all = put.ok; front = put.err; faults = put.faults })
