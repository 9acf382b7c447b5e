use Rattle.std.proofs.Common.{rules}
use Rattle.jm_bytes.proofs.ResultLaws.{passed_on}
use Rattle.jm_outside.specs.declared.streams.SinkError.TheVariants as sink_error
use Rattle.jm_inspect.proofs.ListingLaws.{listed}
use Rattle.jm_inspect.proofs.PieceLaws.{broken, last_put, puts_so, puts_text, unput}
use Rattle.jm_inspect.proofs.listing.put_taken.Goals as goal

pub returns-in_err-entries : goal.returns-in_err-entries
returns-in_err-entries g c b file = rw (passed_on c.from_residual.result sink_error.Memory c.from_residual.ensures.1) unput

pub returns-in_err-put_lines : goal.returns-in_err-put_lines
returns-in_err-put_lines g c b file =
    let took = rw c.as_index.ensures at c.in_ok-entries.ensures in
    let text = listed c.args.image.now.front.length b c.args.include.now c.in_ok-entries.entries file.length_is (took.taken b file) took.within in
    rw (passed_on c.from_residual-in_err-put_lines.result c.in_err-put_lines.field-0.0 c.from_residual-in_err-put_lines.ensures.1)
    (puts_text text (puts_so (broken c.new-held.ensures.items (rw c.as_slice.ensures at c.in_err-put_lines.ensures)) (search rules)))

pub returns : goal.returns
returns g c b file =
    let took = rw c.as_index.ensures at c.in_ok-entries.ensures in
    let text = listed c.args.image.now.front.length b c.args.include.now c.in_ok-entries.entries file.length_is (took.taken b file) took.within in
    puts_text text (puts_so (last_put c.new-held.ensures.items (rw c.as_slice.ensures at c.in_ok-put_lines.ensures) c.put_held.ensures.puts)
    (search rules))
