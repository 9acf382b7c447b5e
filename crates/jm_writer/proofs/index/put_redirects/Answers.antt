use Rattle.std.proofs.Common.{◌+◌, ◌++◌, map, drop, ap, ◌∙◌, arith}
use Rattle.jm_bytes.specs.Word.{word_bytes}
use Rattle.jm_form.specs.Greedy.{word_of}
use Rattle.jm_form.specs.Nodes.{words_text}
use Rattle.jm_form.specs.declared.table.Redirect.TheVariants.{Nowhere}
use Rattle.jm_writer.proofs.LayoutLaws.{word_put}
use Rattle.jm_writer.proofs.index.put_redirects.Goals as goal

pub loop-redirect-preserved : goal.loop-redirect-preserved
loop-redirect-preserved c =
    let redirects = c.args.redirects.now in
    let i = c.loop-redirect.redirect-index in
    let text = c.loop-redirect.text.items in
    ap (λ l. l ++ words_text c.args.order (map word_of (drop (i + 1) redirects)))
    (c.in_ok-extend.ensures.ok ∙ ap (λ b. text ++ b) (c.put_word.ensures.bytes ∙ ap (word_bytes c.args.order) c.word_of.ensures))
    ∙ word_put c.args.order word_of redirects i Nowhere text (omega arith) ∙ c.loop-redirect.invariant
