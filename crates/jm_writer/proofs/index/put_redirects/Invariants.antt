use Rattle.std.proofs.Common.{◌≡◌, ◌++◌, map, drop}
use Rattle.jm_form.specs.Greedy.{word_of}
use Rattle.jm_form.specs.Nodes.{words_text}
use Rattle.jm_writer.proofs.index.put_redirects.Given as goal

abbrev pub invariant-loop-redirect : goal.invariant-loop-redirect
invariant-loop-redirect l =
    l.text.items ++ words_text l.order (map word_of (drop l.redirect-index l.redirects))
    ≡ l.fn.text.items ++ words_text l.order (map word_of l.redirects)
