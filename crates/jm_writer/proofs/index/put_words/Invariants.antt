use Rattle.std.proofs.Common.{◌≡◌, ◌++◌, drop}
use Rattle.jm_form.specs.Nodes.{words_text}
use Rattle.jm_writer.proofs.index.put_words.Given as goal

abbrev pub invariant-loop-word : goal.invariant-loop-word
invariant-loop-word l =
    l.text.items ++ words_text l.order (drop l.word-index l.words) ≡ l.fn.text.items ++ words_text l.order l.words
