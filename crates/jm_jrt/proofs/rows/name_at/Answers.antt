use Rattle.std.proofs.Common.{◌≡◌, ◌∙◌, ℕ, List, sym, ap, arith, rules}
use Rattle.std.proofs.lemmas.Bool.{false≢true}
use Rattle.jm_form.specs.declared.container.Header.{Header}
use Rattle.jm_form.specs.Entries.{row_at_place, spelled_row}
use Rattle.jm_form.specs.Places.{strings}
use Rattle.jm_reader.specs.Look.{head}
use Rattle.jm_reader.proofs.HeadLaws.{head_is}
use Rattle.jm_jrt.specs.Told.{row_told}
use Rattle.jm_jrt.proofs.PairLaws.{child_at}
use Rattle.jm_jrt.proofs.rows.name_at.Goals as goal

-- a place in the front of an index, by the header that stands there
row_there : (b front : List ℕ) (h : Header) (place there : ℕ) → front ≡ b → head b ≡ h → there ≡ place
    → spelled_row (row_at_place front h there) ≡ row_told b place
row_there b front h place there is at same = cc

strings_there : (b front : List ℕ) (h : Header) → front ≡ b → head b ≡ h → strings front h ≡ strings b (head b)
strings_there b front h is at = ap (λ x. strings x h) is ∙ ap (strings b) (sym at)

pub word-place-requires : goal.word-place-requires
word-place-requires g c =
    (child_at c.args.index.now.bytes c.args.content.now c.args.k c.requires.sound (omega arith)).fits

pub returns-in_err-row-clause-end : goal.returns-in_err-row-clause-end
returns-in_err-row-clause-end g c = search (rules, false≢true, head_is, child_at, row_there)

pub returns-in_err-pieces-clause-end : goal.returns-in_err-pieces-clause-end
returns-in_err-pieces-clause-end g c = search (rules, false≢true, head_is, child_at, row_there, strings_there)
