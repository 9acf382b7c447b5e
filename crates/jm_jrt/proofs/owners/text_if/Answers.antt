use Rattle.std.proofs.Common.{◌≡◌, Bool, true, false, is_some, refl, sym, rules}
use Rattle.std.specs.Bool.{then_some}
use Rattle.std.proofs.lemmas.Bool.{false≢true}
use Rattle.std.proofs.lemmas.Slice.Eq.{bytes_eq-Decides}
use Rattle.std.specs.Str.{bytes_eq}
use Rattle.jm_jrt.proofs.EndLaws.{other_text, text_looked}
use Rattle.jm_jrt.proofs.owners.text_if.Goals as goal

some_if : {A : Type 0} (test : Bool) (x : A) → is_some (then_some test x) ≡ test
some_if true x = refl
some_if false x = refl

pub returns-in_err-part-clause-found : goal.returns-in_err-part-clause-found
returns-in_err-part-clause-found g c = search (rules, other_text)

pub returns-then-not-ended-clause-found : goal.returns-then-not-ended-clause-found
returns-then-not-ended-clause-found g c = search (rules, false≢true, bytes_eq-Decides, other_text)

pub returns-in_err-text-clause-found : goal.returns-in_err-text-clause-found
returns-in_err-text-clause-found g c = search (rules, false≢true, other_text)

pub returns-clause-found : goal.returns-clause-found
returns-clause-found g c =
    let text = text_looked _ c.args.place _ c.in_ok-part.part.now c.in_ok-text.text.now c.in_ok-part.ensures.part c.in_ok-text.ensures.ends
    c.in_ok-text.ensures.text in
    rw (c.then_some.ensures, c.eq.ensures, sym text) (some_if (bytes_eq c.args.asked.now c.in_ok-text.text.now) c.in_ok-text.text)
