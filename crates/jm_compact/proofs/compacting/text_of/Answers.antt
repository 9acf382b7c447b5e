use Rattle.std.proofs.Common.{◌≡◌, Some, None, sym, ap, ◌∙◌, option_map}
use Rattle.std.proofs.lemmas.Result.{IfOk-weaker}
use Rattle.jm_class.specs.Views.{plain}
use Rattle.jm_poolmap.specs.Sites.{sites_of}
use Rattle.jm_compact.specs.Compact.{Smaller, Whole}
use Rattle.jm_compact.proofs.WholeText.{rule_only}
use Rattle.jm_compact.proofs.compacting.text_of.Goals as goal

pub put_class-requires-clause-sites : goal.put_class-requires-clause-sites
put_class-requires-clause-sites c = sym c.in_ok-known.ensures.sites ∙ ap (option_map (λ m. m.sites)) c.in-Some.is

pub put_class-requires-clause-live : goal.put_class-requires-clause-live
put_class-requires-clause-live c = rw c.in-Some.is at c.in_ok-known.ensures.live

pub returns-in-Some : goal.returns-in-Some
returns-in-Some c =
    let sites : sites_of (plain c.args.class.now) ≡ Some c.in-Some.known.sites = sym c.in_ok-known.ensures.sites
    ∙ ap (option_map (λ m. m.sites)) c.in-Some.is in
    let live = rw c.in-Some.is at c.in_ok-known.ensures.live in
    IfOk-weaker c.put_class.result _ _
    (λ text is. rule_only (plain c.args.class.now) c.requires.reads.well_formed text
    (Smaller c.in-Some.known.sites c.in-Some.known.live sites live is))
    c.put_class.ensures

pub returns-in-None : goal.returns-in-None
returns-in-None c =
    let none : sites_of (plain c.args.class.now) ≡ None = sym c.in_ok-known.ensures.sites
    ∙ ap (option_map (λ m. m.sites)) c.in-None.is in
    IfOk-weaker c.copy_of.result _ _
    (λ text is. rule_only (plain c.args.class.now) c.requires.reads.well_formed text (Whole none (is ∙ sym c.requires.reads.text)))
    c.copy_of.ensures
