use Rattle.std.proofs.Common.{refl}
use Rattle.std.proofs.lemmas.Bool.{eq-eqb, ne_eqb}
use Rattle.jm_class.specs.Classes.{magic}
use Rattle.jm_class.proofs.Stops.{reads_stop}
use Rattle.jm_class.proofs.reading.magic.Goals as goal

pub returns-in_err-found : goal.returns-in_err-found
returns-in_err-found c =
    reads_stop (λ n. n) (λ n. n) _ _ c.in_err-found.field-0.0 c.from_residual.result c.number32.new.cursor c.number32.new.cursor
    c.from_residual.ensures.1 c.in_err-found.ensures
    (λ fault stops. rw stops refl)

pub returns-then-found : goal.returns-then-found
returns-then-found c = rw (c.in_ok-found.ensures, ne_eqb c.in_ok-found.found magic c.if-found.true) refl

pub returns : goal.returns
returns c = rw (c.in_ok-found.ensures, eq-eqb c.in_ok-found.found magic c.if-found.false) refl
