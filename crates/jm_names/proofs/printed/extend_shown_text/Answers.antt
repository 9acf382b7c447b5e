use Rattle.std.proofs.Common.{sym}
use Rattle.jm_names.proofs.ShownLaws.{shown_same}
use Rattle.jm_names.proofs.printed.extend_shown_text.Goals as goal

pub returns-then-not-has_control : goal.returns-then-not-has_control
returns-then-not-has_control c =
    rw (shown_same c.args.bytes.now (sym c.if-not-has_control.ensures)) c.extend.ensures.ok
