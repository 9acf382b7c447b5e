use Rattle.std.proofs.Common.{◌≡◌, ℕ, List, ◌++◌, ◌∙◌, ap, sym}
use Rattle.jm_commands.specs.HelpText.{help_text, statuses_text}
use Rattle.jm_commands.proofs.help.help_command.Goals as goal

pub returns : goal.returns
returns g c =
    let text : c.as_slice.result.now ≡ help_text
    = c.as_slice.ensures ∙ c.in_ok-extend.ensures.ok ∙ ap (λ (front : List ℕ). front ++ statuses_text) c.in_ok-text.ensures in
    rw (sym text) c.put_output.ensures
