-- What `cat` puts of an image (this project's rule).
use Rattle.std.specs.Prelude.{ℕ, ◌≡◌, true, false, Bool, List, [], Option, Some, None, is_some}
use Rattle.std.specs.Prelude.{Result, Ok, IfOk, OnOk, OnErr, IsOk, IsErrOf}
use Rattle.jm_form.specs.declared.rows.Row.{Row}
use Rattle.jm_outside.specs.Outcome.{CountsFaults}
use Rattle.jm_outside.specs.declared.streams.SinkError.{SinkError}
use Rattle.jm_outside.specs.declared.streams.SinkError.TheVariants as sink_error
use Rattle.jm_inspect.specs.Sinks.{Seen, Gets, GetsFront}

-- the content of what a look-up found
abbrev pub content_of : Option (Row × List ℕ) → List ℕ
content_of None = []
content_of (Some found) = found.1

-- the answer says whether there is an entry, and its content was put; where the put failed, there
-- is one, and a prefix of its content was put, or nothing of it after want of memory
pub record CatDoes (found : Option (Row × List ℕ)) (answer : Result Bool SinkError)
    (out new_out : Seen (List ℕ)) : Type 0 where
  pub there : IfOk answer (λ there. there ≡ is_some found)
  pub put : OnOk answer (Gets (content_of found) out new_out)
  pub nothing : answer ≡ Ok false → new_out.told ≡ out.told
  pub front : OnErr answer (GetsFront (content_of found) out new_out)
  pub an_entry : OnErr answer (is_some found ≡ true)
  pub memory : IsErrOf answer sink_error.Memory → new_out.told ≡ out.told
  pub faults : CountsFaults out.faults new_out.faults (IsOk answer)
      (IsErrOf answer sink_error.Failed)
