-- The front of the strings in which texts end (this project's rule).
use Rattle.std.specs.Prelude.{ℕ, List, take}
use Rattle.jm_form.specs.Texts.{ended_length}

-- the front up to and with the last zero byte
abbrev pub ended_texts : List ℕ → List ℕ
ended_texts section = take (ended_length section) section
