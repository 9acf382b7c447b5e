-- How a program knows where the reply to a line of a session ends: by the verb that it asked with
-- and by the first line of the reply (this project's rule).
use Rattle.std.specs.Prelude.{ℕ, ◌≡◌, ◌⊎◌, true, false, List, ◌++◌, All, length, codes, flat_map}
use Rattle.jm_names.specs.Shown.{StaysInLine}
use Rattle.jm_jrt.specs.Reply.{has_verb, line, numbered}

-- a text is that many lines: each ends with its newline, and has no other control character of one
-- byte
pub record AreLines (n : ℕ) (text : List ℕ) : Type 0 where
  pub lines : List (List ℕ)
  pub count : length lines ≡ n
  pub stay : All StaysInLine lines
  pub are : text ≡ flat_map line lines

-- a reply is one line, that of an error
abbrev pub IsError : List ℕ → Type 0
IsError reply = (fault : List ℕ) × StaysInLine fault × (reply ≡ line (codes "error " ++ fault))

-- a reply is `none`, or its first line says how many bytes follow, with a newline behind them
abbrev pub SaysBytes : List ℕ → Type 0
SaysBytes reply =
    (reply ≡ line (codes "none"))
    ⊎ ((bytes : List ℕ) × (reply ≡ numbered (codes "found ") (length bytes) ++ line bytes))

-- a reply is an error, or its first line says how many lines follow
abbrev pub SaysLines : List ℕ → Type 0
SaysLines reply =
    IsError reply
    ⊎ ((n : ℕ) × (text : List ℕ) × AreLines n text
    × (reply ≡ numbered (codes "folder ") n ++ text))

-- the reply to a line: to `find` one that says how many bytes follow, to `ls` one that says how
-- many lines follow, and to any other line one line
pub record IsFramed (line reply : List ℕ) : Type 0 where
  pub find : has_verb (codes "find") line ≡ true → SaysBytes reply
  pub ls : has_verb (codes "ls") line ≡ true → SaysLines reply
  pub other : has_verb (codes "find") line ≡ false → has_verb (codes "ls") line ≡ false
      → AreLines 1 reply
