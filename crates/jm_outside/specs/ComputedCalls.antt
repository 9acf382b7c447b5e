-- Numbered calls of the objects in memory, some of which fail, as values that compute (this
-- project's rule).
use Rattle.std.specs.Prelude.{◌+◌, ◌-◌, ◌^◌, ℕ, List, [], Contains, min, Bool, if◌then◌else◌}

-- the numbers of the calls that fail, the number of the next call, and how many failed
pub record CallNumbers : Type 0 where
  pub failing : List ℕ
  pub next : ℕ
  pub faults : ℕ

-- no call was made, and none is to fail
abbrev pub no_calls : CallNumbers
no_calls = record { failing = []; next = 0; faults = 0 }

-- the next call is one of those that fail
abbrev pub IsListed : CallNumbers → Type 0
IsListed calls = Contains calls.failing calls.next

-- one more, in a counter of 64 bits
abbrev pub one_more : ℕ → ℕ
one_more n = min (n + 1) (2 ^ 64 - 1)

-- the same numbers with one more fault, if something failed
abbrev pub with_fault : CallNumbers → Bool → CallNumbers
with_fault calls failed =
    record calls { faults = if failed then one_more calls.faults else calls.faults }

-- the numbers after a call, which failed or not
abbrev pub after_call : CallNumbers → Bool → CallNumbers
after_call calls failed = with_fault (record calls { next = one_more calls.next }) failed
