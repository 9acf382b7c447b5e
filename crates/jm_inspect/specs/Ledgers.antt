-- New ledgers, of which counters are made (this project's rule).
use Rattle.std.specs.Prelude.{ℕ, ◌≡◌, ◌<◌}

-- a new ledger has this name and this number of parts, which isn't 0
abbrev pub IsLedger : (name parts of_name of_parts : ℕ) → Type 0
IsLedger name parts of_name of_parts = (name ≡ of_name) × (parts ≡ of_parts) × (0 < parts)
