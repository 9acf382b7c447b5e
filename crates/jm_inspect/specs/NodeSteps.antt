-- Nodes that are judged while their contents are read (this project's rule).
use Rattle.std.specs.Prelude.{ℕ, ◌≡◌, List, length, map, Option, None, IfSome}
use Rattle.jm_bytes.specs.Checks.{first_fault}
use Rattle.jm_filed.specs.FirstRead.{AreFirstRead}
use Rattle.jm_filed.specs.declared.taking.TakenEntry.{TakenEntry}
use Rattle.jm_form.specs.Head.{IsFileOf}
use Rattle.jm_names.specs.ByName.{Named}
use Rattle.jm_outside.specs.Files.{Files}
use Rattle.jm_valid.specs.Opened.{Front}
use Rattle.jm_inspect.specs.declared.complaint.Complaint.{Complaint}
use Rattle.jm_inspect.specs.declared.status.Status.TheVariants as status
use Rattle.jm_inspect.specs.Steps.{status_of}
use Rattle.jm_inspect.specs.VerifyText.{bad_node}

-- a complaint, if there is one, is of what is damaged
abbrev pub IsOfDamage : Option Complaint → Type 0
IsOfDamage found = IfSome found (λ given. status_of given ≡ status.Damaged)

-- the contents of the first of some nodes were read, of all where no complaint was found; in each
-- file of the index the complaint is of the first of them that has a bad word
pub record JudgesRead (index : Front) (told : Option Files) (path : List ℕ)
    (entries : List TakenEntry) (found : Option Complaint) : Type 0 where
  pub read : List Named
  pub are : AreFirstRead told path entries read
  pub all : found ≡ None → length read ≡ length entries
  pub judged : (b : List ℕ) → IsFileOf index.bytes index.length b
      → first_fault (map (bad_node b) read) ≡ found
  pub damage : IsOfDamage found
