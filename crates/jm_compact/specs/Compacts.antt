-- What compacting the class of a release gives (this project's rule).
use Rattle.std.specs.Prelude.{◌≡◌, ◌≤◌, ℕ, List, length, Some, None, Result, Ok, Err, IfOk, OnOk}
use Rattle.jm_bytes.specs.declared.faults.Or.{Or}
use Rattle.jm_bytes.specs.declared.faults.Or.TheVariants.{Fault}
use Rattle.jm_bytes.specs.Results.{IfAnswered}
use Rattle.jm_class.specs.declared.class.ClassFault.{ClassFault}
use Rattle.jm_class.specs.Classes.{ClassData, ReadsAs}
use Rattle.jm_class.specs.Releases.{fault_for}
use Rattle.jm_poolmap.specs.declared.site.Site.{Site}
use Rattle.jm_poolmap.specs.Sites.{sites_of}
use Rattle.jm_compact.specs.Compact.{IsCompact, compact_for}
use Rattle.jm_compact.specs.Meaning.{SaysTheSame}

-- the compact text of the one class, which says the same, is never longer, is the class's own where
-- it has no sites, and stays when it is compacted again; or the first fault
pub record CompactsFor (release : ℕ) (bytes : List ℕ) (result : Result (List ℕ) (Or ClassFault))
    : Type 0 where
  pub computed : IfAnswered (λ r. compact_for release bytes ≡ r) result
  pub rule : IfOk result (λ text. (c : ClassData) → ReadsAs bytes c → IsCompact c text)
  pub says : IfOk result (λ text. (c : ClassData) (sites : List Site) → ReadsAs bytes c
      → sites_of c ≡ Some sites → SaysTheSame c sites text)
  pub stays : IfOk result (λ text. (c : ClassData) → ReadsAs bytes c → sites_of c ≡ None
      → text ≡ bytes)
  pub again : IfOk result (λ text. compact_for release text ≡ Ok text)
  pub shorter : IfOk result (λ text. length text ≤ length bytes)
  pub no_fault : OnOk result (fault_for release bytes ≡ None)
  pub fault : (fault : ClassFault) → result ≡ Err (Fault fault)
      → fault_for release bytes ≡ Some fault
