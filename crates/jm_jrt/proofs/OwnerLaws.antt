-- The first full owner of a package, by what look-up finds at its path.
use Rattle.std.proofs.Common.{◌≡◌, ℕ, Bool, true, false, List, Option, Some, None, Result, Ok, Err, sym, ap, ◌∙◌}
use Rattle.std.specs.Prelude.{if◌then◌else◌}
use Rattle.jm_form.specs.declared.container.Header.{Header}
use Rattle.jm_form.specs.declared.rows.Row.{Row}
use Rattle.jm_form.specs.Head.{header_of}
use Rattle.jm_form.specs.Validity.{look}
use Rattle.jm_jrt.specs.declared.jrt_error.JrtError.{JrtError}
use Rattle.jm_jrt.specs.declared.jrt_error.JrtError.TheVariants.{NotThere}
use Rattle.jm_jrt.specs.Stat.{full_among, is_package, owner, owner_read, owners_of}
use Rattle.jm_jrt.specs.Told.{owners_told}

-- by whether the path is that of a package
abbrev chosen : List ℕ → Bool → Option (Row × List ℕ) → Result (Option (List ℕ)) JrtError
chosen b pack found = if pack then full_among (owners_of b found) else Err NotThere

module _ (b path : List ℕ) (h : Header) (read : header_of b ≡ Ok h) where
  owner_is : (pack : Bool) (found : Option (Row × List ℕ)) → is_package path ≡ pack → look b path ≡ found → owner b path
      ≡ chosen b pack found
  owner_is pack found test is =
      ap (owner_read b path) read ∙ ap (λ (t : Bool). chosen b t (look b path)) test ∙ ap (chosen b pack) is

  pub no_package : is_package path ≡ false → Err NotThere ≡ owner b path
  no_package other = sym (ap (owner_read b path) read ∙ ap (λ (t : Bool). chosen b t (look b path)) other)

  pub no_owners : is_package path ≡ true → None ≡ look b path → Err NotThere ≡ owner b path
  no_owners pack none = sym (owner_is true None pack (sym none))

  pub owners_here : (found : Row × List ℕ) (full : Result (Option (List ℕ)) JrtError) → is_package path ≡ true
      → Some found ≡ look b path → full ≡ full_among (owners_told b found.1) → full ≡ owner b path
  owners_here found full pack there is = is ∙ sym (owner_is true (Some found) pack (sym there))
