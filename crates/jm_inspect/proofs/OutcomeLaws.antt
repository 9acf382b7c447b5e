-- What all commands have in common.
use Rattle.std.proofs.Common.{◌≡◌, ◌≢◌, ℕ, List, Option, Some, None, Result, Ok, Err, if◌then◌else◌, refl}
use Rattle.jm_extract.specs.Extracted.{extracted}
use Rattle.jm_form.specs.Validity.{look}
use Rattle.jm_form.specs.declared.rows.Row.{Row}
use Rattle.jm_form.specs.declared.trees.Holds.{Holds}
use Rattle.jm_jrt.specs.declared.jrt_error.JrtError.{JrtError}
use Rattle.jm_jrt.specs.declared.jrt_error.JrtError.TheVariants.{BadNode, NotFolder, NotThere}
use Rattle.jm_jrt.specs.Stat.{held, stat}
use Rattle.jm_modinfo.specs.declared.descriptor.Descriptor.{Descriptor}
use Rattle.jm_modinfo.specs.declared.faults.DescriptorFault.{DescriptorFault}
use Rattle.jm_modinfo.specs.Descriptions.{info_for}
use Rattle.jm_names.specs.ByName.{Named}
use Rattle.jm_texts.specs.declared.refusal.Refusal.{Refusal}
use Rattle.jm_words.specs.declared.tasks.ImageWork.{ImageWork}
use Rattle.jm_words.specs.declared.tasks.ImageWork.TheVariants as work
use Rattle.jm_inspect.specs.Outcome.{cat_outcome, describe_outcome, descriptor_outcome, extract_outcome, image_outcome, ls_outcome, verified}
use Rattle.jm_inspect.specs.VerifyText.{nodes_complaint}
use Rattle.jm_inspect.specs.declared.complaint.Complaint.{Complaint}

-- Whether a session is due

pub cat_session : (name : List ℕ) (found : Option (Row × List ℕ)) → (cat_outcome name found).session ≡ None
cat_session name None = refl
cat_session name (Some found) = refl

pub ls_session : (path : List ℕ) (holds : Result Holds JrtError) → (ls_outcome path holds).session ≡ None
ls_session path (Ok holds) = refl
ls_session path (Err NotThere) = refl
ls_session path (Err (BadNode at)) = refl
ls_session path (Err NotFolder) = refl

descriptor_session : (path : List ℕ) (d : Result Descriptor DescriptorFault) → (descriptor_outcome path d).session ≡ None
descriptor_session path (Ok d) = refl
descriptor_session path (Err fault) = refl

pub describe_session : (release : ℕ) (path b : List ℕ) → (describe_outcome release path b).session ≡ None
describe_session release path b = descriptor_session path (info_for release b)

pub extract_session : (dir : List ℕ) (due : Result (List Named) Refusal) → (extract_outcome dir due).session ≡ None
extract_session dir (Ok entries) = refl
extract_session dir (Err refusal) = refl

verified_session : (b : List ℕ) (given : Option Complaint) → (verified b given).session ≡ None
verified_session b None = refl
verified_session b (Some given) = refl

-- of a work on an image, but of `serve`
pub work_session : (does : ImageWork) (b text : List ℕ) → does ≢ work.Serve → (image_outcome does b text).session ≡ None
work_session (work.Cat name) b text other = cat_session name (look b name)
work_session (work.Ls folder) b text other = ls_session folder (held (stat b folder))
work_session (work.Extract dir include) b text other = extract_session dir (extracted b include)
work_session (work.Verify nodes) b text other = verified_session b (if nodes then nodes_complaint b else None)
work_session work.Serve b text other = absurd (other refl)
work_session _ b text other = refl
