-- What words come to: plain data. Of a command on one file it is a function of its task, of that
-- file's bytes and of the text of the source (this project's rule).
use Rattle.std.specs.Prelude.{ℕ, ◌+◌, nat_lt, List, [], ◌∷◌, ◌++◌, length, codes}
use Rattle.std.specs.Prelude.{Bool, true, false}
use Rattle.std.specs.Prelude.{Option, Some, None, Result, Ok, Err, if◌then◌else◌}
use Rattle.std.specs.Fmt.{decimal}
use Rattle.jm_form.specs.declared.damage.Damage.{Damage}
use Rattle.jm_form.specs.declared.rows.Row.{Row}
use Rattle.jm_form.specs.declared.trees.Holds.{Holds}
use Rattle.jm_form.specs.DamageText.{damage_text}
use Rattle.jm_form.specs.Validity.{look}
use Rattle.jm_jrt.specs.declared.jrt_error.JrtError.{JrtError}
use Rattle.jm_jrt.specs.declared.jrt_error.JrtError.TheVariants.{BadNode, NotFolder, NotThere}
use Rattle.jm_jrt.specs.Lines.{lines_of, replies}
use Rattle.jm_jrt.specs.Reply.{held_lines}
use Rattle.jm_jrt.specs.Sessions.{answered_in}
use Rattle.jm_jrt.specs.Stat.{held, stat}
use Rattle.jm_names.specs.Shown.{shown_text}
use Rattle.jm_names.specs.UtfForms.{utf}
use Rattle.jm_outside.specs.Made.{Writes}
use Rattle.jm_words.specs.declared.errors.WordsFault.{WordsFault}
use Rattle.jm_words.specs.declared.tasks.ImageWork.{ImageWork}
use Rattle.jm_words.specs.declared.tasks.ImageWork.TheVariants as work
use Rattle.jm_words.specs.FaultText.{fault_text}
use Rattle.jm_modinfo.specs.declared.descriptor.Descriptor.{Descriptor}
use Rattle.jm_modinfo.specs.declared.faults.DescriptorFault.{DescriptorFault}
use Rattle.jm_modinfo.specs.Descriptions.{info_for}
use Rattle.jm_extract.specs.Extracted.{extracted, writes_of}
use Rattle.jm_names.specs.ByName.{Named}
use Rattle.jm_texts.specs.declared.refusal.Refusal.{Refusal}
use Rattle.jm_texts.specs.declared.refusal.Refusal.TheVariants as refusal
use Rattle.jm_inspect.specs.declared.complaint.Complaint.{Complaint}
use Rattle.jm_inspect.specs.declared.complaint.Complaint.TheVariants as complaint
use Rattle.jm_texts.specs.DescribeText.{describe_text}
use Rattle.jm_texts.specs.RefusalText.{refusal_text}
use Rattle.jm_inspect.specs.declared.status.Status.{Status}
use Rattle.jm_inspect.specs.declared.status.Status.TheVariants as status
use Rattle.jm_inspect.specs.ExtractText.{extract_text}
use Rattle.jm_texts.specs.InfoText.{info_text}
use Rattle.jm_inspect.specs.ListText.{digest_list_text, list_text}
use Rattle.jm_inspect.specs.Texts.{complaint_text, line_of}
use Rattle.jm_inspect.specs.VerifyText.{nodes_complaint, verify_text}

-- the status, what the output gets, the line that the error sink gets, the files that are made, and
-- the image's bytes where the source is read by a session over them
pub record Outcome : Type 0 where
  pub status : Status
  pub output : List ℕ
  pub line : List ℕ
  pub writes : Writes
  pub session : Option (List ℕ)

-- the outcome of an output, and of nothing else
abbrev pub done : List ℕ → Outcome
done output = record {
  status = status.Done;
  output = output;
  line = [];
  writes = [];
  session = None;
}

-- the outcome of files that are made, and of an output after them
abbrev pub made_and_put : Writes → List ℕ → Outcome
made_and_put writes output = record {
  status = status.Done;
  output = output;
  line = [];
  writes = writes;
  session = None;
}

-- the outcome of a status and a line, and of nothing else
abbrev pub refused : Status → List ℕ → Outcome
refused status text = record {
  status = status;
  output = [];
  line = text ++ 10 ∷ [];
  writes = [];
  session = None;
}

-- what a fault of the words comes to
abbrev pub faulty : WordsFault → Outcome
faulty fault = refused status.Words (codes "words: " ++ fault_text fault)

-- what a damage of the image comes to
abbrev pub damaged : Damage → Outcome
damaged damage = refused status.Damaged (codes "damaged: " ++ damage_text damage)

-- what a missing path comes to, or a missing name in UTF-8
abbrev pub not_there : List ℕ → Outcome
not_there text = refused status.NotThere (codes "not there: " ++ shown_text text)

-- what a refusal comes to
abbrev pub refusing : Refusal → Outcome
refusing refusal = refused status.Refused (codes "refused: " ++ refusal_text refusal)

-- what `ls` comes to where the folder's node has a bad content, at this place
abbrev pub bad_node : ℕ → Outcome
bad_node at = refused status.Damaged (codes "damaged: BadNode " ++ decimal at)

-- what `ls` comes to where the path is that of no folder
abbrev pub not_folder : Outcome
not_folder = refused status.Refused (codes "refused: NotFolder")

-- The commands

-- what `cat` comes to, by what the look-up found
abbrev pub cat_outcome : List ℕ → Option (Row × List ℕ) → Outcome
cat_outcome name None = not_there (utf name)
cat_outcome name (Some found) = done found.1

-- what `ls` comes to, by what the folder at the path holds
abbrev pub ls_outcome : List ℕ → Result Holds JrtError → Outcome
ls_outcome path (Ok holds) = done (held_lines path holds)
ls_outcome path (Err NotThere) = not_there (utf path)
ls_outcome path (Err (BadNode at)) = bad_node at
ls_outcome path (Err NotFolder) = not_folder

-- `serve`: the replies to the lines of the text, up to the first that is too long or one too many

-- the complaint of a session, by how many lines its text has and how many of them are answered
abbrev pub session_fault : ℕ → ℕ → Option Complaint
session_fault lines answered =
    if nat_lt answered lines
    then Some (if nat_lt answered 1000000 then complaint.LongLine (answered + 1)
    else complaint.TooManyLines)
    else None

-- what `serve` comes to, by its complaint, if there is one
abbrev pub session_with : List ℕ → List ℕ → Option Complaint → Outcome
session_with b output None = record {
  status = status.Done;
  output = output;
  line = [];
  writes = [];
  session = Some b;
}
session_with b output (Some complaint) = record {
  status = status.Session;
  output = output;
  line = line_of complaint;
  writes = [];
  session = Some b;
}

-- what `serve` comes to on an image's bytes, by the text of the source
abbrev pub session_outcome : List ℕ → List ℕ → Outcome
session_outcome b text =
    session_with b (replies b (answered_in text))
    (session_fault (length (lines_of text)) (length (answered_in text)))

-- `describe`: what the class of a module says, by the class that the file's bytes read as

-- what the refusal of the class of a module comes to
abbrev pub bad_info : List ℕ → DescriptorFault → Outcome
bad_info path fault = refusing (refusal.BadInfo path fault)

-- what `describe` comes to, by what the file's bytes say as the class of a module
abbrev pub descriptor_outcome : List ℕ → Result Descriptor DescriptorFault → Outcome
descriptor_outcome path (Ok d) = done (describe_text d)
descriptor_outcome path (Err fault) = bad_info path fault

-- what `describe` comes to, by the release and the bytes of the file
abbrev pub describe_outcome : ℕ → List ℕ → List ℕ → Outcome
describe_outcome release path b = descriptor_outcome path (info_for release b)

-- `extract`: a file of each taken entry below the directory, and the output says how many

-- what `extract` comes to, by the entries that are taken or their refusal
abbrev pub extract_outcome : List ℕ → Result (List Named) Refusal → Outcome
extract_outcome dir (Ok entries) =
    made_and_put (writes_of dir entries) (extract_text (length entries))
extract_outcome dir (Err refusal) = refusing refusal

-- `verify`: a line with the number of entries, or the complaint of the nodes, if these are judged

-- what `verify` comes to, by the complaint of the nodes, if there is one
abbrev pub verified : List ℕ → Option Complaint → Outcome
verified b None = done (verify_text b)
verified b (Some given) = refused status.Damaged (complaint_text given)

-- what `verify` comes to, by whether the nodes are judged
abbrev pub verify_outcome : Bool → List ℕ → Outcome
verify_outcome nodes b = verified b (if nodes then nodes_complaint b else None)

-- what the work on an image comes to, by the bytes of its file, which have no damage, and by the
-- source's text
abbrev pub image_outcome : ImageWork → List ℕ → List ℕ → Outcome
image_outcome (work.Cat name) b text = cat_outcome name (look b name)
image_outcome (work.List include digests) b text =
    done (if digests then digest_list_text b include else list_text b include)
image_outcome (work.Ls path) b text = ls_outcome path (held (stat b path))
image_outcome work.Info b text = done (info_text b)
image_outcome (work.Extract dir include) b text = extract_outcome dir (extracted b include)
image_outcome (work.Verify nodes) b text = verify_outcome nodes b
image_outcome work.Serve b text = session_outcome b text

-- What is done with files before it is known what is due

-- what is done with files before it is known what is due: which are made, and whether any are read
pub record Early : Type 0 where
  pub writes : Writes
  pub reads : Bool

-- files are read, and none is made
abbrev pub reading : Early
reading = record { writes = []; reads = true }

-- no file is read, and none is made
abbrev pub without_files : Early
without_files = record { writes = []; reads = false }
