-- What works come to on small images, computed from the definitions.
use Rattle.std.proofs.Common.{true, false, ◌≡◌, ◌⊎◌, inl, inr, ℕ, List, [], ◌∷◌, ◌++◌, take, Option, Some, None, Result, Ok, Err, refl}
use Rattle.std.specs.Prelude.{codes}
use Rattle.std.specs.Fmt.{digits}
use Rattle.jm_form.proofs.Vectors.{no_entries, overlapping, tiny}
use Rattle.jm_jrt.proofs.Vectors.{bad_node, one, with_byte}
use Rattle.jm_jrt.specs.declared.serve_error.ServeError.{ServeError}
use Rattle.jm_jrt.specs.declared.serve_error.ServeError.TheVariants as serve_error
use Rattle.jm_words.specs.declared.tasks.ImageWork.TheVariants as work
use Rattle.jm_inspect.specs.declared.complaint.Complaint.TheVariants as complaint
use Rattle.jm_inspect.specs.declared.status.Status.TheVariants as status
use Rattle.jm_inspect.specs.FailedBefore.{FailedBefore}
use Rattle.jm_inspect.specs.Outcome.{done, image_outcome, reading, refused, session_with, without_files}
use Rattle.jm_inspect.specs.SessionHeld.{EndedBy, EndsAs, EndsBroken, Held}
use Rattle.jm_inspect.specs.Sinks.{Failed, Seen}
use Rattle.jm_inspect.specs.World.{World}
use Rattle.jm_outside.specs.Files.{Files}
use Rattle.jm_outside.specs.Shelves.{ShelfFailed}
use Rattle.jm_inspect.specs.Works.{WorkComesTo}

-- a shelf with one image
abbrev shelf : List ℕ → Option Files
shelf b = Some ((codes "img", b) ∷ [])

-- `cat`

content : WorkComesTo (shelf tiny) None (codes "img") (work.Cat (codes "/m/a")) (done (codes "hi"))
content = (Some tiny, refl, ([], tt, refl))

no_entry : WorkComesTo (shelf tiny) None (codes "img") (work.Cat (codes "/m/b"))
    (refused status.NotThere (codes "not there: /m/b"))
no_entry = (Some tiny, refl, ([], tt, refl))

no_file : WorkComesTo (Some []) None (codes "img") (work.Cat (codes "/m/b")) (refused status.NotThere (codes "not there: img"))
no_file = (None, refl, refl)

cut_short : WorkComesTo (shelf (take 54 tiny)) None (codes "img") (work.Cat (codes "/m/a"))
    (refused status.Damaged (codes "damaged: Header Sizes"))
cut_short = (Some (take 54 tiny), refl, refl)

-- a name is said in UTF-8: U+1F600 is stored as two surrogates
no_entry_above_ffff : image_outcome (work.Cat (0xED ∷ 0xA0 ∷ 0xBD ∷ 0xED ∷ 0xB8 ∷ 0x80 ∷ [])) tiny []
    ≡ refused status.NotThere (codes "not there: " ++ 0xF0 ∷ 0x9F ∷ 0x98 ∷ 0x80 ∷ [])
no_entry_above_ffff = refl

-- `verify` and `info`

one_entry : image_outcome (work.Verify false) tiny [] ≡ done (codes "valid 1\n")
unfolding digits
one_entry = refl

no_modules : image_outcome (work.Verify true) tiny [] ≡ refused status.Damaged (codes "damaged: NoNode /modules")
no_modules = refl

right_nodes : image_outcome (work.Verify true) one [] ≡ done (codes "valid 6\n")
unfolding digits
right_nodes = refl

bad_flag : image_outcome (work.Verify true) (with_byte 182 2 one) [] ≡ refused status.Damaged (codes "damaged: BadNode 0 /packages/p")
unfolding digits
bad_flag = refl

no_entry_at_all : image_outcome (work.Verify false) no_entries [] ≡ done (codes "valid 0\n")
unfolding digits
no_entry_at_all = refl

overlap : WorkComesTo (shelf overlapping) None (codes "img") (work.Verify false)
    (refused status.Damaged (codes "damaged: Overlap 0 1"))
unfolding digits
overlap = (Some overlapping, refl, refl)

header : image_outcome work.Info tiny []
    ≡ done (codes "order little\nversion 1.0\nflags 0\nentries 1\nslots 1\nlocations 8\nstrings 11\nindex 55\ncontents 2\n")
unfolding digits
header = refl

-- `ls`

the_roots : image_outcome (work.Ls (codes "/")) bad_node [] ≡ done (codes "/packages\n")
the_roots = refl

no_path : image_outcome (work.Ls (codes "/m/a")) tiny [] ≡ refused status.NotThere (codes "not there: /m/a")
no_path = refl

bad_folder : image_outcome (work.Ls (codes "/packages")) bad_node [] ≡ refused status.Damaged (codes "damaged: BadNode 0")
unfolding digits
bad_folder = refl

no_folder : image_outcome (work.Ls (codes "/modules/m/a")) tiny [] ≡ refused status.Refused (codes "refused: NotFolder")
no_folder = refl

-- `serve`

two_lines : (image_outcome work.Serve tiny (codes "find /m/a\nwhat")).output ≡ codes "found 2\nhi\nerror Request\n"
unfolding digits
two_lines = refl

all_answered : (image_outcome work.Serve tiny (codes "find /m/a\nwhat")).status ≡ status.Done
all_answered = refl

-- What failed in place of what was due

module _ (old new : World) (err new_err : Seen (List ℕ)) where
  for_words : FailedBefore without_files (refused status.Words (codes "words: NoCommand at 0")) old new err new_err → Failed err new_err
  for_words (inl never) = absurd never
  for_words (inr line) = line

  for_damage : FailedBefore reading (refused status.Damaged (codes "damaged: BadNode 0")) old new err new_err
      → ShelfFailed old.shelf new.shelf ⊎ Failed err new_err
  for_damage (inl (reads, failed)) = inl failed
  for_damage (inr line) = inr line

  for_output : FailedBefore reading (done (codes "hi")) old new err new_err → ShelfFailed old.shelf new.shelf ⊎ Failed old.out new.out
  for_output (inl (inl (reads, failed))) = inl failed
  for_output (inl (inr output)) = inr output
  for_output (inr never) = absurd never

  for_session : (b output : List ℕ) → FailedBefore reading (session_with b output None) old new err new_err → Failed old.input new.input
      ⊎ Failed old.out new.out
  for_session b output (inl work) = work
  for_session b output (inr never) = absurd never

  for_broken_session : (b output : List ℕ) → FailedBefore reading (session_with b output (Some complaint.TooManyLines)) old new err new_err
      → (Failed old.input new.input ⊎ Failed old.out new.out) ⊎ Failed err new_err
  for_broken_session b output failed = failed

  -- a session that a run ends with 6 ended by the object whose count rose
  session_failed : (b : List ℕ) → Held b (EndsAs status.Outside err new_err) old new → Failed old.input new.input
      ⊎ (Failed old.out new.out ⊎ Failed err new_err)
  session_failed b held = go held.answered held.ends held.ended_by
    where
      broken : EndsBroken status.Outside err new_err → Failed err new_err
      broken (inl same) = cc
      broken (inr (inl (same, failed))) = failed
      broken (inr (inr same)) = cc

      go : (answered : Result ℕ ServeError) → EndsAs status.Outside err new_err answered → EndedBy answered old new
          → Failed old.input new.input ⊎ (Failed old.out new.out ⊎ Failed err new_err)
      go (Ok n) ends ended_by = cc
      go (Err serve_error.ReadFault) ends ended_by = inl ended_by
      go (Err serve_error.WriteFault) ends ended_by = inr (inl ended_by)
      go (Err (serve_error.LongLine k)) ends ended_by = inr (inr (broken ends))
      go (Err serve_error.TooManyLines) ends ended_by = inr (inr (broken ends))
      go (Err serve_error.Memory) ends ended_by = cc
