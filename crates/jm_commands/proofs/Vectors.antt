-- What tasks without an image come to, computed from the definitions, and the files that they make.
use Rattle.std.proofs.Common.{◌≡◌, false, inl, inr, ℕ, List, [], ◌∷◌, map, None, Ok, refl}
use Rattle.std.specs.Prelude.{codes}
use Rattle.jm_words.specs.declared.tasks.ImageWork.TheVariants as work
use Rattle.jm_words.specs.declared.tasks.Task.TheVariants as task
use Rattle.jm_inspect.specs.FailedBefore.{FailedBefore, FilesFailed}
use Rattle.jm_commands.specs.Gen.{gen_link}
use Rattle.jm_commands.specs.HelpText.{help_text, version_text}
use Rattle.jm_inspect.specs.Outcome.{done}
use Rattle.jm_commands.specs.Outcome.{early_in, early_of}
use Rattle.jm_commands.specs.Run.{TaskComesTo}
use Rattle.jm_inspect.specs.Sinks.{Failed, Seen}
use Rattle.jm_inspect.specs.World.{World}
use Rattle.jm_outside.specs.Made.{written}

-- without an image

version : TaskComesTo None None task.Version (done version_text)
version = refl

-- Files that are made

same_path_twice : written ((codes "a", codes "1") ∷ []) ((codes "b", codes "2") ∷ (codes "a", codes "3") ∷ [])
    ≡ (codes "a", codes "3") ∷ (codes "b", codes "2") ∷ []
same_path_twice = refl

first_paths : map (λ write. write.0) (early_of (task.Gen (record { dir = codes "d"; modules = 1; classes = 1; seed = 0 }))).writes
    ≡ codes "d/mods/m000/module-info.class" ∷ codes "d/mods/m000/m000/p0/C0000.class" ∷ []
first_paths = refl

no_first_paths : (early_of (task.Image (codes "img") (work.Verify false))).writes ≡ []
no_first_paths = refl

all_roots : (gen_link (record { dir = codes "d"; modules = 3; classes = 1; seed = 0 })).roots ≡ codes "m000" ∷ codes "m001"
    ∷ codes "m002" ∷ []
all_roots = refl

-- What failed in place of what was due

module _ (old new : World) (err new_err : Seen (List ℕ)) where
  -- a failed shelf is no cause where no file is read
  for_help : FailedBefore (early_of task.Help) (done help_text) old new err new_err → Failed old.out new.out
  for_help (inl (inl (reads, failed))) = cc
  for_help (inl (inr output)) = output
  for_help (inr never) = absurd never

  no_file_read : FilesFailed (early_in (Ok (record { jobs = 1; task = task.Help }))) old new → ⊥
  no_file_read (reads, failed) = cc
