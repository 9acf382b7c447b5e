-- What the steps come to that judge the modules of an image (this project's rule). The number in
-- front is the release of Java SE whose classes are taken.
use Rattle.std.specs.Prelude.{ℕ, List, [], ◌∷◌, ◌++◌, Option, Some, None}
use Rattle.std.specs.Prelude.{option_to_list, Result, Ok, Err}
use Rattle.std.specs.Prelude.{if◌then◌else◌}
use Rattle.std.specs.Str.{bytes_eq}
use Rattle.jm_bytes.specs.Results.{followed}
use Rattle.jm_modinfo.specs.declared.descriptor.Descriptor.{Descriptor}
use Rattle.jm_modinfo.specs.declared.faults.DescriptorFault.{DescriptorFault}
use Rattle.jm_modinfo.specs.Descriptions.{info_for}
use Rattle.jm_relink.specs.declared.fault.RelinkFault.{RelinkFault}
use Rattle.jm_relink.specs.declared.fault.RelinkFault.TheVariants as fault_of
use Rattle.jm_relink.specs.declared.judging.SeenModule as handed
use Rattle.jm_relink.specs.Files.{files_in, info_entry}
use Rattle.jm_names.specs.ByName.{Named}
use Rattle.jm_relink.specs.Groups.{Group, info_content}
use Rattle.jm_relink.specs.Modules.{SeenModule}
use Rattle.jm_relink.specs.Packages.{packages_of}

-- an answer with another value
abbrev pub mapped : {A B : Type 0} → (A → B) → Result A RelinkFault → Result B RelinkFault
mapped f (Ok value) = Ok (f value)
mapped f (Err e) = Err e

-- a module that the code hands out, as plain data of an image of these bytes
abbrev pub seen_in : List ℕ → handed.SeenModule → SeenModule
seen_in b s = record { candidate = s.candidate; files = files_in b s.files }

-- the descriptor of a module's entry, or the fault: there is none, or it is that of another module
abbrev pub descriptor_due : List ℕ → Result Descriptor DescriptorFault
    → Result Descriptor RelinkFault
descriptor_due «module» (Ok d) =
    if bytes_eq d.name «module» then Ok d else Err (fault_of.Foreign (info_entry «module»))
descriptor_due «module» (Err fault) = Err (fault_of.BadInfo (info_entry «module») fault)

-- a module of this descriptor and these files
abbrev pub seen_with : List Named → Descriptor → SeenModule
seen_with files d = record {
  candidate = record { descriptor = d; packages = packages_of files };
  files = files;
}

-- the module of some files, from what its entry says
abbrev pub seen_due : Group → Result Descriptor DescriptorFault → Result SeenModule RelinkFault
seen_due g said = followed (descriptor_due g.0 said) (λ d. Ok (seen_with g.1 d))

-- the same by the content of its entry, none where no entry is there
abbrev pub entry_due : ℕ → Group → Option (List ℕ) → Result (Option SeenModule) RelinkFault
entry_due release g None = Ok None
entry_due release g (Some content) =
    followed (seen_due g (info_for release content)) (λ s. Ok (Some s))

-- the module of some files, none where no entry makes it one, or its refusal
abbrev pub group_due : ℕ → Group → Result (Option SeenModule) RelinkFault
group_due release g = entry_due release g (info_content g.1)

-- the modules of some groups, once earlier ones gave some
abbrev pub groups_due : ℕ → List SeenModule → List Group → Result (List SeenModule) RelinkFault
groups_due release seen [] = Ok seen
groups_due release seen (g ∷ gs) =
    followed (group_due release g) (λ o. groups_due release (seen ++ option_to_list o) gs)
