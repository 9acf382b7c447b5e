-- The line that the error sink gets of what a run ends with (this project's rule).
use Rattle.std.specs.Prelude.{ℕ, List, [], ◌∷◌, ◌++◌, codes}
use Rattle.std.specs.Fmt.{decimal}
use Rattle.jm_form.specs.DamageText.{damage_text}
use Rattle.jm_names.specs.Shown.{shown, shown_text}
use Rattle.jm_words.specs.FaultText.{fault_text}
use Rattle.jm_texts.specs.RefusalText.{refusal_text}
use Rattle.jm_inspect.specs.declared.complaint.Complaint.{Complaint}
use Rattle.jm_inspect.specs.declared.complaint.Complaint.TheVariants as complaint

-- what the error sink is told of a complaint
abbrev pub complaint_text : Complaint → List ℕ
complaint_text (complaint.Words fault) = codes "words: " ++ fault_text fault
complaint_text (complaint.Damaged damage) = codes "damaged: " ++ damage_text damage
complaint_text (complaint.NotThere text) = codes "not there: " ++ shown_text text
complaint_text (complaint.Refused refusal) = codes "refused: " ++ refusal_text refusal
complaint_text (complaint.BadNode at) = codes "damaged: BadNode " ++ decimal at
complaint_text (complaint.NoNode name) = codes "damaged: NoNode " ++ shown name
complaint_text (complaint.BadNodeAt name at) =
    codes "damaged: BadNode " ++ decimal at ++ 32 ∷ shown name
complaint_text complaint.NotFolder = codes "refused: NotFolder"
complaint_text (complaint.LongLine k) = codes "session: LongLine " ++ decimal k
complaint_text complaint.TooManyLines = codes "session: TooManyLines 1000001"

-- the line of a complaint, which ends with one newline byte
abbrev pub line_of : Complaint → List ℕ
line_of complaint = complaint_text complaint ++ 10 ∷ []
