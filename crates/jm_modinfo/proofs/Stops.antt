-- A reading that stops stops the whole.
use Rattle.std.proofs.Common.{◌≡◌, Result, Ok, Err, ap, ◌∙◌, IsErrAnd}
use Rattle.jm_bytes.specs.declared.faults.Or.{Or}
use Rattle.jm_bytes.specs.declared.faults.Or.TheVariants.{Fault, Memory}
use Rattle.jm_class.specs.Readings.{Left, Outcome}
use Rattle.jm_class.specs.Views.{Gives}
use Rattle.jm_modinfo.specs.Views.{Answers}

-- the error of a reading is that of the whole, where the whole has the faults of the reading
pub answers_stop : {F T U A B : Type 0} (part_of : T → A) (data_of : U → B) (part : Outcome F A) (all : Result B F) (error : Or F)
    (result : Result U (Or F)) (left : Left) → IsErrAnd result (λ is. is ≡ error) → Gives part_of part (Err error) left
    → ((fault : F) → part ≡ Err fault → all ≡ Err fault) → Answers data_of all result
answers_stop part_of data_of part all error (Ok v) left is gives stops = absurd is
answers_stop part_of data_of part all (Fault fault) (Err Memory) left is gives stops = tt
answers_stop part_of data_of part all (Fault fault) (Err (Fault other)) left is gives stops = stops fault gives
    ∙ let same : fault ≡ other = cc in ap (λ f. Err f) same
answers_stop part_of data_of part all Memory (Err Memory) left is gives stops = tt
answers_stop part_of data_of part all Memory (Err (Fault other)) left is gives stops = cc

-- the error of a part is that of the whole, where the whole has the faults of the part
pub answers_error : {F T U A B : Type 0} (part_of : T → A) (data_of : U → B) (part : Result A F) (all : Result B F) (error : Or F)
    (result : Result U (Or F)) → IsErrAnd result (λ is. is ≡ error) → Answers part_of part (Err error)
    → ((fault : F) → part ≡ Err fault → all ≡ Err fault) → Answers data_of all result
answers_error part_of data_of part all error (Ok v) is answers stops = absurd is
answers_error part_of data_of part all (Fault fault) (Err Memory) is answers stops = tt
answers_error part_of data_of part all (Fault fault) (Err (Fault other)) is answers stops = stops fault answers
    ∙ let same : fault ≡ other = cc in ap (λ f. Err f) same
answers_error part_of data_of part all Memory (Err Memory) is answers stops = tt
answers_error part_of data_of part all Memory (Err (Fault other)) is answers stops = cc
