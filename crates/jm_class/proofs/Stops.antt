-- A reading that stops stops the whole.
use Rattle.std.proofs.Common.{◌≡◌, List, [], ◌∷◌, ◌++◌, map, Result, Ok, Err, sym, ap, ◌∙◌, IsErrAnd}
use Rattle.std.proofs.lemmas.List.{map-append}
use Rattle.jm_bytes.specs.declared.faults.Or.{Or}
use Rattle.jm_bytes.specs.declared.faults.Or.TheVariants.{Fault, Memory}
use Rattle.jm_class.specs.Readings.{Left, Outcome}
use Rattle.jm_class.specs.Views.{Reads, Gives}

-- the error of a part is that of the whole, where the whole has the faults of the part
pub gives_stop : {F T U A B : Type 0} (part_of : T → A) (data_of : U → B) (part : Outcome F A) (all : Outcome F B) (error : Or F)
    (result : Result U (Or F)) (left next : Left) → IsErrAnd result (λ is. is ≡ error) → Gives part_of part (Err error) left
    → ((fault : F) → part ≡ Err fault → all ≡ Err fault) → Gives data_of all result next
gives_stop part_of data_of part all error (Ok v) left next is gives stops = absurd is
gives_stop part_of data_of part all (Fault fault) (Err Memory) left next is gives stops = tt
gives_stop part_of data_of part all (Fault fault) (Err (Fault other)) left next is gives stops = stops fault gives
    ∙ let same : fault ≡ other = cc in ap (λ f. Err f) same
gives_stop part_of data_of part all Memory (Err Memory) left next is gives stops = tt
gives_stop part_of data_of part all Memory (Err (Fault other)) left next is gives stops = cc

-- the same where neither takes memory
pub reads_stop : {F T U A B : Type 0} (part_of : T → A) (data_of : U → B) (part : Outcome F A) (all : Outcome F B) (fault : F)
    (result : Result U F) (left next : Left) → IsErrAnd result (λ is. is ≡ fault) → Reads part_of part (Err fault) left
    → ((fault : F) → part ≡ Err fault → all ≡ Err fault) → Reads data_of all result next
reads_stop part_of data_of part all fault (Ok v) left next is finds stops = absurd is
reads_stop part_of data_of part all fault (Err other) left next is finds stops = stops other (finds ∙ ap (λ f. Err f) (sym is))

-- one item more, as plain data
pub map_pushed : {T A : Type 0} (data_of : T → A) (old new : List T) (item : T) → new ≡ old ++ item ∷ [] → map data_of new
    ≡ map data_of old ++ data_of item ∷ []
map_pushed data_of old new item e = ap (map data_of) e ∙ map-append data_of old (item ∷ [])
