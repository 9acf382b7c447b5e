-- What results say of Ok and of Err.
use Rattle.std.proofs.Common.{◌≡◌, Result, Ok, Err, OnOk, OnErr, IsErrAnd, ap}

pub on_ok : {T E : Type 0} (P : Type 0) (r : Result T E) → P → OnOk r P
on_ok P (Ok x) holds = holds
on_ok P (Err e) holds = tt

pub on_err : {T E : Type 0} (P : Type 0) (r : Result T E) → P → OnErr r P
on_err P (Ok x) holds = tt
on_err P (Err e) holds = holds

pub on_ok_map : {T E : Type 0} (P Q : Type 0) (r : Result T E) → (P → Q) → OnOk r P → OnOk r Q
on_ok_map P Q (Ok x) f holds = f holds
on_ok_map P Q (Err e) f holds = tt

pub on_err_map : {T E : Type 0} (P Q : Type 0) (r : Result T E) → (P → Q) → OnErr r P → OnErr r Q
on_err_map P Q (Ok x) f holds = tt
on_err_map P Q (Err e) f holds = f holds

-- an error that is known is all that the result is
pub passed_on : {A E : Type 0} (r : Result A E) (is : E) → IsErrAnd r (λ e. e ≡ is) → r ≡ Err is
passed_on (Ok x) is gives = absurd gives
passed_on (Err e) is gives = ap (λ s. Err s) gives
