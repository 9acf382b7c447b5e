-- The paths of the files are text where their folder is.
use Rattle.std.proofs.Common.{ℕ, ◌+◌, ◌/◌, ◌%◌, ◌<◌, List, [], ◌∷◌, ◌++◌, IsUtf8, refl, arith, codes}
use Rattle.std.proofs.Math.Nat.{mod-lt}
use Rattle.std.proofs.lemmas.Str.{IsAscii-append, IsUtf8-append, IsUtf8-from_ascii}
use Rattle.std.proofs.lemmas.Str.Ascii.{IsAscii-cons, IsAscii-nil}
use Rattle.std.specs.Str.{IsAscii}
use Rattle.jm_bytes.proofs.ByteOrderLaws.{ascii_all}
use Rattle.jm_gen.specs.Generated.{class_name, class_path, digit, module_name, path_in}

digit_ascii : (n : ℕ) → digit n < 128
digit_ascii n = let below = mod-lt n {m = 10} (omega arith) in omega (arith, below)

three : (a b c : ℕ) → IsAscii (digit a ∷ digit b ∷ digit c ∷ [])
three a b c =
    IsAscii-cons (digit a) (digit b ∷ digit c ∷ []) (digit_ascii a)
    (IsAscii-cons (digit b) (digit c ∷ []) (digit_ascii b) (IsAscii-cons (digit c) [] (digit_ascii c) IsAscii-nil))

module_ascii : (k : ℕ) → IsAscii (module_name k)
module_ascii k = IsAscii-cons 109 (digit (k / 100) ∷ digit (k / 10) ∷ digit k ∷ []) (omega arith) (three (k / 100) (k / 10) k)

class_ascii : (c : ℕ) → IsAscii (class_name c)
class_ascii c =
    IsAscii-cons 67 (digit (c / 1000) ∷ digit (c / 100) ∷ digit (c / 10) ∷ digit c ∷ []) (omega arith)
    (IsAscii-cons (digit (c / 1000)) (digit (c / 100) ∷ digit (c / 10) ∷ digit c ∷ []) (digit_ascii (c / 1000))
    (three (c / 100) (c / 10) c))

slash : IsAscii (codes "/")
slash = ascii_all (codes "/") refl

eighth : (c : ℕ) → IsAscii ((48 + c % 8) ∷ [])
eighth c = let below = mod-lt c {m = 8} (omega arith) in IsAscii-cons (48 + c % 8) [] (omega (arith, below)) IsAscii-nil

path_ascii : (k c : ℕ) → IsAscii (class_path k c)
path_ascii k c =
    IsAscii-append (module_name k) (codes "/p" ++ (((48 + c % 8) ∷ []) ++ (codes "/" ++ (class_name c ++ [])))) (module_ascii k)
    (IsAscii-append (codes "/p") (((48 + c % 8) ∷ []) ++ (codes "/" ++ (class_name c ++ []))) (ascii_all (codes "/p") refl)
    (IsAscii-append ((48 + c % 8) ∷ []) (codes "/" ++ (class_name c ++ [])) (eighth c)
    (IsAscii-append (codes "/") (class_name c ++ []) slash (IsAscii-append (class_name c) [] (class_ascii c) IsAscii-nil))))

pub class_rest : (k c : ℕ) → IsAscii (class_path k c ++ codes ".class")
class_rest k c = IsAscii-append (class_path k c) (codes ".class") (path_ascii k c) (ascii_all (codes ".class") refl)

pub info_rest : IsAscii (codes "module-info.class")
info_rest = ascii_all (codes "module-info.class") refl

pub path_is_text : (dir : List ℕ) (k : ℕ) (rest : List ℕ) → IsUtf8 dir → IsAscii rest → IsUtf8 (path_in dir k rest)
path_is_text dir k rest text ascii =
    let behind = IsAscii-append rest [] ascii IsAscii-nil in
    let from_slash = IsAscii-append (codes "/") (rest ++ []) slash behind in
    let from_name = IsAscii-append (module_name k) (codes "/" ++ (rest ++ [])) (module_ascii k) from_slash in
    let below = IsAscii-append (codes "/") (module_name k ++ (codes "/" ++ (rest ++ []))) slash from_name in
    let all = codes "/" ++ (module_name k ++ (codes "/" ++ (rest ++ []))) in
    IsUtf8-append dir all text (IsUtf8-from_ascii all below)
