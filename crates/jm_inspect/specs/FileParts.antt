-- What parts of a file say of it, where the files are told (this project's rule).
use Rattle.std.specs.Prelude.{ℕ, ◌≡◌, ◌≢◌, List, ◌++◌, length, min, Option, Some, None}
use Rattle.std.specs.Prelude.{Result, Ok, Err}
use Rattle.jm_form.specs.declared.container.Header.{Header}
use Rattle.jm_form.specs.declared.damage.Damage.{Damage}
use Rattle.jm_form.specs.Damages.{first_damage}
use Rattle.jm_form.specs.Head.{HoldsIndex, IsFileOf, header_with, index_length}
use Rattle.jm_outside.specs.Files.{Files, file_length, file_part}
use Rattle.jm_outside.specs.Outcome.{Shows}
use Rattle.jm_valid.specs.Opened.{Front}
use Rattle.jm_inspect.specs.declared.complaint.Complaint.{Complaint}
use Rattle.jm_inspect.specs.declared.complaint.Complaint.TheVariants as complaint
use Rattle.jm_inspect.specs.declared.front.FileFront.{FileFront}
use Rattle.jm_inspect.specs.declared.stop.Stop.{Stop}
use Rattle.jm_inspect.specs.declared.stop.Stop.TheVariants as stop
use Rattle.jm_inspect.specs.Works.{HasFile}

-- the file of a path has that many bytes, or none is there
abbrev pub HasLength : Option Files → List ℕ → Option ℕ → Type 0
HasLength told path size = Shows told (λ files. size ≡ file_length files path)

-- these are the bytes of the file of a path from a place on, at most that many
abbrev pub HasPart : Option Files → List ℕ → ℕ → ℕ → List ℕ → Type 0
HasPart told path at count bytes = Shows told (λ files. Some bytes ≡ file_part files path at count)

-- these are that many bytes of the file of a path from a place on
abbrev pub IsPart : Option Files → List ℕ → ℕ → ℕ → List ℕ → Type 0
IsPart told path at count bytes = (length bytes ≡ count) × HasPart told path at count bytes

-- the file of a path hasn't that many bytes from a place on, or isn't there
abbrev pub LacksPart : Option Files → List ℕ → ℕ → ℕ → Type 0
LacksPart told path at count =
    Shows told (λ files. (bytes : List ℕ) → Some bytes ≡ file_part files path at count
    → length bytes ≢ count)

-- the file of a path has that many bytes and begins with these, which are 28, or all
pub record IsHeadOf (told : Option Files) (path head : List ℕ) (size : ℕ) : Type 0 where
  pub size_is : HasLength told path (Some size)
  pub length_is : length head ≡ min size 28
  pub begins : HasPart told path 0 (length head) head

-- the file of a path has that many bytes and begins with these, which are its index and no more, if
-- it has a header
pub record IsFrontOf (told : Option Files) (path front : List ℕ) (size : ℕ) : Type 0 where
  pub size_is : HasLength told path (Some size)
  pub begins : HasPart told path 0 (length front) front
  pub holds : HoldsIndex front size
  pub ends : (h : Header) → header_with front size ≡ Ok h → length front ≡ index_length h

-- a file, which is that of the path where the files are told, has that many bytes and begins with
-- these
abbrev pub HasFront : Option Files → List ℕ → List ℕ → ℕ → Type 0
HasFront told path front size =
    (b : List ℕ) × HasFile told path (Some b) × IsFileOf front size b

-- these are some bytes with that many of the file's after them
abbrev pub Adds : Option Files → List ℕ → List ℕ → ℕ → List ℕ → Type 0
Adds told path old count new =
    (more : List ℕ) × (new ≡ old ++ more) × (length more ≡ count)
    × HasPart told path (length old) count more

-- What the calls come to

-- a call on the file of a path comes to what its answer says; to the complaint that nothing is
-- there, where this holds; a failure, or no memory
abbrev pub Comes : {A : Type 0} → List ℕ → (A → Type 0) → Type 0 → Result A Stop → Type 0
Comes path Is IsNot (Ok answer) = Is answer
Comes path Is IsNot (Err (stop.Complaint given)) = IsNot × (given ≡ complaint.NotThere path)
Comes path Is IsNot (Err stop.Outside) = Unit {0}
Comes path Is IsNot (Err stop.Memory) = Unit {0}

-- what reading all of a file comes to
abbrev pub ReadsFile : Option Files → List ℕ → Result (List ℕ) Stop → Type 0
ReadsFile told path result =
    Comes path (λ bytes. HasFile told path (Some bytes)) (HasFile told path None) result

-- what asking for the length of a file comes to
abbrev pub ReadsLength : Option Files → List ℕ → Result ℕ Stop → Type 0
ReadsLength told path result =
    Comes path (λ size. HasLength told path (Some size)) (HasLength told path None) result

-- what reading a part of a file comes to
abbrev pub ReadsPart : Option Files → List ℕ → ℕ → ℕ → Result (List ℕ) Stop → Type 0
ReadsPart told path at count result =
    Comes path (λ bytes. IsPart told path at count bytes) (LacksPart told path at count) result

-- what reading more of a file comes to, after its first bytes
abbrev pub ReadsMore : Option Files → List ℕ → List ℕ → ℕ → List ℕ → Result (Unit {0}) Stop
    → Type 0
ReadsMore told path old count new result =
    Comes path (λ done. Adds told path old count new) (LacksPart told path (length old) count)
    result

-- what reading the head of a file comes to
abbrev pub ReadsHead : Option Files → List ℕ → Result FileFront Stop → Type 0
ReadsHead told path result =
    Comes path (λ head. IsHeadOf told path head.bytes head.length) (HasFile told path None) result

-- what reading the front of a file comes to
abbrev pub ReadsFront : Option Files → List ℕ → Result FileFront Stop → Type 0
ReadsFront told path result =
    Comes path (λ front. IsFrontOf told path front.bytes front.length) (HasFile told path None)
    result

-- What opening an image comes to

-- the front of a file whose image is open, which is its first bytes with its length, and the path
-- of the file: what clauses see of the code's `OpenFront` and `OpenStored`
pub record OpenIndex : Type 0 where
  pub front : Front
  pub path : List ℕ

-- this is the front of the file of a path, and each file with it is an image without a damage, as
-- one says which that is
abbrev pub IsOpenFrontBy : (List ℕ → Option Damage) → Option Files → List ℕ → Front → Type 0
IsOpenFrontBy damage_of told path front =
    IsFrontOf told path front.bytes front.length
    × ((b : List ℕ) → IsFileOf front.bytes front.length b → damage_of b ≡ None)

-- the same of an image in which no content may be compressed
abbrev pub IsOpenFront : Option Files → List ℕ → Front → Type 0
IsOpenFront told path front = IsOpenFrontBy first_damage told path front

-- this is the file of a path, without a damage, as one says which that is
abbrev pub IsFileWithout : (List ℕ → Option Damage) → Option Files → List ℕ → List ℕ → Type 0
IsFileWithout damage_of told path b = HasFile told path (Some b) × (damage_of b ≡ None)

-- this is the file of a path, an image without a damage
abbrev pub IsSoundFile : Option Files → List ℕ → List ℕ → Type 0
IsSoundFile told path b = IsFileWithout first_damage told path b

-- this is the complaint of a file: that none is at the path, or of its damage
abbrev pub IsComplaint
    : (List ℕ → Option Damage) → List ℕ → Option (List ℕ) → Complaint → Type 0
IsComplaint damage_of path None given = given ≡ complaint.NotThere path
IsComplaint damage_of path (Some b) given =
    (damage : Damage) × (damage_of b ≡ Some damage) × (given ≡ complaint.Damaged damage)

-- the image in the file of a path isn't opened: by the complaint of this file, a failure, or no
-- memory
abbrev pub IsUnjudged : (List ℕ → Option Damage) → Option Files → List ℕ → Stop → Type 0
IsUnjudged damage_of told path (stop.Complaint given) =
    (found : Option (List ℕ)) × HasFile told path found × IsComplaint damage_of path found given
IsUnjudged damage_of told path stop.Outside = Unit {0}
IsUnjudged damage_of told path stop.Memory = Unit {0}

-- the same of an image in which no content may be compressed
abbrev pub IsUnopened : Option Files → List ℕ → Stop → Type 0
IsUnopened told path given = IsUnjudged first_damage told path given

-- opening the image in the file of a path, by the damage that it may have, comes to what its answer
-- says, or it isn't opened
abbrev pub OpensBy
    : {A : Type 0} → (List ℕ → Option Damage) → Option Files → List ℕ → (A → Type 0)
    → Result A Stop → Type 0
OpensBy damage_of told path Is (Ok image) = Is image
OpensBy damage_of told path Is (Err given) = IsUnjudged damage_of told path given

-- the same of an image in which no content may be compressed
abbrev pub Opens : {A : Type 0} → Option Files → List ℕ → (A → Type 0) → Result A Stop → Type 0
Opens told path Is result = OpensBy first_damage told path Is result
