-- The first bytes of a file: what is known of the file, and how many were taken.
use Rattle.std.proofs.Common.{◌≡◌, ◌≢◌, ◌+◌, ◌-◌, ◌≤◌, ℕ, List, [], ◌++◌}
use Rattle.std.proofs.Common.{length, take, drop, min, replicate, Option, Some, None, option_map}
use Rattle.std.proofs.Common.{Result, Ok, Err, refl, sym, ap, ◌∙◌, subst, arith, true, false}
use Rattle.std.proofs.lemmas.List.{append_assoc, length-append, length-replicate, length-take}
use Rattle.std.proofs.lemmas.List.{length-drop, take_at, take-take, drop-take, take-append-drop}
use Rattle.jm_bytes.proofs.Choice.{same_ok, same_some}
use Rattle.jm_filed.specs.Filed.{IsFiled, IsIndexAt}
use Rattle.jm_form.specs.declared.container.Header.{Header}
use Rattle.jm_form.specs.declared.container.HeaderFault.{HeaderFault}
use Rattle.jm_form.specs.Head.{HoldsHead, IsFileOf, header_of, header_with, index_length}
use Rattle.jm_form.specs.declared.damage.Damage.{Damage}
use Rattle.jm_form.specs.Damages.{first_damage}
use Rattle.jm_form.specs.Validity.{ValidAs, look}
use Rattle.jm_form.proofs.HeadLaws.{head_read}
use Rattle.jm_form.proofs.LocalityLaws.{header_same}
use Rattle.jm_jrt.specs.Stat.{node_sought}
use Rattle.jm_outside.specs.Files.{Files, file, file_length, file_part, part}
use Rattle.jm_outside.specs.Outcome.{Shows}
use Rattle.jm_outside.specs.Shelves.{ShelfFailed, ShelfSeen}
use Rattle.jm_reader.specs.Walk.{entries_of, entries_with}
use Rattle.jm_texts.specs.InfoText.{header_text, info_text, info_with}
use Rattle.jm_valid.specs.declared.open_error.OpenError.{OpenError}
use Rattle.jm_valid.specs.declared.open_error.OpenError.TheVariants.{Damaged, Memory}
use Rattle.jm_valid.specs.Opened.{Front, Reports}
use Rattle.jm_words.specs.declared.tasks.ImageWork.{ImageWork}
use Rattle.jm_words.specs.declared.tasks.ImageWork.TheVariants as of
use Rattle.jm_inspect.specs.declared.complaint.Complaint.TheVariants as complaint
use Rattle.jm_inspect.specs.declared.stop.Stop.{Stop}
use Rattle.jm_inspect.specs.declared.stop.Stop.TheVariants as stop
use Rattle.jm_inspect.specs.FileParts.{Adds, Comes, HasFront, HasLength, HasPart, IsFileWithout, IsFrontOf, IsHeadOf, IsOpenFront, IsOpenFrontBy}
use Rattle.jm_inspect.specs.FileParts.{IsUnjudged, LacksPart, ReadsMore}
use Rattle.jm_inspect.specs.Outcome.{Outcome, damaged, image_outcome, not_there, reading}
use Rattle.jm_inspect.specs.Stops.{stop_of_open}
use Rattle.jm_inspect.specs.Works.{HasFile, ImageComes, JudgedComes, TextComesTo, WorkComesTo}
use Rattle.jm_inspect.specs.Steps.{StepComesTo, WorkDoes}
use Rattle.jm_inspect.specs.Sinks.{Seen}
use Rattle.jm_inspect.specs.Taken.{TakesBy, TakesFrom, TakesOf, TakesOfFront, WorkTakes, front_size, front_with}
use Rattle.jm_inspect.specs.Taken.{digests_size, extract_size, nodes_size, opened_size, opened_size_by, sought_size, unless_damaged}
use Rattle.jm_inspect.specs.Taken.{work_length}
use Rattle.jm_inspect.specs.World.{World, world}
use Rattle.jm_inspect.proofs.StepLaws.{comes_behind, complains, fails_at_once, step_as}

-- A told file

module _ (files : Files) (path b : List ℕ) (is : file files path ≡ Some b) where
  pub size_of : (size : ℕ) → Some size ≡ file_length files path → length b ≡ size
  size_of size long = sym (same_some _ _ (long ∙ ap (λ f. option_map (λ bytes. length bytes) f) is))

  pub part_of : (at count : ℕ) (bytes : List ℕ) → Some bytes ≡ file_part files path at count → bytes ≡ part b at count
  part_of at count bytes has = same_some _ _ (has ∙ ap (λ f. option_map (λ bytes. part bytes at count) f) is)

  of_part : (at count : ℕ) (bytes : List ℕ) → bytes ≡ part b at count → Some bytes ≡ file_part files path at count
  of_part at count bytes same = ap (λ l. Some l) same ∙ sym (ap (λ f. option_map (λ bytes. part bytes at count) f) is)

-- a file with a length is there
pub no_length : (files : Files) (path : List ℕ) (size : ℕ) → file files path ≡ None → Some size ≡ file_length files path → ⊥
no_length files path size is long = let none : Some size ≡ None = long ∙ ap (λ f. option_map (λ bytes. length bytes) f) is in cc

-- a part within the length of a file is there
pub never_lacks : (told : Option Files) (path : List ℕ) (size at count : ℕ) → HasLength told path (Some size) → at + count ≤ size
    → LacksPart told path at count → HasFile told path None
never_lacks None path size at count long within lacks = tt
never_lacks (Some files) path size at count long within lacks = go (file files path) refl
  where
    go : (found : Option (List ℕ)) → file files path ≡ found → None ≡ file files path
    go None is = sym is
    go (Some b) is =
        absurd (lacks (part b at count) (of_part files path b is at count (part b at count) refl)
        (omega (arith, length-take count (drop at b), length-drop at b, size_of files path b is size long, within)))

-- Fronts

-- a file begins so and has that many bytes
pub has_front : (told : Option Files) (path front : List ℕ) (size : ℕ) → HasLength told path (Some size)
    → HasPart told path 0 (length front) front → length front ≤ size → HasFront told path front size
has_front None path front size long begins within =
    let zeros : List ℕ = replicate (size - length front) 0 in (
      front ++ zeros,
      tt,
      record {
        begins = take_at front zeros (length front) refl;
        length_is = omega (arith, length-append front zeros, length-replicate {A = ℕ} (size - length front) 0, within);
      },
    )
has_front (Some files) path front size long begins within = go (file files path) refl
  where
    go : (found : Option (List ℕ)) → file files path ≡ found
        → (b : List ℕ) × (Some b ≡ file files path) × IsFileOf front size b
    go None is = absurd (no_length files path size is long)
    go (Some b) is = (
      b,
      sym is,
      record {
        begins = sym (part_of files path b is 0 (length front) front begins);
        length_is = size_of files path b is size long;
      },
    )

pub front_there : (told : Option Files) (path front : List ℕ) (size : ℕ) → IsFrontOf told path front size → HasFront told path front size
front_there told path front size is = has_front told path front size is.size_is is.begins is.holds.within

-- a front and what follows it
two_parts : (b : List ℕ) (n m : ℕ) → take n b ++ take m (drop n b) ≡ take (n + m) b
two_parts b n m =
    let front : take n (take (n + m) b) ≡ take n b = take-take n (n + m) b (omega arith) in
    let rest : drop n (take (n + m) b) ≡ take m (drop n b) = drop-take n m b in
    ap (λ l. l ++ take m (drop n b)) (sym front) ∙ ap (λ l. take n (take (n + m) b) ++ l) (sym rest) ∙ take-append-drop n (take (n + m) b)

pub parts_joined : (told : Option Files) (path front more : List ℕ) (count : ℕ) → HasPart told path 0 (length front) front
    → length more ≡ count → HasPart told path (length front) count more
    → HasPart told path 0 (length (front ++ more)) (front ++ more)
parts_joined None path front more count begins long follows = tt
parts_joined (Some files) path front more count begins long follows = go (file files path) refl
  where
    go : (found : Option (List ℕ)) → file files path ≡ found
        → Some (front ++ more) ≡ file_part files path 0 (length (front ++ more))
    go None is = let never : Some front ≡ None = begins ∙ ap (λ f. option_map (λ bytes. part bytes 0 (length front)) f) is in cc
    go (Some b) is =
        let first : front ≡ take (length front) b = part_of files path b is 0 (length front) front begins in
        let second : more ≡ take count (drop (length front) b) = part_of files path b is (length front) count more follows in
        let size : length front + count ≡ length (front ++ more) = omega (arith, length-append front more, long) in
        of_part files path b is 0 (length (front ++ more)) (front ++ more)
        (ap (λ l. l ++ more) first ∙ ap (λ l. take (length front) b ++ l) second ∙ two_parts b (length front) count
        ∙ ap (λ k. take k b) size)

-- the first bytes of a file
pub head_is : (told : Option Files) (path head : List ℕ) (size : ℕ) → HasLength told path (Some size)
    → Adds told path [] (min size 28) head → IsHeadOf told path head size
head_is told path head size long (more, is, count, has) = record {
  size_is = long;
  length_is = ap (λ l. length l) is ∙ count;
  begins = subst (λ (l : List ℕ). HasPart told path 0 (length l) l) (sym is)
      (subst (λ (k : ℕ). HasPart told path 0 k more) (sym count) has);
}

pub holds_head : (told : Option Files) (path head : List ℕ) (size : ℕ) → IsHeadOf told path head size → HoldsHead head size
holds_head told path head size is = omega (arith, is.length_is)

-- more bytes after them leave the header
header_longer : (head more : List ℕ) (size : ℕ) → HoldsHead head size → length (head ++ more) ≤ size
    → header_with (head ++ more) size ≡ header_with head size
header_longer head more size holds within =
    let zeros : List ℕ = replicate (size - length (head ++ more)) 0 in
    let long : length (head ++ (more ++ zeros)) ≡ size = omega (
      arith,
      length-append head (more ++ zeros),
      length-append more zeros,
      length-append head more,
      length-replicate {A = ℕ} (size - length (head ++ more)) 0,
      within,
    ) in
    let first : IsFileOf head size (head ++ (more ++ zeros)) = record {
      begins = take_at head (more ++ zeros) (length head) refl;
      length_is = long;
    } in
    let both : IsFileOf (head ++ more) size (head ++ (more ++ zeros)) = record {
      begins = ap (take (length (head ++ more))) (sym (append_assoc head more zeros)) ∙ take_at (head ++ more) zeros (length
          (head ++ more)) refl;
      length_is = long;
    } in
    header_same (head ++ more) size (head ++ (more ++ zeros)) both (omega (arith, holds, length-append head more))
    ∙ sym (header_same head size (head ++ (more ++ zeros)) first holds)

-- the index, if they have a header
pub front_is : (told : Option Files) (path head front : List ℕ) (size : ℕ) (h : Header) → IsHeadOf told path head size
    → header_with head size ≡ Ok h → Adds told path head (index_length h - 28) front → IsFrontOf told path front size
front_is told path head front size h is found (more, same, count, has) =
    let fits : index_length h ≤ size = (head_read head size h found).fits in
    let holds : HoldsHead head size = holds_head told path head size is in
    let long : length (head ++ more) ≡ index_length h = omega (arith, length-append head more, count, is.length_is, fits) in
    let longer : header_with (head ++ more) size ≡ Ok h = header_longer head more size holds (omega (arith, long, fits)) ∙ found in
    let ends : (other : Header) → header_with (head ++ more) size ≡ Ok other → length (head ++ more) ≡ index_length other
    = λ other also. long ∙ ap index_length (same_ok {E = HeaderFault} _ _ (sym longer ∙ also)) in
    subst (λ (l : List ℕ). IsFrontOf told path l size) (sym same) (record {
      size_is = is.size_is;
      begins = parts_joined told path head more (index_length h - 28) is.begins count has;
      holds = record {
        within = omega (arith, long, fits);
        head = omega (arith, holds, length-append head more);
        index = λ other also. omega (arith, ends other also);
      };
      ends = ends;
    })

-- within the length
pub head_within : (size : ℕ) → 0 + min size 28 ≤ size
head_within size = omega arith

pub index_within : (told : Option Files) (path head : List ℕ) (size : ℕ) (h : Header) → IsHeadOf told path head size
    → header_with head size ≡ Ok h → length head + (index_length h - 28) ≤ size
index_within told path head size h is found = omega (arith, is.length_is, (head_read head size h found).fits)

-- What was taken

-- what follows for each file's bytes follows for what was taken
pub takes_so : (told : Option Files) (path : List ℕ) (Takes Also : List ℕ → ℕ → ℕ → Type 0) (old new : ℕ)
    → ((b : List ℕ) → Takes b old new → Also b old new) → TakesBy told path Takes old new → TakesBy told path Also old new
takes_so told path Takes Also old new follows (found, has, takes) = (found, has, go found takes)
  where
    go : (found : Option (List ℕ)) → TakesOf Takes found old new → TakesOf Also found old new
    go None same = same
    go (Some b) takes = follows b takes

pub takes_nothing : (told : Option Files) (path : List ℕ) (most : List ℕ → ℕ) (n : ℕ) → TakesFrom told path most n n
takes_nothing None path most n = (None, tt, refl)
takes_nothing (Some files) path most n = (file files path, refl, go (file files path))
  where
    go : (found : Option (List ℕ)) → TakesOf (λ b before after. after ≤ before + most b) found n n
    go None = refl
    go (Some b) = omega arith

pub takes_none : (told : Option Files) (path : List ℕ) (most : List ℕ → ℕ) (old new : ℕ) → new ≡ old → TakesFrom told path most old new
takes_none told path most old new same = subst (λ n. TakesFrom told path most old n) (sym same) (takes_nothing told path most old)

-- a file that has a length is there
length_there : (told : Option Files) (path : List ℕ) (size : ℕ) → HasLength told path (Some size)
    → (b : List ℕ) × HasFile told path (Some b) × (length b ≡ size)
length_there None path size long = (replicate size 0, tt, length-replicate {A = ℕ} size 0)
length_there (Some files) path size long = go (file files path) refl
  where
    go : (found : Option (List ℕ)) → file files path ≡ found → (b : List ℕ) × (Some b ≡ file files path) × (length b ≡ size)
    go None is = absurd (no_length files path size is long)
    go (Some b) is = (b, sym is, size_of files path b is size long)

pub takes_there : (told : Option Files) (path : List ℕ) (most : List ℕ → ℕ) (size old new : ℕ) → HasLength told path (Some size)
    → ((b : List ℕ) → length b ≡ size → new ≤ old + most b) → TakesFrom told path most old new
takes_there told path most size old new long within =
    let there = length_there told path size long in (Some there.0, there.1, within there.0 there.2)

pub takes_more : (told : Option Files) (path : List ℕ) (most also : List ℕ → ℕ) (old new : ℕ) → ((b : List ℕ) → most b ≤ also b)
    → TakesFrom told path most old new → TakesFrom told path also old new
takes_more told path most also old new less takes =
    takes_so told path (λ b before after. after ≤ before + most b) (λ b before after. after ≤ before + also b) old new
    (λ b within. omega (arith, within, less b)) takes

-- a number that hangs on no file
takes_at_most : (told : Option Files) (path : List ℕ) (n old new : ℕ) → TakesFrom told path (λ b. n) old new → new ≤ old + n
takes_at_most told path n old new (found, has, takes) = go found takes
  where
    go : (found : Option (List ℕ)) → TakesOf (λ b before after. after ≤ before + n) found old new → new ≤ old + n
    go None same = omega (arith, same)
    go (Some b) within = within

-- a header is taken in any case
pub head_in_front : (b : List ℕ) → 28 ≤ front_size b
head_in_front b = go (header_of b)
  where
    go : (r : Result Header HeaderFault) → 28 ≤ front_with r
    go (Ok h) = omega arith
    go (Err fault) = omega arith

pub head_taken : (told : Option Files) (path : List ℕ) (old new : ℕ) (b : List ℕ) → TakesFrom told path (λ b. 28) old new
    → new ≤ old + front_size b
head_taken told path old new b takes = omega (arith, takes_at_most told path 28 old new takes, head_in_front b)

-- each file that begins with a header has it
front_long : (head : List ℕ) (size : ℕ) (h : Header) (b : List ℕ) → HoldsHead head size → header_with head size ≡ Ok h
    → IsFileOf head size b → front_size b ≡ index_length h
front_long head size h b holds found whole = ap front_with (sym (header_same head size b whole holds) ∙ found)

begins_too : (head more : List ℕ) (size : ℕ) (b : List ℕ) → IsFileOf (head ++ more) size b → IsFileOf head size b
begins_too head more size b whole = record {
  begins = sym (take-take (length head) (length (head ++ more)) b (omega (arith, length-append head more)))
      ∙ ap (take (length head)) whole.begins ∙ take_at head more (length head) refl;
  length_is = whole.length_is;
}

-- after the head the rest of the index
pub index_taken : (told : Option Files) (path head front : List ℕ) (size count : ℕ) (h : Header) (old mid new : ℕ) (b : List ℕ)
    → IsHeadOf told path head size → header_with head size ≡ Ok h → Adds told path head count front
    → TakesFrom told path (λ b. 28) old mid → new ≤ mid + (index_length h - 28) → IsFileOf front size b → new ≤ old + front_size b
index_taken told path head front size count h old mid new b is found (more, same, counted, has) takes rest whole =
    let first = takes_at_most told path 28 old mid takes in
    let most = front_long head size h b (holds_head told path head size is) found
    (begins_too head more size b (subst (λ (l : List ℕ). IsFileOf l size b) same whole)) in
    omega (arith, first, rest, most)

pub takes_index : (told : Option Files) (path head : List ℕ) (size : ℕ) (h : Header) (old mid new : ℕ) → IsHeadOf told path head size
    → header_with head size ≡ Ok h → TakesFrom told path (λ b. 28) old mid → new ≤ mid + (index_length h - 28)
    → TakesFrom told path front_size old new
takes_index told path head size h old mid new is found takes rest =
    let there = has_front told path head size is.size_is is.begins (omega (arith, is.length_is)) in
    let first = takes_at_most told path 28 old mid takes in
    let most = front_long head size h there.0 (holds_head told path head size is) found there.2 in
    (Some there.0, there.1, omega (arith, first, rest, most))

-- the front alone
pub takes_front : (damage_of : List ℕ → Option Damage) (told : Option Files) (path : List ℕ) (more : List ℕ → ℕ) (old new : ℕ)
    → TakesFrom told path front_size old new → TakesFrom told path (opened_size_by damage_of more) old new
takes_front damage_of told path more old new takes =
    takes_more told path front_size (opened_size_by damage_of more) old new (λ b. omega arith) takes

-- after the front of an image without a damage contents of it
pub takes_behind : (damage_of : List ℕ → Option Damage) (told : Option Files) (path b : List ℕ) (more : List ℕ → ℕ) (old now new : ℕ)
    → IsFileWithout damage_of told path b → now ≤ old + front_size b → new ≤ now + more b
    → TakesFrom told path (opened_size_by damage_of more) old new
takes_behind damage_of told path b more old now new (has, sound) first rest = (
  Some b,
  has,
  subst (λ (d : Option Damage). new ≤ old + (front_size b + unless_damaged d (more b))) (sym sound) (omega (arith, first, rest)),
)

pub takes_opened : (damage_of : List ℕ → Option Damage) (told : Option Files) (path : List ℕ) (front : Front) (more : List ℕ → ℕ)
    (old now new : ℕ) → IsOpenFrontBy damage_of told path front → TakesOfFront front front_size old now
    → TakesOfFront front more now new → TakesFrom told path (opened_size_by damage_of more) old new
takes_opened damage_of told path front more old now new (is, sound) taken also =
    let there = front_there told path front.bytes front.length is in
    let b = there.0 in
    takes_behind damage_of told path b more old now new (there.1, sound b there.2) (taken b there.2) (also b there.2)

-- a work may take nothing
pub work_takes_nothing : (told : Option Files) (path : List ℕ) (does : ImageWork) (n : ℕ) → WorkTakes told path does n n
work_takes_nothing told path of.Info n = takes_nothing told path front_size n
work_takes_nothing told path (of.Verify false) n = takes_nothing told path front_size n
work_takes_nothing told path (of.Verify true) n = takes_nothing told path nodes_size n
work_takes_nothing told path (of.List include false) n = takes_nothing told path front_size n
work_takes_nothing told path (of.List include true) n = takes_nothing told path (digests_size include) n
work_takes_nothing told path (of.Cat name) n = takes_nothing told path (sought_size (λ b. look b name)) n
work_takes_nothing told path (of.Ls folder) n = takes_nothing told path (sought_size (λ b. node_sought b folder)) n
work_takes_nothing told path (of.Extract dir include) n = takes_nothing told path (extract_size include) n
work_takes_nothing told path of.Serve n = takes_nothing told path (λ b. length b) n

-- a work that goes by the front takes what is said of it
pub work_takes : (told : Option Files) (path : List ℕ) (work : ImageWork) (old new : ℕ) → work ≢ of.Serve
    → TakesFrom told path (opened_size (work_length work)) old new → WorkTakes told path work old new
work_takes told path work old new goes takes = go work goes takes
  where
    no_more : (d : Option Damage) → unless_damaged d 0 ≡ 0
    no_more None = refl
    no_more (Some damage) = refl

    alone : TakesFrom told path (opened_size (λ b. 0)) old new → TakesFrom told path front_size old new
    alone = takes_more told path (opened_size (λ b. 0)) front_size old new (λ b. omega (arith, no_more (first_damage b)))

    go : (work : ImageWork) → work ≢ of.Serve → TakesFrom told path (opened_size (work_length work)) old new
        → WorkTakes told path work old new
    go of.Info goes takes = alone takes
    go (of.Verify false) goes takes = alone takes
    go (of.Verify true) goes takes = takes
    go (of.List include false) goes takes = alone takes
    go (of.List include true) goes takes = takes
    go (of.Cat name) goes takes = takes
    go (of.Ls folder) goes takes = takes
    go (of.Extract dir include) goes takes = takes
    go of.Serve goes takes = absurd (goes refl)

-- An answer with nothing there

-- a complaint holds of the file that isn't there
refused : {A B : Type 0} (path : List ℕ) (Is : A → Type 0) (Also : B → Type 0) (Lacks NotThere : Type 0) (given : Stop)
    → (Lacks → NotThere) → Comes path Is Lacks (Err given) → Comes path Also NotThere (Err given)
refused path Is Also Lacks NotThere (stop.Complaint given) follows (lacks, is) = (follows lacks, is)
refused path Is Also Lacks NotThere stop.Outside follows read = tt
refused path Is Also Lacks NotThere stop.Memory follows read = tt

-- no more was read of a file that has that many bytes, where they would be within them
pub unextended : {B : Type 0} (told mid : Option Files) (path old new : List ℕ) (Also : B → Type 0) (size count more : ℕ) (given : Stop)
    → mid ≡ told → HasLength told path (Some size) → more ≡ count → length old + count ≤ size
    → ReadsMore mid path old more new (Err given) → Comes path Also (HasFile told path None) (Err given)
unextended told mid path old new Also size count more given same long counted within read =
    refused {A = Unit {0}} path (λ done. Adds mid path old more new) Also (LacksPart mid path (length old) more) (HasFile told
    path None) given
    (λ lacks. never_lacks told path size (length old) count long within (subst (λ (t : Option Files). LacksPart t path (length
    old) count) same
    (subst (λ (k : ℕ). LacksPart mid path (length old) k) counted lacks))) read

-- An image that was opened

module _ {damage_of : List ℕ → Option Damage} (told : Option Files) (path : List ℕ) (front : Front)
    (opens : IsOpenFrontBy damage_of told path front) where
  -- a file of the front is there
  pub filed_there : (b : List ℕ) × IsFiled front told path b
  filed_there = let there = front_there told path front.bytes front.length opens.0 in (there.0, (there.2, there.1))

  pub index_there : IsIndexAt front told path
  index_there = record { alone = opens.0.ends; filed = go told filed_there }
    where
      go : (told : Option Files) → (b : List ℕ) × IsFiled front told path b
          → Shows told (λ files. (b : List ℕ) × (Some b ≡ file files path) × IsFileOf front.bytes front.length b)
      go None there = tt
      go (Some files) (b, (whole, has)) = (b, has, whole)

-- what comes of an image without a damage, by the work on it
abbrev pub of_work : ImageWork → Seen (List ℕ) → List ℕ → Outcome → Type 0
of_work work source b = TextComesTo source.told (image_outcome work b)

-- what comes of the bytes of a file without a damage comes of the image in the file of the path
sound_due : (damage_of : List ℕ → Option Damage) (Sound : List ℕ → Outcome → Type 0) (told : Option Files) (path b : List ℕ)
    → IsFileWithout damage_of told path b → (due : Outcome) → Sound b due → JudgedComes damage_of told path Sound due
sound_due damage_of Sound told path b (has, sound) due is = (Some b, has, rw sound is)

-- what is done with a file of a front that was opened is done with the image in the file of the path
pub opened : (Sound : List ℕ → Outcome → Type 0) (told : Option Files) (path : List ℕ) (front : Front) (b : List ℕ)
    {answer : Result (Unit {0}) Stop} {old new : World} → IsOpenFront told path front → IsFiled front told path b
    → StepComesTo (Sound b) reading answer old new → StepComesTo (ImageComes told path Sound) reading answer old new
opened Sound told path front b opens (whole, has) = step_as (sound_due first_damage Sound told path b (has, opens.1 b whole))

-- a front that was read, of whose files no damage is told, is open
pub front_opened : (damage_of : List ℕ → Option Damage) (told : Option Files) (path front : List ℕ) (size : ℕ) (index : Front)
    → index ≡ record { bytes = front; length = size } → IsFrontOf told path front size
    → ((b : List ℕ) → IsFileOf front size b → damage_of b ≡ None) → IsOpenFrontBy damage_of told path index
front_opened damage_of told path front size index is read sound =
    subst (λ (f : Front). IsOpenFrontBy damage_of told path f) (sym is) (read, sound)

-- a file whose damage is told isn't opened
unjudged : (damage_of : List ℕ → Option Damage) (told : Option Files) (path b : List ℕ) (error : OpenError) → HasFile told path (Some b)
    → Reports (damage_of b) error → IsUnjudged damage_of told path (stop_of_open error)
unjudged damage_of told path b (Damaged damage) has is = (Some b, has, (damage, is, refl))
unjudged damage_of told path b Memory has is = tt

-- nor the file of a front, whose damage is told
pub front_unopened : (damage_of : List ℕ → Option Damage) (told : Option Files) (path front : List ℕ) (size : ℕ) (error : OpenError)
    → IsFrontOf told path front size → ((b : List ℕ) → IsFileOf front size b → Reports (damage_of b) error)
    → IsUnjudged damage_of told path (stop_of_open error)
front_unopened damage_of told path front size error read damaged =
    let there = front_there told path front size read in
    unjudged damage_of told path there.0 error there.1 (damaged there.0 there.2)

-- what a step comes to that opens the image in the file of a path, by what comes of an image without a damage
module _ (damage_of : List ℕ → Option Damage) (Sound : List ℕ → Outcome → Type 0) (path : List ℕ) (shelf mid : ShelfSeen)
    (same : mid.told ≡ shelf.told) (source out : Seen (List ℕ)) where
  abbrev Due : Outcome → Type 0
  Due due = JudgedComes damage_of shelf.told path Sound due

  abbrev Does : Result (Unit {0}) Stop → World → Type 0
  Does answer new = StepComesTo Due reading answer (world shelf source out) new

  -- the image wasn't opened
  pub unopened : (given : Stop) → IsUnjudged damage_of shelf.told path given → (given ≡ stop.Outside → ShelfFailed shelf mid)
      → Does (Err given) (world mid source out)
  unopened (stop.Complaint given) (None, none, is) rose =
      complains Due reading (not_there path) given (complaint.NotThere path) (world shelf source out)
      (world mid source out) (None, none, refl) refl is (record { files = same; source = refl; output = refl })
  unopened (stop.Complaint given) (Some b, has, (damage, found, is)) rose =
      complains Due reading (damaged damage) given (complaint.Damaged damage) (world shelf source out)
      (world mid source out) (Some b, has, rw found refl) refl is (record { files = same; source = refl; output = refl })
  unopened stop.Outside never rose =
      fails_at_once Due reading (Err stop.Outside) (world shelf source out) (world mid source out) tt
      (record { files = same; source = refl; output = refl }) (λ failed. (refl, rose refl))
  unopened stop.Memory never rose =
      fails_at_once Due reading (Err stop.Memory) (world shelf source out) (world mid source out) tt
      (record { files = same; source = refl; output = refl }) (λ failed. cc)

  -- it was, and what was done then is due of the file
  pub opened_file : mid.faults ≡ shelf.faults → (b : List ℕ) (answer : Result (Unit {0}) Stop) (new : World)
      → IsFileWithout damage_of shelf.told path b
      → StepComesTo (Sound b) reading answer (world mid source out) new → Does answer new
  opened_file kept b answer new is step =
      comes_behind Due shelf (world mid source out) new answer same kept
      (step_as (sound_due damage_of Sound shelf.told path b is) step)

-- what a work does after the opening
pub work_behind : (work : ImageWork) (path : List ℕ) (answer : Result (Unit {0}) Stop) (shelf mid new : ShelfSeen)
    (out new_out : Seen (List ℕ)) → mid.told ≡ shelf.told → mid.faults ≡ shelf.faults → WorkDoes work path answer mid new out new_out
    → WorkDoes work path answer shelf new out new_out
work_behind work path answer shelf mid new out new_out same kept does source =
    comes_behind (WorkComesTo shelf.told source.told path work) shelf (world mid source out) (world new source new_out) answer same kept
    (subst (λ (told : Option Files). StepComesTo (WorkComesTo told source.told path work) reading answer (world mid source out)
    (world new source new_out)) same (does source))

-- What is put

pub info_is : (b : List ℕ) (h : Header) (size : ℕ) → header_of b ≡ Ok h → length b ≡ size → header_text h (size - index_length
    h) ≡ info_text b
info_is b h size header long = ap (λ k. header_text h (k - index_length h)) (sym long) ∙ ap (info_with b) (sym header)

pub count_is : (b : List ℕ) (h : Header) → ValidAs b h → h.count ≡ length (entries_of b)
count_is b h valid = valid.count ∙ ap (λ r. length (entries_with b r)) (sym valid.header)
