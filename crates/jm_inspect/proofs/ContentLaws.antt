-- The content that a look-up leads to, read from its file by the index.
use Rattle.std.proofs.Common.{◌≡◌, ◌+◌, ◌-◌, ◌≤◌, ℕ, List, ◌++◌, length, map, take, drop, replicate, Option, Some, None}
use Rattle.std.proofs.Common.{Result, Ok, Err, option_map, refl, sym, ap, ◌∙◌, arith, subst}
use Rattle.std.proofs.lemmas.List.{length-append, length-drop, length-replicate, length-take, take_at, drop_at}
use Rattle.jm_bytes.proofs.Choice.{same_ok}
use Rattle.jm_extract.specs.Filed.{sizes}
use Rattle.jm_extract.proofs.SizeLaws.{sizes_taken}
use Rattle.jm_filed.specs.Filed.{IsFiled}
use Rattle.jm_filed.specs.Taken.{LieWithin, taken_as}
use Rattle.jm_filed.specs.declared.taking.TakenEntry.{TakenEntry}
use Rattle.jm_form.specs.declared.container.Header.{Header}
use Rattle.jm_form.specs.declared.container.HeaderFault.{HeaderFault}
use Rattle.jm_form.specs.declared.rows.Row.{Row}
use Rattle.jm_form.specs.Damages.{first_damage}
use Rattle.jm_form.specs.Entries.{content_of}
use Rattle.jm_form.specs.Head.{IsFileOf, header_of, header_with, index_length}
use Rattle.jm_form.specs.Places.{contents}
use Rattle.jm_names.specs.ByName.{Named}
use Rattle.jm_names.specs.UtfForms.{utf}
use Rattle.jm_form.specs.Validity.{ValidAs, look}
use Rattle.jm_form.proofs.LocalityLaws.{header_of_front, header_same}
use Rattle.jm_form.proofs.Validity.{sound_valid}
use Rattle.jm_outside.specs.Files.{Files}
use Rattle.jm_outside.specs.Shelves.{ShelfFailed, ShelfSeen}
use Rattle.jm_reader.specs.Listing.{IsIndex}
use Rattle.jm_reader.specs.Look.{SoundIn, head}
use Rattle.jm_reader.proofs.HeadLaws.{head_is}
use Rattle.jm_reader.proofs.IndexLaws.{lies_within}
use Rattle.jm_valid.specs.Opened.{Front}
use Rattle.jm_words.specs.declared.tasks.ImageWork.{ImageWork}
use Rattle.jm_words.specs.declared.tasks.ImageWork.TheVariants as work_of
use Rattle.jm_inspect.specs.declared.stop.Stop.{Stop}
use Rattle.jm_inspect.specs.declared.stop.Stop.TheVariants as stop
use Rattle.jm_inspect.specs.Cat.{content_of as content_found}
use Rattle.jm_inspect.specs.FileParts.{Comes, IsFrontOf, IsOpenFront, IsPart, IsUnopened, LacksPart, ReadsPart}
use Rattle.jm_inspect.specs.Outcome.{Outcome, cat_outcome, done, image_outcome, not_there, reading}
use Rattle.jm_inspect.specs.Steps.{PutDoes, PutsOfFront, StepComesTo, WorkDoes}
use Rattle.jm_inspect.specs.Works.{WorkComesTo}
use Rattle.jm_inspect.specs.Sinks.{Seen}
use Rattle.jm_inspect.specs.World.{world}
use Rattle.jm_inspect.specs.Sought.{BeginsAt, IsContent, LookUp, ReadsContent, Seeks, row_size}
use Rattle.jm_inspect.specs.Taken.{TakesOfFront, contents_size}
use Rattle.jm_inspect.proofs.FrontLaws.{filed_there, front_there, never_lacks, of_work, opened, part_of, unopened}
use Rattle.jm_inspect.proofs.StepLaws.{put_on_text}

-- A file of an index, with a content

-- the files of an open front have a header, which is that of the front
front_header : (told : Option Files) (path : List ℕ) (front : Front) → IsOpenFront told path front
    → (h : Header) × (header_with front.bytes front.length ≡ Ok h)
front_header told path front (is, sound) =
    let found = front_there told path front.bytes front.length is in
    let valid = sound_valid found.0 (sound found.0 found.2) in
    (valid.0, header_same front.bytes front.length found.0 found.2 is.holds.head ∙ valid.1.header)

-- the front is the index of its files
pub is_index : (told : Option Files) (path : List ℕ) (front : Front) → IsOpenFront told path front
    → (h : Header) × IsIndex front.bytes front.length h
is_index told path front (is, sound) = (
  read.0,
  record {
    within = is.holds.within;
    header = header_of_front front.bytes front.length read.0 read.1 (is.holds.index read.0 read.1);
    valid = λ b file.
        let valid = sound_valid b (sound b file) in
        let same : valid.0 ≡ read.0 = same_ok {E = HeaderFault} valid.0 read.0
        (sym valid.1.header ∙ sym (header_same front.bytes front.length b file is.holds.head) ∙ read.1) in
        subst (ValidAs b) same valid.1;
  },
)
  where
    read : (h : Header) × (header_with front.bytes front.length ≡ Ok h)
    read = front_header told path front (is, sound)

-- the front, and a content where a row has it
abbrev pub file_with : List ℕ → ℕ → Row → List ℕ → List ℕ
file_with front size row content =
    front ++ (replicate row.offset 0 ++ (content ++ replicate (size - length front - row.offset - row.size) 0))

has_content : (told : Option Files) (path front : List ℕ) (size : ℕ) (h : Header) (row : Row) (content : List ℕ)
    → IsFrontOf told path front size → header_with front size ≡ Ok h → SoundIn (record { bytes = front; length = size }) row
    → length content ≡ row.size
    → IsFileOf front size (file_with front size row content)
    × (content_of (contents (file_with front size row content) (head (file_with front size row content))) row ≡ content)
has_content told path front size h row content is read sound long = (whole, same)
  where
    gap : List ℕ
    gap = replicate row.offset 0

    rest : List ℕ
    rest = replicate (size - length front - row.offset - row.size) 0

    behind : List ℕ
    behind = gap ++ (content ++ rest)

    b : List ℕ
    b = file_with front size row content

    lies : row.offset + row.size ≤ size - index_length h
    lies = lies_within front size h row (header_of_front front size h read (is.holds.index h read)) sound

    whole : IsFileOf front size b
    whole = record {
      begins = take_at front behind (length front) refl;
      length_is = omega (
        arith,
        length-append front behind,
        length-append gap (content ++ rest),
        length-append content rest,
        length-replicate {A = ℕ} row.offset 0,
        length-replicate {A = ℕ} (size - length front - row.offset - row.size) 0,
        long,
        lies,
        is.ends h read,
        is.holds.within,
      );
    }

    header : header_of b ≡ Ok h
    header = sym (header_same front size b whole is.holds.head) ∙ read

    same : content_of (contents b (head b)) row ≡ content
    same =
        ap (λ g. content_of (contents b g) row) (head_is b h header)
        ∙ ap (λ l. take row.size (drop row.offset l)) (drop_at front behind (index_length h) (is.ends h read))
        ∙ ap (take row.size) (drop_at gap (content ++ rest) row.offset (length-replicate {A = ℕ} row.offset 0))
        ∙ take_at content rest row.size long

-- what was read where the content of a row begins is the content of a file with this front, which
-- is that of the path where the files are told
content_there : (told : Option Files) (path : List ℕ) (front : Front) (row : Row) (place : ℕ) (content : List ℕ)
    → IsOpenFront told path front → SoundIn front row → BeginsAt front row place → IsPart told path place row.size content
    → (b : List ℕ) × IsFiled front told path b × (content_of (contents b (head b)) row ≡ content)
content_there None path front row place content opened lies begins (long, has) =
    let read = front_header None path front opened in
    let has = has_content None path front.bytes front.length read.0 row content opened.0 read.1 lies long in
    (file_with front.bytes front.length row content, (has.0, tt), has.1)
content_there (Some files) path front row place content opened lies begins (long, has) =
    let found = front_there (Some files) path front.bytes front.length opened.0 in
    let part = part_of files path found.0 (sym found.1) place row.size content has in
    (found.0, (found.2, found.1), sym (begins.content found.0 found.2) ∙ sym part)

-- What a look-up finds

nothing_found : (found : Option (Row × List ℕ)) → None ≡ option_map (λ (f : Row × List ℕ). f.0) found
    → option_map (λ (f : Row × List ℕ). f.1) found ≡ None
nothing_found None none = refl
nothing_found (Some found) none = cc

-- what was read of a row's content is what the look-up finds in a file of this front
pub sought_there : (told : Option Files) (path : List ℕ) (front : Front) (sought : LookUp) (row : Option Row)
    (content : Option (List ℕ)) → IsOpenFront told path front → Seeks sought front row → ReadsContent told path front row (Ok content)
    → (b : List ℕ) × IsFiled front told path b × (option_map (λ (f : Row × List ℕ). f.1) (sought b) ≡ content)
sought_there told path front sought None content opened seeks reads =
    let found = front_there told path front.bytes front.length opened.0 in
    let none : None ≡ content = sym (same_ok {E = Stop} _ _ reads) in
    (found.0, (found.2, found.1), nothing_found (sought found.0) (seeks.found found.0 found.2) ∙ none)
sought_there told path front sought (Some row) None opened seeks (place, begins, never) = absurd never
sought_there told path front sought (Some row) (Some content) opened seeks (place, begins, part) =
    let there = content_there told path front row place content opened seeks.sound begins part in
    let b = there.0 in
    (b, there.1, ap (option_map (λ (f : Row × List ℕ). f.1)) (seeks.content b there.1.0) ∙ ap (λ l. Some l) there.2)

-- what `cat` comes to by the content alone
abbrev pub cat_of : List ℕ → Option (List ℕ) → Outcome
cat_of name None = not_there (utf name)
cat_of name (Some content) = done content

-- `cat` puts it
pub cat_due : (name : List ℕ) (found : Option (Row × List ℕ)) (content : Option (List ℕ))
    → option_map (λ (f : Row × List ℕ). f.1) found ≡ content → cat_outcome name found ≡ cat_of name content
cat_due name None content same = ap (cat_of name) same
cat_due name (Some found) content same = ap (cat_of name) same

cat_alone : (name : List ℕ) (content : Option (List ℕ)) → (cat_of name content).session ≡ None
cat_alone name None = refl
cat_alone name (Some content) = refl

-- What wasn't read

part_unread : (told : Option Files) (path : List ℕ) (front : Front) (place count : ℕ) (given : Stop) → IsOpenFront told path front
    → ((b : List ℕ) → IsFileOf front.bytes front.length b → place + count ≤ front.length) → ReadsPart told path place count (Err given)
    → IsUnopened told path given
part_unread told path front place count (stop.Complaint given) (is, sound) within (lacks, given_is) =
    let found = front_there told path front.bytes front.length is in
    (None, never_lacks told path front.length place count is.size_is (within found.0 found.2) lacks, given_is)
part_unread told path front place count stop.Outside opened within read = tt
part_unread told path front place count stop.Memory opened within read = tt

sought_unread : (told : Option Files) (path : List ℕ) (front : Front) (row : Option Row) (given : Stop) → IsOpenFront told path front
    → ReadsContent told path front row (Err given) → IsUnopened told path given
sought_unread told path front None given opened reads = cc
sought_unread told path front (Some row) given opened (place, begins, reads) =
    part_unread told path front place row.size given opened begins.within (go given reads)
  where
    go : (given : Stop) → Comes path (λ content. IsContent told path place (Some row) content)
        (LacksPart told path place row.size) (Err given) → ReadsPart told path place row.size (Err given)
    go (stop.Complaint given) reads = reads
    go stop.Outside reads = tt
    go stop.Memory reads = tt

-- Of the image in the file of a path the content of a row is read

module _ (path : List ℕ) (shelf new : ShelfSeen) (stays : new.told ≡ shelf.told) (source out : Seen (List ℕ)) (front : Front)
    (opens : IsOpenFront shelf.told path front) where
  -- what is put is due of a file with what was read
  pub content_put : (work : ImageWork) (b : List ℕ) (due : Outcome) (answer : Result (Unit {0}) Stop) (new_out : Seen (List ℕ))
      → IsFiled front shelf.told path b → new.faults ≡ shelf.faults → due.session ≡ None → ((t : List ℕ) → image_outcome work b t ≡ due)
      → PutDoes due answer out new_out
      → StepComesTo (WorkComesTo shelf.told source.told path work) reading answer (world shelf source out) (world new source new_out)
  content_put work b due answer new_out filed quiet alone is put =
      opened (of_work work source) shelf.told path front b opens filed
      (put_on_text (image_outcome work b) due answer (world shelf source out) (world new source new_out) put stays refl alone
      (λ ok. (quiet, refl)) is)

  -- it puts the content that was read, or complains
  pub cat_put : (name : List ℕ) (row : Option Row) (content shown : Option (List ℕ)) (answer : Result (Unit {0}) Stop)
      (new_out : Seen (List ℕ)) → Seeks (λ b. look b name) front row → ReadsContent shelf.told path front row (Ok content)
      → new.faults ≡ shelf.faults → content ≡ shown → PutDoes (cat_of name shown) answer out new_out
      → StepComesTo (WorkComesTo shelf.told source.told path (work_of.Cat name)) reading answer (world shelf source out)
      (world new source new_out)
  cat_put name row content shown answer new_out seeks reads quiet held put =
      let there = sought_there shelf.told path front (λ b. look b name) row content opens seeks reads in
      let b = there.0 in
      content_put (work_of.Cat name) b (cat_of name shown) answer new_out there.1 quiet (cat_alone name shown)
      (λ t. cat_due name (look b name) content there.2 ∙ ap (cat_of name) held) put

  -- the content wasn't read
  pub content_unread : (work : ImageWork) (row : Option Row) (given : Stop) → ReadsContent shelf.told path front row (Err given)
      → (given ≡ stop.Outside → ShelfFailed shelf new)
      → StepComesTo (WorkComesTo shelf.told source.told path work) reading (Err given) (world shelf source out) (world new source out)
  content_unread work row given reads =
      unopened first_damage (of_work work source) path shelf new stays source out given (sought_unread shelf.told path front row given opens reads)

-- a text of the front is put
pub index_put : (work : ImageWork) (text : List ℕ → List ℕ) (path : List ℕ) (shelf : ShelfSeen) (front : Front)
    (answer : Result (Unit {0}) Stop) (out new_out : Seen (List ℕ)) → IsOpenFront shelf.told path front
    → ((b t : List ℕ) → image_outcome work b t ≡ done (text b)) → PutsOfFront front text answer out new_out
    → WorkDoes work path answer shelf shelf out new_out
index_put work text path shelf front answer out new_out opens is puts source =
    let there = filed_there shelf.told path front opens in
    let b = there.0 in
    content_put path shelf shelf refl source out front opens work b (done (text b)) answer new_out there.1 refl refl (is b)
    (puts b there.1.0)

-- What was taken

-- a content within the file is as long as its row says
content_long : (b : List ℕ) (found : Option (Row × List ℕ)) (row : Row) (place : ℕ)
    → found ≡ Some (row, content_of (contents b (head b)) row)
    → take row.size (drop place b) ≡ content_of (contents b (head b)) row → place + row.size ≤ length b
    → row.size ≤ length (content_found found)
content_long b found row place is begins within =
    let long : length (content_found found) ≡ length (take row.size (drop place b))
    = ap (λ f. length (content_found f)) is ∙ ap (λ l. length l) (sym begins) in
    omega (arith, long, length-take row.size (drop place b), length-drop place b, within)

found_long : (told : Option Files) (path : List ℕ) (front : Front) (sought : LookUp) (row : Option Row)
    (result : Result (Option (List ℕ)) Stop) → Seeks sought front row → ReadsContent told path front row result
    → (b : List ℕ) → IsFileOf front.bytes front.length b → row_size row ≤ length (content_found (sought b))
found_long told path front sought None result seeks reads b whole = omega arith
found_long told path front sought (Some row) result seeks (place, begins, reads) b whole =
    content_long b (sought b) row place (seeks.content b whole) (begins.content b whole)
    (omega (arith, begins.within b whole, whole.length_is))

-- the content of what the look-up finds
pub takes_sought : (told : Option Files) (path : List ℕ) (front : Front) (sought : LookUp) (row : Option Row)
    (result : Result (Option (List ℕ)) Stop) (old new : ℕ) → new ≤ old + row_size row → Seeks sought front row
    → ReadsContent told path front row result → TakesOfFront front (λ b. length (content_found (sought b))) old new
takes_sought told path front sought row result old new more seeks reads b whole =
    let long = found_long told path front sought row result seeks reads b whole in omega (arith, more, long)

-- the contents of entries that were chosen
pub takes_chosen : (front : Front) (ts : List TakenEntry) (chosen : List ℕ → List Named)
    → ((b : List ℕ) → IsFileOf front.bytes front.length b → map (taken_as b) ts ≡ chosen b) → LieWithin front.length ts
    → (old new : ℕ) → new ≤ old + sizes ts → TakesOfFront front (λ b. contents_size (chosen b)) old new
takes_chosen front ts chosen are within old new more b file =
    let long = sizes_taken front.length b ts file.length_is within in
    let same = ap contents_size (are b file) in
    omega (arith, more, long, same)
