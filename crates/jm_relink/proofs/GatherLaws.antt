-- The resources of chosen modules: their names differ, and the first bad name of all is that of a part.
use Rattle.std.proofs.Common.{◌≡◌, ◌≢◌, ℕ, zero, suc, ◌+◌, ◌<◌, false, List, [], ◌∷◌, ◌++◌, take, drop, rules}
use Rattle.std.proofs.Common.{length, map, get_or, All, AllPairs, Contains, Option, Some, None, option_map}
use Rattle.std.proofs.Common.{slice_get, Result, Err, refl, sym, ap, subst, ◌∙◌, arith}
use Rattle.std.proofs.lemmas.Grind.{flat_map-append}
use Rattle.std.proofs.lemmas.List.{drop_more, map-append, take-append-drop, take_more}
use Rattle.std.proofs.lemmas.List.Elements.{All-contains, All-head, All-tail, filter_map-append}
use Rattle.std.proofs.lemmas.Option.{slice_get-get_or, slice_get-map}
use Rattle.std.specs.List.{cons_option, filter_map, flat_map, list_any, zip}
use Rattle.jm_bytes.specs.Checks.{first_fault}
use Rattle.jm_bytes.specs.Results.{IfAnswered}
use Rattle.jm_bytes.specs.declared.faults.Or.{Or}
use Rattle.jm_bytes.specs.declared.faults.Or.TheVariants.{Fault, Memory}
use Rattle.jm_bytes.proofs.CheckLaws.{first_fault_append_none, first_fault_append_some}
use Rattle.jm_bytes.proofs.Choice.{same_some}
use Rattle.jm_bytes.proofs.Members.{all_from_contains, from_filter_map, from_map}
use Rattle.jm_bytes.proofs.Pairs.{pairs_append, pairs_filter_map, pairs_head, pairs_map, pairs_none, pairs_tail, pairs_weaker}
use Rattle.jm_bytes.proofs.SameOrder.{from_flat_map}
use Rattle.jm_closure.specs.declared.candidate.Candidate.{Candidate}
use Rattle.jm_names.specs.Names.{is_slash}
use Rattle.jm_pool.specs.Pairs.{bytes_of, names_of}
use Rattle.jm_relink.specs.declared.fault.GatherFault.{GatherFault}
use Rattle.jm_relink.specs.declared.modules.ImageFile.{ImageFile}
use Rattle.jm_relink.specs.declared.modules.ImageModules.{ImageModules}
use Rattle.jm_relink.specs.Files.{file_in, files_in}
use Rattle.jm_names.specs.ByName.{Named}
use Rattle.jm_relink.specs.Gathering.{AreModules, ArePlaces, first_bad_name, gathered}
use Rattle.jm_relink.specs.Gathering.{name_refusal, named_files, resource_of, resources_with}
use Rattle.jm_bytes.proofs.Choice.{mapped_some}
use Rattle.jm_bytes.proofs.ByteOrderLaws.{unequal}
use Rattle.jm_relink.proofs.ListLaws.{append_none}
use Rattle.jm_relink.proofs.NameLaws.{names_tell}

-- what is due of another answer with the same refusal
pub refused_as : {A B F : Type 0} (P : Result A F → Type 0) (Q : Result B F → Type 0) (e : Or F)
    → ((fault : F) → P (Err fault) → Q (Err fault)) → IfAnswered P (Err e) → IfAnswered Q (Err e)
refused_as P Q (Fault fault) to due = to fault due
refused_as P Q Memory to due = tt

-- Names that are new

pub bytes_of_none : (name : List ℕ) (pairs : List Named) → All (λ other. other ≢ name) (names_of pairs) → bytes_of name pairs ≡ None
bytes_of_none name [] all = search (rules)
bytes_of_none name (p ∷ pairs) all = search (rules, All-head, All-tail, unequal, (bytes_of_none name pairs (All-tail (λ other. other ≢ name) p.0 (names_of pairs) all)))

-- One file after another

abbrev pub all_with : List ℕ → List ℕ → List ImageFile → List Named
all_with b m fs = resources_with m (files_in b fs)

with_append : (b m : List ℕ) (es fs : List ImageFile) → all_with b m (es ++ fs) ≡ all_with b m es ++ all_with b m fs
with_append b m es fs =
    ap (map (resource_of m)) (map-append (file_in b) es fs) ∙ map-append (resource_of m) (files_in b es) (files_in b fs)

parted_at : (fs : List ImageFile) (i : ℕ) (f : ImageFile) → i < length fs → f ≡ get_or fs i f → fs ≡ take i fs ++ f ∷ drop (i + 1) fs
parted_at fs i f below is =
    sym (take-append-drop i fs) ∙ ap (λ gs. take i fs ++ gs) (drop_more fs i f below ∙ ap (λ g. g ∷ drop (i + 1) fs) (sym is))

resources_parted : (b m : List ℕ) (fs : List ImageFile) (i : ℕ) (f : ImageFile) → i < length fs → f ≡ get_or fs i f
    → all_with b m fs ≡ all_with b m (take i fs) ++ (resource_of m (file_in b f) ∷ [] ++ all_with b m (drop (i + 1) fs))
resources_parted b m fs i f below is = ap (all_with b m) (parted_at fs i f below is)
    ∙ with_append b m (take i fs) (f ∷ drop (i + 1) fs)

pub resources_more : (b m : List ℕ) (fs : List ImageFile) (i : ℕ) (f : ImageFile) → i < length fs → f ≡ get_or fs i f
    → all_with b m (take (i + 1) fs) ≡ all_with b m (take i fs) ++ resource_of m (file_in b f) ∷ []
resources_more b m fs i f below is =
    ap (all_with b m) (take_more fs i f below ∙ ap (λ g. take i fs ++ g ∷ []) (sym is)) ∙ with_append b m (take i fs) (f ∷ [])

pub bad_append_none : (rs qs : List Named) → first_bad_name rs ≡ None → first_bad_name (rs ++ qs) ≡ first_bad_name qs
bad_append_none rs qs none = ap first_fault (map-append name_refusal rs qs) ∙ first_fault_append_none (map name_refusal rs)
    (map name_refusal qs) none

bad_append_some : (rs qs : List Named) (e : GatherFault) → first_bad_name rs ≡ Some e → first_bad_name (rs ++ qs) ≡ Some e
bad_append_some rs qs e some = ap first_fault (map-append name_refusal rs qs) ∙ first_fault_append_some (map name_refusal rs)
    (map name_refusal qs) e some

-- the refusal of a part, where nothing before it is refused, is that of the whole
pub refused_further : (rs front part back : List Named) (e : GatherFault) → rs ≡ front ++ (part ++ back)
    → first_bad_name front ≡ None → first_bad_name part ≡ Some e → first_bad_name rs ≡ Some e
refused_further rs front part back e is none given =
    ap first_bad_name is ∙ bad_append_none front (part ++ back) none ∙ bad_append_some part back e given

pub bad_one : (r : Named) (o : Option GatherFault) → name_refusal r ≡ o → first_bad_name (r ∷ []) ≡ o
bad_one r o is = ap (λ c. first_fault (c ∷ [])) is ∙ go o
  where
    go : (p : Option GatherFault) → first_fault (p ∷ []) ≡ p
    go None = refl
    go (Some e) = refl

pub file_refused : (b m : List ℕ) (fs : List ImageFile) (i : ℕ) (f : ImageFile) (e : GatherFault)
    → i < length fs → f ≡ get_or fs i f → first_bad_name (all_with b m (take i fs)) ≡ None
    → name_refusal (resource_of m (file_in b f)) ≡ Some e → first_bad_name (all_with b m fs) ≡ Some e
file_refused b m fs i f e below is none given =
    refused_further (all_with b m fs) (all_with b m (take i fs)) (resource_of m (file_in b f) ∷ [])
    (all_with b m (drop (i + 1) fs)) e
    (resources_parted b m fs i f below is) none (bad_one (resource_of m (file_in b f)) (Some e) given)

-- Elements at places

pub all_got : {X : Type 0} (P : X → Type 0) (xs : List X) (i : ℕ) (x : X) → All P xs → slice_get xs i ≡ Some x → P x
all_got P [] i x all is = cc
all_got P (y ∷ xs) zero x all is = subst P (same_some y x is) (All-head P y xs all)
all_got P (y ∷ xs) (suc i) x all is = all_got P xs i x (All-tail P y xs all) is

zipped : {X Y : Type 0} (xs : List X) (ys : List Y) (i : ℕ) (x : X) (y : Y) → slice_get xs i ≡ Some x → slice_get ys i ≡ Some y
    → slice_get (zip xs ys) i ≡ Some (x, y)
zipped [] ys i x y one other = cc
zipped (a ∷ xs) [] i x y one other = cc
zipped (a ∷ xs) (b ∷ ys) zero x y one other = rw (same_some a x one, same_some b y other) refl
zipped (a ∷ xs) (b ∷ ys) (suc i) x y one other = zipped xs ys i x y one other

unzipped : {X Y : Type 0} (xs : List X) (ys : List Y) (i : ℕ) (z : X × Y) → slice_get (zip xs ys) i ≡ Some z
    → (slice_get xs i ≡ Some z.0) × (slice_get ys i ≡ Some z.1)
unzipped [] ys i z is = cc
unzipped (a ∷ xs) [] i z is = cc
unzipped {X = X} {Y = Y} (a ∷ xs) (b ∷ ys) zero z is =
    let same : ◌≡◌ {A = X × Y} (a, b) z = same_some (a, b) z is in
    (ap (λ (w : X × Y). Some w.0) same, ap (λ (w : X × Y). Some w.1) same)
unzipped (a ∷ xs) (b ∷ ys) (suc i) z is = unzipped xs ys i z is

-- One module after another

gathered_append : (b : List ℕ) (modules : ImageModules) (ps qs : List ℕ) → gathered b modules (ps ++ qs) ≡ gathered b modules ps
    ++ gathered b modules qs
gathered_append b modules ps qs = search (rules, slice_get, flat_map-append, filter_map-append)

-- the module at a place
module_at : (b : List ℕ) (modules : ImageModules) (p : ℕ) (c : Candidate) (fs : List ImageFile) → slice_get modules.candidates p
    ≡ Some c
    → slice_get modules.files p ≡ Some fs → gathered b modules (p ∷ []) ≡ all_with b c.descriptor.name fs
module_at b modules p c fs one other =
    let name : slice_get (map (λ (k : Candidate). k.descriptor.name) modules.candidates) p ≡ Some c.descriptor.name =
    slice_get-map (λ (k : Candidate). k.descriptor.name) modules.candidates p ∙ ap (option_map (λ (k : Candidate). k.descriptor.name)) one
    in
    let files : slice_get (map (files_in b) modules.files) p ≡ Some (files_in b fs) = slice_get-map (files_in b) modules.files p
    ∙ ap (option_map (files_in b)) other in
    let is : slice_get (named_files b modules) p ≡ Some (c.descriptor.name, files_in b fs) =
    zipped (map (λ (k : Candidate). k.descriptor.name) modules.candidates) (map (files_in b) modules.files) p c.descriptor.name
    (files_in b fs) name files
    in
    ap (λ (o : Option (List ℕ × List Named)). flat_map (λ (m : List ℕ × List Named). resources_with m.0 m.1) (cons_option o [])) is
    ∙ append_none (all_with b c.descriptor.name fs)

pub module_there : (b : List ℕ) (modules : ImageModules) (p : ℕ) (c : Candidate) (fs : List ImageFile) → AreModules modules
    → p < length modules.candidates → c ≡ get_or modules.candidates p c → fs ≡ get_or modules.files p fs
    → gathered b modules (p ∷ [])
    ≡ all_with b c.descriptor.name fs
module_there b modules p c fs are within one other = search (rules, slice_get-get_or, module_at)

-- the resources of the next module stand after those of the earlier ones
pub record IsNext (b : List ℕ) (modules : ImageModules) (places : List ℕ) (i : ℕ) (rs : List Named) : Type 0 where
  pub more : gathered b modules (take (i + 1) places) ≡ gathered b modules (take i places) ++ rs
  pub whole : gathered b modules places ≡ gathered b modules (take i places) ++ (rs ++ gathered b modules (drop (i + 1) places))

pub next_module : (b : List ℕ) (modules : ImageModules) (places : List ℕ) (i p : ℕ) → i < length places → p ≡ get_or places i 0
    → IsNext b modules places i (gathered b modules (p ∷ []))
next_module b modules places i p below is = record {
  more = ap (gathered b modules) (take_more places i 0 below ∙ ap (λ q. take i places ++ q ∷ []) (sym is))
      ∙ gathered_append b modules (take i places) (p ∷ []);
  whole = ap (gathered b modules) (sym (take-append-drop i places) ∙ ap (λ qs. take i places ++ qs) (drop_more places i 0 below
      ∙ ap (λ q. q ∷ drop (i + 1) places) (sym is)))
      ∙ gathered_append b modules (take i places) (p ∷ drop (i + 1) places)
      ∙ ap (λ qs. gathered b modules (take i places) ++ qs) (gathered_append b modules (p ∷ []) (drop (i + 1) places));
}

-- All names differ

-- the name of a module has no slash, and its files have paths that differ
record IsWhole (m : List ℕ × List Named) : Type 0 where
  whole : list_any is_slash m.0 ≡ false
  apart : AllPairs (λ e f. e.0 ≢ f.0) m.1

abbrev Differ : Named → Named → Type 0
Differ r q = r.0 ≢ q.0

own_apart : (m : List ℕ × List Named) → IsWhole m → AllPairs Differ (resources_with m.0 m.1)
own_apart m is =
    pairs_map Differ (resource_of m.0) m.1
    (pairs_weaker (λ (e f : Named). e.0 ≢ f.0) (λ e f. Differ (resource_of m.0 e) (resource_of m.0 f))
    (λ e f apart same. apart (names_tell m.0 m.0 e.0 f.0 is.whole is.whole same).1) m.1 is.apart)

two_apart : (m k : List ℕ × List Named) → IsWhole m → IsWhole k → m.0 ≢ k.0 → (r q : Named) → Contains (resources_with m.0 m.1) r
    → Contains (resources_with k.0 k.1) q → Differ r q
two_apart m k one other apart r q there too same =
    let first = from_map (resource_of m.0) m.1 r there in
    let second = from_map (resource_of k.0) k.1 q too in
    apart (names_tell m.0 k.0 first.0.0 second.0.0 one.whole other.whole (ap (λ (x : Named). x.0) first.2 ∙ same
    ∙ sym (ap (λ (x : Named). x.0) second.2))).0

abbrev Other : List ℕ × List Named → List ℕ × List Named → Type 0
Other m k = m.0 ≢ k.0

modules_apart : (ms : List (List ℕ × List Named)) → All IsWhole ms → AllPairs Other ms
    → AllPairs Differ (flat_map (λ m. resources_with m.0 m.1) ms)
modules_apart [] whole apart = pairs_none Differ
modules_apart (m ∷ ms) whole apart =
    pairs_append Differ (resources_with m.0 m.1) (flat_map (λ (k : List ℕ × List Named). resources_with k.0 k.1) ms)
    (own_apart m (All-head IsWhole m ms whole))
    (modules_apart ms (All-tail IsWhole m ms whole) (pairs_tail Other m ms apart))
    (λ r q there too.
    let from = from_flat_map (λ (k : List ℕ × List Named). resources_with k.0 k.1) ms q too in
    two_apart m from.0 (All-head IsWhole m ms whole) (All-contains IsWhole ms from.0 (All-tail IsWhole m ms whole) from.1)
    (All-contains (Other m) ms from.0 (pairs_head Other m ms apart) from.1) r q there from.2)

-- what stands at a place of modules and of their files
record IsAt (b : List ℕ) (modules : ImageModules) (p : ℕ) (m : List ℕ × List Named) : Type 0 where
  candidate : Candidate
  there : slice_get modules.candidates p ≡ Some candidate
  name : candidate.descriptor.name ≡ m.0
  files : List ImageFile
  among : slice_get modules.files p ≡ Some files
  are : files_in b files ≡ m.1

at_place : (b : List ℕ) (modules : ImageModules) (p : ℕ) (m : List ℕ × List Named) → slice_get (named_files b modules) p ≡ Some m
    → IsAt b modules p m
at_place b modules p m is = search (rules, slice_get, slice_get-map, mapped_some, unzipped)

whole_at : (b : List ℕ) (modules : ImageModules) (p : ℕ) (m : List ℕ × List Named) → AreModules modules → IsAt b modules p m
    → IsWhole m
whole_at b modules p m are at = record {
  whole = subst (λ n. list_any is_slash n ≡ false) at.name (all_got (λ (c : Candidate). list_any is_slash c.descriptor.name ≡ false)
      modules.candidates p at.candidate are.whole at.there);
  apart = subst (AllPairs (λ (e f : Named). e.0 ≢ f.0)) at.are
      (pairs_map (λ (e f : Named). e.0 ≢ f.0) (file_in b) at.files
      (all_got (λ (fs : List ImageFile). AllPairs (λ e f. e.path ≢ f.path)
      fs) modules.files p at.files are.apart at.among));
}

pub gathered_apart : (b : List ℕ) (modules : ImageModules) (places : List ℕ) → AreModules modules → ArePlaces modules places
    → AllPairs (λ a b. a ≢ b) (names_of (gathered b modules places))
gathered_apart b modules places are chosen =
    pairs_map (λ (a b : List ℕ). a ≢ b) (λ (r : Named). r.0) (gathered b modules places) (modules_apart ms whole other)
  where
    ms : List (List ℕ × List Named)
    ms = filter_map (slice_get (named_files b modules)) places

    whole : All IsWhole (filter_map (slice_get (named_files b modules)) places)
    whole = all_from_contains IsWhole (filter_map (slice_get (named_files b modules)) places)
        (λ m there.
        let from = from_filter_map (slice_get (named_files b modules)) places m there in
        whole_at b modules from.0 m are (at_place b modules from.0 m from.2))

    other : AllPairs Other (filter_map (slice_get (named_files b modules)) places)
    other =
        pairs_filter_map (λ (p q : ℕ). p < q) Other (slice_get (named_files b modules))
        (λ p q lesser m k one two same.
        let first = at_place b modules p m one in
        let second = at_place b modules q k two in
        let equal : p ≡ q = are.differ p q (m.0) (first.candidate, first.there, first.name) (
          second.candidate,
          second.there,
          second.name ∙ sym same,
        ) in
        absurd (omega (arith, lesser, equal)))
        places chosen.rising
