-- What the content of a node tells, as it is computed, is what it tells by the rule, and nothing else
-- is.
use Rattle.std.proofs.Common.{◌≡◌, ℕ, zero, suc, ◌+◌, ◌*◌, ◌<◌, ◌≤◌, inl, inr, Bool, true, false, not, ◌||◌, cond}
use Rattle.std.proofs.Common.{List, ◌∷◌, map, Option, Some, None, option_map, Result, Ok, Err, refl, sym, ap, ◌∙◌, subst, arith}
use Rattle.std.specs.List.{after_last, before_last, range_with_len}
use Rattle.std.specs.Prelude.{option_and_then}
use Rattle.jm_form.specs.declared.container.Header.{Header}
use Rattle.jm_form.specs.declared.rows.Row.{Row}
use Rattle.jm_form.specs.Head.{header_of}
use Rattle.jm_form.specs.Validity.{look}
use Rattle.jm_bytes.specs.Checks.{fault_if, first_fault}
use Rattle.jm_bytes.proofs.Choice.{first_or_later, same_some}
use Rattle.jm_jrt.specs.declared.jrt_error.JrtError.{JrtError}
use Rattle.jm_jrt.specs.declared.jrt_error.JrtError.TheVariants.{BadNode}
use Rattle.jm_jrt.specs.declared.words.Form.{Form}
use Rattle.jm_jrt.specs.declared.words.Form.TheVariants as form
use Rattle.jm_form.specs.declared.trees.Holds.{Holds}
use Rattle.jm_jrt.specs.Told.{all_told, bad_word, fault_of, first_bad_word, is_word_sound, children_told, owners_told, told_in}
use Rattle.jm_jrt.specs.Told.{word_fault, words_read}
use Rattle.jm_jrt.specs.Told.{HasBadWord, IsBadWord, Tells}
use Rattle.jm_names.specs.Names.{is_slash}
use Rattle.jm_form.specs.TreeView.{TreeItem}
use Rattle.jm_jrt.specs.Stat.{folder, form_of, full_among, has_children, is_package, link, node_content, node_path, owner}
use Rattle.jm_jrt.specs.Stat.{shown_by, stat, IsOwnerToldAt, IsToldAt}
use Rattle.jm_jrt.proofs.OwnerLaws.{owners_here}
use Rattle.jm_jrt.proofs.StandingLaws.{node_header, said, stat_said}
use Rattle.jm_jrt.proofs.FaultLaws.{first_bad, no_bad, none_bad, sound_below}
use Rattle.jm_jrt.proofs.FileLaws.{all_is_told, fault_is_told}

-- The least bad word

-- the least of n words, from one on, that isn't sound stands at this place
record LeastFrom (s : ℕ → Bool) (i n at : ℕ) : Type 0 where
  k : ℕ
  place : at ≡ 4 * k
  least : i ≤ k
  read : k < i + n
  bad : s k ≡ false
  before : (j : ℕ) → i ≤ j → j < k → s j ≡ true

least_from : (s : ℕ → Bool) (i n at : ℕ) → first_fault (map (word_fault s) (range_with_len i n)) ≡ Some at → LeastFrom s i n at
least_from s i zero at e = cc
least_from s i (suc n) at e = go (s i) refl e (least_from s (i + 1) n at)
  where
    go : (b : Bool) → s i ≡ b → first_fault (fault_if (not b) (4 * i) ∷ map (word_fault s) (range_with_len (i + 1) n)) ≡ Some at
        → (first_fault (map (word_fault s) (range_with_len (i + 1) n)) ≡ Some at → LeastFrom s (i + 1) n at) → LeastFrom s i (suc n) at
    go false is e next = record {
      k = i;
      place = sym (same_some (4 * i) at e);
      least = omega arith;
      read = omega arith;
      bad = is;
      before = λ j least below. absurd (omega (arith, least, below));
    }
    go true is e next =
        let rest = next e in
        let past = rest.least in
        let within = rest.read in record {
          k = rest.k;
          place = rest.place;
          least = omega (arith, past);
          read = omega (arith, within);
          bad = rest.bad;
          before = λ j least below. elim (first_or_later i j least) [
            | inl same ↦ ap s (sym same) ∙ is
            | inr more ↦ rest.before j more below
          ];
        }

module _ (b content : List ℕ) (form : Form) where
  abbrev sound : ℕ → Bool
  sound = is_word_sound b content form

  abbrev count : ℕ
  count = words_read content form

  -- the rule has one answer

  pub bad_word_found : (at : ℕ) → HasBadWord b content form at → bad_word b content form ≡ Some at
  bad_word_found at has = first_bad sound count has.k has.read has.before has.bad ∙ ap (λ at. Some at) (sym has.place)

  pub bad_word_only : (found : Option ℕ) → IsBadWord b content form found → found ≡ bad_word b content form
  bad_word_only (Some at) has = sym (bad_word_found at has)
  bad_word_only None none = sym (no_bad sound count none)

  pub tells_only : (told : Result Holds JrtError) → Tells b content form told → told ≡ told_in b content form
  tells_only (Ok holds) tells =
      ap (λ h. Ok h) tells.1 ∙ all_is_told b content form (none_bad sound count tells.0)
  tells_only (Err error) (at, is, has) =
      ap (λ e. Err e) is ∙ fault_is_told b content form (BadNode at) (ap (option_map (λ at. BadNode at)) (bad_word_found at has))

  -- which is the computed one

  pub bad_word_is : IsBadWord b content form (bad_word b content form)
  bad_word_is = go (bad_word b content form) refl
    where
      go : (found : Option ℕ) → bad_word b content form ≡ found → IsBadWord b content form found
      go None is = sound_below sound count (ap (option_map (λ at. BadNode at)) is)
      go (Some at) is =
          let found = least_from sound 0 count at is in
          let within = found.read in record {
            k = found.k;
            place = found.place;
            read = omega (arith, within);
            bad = found.bad;
            before = λ j below. found.before j (omega arith) below;
          }

  pub bad_word_rule : (found : Option ℕ) → found ≡ bad_word b content form → IsBadWord b content form found
  bad_word_rule found is = subst (IsBadWord b content form) (sym is) bad_word_is

  pub told_tells : Tells b content form (told_in b content form)
  told_tells = go (bad_word b content form) refl bad_word_is
    where
      go : (found : Option ℕ) → bad_word b content form ≡ found → IsBadWord b content form found
          → Tells b content form (told_in b content form)
      go None is none = subst (Tells b content form) (all_is_told b content form (ap (option_map (λ at. BadNode at)) is)) (none, refl)
      go (Some at) is has = subst (Tells b content form)
          (fault_is_told b content form (BadNode at) (ap (option_map (λ at. BadNode at)) is)) (at, refl, has)

-- What stands at a path

pub stat_told : (b path : List ℕ) → IsToldAt b path (stat b path)
stat_told b path content told node tells =
    stat_said b path content node
    ∙ go (has_children path) (is_package path) (tells_only b content (form_of path) told tells)
  where
    go : (has pack : Bool) → told ≡ told_in b content (cond has form.Children form.Owners)
        → ◌≡◌ {A = Result TreeItem JrtError} (cond has (folder (children_told b content)) (cond pack (folder (owners_told b content))
        (link (after_last is_slash path) (owners_told b content)))) (cond (has || pack) (folder told) (link (after_last is_slash path) told))
    go true pack same = ap folder (sym same)
    go false true same = ap folder (sym same)
    go false false same = ap (link (after_last is_slash path)) (sym same)

pub item_told : (b path : List ℕ) (item : Result TreeItem JrtError) → item ≡ stat b path → IsToldAt b path item
item_told b path item is = subst (IsToldAt b path) (sym is) (stat_told b path)

-- the path of a package is that of its node
package_node : (b path content : List ℕ) → is_package path ≡ true → node_content b path ≡ Some content
    → option_map (λ (r : Row × List ℕ). r.1) (look b path) ≡ Some content
package_node b path content pack node =
    sym (ap (λ n. option_map (λ (r : Row × List ℕ). r.1) (option_and_then (look b) n)) (go (has_children path))) ∙ node
  where
    here : Bool → Option (List ℕ)
    here has = cond (has || is_package path) (Some path)
        (cond (is_package (before_last is_slash path)) (Some (before_last is_slash path)) None)

    go : (has : Bool) → here has ≡ Some path
    go true = refl
    go false = rw pack refl

pub owner_told : (b path : List ℕ) → IsOwnerToldAt b path (owner b path)
owner_told b path content told pack node tells =
    let (h, read) = node_header b (node_path path) content node in
    go h read (look b path) refl (package_node b path content pack node)
  where
    go : (h : Header) → header_of b ≡ Ok h → (found : Option (Row × List ℕ)) → look b path ≡ found
        → option_map (λ (r : Row × List ℕ). r.1) found ≡ Some content → owner b path ≡ full_among told
    go h read None is e = cc
    go h read (Some found) is e =
        let same : told ≡ owners_told b found.1 = tells_only b content form.Owners told tells
        ∙ ap (owners_told b) (sym (same_some found.1 content e)) in
        sym (owners_here b path h read found (full_among told) pack (sym is) (ap full_among same))

pub full_told : (b path : List ℕ) (full : Result (Option (List ℕ)) JrtError) → full ≡ owner b path → IsOwnerToldAt b path full
full_told b path full is = subst (IsOwnerToldAt b path) (sym is) (owner_told b path)
