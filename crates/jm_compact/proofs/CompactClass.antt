-- What the text of a class without its other constants reads as.
use Rattle.std.proofs.Common.{◌≡◌, ℕ, ◌+◌, ◌<◌, ◌≤◌, ◌⊎◌, inl, inr, Bool, true, false, List, []}
use Rattle.std.proofs.Common.{◌++◌, length, map, drop, Some, Contains, get_or, refl, sym, ap, ap₂, ◌∙◌, subst}
use Rattle.std.proofs.Common.{arith, length-append, take}
use Rattle.std.proofs.lemmas.List.{append-nil, drop_at}
use Rattle.std.specs.List.{list_all}
use Rattle.jm_bytes.proofs.Choice.{same_some}
use Rattle.jm_bytes.proofs.Members.{contains_map, length_filter}
use Rattle.jm_class.specs.Classes.{SlotData, ClassData, pool_text, class_text, utf8_at, IsClass, ReadsAs}
use Rattle.jm_class.specs.Readings.{Left, ended}
use Rattle.jm_class.proofs.ReadingLaws.{IsBytes, bytes_behind, TookAll}
use Rattle.jm_poolmap.specs.declared.site.FoundSite.{FoundSite}
use Rattle.jm_poolmap.specs.declared.site.Site.{Site}
use Rattle.jm_poolmap.specs.Forms.{unfit, reads}
use Rattle.jm_poolmap.specs.Live.{StandsAtSite, IsLive, number_of, TellsLive}
use Rattle.jm_poolmap.specs.Sites.{names_constant, names_lower, site_of, pool_end, back, class, met, found_in, sites_of}
use Rattle.jm_poolmap.proofs.ComputedLiveLaws.{all_at}
use Rattle.jm_poolmap.proofs.ClassSays.{head_text, IsKnownClass, met_all, form-reads}
use Rattle.jm_compact.specs.Pieces.{cut, put_for_all, renumbered}
use Rattle.jm_compact.specs.Compact.{new_number, compact_pool, front, compact_with}
use Rattle.jm_compact.specs.Meaning.{tree, meaning, SaysTheSame}
use Rattle.jm_compact.specs.Steps.{AreIn}
use Rattle.jm_compact.proofs.AllKept.{number_stays, compact_again}
use Rattle.jm_compact.proofs.Sizes.{pool_shorter}
use Rattle.jm_compact.proofs.Trees.{kept_lower, kept_leads, kept_tree}
use Rattle.jm_compact.proofs.NewNumbers.{new_number-small}
use Rattle.jm_compact.proofs.KeptSlots.{IsKept, IsClosed, kept_pool, kept_place, kept_utf8, site_again, length-compact}
use Rattle.jm_compact.proofs.Names.{Judged, judged_parts, judged_back, is_closed, site_kept, start_kept, kept_live, all_up}
use Rattle.jm_compact.proofs.CutLaws.{merged, sites_from, cut_whole, merged_same, renumbered_whole, tokens_in}
use Rattle.jm_compact.proofs.FormTokens.{Tells, form-tells}
use Rattle.jm_compact.proofs.Tokens.{Token, token_text, found_from, changed, Fit, Each, length-changed, each_found, each_more}
use Rattle.jm_compact.proofs.Tokens.{numbers_changed, all_changed, changed_stays, fit_changed, bytes_changed}

-- a class's text is cut at the end of its pool
text_parts : (c : ClassData) → class_text c ≡ head_text c.minor c.major c.pool ++ back c
text_parts c =
    let head = head_text c.minor c.major c.pool in
    sym (ap (λ t. head ++ t) (drop_at head _ (pool_end c) (omega arith)))

-- the text without the other constants says the same as a class of the same version, stays when it
-- is compacted again, and is no longer
pub record IsCompactClass (c : ClassData) (sites : List Site) (flags : List Bool) : Type 0 where
  pub says : SaysTheSame c sites (compact_with flags sites c)
  pub major : says.class.major ≡ c.major
  pub stays : (again : List Bool) → TellsLive says.class again → compact_with again says.sites says.class ≡ compact_with flags sites c
  pub shorter : length (compact_with flags sites c) ≤ length (class_text c)

module _ (c : ClassData) (fits : IsClass c) (bytes : IsBytes (class_text c)) (sites : List Site) (is_sites : sites_of c
    ≡ Some sites) (flags : List Bool) (tells : TellsLive c flags) where
  abbrev new : ℕ → ℕ
  new = new_number flags

  abbrev new_pool : List SlotData
  new_pool = compact_pool flags c.pool

  closed : IsClosed c.pool flags
  closed = is_closed c sites flags is_sites tells fits

  abbrev judged : Judged c sites
  judged = judged_parts c sites is_sites

  -- Its tokens

  abbrev after_pool : Left
  after_pool = record { place = pool_end c; bytes = back c }

  back_bytes : IsBytes (back c)
  back_bytes = bytes_behind (head_text c.minor c.major c.pool) (back c) (subst IsBytes (text_parts c) bytes)

  read : TookAll (reads (utf8_at c.pool) class []) after_pool judged.found
  read = met_all (reads (utf8_at c.pool) class []) after_pool judged.found judged.is

  told : Tells (utf8_at c.pool) class [] after_pool judged.found read.end
  told = form-tells (utf8_at c.pool) class [] after_pool judged.found read.end back_bytes read.is

  abbrev tokens : List Token
  tokens = told.tokens

  back_tokens : back c ≡ token_text tokens
  back_tokens = told.bytes ∙ ap (λ t. token_text tokens ++ t) read.none ∙ append-nil (token_text tokens)

  found_tokens : found_in c ≡ Some (found_from (pool_end c) tokens)
  found_tokens = judged.is ∙ ap Some told.sites

  sites_tokens : sites ≡ sites_from (pool_end c) tokens
  sites_tokens = judged.places ∙ ap (map site_of) told.sites

  -- a number that is none, or of a kept constant
  abbrev Good : ℕ → Type 0
  Good n = (n ≡ 0) ⊎ IsKept c.pool flags n

  found_there : (f : FoundSite) → Contains (found_from (pool_end c) tokens) f → Contains judged.found f
  found_there f there = subst (λ found. Contains found f) (sym told.sites) there

  good_site : (f : FoundSite) → Contains (found_from (pool_end c) tokens) f → Good f.number
  good_site f there = site_kept c sites flags is_sites tells f (found_there f there)

  good : Each Good tokens
  good = each_found Good tokens (pool_end c) good_site

  good_text : (n : ℕ) → Good n → utf8_at new_pool (new n) ≡ utf8_at c.pool n
  good_text n (inl none) = rw none refl
  good_text n (inr kept_n) = kept_utf8 c.pool flags n kept_n

  -- With other numbers

  abbrev new_tokens : List Token
  new_tokens = changed new tokens

  -- the new text after the pool is of the form, from any place
  met_again : (place : ℕ) → met (ended unfit (reads (utf8_at new_pool) class []) (record { place = place; bytes = token_text new_tokens }))
      ≡ Some (found_from place new_tokens)
  met_again place =
      let all = told.again new (new_number-small flags) (utf8_at new_pool) (each_more Good _ good_text tokens good) [] place []
      (sym (ap length read.none)) in
      rw (sym (append-nil (token_text new_tokens)), all) refl

  new_reads : (other : ClassData) × (ReadsAs (head_text c.minor c.major new_pool ++ token_text new_tokens) other
      × IsKnownClass c.minor c.major new_pool other)
  new_reads =
      let same = length-compact flags c.pool tells.size in
      let fewer = length_filter (λ flag. flag) flags in
      let size = tells.size in
      let slots = fits.slots in
      form-reads c.minor c.major new_pool (record { place = 0; bytes = token_text new_tokens }) (found_from 0 new_tokens)
      fits.minor fits.major (omega (arith, same, fewer, size, slots)) (kept_pool c.pool flags closed)
      (bytes_changed new tokens (subst IsBytes back_tokens back_bytes)) (met_again 0)

  abbrev new_class : ClassData
  new_class = new_reads.0

  abbrev new_found : List FoundSite
  new_found = found_from (pool_end new_class) new_tokens

  abbrev new_sites : List Site
  new_sites = sites_from (pool_end new_class) new_tokens

  pool_is : new_class.pool ≡ new_pool
  pool_is = new_reads.1.1.1.1.0

  text_is : compact_with flags sites c ≡ head_text c.minor c.major new_pool ++ token_text new_tokens
  text_is =
      ap (λ t. head_text c.minor c.major new_pool ++ t) (ap (λ s. renumbered new s (pool_end c) (back c)) sites_tokens
      ∙ ap (renumbered new (sites_from (pool_end c) tokens) (pool_end c)) back_tokens
      ∙ renumbered_whole new tokens (pool_end c) told.fit)

  back_again : back new_class ≡ token_text new_tokens
  back_again =
      ap₂ (λ p t. drop (8 + length (pool_text p)) t) pool_is new_reads.1.0.text
      ∙ drop_at (head_text c.minor c.major new_pool) (token_text new_tokens) (8 + length (pool_text new_pool)) (omega arith)

  found_again : found_in new_class ≡ Some new_found
  found_again =
      ap₂ (λ p b. met (ended unfit (reads (utf8_at p) class []) (record { place = pool_end new_class; bytes = b }))) pool_is back_again
      ∙ met_again (pool_end new_class)

  sites_again : sites_of new_class ≡ Some new_sites
  sites_again =
      judged_back new_class new_found found_again
      (subst (λ p. list_all (names_constant p) new_found ≡ true) (sym pool_is)
      (all_changed new (names_constant new_pool) tokens (pool_end c) (pool_end new_class) (λ f there g. site_again c.pool flags f g
      (all_at (names_constant c.pool) judged.found f (found_there f there) judged.constants) (good_site f there))))
      (subst (λ p. list_all (names_lower p) p ≡ true) (sym pool_is) (kept_lower c.pool flags closed))

  -- What it says

  cut_once : cut sites (pool_end c) (back c) ≡ merged [] tokens
  cut_once =
      ap (λ s. cut s (pool_end c) (back c)) sites_tokens ∙ ap (cut (sites_from (pool_end c) tokens) (pool_end c)) back_tokens
      ∙ cut_whole tokens (pool_end c) told.fit

  fit_again : Fit new_tokens
  fit_again = fit_changed new (new_number-small flags) tokens told.fit

  cut_again : cut new_sites (pool_end new_class) (back new_class) ≡ merged [] new_tokens
  cut_again =
      ap (cut new_sites (pool_end new_class)) back_again ∙ cut_whole new_tokens (pool_end new_class) fit_again

  same_meaning : meaning new_sites new_class ≡ meaning sites c
  same_meaning =
      ap (λ t. (take 8 t, put_for_all (tree 4 new_class.pool) (cut new_sites (pool_end new_class) (back new_class)))) new_reads.1.0.text
      ∙ ap (λ p. (front c, p))
      (ap (λ p. put_for_all (tree 4 p) (cut new_sites (pool_end new_class) (back new_class))) pool_is
      ∙ ap (put_for_all (tree 4 new_pool)) cut_again
      ∙ merged_same new (tree 4 c.pool) (tree 4 new_pool) tokens [] (each_more Good _ (kept_tree c.pool flags closed 4) tokens good)
      ∙ sym (ap (put_for_all (tree 4 c.pool)) cut_once))

  -- Its constants

  stands_again : (n : ℕ) → StandsAtSite c n → StandsAtSite new_class (new n)
  stands_again n (found, is, there) =
      let same = same_some found (found_from (pool_end c) tokens) (sym is ∙ found_tokens) in
      let here = contains_map new (map (λ f. f.number) (found_from (pool_end c) tokens)) n
      (subst (λ fs. Contains (map (λ f. f.number) fs) n) same there) in (
        new_found,
        found_again,
        subst (λ ns. Contains ns (new n)) (sym (numbers_changed new tokens (pool_end c) (pool_end new_class))) here,
      )

  all_live : (place : ℕ) → place < length new_class.pool → IsLive new_class (number_of new_class.pool place)
  all_live place below = go (kept_live c sites flags is_sites tells kept_there.0 kept_there.1)
    where
      kept_there : (i : ℕ) × IsKept c.pool flags i × (number_of new_class.pool place ≡ new i)
      kept_there = rw pool_is (kept_place c.pool flags closed place (subst (λ p. place < length p) pool_is below))

      go : IsLive c kept_there.0 → IsLive new_class (number_of new_class.pool place)
      go (start, between, stands, leads) =
          let kept_start = start_kept c sites flags is_sites tells start between kept_there.0 stands kept_there.1 leads in
          subst (IsLive new_class) (sym kept_there.2) (
            new start,
            map new between,
            stands_again start stands,
            rw pool_is (kept_leads c.pool flags closed start between kept_there.0 kept_start leads),
          )

  -- Once more

  module _ (again : List Bool) (tells_again : TellsLive new_class again) where
    all_kept : (place : ℕ) → place < length again → get_or again place false ≡ true
    all_kept = all_up new_class again tells_again all_live

    size : length again ≡ length new_pool
    size = tells_again.size ∙ ap length pool_is

    stays : (n : ℕ) → Good n → new_number again (new n) ≡ new n
    stays n (inl none) = rw none refl
    stays n (inr kept_n) = number_stays c.pool flags again size all_kept n kept_n

    again_same : compact_with again new_sites new_class ≡ compact_with flags sites c
    again_same =
        let front_same = ap (take 8) new_reads.1.0.text in
        let pools = ap (compact_pool again) pool_is ∙ compact_again c.pool flags again size all_kept closed in
        let after = ap (renumbered (new_number again) new_sites (pool_end new_class)) back_again
        ∙ renumbered_whole (new_number again) new_tokens (pool_end new_class) fit_again
        ∙ ap token_text (changed_stays new (new_number again) tokens (each_more Good _ stays tokens good)) in
        ap (λ t. t ++ (pool_text (compact_pool again new_class.pool)
        ++ renumbered (new_number again) new_sites (pool_end new_class) (back new_class))) front_same
        ∙ ap₂ (λ p t. front c ++ (pool_text p ++ t)) pools after ∙ sym text_is

  -- Lengths

  not_longer : length (compact_with flags sites c) ≤ length (class_text c)
  not_longer =
      let new_text = ap length text_is ∙ length-append (head_text c.minor c.major new_pool) (token_text new_tokens) in
      let old_text = ap length (text_parts c) ∙ length-append (head_text c.minor c.major c.pool) (back c) in
      let pools = pool_shorter flags c.pool fits.pool in
      let same = length-changed new tokens in
      let tokens_are = ap length back_tokens in
      omega (arith, new_text, old_text, pools, same, tokens_are)

  pub compacted_class : IsCompactClass c sites flags
  compacted_class = record {
    says = record {
      class = new_class;
      reads = record { well_formed = new_reads.1.0.well_formed; text = new_reads.1.0.text ∙ sym text_is };
      sites = new_sites;
      found = sites_again;
      same = same_meaning;
      live = all_live;
    };
    major = new_reads.1.1.1.0;
    stays = again_same;
    shorter = not_longer;
  }

  -- its sites are in what stands after the pool
  pub sites_in : AreIn sites (pool_end c) (pool_end c + length (back c))
  sites_in =
      let size = ap length back_tokens in
      subst (λ s. AreIn s (pool_end c) (pool_end c + length (back c))) (sym sites_tokens)
      (tokens_in tokens (pool_end c) (pool_end c) _ (omega arith) (omega (arith, size)))
