-- Classes without the constants that aren't live, the others numbered anew in their order (this
-- project's rule; what a constant pool is says JVMS 4.4).
use Rattle.std.specs.Prelude.{ℕ, ◌≡◌, ◌+◌, ◌-◌, ◌==◌, Bool, List, [], ◌++◌, length, map}
use Rattle.std.specs.Prelude.{filter, take, Option, Some, None, Result, Ok, Err}
use Rattle.std.specs.Prelude.{if◌then◌else◌}
use Rattle.std.specs.List.{zip}
use Rattle.jm_class.specs.declared.class.ClassFault.{ClassFault}
use Rattle.jm_class.specs.Classes.{SlotData, Constant, Hole, ClassData, pool_text, class_text}
use Rattle.jm_class.specs.Releases.{class_for}
use Rattle.jm_poolmap.specs.declared.site.FoundSite.{FoundSite}
use Rattle.jm_poolmap.specs.declared.site.Site.{Site}
use Rattle.jm_poolmap.specs.ComputedLive.{flags_of}
use Rattle.jm_poolmap.specs.Live.{TellsLive}
use Rattle.jm_poolmap.specs.Sites.{name_sites, pool_end, back, found_in, sites_of}
use Rattle.jm_compact.specs.Pieces.{renumbered}

-- Numbers, by a flag for each slot that says whether it is kept

-- how many of the slots before a place are kept
abbrev pub kept_before : List Bool → ℕ → ℕ
kept_before flags place = length (filter (λ flag. flag) (take place flags))

-- the new number of a constant: 1 and the kept slots before its own; 0, which is none, stays
abbrev pub new_number : List Bool → ℕ → ℕ
new_number flags index = if index == 0 then 0 else 1 + kept_before flags (index - 1)

-- Constants

-- a constant that names others by new numbers
abbrev pub renamed : (ℕ → ℕ) → SlotData → SlotData
renamed new (Constant tag body) = Constant tag (renumbered new (name_sites tag) 0 body)
renamed new Hole = Hole

-- the items whose flag is up, in order
abbrev pub kept : {A : Type 0} → List Bool → List A → List A
kept flags items = map (λ p. p.1) (filter (λ p. p.0) (zip flags items))

-- the kept constants, each with its hole, that name others by new numbers
abbrev pub compact_pool : List Bool → List SlotData → List SlotData
compact_pool flags pool = map (renamed (new_number flags)) (kept flags pool)

-- Classes

-- what stands before the pool: magic and versions, 8 bytes
abbrev pub front : ClassData → List ℕ
front c = take 8 (class_text c)

-- the text of a class with the kept constants, and with new numbers at the sites
abbrev pub compact_with : List Bool → List Site → ClassData → List ℕ
compact_with flags sites c =
    front c ++ (pool_text (compact_pool flags c.pool)
    ++ renumbered (new_number flags) sites (pool_end c) (back c))

-- the rule: the text with the constants that are live, or the class's own where it has no sites
pub data IsCompact (c : ClassData) (text : List ℕ) : Type 0 where
  Whole : sites_of c ≡ None → text ≡ class_text c → IsCompact c text
  Smaller : (sites : List Site) (flags : List Bool) → sites_of c ≡ Some sites
      → TellsLive c flags → text ≡ compact_with flags sites c → IsCompact c text

-- the same, computed

-- a flag for each slot by the sites that were found, or no flag where none were
abbrev pub flags_by : ClassData → Option (List FoundSite) → List Bool
flags_by c None = []
flags_by c (Some found) = flags_of c.pool (map (λ f. f.number) found)

-- a flag for each slot of a class: whether its constant is live
abbrev pub live_flags : ClassData → List Bool
live_flags c = flags_by c (found_in c)

-- the text of a class by its sites; its own where it has none
abbrev pub text_by : ClassData → Option (List Site) → List ℕ
text_by c None = class_text c
text_by c (Some sites) = compact_with (live_flags c) sites c

-- the text of a class with the constants that are live, or its own where it has no sites
abbrev pub compact_text : ClassData → List ℕ
compact_text c = text_by c (sites_of c)

-- the compact text of the class that was read, or the fault
abbrev pub with_text : Result ClassData ClassFault → Result (List ℕ) ClassFault
with_text (Ok c) = Ok (compact_text c)
with_text (Err fault) = Err fault

-- the compact text of the class of a release that the bytes are, or their fault
abbrev pub compact_for : ℕ → List ℕ → Result (List ℕ) ClassFault
compact_for release bytes = with_text (class_for release bytes)
