-- The sites of a class: the places in its text where numbers of constants stand (JVMS 4; that a
-- class with an unknown attribute has none is this project's rule).
use Rattle.std.specs.Prelude.{ℕ, ◌+◌, nat_lt, Bool, true, false, ◌==◌, ◌&&◌, ◌||◌}
use Rattle.std.specs.Prelude.{List, [], ◌∷◌, length, map}
use Rattle.std.specs.Prelude.{Option, Some, None, is_some, Ok, Err, take, drop, if◌then◌else◌}
use Rattle.std.specs.Prelude.{option_and_then, unwrap_or}
use Rattle.std.specs.Int.{w16, from_be_bytes}
use Rattle.std.specs.List.{list_all}
use Rattle.jm_class.specs.Classes.{SlotData, Constant, Hole, ClassData, pool_text, class_text}
use Rattle.jm_class.specs.Classes.{slot_at, utf8_at}
use Rattle.jm_class.specs.Layouts.{U2}
use Rattle.jm_class.specs.Readings.{Outcome, ended}
use Rattle.jm_poolmap.specs.declared.forms.Place as place
use Rattle.jm_poolmap.specs.declared.forms.Place.TheVariants.{Class, Field, Method}
use Rattle.jm_poolmap.specs.declared.site.FoundSite.{FoundSite}
use Rattle.jm_poolmap.specs.declared.site.Site.{Site}
use Rattle.jm_poolmap.specs.Forms.{Form, NoForm, Skip, unfit, site, optional_site, in_order}
use Rattle.jm_poolmap.specs.Forms.{counted, reads, Rows, one, row_of}
use Rattle.jm_poolmap.specs.Attributes.{attribute}

-- A class as a form

-- a field or a method: its flags, name and descriptor, and its attributes
abbrev pub member : place.Place → Form
member place = in_order (Skip 2 ∷ site ∷ site ∷ counted U2 (attribute place) ∷ [])

-- a class from the end of its pool on: the flags, this class and its superclass, the interfaces, the
-- fields, the methods, the attributes
abbrev pub class : Form
class = in_order (
    Skip 2 ∷ site ∷ optional_site ∷ counted U2 site ∷ counted U2 (member Field)
    ∷ counted U2 (member Method) ∷ counted U2 (attribute Class) ∷ [])

-- how many bytes of a class stand up to the end of its pool: magic and versions, and the pool
abbrev pub pool_end : ClassData → ℕ
pool_end c = 8 + length (pool_text c.pool)

-- what stands after the pool
abbrev pub back : ClassData → List ℕ
back c = drop (pool_end c) (class_text c)

-- the sites that were met, where all bytes were taken; else none
abbrev pub met : Outcome NoForm (List FoundSite) → Option (List FoundSite)
met (Ok r) = Some r.0
met (Err fault) = None

-- the sites in the text of a class with their numbers, or none where the class isn't of the form
abbrev pub found_in : ClassData → Option (List FoundSite)
found_in c =
    met (ended unfit (reads (utf8_at c.pool) class [])
    (record { place = pool_end c; bytes = back c }))

-- Constants

-- how constants name others, by their tags (JVMS 4.4): their rank, which is above that of all that
-- they name, and where in a body the numbers of others stand, two bytes each
abbrev pub naming_rows : Rows (ℕ × List ℕ)
naming_rows =
    ((7, 8) ∷ one 16 ∷ (19, 20) ∷ [], (1, 0 ∷ []))
    ∷ (one 12 ∷ [], (1, 0 ∷ 2 ∷ []))
    ∷ ((9, 11) ∷ [], (2, 0 ∷ 2 ∷ []))
    ∷ ((17, 18) ∷ [], (2, 2 ∷ []))
    ∷ (one 15 ∷ [], (3, 1 ∷ []))
    ∷ []

-- the row of a tag; a constant of a tag without a row names nothing, and has the rank 0
abbrev pub naming : ℕ → ℕ × List ℕ
naming tag = unwrap_or (row_of naming_rows tag) (0, [])

-- the rank of a constant, by its tag
abbrev pub rank : ℕ → ℕ
rank tag = (naming tag).0

-- where in a body of this tag the numbers of constants stand
abbrev pub name_places : ℕ → List ℕ
name_places tag = (naming tag).1

-- the same as sites, each of two bytes, whose places are those in the body
abbrev pub name_sites : ℕ → List Site
name_sites tag = map (λ place. record { place = place; wide = true }) (name_places tag)

-- the numbers that a constant names
abbrev pub named_by : SlotData → List ℕ
named_by (Constant tag body) =
    map (λ place. from_be_bytes w16 (take 2 (drop place body))) (name_places tag)
named_by Hole = []

-- the rank of what takes a number of the pool, or none: a hole is no constant
abbrev pub rank_of : SlotData → Option ℕ
rank_of (Constant tag body) = Some (rank tag)
rank_of Hole = None

-- the rank of the constant of a number, or none
abbrev pub rank_at : List SlotData → ℕ → Option ℕ
rank_at pool index = option_and_then rank_of (slot_at pool index)

-- Checks

-- a number is there and lower than the limit
abbrev pub is_some_below : ℕ → Option ℕ → Bool
is_some_below limit None = false
is_some_below limit (Some n) = nat_lt n limit

-- each constant that a constant names is of a lower rank
abbrev pub names_lower : List SlotData → SlotData → Bool
names_lower pool Hole = true
names_lower pool (Constant tag body) =
    list_all (λ index. is_some_below (rank tag) (rank_at pool index))
    (named_by (Constant tag body))

-- the number at a site is that of a constant, or a 0 that is allowed there
abbrev pub names_constant : List SlotData → FoundSite → Bool
names_constant pool found =
    found.optional && found.number == 0 || is_some (rank_at pool found.number)

-- The sites

-- place and width of a site
abbrev pub site_of : FoundSite → Site
site_of found = record { place = found.place; wide = found.wide }

-- the sites that were found, or none where one of them names no constant, or a constant of the pool
-- names none, or one that isn't of a lower rank
abbrev pub judged : List SlotData → List FoundSite → Option (List Site)
judged pool found =
    if list_all (names_constant pool) found && list_all (names_lower pool) pool
    then Some (map site_of found) else None

-- the rule: the sites of a class, or none where it isn't of the form, or a check fails
abbrev pub sites_of : ClassData → Option (List Site)
sites_of c = option_and_then (judged c.pool) (found_in c)
