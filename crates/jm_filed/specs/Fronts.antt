-- The numbers of the first bytes of a name, by which names are sorted before their bytes are looked
-- at (this project's rule).
use Rattle.std.specs.Prelude.{ℕ, ◌≡◌, ◌<◌, nat_lt, List, length, drop, slice_index, if◌then◌else◌}
use Rattle.std.specs.Ordering.{nat_cmp, ordering_then}
use Rattle.std.specs.declared.cmp.Ordering.{Ordering}
use Rattle.byteorder.specs.Endian.{big_number}
use Rattle.jm_filed.specs.declared.taken_name.Front.{Front}

-- three times eight bytes as three numbers, the highest byte first
abbrev pub front_numbers : List ℕ → Front
front_numbers name = record {
  first = big_number 8 name;
  second = big_number 8 (drop 8 name);
  third = big_number 8 (drop 8 (drop 8 name));
}

-- the first 24 bytes of a name as three numbers; 0 for a shorter name
abbrev pub front_of : List ℕ → Front
front_of name =
    if nat_lt (length name) 24 then record { first = 0; second = 0; third = 0 }
    else front_numbers name

-- the first number decides, and then the second and the third
abbrev pub order_of_fronts : Front → Front → Ordering
order_of_fronts a b =
    ordering_then (nat_cmp a.first b.first)
    (ordering_then (nat_cmp a.second b.second) (nat_cmp a.third b.third))

-- the numbers of a list are bytes
abbrev pub AreBytes : List ℕ → Type 0
AreBytes bytes = (k : ℕ) → slice_index bytes k < 256

-- these are the numbers of the first bytes of a name that has bytes alone
pub record IsFrontOf (front : Front) (name : List ℕ) : Type 0 where
  pub numbers : front ≡ front_of name
  pub bytes : AreBytes name
