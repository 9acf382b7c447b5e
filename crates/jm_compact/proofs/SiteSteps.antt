-- Bytes with new numbers at sites, one site after another.
use Rattle.std.proofs.Common.{◌≡◌, ℕ, ◌+◌, ◌-◌, ◌<◌, ◌≤◌, List, [], ◌∷◌, length, drop, get_or, subst, arith}
use Rattle.std.proofs.lemmas.List.{at_drop_more}
use Rattle.jm_poolmap.specs.declared.site.Site.{Site}
use Rattle.jm_compact.specs.Pieces.{size}
use Rattle.jm_compact.specs.Steps.{AreIn}

in_end : (sites : List Site) (at end : ℕ) → AreIn sites at end → at ≤ end
in_end [] at end within = within
in_end (site ∷ sites) at end within =
    let here = within.0 in
    let rest = in_end sites (site.place + size site.wide) end within.1 in
    omega (arith, here, rest)

module _ (sites : List Site) (i : ℕ) (none : Site) (more : i < length sites) where
  abbrev site : Site
  site = get_or sites i none

  next_in : (at end : ℕ) → AreIn (drop i sites) at end → (at ≤ site.place) × AreIn (drop (i + 1) sites) (site.place
      + size site.wide) end
  next_in at end within = subst (λ s. AreIn s at end) (at_drop_more (λ s. s) sites i none more) within

  -- the site fits into the bytes that are left
  pub next_fits : (at end left : ℕ) → AreIn (drop i sites) at end → at + left ≡ end → (site.place - at) + size site.wide ≤ left
  next_fits at end left within is =
      let next = next_in at end within in
      let here = next.0 in
      let rest = in_end (drop (i + 1) sites) (site.place + size site.wide) end next.1 in
      omega (arith, here, rest, is)
