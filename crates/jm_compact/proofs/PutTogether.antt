-- The text that is put part by part is that of the class with its kept constants.
use Rattle.std.proofs.Common.{◌≡◌, ℕ, ◌+◌, Bool, List, ◌++◌, length, take, filter}
use Rattle.std.proofs.Common.{sym, ap, ◌∙◌, arith, append_assoc}
use Rattle.std.proofs.lemmas.List.{append-nil, take_all}
use std.Path.{fun_ext}
use Rattle.jm_class.specs.Classes.{ClassData, u2, ReadsAs}
use Rattle.jm_poolmap.specs.declared.site.Site.{Site}
use Rattle.jm_poolmap.specs.Sites.{pool_end, back}
use Rattle.jm_compact.specs.declared.numbers.Numbers.{Numbers}
use Rattle.jm_compact.specs.Pieces.{renumbered}
use Rattle.jm_compact.specs.Compact.{new_number, compact_pool, front, compact_with}
use Rattle.jm_compact.specs.Steps.{AreNumbers, by_numbers, kept_text}
use Rattle.jm_compact.proofs.KeptSlots.{length-compact}
use Rattle.jm_compact.proofs.NumberSteps.{by_numbers-is}

module _ (c : ClassData) (bytes : List ℕ) (reads : ReadsAs bytes c) (sites : List Site) (flags : List Bool)
    (same : length flags ≡ length c.pool) (numbers : Numbers) (are : AreNumbers flags numbers) where
  as_rule : by_numbers numbers ≡ new_number flags
  as_rule = fun_ext (by_numbers-is flags numbers are)

  count_is : numbers.count ≡ length (compact_pool flags c.pool) + 1
  count_is =
      let kept_all = length-compact flags c.pool same in
      let whole = ap (λ t. length (filter (λ flag. flag) t)) (take_all (length flags) flags (omega arith)) in
      let count = are.count in
      omega (arith, kept_all, whole, count)

  pub put_all : (one two three four : List ℕ) → one ≡ take 8 bytes → two ≡ one ++ u2 numbers.count → three
      ≡ two ++ kept_text (by_numbers numbers) flags c.pool → four ≡ three ++ renumbered (by_numbers numbers) sites (pool_end c) (back c)
      → four ≡ compact_with flags sites c
  put_all one two three four e1 e2 e3 e4 =
      let pool = e3 ∙ ap (λ new. two ++ kept_text new flags c.pool) as_rule in
      let after = e4 ∙ ap (λ new. three ++ renumbered new sites (pool_end c) (back c)) as_rule in
      let words = kept_text (new_number flags) flags c.pool in
      let count = u2 (length (compact_pool flags c.pool) + 1) in
      rw (after, pool, e2, e1, sym reads.text, count_is)
      (append_assoc (front c ++ count) words (renumbered (new_number flags) sites (pool_end c) (back c))
      ∙ ap (λ t. front c ++ (count ++ (t ++ renumbered (new_number flags) sites (pool_end c) (back c)))) (sym (append-nil words)))
