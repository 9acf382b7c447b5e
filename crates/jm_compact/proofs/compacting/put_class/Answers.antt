use Rattle.std.proofs.Common.{◌++◌, false, sym, ap, ◌∙◌, subst}
use Rattle.jm_class.specs.Classes.{u2}
use Rattle.jm_class.specs.Views.{pool_of, plain}
use Rattle.jm_class.proofs.ReadingLaws.{IsBytes, bytes_all}
use Rattle.jm_classout.proofs.ClassTexts.{slots_fit}
use Rattle.jm_compact.proofs.CompactClass.{sites_in}
use Rattle.jm_compact.proofs.PutTogether.{put_all}
use Rattle.jm_compact.proofs.compacting.put_class.Goals as goal

pub put_pool-requires-clause-slots : goal.put_pool-requires-clause-slots
put_pool-requires-clause-slots c = rw c.as_slice.ensures (slots_fit false (pool_of c.args.class.now.pool)
    c.requires.reads.well_formed.pool)

pub put_renumbered-requires-clause-within : goal.put_renumbered-requires-clause-within
put_renumbered-requires-clause-within c =
    rw (c.as_slice-sites.ensures, c.place.ensures, c.rest.ensures, c.after_pool-after.ensures)
    (sites_in (plain c.args.class.now) c.requires.reads.well_formed
    (subst IsBytes (sym c.requires.reads.text) (bytes_all c.args.bytes.now (λ i. (c.type_inv.bytes i).fits)))
    c.args.known.now.sites c.requires.sites c.args.known.now.live c.requires.live)

pub returns : goal.returns
returns c =
    let front = c.in_ok-extend.ensures.ok ∙ ap (λ t. t ++ c.split_at.result.0.now) c.in_ok-text.ensures.items ∙ c.split_at.ensures.front in
    let count = c.in_ok-put16.ensures ∙ ap (λ n. c.extend.new.text.items ++ u2 n) c.count.ensures in
    let pool = rw (c.as_slice.ensures, c.as_slice-flags.ensures) at c.in_ok-put_pool.ensures in
    let back = rw (c.as_slice-sites.ensures, c.place.ensures, c.rest.ensures, c.after_pool-after.ensures)
    at c.in_ok-put_renumbered.ensures in
    c.from_vec.ensures
    ∙ put_all (plain c.args.class.now) c.args.bytes.now c.requires.reads c.args.known.now.sites c.args.known.now.live c.requires.live.size
    c.in_ok-numbers.numbers (rw c.as_slice-flags.ensures at c.in_ok-numbers.ensures)
    c.extend.new.text.items c.put16.new.text.items c.put_pool.new.text.items c.put_renumbered.new.text.items front count pool back
