use Rattle.jm_closure.proofs.PlaceLaws.{shown_places, shown_rising}
use Rattle.jm_closure.proofs.places.Places.rising.Goals as goal

pub loop-place-init : goal.loop-place-init
loop-place-init c = record {
  can = tt;
  ends = tt;
  so_far = rw (
    c.new-places.ensures.items,
    c.into_iter-place-iterator.ensures.into_iter_gives,
    c.iter-place-items.ensures.rest,
    ←
        c.self.view_is,
  )
      (shown_places (λ k. k.items) c.self.inside.places.entries);
}

pub returns-clause-rising : goal.returns-clause-rising
returns-clause-rising c =
    rw (← c.self.view_is) (shown_rising (λ k. k.items) c.self.inside.places.entries c.iter-place-items.ensures.ordered)
