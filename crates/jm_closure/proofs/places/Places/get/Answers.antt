use Rattle.jm_closure.proofs.PlaceLaws.{lookup-shown}
use Rattle.jm_closure.proofs.places.Places.get.Goals as goal

pub returns-in-Some : goal.returns-in-Some
returns-in-Some c =
    rw (
      ← c.self.view_is,
      ← lookup-shown (λ k. k.items) c.args.text.now c.self.inside.places.entries,
      ← c.get.ensures.value,
      c.in-Some.is,
    )

pub returns-in-None : goal.returns-in-None
returns-in-None c =
    rw (
      ← c.self.view_is,
      ← lookup-shown (λ k. k.items) c.args.text.now c.self.inside.places.entries,
      ← c.get.ensures.value,
      c.in-None.is,
    )
