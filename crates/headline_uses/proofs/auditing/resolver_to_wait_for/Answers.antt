-- The first resolver that is behind, or none.
use Rattle.std.proofs.Common.{sym}
use Rattle.headline_uses.proofs.auditing.resolver_to_wait_for.Goals as goal

pub returns-in-Ok : goal.returns-in-Ok
returns-in-Ok g c = λ place resolver there. (c.in-Ok.ensures.reached place resolver there).reached

pub returns-in-Err : goal.returns-in-Err
returns-in-Err g c =
    let is = c.in-Err.ensures.reached in
    record { place = is.place; resolver = is.resolver; there = is.there; number_is = sym is.number; below = is.below }
