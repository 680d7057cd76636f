-- One request less; nothing else changes, but that the worker may have failed.
use Rattle.std.proofs.Common.{ap, ◌∙◌, subst, List, [], ◌∷◌, length, length-append, arith}
use Rattle.std.specs.Prelude.{IsFalse}
use Rattle.locked_resolvers.specs.Requests.{RequestView}
use Rattle.workers.specs.Desks.{DeskView, has_failed}
use Rattle.workers.proofs.desk.Desk.refuse_held_requests.Goals as goal

pub loop-held-preserved : goal.loop-held-preserved
loop-held-preserved g c =
    record {
      column = c.refuse-told.ensures.fails.column ∙ ap (λ (v : DeskView). v.column) c.self.view_is ∙ c.loop-held.invariant.column;
      closed = c.refuse-told.ensures.closed ∙ ap (λ (v : DeskView). v.closed) c.self.view_is ∙ c.loop-held.invariant.closed;
      wanted = λ was. c.refuse-told.ensures.fails.stays_wanted (ap (λ (v : DeskView). v.wanted) c.self.view_is ∙ c.loop-held.invariant.wanted was);
      failed = λ sound. c.loop-held.invariant.failed (subst (λ (v : DeskView). IsFalse (has_failed v)) c.self.view_is (c.refuse-told.ensures.fails.failed sound));
      same = λ none.
          let empty = ap (λ (v : DeskView). length v.held) c.self.view_is ∙ ap (λ (v : DeskView). length v.held) (c.loop-held.invariant.same none) ∙ ap (λ (qs : List RequestView). length qs) none in
          let popped = ap (λ (qs : List RequestView). length qs) c.in-Some.ensures.items in
          let one = length-append c.pop.new.self.items (c.in-Some.held ∷ []) in
          absurd (omega (arith, empty, popped, one));
    }
