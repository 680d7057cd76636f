-- If the map asks as the record's moves do, its lists give each resolver what the moves say.
use Rattle.std.proofs.Common.{ℕ, ap, ap₂, subst, ◌∙◌, List, map}
use Rattle.model.specs.Transactions.{StampedTransaction}
use Rattle.model.specs.Shares.{each_below}
use Rattle.request_builder.specs.declared.asked_resolvers.AskedResolvers.{AskedResolvers}
use Rattle.request_builder.specs.AskedResolvers.{AreAllAskedResolvers, request_for_resolver, asked_by}
use Rattle.request_builder.proofs.Built.{requests_are, asked_lists_are}
use Rattle.request_builder.proofs.building.build.Goals as goal

pub returns-clause-requests : goal.returns-clause-requests
returns-clause-requests c = λ asks.
    let asked = subst (λ (batch : List StampedTransaction). AreAllAskedResolvers c.args.oldest c.args.owners.now batch c.in_ok-askings.askings.items) c.batch.ensures c.in_ok-askings.ensures.asked in
    c.in_ok-requests.ensures
    ∙ ap₂ (λ (askings : List AskedResolvers) (resolvers : ℕ). map (request_for_resolver c.args.rec.now c.args.last_received askings) (each_below resolvers)) c.deref.ensures.value c.resolvers.ensures
    ∙ requests_are c.args.owners.now c.args.oldest c.args.rec.now c.args.last_received c.in_ok-askings.askings.items asks asked

pub returns-clause-asked : goal.returns-clause-asked
returns-clause-asked c = λ asks.
    let asked = subst (λ (batch : List StampedTransaction). AreAllAskedResolvers c.args.oldest c.args.owners.now batch c.in_ok-askings.askings.items) c.batch.ensures c.in_ok-askings.ensures.asked in
    c.in_ok-asked.ensures
    ∙ ap (map (asked_by c.args.owners.now.resolvers)) c.deref-2.ensures.value
    ∙ asked_lists_are c.args.owners.now c.args.oldest c.args.rec.now c.in_ok-askings.askings.items asks asked
