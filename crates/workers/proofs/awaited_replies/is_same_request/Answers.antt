-- Both are made for one record, to one resolver, by one version last received.
use Rattle.std.proofs.Common.{◌≡◌, ◌≢◌, ap, sym, ◌∙◌, subst}
use Rattle.facts.specs.Stretches.{Stretch, StretchesAgree}
use Rattle.model.specs.Records.{Record}
use Rattle.model.specs.Requests.{Request}
use Rattle.workers.proofs.AskLemmas.{match_eq, one_request}
use Rattle.workers.proofs.awaited_replies.is_same_request.Goals as goal

pub returns : goal.returns
returns g c =
    let one = c.args.one.now in
    let other = c.args.other.now in
    let mine : Stretch Record = record { first = 0; known = one.records } in
    let theirs : Stretch Record = record { first = 0; known = other.records } in
    let agree = subst (λ (s : Stretch Record). StretchesAgree s theirs) c.records.ensures.value (subst (λ (s : Stretch Record). StretchesAgree c.records.result.now s) c.records-2.ensures.value c.agree.ensures) in
    let row : one.plain.row ≡ other.plain.row = sym (c.row.ensures ∙ ap (λ (q : Request). q.row) c.plain-one.ensures.value) ∙ c.if-row.false ∙ c.row-2.ensures ∙ ap (λ (q : Request). q.row) c.plain-other.ensures.value in
    let resolver : one.plain.resolver ≡ other.plain.resolver = sym (c.resolver.ensures ∙ ap (λ (q : Request). q.resolver) c.plain-one.ensures.value) ∙ c.if-resolver.false ∙ c.resolver-2.ensures ∙ ap (λ (q : Request). q.resolver) c.plain-other.ensures.value in
    let mine_last : c.last_received.result ≡ one.plain.last_received = c.last_received.ensures ∙ ap (λ (q : Request). q.last_received) c.plain-one.ensures.value in
    let their_last : c.last_received-2.result ≡ other.plain.last_received = c.last_received-2.ensures ∙ ap (λ (q : Request). q.last_received) c.plain-other.ensures.value in
    match_eq c.last_received.result c.last_received-2.result (one ≡ other) (one.plain ≢ other.plain)
    (λ same. one_request g.N.Naming.cells.config one other c.plain-one.ensures.kept c.plain-other.ensures.kept agree row resolver (sym mine_last ∙ same ∙ their_last))
    (λ apart both. apart (mine_last ∙ ap (λ (q : Request). q.last_received) both ∙ sym their_last))
