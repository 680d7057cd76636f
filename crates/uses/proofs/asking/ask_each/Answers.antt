-- The requests are of one record, and so are the replies.
use Rattle.std.proofs.Common.{◌≡◌, sym, subst, List, None, inl, inr, rules}
use Rattle.std.specs.Prelude.{Err}
use Rattle.std.proofs.lemmas.Result.{IfErr-weaker, IfOk-weaker}
use Rattle.model.specs.Configs.{Config}
use Rattle.locked_resolvers.specs.declared.refusal.Refusal.{Refusal}
use Rattle.locked_resolvers.specs.Requests.{RequestView}
use Rattle.locked_resolvers.specs.Asking.{AreOfOneRecord, AreRepliesInOrder, IsAskAllRefusal, IsAskedRefusal}
use Rattle.uses.specs.Asking.{HaveAllReplied, IsAskEachRefusal}
use Rattle.uses.proofs.AskedAll.{all_replied, of_one_record}
use Rattle.uses.proofs.CommitRefusals.{if_err}
use Rattle.uses.proofs.asking.ask_each.Goals as goal

pub ask_all-requires : goal.ask_all-requires
ask_all-requires g c = subst (λ (qs : List RequestView). AreOfOneRecord qs) (sym c.requests.ensures.value) (of_one_record g.N.Naming.cells.config c.args.begun.now c.requests.ensures.kept)

pub returns-clause-replied : goal.returns-clause-replied
returns-clause-replied g c =
    let config = g.N.Naming.cells.config in
    let begun = c.args.begun.now in
    IfOk-weaker c.ask_all.result (λ replies. AreRepliesInOrder c.requests.result.now replies.items) (λ replies. HaveAllReplied config begun replies.items)
    (λ replies answered. all_replied config begun replies.items c.requests.ensures.kept (subst (λ (qs : List RequestView). AreRepliesInOrder qs replies.items) c.requests.ensures.value answered))
    c.ask_all.ensures.replied

pub returns-in_err-asking-clause-refused : goal.returns-in_err-asking-clause-refused
returns-in_err-asking-clause-refused g c =
    let refusal = c.in_err-asking.field-0.0 in
    let is : c.from_residual.result ≡ Err refusal = search rules in
    if_err (IsAskEachRefusal g.N.Naming.cells.config c.args.resolvers.now c.args.begun.now) c.from_residual.result refusal is (inl c.in_err-asking.ensures)

pub returns-clause-refused : goal.returns-clause-refused
returns-clause-refused g c =
    let config = g.N.Naming.cells.config in
    let begun = c.args.begun.now in
    IfErr-weaker c.ask_all.result (IsAskAllRefusal config None c.requests.result.now) (IsAskEachRefusal config c.args.resolvers.now begun)
    (λ refusal refused. inr (c.in_ok-asking.ensures, subst (λ (qs : List RequestView). IsAskedRefusal config qs refusal) c.requests.ensures.value (asked config c.requests.result.now refusal refused)))
    c.ask_all.ensures.refused
  where
    asked : (config : Config) (requests : List RequestView) (refusal : Refusal) → IsAskAllRefusal config None requests refusal → IsAskedRefusal config requests refusal
    asked config requests refusal (inl (same, foreign)) = absurd (foreign.1.2 tt)
    asked config requests refusal (inr (taken, refused)) = refused
