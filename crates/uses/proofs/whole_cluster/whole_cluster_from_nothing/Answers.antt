-- The ledger was not made, or its cluster showed nothing.
use Rattle.std.proofs.Common.{◌≡◌, ◌≤◌, rules}
use Rattle.std.specs.Prelude.{Err}
use Rattle.std.proofs.lemmas.Result.{IfErr-weaker}
use Rattle.agreed_ledger.specs.declared.refusal.Refusal.TheVariants as ledgers
use Rattle.locked_resolvers.specs.declared.refusal.Refusal.TheVariants as clusters
use Rattle.uses.specs.Starting.{IsBadCount, WasNotShownBy, WasNotShown}
use Rattle.uses.specs.declared.refused.Refused.TheVariants.{ByCluster, ByLedger}
use Rattle.uses.proofs.CommitRefusals.{if_err}
use Rattle.uses.proofs.RefusedStarts.{only_alone, only_bad}
use Rattle.uses.proofs.StartRefusals.{no_cluster, no_ledger}
use Rattle.uses.proofs.whole_cluster.whole_cluster_from_nothing.Goals as goal

pub returns-in_err-blank-clause-refused : goal.returns-in_err-blank-clause-refused
returns-in_err-blank-clause-refused g c =
    let refusal = c.in_err-blank.field-0.0 in
    let is : c.from_residual.result ≡ Err (ByLedger refusal) = search rules in
    if_err (WasNotShown c.args.rows c.args.config c.args.batch c.args.next_batch) c.from_residual.result (ByLedger refusal) is
    (no_ledger c.args.rows c.args.config c.args.batch c.args.next_batch refusal c.in_err-blank.ensures.refused)

pub returns-in_err-blank-clause-bad : goal.returns-in_err-blank-clause-bad
returns-in_err-blank-clause-bad g c =
    let refusal = c.in_err-blank.field-0.0 in
    let is : c.from_residual.result ≡ Err (ByLedger refusal) = search rules in
    if_err (λ refused. refused ≡ ByLedger ledgers.BadConfig → IsBadCount c.args.rows) c.from_residual.result (ByLedger refusal) is
    (only_bad c.args.rows c.args.config c.args.batch c.args.next_batch (ByLedger refusal) (no_ledger c.args.rows c.args.config c.args.batch c.args.next_batch refusal c.in_err-blank.ensures.refused))

pub returns-in_err-blank-clause-alone : goal.returns-in_err-blank-clause-alone
returns-in_err-blank-clause-alone g c =
    let refusal = c.in_err-blank.field-0.0 in
    let is : c.from_residual.result ≡ Err (ByLedger refusal) = search rules in
    if_err (λ refused. refused ≡ ByCluster clusters.NoSuchProxy → c.args.config.proxies ≤ 1) c.from_residual.result (ByLedger refusal) is
    (only_alone c.args.rows c.args.config c.args.batch c.args.next_batch (ByLedger refusal) (no_ledger c.args.rows c.args.config c.args.batch c.args.next_batch refusal c.in_err-blank.ensures.refused))

pub returns-clause-refused : goal.returns-clause-refused
returns-clause-refused g c =
    let blank = c.in_ok-blank.blank in
    let made = c.in_ok-blank.ensures.made in
    IfErr-weaker c.in_cluster.result (WasNotShownBy blank c.args.batch c.args.next_batch) (WasNotShown c.args.rows c.args.config c.args.batch c.args.next_batch)
    (λ refused nothing. no_cluster c.args.rows c.args.config c.args.batch c.args.next_batch blank refused (made.0, made.1) made.3 made.2 nothing) c.in_cluster.ensures.refused

pub returns-clause-bad : goal.returns-clause-bad
returns-clause-bad g c =
    let blank = c.in_ok-blank.blank in
    let made = c.in_ok-blank.ensures.made in
    IfErr-weaker c.in_cluster.result (WasNotShownBy blank c.args.batch c.args.next_batch) (λ refused. refused ≡ ByLedger ledgers.BadConfig → IsBadCount c.args.rows)
    (λ refused nothing. only_bad c.args.rows c.args.config c.args.batch c.args.next_batch refused
    (no_cluster c.args.rows c.args.config c.args.batch c.args.next_batch blank refused (made.0, made.1) made.3 made.2 nothing)) c.in_cluster.ensures.refused

pub returns-clause-alone : goal.returns-clause-alone
returns-clause-alone g c =
    let blank = c.in_ok-blank.blank in
    let made = c.in_ok-blank.ensures.made in
    IfErr-weaker c.in_cluster.result (WasNotShownBy blank c.args.batch c.args.next_batch) (λ refused. refused ≡ ByCluster clusters.NoSuchProxy → c.args.config.proxies ≤ 1)
    (λ refused nothing. only_alone c.args.rows c.args.config c.args.batch c.args.next_batch refused
    (no_cluster c.args.rows c.args.config c.args.batch c.args.next_batch blank refused (made.0, made.1) made.3 made.2 nothing)) c.in_cluster.ensures.refused
