-- A part of the cluster was not made, or a batch was not committed.
use Rattle.std.proofs.Common.{◌≡◌, inl, refl, arith, rules}
use Rattle.std.specs.Prelude.{Err}
use Rattle.agreed_ledger.specs.declared.refusal.Refusal.TheVariants as ledgers
use Rattle.uses.specs.Starting.{WasNotShownBy}
use Rattle.uses.specs.declared.refused.Refused.TheVariants.{ByCluster, ByLedger}
use Rattle.uses.proofs.CommitRefusals.{if_err}
use Rattle.uses.proofs.StartRefusals.{no_memory, no_proxy}
use Rattle.uses.proofs.whole_cluster.in_cluster.Goals as goal

pub returns-in_err-sequencer-clause-refused : goal.returns-in_err-sequencer-clause-refused
returns-in_err-sequencer-clause-refused g c =
    let is : c.from_residual.result ≡ Err (ByLedger ledgers.OutOfMemory) = search rules in
    if_err (WasNotShownBy g.N.Naming.cells c.args.batch c.args.next_batch) c.from_residual.result (ByLedger ledgers.OutOfMemory) is (no_memory g.N.Naming.cells c.args.batch c.args.next_batch (ByLedger ledgers.OutOfMemory) (inl refl))

pub returns-in_err-resolvers-clause-refused : goal.returns-in_err-resolvers-clause-refused
returns-in_err-resolvers-clause-refused g c =
    let is : c.from_residual-in_err-resolvers.result ≡ Err (ByLedger ledgers.OutOfMemory) = search rules in
    if_err (WasNotShownBy g.N.Naming.cells c.args.batch c.args.next_batch) c.from_residual-in_err-resolvers.result (ByLedger ledgers.OutOfMemory) is (no_memory g.N.Naming.cells c.args.batch c.args.next_batch (ByLedger ledgers.OutOfMemory) (inl refl))

pub returns-in_err-one-clause-refused : goal.returns-in_err-one-clause-refused
returns-in_err-one-clause-refused g c =
    let refusal = c.in_err-one.field-0.0 in
    let is : c.from_residual-in_err-one.result ≡ Err (ByCluster refusal) = search rules in
    if_err (WasNotShownBy g.N.Naming.cells c.args.batch c.args.next_batch) c.from_residual-in_err-one.result (ByCluster refusal) is (no_proxy g.N.Naming.cells c.args.batch c.args.next_batch 0 refusal (omega arith) c.in_err-one.ensures)

pub returns-in_err-other-clause-refused : goal.returns-in_err-other-clause-refused
returns-in_err-other-clause-refused g c =
    let refusal = c.in_err-other.field-0.0 in
    let is : c.from_residual-in_err-other.result ≡ Err (ByCluster refusal) = search rules in
    if_err (WasNotShownBy g.N.Naming.cells c.args.batch c.args.next_batch) c.from_residual-in_err-other.result (ByCluster refusal) is (no_proxy g.N.Naming.cells c.args.batch c.args.next_batch 1 refusal (omega arith) c.in_err-other.ensures)
