-- The ledger or a proxy of a cluster that starts was not made.
use Rattle.std.proofs.Common.{◌≡◌, ap, ℕ, ◌<◌, ◌≤◌, ◌⊎◌, inl, inr, List, length, arith}
use Rattle.std.proofs.lemmas.Bool.{cases_order}
use Rattle.model.specs.Stamps.{AdmittedTransaction}
use Rattle.model.specs.Configs.{Config}
use Rattle.agreed_ledger.specs.Cells.{Cells, ledger_limit}
use Rattle.agreed_ledger.specs.declared.refusal.Refusal.{Refusal as LedgerRefusal}
use Rattle.agreed_ledger.specs.declared.refusal.Refusal.TheVariants as ledgers
use Rattle.locked_resolvers.specs.declared.refusal.Refusal.{Refusal}
use Rattle.locked_resolvers.specs.declared.refusal.Refusal.TheVariants as refusals
use Rattle.uses.specs.Starting.{IsBadCount, IsGoodCount, IsOutOfMemory}
use Rattle.uses.specs.Starting.{WasNotShown, WasNotShownBy, WasNotShownByTwo}
use Rattle.uses.specs.declared.refused.Refused.{Refused}
use Rattle.uses.specs.declared.refused.Refused.TheVariants.{ByCluster, ByLedger}

out_of_memory : (refusal : Refusal) → refusal ≡ refusals.OutOfMemory → IsOutOfMemory (ByCluster refusal)
out_of_memory refusal is = inr (ap (λ (r : Refusal). ByCluster r) is)

-- an allocation failed
pub no_memory : (cells : Cells) (batch next_batch : List AdmittedTransaction) (refused : Refused) → IsOutOfMemory refused → WasNotShownBy cells batch next_batch refused
no_memory cells batch next_batch refused is = ((λ few. inl is), (λ many. inl is))

-- there are two proxies, and they showed nothing
pub by_two : (cells : Cells) (batch next_batch : List AdmittedTransaction) (refused : Refused) → 1 < cells.config.proxies → WasNotShownByTwo cells batch next_batch refused → WasNotShownBy cells batch next_batch refused
by_two cells batch next_batch refused there is = ((λ few. absurd (omega (arith, few, there))), (λ many. is))

-- the cluster has no second proxy, or an allocation failed
pub no_proxy : (cells : Cells) (batch next_batch : List AdmittedTransaction) (number : ℕ) (refusal : Refusal) → number ≤ 1
    → (cells.config.proxies ≤ number → refusal ≡ refusals.NoSuchProxy) × (number < cells.config.proxies → refusal ≡ refusals.OutOfMemory)
    → WasNotShownBy cells batch next_batch (ByCluster refusal)
no_proxy cells batch next_batch number refusal within is =
    ((λ few. alone few (cases_order cells.config.proxies number)), (λ many. inl (out_of_memory refusal (is.1 (omega (arith, many, within))))))
  where
    alone : cells.config.proxies ≤ 1 → (cells.config.proxies ≡ number) ⊎ ((cells.config.proxies < number) ⊎ (number < cells.config.proxies)) → IsOutOfMemory (ByCluster refusal) ⊎ (ByCluster refusal ≡ ByCluster refusals.NoSuchProxy)
    alone few (inl same) = inr (ap (λ (r : Refusal). ByCluster r) (is.0 (omega (arith, same))))
    alone few (inr (inl less)) = inr (ap (λ (r : Refusal). ByCluster r) (is.0 (omega (arith, less))))
    alone few (inr (inr more)) = inl (out_of_memory refusal (is.1 more))

-- a ledger cannot have this number of rows, or an allocation for it failed
pub no_ledger : (rows : ℕ) (config : Config) (batch next_batch : List AdmittedTransaction) (refusal : LedgerRefusal)
    → (1 ≤ rows → rows ≤ ledger_limit → refusal ≡ ledgers.OutOfMemory) × ((rows ≡ 0) ⊎ (ledger_limit < rows) → refusal ≡ ledgers.BadConfig)
    → WasNotShown rows config batch next_batch (ByLedger refusal)
no_ledger rows config batch next_batch refusal is =
    ((λ bad. ap (λ (r : LedgerRefusal). ByLedger r) (is.1 bad)), (λ good. inl (inl (ap (λ (r : LedgerRefusal). ByLedger r) (is.0 good.0 good.1)))))

-- the ledger was made, and its cluster showed nothing
pub no_cluster : (rows : ℕ) (config : Config) (batch next_batch : List AdmittedTransaction) (cells : Cells) (refused : Refused) → IsGoodCount rows
    → cells.config ≡ config → length cells.records ≡ rows → WasNotShownBy cells batch next_batch refused
    → WasNotShown rows config batch next_batch refused
no_cluster rows config batch next_batch cells refused good same count nothing =
    ((λ bad. not_both bad), (λ _. inr (cells, same, count, nothing)))
  where
    not_both : IsBadCount rows → refused ≡ ByLedger ledgers.BadConfig
    not_both (inl none) = let some = good.0 in absurd (omega (arith, none, some))
    not_both (inr many) = let few = good.1 in absurd (omega (arith, many, few))
