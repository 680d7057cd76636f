-- The numbers of the model, each under the name of what it counts.
use Rattle.std.specs.Prelude.{ℕ}

-- a commit version; later batches have greater ones
abbrev pub Version : Type 0
Version = ℕ

-- a resolver, numbered from 0
abbrev pub ResolverNumber : Type 0
ResolverNumber = ℕ

-- a commit proxy, numbered from 0
abbrev pub ProxyNumber : Type 0
ProxyNumber = ℕ

-- the row of a record: its place in the order of all batches, from 0
abbrev pub RowNumber : Type 0
RowNumber = ℕ

-- the number of a transaction in its batch, from 0
abbrev pub TransactionNumber : Type 0
TransactionNumber = ℕ
