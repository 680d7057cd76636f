-- The verdict of a resolver on a transaction, by comparison with each transaction that it judged
-- before, and the joined verdict of several resolvers. Release 7.1, `Resolver.actor.cpp`,
-- resolveBatch, and the ConflictSet of `SkipList.cpp`; what differs is marked *profile*.
use Rattle.std.specs.Prelude.{◌≡◌, ℕ, ◌+◌, ◌-◌, ◌<◌, List, [], ◌∷◌, ◌++◌, length, map, Bool, true}
use Rattle.std.specs.Prelude.{false, ◌&&◌, ◌||◌, nat_eq, nat_lt, IsTrue, IsFalse, Contains, fold}
use Rattle.std.specs.Prelude.{if◌then◌else◌}
use Rattle.std.specs.List.{list_any, flat_map}
use Rattle.system_keys.specs.Keys.{Range, Overlap, overlaps}
use Rattle.model.specs.Numbers.{Version, ResolverNumber}
use Rattle.model.specs.Configs.{Config}
use Rattle.model.specs.declared.part.Part.{Part}
use Rattle.model.specs.declared.verdict.Verdict.{Verdict}
use Rattle.model.specs.declared.verdict.Verdict.TheVariants.{Conflict, TooOld, Committed}
use Rattle.model.specs.Transactions.{StampedTransaction}
use Rattle.model.specs.Records.{Record}
use Rattle.model.specs.Shares.{share, parts_from, part_of, asks}

-- the verdict is Committed
abbrev pub is_committed : Verdict → Bool
is_committed Conflict = false
is_committed TooOld = false
is_committed Committed = true

-- ---- the joined verdict of several resolvers

-- the lesser of two verdicts, in the order Conflict, TooOld, Committed
abbrev pub least_of : Verdict → Verdict → Verdict
least_of Conflict w = Conflict
least_of TooOld Conflict = Conflict
least_of TooOld TooOld = TooOld
least_of TooOld Committed = TooOld
least_of Committed w = w

-- the least of the verdicts; of an empty list it is Committed (*profile*)
abbrev pub joined : List Verdict → Verdict
joined [] = Committed
joined (v ∷ vs) = least_of v (joined vs)

-- ---- the verdict of one resolver

-- a part with the version of its record; a resolver judges a list of these in order
pub record JudgedPart : Type 0 where
  pub version : Version
  pub part : Part

-- the list is not empty
abbrev pub has_some : List Range → Bool
has_some [] = false
has_some (range ∷ ranges) = true

-- The part has a read, and its snapshot lies more than the window before its version.
-- *Profile*: the window is counted back from this version.
abbrev pub is_too_old : (window : ℕ) → JudgedPart → Bool
is_too_old window t = has_some t.part.reads && nat_lt t.part.snapshot (t.version - window)

-- too old, as a predicate: the part has a read, and its snapshot plus the window is below its
-- version
pub record IsTooOld (window : ℕ) (t : JudgedPart) : Type 0 where
  pub read : Range
  pub read_in : Contains t.part.reads read
  pub old : t.part.snapshot + window < t.version

-- some read of t overlaps some write of u
abbrev pub reads_a_write : (t u : JudgedPart) → Bool
reads_a_write t u =
    let is_written = λ (read : Range). list_any (overlaps read) u.part.writes in
    list_any is_written t.part.reads

-- u, judged before t, belongs to t's record, or its version is above t's snapshot
abbrev pub is_after_snapshot : (t u : JudgedPart) → Bool
is_after_snapshot t u = nat_eq u.version t.version || nat_lt t.part.snapshot u.version

-- The verdict on t, where `committed` are the earlier parts that its resolver committed. It is Too
-- old if t is too old. Else it is Conflict if t reads a write of one of them that is after its
-- snapshot. Else it is Committed.
abbrev pub verdict_against : (window : ℕ) (committed : List JudgedPart) (t : JudgedPart) → Verdict
verdict_against window committed t =
    if is_too_old window t then TooOld
    else if list_any (λ (u : JudgedPart). is_after_snapshot t u && reads_a_write t u) committed
    then Conflict
    else Committed

-- the committed parts, and then t if its resolver commits it
abbrev pub with_committed :
    (window : ℕ) (committed : List JudgedPart) (t : JudgedPart) → List JudgedPart
with_committed window committed t =
    if is_committed (verdict_against window committed t) then committed ++ t ∷ [] else committed

-- the committed parts, and then those of `parts` that their resolver commits, in order
abbrev pub committed_after : (window : ℕ) (committed parts : List JudgedPart) → List JudgedPart
committed_after window committed parts = fold (with_committed window) committed parts

-- the verdict on t, where `before` are all parts that its resolver judged before it, in order
abbrev pub verdict : (window : ℕ) (before : List JudgedPart) (t : JudgedPart) → Verdict
verdict window before t = verdict_against window (committed_after window [] before) t

-- A Conflict, by all pairs. The part t is not too old. Some part u before it, which the resolver
-- committed, is after t's snapshot, and some read of t overlaps a write of u.
pub record HasConflict (window : ℕ) (before : List JudgedPart) (t : JudgedPart) : Type 0 where
  pub in_time : IsFalse (is_too_old window t)
  pub earlier : List JudgedPart
  pub u : JudgedPart
  pub between : List JudgedPart
  pub before_is : before ≡ earlier ++ u ∷ between
  pub committed : verdict window earlier u ≡ Committed
  pub after_snapshot : IsTrue (is_after_snapshot t u)
  pub read : Range
  pub write : Range
  pub read_in : Contains t.part.reads read
  pub write_in : Contains u.part.writes write
  pub overlap : Overlap read write

-- ---- the verdicts of a resolver on the records of a history

-- the parts of a share, in order, with the version of their record
abbrev pub judged_at : Version → List Part → List JudgedPart
judged_at version parts = map (λ (part : Part). record { version = version; part = part }) parts

-- the verdicts on a list of parts, one after another, where `before` were judged before them
abbrev pub verdicts_after : (window : ℕ) (before parts : List JudgedPart) → List Verdict
verdicts_after window before [] = []
verdicts_after window before (t ∷ ts) =
    verdict window before t ∷ verdicts_after window (before ++ t ∷ []) ts

-- All parts that resolver r judges before a transaction of `rec`: its shares of the records before,
-- and its parts of the transactions `earlier`, which come first in the batch.
unfoldable pub judged_before :
    Config → ResolverNumber
    → (before : List Record) (rec : Record) (earlier : List StampedTransaction)
    → List JudgedPart
judged_before config r before rec earlier =
    flat_map (λ (s : Record). judged_at s.version (share config s r)) before
    ++ judged_at rec.version (parts_from config rec r 0 earlier)

-- the verdict of resolver r on transaction t of `rec`, with the records `before` that one, and the
-- transactions `earlier` before t in its batch
unfoldable pub verdict_of :
    Config → ResolverNumber
    → (before : List Record) (rec : Record) (earlier : List StampedTransaction)
    → (t : StampedTransaction) → Verdict
verdict_of config r before rec earlier t =
    let part = part_of config rec r (length earlier) t in
    let judged : JudgedPart = record { version = rec.version; part = part } in
    verdict config.window (judged_before config r before rec earlier) judged

-- the verdicts of resolver r on its share of a record, after the records before it: one for each
-- part
unfoldable pub share_verdicts :
    Config → ResolverNumber → (before : List Record) (rec : Record) → List Verdict
share_verdicts config r before rec =
    let parts = judged_at rec.version (share config rec r) in
    verdicts_after config.window (judged_before config r before rec []) parts

-- The verdicts of resolver r on those of some transactions of a record that it gets a part of, in
-- order. The transactions `earlier` come before them in the batch.
abbrev pub verdicts_of_askers :
    Config → ResolverNumber → (before : List Record) (rec : Record)
    → (earlier transactions : List StampedTransaction) → List Verdict
verdicts_of_askers config r before rec earlier [] = []
verdicts_of_askers config r before rec earlier (t ∷ ts) =
    let rest = verdicts_of_askers config r before rec (earlier ++ t ∷ []) ts in
    if asks config rec r t then verdict_of config r before rec earlier t ∷ rest else rest
