-- What a history of writes answers, over every list of shares that it stands for, and why nothing
-- was judged.
use Rattle.std.specs.Prelude.{◌≡◌, ℕ, suc, ◌-◌, max, min, List, [], ◌∷◌, ◌++◌, length, IsTrue, codes}
use Rattle.system_keys.specs.Keys.{Key, holds, is_key_below}
use Rattle.system_keys.specs.Limits.{key_space_end}
use Rattle.model.specs.Numbers.{Version}
use Rattle.model.specs.declared.verdict.Verdict.{Verdict}
use Rattle.model.specs.Verdicts.{judged_at, verdicts_after}
use Rattle.model.specs.WriteHistories.{WriteHistoryView, ShareAt, all_judged, StandsForShares}
use Rattle.model.specs.WriteHistories.{Write, last_at}
use Rattle.share_judge.specs.declared.not_judged.NotJudged.{NotJudged}
use Rattle.share_judge.specs.declared.not_judged.NotJudged.TheVariants.{OutOfMemory, NotKept}

-- the verdicts are those on the share after every list of shares that the history stands for
abbrev pub AreVerdicts : (history : WriteHistoryView) (s : ShareAt) (verdicts : List Verdict) → Type 0
AreVerdicts history s verdicts =
    (shares : List ShareAt) (forgotten : Version)
    → StandsForShares history shares forgotten
    → verdicts
    ≡ verdicts_after history.window (all_judged shares) (judged_at s.version s.parts)

-- whatever shares the history stands for, the next one stands for these and then one more
abbrev pub GainsShare : (history : WriteHistoryView) (s : ShareAt) (next : WriteHistoryView) → Type 0
GainsShare history s next =
    (shares : List ShareAt) (forgotten : Version)
    → StandsForShares history shares forgotten
    → StandsForShares next (shares ++ s ∷ []) forgotten

-- Whatever shares the history stands for, the next one stands for the same. It has forgotten what
-- is at or below `oldest` and lies at least the window before the last version.
abbrev pub Forgets : (history : WriteHistoryView) (oldest : Version) (next : WriteHistoryView) → Type 0
Forgets history oldest next =
    (shares : List ShareAt) (forgotten : Version)
    → StandsForShares history shares forgotten
    → let bound = min oldest (history.last - history.window) in
    StandsForShares next shares (max forgotten bound)

-- if the verdicts were not kept, this holds of the reason
abbrev pub IfNotKept : {E F : Type 0} → NotJudged E F → (E → Type 0) → Type 0
IfNotKept (OutOfMemory back) property = Unit {0}
IfNotKept (NotKept reason) property = property reason

-- if an allocation failed, this holds of the function that comes back
abbrev pub IfOutOfMemory : {E F : Type 0} → NotJudged E F → (F → Type 0) → Type 0
IfOutOfMemory (OutOfMemory back) property = property back
IfOutOfMemory (NotKept reason) property = Unit {0}

-- ---- steps

-- all keys from `begin` up to `end` have one last version
abbrev pub HaveOneLast : (last : Key → Version) (begin end : Key) → Type 0
HaveOneLast last begin end =
    (key : Key) → IsTrue (holds (record { begin = begin; end = end }) key) → last key ≡ last begin

-- the keys from `begin` up to `next` have one last version, and `next` has another
pub record IsStep (last : Key → Version) (begin next : Key) : Type 0 where
  pub begins_below : IsTrue (is_key_below begin next)
  pub in_space : IsTrue (is_key_below next key_space_end)
  pub one : HaveOneLast last begin next
  pub differs : last next ≡ last begin → ⊥

-- the keys from `begin` up to `\xff\xff` are in one step after another: the first begins at
-- `begin`, and the others at the keys `nexts`
abbrev pub AreSteps : (last : Key → Version) (begin : Key) (nexts : List Key) → Type 0
AreSteps last begin [] = HaveOneLast last begin key_space_end
AreSteps last begin (next ∷ nexts) = IsStep last begin next × AreSteps last next nexts

-- from the empty key up to `\xff\xff` there is this number of greatest ranges of keys with one last
-- version
pub record IsCount (last : Key → Version) (count : ℕ) : Type 0 where
  pub nexts : List Key
  pub steps : AreSteps last [] nexts
  pub counted : count ≡ suc (length nexts)

-- ---- the statements of the law

-- last versions have one count of steps
abbrev pub StepsHaveOneCount : Type 0
StepsHaveOneCount =
    (last : Key → Version) (m n : ℕ) → IsCount last m → IsCount last n → m ≡ n

-- the keys from `b` up to `d` are written at version 10
abbrev pub b_to_d : Write
b_to_d = record { range = record { begin = codes "b"; end = codes "d" }; version = 10 }

-- before any write there is one step; one write inside the key space makes three, which is no other
-- number
pub record AWriteMakesThreeSteps : Type 0 where
  pub none : IsCount (last_at []) 1
  pub three : IsCount (last_at (b_to_d ∷ [])) 3
  pub no_other : (n : ℕ) → IsCount (last_at (b_to_d ∷ [])) n → n ≡ 3
