-- A share that is judged: each part by the writes that are kept, and by those that the parts before
-- it have written.
use Rattle.std.specs.Prelude.{◌≡◌, ℕ, ◌-◌, ◌≤◌, max, min, List, [], if◌then◌else◌}
use Rattle.std.specs.List.{list_any}
use Rattle.system_keys.specs.Keys.{Key, Range}
use Rattle.model.specs.Numbers.{Version}
use Rattle.model.specs.declared.part.Part.{Part}
use Rattle.model.specs.declared.verdict.Verdict.{Verdict}
use Rattle.model.specs.declared.verdict.Verdict.TheVariants.{Conflict, TooOld, Committed}
use Rattle.model.specs.Verdicts.{JudgedPart, is_too_old, is_committed, judged_at}
use Rattle.model.specs.WriteHistories.{last_at, verdicts_by_writes, writes_after, unless_forgotten}
use Rattle.share_judge.specs.Steps.{Start, last_from, last_of_all, is_written_above, kept_writes}

-- versions above this one count against t: those above its snapshot that were not dropped, and its
-- own, which only parts before it in its share have written
abbrev pub conflict_bound : (dropped : Version) (t : JudgedPart) → Version
conflict_bound dropped t = min (max dropped t.part.snapshot) (t.version - 1)

-- the verdict on t by the steps, of which those up to `dropped` count as none
abbrev pub verdict_by_steps :
    (window : ℕ) (dropped : Version) (starts : List Start) (t : JudgedPart) → Verdict
verdict_by_steps window dropped starts t =
    if is_too_old window t then TooOld
    else if list_any (is_written_above (conflict_bound dropped t) starts) t.part.reads then Conflict
    else Committed

-- the writes of a part with this verdict, if that is Committed
abbrev pub committed_writes : (verdict : Verdict) (part : Part) → List Range
committed_writes verdict part = if is_committed verdict then part.writes else []

-- The verdicts on the parts are those by the writes that are kept, and the starts in `next` have
-- these writes and what the parts write, each at the version.
pub record IsJudged
    (window : ℕ) (dropped version : Version) (kept : List Start) (parts : List Part)
    (verdicts : List Verdict) (next : List Start) : Type 0 where
  pub verdicts_are :
      verdicts ≡ verdicts_by_writes window (kept_writes dropped kept) (judged_at version parts)
  pub last : (key : Key)
      → last_at (writes_after window (kept_writes dropped kept) (judged_at version parts)) key
      ≡ unless_forgotten dropped (last_from 0 next key)
  pub up_to : (key : Key) → last_from 0 next key ≤ version
  pub past : last_of_all 0 next ≡ 0
