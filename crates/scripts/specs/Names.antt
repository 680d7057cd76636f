-- The words that stand for verdicts, outcomes and unseen rows in a line (this project's profile).
use Rattle.std.specs.Prelude.{ℕ, List, codes}
use Rattle.std.specs.Fmt.{decimal}
use Rattle.model.specs.declared.outcome.Outcome.{Outcome}
use Rattle.model.specs.declared.outcome.Outcome.TheVariants as outcomes
use Rattle.model.specs.declared.unseen.UnseenRow.{UnseenRow}
use Rattle.model.specs.declared.verdict.Verdict.{Verdict}
use Rattle.model.specs.declared.verdict.Verdict.TheVariants as verdicts

abbrev pub verdict_name : Verdict → List ℕ
verdict_name verdicts.Conflict = codes "conflict"
verdict_name verdicts.TooOld = codes "too_old"
verdict_name verdicts.Committed = codes "committed"

abbrev pub outcome_name : Outcome → List ℕ
outcome_name (outcomes.Committed version number) = codes "committed"
outcome_name outcomes.Conflict = codes "conflict"
outcome_name outcomes.TooOld = codes "too_old"
outcome_name outcomes.Locked = codes "locked"

-- an unseen row is named by its version
abbrev pub unseen_version : UnseenRow → List ℕ
unseen_version row = decimal row.version
