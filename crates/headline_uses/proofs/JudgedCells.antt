-- Verdict cells that are there and hold the verdicts of the definition.
use Rattle.std.proofs.Common.{◌≡◌, refl, ap, ◌∙◌, ℕ, zero, suc, ◌<◌, List, [], ◌∷◌, length, slice_get, Some, arith}
use Rattle.std.proofs.lemmas.Option.{slice_get_within}
use Rattle.model.specs.Configs.{Config}
use Rattle.model.specs.declared.verdict.Verdict.{Verdict}
use Rattle.model.specs.Records.{Record}
use Rattle.model.specs.Journal.{list_at}
use Rattle.model.specs.Agreed.{Column, IsVerdictColumn, KnowsRows}
use Rattle.headline_uses.specs.Verdicts.{HasVerdicts}

-- a list of lists has the list at each place below its length
list_there : {X : Type 0} (lists : List (List X)) (i : ℕ) → i < length lists → slice_get lists i ≡ Some (list_at lists i)
list_there [] i within = absurd (omega (arith, within))
list_there (list ∷ lists) zero within = refl
list_there (list ∷ lists) (suc i) within = list_there lists i (omega (arith, within))

-- the cells are there, and hold these verdicts
pub has_verdicts : (config : Config) (records : List Record) (r : ℕ) (column : Column) → KnowsRows column (length records) → IsVerdictColumn config records r column → HasVerdicts config records r column
has_verdicts config records r column cells verdicts row rec there =
    list_there column row (let within = slice_get_within records row rec there in omega (arith, within, cells))
    ∙ ap (λ (xs : List Verdict). Some xs) (verdicts row rec there)
