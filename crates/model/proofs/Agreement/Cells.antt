-- What a cell has as Committed is what the cells say; and which columns have the same cells.
use Rattle.std.proofs.Common.{◌≡◌, refl, sym, ap, ◌∙◌, subst, ℕ, zero, suc, ◌<◌, ◌≤◌, List, [], ◌∷◌, map, take, slice_get, Some, arith}
use Rattle.std.proofs.lemmas.Bool.{eq-eqb, ne_eqb}
use Rattle.model.specs.declared.part.Part.{Part}
use Rattle.model.specs.declared.verdict.Verdict.{Verdict}
use Rattle.model.specs.declared.verdict.Verdict.TheVariants.{Committed}
use Rattle.model.specs.Records.{oldest}
use Rattle.model.specs.Shares.{share, share_back_to}
use Rattle.model.specs.Journal.{verdict_or_conflict, list_at, cell_verdicts}
use Rattle.model.specs.RequestRules.{NumbersRise}
use Rattle.model.specs.Agreed.{Column, Columns}
use Rattle.model.specs.Laws.Agreement.{CommittedInTheCellIsSaid}
use Rattle.model.specs.Laws.Agreement.{ColumnsCutDownHaveSameCells}
use Rattle.model.proofs.Resolvers.RequestRules.{parts_rise}

-- ---- what a cell has as Committed

number_at_least : (least : ℕ) (parts : List Part) (place : ℕ) (part : Part) → NumbersRise least parts → slice_get parts place ≡ Some part → least ≤ part.number
number_at_least least [] place part rise at = absurd (cc)
number_at_least least (first ∷ parts) zero part rise at =
    let same : first ≡ part = cc in
    let number : first.number ≡ part.number = ap (λ (p : Part). p.number) same in
    let up = rise.0 in
    omega (arith, number, up)
number_at_least least (first ∷ parts) (suc place) part rise at =
    let later = number_at_least (suc first.number) parts place part rise.1 at in
    let up = rise.0 in
    omega (arith, later, up)

said_at_place : (least : ℕ) (parts : List Part) (verdicts : List Verdict) (place : ℕ) (part : Part) → NumbersRise least parts → slice_get parts place ≡ Some part → slice_get verdicts place ≡ Some Committed → verdict_or_conflict parts verdicts part.number ≡ Committed
said_at_place least [] verdicts place part rise at said = absurd (cc)
said_at_place least (first ∷ parts) [] place part rise at said = absurd (cc)
said_at_place least (first ∷ parts) (verdict ∷ verdicts) zero part rise at said =
    let same : first ≡ part = cc in
    let is : verdict ≡ Committed = cc in
    rw (eq-eqb first.number part.number (ap (λ (p : Part). p.number) same)) is
said_at_place least (first ∷ parts) (verdict ∷ verdicts) (suc place) part rise at said =
    let later = number_at_least (suc first.number) parts place part rise.1 at in
    rw (ne_eqb first.number part.number (λ (same : first.number ≡ part.number). omega (arith, later, same))) (said_at_place (suc first.number) parts verdicts place part rise.1 at said)

pub said_in_cell : CommittedInTheCellIsSaid
unfolding cell_verdicts share_back_to
said_in_cell config h columns r i n rec found commits =
    rw found
    (subst (λ (k : ℕ). verdict_or_conflict (share config rec r) (list_at (list_at columns r) i) k ≡ Committed) commits.number
    (said_at_place 0 (share config rec r) (list_at (list_at columns r) i) commits.place commits.part (parts_rise (oldest config rec) rec r 0 rec.batch) commits.part_there commits.committed))

-- ---- columns that are cut down

list_at-take : {X : Type 0} (lists : List (List X)) (n i : ℕ) → i < n → list_at (take n lists) i ≡ list_at lists i
list_at-take lists zero i below = absurd (omega arith)
list_at-take [] (suc n) i below = refl
list_at-take (list ∷ lists) (suc n) zero below = refl
list_at-take (list ∷ lists) (suc n) (suc i) below = list_at-take lists n i (omega arith)

cut_at : (columns : Columns) (n r : ℕ) → list_at (map (λ (column : Column). take n column) columns) r ≡ take n (list_at columns r)
cut_at [] zero r = refl
cut_at [] (suc n) r = refl
cut_at (column ∷ columns) n zero = refl
cut_at (column ∷ columns) n (suc r) = cut_at columns n r

pub columns_cut_down : ColumnsCutDownHaveSameCells
columns_cut_down config columns count r i there below =
    sym
    (ap (λ (column : Column). list_at column i) (cut_at (take config.resolvers columns) count r ∙ ap (λ (column : Column). take count column) (list_at-take columns config.resolvers r there))
    ∙ list_at-take (list_at columns r) count i below)
