-- A holder that comes to know more, and one that knows all of a history.
use Rattle.std.proofs.Common.{◌≡◌, refl, sym, ap, ◌∙◌, ℕ, zero, suc, ◌<◌, List, [], ◌∷◌, ◌++◌, length, take, append_assoc, append-nil, length-append, option_map, arith}
use Rattle.std.proofs.lemmas.Option.{slice_get-map, slice_get_within}
use Rattle.std.specs.Prelude.{slice_get, Some}
use Rattle.model.specs.Configs.{Config}
use Rattle.model.specs.Records.{Record}
use Rattle.model.specs.Shares.{each_below}
use Rattle.model.specs.Verdicts.{share_verdicts}
use Rattle.model.specs.Journal.{list_at}
use Rattle.model.specs.Agreed.{Column, Columns, AreVerdicts}
use Rattle.model.specs.Growing.{column_from, all_columns, AgreedWithARecord, AgreedWithAnyCells, AgreedWithCells, VerdictsWithCells, HistoriesAreAgreed, AllColumnsHaveCells, AllColumnsGainVerdicts, AllColumnsAreVerdicts}
use Rattle.model.proofs.History.Growth.{history_push}
use Rattle.model.proofs.Agreement.Holders.{column_more}
use Rattle.model.proofs.Journals.ReplyRows.{slice_get-each_below}

-- ---- from nothing, and on

pub no_verdicts : (config : Config) (columns : Columns) → AreVerdicts config [] columns
no_verdicts config columns r there i rec at = absurd (cc)

pub agreed_with_a_record : AgreedWithARecord
agreed_with_a_record config records columns n rec agreed follows =
    record {
      history = history_push config records rec agreed.history follows;
      rows = let known = agreed.rows in omega (arith, known, length-append records (rec ∷ []));
      cells = agreed.cells;
    }

pub agreed_with_any_cells : AgreedWithAnyCells
agreed_with_any_cells config records columns more n rec agreed at known =
    record {
      history = agreed.history;
      rows = let within = slice_get_within records n rec at in omega (arith, within);
      cells = known;
    }

pub agreed_with_cells : AgreedWithCells
agreed_with_cells config records columns more n rec agreed at gained =
    agreed_with_any_cells config records columns more n rec agreed at
    (λ r there.
    let known = agreed.cells r there in
    let longer : length (list_at more r) ≡ length (list_at columns r ++ share_verdicts config r (take n records) rec ∷ []) = ap length (gained r there) in
    omega (arith, known, longer, length-append (list_at columns r) (share_verdicts config r (take n records) rec ∷ [])))

pub verdicts_with_cells : VerdictsWithCells
verdicts_with_cells config h columns more rec cells whole gained r there i s at =
    ap (λ (column : Column). list_at column i) (gained r there) ∙ column_more config h rec r (list_at columns r) (cells r there) (whole r there) i s at

-- ---- all cells of a history

list_at_is : {X : Type 0} (lists : List (List X)) (i : ℕ) (list : List X) → slice_get lists i ≡ Some list → list_at lists i ≡ list
list_at_is [] i list at = absurd (cc)
list_at_is (first ∷ lists) zero list at = cc
list_at_is (first ∷ lists) (suc i) list at = list_at_is lists i list at

all_columns_at : (config : Config) (h : List Record) (r : ℕ) → r < config.resolvers → list_at (all_columns config h) r ≡ column_from config r [] h
all_columns_at config h r there =
    list_at_is (all_columns config h) r (column_from config r [] h)
    (slice_get-map (λ (s : ℕ). column_from config s [] h) (each_below config.resolvers) r ∙ ap (option_map (λ (s : ℕ). column_from config s [] h)) (slice_get-each_below config.resolvers r there))

column_from_length : (config : Config) (r : ℕ) (before h : List Record) → length (column_from config r before h) ≡ length h
column_from_length config r before [] = refl
column_from_length config r before (rec ∷ h) = ap (λ (n : ℕ). suc n) (column_from_length config r (before ++ rec ∷ []) h)

column_from_at : (config : Config) (r : ℕ) (before h : List Record) (i : ℕ) (rec : Record) → slice_get h i ≡ Some rec → list_at (column_from config r before h) i ≡ share_verdicts config r (before ++ take i h) rec
column_from_at config r before [] i rec at = absurd (cc)
column_from_at config r before (x ∷ h) zero rec at =
    let same : x ≡ rec = cc in
    let front : before ≡ before ++ [] = sym (append-nil before) in
    λ j. share_verdicts config r (front j) (same j)
column_from_at config r before (x ∷ h) (suc i) rec at =
    column_from_at config r (before ++ x ∷ []) h i rec at ∙ ap (λ (front : List Record). share_verdicts config r front rec) (append_assoc before (x ∷ []) (take i h))

pub all_columns_have_cells : AllColumnsHaveCells
all_columns_have_cells config h r there = ap (λ (column : Column). length column) (all_columns_at config h r there) ∙ column_from_length config r [] h

column_from-push : (config : Config) (r : ℕ) (before h : List Record) (rec : Record) → column_from config r before (h ++ rec ∷ []) ≡ column_from config r before h ++ share_verdicts config r (before ++ h) rec ∷ []
column_from-push config r before [] rec = ap (λ (front : List Record). share_verdicts config r front rec ∷ []) (sym (append-nil before))
column_from-push config r before (x ∷ h) rec =
    ap (λ (column : Column). share_verdicts config r before x ∷ column)
    (column_from-push config r (before ++ x ∷ []) h rec ∙ ap (λ (front : List Record). column_from config r (before ++ x ∷ []) h ++ share_verdicts config r front rec ∷ []) (append_assoc before (x ∷ []) h))

pub all_columns_gain_verdicts : AllColumnsGainVerdicts
all_columns_gain_verdicts config h rec r there =
    all_columns_at config (h ++ rec ∷ []) r there ∙ column_from-push config r [] h rec ∙ ap (λ (column : Column). column ++ share_verdicts config r h rec ∷ []) (sym (all_columns_at config h r there))

pub histories_are_agreed : HistoriesAreAgreed
histories_are_agreed config h history =
    record {
      history = history;
      rows = omega arith;
      cells = λ r there.
          let whole : length (list_at (all_columns config h) r) ≡ length (column_from config r [] h) = ap length (all_columns_at config h r there) in
          omega (arith, whole, column_from_length config r [] h);
    }

pub all_columns_are_verdicts : AllColumnsAreVerdicts
all_columns_are_verdicts config h r there i rec at = ap (λ (column : Column). list_at column i) (all_columns_at config h r there) ∙ column_from_at config r [] h i rec at
