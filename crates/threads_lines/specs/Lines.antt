-- The lines that are printed of batches and closings, by the answers to them (this project's
-- profile).
use Rattle.std.specs.Prelude.{ℕ, List, [], ◌++◌, map, codes, Result, Ok, Err}
use Rattle.std.specs.Fmt.{decimal}
use Rattle.model.specs.Numbers.{ProxyNumber, Version}
use Rattle.model.specs.declared.outcome.Finished.{Finished}
use Rattle.scripts.specs.Lines.{line, list_text, refused_text, spaced}
use Rattle.scripts.specs.Names.{outcome_name}
use Rattle.agreed_ledger.specs.Refusals.{refusal_name, refusal_number}
use Rattle.agreed_ledger.specs.declared.refusal.Refusal.{Refusal}
use Rattle.agreed_ledger.specs.declared.refusal.Refusal.TheVariants as refusals

-- what a batch is answered: it is finished, or it got no record
abbrev pub CommitResult : Type 0
CommitResult = Result Finished Refusal

-- ---- words

-- the value of the refusal, where it has one, after a space
abbrev pub refusal_value : Refusal → List ℕ
refusal_value refusals.BadConfig = []
refusal_value refusals.NoSuchResolver = []
refusal_value refusals.NoSuchProxy = []
refusal_value (refusals.LedgerFull rows) = spaced (decimal rows)
refusal_value refusals.VersionsEnd = []
refusal_value refusals.CellTaken = []
refusal_value refusals.OutOfMemory = []

-- a refusal: its number, its name, and its value
abbrev pub refusal_text : Refusal → List ℕ
refusal_text refusal =
    refused_text (refusal_number refusal) (refusal_name refusal) ++ refusal_value refusal

abbrev pub version_text : Version → List ℕ
version_text version = codes "version " ++ decimal version

-- the outcomes of the batch, or why it got no record
abbrev pub outcomes_text : CommitResult → List ℕ
outcomes_text (Ok finished) = list_text (map outcome_name finished.outcomes)
outcomes_text (Err refusal) = refusal_text refusal

-- the version of the batch, or why it got no record
abbrev pub closed_text : CommitResult → List ℕ
closed_text (Ok finished) = version_text finished.version
closed_text (Err refusal) = refusal_text refusal

-- ---- lines

-- how the line of the batch begins that stands at this place among those of proxy p
abbrev pub batch_text : ProxyNumber → (place : ℕ) → List ℕ
batch_text p place = codes "batch " ++ decimal p ++ spaced (decimal place) ++ codes " "

abbrev pub batch_line : ProxyNumber → (place : ℕ) → CommitResult → List ℕ
batch_line p place answer = line (batch_text p place ++ outcomes_text answer)

-- how the line of the batch begins by which proxy p closes
abbrev pub closing_text : ProxyNumber → List ℕ
closing_text p = codes "closing " ++ decimal p ++ codes " "

abbrev pub closing_line : ProxyNumber → CommitResult → List ℕ
closing_line p answer = line (closing_text p ++ closed_text answer)
