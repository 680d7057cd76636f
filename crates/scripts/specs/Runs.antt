-- What a run writes, and what it leaves of its source and its sink.
use Rattle.std.specs.Prelude.{◌≡◌, ◌≤◌, ◌+◌, ◌⊎◌, length, ℕ, List, Option, IfSome}
use Rattle.std.specs.Io.KnownBytes.{Appends, IsAtEnd}
use Rattle.scripts.specs.Devices.{AppendsBeginning, input_limit, read_limit, saturating_add}
use Rattle.scripts.specs.Outputs.{OutputView}
use Rattle.scripts.specs.Statuses.{IsWholeText, IsUnfailed}
use Rattle.scripts.specs.declared.devices.Sink.{Ghosts as SinkView}
use Rattle.scripts.specs.declared.devices.Source.{Ghosts as SourceView}
use Rattle.scripts.specs.declared.status.RunStatus.{RunStatus}
use Rattle.scripts.specs.declared.status.RunStatus.TheVariants.{Done, ScriptRefused}
use Rattle.scripts.specs.declared.status.RunStatus.TheVariants.{DeviceFailed, OutOfMemory, ClusterRefused}

-- ---- what a run writes, by the output for its input

-- these bytes are the whole input, if the source exposes it
abbrev pub IsInput : Option (List ℕ) → List ℕ → Type 0
IsInput input bytes = IfSome input (λ known. bytes ≡ known)

-- the sink gained the whole text of the output for the input, and the status is the output's
abbrev pub WritesOutput : (List ℕ → OutputView) → Option (List ℕ) → Option (List ℕ)
    → Option (List ℕ)
    → RunStatus → Type 0
WritesOutput output_to input old new status = (bytes : List ℕ) × IsInput input bytes
    × Appends old new (output_to bytes).text × (status ≡ (output_to bytes).status)

-- the sink gained a beginning of that text, and nothing else
abbrev pub BeginsOutput : (List ℕ → OutputView) → Option (List ℕ) → Option (List ℕ)
    → Option (List ℕ)
    → Type 0
BeginsOutput output_to input old new = (bytes : List ℕ) × IsInput input bytes
    × AppendsBeginning old new (output_to bytes).text

-- the whole text was written; or a beginning of it, perhaps nothing, if a device or an allocation
-- failed; no cluster refuses where the bytes alone decide the text
abbrev pub WritesTextOf : (List ℕ → OutputView) → Option (List ℕ) → Option (List ℕ)
    → Option (List ℕ)
    → RunStatus → Type 0
WritesTextOf output_to input old new Done = WritesOutput output_to input old new Done
WritesTextOf output_to input old new ScriptRefused =
    WritesOutput output_to input old new ScriptRefused
WritesTextOf output_to input old new DeviceFailed = BeginsOutput output_to input old new
WritesTextOf output_to input old new OutOfMemory = BeginsOutput output_to input old new
WritesTextOf output_to input old new ClusterRefused = ⊥

-- ---- what a run leaves of its devices

-- the limit on read calls was passed: that number of calls were made, and the source had a byte for each
pub record PassesLimit (input : Option (List ℕ)) (old new : ℕ) : Type 0 where
  pub calls : new ≡ saturating_add read_limit old
  pub bytes : IfSome input (λ bytes. read_limit ≤ length bytes)

-- one write failed, no read did, and the source was read to its end
pub record WriteFails {S T : Type 0} (source : SourceView S) (source_old source_new : S)
    (sink : SinkView T) (sink_old sink_new : T) : Type 0 where
  pub write_failed : sink.failed sink_new ≡ sink.failed sink_old + 1
  pub no_read_failed : source.failed source_new ≡ source.failed source_old
  pub ended : IsAtEnd (source.remaining source_new)

-- one read failed, or the limit on read calls was passed; the sink is unchanged
pub record ReadingFails {S T : Type 0} (source : SourceView S) (source_old source_new : S)
    (sink_old sink_new : T) : Type 0 where
  pub cause : (source.failed source_new ≡ source.failed source_old + 1)
      ⊎ PassesLimit (source.remaining source_old) (source.reads source_old)
      (source.reads source_new)
  pub unwritten : sink_new ≡ sink_old

-- what every run leaves of its source and its sink; `output_to` gives the output for the bytes of a
-- script, of whatever kind
pub record LeavesDevices {S T : Type 0} (output_to : List ℕ → OutputView)
    (source : SourceView S) (source_old source_new : S)
    (sink : SinkView T) (sink_old sink_new : T) (status : RunStatus) : Type 0 where
  pub device_failed : status ≡ DeviceFailed
      → WriteFails source source_old source_new sink sink_old sink_new
      ⊎ ReadingFails source source_old source_new sink_old sink_new
  pub no_read_failed : IsUnfailed status → source.failed source_new ≡ source.failed source_old
  pub no_write_failed : IsUnfailed status → sink.failed sink_new ≡ sink.failed sink_old
  pub out_of_memory : status ≡ OutOfMemory → sink_new ≡ sink_old
  pub cluster_refused : status ≡ ClusterRefused → sink_new ≡ sink_old
  -- a run that wrote a whole text read the whole input, and it is no longer than the limit on read calls permits
  pub ended : IsWholeText status → IsAtEnd (source.remaining source_new)
  pub input_length : IsWholeText status
      → IfSome (source.remaining source_old) (λ input. length input ≤ input_limit)
  -- how many calls were made
  pub reads_within_limit :
      source.reads source_new ≤ saturating_add read_limit (source.reads source_old)
  pub reads : IfSome (source.remaining source_old) (λ input.
      source.reads source_new ≤ saturating_add (length input + 1) (source.reads source_old))
  pub writes : IfSome (source.remaining source_old) (λ input.
      sink.writes sink_new ≤ saturating_add (length (output_to input).text) (sink.writes sink_old))
