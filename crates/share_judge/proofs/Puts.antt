-- A start that is put, and one that is written over: what a map reads like then.
use Rattle.std.proofs.Common.{◌≡◌, refl, sym, ap, ◌∙◌, ℕ, List, true}
use Rattle.std.specs.BTreeMap.{insert_entry}
use Rattle.system_keys.specs.Keys.{Key, holds, is_key_below}
use Rattle.share_judge.specs.declared.step.Step.{Step}
use Rattle.share_judge.specs.Steps.{StepStart, AreRising, HasStart, IsFree, TellTheSame, AreUnchanged, GainsStart, AreOver, last_from, no_step, version_before, starts_by, starts_now, starts_before}
use Rattle.share_judge.proofs.Starts.{key_cmp}
use Rattle.share_judge.proofs.Settled.{same_last}
use Rattle.share_judge.proofs.MapCalls.{put_same, put_others, put_no_more}
use Rattle.share_judge.proofs.Readings.{read_rising, read_has, read_free, read_insert, last_read, none_before_share, before_over}
use Rattle.share_judge.proofs.Free.{over_free}

-- ---- a start with the step that its key has

-- what is read at a key is read from its step
step_read : (read : Step → ℕ) (es : List StepStart) (key : Key) (step : Step) → read no_step ≡ 0 → step ≡ last_from no_step es key → read step ≡ last_from 0 (starts_by read es) key
step_read read es key step none is = ap read is ∙ sym (last_read read no_step es key) ∙ ap (λ (n : ℕ). last_from n (starts_by read es) key) none

put_read : (read : Step → ℕ) (es new : List StepStart) (key : Key) (step : Step) → read no_step ≡ 0 → AreRising es → step ≡ last_from no_step es key → new ≡ insert_entry key_cmp es key step → TellTheSame (starts_by read es) (starts_by read new)
put_read read es new key step none rising is entries =
    put_same (starts_by read es) (starts_by read new) key key (read step) (read_rising read es rising) refl (step_read read es key step none is)
    (ap (starts_by read) entries ∙ read_insert read es key step)

pub start_gained : (es new : List StepStart) (key : Key) (step : Step) → AreRising es → AreRising new → step ≡ last_from no_step es key → new ≡ insert_entry key_cmp es key step → GainsStart key es new
start_gained es new key step rising rising_new is entries =
    record {
      same = record {
        now = put_read (λ (s : Step). s.version) es new key step refl rising is entries;
        before = λ share. put_read (version_before share) es new key step (none_before_share share) rising is entries;
      };
      rising = λ was. rising_new;
      others = put_others es new key step entries;
      no_more = put_no_more es new key step entries;
    }

-- two puts, one after the other
pub twice_unchanged : (es mid new : List StepStart) → AreUnchanged es mid → AreUnchanged mid new → AreUnchanged es new
twice_unchanged es mid new first second =
    record {
      now = λ dropped. second.now dropped ∙ first.now dropped;
      before = λ share dropped. second.before share dropped ∙ first.before share dropped;
    }

-- ---- a start that is written over at the begin of a range

pub over_now : (es mid new : List StepStart) (begin end : Key) (put : Step) (share : ℕ) → is_key_below begin end ≡ true → AreRising es → AreRising mid → AreUnchanged es mid → HasStart mid end → IsFree begin end mid → put.version ≡ share → new ≡ insert_entry key_cmp mid begin put
    → AreOver (holds (record { begin = begin; end = end })) share (starts_now es) (starts_now new)
over_now es mid new begin end put share forward rising rising_mid same has free is entries =
    over_free (starts_now es) (starts_now mid) (starts_now new) begin end share forward (read_rising read es rising) (read_rising read mid rising_mid) same.now (read_has read mid end has) (read_free read begin end mid free)
    (ap starts_now entries ∙ read_insert read mid begin put ∙ ap (λ (n : ℕ). insert_entry key_cmp (starts_now mid) begin n) is)
  where
    read : Step → ℕ
    read s = s.version

pub over_before : (es mid new : List StepStart) (begin : Key) (old put : Step) (share : ℕ) → AreRising es → AreRising mid → AreUnchanged es mid → old ≡ last_from no_step es begin → put.version ≡ share → put.before ≡ version_before share old → new ≡ insert_entry key_cmp mid begin put
    → TellTheSame (starts_before share es) (starts_before share new)
over_before es mid new begin old put share rising rising_mid same at is before entries dropped =
    put_same (starts_before share mid) (starts_before share new) begin begin (version_before share put) rising_there refl
    (before_over share old put is before ∙ step_read read es begin old (none_before_share share) at ∙ sym (same_last (starts_before share es) (starts_before share mid) (read_rising read es rising) rising_there (same.before share) begin))
    (ap (starts_before share) entries ∙ read_insert read mid begin put) dropped
    ∙ same.before share dropped
  where
    read : Step → ℕ
    read = version_before share

    rising_there : AreRising (starts_before share mid)
    rising_there = read_rising read mid rising_mid
