-- The results so far are joined, and what they knew, if none failed. The others are left.
use Rattle.std.proofs.Common.{◌≡◌, ◌++◌, length}
use Rattle.std.specs.Prelude.{IfOk, string_bytes}
use Rattle.std.specs.Vec.Iter.{into_iter_items, into_iter_len}
use Rattle.system_keys.specs.AsSpecified.{IsAsSpecifiedIfAllocated}
use Rattle.threads_lines.specs.Faults.{run_fault, texts_of}
use Rattle.threads_lines.specs.Histories.{nothing_known}
use Rattle.threads_lines.specs.Parts.{IsInTurns}
use Rattle.threads_lines.specs.Threads.{IsTextOf}
use Rattle.threads_lines.proofs.proxy_threads.join_answers.Given as goal

abbrev pub invariant-loop-one : goal.invariant-loop-one
invariant-loop-one g l = record {
  count : into_iter_len l.one-iterator ≡ length (into_iter_items l.one-iterator);
  left : l.yielded ++ into_iter_items l.one-iterator ≡ l.fn.results.items;
  joined : IsAsSpecifiedIfAllocated run_fault (λ _. string_bytes l.text) l.outcome (texts_of (λ answered. string_bytes answered.text) l.yielded);
  turns : IfOk l.outcome (λ _. IsInTurns (IsTextOf (λ answered. string_bytes answered.text) (λ answered. answered.history) l.fn.results.items) nothing_known (length l.yielded) l.history (string_bytes l.text));
}
