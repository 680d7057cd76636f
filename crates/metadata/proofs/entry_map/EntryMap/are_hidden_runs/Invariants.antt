-- All runs are of hidden entries if those that are left are.
use Rattle.metadata.specs.HiddenRuns.{AreHiddenRuns}
use Rattle.metadata.proofs.entry_map.EntryMap.are_hidden_runs.Given as goal

abbrev pub invariant-loop-first : goal.invariant-loop-first
invariant-loop-first l = AreHiddenRuns l.hidden l.self l.first-iterator → AreHiddenRuns l.hidden l.self l.runs
