-- What is last in a part of the map is in the map.
use Rattle.std.proofs.Common.{subst, List}
use Rattle.std.specs.List.{Contains}
use Rattle.std.specs.BTreeMap.Range.{range_contains}
use Rattle.std.specs.declared.ops.Bound.TheVariants.{Included, Unbounded}
use Rattle.metadata.specs.HiddenRuns.{Run}
use Rattle.metadata.proofs.HiddenRuns.{run_listed}
use Rattle.metadata.proofs.KeyValues.{key_cmp}
use Rattle.metadata.proofs.key_runs.KeyRuns.run_of.Goals as goal

pub returns-then-is_between-clause-listed : goal.returns-then-is_between-clause-listed
returns-then-is_between-clause-listed c =
    subst (λ (runs : List Run). Contains runs (c.in_ok-first.first.now, c.in_ok-first.last.now)) c.self.view_is
    (run_listed (λ (run : Run). range_contains key_cmp Unbounded (Included c.args.key.now) run.0) c.self.inside.ends.entries c.range.result c.next_back.new.self
    (c.in_ok-first.first.now, c.in_ok-first.last.now) (c.range.ensures.between tt) c.in_ok-first.ensures.steps)
