-- A turn of the loop reads one row anew.
use Rattle.std.proofs.Common.{◌∙◌, subst, List}
use Rattle.system_keys.specs.Keys.{Key}
use Rattle.model.specs.Metadata.{entry_value}
use Rattle.metadata.specs.ServerTables.{HasPlaces}
use Rattle.metadata.proofs.ServerTables.{AreRefreshing, first_place, refreshing_first, refreshing_next, all_refreshed}
use Rattle.metadata.proofs.server_table.ServerTable.refresh.Goals as goal

pub loop-key-init : goal.loop-key-init
loop-key-init c = refreshing_first c.args.keys.now c.into_iter-key-iterator.result (entry_value c.args.entries.now) c.args.self.now (c.into_iter-key-iterator.ensures.into_iter_gives ∙ c.iter-key-items.ensures) c.requires

pub refresh_key-requires : goal.refresh_key-requires
refresh_key-requires c =
    first_place c.loop-key.self c.in-Some.key.now c.next.new.self (entry_value c.args.entries.now)
    (subst (λ (left : List Key). HasPlaces c.loop-key.self left (entry_value c.args.entries.now)) c.in-Some.ensures.steps c.loop-key.invariant.places)

pub loop-key-preserved : goal.loop-key-preserved
loop-key-preserved c =
    refreshing_next c.args.keys.now c.in-Some.key.now c.next.new.self (entry_value c.args.entries.now) c.args.self.now.tags c.loop-key.self c.refresh_key.new.self
    c.refresh_key.ensures.tags
    c.refresh_key.ensures.room
    (subst (λ (left : List Key). AreRefreshing c.args.keys.now left (entry_value c.args.entries.now) c.args.self.now.tags c.loop-key.self) c.in-Some.ensures.steps c.loop-key.invariant)

pub returns : goal.returns
returns c = all_refreshed c.args.keys.now (entry_value c.args.entries.now) c.args.self.now.tags c.loop-key.self (subst (λ (left : List Key). AreRefreshing c.args.keys.now left (entry_value c.args.entries.now) c.args.self.now.tags c.loop-key.self) c.in-None.ensures.steps.0 c.loop-key.invariant)
