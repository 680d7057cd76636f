-- A handle may cross threads, since its session may, and what frees the block names no thread.
use Rattle.std.specs.Prelude.{Option, Some, None}
use mir.Raw.{raw}
use base.Shift.{Keyless}
use denote.RattleType.{RattleType}
use denote.Builtin.{RawPtr}
use denote.Memory.{lone}
use denote.RawPtr.{Ptr}
use denote.Struct.Struct.{exits_of}
use denote.Struct.Owning.{fields, shape, to}
use denote.Param.Send.{IsSend, IsSync, AllSend, owning_send, struct_send, view_send, view_sync, sendable}
use Rattle.std.proofs.Handle.{handle as heap}
use Rattle.std.proofs.Crossing.{crosses, frees}
use Rattle.std.proofs.MapsCrossing as maps
use Rattle.std_alloc.proofs.SendSync.{lies, quiet}
use Rattle.system_keys.specs.contracts.items.Items.{the_row as Items}
use Rattle.system_keys.specs.contracts.items.Items.TheInside as inside
use Rattle.system_keys.specs.declared.items.Items as items
use Rattle.system_keys.specs.declared.items.Items.TheView as seen
use Rattle.system_keys.specs.contracts.shared_items.SharedItems.{the_row as SharedItems}
use Rattle.system_keys.specs.contracts.shared_items.SharedItems.TheInside as shared_inside
use Rattle.system_keys.specs.declared.shared_items.SharedItems as shared_items
use Rattle.system_keys.specs.declared.shared_items.SharedItems.TheView as shared_seen
use Rattle.session_texts.specs.Sessions.{SessionView}
use Rattle.session_texts.specs.contracts.text_session.TextSession.{the_row as TextSession}
use Rattle.session_handle.specs.Owned.{handle_owns}
use Rattle.session_handle.specs.contracts.handle.Handle.{the_row, the_type}
use Rattle.system_keys.specs.contracts.bytes.Bytes.{the_row as system_keys-Bytes}
use Rattle.system_keys.specs.contracts.range.Begin.{the_row as system_keys-Begin}
use Rattle.system_keys.specs.contracts.range.KeyRange.{the_row as system_keys-KeyRange}
use Rattle.system_keys.specs.contracts.change.Change.{the_row as system_keys-Change}
use Rattle.system_keys.specs.contracts.ordered_key.OrderedKey.{the_row as system_keys-OrderedKey}
use Rattle.model.specs.contracts.moves.Move.{the_row as model-Move}
use Rattle.model.specs.contracts.ranges.RangeLists.{the_row as model-RangeLists}
use Rattle.model.specs.contracts.ranges.Ranges.{the_row as model-Ranges}
use Rattle.model.specs.contracts.part.Part.{the_row as model-Part}
use Rattle.model.specs.contracts.journal.StateTxn.{the_row as model-StateTxn}
use Rattle.model.specs.contracts.journal.JournalRow.{the_row as model-JournalRow}
use Rattle.model.specs.contracts.reply.Reply.{the_row as model-Reply}
use Rattle.model.specs.contracts.unseen.StateMark.{the_row as model-StateMark}
use Rattle.mutation.specs.contracts.stamped.Stamped.{the_row as mutation-Stamped}
use Rattle.dated_owners.specs.contracts.later_owners.LaterOwners.{the_row as dated_owners-LaterOwners}
use Rattle.dated_owners.specs.contracts.owner_map.OwnerMap.{the_row as dated_owners-OwnerMap}
use Rattle.metadata.specs.contracts.key_runs.KeyRuns.{the_row as metadata-KeyRuns}
use Rattle.metadata.specs.contracts.key_set.KeySet.{the_row as metadata-KeySet}
use Rattle.metadata.specs.contracts.server_table.ServerTable.{the_row as metadata-ServerTable}
use Rattle.metadata.specs.contracts.row_names.RowNames.{the_row as metadata-RowNames}
use Rattle.metadata.specs.contracts.row.Row.{the_row as metadata-Row}
use Rattle.metadata.specs.contracts.entry_map.EntryMap.{the_row as metadata-EntryMap}
use Rattle.metadata.specs.contracts.kept_entries.KeptEntries.{the_row as metadata-KeptEntries}
use Rattle.metadata.specs.contracts.metadata.Metadata.{the_row as metadata-Metadata}
use Rattle.request_builder.specs.contracts.moves.Moves.{the_row as request_builder-Moves}
use Rattle.request_builder.specs.contracts.share.Share.{the_row as request_builder-Share}
use Rattle.request_builder.specs.contracts.record.Record.{the_row as request_builder-Record}
use Rattle.share_judge.specs.contracts.key_map.KeyMap.{the_row as share_judge-KeyMap}
use Rattle.share_judge.specs.contracts.step_key.StepKey.{the_row as share_judge-StepKey}
use Rattle.share_judge.specs.contracts.step_map.StepMap.{the_row as share_judge-StepMap}
use Rattle.share_judge.specs.contracts.version_map.VersionMap.{the_row as share_judge-VersionMap}
use Rattle.share_judge.specs.contracts.write_history.WriteHistory.{the_row as share_judge-WriteHistory}
use Rattle.state_memory.specs.contracts.proxy_memory.ProxyMemory.{the_row as state_memory-ProxyMemory}
use Rattle.state_memory.specs.contracts.resolver.Resolver.{the_row as state_memory-Resolver}
use Rattle.proxy_state.specs.contracts.owned_moves.OwnedMoves.{the_row as proxy_state-OwnedMoves}
use Rattle.proxy_state.specs.contracts.proxy_owners.ProxyOwners.{the_row as proxy_state-ProxyOwners}
use Rattle.proxy_state.specs.contracts.begun_record.BegunRecord.{the_row as proxy_state-BegunRecord}
use Rattle.proxy_state.specs.contracts.proxy.Proxy.{the_row as proxy_state-Proxy}
use Rattle.turn_world.specs.contracts.sent_requests.SentRequests.{the_row as turn_world-SentRequests}
use Rattle.turn_world.specs.contracts.past_record.PastRecord as turn_world-PastRecord
use Rattle.turn_world.specs.contracts.sent_requests.PastRequests as turn_world-PastRequests
use Rattle.turn_world.specs.contracts.kept_record.KeptRecord.{the_row as turn_world-KeptRecord}
use Rattle.turn_world.specs.contracts.world.TurnWorld.{the_row as turn_world-TurnWorld}

Items-send : (T : RattleType) → IsSend T → IsSend (Items T)
Items-send T s = view_send (inside.the_row T) (items.Items T.Denot) (items.the_code T.Denot T.coded) (seen.view T.Denot) (seen.invariant T.Denot) (search (crosses, sendable) depth 30)

Items-sync : (T : RattleType) → IsSync T → IsSync (Items T)
Items-sync T s = view_sync (inside.the_row T) (items.Items T.Denot) (items.the_code T.Denot T.coded) (seen.view T.Denot) (seen.invariant T.Denot) (search (crosses, sendable) depth 30)

SharedItems-send : (T : RattleType) → IsSend T → IsSync T → IsSend (SharedItems T)
SharedItems-send T s y = view_send (shared_inside.the_row T) (shared_items.SharedItems T.Denot) (shared_items.the_code T.Denot T.coded) (shared_seen.view T.Denot) (shared_seen.invariant T.Denot) (search (Items-send, Items-sync, crosses, sendable) depth 30)

SharedItems-sync : (T : RattleType) → IsSend T → IsSync T → IsSync (SharedItems T)
SharedItems-sync T s y = view_sync (shared_inside.the_row T) (shared_items.SharedItems T.Denot) (shared_items.the_code T.Denot T.coded) (shared_seen.view T.Denot) (shared_seen.invariant T.Denot) (search (Items-send, Items-sync, crosses, sendable) depth 30)

system_keys-Bytes-send : IsSend system_keys-Bytes
system_keys-Bytes-send = search (crosses, sendable) depth 60 fits 20000

system_keys-Bytes-sync : IsSync system_keys-Bytes
system_keys-Bytes-sync = search (crosses, sendable) depth 60 fits 20000

system_keys-Begin-send : IsSend system_keys-Begin
system_keys-Begin-send = search (system_keys-Bytes-send, crosses, sendable) depth 60 fits 20000

system_keys-Begin-sync : IsSync system_keys-Begin
system_keys-Begin-sync = search (system_keys-Bytes-sync, crosses, sendable) depth 60 fits 20000

system_keys-KeyRange-send : IsSend system_keys-KeyRange
system_keys-KeyRange-send = search (system_keys-Bytes-send, crosses, sendable) depth 60 fits 20000

system_keys-KeyRange-sync : IsSync system_keys-KeyRange
system_keys-KeyRange-sync = search (system_keys-Bytes-sync, crosses, sendable) depth 60 fits 20000

system_keys-Change-send : IsSend system_keys-Change
system_keys-Change-send = search (system_keys-Bytes-send, system_keys-KeyRange-send, crosses, sendable) depth 60 fits 20000

system_keys-Change-sync : IsSync system_keys-Change
system_keys-Change-sync = search (system_keys-Bytes-sync, system_keys-KeyRange-sync, crosses, sendable) depth 60 fits 20000

system_keys-OrderedKey-send : IsSend system_keys-OrderedKey
system_keys-OrderedKey-send = search (crosses, sendable) depth 60 fits 20000

model-Move-send : IsSend model-Move
model-Move-send = search (system_keys-KeyRange-send, crosses, sendable) depth 60 fits 20000

model-Move-sync : IsSync model-Move
model-Move-sync = search (system_keys-KeyRange-sync, crosses, sendable) depth 60 fits 20000

model-RangeLists-send : IsSend model-RangeLists
model-RangeLists-send = search (system_keys-KeyRange-send, Items-send, crosses, sendable) depth 60 fits 20000

model-RangeLists-sync : IsSync model-RangeLists
model-RangeLists-sync = search (system_keys-KeyRange-sync, Items-sync, crosses, sendable) depth 60 fits 20000

model-Ranges-send : IsSend model-Ranges
model-Ranges-send = search (model-RangeLists-send, model-RangeLists-sync, crosses, sendable) depth 60 fits 20000

model-Ranges-sync : IsSync model-Ranges
model-Ranges-sync = search (model-RangeLists-send, model-RangeLists-sync, crosses, sendable) depth 60 fits 20000

model-Part-send : IsSend model-Part
model-Part-send = search (system_keys-KeyRange-send, model-Ranges-send, Items-send, crosses, sendable) depth 60 fits 20000

model-StateTxn-send : IsSend model-StateTxn
model-StateTxn-send = search (system_keys-Change-send, system_keys-Change-sync, Items-send, SharedItems-send, crosses, sendable) depth 60 fits 20000

model-JournalRow-send : IsSend model-JournalRow
model-JournalRow-send = search (model-StateTxn-send, Items-send, crosses, sendable) depth 60 fits 20000

model-Reply-send : IsSend model-Reply
model-Reply-send = search (system_keys-Change-send, system_keys-Change-sync, Items-send, Items-sync, SharedItems-send, SharedItems-sync, crosses, sendable) depth 60 fits 20000

model-StateMark-send : IsSend model-StateMark
model-StateMark-send = search (system_keys-Change-send, system_keys-Change-sync, SharedItems-send, crosses, sendable) depth 60 fits 20000

mutation-Stamped-send : IsSend mutation-Stamped
mutation-Stamped-send = search (system_keys-Change-send, model-Ranges-send, Items-send, crosses, sendable) depth 60 fits 20000

mutation-Stamped-sync : IsSync mutation-Stamped
mutation-Stamped-sync = search (system_keys-Change-sync, model-Ranges-sync, Items-sync, crosses, sendable) depth 60 fits 20000

dated_owners-LaterOwners-send : IsSend dated_owners-LaterOwners
dated_owners-LaterOwners-send = search (crosses, sendable) depth 60 fits 20000

dated_owners-OwnerMap-send : IsSend dated_owners-OwnerMap
dated_owners-OwnerMap-send = search (system_keys-Bytes-send, dated_owners-LaterOwners-send, crosses, maps.crosses, sendable) depth 60 fits 20000

metadata-KeyRuns-send : IsSend metadata-KeyRuns
metadata-KeyRuns-send = search (crosses, maps.crosses, sendable) depth 60 fits 20000

metadata-KeySet-send : IsSend metadata-KeySet
metadata-KeySet-send = search (crosses, maps.crosses, sendable) depth 60 fits 20000

metadata-ServerTable-send : IsSend metadata-ServerTable
metadata-ServerTable-send = search (crosses, maps.crosses, sendable) depth 60 fits 20000

metadata-RowNames-send : IsSend metadata-RowNames
metadata-RowNames-send = search (Items-send, crosses, sendable) depth 60 fits 20000

metadata-Row-send : IsSend metadata-Row
metadata-Row-send = search (system_keys-Bytes-send, metadata-RowNames-send, crosses, sendable) depth 60 fits 20000

metadata-EntryMap-send : IsSend metadata-EntryMap
metadata-EntryMap-send = search (metadata-Row-send, crosses, maps.crosses, sendable) depth 60 fits 20000

metadata-KeptEntries-send : IsSend metadata-KeptEntries
metadata-KeptEntries-send = search (metadata-EntryMap-send, crosses, sendable) depth 60 fits 20000

metadata-Metadata-send : IsSend metadata-Metadata
metadata-Metadata-send = search (metadata-KeyRuns-send, metadata-KeySet-send, metadata-ServerTable-send, metadata-KeptEntries-send, crosses, sendable) depth 60 fits 20000

request_builder-Moves-send : IsSend request_builder-Moves
request_builder-Moves-send = search (model-Move-send, model-Move-sync, Items-send, Items-sync, crosses, sendable) depth 60 fits 20000

request_builder-Share-send : IsSend request_builder-Share
request_builder-Share-send = search (model-Part-send, Items-send, crosses, sendable) depth 60 fits 20000

request_builder-Record-send : IsSend request_builder-Record
request_builder-Record-send = search (mutation-Stamped-send, mutation-Stamped-sync, request_builder-Moves-send, Items-send, Items-sync, crosses, sendable) depth 60 fits 20000

share_judge-StepKey-send : IsSend share_judge-StepKey
share_judge-StepKey-send = search (system_keys-OrderedKey-send, crosses, sendable) depth 60 fits 20000

share_judge-StepMap-send : IsSend share_judge-StepMap
share_judge-StepMap-send = search (share_judge-StepKey-send, crosses, maps.crosses, sendable) depth 60 fits 20000

share_judge-KeyMap-send : IsSend share_judge-KeyMap
share_judge-KeyMap-send = search (share_judge-StepKey-send, crosses, maps.crosses, sendable) depth 60 fits 20000

share_judge-VersionMap-send : IsSend share_judge-VersionMap
share_judge-VersionMap-send = search (share_judge-StepMap-send, share_judge-KeyMap-send, crosses, sendable) depth 60 fits 20000

share_judge-WriteHistory-send : IsSend share_judge-WriteHistory
share_judge-WriteHistory-send = search (share_judge-VersionMap-send, crosses, sendable) depth 60 fits 20000

state_memory-ProxyMemory-send : IsSend state_memory-ProxyMemory
state_memory-ProxyMemory-send = search (model-Reply-send, crosses, sendable) depth 60 fits 20000

state_memory-Resolver-send : IsSend state_memory-Resolver
state_memory-Resolver-send = search (system_keys-Change-send, system_keys-Change-sync, share_judge-WriteHistory-send, state_memory-ProxyMemory-send, Items-send, SharedItems-send, crosses, sendable) depth 60 fits 20000

proxy_state-OwnedMoves-send : IsSend proxy_state-OwnedMoves
proxy_state-OwnedMoves-send = search (dated_owners-OwnerMap-send, request_builder-Moves-send, crosses, sendable) depth 60 fits 20000

proxy_state-ProxyOwners-send : IsSend proxy_state-ProxyOwners
proxy_state-ProxyOwners-send = search (dated_owners-OwnerMap-send, request_builder-Moves-send, crosses, sendable) depth 60 fits 20000

proxy_state-BegunRecord-send : IsSend proxy_state-BegunRecord
proxy_state-BegunRecord-send = search (request_builder-Record-send, Items-send, crosses, sendable) depth 60 fits 20000

proxy_state-Proxy-send : IsSend proxy_state-Proxy
proxy_state-Proxy-send = search (model-JournalRow-send, metadata-Metadata-send, proxy_state-ProxyOwners-send, proxy_state-BegunRecord-send, crosses, sendable) depth 60 fits 20000

turn_world-SentRequests-send : IsSend turn_world-SentRequests
turn_world-SentRequests-send = search (model-StateMark-send, request_builder-Share-send, Items-send, crosses, sendable) depth 60 fits 20000

turn_world-PastRecord-send : IsSend turn_world-PastRecord.the_row
turn_world-PastRecord-send = owning_send turn_world-PastRecord.the_type tt (λ d. tt) (λ k. quiet (to turn_world-PastRecord.the_type) (exits_of k (fields turn_world-PastRecord.the_type)) ((struct_send (shape turn_world-PastRecord.the_type) tt).leaving k))

turn_world-PastRequests-send : IsSend turn_world-PastRequests.the_row
turn_world-PastRequests-send = owning_send turn_world-PastRequests.the_type tt (λ d. tt) (λ k. quiet (to turn_world-PastRequests.the_type) (exits_of k (fields turn_world-PastRequests.the_type)) ((struct_send (shape turn_world-PastRequests.the_type) tt).leaving k))

turn_world-KeptRecord-send : IsSend turn_world-KeptRecord
turn_world-KeptRecord-send = search (model-StateMark-send, request_builder-Share-send, turn_world-PastRecord-send, turn_world-PastRequests-send, Items-send, crosses, sendable) depth 60 fits 20000

turn_world-TurnWorld-send : IsSend turn_world-TurnWorld
turn_world-TurnWorld-send = search (state_memory-Resolver-send, proxy_state-OwnedMoves-send, proxy_state-Proxy-send, turn_world-KeptRecord-send, crosses, sendable) depth 60 fits 20000

text_session_send : IsSend TextSession
text_session_send = search (turn_world-TurnWorld-send, crosses, sendable) depth 60 fits 20000

pointer_send : IsSend RawPtr
pointer_send = search sendable

owned_keyless : (p : Ptr) (s : Option SessionView) → Keyless (handle_owns p s)
owned_keyless p None = tt
owned_keyless p (Some x) = (lies TextSession text_session_send p x, frees.frees heap (raw (lone TextSession.mir)) p)

pub send : IsSend the_row
send = let all : AllSend (fields the_type) = (pointer_send, tt) in
    owning_send the_type all (λ d. owned_keyless d.at d.session) (λ k. quiet (to the_type) (exits_of k (fields the_type)) ((struct_send (shape the_type) all).leaving k))
