-- The starts are tried from the last one back, up to that of the begin of the range.
use Rattle.std.proofs.Common.{◌≡◌, ◌∙◌, sym, ap, subst, List, true, false}
use Rattle.system_keys.specs.Keys.{Range, is_key_below}
use Rattle.dated_owners.specs.declared.later_owners.LaterOwner.{LaterOwner}
use Rattle.dated_owners.specs.LaterOwners.{with_first}
use Rattle.dated_owners.specs.Walks.{takes}
use Rattle.dated_owners.specs.Flags.{Flags}
use Rattle.dated_owners.proofs.KeyStarts.{rising_entries}
use Rattle.dated_owners.proofs.AskedStarts.{tried_none, tried_next, tried_begin, until_end}
use Rattle.dated_owners.proofs.walks.walk_range.Goals as goal

pub loop-key-init : goal.loop-key-init
loop-key-init c =
    let range : Range = record { begin = c.args.begin.now; end = c.args.end.now } in
    tried_none c.args.pieces.now.entries c.args.walk range c.args.flags.now c.range-left.result c.requires (rising_entries c.args.pieces.now.entries c.range-left.ensures.ordered)
    (c.range-left.ensures.between tt ∙ until_end c.args.pieces.now.entries range)

pub loop-key-preserved : goal.loop-key-preserved
loop-key-preserved c =
    let range : Range = record { begin = c.args.begin.now; end = c.args.end.now } in
    let key = c.in-Some.key.now in
    let later = c.in-Some.owners.now in
    let above : is_key_below range.begin key ≡ true = sym (c.is_below.ensures ∙ ap (is_key_below c.args.begin.now) c.as_slice-in-Some.ensures) ∙ c.if-not-is_below.false in
    tried_next c.args.pieces.now.entries c.args.walk range c.args.flags.now key later c.loop-key.left c.next_back.new.self c.loop-key.flags c.walk_owners.new.flags c.in-Some.ensures.steps above c.loop-key.invariant
    (subst (λ (owners : List LaterOwner). Flags c.loop-key.flags (λ r. takes c.args.walk r (with_first owners)) c.walk_owners.new.flags) c.as_slice.ensures c.walk_owners.ensures)

pub returns-then-not-is_below : goal.returns-then-not-is_below
returns-then-not-is_below c =
    let range : Range = record { begin = c.args.begin.now; end = c.args.end.now } in
    let key = c.in-Some.key.now in
    let later = c.in-Some.owners.now in
    let up_to : is_key_below range.begin key ≡ false = sym (c.is_below.ensures ∙ ap (is_key_below c.args.begin.now) c.as_slice-in-Some.ensures) ∙ c.if-not-is_below.true in
    tried_begin c.args.pieces.now.entries c.args.walk range c.args.flags.now key later c.loop-key.left c.next_back.new.self c.loop-key.flags c.walk_owners.new.flags c.in-Some.ensures.steps up_to c.loop-key.invariant
    (subst (λ (owners : List LaterOwner). Flags c.loop-key.flags (λ r. takes c.args.walk r (with_first owners)) c.walk_owners.new.flags) c.as_slice.ensures c.walk_owners.ensures)
