-- A range joins the run that it begins in, or begins a new one, and its keys beyond the run are listed.
use Rattle.std.proofs.Common.{◌≡◌, ◌∙◌, ap, sym, refl, take, ◌+◌, ◌||◌, List, Bor}
use Rattle.std.specs.Global.{Vec}
use Rattle.system_keys.specs.Keys.{Key, Range, holds}
use Rattle.metadata.specs.Overwrites.{lent_ranges, is_held}
use Rattle.metadata.proofs.HeldKeys.{Joins, joins_anew, joins_between, held_next, held_more, held_already}
use Rattle.metadata.proofs.entry_map.EntryMap.keys_in_any.Goals as goal
use Rattle.metadata.proofs.entry_map.EntryMap.keys_in_any.Goals.{then-not-is_between, else-not-is_between, then-is_key_below+in_ok-list_keys_between, else-is_key_below}

pub loop-range-preserved : goal.loop-range-preserved
loop-range-preserved c =
    let ranges : List (Bor Range) = c.args.ranges.now in
    let done : List Range = lent_ranges (take c.loop-range.range-index ranges) in
    let after : List Range = lent_ranges (take (c.loop-range.range-index + 1) ranges) in
    let range : Range = c.range-item.result.now in
    let joins : Joins c.if-not-is_between.from.now c.if-not-is_between.up_to.now done range =
    elim c.if-not-is_between.branch [
      | then-not-is_between w ↦ joins_anew _ _ done range (ap (λ (key : Bor Key). key.now) w.from-is ∙ w.begin-from.ensures.value) (ap (λ (key : Bor Key). key.now) w.up_to-is ∙ w.begin-up_to.ensures.value)
      | else-not-is_between w ↦
          rw (w.from-is, w.up_to-is)
          (joins_between c.loop-range.from.now c.loop-range.up_to.now c.begin.result.now done range c.loop-range.invariant.run c.begin.ensures.value (sym c.is_between.ensures ∙ w.if-not-is_between.false))
    ] in
    let next : (key : Key) → is_held after key ≡ (is_held done key || holds range key) =
    λ key. held_next ranges c.loop-range.range-index c.range-item.result key c.loop-range-test.true ∙ ap (λ (r : Bor Range). is_held done key || holds r.now key) (sym c.range-item.is) in
    elim c.if-is_key_below.branch [
      | then-is_key_below+in_ok-list_keys_between w ↦
          held_more c.if-not-is_between.from.now c.if-not-is_between.up_to.now w.end-then-is_key_below.result.now c.if-is_key_below.up_to.now done after range
          c.loop-range.keys.items c.if-is_key_below.keys.items c.args.self.now c.args.self.now joins w.end-then-is_key_below.ensures.value
          (ap (λ (key : Bor Key). key.now) w.up_to-is ∙ w.end-up_to.ensures.value) (ap (λ (keys : Vec Key). keys.items) w.keys-is ∙ w.in_ok-list_keys_between.ensures) refl
          next c.loop-range.invariant.listed
      | else-is_key_below w ↦
          held_already c.if-not-is_between.from.now c.if-not-is_between.up_to.now c.end.result.now c.if-is_key_below.up_to.now done after range
          c.loop-range.keys.items c.if-is_key_below.keys.items c.args.self.now joins (sym c.is_key_below.ensures ∙ w.if-is_key_below.false) c.end.ensures.value
          (ap (λ (key : Bor Key). key.now) w.up_to-is) (ap (λ (keys : Vec Key). keys.items) w.keys-is)
          next c.loop-range.invariant.listed
    ]
