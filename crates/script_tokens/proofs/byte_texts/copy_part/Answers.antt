use Rattle.std.proofs.Common.{◌≡◌, ◌≤◌, ◌<◌, ◌+◌, ◌-◌, ◌∙◌, ◌∷◌, ◌++◌, [], length, take, drop, ap, arith}
use Rattle.std.specs.Prelude.{slice_range}
use Rattle.std.proofs.lemmas.List.{length-drop, length-take-le, take_more_set}
use Rattle.std.proofs.lemmas.Simd.{length-chunk}
use borrow.Rule.Slice.PartMut.{mid_of, post_of}
use lib.Lanes.{chunk}
use Rattle.script_tokens.proofs.StringLemmas.{escape_spelled, kept_front, plain_spelled, run_is}
use Rattle.script_tokens.proofs.byte_texts.copy_part.Goals as goal

pub returns-then-run-gt0-clause-part : goal.returns-then-run-gt0-clause-part
returns-then-run-gt0-clause-part c =
    let d = c.args.text.now in
    let at = c.args.at in
    let old = c.args.room.now in
    let count = c.args.count in
    let run = c.plain_run-run.result in
    let few = c.plain_run-run.ensures.within in
    let size : length old ≡ 112 = c.told-room in
    let front : length (take count old) ≡ count = length-take-le count old (omega (arith, size, c.requires.room)) in
    let middle : 16 ≤ length (mid_of count (112 - count) old) = omega (arith, length-take-le (112 - count) (drop count old) (omega (arith, length-drop count old, size)), c.requires.room) in
    let long : length (chunk at 16 d) ≡ 16 = length-chunk at 16 d c.requires.text in
    let end : at + run ≤ length d = omega (arith, few, c.requires.text) in (
      slice_range d at (at + run),
      kept_front (take count old) (mid_of count (112 - count) old) (post_of count (112 - count) old) (chunk at 16 d) count run front long middle few ∙ ap (λ t. take count old ++ t) (run_is d at run few),
      plain_spelled d at (at + run) (omega arith) end c.plain_run-run.ensures.plain,
    )

pub returns-in_ok-room-clause-part : goal.returns-in_ok-room-clause-part
returns-in_ok-room-clause-part c =
    let byte = c.in_ok-room.field-0 in
    let inside : c.args.count < length c.args.room.now = omega (arith, c.told-room, c.requires.room) in (
      byte ∷ [],
      take_more_set c.args.room.now c.args.count byte inside,
      escape_spelled c.args.text.now c.args.at byte c.in_ok-room.ensures.within c.in_ok-room.ensures.escape,
    )
