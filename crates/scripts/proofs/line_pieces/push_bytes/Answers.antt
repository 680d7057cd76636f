use Rattle.std.proofs.Common.{◌≡◌, ◌<◌, ◌++◌, ◌∙◌, ℕ, List, length, take, ap, sym, arith}
use Rattle.std.proofs.lemmas.Bool.Decides.{nat_tests}
use Rattle.pages.proofs.Prints.{leaves_all, leaves_less, leaves_none, prints_both}
use Rattle.system_keys.specs.Text.{text_of}
use Rattle.scripts.proofs.PlainBytes.{no_text, split_shorter, split_text}
use Rattle.scripts.proofs.line_pieces.push_bytes.Goals as goal

pub loop-rest-init : goal.loop-rest-init
loop-rest-init g c = leaves_all _ _

pub loop-rest-preserved : goal.loop-rest-preserved
loop-rest-preserved g c =
    let plain = c.split_plain.result.0.now in
    let behind = c.split_plain.result.1.now in
    let split = split_text c.loop-rest.rest.now plain behind c.split_plain.ensures.whole c.split_plain.ensures.plain
    ∙ ap (λ (after : List ℕ). (plain ++ text_of (take 1 behind)) ++ text_of after) (sym c.push_first-rest.ensures.rest) in
    leaves_less c.loop-rest.invariant (prints_both c.push.ensures c.push_first-rest.ensures.printed) split

pub loop-rest-smaller : goal.loop-rest-smaller
loop-rest-smaller g c =
    let some : 0 < length c.loop-rest.rest.now = grind (arith, nat_tests) in
    rw c.push_first-rest.ensures.rest (split_shorter c.loop-rest.rest.now c.split_plain.result.0.now c.split_plain.result.1.now c.split_plain.ensures.whole some)

pub returns : goal.returns
returns g c =
    let none : length c.loop-rest.rest.now ≡ 0 = grind (arith, nat_tests) in
    leaves_none c.loop-rest.invariant (no_text c.loop-rest.rest.now none)
