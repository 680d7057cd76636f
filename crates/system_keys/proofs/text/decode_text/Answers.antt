use Rattle.std.proofs.Common.{sym, arith, ◌<◌, ◌≡◌, length}
use Rattle.std.proofs.lemmas.Bool.Decides.{nat_tests}
use Rattle.system_keys.specs.Text.{bytes_of}
use Rattle.system_keys.proofs.TextLaws.{behind_kept, plain_front, kept_plain, kept_next, kept_stop, kept_done}
use Rattle.system_keys.proofs.text.decode_text.Goals as goal

pub returns-then-is_empty : goal.returns-then-is_empty
returns-then-is_empty c =
    let told = kept_plain c.loop-rest.bytes c.loop-rest.rest.now c.plain_front_length.result _ (plain_front c.plain_front_length.result c.loop-rest.rest.now c.plain_front_length.ensures.within c.plain_front_length.ensures.plain) c.loop-rest.invariant in
    let kept : behind_kept c.extend_from_slice.new.self (bytes_of c.split_at.result.1.now) ≡ bytes_of c.args.text.now = rw (c.in_ok-extend_from_slice.ensures, c.split_at.ensures.front, c.split_at.ensures.back) told in
    let done : length c.split_at.result.1.now ≡ 0 = grind (arith, nat_tests) in
    sym (kept_done _ c.split_at.result.1.now _ done kept)

pub returns : goal.returns
returns c =
    let done : length c.loop-rest.rest.now ≡ 0 = grind (arith, nat_tests) in
    sym (kept_done _ c.loop-rest.rest.now _ done c.loop-rest.invariant)

pub returns-in_default : goal.returns-in_default
returns-in_default c =
    let told = kept_plain c.loop-rest.bytes c.loop-rest.rest.now c.plain_front_length.result _ (plain_front c.plain_front_length.result c.loop-rest.rest.now c.plain_front_length.ensures.within c.plain_front_length.ensures.plain) c.loop-rest.invariant in
    let kept : behind_kept c.extend_from_slice.new.self (bytes_of c.split_at.result.1.now) ≡ bytes_of c.args.text.now = rw (c.in_ok-extend_from_slice.ensures, c.split_at.ensures.front, c.split_at.ensures.back) told in
    let more : 0 < length c.split_at.result.1.now = grind (arith, nat_tests) in
    sym (kept_stop _ c.split_at.result.1.now _ more (sym c.in_default.ensures.value) kept)

pub loop-rest-preserved : goal.loop-rest-preserved
loop-rest-preserved c =
    let told = kept_plain c.loop-rest.bytes c.loop-rest.rest.now c.plain_front_length.result _ (plain_front c.plain_front_length.result c.loop-rest.rest.now c.plain_front_length.ensures.within c.plain_front_length.ensures.plain) c.loop-rest.invariant in
    let kept : behind_kept c.extend_from_slice.new.self (bytes_of c.split_at.result.1.now) ≡ bytes_of c.args.text.now = rw (c.in_ok-extend_from_slice.ensures, c.split_at.ensures.front, c.split_at.ensures.back) told in
    rw (c.in_ok-push.ensures) (kept_next _ c.split_at.result.1.now _ _ _ (sym c.in-Some.ensures.value) kept)
