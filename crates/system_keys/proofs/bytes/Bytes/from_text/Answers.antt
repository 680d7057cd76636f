use Rattle.std.proofs.Common.{◌≡◌, Some, sym, rules}
use Rattle.system_keys.specs.Text.{bytes_of}
use Rattle.system_keys.proofs.TextLaws.{text_spelled}
use Rattle.system_keys.proofs.bytes.Bytes.from_text.Goals as goal

pub returns-in-Ok-Some-clause-spelled : goal.returns-in-Ok-Some-clause-spelled
returns-in-Ok-Some-clause-spelled c =
    let read : bytes_of c.args.text.now ≡ Some c.in-Ok-Some.bytes = search rules in
    sym (text_spelled _ c.in-Ok-Some.bytes read)
