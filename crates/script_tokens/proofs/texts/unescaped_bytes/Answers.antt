use Rattle.std.proofs.Common.{◌≡◌, ◌∙◌, ap, sym, rules}
use Rattle.std.specs.Prelude.{Ok, Some, string_bytes}
use Rattle.system_keys.specs.Text.{bytes_of, bytes_read}
use Rattle.script_tokens.proofs.EscapeLemmas.{bytes_there}
use Rattle.script_tokens.proofs.texts.unescaped_bytes.Goals as goal

pub returns : goal.returns
returns c =
    let content = string_bytes c.in_ok-unescaped.unescaped in
    let read : bytes_read c.as_str.result.now ≡ Ok c.in_ok-bytes.bytes = search rules in
    let spelled : bytes_of content ≡ Some c.in_ok-bytes.bytes = ap bytes_of (sym c.as_str.ensures.value) ∙ bytes_there c.as_str.result.now c.in_ok-bytes.bytes read in
    (content, c.in_ok-unescaped.ensures, spelled)
