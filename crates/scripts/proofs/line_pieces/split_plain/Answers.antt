use Rattle.std.proofs.Common.{take, subst, sym}
use Rattle.std.specs.Str.{IsAscii}
use Rattle.std.proofs.lemmas.Str.{IsUtf8-from_ascii}
use Rattle.scripts.proofs.PlainBytes.{plain_ascii}
use Rattle.scripts.proofs.line_pieces.split_plain.Goals as goal

pub unreachable-requires : goal.unreachable-requires
unreachable-requires c =
    let front = take c.plain_front_length.result c.args.bytes.now in
    let ascii : IsAscii front = plain_ascii c.plain_front_length.result c.args.bytes.now c.plain_front_length.ensures.plain in
    c.in-Err.ensures.cases.0 (IsUtf8-from_ascii _ (subst IsAscii (sym c.split_at.ensures.front) ascii))
