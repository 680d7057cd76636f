use Rattle.std.proofs.lemmas.Result.{err_from_is_err_and}
use Rattle.system_keys.proofs.RowLaws.{fault_is_as_specified}
use Rattle.system_keys.proofs.server_rows.decode_key_servers.Goals as goal

pub returns-in_err-check_key_servers-clause-value : goal.returns-in_err-check_key_servers-clause-value
returns-in_err-check_key_servers-clause-value c =
    let p = err_from_is_err_and c.from_residual.result c.from_residual.ensures.1 in
    rw (p.1, p.2) (fault_is_as_specified c.args.bytes.now _ c.in_err-check_key_servers.ensures)
