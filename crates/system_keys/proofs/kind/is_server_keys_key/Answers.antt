-- A key without bytes behind the id has no slash there.
use Rattle.std.proofs.Common.{◌≡◌, ◌≤◌, ◌∙◌, refl, sym, ap, ℕ, List, [], false, length, drop, arith}
use Rattle.std.specs.Prelude.{nat_eq}
use Rattle.std.specs.List.{starts_with}
use Rattle.std.proofs.Math.ListN.{drop_of_length-le}
use Rattle.std.proofs.lemmas.Bool.{and_right}
use Rattle.std.proofs.lemmas.List.{take_rest}
use Rattle.system_keys.specs.Families.{slash}
use Rattle.system_keys.proofs.kind.is_server_keys_key.Goals as goal

pub returns-then-key-id_end : goal.returns-then-key-id_end
returns-then-key-id_end c =
    let short : length c.args.key.now ≤ 29 = omega (arith, c.if-key-id_end.true) in
    let none : drop 29 c.args.key.now ≡ [] = drop_of_length-le c.args.key.now short in
    let no_slash : starts_with nat_eq (drop 29 c.args.key.now) slash ≡ false = rw none refl in
    sym (and_right _ _ no_slash)

pub returns-then-starts_with : goal.returns-then-starts_with
returns-then-starts_with c =
    rw (sym c.starts_with.ensures.value ∙ c.if-starts_with.true)
    (c.starts_with-then-starts_with.ensures.value ∙ ap (λ (behind : List ℕ). starts_with nat_eq behind slash) (take_rest c.args.key.now 29))
