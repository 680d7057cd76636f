-- A fact of a call that succeeded gives another one.
use Rattle.std.proofs.Common.{◌≡◌, sym, subst, Bor, Option, Some, None, Result, Ok, Err, OnOk}
use Rattle.std.specs.Option.{option_copied}
use Rattle.std.specs.Prelude.{IfSome}

pub on_ok : {X Y : Type 0} {P Q : Type 0} (r : Result X Y) → (P → Q) → OnOk r P → OnOk r Q
on_ok (Ok x) f p = f p
on_ok (Err e) f p = tt

-- a fact of a value that may be there holds of it as it is lent
pub lent_some : {X : Type 0} (P : X → Type 0) (lent : Option (Bor X)) (own : Option X) → option_copied lent ≡ own → IfSome own P → IfSome lent (λ x. P x.now)
lent_some P None own is fact = tt
lent_some P (Some x) own is fact = subst (λ found. IfSome found P) (sym is) fact
