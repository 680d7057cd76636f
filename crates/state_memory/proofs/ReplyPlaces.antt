-- Where the reply at a version stands among replies in the order of their versions.
use Rattle.std.proofs.Common.{◌≡◌, refl, sym, ap, ◌∙◌, ℕ, zero, suc, ◌<◌, ◌≤◌, Bool, true, false, nat_eq, nat_lt, List, [], ◌∷◌, length, get_or, Some, None, arith}
use Rattle.std.specs.List.Sorted.{IsPartitionPoint}
use Rattle.std.proofs.lemmas.Bool.{ltb-true, ltb-false, eq-eqb, ne_eqb}
use Rattle.std.proofs.lemmas.List.{get_or_default}
use Rattle.model.specs.Numbers.{Version}
use Rattle.model.specs.declared.reply.Reply.{Reply}
use Rattle.model.specs.Offers.{reply_at}
use Rattle.state_memory.specs.Order.{Increase, RepliesIncrease}
use Rattle.state_memory.proofs.RowLaws.{at_least, never_falls}

-- the version of a reply
abbrev pub version_of : Reply → Version
version_of reply = reply.version

-- versions increase, so a reply at the version is the first one at it
pub found_at : (low version : ℕ) (replies : List Reply) (place : ℕ) (reply : Reply) → Increase version_of low replies → place < length replies → reply ≡ get_or replies place reply → reply.version ≡ version → reply_at version replies ≡ Some reply
found_at low version [] place reply order there is at = absurd (omega arith)
found_at low version (x ∷ replies) zero reply order there is at =
    let same : nat_eq x.version version ≡ true = eq-eqb x.version version (sym (ap version_of is) ∙ at) in
    rw same (ap Some (sym is))
found_at low version (x ∷ replies) (suc place) reply order there is at =
    let past : x.version < reply.version = at_least version_of x.version replies place reply order.1 (omega arith) is in
    let apart : nat_eq x.version version ≡ false = ne_eqb x.version version (λ same. omega (arith, past, at, same)) in
    rw apart (found_at x.version version replies place reply order.1 (omega arith) is at)

-- if no reply is at the version, none is found
none_at : (version : ℕ) (replies : List Reply) → ((i : ℕ) (reply : Reply) → i < length replies → reply ≡ get_or replies i reply → reply.version ≡ version → ⊥) → reply_at version replies ≡ None
none_at version [] none = refl
none_at version (x ∷ replies) none =
    let apart : nat_eq x.version version ≡ false = ne_eqb x.version version (λ same. none 0 x (omega arith) refl same) in
    rw apart (none_at version replies (λ i reply there is at. none (suc i) reply (omega (arith, there)) is at))

-- where the replies below the version end there is no reply at the version, so there is none
pub none_there : (version place : ℕ) (replies : List Reply) → RepliesIncrease replies → IsPartitionPoint (λ (reply : Reply). nat_lt reply.version version ≡ true) (λ (reply : Reply). nat_lt reply.version version ≡ false) replies place → ((reply : Reply) → place < length replies → reply ≡ get_or replies place reply → reply.version ≡ version → ⊥) → reply_at version replies ≡ None
none_there version place replies order point other =
    none_at version replies (λ i reply there is at. by i reply there is at (nat_lt i place) refl)
  where
    by : (i : ℕ) (reply : Reply) → i < length replies → reply ≡ get_or replies i reply → reply.version ≡ version → (t : Bool) → nat_lt i place ≡ t → ⊥
    by i reply there is at true before =
        let below : nat_lt reply.version version ≡ true = ap (λ (x : Reply). nat_lt x.version version) is ∙ point.0 i reply (omega arith) (ltb-true i place before) in
        let less : reply.version < version = ltb-true reply.version version below in
        omega (arith, less, at)
    by i reply there is at false after =
        let start : place ≤ i = ltb-false i place after in
        let within : place < length replies = omega (arith, start, there) in
        let first : Reply = get_or replies place reply in
        let above : version ≤ first.version = ltb-false first.version version (point.1 place reply (omega arith) within) in
        let rises : first.version ≤ version_of (get_or replies i reply) = never_falls version_of 0 replies order place i reply start there in
        let here : reply.version ≡ version_of (get_or replies i reply) = ap version_of is in
        other first within (get_or_default replies place reply first within) (omega (arith, above, rises, here, at))
