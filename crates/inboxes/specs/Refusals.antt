-- The numbers and names of refusals (this project's profile).
use Rattle.std.specs.Prelude.{ℕ, List, codes}
use Rattle.inboxes.specs.declared.refusal.Refusal.{Refusal}
use Rattle.inboxes.specs.declared.refusal.Refusal.TheVariants as refusals

abbrev pub refusal_number : Refusal → ℕ
refusal_number refusals.NotSender = 61

abbrev pub refusal_name : Refusal → List ℕ
refusal_name refusals.NotSender = codes "NotSender"
