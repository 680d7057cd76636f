-- A `Fact` as a value, and two facts about one cell. Assumes `Logic`.
use Rattle.std.proofs.Common.{◌≡◌, ℕ, [], ◌∷◌, refl, sym, IsSome, true≢false}
use seplogic.Ra.Ura.{Ura}
use mir.Val.{Val, vstruct, vcons, vnil}
use base.Logic.{ent, sep}
use types.Logic.{Logic, sem}
use types.Kit.{‵, ◌$◌, ◌∵◌, !, qed, use0, done}
use contract.Monad.{fact}
use denote.RattleType.{RattleType}
use denote.Shadow.{makes_shadow}
use denote.Struct.Struct.{Struct}
use denote.Struct.Owning.{shape}
use Rattle.std.specs.declared.option.Option.{Option}
use Rattle.std.specs.declared.option.Option.TheVariants.{None, Some}
use Rattle.once_cell.specs.Once.{noted}
use Rattle.once_cell.proofs.Notes.{noted_agree}
use Rattle.facts.specs.contracts.fact.Fact as Fact

abbrev pub token_val : Val
token_val = vstruct (vcons (vstruct vnil) vnil)

pub fact_made : {M : Type 1} {𝓤 : Ura M} (𝓛 : Logic 𝓤) (R : RattleType) (γ : ℕ) (x : R.Denot)
    → ent 𝓤 (sem 𝓛 (noted R γ (Some x))) (sem 𝓛 ((Fact.the_row R).own_val (record { marker = record {}; cell = γ; value = x }) (token_val ∷ [])))
fact_made 𝓛 R γ x = let F = (Struct (shape (Fact.the_type R))).own_val (tt, tt) (token_val ∷ []) in
    qed 𝓛 (‵ (noted R γ (Some x)) ∷ []) ∵ use0 𝓛 (‵ F) (makes_shadow 𝓛 F (λ vss. (tt, ((λ uss. (tt, tt)), tt))) ((vstruct vnil ∷ [], tt), (refl, ((tt, (refl, tt)), tt)))) $ done !

pub one_value : {M : Type 1} {𝓤 : Ura M} (𝓛 : Logic 𝓤) (R : RattleType) (γ : ℕ) (x y : R.Denot)
    → ent 𝓤 (sep 𝓤 (sem 𝓛 (noted R γ (Some x))) (sem 𝓛 (noted R γ (Some y)))) (fact 𝓤 (x ≡ y))
one_value 𝓛 R γ x y = noted_agree 𝓛 R γ (Some x) (Some y)

pub known_is : {X : Type 0} (k : Option X) → IsSome k → (x : X) × (k ≡ Some x)
known_is None nothing = absurd (true≢false (sym nothing))
known_is (Some x) is = (x, refl)
