-- The machine value of a `Handle`: what it owns is taken out, and put back. Assumes `Logic`.
use Rattle.std.proofs.Common.{◌≡◌, ℕ, List, [], ◌∷◌, ◌++◌, refl, subst, lit<}
use Rattle.std.specs.Prelude.{Option, Some, None}
use seplogic.Ra.Ura.{Ura}
use mir.Val.{Val, vstruct, vcons, vnil, of_list}
use mir.Raw.{raw as bare}
use base.Fraction.{full_share}
use base.Fml.{Fml}
use base.Logic.{ent, guard, guard_i, via, never, fst∗, snd∗}
use contract.Monad.{fact_use}
use types.Logic.{Logic, sem}
use types.Kit.{Item, Goal, Seq, Step, step, ‵, given, ◌$◌, learn, use1, drop, fsplit, fjoin, fpick, fpack, feq_i, feq_l}
use denote.RattleType.{RattleType, Valss}
use denote.Builtin.{RawPtr}
use denote.RawPtr.{Ptr, block_ptr, null_ptr, ptr_val, Testable, lies_at, in_a_block}
use denote.Memory.{lone}
use denote.Param.{layout}
use denote.Steps.{nothing}
use denote.Struct.Struct.{within}
use denote.Struct.Owning.{shape}
use Rattle.core.proofs.cell.Inside.{Good}
use Rattle.std.specs.declared.alloc.Global.{Global}
use Rattle.std.specs.Box.Ownership.{box_owns}
use Rattle.std.specs.contracts.impls.GlobalAllocator.TheImpl.{ghosts}
use Rattle.std.proofs.GlobalToken.{dealloc_token-Testable}
use Rattle.session_texts.specs.Sessions.{SessionView}
use Rattle.session_texts.specs.contracts.text_session.TextSession.{the_row as TextSession}
use Rattle.session_handle.specs.Owned.{handle_owns}
use Rattle.session_handle.specs.contracts.handle.Handle as handle

abbrev pub Handle : RattleType
Handle = handle.the_row

abbrev pub word : Ptr → Val
word p = vstruct (vcons (ptr_val p) vnil)

pub word_good : (p : Ptr) → Good (layout Handle) (word p)
word_good (block_ptr b o) = (tt, (tt, tt))
word_good null_ptr = (tt, (record { fits = lit< tt }, tt))

module _ {M : Type 1} {𝓤 : Ura M} {𝓛 : Logic 𝓤} {K : Type 0} {Γ : List (Item 𝓤)} {G : Goal 𝓤 𝓛.H} where
  pub handle_out : K → (h : Handle.Denot) (vs : List Val)
      → (vs ≡ word h.at ∷ [] → Seq K 𝓛 (‵ (handle_owns h.at h.session) ∷ Γ) G)
      → Seq K 𝓛 (‵ (Handle.own_val h vs) ∷ Γ) G
  handle_out t h vs k =
      fsplit t $ fpick t (λ vss. fsplit t $ feq_l t (λ ev. fsplit t $ feq_l t (λ ep. drop t $
      k (subst (λ (ps : List Val). vs ≡ vstruct (of_list (ps ++ [])) ∷ []) ep ev))))

  pub handle_in : K → (p : Ptr) (s : Option SessionView)
      → Step K 𝓛 (‵ (Handle.own_val (record { at = p; session = s }) (word p ∷ [])) ∷ Γ) G (‵ (handle_owns p s) ∷ Γ) G
  handle_in t p s = step (λ r.
      nothing t $ feq_i t (List Val) (ptr_val p ∷ []) (ptr_val p ∷ []) refl $ fjoin t $
      feq_i t (List Val) (word p ∷ []) (word p ∷ []) refl $ fjoin t $
      fpack t (Valss (RawPtr ∷ [])) (within (shape handle.the_type) (p, tt) (word p ∷ [])) (ptr_val p ∷ [], tt) $ fjoin t $ r)

-- the session in its block, and the right to free the block
abbrev pub owned : Global → Ptr → SessionView → Fml
owned a = box_owns (ghosts.dealloc_token a) TextSession

-- where there is a session, its pointer may be compared with null
pub owned_tested : {M : Type 1} {𝓤 : Ura M} (𝓛 : Logic 𝓤) (a : Global) (p : Ptr) (x : SessionView)
    → ent 𝓤 (sem 𝓛 (owned a p x)) (guard 𝓤 (Testable p) (sem 𝓛 (owned a p x)))
owned_tested {𝓤 = 𝓤} 𝓛 a p x =
    let τ = bare (lone TextSession.mir) in
    fact_use 𝓤 (Testable p) (via 𝓤 _ (snd∗ 𝓤 (sem 𝓛 (lies_at TextSession full_share p x)) (sem 𝓛 (ghosts.dealloc_token a τ p))) (dealloc_token-Testable 𝓛 a τ p)) (guard_i 𝓤 (Testable p) (sem 𝓛 (owned a p x)))

module _ {M : Type 1} {𝓤 : Ura M} {𝓛 : Logic 𝓤} {K : Type 0} {Γ : List (Item 𝓤)} {G : Goal 𝓤 𝓛.H} where
  -- a handle is empty, or its session lies in a block
  pub either_owned : K → (a : Global) (p : Ptr) (s : Option SessionView)
      → (p ≡ null_ptr → s ≡ None → Seq K 𝓛 Γ G)
      → ((b o : ℕ) (x : SessionView) → p ≡ block_ptr b o → s ≡ Some x → Testable (block_ptr b o) → Seq K 𝓛 (‵ (owned a (block_ptr b o) x) ∷ Γ) G)
      → Seq K 𝓛 (‵ (handle_owns p s) ∷ Γ) G
  either_owned t a p None none one = feq_l t (λ e. none e refl)
  either_owned t a p (Some x) none one =
      in_a_block t p (λ q. owned a q x) (fst∗ 𝓤 (never 𝓤) (sem 𝓛 (ghosts.dealloc_token a (bare (lone TextSession.mir)) null_ptr))) (λ b o e.
      use1 𝓛 (given (Testable (block_ptr b o)) (‵ (owned a (block_ptr b o) x))) (owned_tested 𝓛 a (block_ptr b o) x) $ learn t (λ tested. one b o x e refl tested))
