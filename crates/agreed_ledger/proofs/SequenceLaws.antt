-- What the sequencer keeps, after a record and after a move.
use Rattle.std.proofs.Common.{◌≡◌, refl, sym, subst, ap, ◌∙◌, ℕ, ◌+◌, ◌<◌, List, [], ◌∷◌, ◌++◌, append-nil, ne_eqb}
use Rattle.model.specs.Configs.{Config}
use Rattle.model.specs.declared.moves.Move.{Move}
use Rattle.model.specs.Records.{Record, MovesFollow, last_version}
use Rattle.std.proofs.lemmas.Bool.{eq-eqb}
use Rattle.std.proofs.lemmas.List.{length-set}
use Rattle.std.specs.Prelude.{◌⊎◌, slice_set}
use Rattle.std.specs.List.{slice_get}
use Rattle.std.specs.declared.option.Option.TheVariants.{Some}
use mathlib.Core.Logic.{inl, inr}
use Rattle.model.specs.Configs.{version_limit}
use Rattle.model.specs.Records.{records_of_proxy}
use Rattle.model.specs.Stamps.{AdmittedTransaction, stamped_from}
use Rattle.model.proofs.History.Chain.{next_follows_moves}
use Rattle.model.proofs.History.Growth.{moves_follow_move, moves_follow_record, last_version-push, records_of_proxy-append}
use Rattle.model.proofs.Resolvers.Growth.{set_found}
use Rattle.model.specs.World.{record_after}
use Rattle.agreed_ledger.specs.Sequencing.{KeepsVersions}

pub move_made : (config : Config) (records : List Record) (moves after : List Move) (move : Move) → after ≡ moves ++ move ∷ []
    → move.date ≡ last_version records + 1 → move.dest < config.resolvers → MovesFollow config records moves → MovesFollow config records after
move_made config records moves after move pushed date dest follow =
    subst (λ (ms : List Move). MovesFollow config records ms) (sym pushed)
    (moves_follow_move config records moves move follow (record { date = date; dest = dest }))

-- ---- after a record

module _ (config : Config) (h : List Record) (moves : List Move) (p : ℕ) (batch : List AdmittedTransaction) where
  abbrev next : Record
  next = record_after config h moves p batch

  pub record_given : (rec : Record) (after : List Record) → rec ≡ next → after ≡ h ++ rec ∷ [] → MovesFollow config h moves → p < config.proxies
      → last_version h + config.step < version_limit → MovesFollow config after moves
  record_given rec after is pushed follow there below =
      let follows = next_follows_moves config h moves p (stamped_from (last_version h + config.step) 0 batch) follow there below in
      let all : MovesFollow config (h ++ next ∷ []) moves = moves_follow_record config h next moves follow follows refl in
      subst (λ (rs : List Record). MovesFollow config rs moves) (sym (pushed ∙ ap (λ (r : Record). h ++ r ∷ []) is)) all

  pub versions_kept : (rec : Record) (after : List Record) (version : ℕ) (own_versions : List ℕ) → rec ≡ next → after ≡ h ++ rec ∷ []
      → KeepsVersions config h version own_versions → version + config.step < version_limit
      → KeepsVersions config after (version + config.step) (slice_set own_versions p (version + config.step))
  versions_kept rec after version own_versions is pushed kept below =
      let all : after ≡ h ++ next ∷ [] = pushed ∙ ap (λ (r : Record). h ++ r ∷ []) is in
      let now : version + config.step ≡ next.version = ap (λ (v : ℕ). v + config.step) kept.version_is in
      subst (λ (rs : List Record). KeepsVersions config rs (version + config.step) (slice_set own_versions p (version + config.step))) (sym all)
      (record {
        config_is = kept.config_is;
        version_is = now ∙ sym (last_version-push h next);
        representable = below;
        count = length-set own_versions p (version + config.step) ∙ kept.count;
        own = λ q own at. own_at q own (set_found own_versions p (version + config.step) q own at);
      })
    where
      own_at : (q own : ℕ) → ((q ≡ p) × (own ≡ version + config.step)) ⊎ ((q ≡ p → ⊥) × (slice_get own_versions q ≡ Some own)) → own ≡ last_version (records_of_proxy q (h ++ next ∷ []))
      own_at q own (inl same) =
          let mine : records_of_proxy q (h ++ next ∷ []) ≡ records_of_proxy q h ++ next ∷ [] =
          records_of_proxy-append q h (next ∷ []) ∙ ap (λ (rs : List Record). records_of_proxy q h ++ rs) (rw (eq-eqb p q (sym same.0)) refl) in
          same.1 ∙ ap (λ (v : ℕ). v + config.step) kept.version_is ∙ sym (ap last_version mine ∙ last_version-push (records_of_proxy q h) next)
      own_at q own (inr other) =
          let mine : records_of_proxy q (h ++ next ∷ []) ≡ records_of_proxy q h =
          records_of_proxy-append q h (next ∷ []) ∙ ap (λ (rs : List Record). records_of_proxy q h ++ rs) (rw (ne_eqb p q (λ e. other.0 (sym e))) refl) ∙ append-nil (records_of_proxy q h) in
          kept.own q own other.1 ∙ sym (ap last_version mine)
