-- A range moves.
use Rattle.std.proofs.Common.{◌≡◌, refl, sym, ap, ◌∙◌, subst, ℕ, ◌+◌, ◌<◌, ◌≤◌, List, [], ◌∷◌, ◌++◌, true, false, nat_le}
use Rattle.std.specs.Prelude.{Ok, Err, IsOk}
use Rattle.std.proofs.lemmas.Bool.{le-leb, lt-leb}
use Rattle.system_keys.specs.Keys.{Range}
use Rattle.model.specs.Configs.{Config}
use Rattle.model.specs.declared.moves.Move.{Move}
use Rattle.model.specs.Records.{last_version}
use Rattle.model.specs.Requests.{Request}
use Rattle.model.specs.ResolverMemory.{ResolverView}
use Rattle.model.specs.Finishing.{ProxyView}
use Rattle.model.specs.World.{World, MoveRange, Handled, NoSuchResolver, Moved, handle_event}
use Rattle.model.specs.Turns.{TurnCluster, success_or_refusal, answer_to_event, after_event, AreInStep}
use Rattle.model.proofs.Worlds.InStep.{moved_in_step}
use Rattle.turn_world.specs.Kept.{IsKept}

pub refused : (config : Config) (w : World) (now : TurnCluster) (range : Range) (dest : ℕ) → (record { config = config; world = w }) ≡ now → config.resolvers ≤ dest → answer_to_event now (MoveRange range dest) ≡ Err NoSuchResolver
unfolding handle_event
refused config w now range dest view past =
    let unknown : nat_le config.resolvers dest ≡ true = le-leb config.resolvers dest past in
    ap (λ (t : TurnCluster). answer_to_event t (MoveRange range dest)) (sym view) ∙ rw unknown refl

move_is : (config : Config) (w : World) (range : Range) (dest : ℕ) → dest < config.resolvers → handle_event config w (MoveRange range dest) ≡ record { world = record w { moves = w.moves ++ (record { range = range; date = last_version w.history + 1; dest = dest }) ∷ [] }; answer = Moved (last_version w.history + 1) }
unfolding handle_event
move_is config w range dest there = let known : nat_le config.resolvers dest ≡ false = lt-leb config.resolvers dest there in rw known refl

pub answered : (config : Config) (w : World) (now : TurnCluster) (range : Range) (dest last : ℕ) → (record { config = config; world = w }) ≡ now → dest < config.resolvers → last ≡ last_version w.history → answer_to_event now (MoveRange range dest) ≡ Ok (Moved (last + 1))
answered config w now range dest last view there last_is =
    ap (λ (t : TurnCluster). answer_to_event t (MoveRange range dest)) (sym view)
    ∙ ap (λ (handled : Handled). success_or_refusal handled.answer) (move_is config w range dest there)
    ∙ ap (λ (n : ℕ). Ok (Moved (n + 1))) (sym last_is)

pub not_refused : (config : Config) (w : World) (now : TurnCluster) (range : Range) (dest last : ℕ) → (record { config = config; world = w }) ≡ now → dest < config.resolvers → last ≡ last_version w.history → IsOk (answer_to_event now (MoveRange range dest))
not_refused config w now range dest last view there last_is = subst IsOk (sym (answered config w now range dest last view there last_is)) refl

-- the world once the move is made
world_is : (config : Config) (w : World) (range : Range) (dest last : ℕ) (moves : List Move) → dest < config.resolvers → last ≡ last_version w.history → moves ≡ w.moves ++ (record { range = range; date = last + 1; dest = dest }) ∷ [] → record w { moves = moves } ≡ (handle_event config w (MoveRange range dest)).world
world_is config w range dest last moves there last_is is =
    ap (λ (ms : List Move). record w { moves = ms }) (is ∙ ap (λ (n : ℕ). w.moves ++ (record { range = range; date = n + 1; dest = dest }) ∷ []) last_is)
    ∙ sym (ap (λ (handled : Handled). handled.world) (move_is config w range dest there))

pub after : (config : Config) (w : World) (now : TurnCluster) (range : Range) (dest last : ℕ) (moves : List Move) → (record { config = config; world = w }) ≡ now → dest < config.resolvers → last ≡ last_version w.history → moves ≡ w.moves ++ (record { range = range; date = last + 1; dest = dest }) ∷ [] → (record { config = config; world = record w { moves = moves } }) ≡ after_event now (MoveRange range dest)
after config w now range dest last moves view there last_is is =
    ap (λ (x : World). record { config = config; world = x }) (world_is config w range dest last moves there last_is is) ∙ ap (λ (t : TurnCluster). after_event t (MoveRange range dest)) view

pub kept : (config : Config) (w : World) (range : Range) (dest last : ℕ) (moves : List Move) (resolvers : List ResolverView) (proxies : List ProxyView) (requests : List (List Request)) → IsKept config w resolvers proxies requests last → dest < config.resolvers → moves ≡ w.moves ++ (record { range = range; date = last + 1; dest = dest }) ∷ [] → IsKept config (record w { moves = moves }) resolvers proxies requests last
kept config w range dest last moves resolvers proxies requests keeps there is =
    record {
      parts = subst (λ (x : World). AreInStep config x resolvers proxies requests) (sym (world_is config w range dest last moves there keeps.last_is is)) (moved_in_step config w range dest resolvers proxies requests keeps.parts);
      last_is = keeps.last_is;
      below = keeps.below;
    }
