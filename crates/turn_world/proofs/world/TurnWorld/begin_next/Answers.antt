-- The proxy begins the next record, and the cluster keeps it.
use Rattle.std.proofs.Common.{◌≡◌, ◌∙◌, ◌+◌, ◌<◌, sym, ap, subst, List, [], ◌∷◌, ◌++◌, length, arith, rules}
use Rattle.std.specs.Prelude.{Err, Ok}
use Rattle.std.proofs.lemmas.List.{length-map}
use Rattle.model.specs.Records.{Record, last_version}
use Rattle.model.specs.World.{Sequence, Sequenced, next_record, finished_version}
use Rattle.turn_world.specs.Kept.{IsKept, world_of, requests_of}
use Rattle.turn_world.specs.Steps.{AnswersEvent}
use Rattle.turn_world.specs.declared.kept_record.KeptRecord.{KeptRecord}
use Rattle.turn_world.specs.declared.refusal.Refusal.TheVariants as refusals
use Rattle.turn_world.proofs.OfferedParts.{got}
use Rattle.turn_world.proofs.AllKept.{pushed_kept}
use Rattle.turn_world.proofs.SequencedBatches.{may_here, answered, not_refused_now, record_is, may_begin_at, world_is, kept, after}
use Rattle.turn_world.proofs.world.TurnWorld.begin_next.Goals as goal

pub returns-in_default-clause-answer : goal.returns-in_default-clause-answer
returns-in_default-clause-answer c batch next = not_refused_now c.args.self.now c.args.proxy batch c.requires.may

pub begin_at-requires-clause-may : goal.begin_at-requires-clause-may
begin_at-requires-clause-may c =
    let t = c.self.inside in
    let w = world_of t.rows.items t.moves t.judged_counts.items t.finished.items in
    let may = may_here t.config w c.args.self.now c.args.proxy c.self.view_is c.requires.may in
    let within : c.args.proxy < length t.proxies.items = omega (arith, may.there, c.self.invariant.0.parts.proxy_count) in
    may_begin_at t.config w c.args.proxy c.requires.next.0 c.index.result.now c.args.rec.now t.resolvers.items t.proxies.items (requests_of t.rows.items) t.last c.self.invariant.0 may.there may.limit
    (got t.proxies.items c.args.proxy c.index.result.now within c.index.ensures) (record_is t.config w c.args.self.now c.args.proxy c.requires.next.0 c.args.rec.now c.self.view_is c.requires.next.1)

pub begin_at-requires-clause-moves : goal.begin_at-requires-clause-moves
begin_at-requires-clause-moves c =
    let t = c.self.inside in
    let w = world_of t.rows.items t.moves t.judged_counts.items t.finished.items in
    sym (ap (λ (r : Record). r.moves) (record_is t.config w c.args.self.now c.args.proxy c.requires.next.0 c.args.rec.now c.self.view_is c.requires.next.1))

pub returns-in_err-requests-clause-answer : goal.returns-in_err-requests-clause-answer
returns-in_err-requests-clause-answer c batch next =
    let is : c.from_residual.result ≡ Err refusals.OutOfMemory = search rules in
    subst (AnswersEvent c.args.self.now (Sequence c.args.proxy batch)) (sym is) (not_refused_now c.args.self.now c.args.proxy batch c.requires.may)

pub invariant_of-self-2 : goal.invariant_of-self-2
invariant_of-self-2 c =
    let t = c.self.inside in
    let w = world_of t.rows.items t.moves t.judged_counts.items t.finished.items in
    let may = may_here t.config w c.args.self.now c.args.proxy c.self.view_is c.requires.may in
    let rec_is : c.args.rec.now ≡ next_record t.config w c.args.proxy c.requires.next.0 = record_is t.config w c.args.self.now c.args.proxy c.requires.next.0 c.args.rec.now c.self.view_is c.requires.next.1 in
    let row : KeptRecord = record { rec = record { known = c.args.rec.now }; proxy = c.args.proxy; received = c.version-received.result; sent = record { known = c.in_ok-requests.requests }; kept = record { requests = c.from.result } } in
    let within : c.args.proxy < length t.proxies.items = omega (arith, may.there, c.self.invariant.0.parts.proxy_count) in
    let at = got t.proxies.items c.args.proxy c.index.result.now within c.index.ensures in
    let received : c.version-received.result ≡ finished_version w c.args.proxy = c.version-received.ensures ∙ (c.self.invariant.0.parts.each_proxy c.args.proxy c.index.result.now at).version in
    let is : c.push_reserved.new.self.items ≡ t.rows.items ++ row ∷ [] = c.push_reserved.ensures.items ∙ ap (λ (rs : List KeptRecord). rs ++ record { rec = c.of.result; proxy = c.args.proxy; received = c.version-received.result; sent = c.of-2.result; kept = record { requests = c.from.result } } ∷ []) c.reserve.ensures.items ∙ (λ i. t.rows.items ++ record { rec = record { known = c.of.ensures i }; proxy = c.args.proxy; received = c.version-received.result; sent = record { known = (c.of-2.ensures ∙ c.from.ensures) i }; kept = record { requests = c.from.result } } ∷ []) in (
      subst (IsKept t.config (world_of c.push_reserved.new.self.items t.moves t.judged_counts.items t.finished.items) t.resolvers.items c.begin_at.new.proxies.items (requests_of c.push_reserved.new.self.items)) (sym c.version-version.ensures.value)
          (kept t.config c.args.proxy c.requires.next.0 t.rows.items c.push_reserved.new.self.items row t.moves t.judged_counts.items t.finished.items t.resolvers.items t.proxies.items c.begin_at.new.proxies.items t.last c.self.invariant.0 is rec_is received may.there may.limit c.in_ok-requests.ensures.begun),
      pushed_kept t.judged_counts.items t.rows.items c.push_reserved.new.self.items row is (sym (ap (λ (r : Record). r.proxy) rec_is)) c.from.ensures c.self.invariant.1,
    )

pub returns-clause-answer : goal.returns-clause-answer
returns-clause-answer c batch next =
    let t = c.self.inside in
    let w = world_of t.rows.items t.moves t.judged_counts.items t.finished.items in
    let may = may_here t.config w c.args.self.now c.args.proxy c.self.view_is c.requires.may in
    let rec_is : c.args.rec.now ≡ next_record t.config w c.args.proxy batch = record_is t.config w c.args.self.now c.args.proxy batch c.args.rec.now c.self.view_is next in
    let many : c.len-row.result ≡ length t.rows.items = search rules in
    let n : length w.history ≡ c.len-row.result = length-map t.rows.items (λ (r : KeptRecord). r.rec.known) ∙ sym many in
    let v : last_version w.history + t.config.step ≡ c.version-version.result = sym (c.version-version.ensures.value ∙ ap (λ (r : Record). r.version) rec_is) in
    answered t.config w c.args.self.now c.args.proxy batch c.self.view_is may.there may.limit ∙ (λ i. Ok (Sequenced (n i) (v i)))

pub returns-clause-ok : goal.returns-clause-ok
returns-clause-ok c batch next =
    let t = c.self.inside in
    let w = world_of t.rows.items t.moves t.judged_counts.items t.finished.items in
    let may = may_here t.config w c.args.self.now c.args.proxy c.self.view_is c.requires.may in
    let rec_is : c.args.rec.now ≡ next_record t.config w c.args.proxy batch = record_is t.config w c.args.self.now c.args.proxy batch c.args.rec.now c.self.view_is next in
    let row : KeptRecord = record { rec = record { known = c.args.rec.now }; proxy = c.args.proxy; received = c.version-received.result; sent = record { known = c.in_ok-requests.requests }; kept = record { requests = c.from.result } } in
    let within : c.args.proxy < length t.proxies.items = omega (arith, may.there, c.self.invariant.0.parts.proxy_count) in
    let at = got t.proxies.items c.args.proxy c.index.result.now within c.index.ensures in
    let received : c.version-received.result ≡ finished_version w c.args.proxy = c.version-received.ensures ∙ (c.self.invariant.0.parts.each_proxy c.args.proxy c.index.result.now at).version in
    let is : c.push_reserved.new.self.items ≡ t.rows.items ++ row ∷ [] = c.push_reserved.ensures.items ∙ ap (λ (rs : List KeptRecord). rs ++ record { rec = c.of.result; proxy = c.args.proxy; received = c.version-received.result; sent = c.of-2.result; kept = record { requests = c.from.result } } ∷ []) c.reserve.ensures.items ∙ (λ i. t.rows.items ++ record { rec = record { known = c.of.ensures i }; proxy = c.args.proxy; received = c.version-received.result; sent = record { known = (c.of-2.ensures ∙ c.from.ensures) i }; kept = record { requests = c.from.result } } ∷ []) in
    after t.config w (world_of c.push_reserved.new.self.items t.moves t.judged_counts.items t.finished.items) c.args.self.now c.args.proxy batch c.self.view_is
    (world_is t.config c.args.proxy batch t.rows.items c.push_reserved.new.self.items row t.moves t.judged_counts.items t.finished.items is rec_is received may.there may.limit)
