-- The finish is refused, or done.
use Rattle.std.proofs.Common.{◌≡◌, ◌∙◌, ◌+◌, ◌<◌, sym, ap, subst, suc, List, length, slice_get, slice_index, slice_set, None, arith, rules}
use Rattle.std.specs.Prelude.{Err}
use Rattle.model.specs.Requests.{Request}
use Rattle.model.specs.World.{World, Finish}
use Rattle.model.specs.Laws.Worlds.{IsAwaited}
use Rattle.turn_world.specs.Kept.{IsKept, world_of, requests_of}
use Rattle.turn_world.specs.Parts.{AreAllKept, kept_replies_at, missing_of}
use Rattle.turn_world.specs.Steps.{AnswersEvent}
use Rattle.turn_world.specs.declared.refusal.Refusal.TheVariants as refusals
use Rattle.turn_world.proofs.AllKept.{all_judged}
use Rattle.turn_world.proofs.OfferedParts.{got}
use Rattle.turn_world.proofs.FinishedRecords.{no_proxy, none_begun, first_named, none_missing, not_refused, all_kept, are_of_the_world, may_finish_at, count_is_small, counted, answered, world_is, kept, event_after}
use Rattle.turn_world.proofs.world.TurnWorld.finish.Goals as goal

pub returns-then-proxies-proxy-clause-answer : goal.returns-then-proxies-proxy-clause-answer
returns-then-proxies-proxy-clause-answer c =
    let t = c.self.inside in
    let w = world_of t.rows.items t.moves t.judged_counts.items t.finished.items in
    no_proxy t.config w c.args.self.now c.args.proxy c.self.view_is (omega (arith, c.proxies.ensures.value, c.if-proxies-proxy.true))

pub returns-in_default-clause-answer : goal.returns-in_default-clause-answer
returns-in_default-clause-answer c =
    let t = c.self.inside in
    let w = world_of t.rows.items t.moves t.judged_counts.items t.finished.items in
    let there : c.args.proxy < t.config.proxies = omega (arith, c.proxies.ensures.value, c.if-proxies-proxy.false) in
    let at = got t.proxies.items c.args.proxy c.index.result.now (omega (arith, there, c.self.invariant.0.parts.proxy_count)) c.index.ensures in
    none_begun t.config w c.args.self.now c.args.proxy c.index.result.now t.resolvers.items t.proxies.items (requests_of t.rows.items) c.self.view_is c.self.invariant.0.parts there at c.in_default.ensures.first

pub returns-in-Some-first_not_judged-clause-answer : goal.returns-in-Some-first_not_judged-clause-answer
returns-in-Some-first_not_judged-clause-answer c =
    let t = c.self.inside in
    let w = world_of t.rows.items t.moves t.judged_counts.items t.finished.items in
    let there : c.args.proxy < t.config.proxies = omega (arith, c.proxies.ensures.value, c.if-proxies-proxy.false) in
    let at = got t.proxies.items c.args.proxy c.index.result.now (omega (arith, there, c.self.invariant.0.parts.proxy_count)) c.index.ensures in
    let rec = c.in-Some.rec.now in
    let rest = c.in-Some.ensures.first.0 in
    let v = c.index.result.now in
    let requests = requests_of t.rows.items in
    let is : IsAwaited t.config w c.args.proxy rec rest v t.resolvers.items t.proxies.items requests = record { parts = c.self.invariant.0.parts; there = there; proxy_is = at; begun = c.in-Some.ensures.first.1 } in
    let row : c.row-row.result ≡ rec.row = c.row-row.ensures in
    let counts : c.as_slice.result.now ≡ t.judged_counts.items = c.as_slice.ensures.value in
    first_named t.config w c.args.self.now c.args.proxy rec rest v t.resolvers.items t.proxies.items requests c.in-Some-first_not_judged.resolver c.self.view_is is (c.in-Some-first_not_judged.ensures ∙ (λ i. slice_get (missing_of (row i) (counts i)) 0))

pub kept_replies_at-requires-clause-kept : goal.kept_replies_at-requires-clause-kept
kept_replies_at-requires-clause-kept c =
    let t = c.self.inside in
    let w = world_of t.rows.items t.moves t.judged_counts.items t.finished.items in
    let there : c.args.proxy < t.config.proxies = omega (arith, c.proxies.ensures.value, c.if-proxies-proxy.false) in
    let at = got t.proxies.items c.args.proxy c.index.result.now (omega (arith, there, c.self.invariant.0.parts.proxy_count)) c.index.ensures in
    let rec = c.in-Some.rec.now in
    let rest = c.in-Some.ensures.first.0 in
    let v = c.index.result.now in
    let requests = requests_of t.rows.items in
    let is : IsAwaited t.config w c.args.proxy rec rest v t.resolvers.items t.proxies.items requests = record { parts = c.self.invariant.0.parts; there = there; proxy_is = at; begun = c.in-Some.ensures.first.1 } in
    let row : c.row-row.result ≡ rec.row = c.row-row.ensures in
    let counts : c.as_slice.result.now ≡ t.judged_counts.items = c.as_slice.ensures.value in
    let first : None ≡ slice_get (missing_of rec.row t.judged_counts.items) 0 = c.in_default-first_not_judged.ensures ∙ (λ i. slice_get (missing_of (row i) (counts i)) 0) in
    let none = none_missing t.config w c.args.proxy rec rest v t.resolvers.items t.proxies.items requests is first in
    let version : c.version-version.result ≡ rec.version = c.version-version.ensures.value in
    let resolvers : c.as_slice-resolvers.result.now ≡ t.resolvers.items = c.as_slice-resolvers.ensures.value in
    subst (λ rs. AreAllKept rs c.args.proxy c.version-version.result) (sym resolvers) (subst (AreAllKept t.resolvers.items c.args.proxy) (sym version) (all_kept t.config w c.args.proxy rec rest v t.resolvers.items t.proxies.items requests is none))

pub returns-in_err-replies-clause-answer : goal.returns-in_err-replies-clause-answer
returns-in_err-replies-clause-answer c =
    let t = c.self.inside in
    let w = world_of t.rows.items t.moves t.judged_counts.items t.finished.items in
    let there : c.args.proxy < t.config.proxies = omega (arith, c.proxies.ensures.value, c.if-proxies-proxy.false) in
    let at = got t.proxies.items c.args.proxy c.index.result.now (omega (arith, there, c.self.invariant.0.parts.proxy_count)) c.index.ensures in
    let rec = c.in-Some.rec.now in
    let rest = c.in-Some.ensures.first.0 in
    let v = c.index.result.now in
    let requests = requests_of t.rows.items in
    let is : IsAwaited t.config w c.args.proxy rec rest v t.resolvers.items t.proxies.items requests = record { parts = c.self.invariant.0.parts; there = there; proxy_is = at; begun = c.in-Some.ensures.first.1 } in
    let row : c.row-row.result ≡ rec.row = c.row-row.ensures in
    let counts : c.as_slice.result.now ≡ t.judged_counts.items = c.as_slice.ensures.value in
    let first : None ≡ slice_get (missing_of rec.row t.judged_counts.items) 0 = c.in_default-first_not_judged.ensures ∙ (λ i. slice_get (missing_of (row i) (counts i)) 0) in
    let none = none_missing t.config w c.args.proxy rec rest v t.resolvers.items t.proxies.items requests is first in
    let out : c.from_residual.result ≡ Err refusals.OutOfMemory = search rules in
    subst (AnswersEvent c.args.self.now (Finish c.args.proxy)) (sym out) (not_refused t.config w c.args.self.now c.args.proxy rec rest v t.resolvers.items t.proxies.items requests c.self.view_is is none)

pub returns-in_err-finished-clause-answer : goal.returns-in_err-finished-clause-answer
returns-in_err-finished-clause-answer c =
    let t = c.self.inside in
    let w = world_of t.rows.items t.moves t.judged_counts.items t.finished.items in
    let there : c.args.proxy < t.config.proxies = omega (arith, c.proxies.ensures.value, c.if-proxies-proxy.false) in
    let at = got t.proxies.items c.args.proxy c.index.result.now (omega (arith, there, c.self.invariant.0.parts.proxy_count)) c.index.ensures in
    let rec = c.in-Some.rec.now in
    let rest = c.in-Some.ensures.first.0 in
    let v = c.index.result.now in
    let requests = requests_of t.rows.items in
    let is : IsAwaited t.config w c.args.proxy rec rest v t.resolvers.items t.proxies.items requests = record { parts = c.self.invariant.0.parts; there = there; proxy_is = at; begun = c.in-Some.ensures.first.1 } in
    let row : c.row-row.result ≡ rec.row = c.row-row.ensures in
    let counts : c.as_slice.result.now ≡ t.judged_counts.items = c.as_slice.ensures.value in
    let first : None ≡ slice_get (missing_of rec.row t.judged_counts.items) 0 = c.in_default-first_not_judged.ensures ∙ (λ i. slice_get (missing_of (row i) (counts i)) 0) in
    let none = none_missing t.config w c.args.proxy rec rest v t.resolvers.items t.proxies.items requests is first in
    let out : c.from_residual-in_err-finished.result ≡ Err refusals.OutOfMemory = search rules in
    subst (AnswersEvent c.args.self.now (Finish c.args.proxy)) (sym out) (not_refused t.config w c.args.self.now c.args.proxy rec rest v t.resolvers.items t.proxies.items requests c.self.view_is is none)

pub overflow_add-count : goal.overflow_add-count
overflow_add-count c =
    let t = c.self.inside in
    let w = world_of t.rows.items t.moves t.judged_counts.items t.finished.items in
    let there : c.args.proxy < t.config.proxies = omega (arith, c.proxies.ensures.value, c.if-proxies-proxy.false) in
    let at = got t.proxies.items c.args.proxy c.index.result.now (omega (arith, there, c.self.invariant.0.parts.proxy_count)) c.index.ensures in
    let rec = c.in-Some.rec.now in
    let rest = c.in-Some.ensures.first.0 in
    let v = c.index.result.now in
    let requests = requests_of t.rows.items in
    let is : IsAwaited t.config w c.args.proxy rec rest v t.resolvers.items t.proxies.items requests = record { parts = c.self.invariant.0.parts; there = there; proxy_is = at; begun = c.in-Some.ensures.first.1 } in
    let within : c.args.proxy < length t.finished.items = omega (arith, there, c.self.invariant.0.parts.sound.finished) in
    let count : c.index-2.result.now + 1 ≡ suc (slice_index t.finished.items c.args.proxy) = counted t.finished.items c.args.proxy c.index-2.result.now within c.index-2.ensures in
    let small : slice_index t.finished.items c.args.proxy < 9223372036854775808 = count_is_small t.config w c.args.proxy t.last rec rest v t.resolvers.items t.proxies.items requests is c.self.invariant.0.last_is c.self.invariant.0.below in
    omega (arith, count, small)

pub finish_at-requires : goal.finish_at-requires
finish_at-requires c =
    let t = c.self.inside in
    let w = world_of t.rows.items t.moves t.judged_counts.items t.finished.items in
    let there : c.args.proxy < t.config.proxies = omega (arith, c.proxies.ensures.value, c.if-proxies-proxy.false) in
    let at = got t.proxies.items c.args.proxy c.index.result.now (omega (arith, there, c.self.invariant.0.parts.proxy_count)) c.index.ensures in
    let rec = c.in-Some.rec.now in
    let rest = c.in-Some.ensures.first.0 in
    let v = c.index.result.now in
    let requests = requests_of t.rows.items in
    let is : IsAwaited t.config w c.args.proxy rec rest v t.resolvers.items t.proxies.items requests = record { parts = c.self.invariant.0.parts; there = there; proxy_is = at; begun = c.in-Some.ensures.first.1 } in
    let row : c.row-row.result ≡ rec.row = c.row-row.ensures in
    let counts : c.as_slice.result.now ≡ t.judged_counts.items = c.as_slice.ensures.value in
    let first : None ≡ slice_get (missing_of rec.row t.judged_counts.items) 0 = c.in_default-first_not_judged.ensures ∙ (λ i. slice_get (missing_of (row i) (counts i)) 0) in
    let none = none_missing t.config w c.args.proxy rec rest v t.resolvers.items t.proxies.items requests is first in
    let version : c.version-version.result ≡ rec.version = c.version-version.ensures.value in
    let resolvers : c.as_slice-resolvers.result.now ≡ t.resolvers.items = c.as_slice-resolvers.ensures.value in
    let replies = c.in_ok-replies.replies in
    let are : replies ≡ kept_replies_at t.resolvers.items c.args.proxy rec.version = c.in_ok-replies.ensures ∙ (λ i. kept_replies_at (resolvers i) c.args.proxy (version i)) in
    let of_world = are_of_the_world t.config w c.args.proxy rec rest v t.resolvers.items t.proxies.items requests replies is none are in
    may_finish_at t.config w c.args.proxy rec rest v t.resolvers.items t.proxies.items requests replies is of_world

pub invariant_of-self-2 : goal.invariant_of-self-2
invariant_of-self-2 c =
    let t = c.self.inside in
    let w = world_of t.rows.items t.moves t.judged_counts.items t.finished.items in
    let there : c.args.proxy < t.config.proxies = omega (arith, c.proxies.ensures.value, c.if-proxies-proxy.false) in
    let at = got t.proxies.items c.args.proxy c.index.result.now (omega (arith, there, c.self.invariant.0.parts.proxy_count)) c.index.ensures in
    let rec = c.in-Some.rec.now in
    let rest = c.in-Some.ensures.first.0 in
    let v = c.index.result.now in
    let requests = requests_of t.rows.items in
    let is : IsAwaited t.config w c.args.proxy rec rest v t.resolvers.items t.proxies.items requests = record { parts = c.self.invariant.0.parts; there = there; proxy_is = at; begun = c.in-Some.ensures.first.1 } in
    let row : c.row-row.result ≡ rec.row = c.row-row.ensures in
    let counts : c.as_slice.result.now ≡ t.judged_counts.items = c.as_slice.ensures.value in
    let first : None ≡ slice_get (missing_of rec.row t.judged_counts.items) 0 = c.in_default-first_not_judged.ensures ∙ (λ i. slice_get (missing_of (row i) (counts i)) 0) in
    let none = none_missing t.config w c.args.proxy rec rest v t.resolvers.items t.proxies.items requests is first in
    let version : c.version-version.result ≡ rec.version = c.version-version.ensures.value in
    let resolvers : c.as_slice-resolvers.result.now ≡ t.resolvers.items = c.as_slice-resolvers.ensures.value in
    let replies = c.in_ok-replies.replies in
    let are : replies ≡ kept_replies_at t.resolvers.items c.args.proxy rec.version = c.in_ok-replies.ensures ∙ (λ i. kept_replies_at (resolvers i) c.args.proxy (version i)) in
    let of_world = are_of_the_world t.config w c.args.proxy rec rest v t.resolvers.items t.proxies.items requests replies is none are in
    let done = c.in_ok-finished.ensures.finished in
    let within : c.args.proxy < length t.finished.items = omega (arith, there, c.self.invariant.0.parts.sound.finished) in
    let count : c.index-2.result.now + 1 ≡ suc (slice_index t.finished.items c.args.proxy) = counted t.finished.items c.args.proxy c.index-2.result.now within c.index-2.ensures in
    let after = c.finish_at.new.proxies.items in
    let finished = c.in_ok-finished.finished in
    let dropped = c.drop_requests_at.ensures in
    let rows = c.drop_requests_at.new.rows.items in
    let counted_up = slice_set t.finished.items c.args.proxy (c.index-2.result.now + 1) in
    let world : world_of rows t.moves t.judged_counts.items counted_up ≡ record w { finished = counted_up } = λ i. record { history = dropped.records i; moves = t.moves; received = dropped.received i; judged_counts = t.judged_counts.items; finished = counted_up } in
    let judged = all_judged c.row-row.result t.judged_counts.items (c.in_default-first_not_judged.ensures ∙ (λ i. slice_get (missing_of c.row-row.result (counts i)) 0)) in (
      subst (λ (x : World). IsKept t.config x t.resolvers.items after (requests_of rows) t.last) (sym world)
          (subst (λ (qs : List (List Request)). IsKept t.config (record w { finished = counted_up }) t.resolvers.items after qs t.last) (sym dropped.sent)
          (kept t.config w c.args.proxy (c.index-2.result.now + 1) t.last rec rest v t.resolvers.items t.proxies.items after requests replies finished c.self.invariant.0 is of_world done count)),
      dropped.kept t.judged_counts.items judged c.self.invariant.1,
    )

pub returns-clause-answer : goal.returns-clause-answer
returns-clause-answer c =
    let t = c.self.inside in
    let w = world_of t.rows.items t.moves t.judged_counts.items t.finished.items in
    let there : c.args.proxy < t.config.proxies = omega (arith, c.proxies.ensures.value, c.if-proxies-proxy.false) in
    let at = got t.proxies.items c.args.proxy c.index.result.now (omega (arith, there, c.self.invariant.0.parts.proxy_count)) c.index.ensures in
    let rec = c.in-Some.rec.now in
    let rest = c.in-Some.ensures.first.0 in
    let v = c.index.result.now in
    let requests = requests_of t.rows.items in
    let is : IsAwaited t.config w c.args.proxy rec rest v t.resolvers.items t.proxies.items requests = record { parts = c.self.invariant.0.parts; there = there; proxy_is = at; begun = c.in-Some.ensures.first.1 } in
    let row : c.row-row.result ≡ rec.row = c.row-row.ensures in
    let counts : c.as_slice.result.now ≡ t.judged_counts.items = c.as_slice.ensures.value in
    let first : None ≡ slice_get (missing_of rec.row t.judged_counts.items) 0 = c.in_default-first_not_judged.ensures ∙ (λ i. slice_get (missing_of (row i) (counts i)) 0) in
    let none = none_missing t.config w c.args.proxy rec rest v t.resolvers.items t.proxies.items requests is first in
    let version : c.version-version.result ≡ rec.version = c.version-version.ensures.value in
    let resolvers : c.as_slice-resolvers.result.now ≡ t.resolvers.items = c.as_slice-resolvers.ensures.value in
    let replies = c.in_ok-replies.replies in
    let are : replies ≡ kept_replies_at t.resolvers.items c.args.proxy rec.version = c.in_ok-replies.ensures ∙ (λ i. kept_replies_at (resolvers i) c.args.proxy (version i)) in
    let of_world = are_of_the_world t.config w c.args.proxy rec rest v t.resolvers.items t.proxies.items requests replies is none are in
    let done = c.in_ok-finished.ensures.finished in
    let within : c.args.proxy < length t.finished.items = omega (arith, there, c.self.invariant.0.parts.sound.finished) in
    let count : c.index-2.result.now + 1 ≡ suc (slice_index t.finished.items c.args.proxy) = counted t.finished.items c.args.proxy c.index-2.result.now within c.index-2.ensures in
    let after = c.finish_at.new.proxies.items in
    let finished = c.in_ok-finished.finished in
    answered t.config w c.args.self.now c.args.proxy rec rest v t.resolvers.items t.proxies.items after requests replies finished c.self.view_is is of_world done

pub returns-clause-ok : goal.returns-clause-ok
returns-clause-ok c =
    let t = c.self.inside in
    let w = world_of t.rows.items t.moves t.judged_counts.items t.finished.items in
    let there : c.args.proxy < t.config.proxies = omega (arith, c.proxies.ensures.value, c.if-proxies-proxy.false) in
    let at = got t.proxies.items c.args.proxy c.index.result.now (omega (arith, there, c.self.invariant.0.parts.proxy_count)) c.index.ensures in
    let rec = c.in-Some.rec.now in
    let rest = c.in-Some.ensures.first.0 in
    let v = c.index.result.now in
    let requests = requests_of t.rows.items in
    let is : IsAwaited t.config w c.args.proxy rec rest v t.resolvers.items t.proxies.items requests = record { parts = c.self.invariant.0.parts; there = there; proxy_is = at; begun = c.in-Some.ensures.first.1 } in
    let row : c.row-row.result ≡ rec.row = c.row-row.ensures in
    let counts : c.as_slice.result.now ≡ t.judged_counts.items = c.as_slice.ensures.value in
    let first : None ≡ slice_get (missing_of rec.row t.judged_counts.items) 0 = c.in_default-first_not_judged.ensures ∙ (λ i. slice_get (missing_of (row i) (counts i)) 0) in
    let none = none_missing t.config w c.args.proxy rec rest v t.resolvers.items t.proxies.items requests is first in
    let version : c.version-version.result ≡ rec.version = c.version-version.ensures.value in
    let resolvers : c.as_slice-resolvers.result.now ≡ t.resolvers.items = c.as_slice-resolvers.ensures.value in
    let replies = c.in_ok-replies.replies in
    let are : replies ≡ kept_replies_at t.resolvers.items c.args.proxy rec.version = c.in_ok-replies.ensures ∙ (λ i. kept_replies_at (resolvers i) c.args.proxy (version i)) in
    let of_world = are_of_the_world t.config w c.args.proxy rec rest v t.resolvers.items t.proxies.items requests replies is none are in
    let done = c.in_ok-finished.ensures.finished in
    let within : c.args.proxy < length t.finished.items = omega (arith, there, c.self.invariant.0.parts.sound.finished) in
    let count : c.index-2.result.now + 1 ≡ suc (slice_index t.finished.items c.args.proxy) = counted t.finished.items c.args.proxy c.index-2.result.now within c.index-2.ensures in
    let after = c.finish_at.new.proxies.items in
    let finished = c.in_ok-finished.finished in
    let dropped = c.drop_requests_at.ensures in
    let rows = c.drop_requests_at.new.rows.items in
    let counted_up = slice_set t.finished.items c.args.proxy (c.index-2.result.now + 1) in
    let world : world_of rows t.moves t.judged_counts.items counted_up ≡ record w { finished = counted_up } = λ i. record { history = dropped.records i; moves = t.moves; received = dropped.received i; judged_counts = t.judged_counts.items; finished = counted_up } in
    ap (λ (x : World). record { config = t.config; world = x }) world
    ∙ event_after t.config w _ c.args.self.now c.args.proxy c.self.view_is (world_is t.config w c.args.proxy (c.index-2.result.now + 1) rec rest v t.resolvers.items t.proxies.items after requests replies finished is of_world done count)
