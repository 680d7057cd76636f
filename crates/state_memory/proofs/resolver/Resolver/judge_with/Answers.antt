-- What judging a request leaves.
use Rattle.std.proofs.Common.{rules, ◌≡◌, ◌∙◌, refl, List, sym, ap, subst, [], ◌∷◌, ◌++◌, map, length, slice_get, slice_set, arith}
use Rattle.std.specs.Prelude.{Ok, Err, IfErr}
use Rattle.model.specs.declared.reply.Reply.{Reply}
use Rattle.model.specs.declared.verdict.Verdict.{Verdict}
use Rattle.state_memory.specs.Order.{AreInOrder}
use Rattle.model.specs.ResolverMemory.{ResolverView, proxy_after, reached_by_all}
use Rattle.model.specs.Requests.{reply_state_of_mark}
use Rattle.model.specs.WriteHistories.{WriteHistoryView}
use Rattle.model.specs.Laws.Resolvers.{share_of}
use Rattle.share_judge.specs.Answers.{AreVerdicts, GainsShare, IfNotKept}
use Rattle.state_memory.specs.Answers.{AreVerdictsAfterJudged}
use Rattle.state_memory.specs.Kept.{all_kept, rows_above, reply_of}
use Rattle.state_memory.proofs.JudgedRequests.{place_within, version_above, kept_rows_increase, kept_replies_increase, rows_increase_more, order_after, next_there, noted_count, judged_reply, judged_memory, judged_forgets, as_many_verdicts, row_made, are_after_judged, not_kept_so}
use Rattle.state_memory.proofs.resolver.Resolver.judge_with.Goals as goal

pub prepare-requires-clause-there : goal.prepare-requires-clause-there
prepare-requires-clause-there g c = place_within c.args.self.now c.args.request.now c.self.inside.proxies.items c.requires.next (ap (λ (v : ResolverView). v.proxies) c.self.view_is)

pub prepare-requires-clause-order : goal.prepare-requires-clause-order
prepare-requires-clause-order g c = kept_rows_increase c.self.inside.version c.self.inside.rows.items (all_kept c.self.inside.proxies.items) c.self.invariant.1

pub judge_with-requires-clause-above : goal.judge_with-requires-clause-above
judge_with-requires-clause-above g c =
    let above = version_above c.args.self.now c.args.request.now c.self.inside.version c.self.inside.history.last c.requires.next (ap (λ (v : ResolverView). v.version) c.self.view_is) c.self.invariant.0 in
    omega (arith, above, c.version.ensures)

pub keep_reply-requires-clause-there : goal.keep_reply-requires-clause-there
keep_reply-requires-clause-there g c = place_within c.args.self.now c.args.request.now c.prepare.new.proxies.items c.requires.next (c.prepare.ensures.proxies ∙ ap (λ (v : ResolverView). v.proxies) c.self.view_is)

pub keep_reply-requires-clause-order : goal.keep_reply-requires-clause-order
keep_reply-requires-clause-order g c = kept_replies_increase c.self.inside.version c.self.inside.rows.items (all_kept c.self.inside.proxies.items) c.prepare.new.proxies.items c.self.invariant.1 c.prepare.ensures.proxies

pub forget_rows-requires : goal.forget_rows-requires
forget_rows-requires g c =
    let new = (version_above c.args.self.now c.args.request.now c.self.inside.version c.self.inside.version c.requires.next (ap (λ (v : ResolverView). v.version) c.self.view_is) refl) in
    rows_increase_more c.self.inside.version c.self.inside.rows.items c.push_back_reserved.new.self.items (all_kept c.self.inside.proxies.items) (record { version = c.version-2.result; states = c.from.result }) c.self.invariant.1 (omega (arith, new, c.version-2.ensures)) (c.push_back_reserved.ensures.items ∙ ap (λ rows. rows ++ (record { version = c.version-2.result; states = c.from.result }) ∷ []) c.prepare.ensures.rows)

pub invariant_of-self-2 : goal.invariant_of-self-2
invariant_of-self-2 g c =
    let new = (version_above c.args.self.now c.args.request.now c.self.inside.version c.self.inside.version c.requires.next (ap (λ (v : ResolverView). v.version) c.self.view_is) refl) in
    let found = next_there c.args.self.now c.args.request.now c.prepare.new.proxies.items c.requires.next (c.prepare.ensures.proxies ∙ ap (λ (v : ResolverView). v.proxies) c.self.view_is) in
    let order = subst (λ kept. AreInOrder c.self.inside.version c.self.inside.rows.items kept) (sym c.prepare.ensures.proxies) c.self.invariant.1 in (
      c.forget.ensures.last ∙ c.in_ok-verdicts.ensures.last ∙ c.version.ensures ∙ sym c.version-self-inside.ensures,
      subst (λ n. AreInOrder n c.forget_rows.new.rows.items (all_kept c.keep_reply.new.proxies.items)) (sym c.version-self-inside.ensures)
          (order_after c.self.inside.version c.reached_by_all.result c.self.inside.rows.items c.push_back_reserved.new.self.items c.forget_rows.new.rows.items (all_kept c.prepare.new.proxies.items) (all_kept c.keep_reply.new.proxies.items) found.0 c.args.request.now (record { version = c.version-2.result; states = c.from.result }) c.reply-noted.result order new c.version-2.ensures (ap (λ (r : Reply). r.version) c.reply-noted.ensures) (c.push_back_reserved.ensures.items ∙ ap (λ rows. rows ++ (record { version = c.version-2.result; states = c.from.result }) ∷ []) c.prepare.ensures.rows) c.forget_rows.ensures found.1 (c.keep_reply.ensures found.0 found.1)),
    )

pub returns-clause-judged : goal.returns-clause-judged
returns-clause-judged g c =
    record {
      replied = λ judged stands.
          let kept = ap (λ (v : ResolverView). v.proxies) c.self.view_is in
          let history = ap (λ (v : ResolverView). v.written) c.self.view_is in
          let found = next_there c.args.self.now c.args.request.now c.self.inside.proxies.items c.requires.next kept in
          let one = found.0 in
          let here = found.1 in
          let at = ap (λ xs. slice_get xs c.args.request.now.proxy) (sym kept) ∙ here in
          let s_is : (record { version = c.version.result; parts = c.share.result.now }) ≡ share_of c.args.request.now = λ k. record { version = c.version.ensures k; parts = c.share.ensures.value k } in
          let are = subst (λ s. AreVerdicts c.args.self.now.written s c.in_ok-verdicts.verdicts) s_is (subst (λ w. AreVerdicts w (record { version = c.version.result; parts = c.share.result.now }) c.in_ok-verdicts.verdicts) history c.in_ok-verdicts.ensures.verdicts) in
          let told = c.in-Ok.ensures.made.unseen one here ∙ ap (rows_above one.last) (ap (λ (v : ResolverView). v.rows) c.self.view_is) in
          c.reply.ensures ∙ judged_reply c.args.self.now one judged c.args.request.now c.in_ok-verdicts.verdicts c.in-Ok.field-0.unseen stands at are told;
      gains = λ judged stands.
          let kept = ap (λ (v : ResolverView). v.proxies) c.self.view_is in
          let history = ap (λ (v : ResolverView). v.written) c.self.view_is in
          let found = next_there c.args.self.now c.args.request.now c.self.inside.proxies.items c.requires.next kept in
          let one = found.0 in
          let here = found.1 in
          let at = ap (λ xs. slice_get xs c.args.request.now.proxy) (sym kept) ∙ here in
          let s_is : (record { version = c.version.result; parts = c.share.result.now }) ≡ share_of c.args.request.now = λ k. record { version = c.version.ensures k; parts = c.share.ensures.value k } in
          let are = subst (λ s. AreVerdicts c.args.self.now.written s c.in_ok-verdicts.verdicts) s_is (subst (λ w. AreVerdicts w (record { version = c.version.result; parts = c.share.result.now }) c.in_ok-verdicts.verdicts) history c.in_ok-verdicts.ensures.verdicts) in
          let gains = subst (λ s. GainsShare c.args.self.now.written s c.judge_with.new.self) s_is (subst (λ w. GainsShare w (record { version = c.version.result; parts = c.share.result.now }) c.judge_with.new.self) history c.in_ok-verdicts.ensures.stands) in
          let rows = ap (λ (v : ResolverView). v.rows) c.self.view_is in
          let told = c.in-Ok.ensures.made.unseen one here ∙ ap (rows_above one.last) rows in
          let row_is = row_made c.args.request.now c.in_ok-verdicts.verdicts c.version-2.result c.from.result c.version-2.ensures (c.from.ensures ∙ c.judge_states.ensures ∙ ap (λ vs. map (reply_state_of_mark c.args.request.now.share vs) c.args.request.now.states) c.as_slice-2.ensures) in
          let many = as_many_verdicts c.args.self.now judged c.args.request.now c.in_ok-verdicts.verdicts stands are in
          let reply_is = c.reply-noted.ensures ∙ (λ k. reply_of c.args.request.now ((c.from-2.ensures ∙ c.overwrite_verdicts.ensures (c.in-Ok.ensures.made.places ∙ sym many ∙ ap length (sym c.as_slice.ensures)) ∙ c.as_slice.ensures) k) ((c.in-Ok.ensures.made.copy ∙ told) k)) in
          judged_memory c.args.self.now _ one judged c.args.request.now c.in_ok-verdicts.verdicts c.reply-noted.result (record { version = c.version-2.result; states = c.from.result }) c.judge_with.new.self _ stands c.requires.next at are gains c.forget.ensures.stands
          (c.forget.ensures.window ∙ c.in_ok-verdicts.ensures.window ∙ ap (λ (w : WriteHistoryView). w.window) history)
          (ap (λ (v : ResolverView). v.number) c.self.view_is) c.version-self-inside.ensures row_is reply_is
          (c.keep_reply.ensures one (ap (λ xs. slice_get xs c.args.request.now.proxy) c.prepare.ensures.proxies ∙ here) ∙ ap (λ xs. slice_set xs c.args.request.now.proxy (proxy_after one c.args.request.now c.reply-noted.result)) (c.prepare.ensures.proxies ∙ kept))
          (c.forget_rows.ensures ∙ (λ k. rows_above ((c.reached_by_all.ensures ∙ ap (λ raw. reached_by_all (all_kept raw)) c.deref.ensures.value) k) ((c.push_back_reserved.ensures.items ∙ ap (λ xs. xs ++ (record { version = c.version-2.result; states = c.from.result }) ∷ []) (c.prepare.ensures.rows ∙ rows)) k)));
      forgets = λ judged stands.
          let history = ap (λ (v : ResolverView). v.written) c.self.view_is in
          let s_is : (record { version = c.version.result; parts = c.share.result.now }) ≡ share_of c.args.request.now = λ k. record { version = c.version.ensures k; parts = c.share.ensures.value k } in
          let gains = subst (λ s. GainsShare c.args.self.now.written s c.judge_with.new.self) s_is (subst (λ w. GainsShare w (record { version = c.version.result; parts = c.share.result.now }) c.judge_with.new.self) history c.in_ok-verdicts.ensures.stands) in
          let above = version_above c.args.self.now c.args.request.now c.self.inside.version c.self.inside.history.last c.requires.next (ap (λ (v : ResolverView). v.version) c.self.view_is) c.self.invariant.0 in
          let last = ap (λ (w : WriteHistoryView). w.last) history in
          judged_forgets c.args.self.now judged c.args.request.now c.judge_with.new.self _ _ stands gains c.forget.ensures.stands (omega (arith, above, last)) c.version-3.ensures
          (c.in_ok-verdicts.ensures.last ∙ c.version.ensures)
          (c.in_ok-verdicts.ensures.window ∙ ap (λ (w : WriteHistoryView). w.window) history)
          c.forget.ensures.window;
      version = c.version-self-inside.ensures;
      number = ap (λ (v : ResolverView). v.number) c.self.view_is;
      proxies =
          let found = next_there c.args.self.now c.args.request.now c.prepare.new.proxies.items c.requires.next (c.prepare.ensures.proxies ∙ ap (λ (v : ResolverView). v.proxies) c.self.view_is) in
          noted_count (all_kept c.prepare.new.proxies.items) (all_kept c.keep_reply.new.proxies.items) found.0 c.args.request.now c.reply-noted.result (c.keep_reply.ensures found.0 found.1) ∙ ap length (c.prepare.ensures.proxies ∙ ap (λ (v : ResolverView). v.proxies) c.self.view_is);
      window = c.forget.ensures.window ∙ c.in_ok-verdicts.ensures.window ∙ ap (λ (v : ResolverView). v.written.window) c.self.view_is;
    }

pub returns-clause-kept : goal.returns-clause-kept
returns-clause-kept g c =
    subst (λ vs. goal.F-post g c.args.keep vs (Ok c.in_ok-verdicts.kept)) (ap (λ (r : Reply). r.verdicts) (sym c.reply.ensures)) c.in_ok-verdicts.ensures.kept

pub returns-in_err-verdicts-clause-why : goal.returns-in_err-verdicts-clause-why
returns-in_err-verdicts-clause-why g c =
    let history = ap (λ (v : ResolverView). v.written) c.self.view_is in
    let s_is : (record { version = c.version.result; parts = c.share.result.now }) ≡ share_of c.args.request.now = λ k. record { version = c.version.ensures k; parts = c.share.ensures.value k } in
    let is : c.from_residual.result ≡ Err c.in_err-verdicts.field-0.0 = search rules in
    subst (λ r. IfErr r (λ error. IfNotKept error (λ reason. (x : List Verdict) × AreVerdictsAfterJudged c.args.self.now c.args.request.now x × goal.F-post g c.args.keep x (Err reason)))) (sym is)
    (not_kept_so c.in_err-verdicts.field-0.0
    (λ reason. (x : List Verdict) × AreVerdicts c.self.inside.history (record { version = c.version.result; parts = c.share.result.now }) x × goal.F-post g c.args.keep x (Err reason))
    (λ reason. (x : List Verdict) × AreVerdictsAfterJudged c.args.self.now c.args.request.now x × goal.F-post g c.args.keep x (Err reason))
    (λ reason w. (w.0, are_after_judged c.args.self.now c.args.request.now w.0 (subst (λ s. AreVerdicts c.args.self.now.written s w.0) s_is (subst (λ h. AreVerdicts h (record { version = c.version.result; parts = c.share.result.now }) w.0) history w.1)), w.2))
    c.in_err-verdicts.ensures.why)
