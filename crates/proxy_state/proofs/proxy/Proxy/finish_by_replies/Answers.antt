-- The proxy finished its earliest record, and keeps what every proxy keeps.
use Rattle.std.proofs.Common.{◌≡◌, ◌++◌, refl, ap, subst, map, rules}
use Rattle.model.specs.Finishing.{ProxyView, HasFinished}
use Rattle.proxy_state.specs.Begun.{record_of}
use Rattle.proxy_state.proofs.FinishedProxies.{AreFinishing, kept_finish, has_finished, later_left, some_begun}
use Rattle.proxy_state.proofs.proxy.Proxy.finish_by_replies.Goals as goal

-- the proxy as it was
abbrev before : goal.After-drop-learned-3 → ProxyView
before c = record {
  number = c.self.inside.number;
  config = c.self.inside.config;
  owned = c.self.inside.owners;
  moved = c.self.inside.moved;
  last_begun = c.self.inside.last_begun;
  begun = map record_of c.self.inside.begun.items;
  version = c.self.inside.version;
  journal = c.self.inside.journal.items;
}

-- and as it is afterwards
abbrev after : goal.After-drop-learned-3 → ProxyView
after c = record (before c) { begun = map record_of c.pop_front.new.self.items; version = c.version-version.result; journal = c.push_reserved.new.self.items }

appended : (c : goal.After-drop-learned-3) → c.append.new.self.items ≡ c.self.inside.journal.items ++ c.in_ok-learned.learned.told.items
appended c = search rules

finishing : (c : goal.After-drop-learned-3) → AreFinishing (before c) c.self.inside.begun.items c.pop_front.new.self.items c.push_reserved.new.self.items c.self.inside.metadata c.finish_batch.new.metadata c.index_mut-begun.result.now c.in_ok-learned.learned
finishing c =
    record {
      some = some_begun c.self.inside.begun.items c.args.self.now c.args.replies.now c.in_ok-learned.learned (ap (λ (v : ProxyView). v.begun) c.self.view_is) c.in_ok-learned.ensures.learned;
      one_is = search rules;
      left_is = later_left c.self.inside.begun.items c.pop_front.new.self.items c.finish_batch.new.begun (search rules);
      grown_is = search rules;
      after_is = search rules;
    }

pub invariant_of-self-2 : goal.invariant_of-self-2
invariant_of-self-2 c =
    kept_finish (before c) _ _ _ _ _ _ _ _ _ _ _ c.self.invariant (finishing c) c.version-version.ensures.value

pub returns-clause-finished : goal.returns-clause-finished
returns-clause-finished c =
    subst (λ (v : ProxyView). HasFinished v (after c) c.args.replies.now c.in_ok-finished.finished) c.self.view_is
    (has_finished (before c) c.version-version.result _ _ _ _ _ c.index_mut-begun.result.now c.in_ok-learned.learned c.args.replies.now c.in_ok-finished.finished (finishing c) refl c.self.invariant.metadata_is c.version-version.ensures.value (rw c.self.view_is c.in_ok-learned.ensures.learned) (search rules))
