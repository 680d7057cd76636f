-- One proxy more has an end of the inbox; and when all have one, the inbox is added.
use Rattle.std.proofs.Common.{◌≡◌, ◌+◌, ◌<◌, ◌++◌, [], ◌∷◌, ℕ, List, length, set, refl, sym, ap, ◌∙◌, subst, arith}
use Rattle.std.proofs.lemmas.Option.{slice_get_read}
use Rattle.inboxes.specs.Blanks.{AreBlankSenders, BlankInboxView, BlankSendersView, BlankSenderView}
use Rattle.inboxes.specs.Places.{Place}
use Rattle.inboxes.proofs.Rows.{AreRowsTo, rows_step, rows_end}
use Rattle.inboxes.proofs.blank_inboxes.add_inbox.Goals as goal

pub push-requires : goal.push-requires
push-requires g c =
    let rows = c.loop-proxy.rows.items in
    let k = c.loop-proxy.proxy in
    let row = c.index_mut.result.now in
    let within : k < length rows = omega arith in
    let at = slice_get_read rows (length rows) k row refl within c.index_mut.ensures.value in
    ap (λ (s : BlankSenderView). s.proxy) c.in_ok-sender.ensures.0
    ∙ sym (ap (λ (r : BlankSendersView). r.proxy) (c.loop-proxy.invariant.rows.1 k row at))

pub loop-proxy-preserved : goal.loop-proxy-preserved
loop-proxy-preserved g c =
    let proxies = g.N.Naming.cells.config.proxies in
    let places = c.args.ends.now.items in
    let place = c.loop-proxy.inbox.place in
    let rows = c.loop-proxy.rows.items in
    let k = c.loop-proxy.proxy in
    let row = c.index_mut.result.now in
    let after = c.push.new.self in
    let within : k < length rows = omega arith in
    let at = slice_get_read rows (length rows) k row refl within c.index_mut.ensures.value in
    let is : after ≡ record { proxy = row.proxy; places = row.places ++ place ∷ [] } =
    c.in_ok-push.ensures
    ∙ ap (λ (s : BlankSenderView). record { proxy = row.proxy; places = row.places ++ s.place ∷ [] }) c.in_ok-sender.ensures.0 in
    record {
      rows = subst (λ (p : Place). AreRowsTo (k + 1) proxies places p (set rows k after))
          (sym (ap (λ (b : BlankInboxView). b.place) c.in_ok-sender.ensures.1))
          (rows_step proxies k places place rows row after c.loop-proxy.invariant.rows at is);
      made = ap (λ (b : BlankInboxView). b.made) c.in_ok-sender.ensures.1;
    }

pub returns-clause-rows : goal.returns-clause-rows
returns-clause-rows g c =
    let proxies = g.N.Naming.cells.config.proxies in
    let places = c.args.ends.now.items in
    let place = c.loop-proxy.inbox.place in
    let rows = c.loop-proxy.rows.items in
    let all : c.loop-proxy.proxy ≡ proxies = omega arith in
    let grown : c.push-2.new.self.items ≡ places ++ place ∷ [] =
    c.in_ok-push-2.ensures.items ∙ ap (λ (p : Place). places ++ p ∷ []) c.into_end.ensures in
    subst (λ (ps : List Place). AreBlankSenders proxies ps rows) (sym grown)
    (rows_end proxies places place rows (subst (λ (n : ℕ). AreRowsTo n proxies places place rows) all c.loop-proxy.invariant.rows))
