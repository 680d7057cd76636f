-- How the requests that a resolver of a world has judged grow.
use Rattle.std.proofs.Common.{◌≡◌, refl, sym, ap, ◌∙◌, ℕ, zero, suc, ◌<◌, List, [], ◌∷◌, ◌++◌, map, length, take, Bool, true, false, nat_le, nat_lt, if◌then◌else◌, slice_get, slice_index, slice_set, Option, Some, None, arith}
use Rattle.std.proofs.lemmas.Bool.{ltb-false}
use Rattle.std.proofs.lemmas.List.{map-append, take-append-le}
use Rattle.std.proofs.lemmas.Option.{slice_get_within}
use Rattle.model.specs.Configs.{Config, version_limit}
use Rattle.model.specs.declared.reply.Reply.{Reply}
use Rattle.model.specs.Records.{Record, last_version, records_of_proxy}
use Rattle.model.specs.Shares.{each_below}
use Rattle.model.specs.Journal.{history_verdicts}
use Rattle.model.specs.Requests.{request}
use Rattle.model.specs.Offers.{sent_request, judged_requests}
use Rattle.model.specs.World.{World, Event, Sequence, MoveRange, Offer, Finish, Handled, Judged, Again, Early, GivenUp, WrongResolver, IsSound, next_record, reply_of, acknowledged, handle_offer_at, handle_offer, missing_replies, finish_record, handle_finish, handle_event, refuse, finished_version}
use Rattle.model.proofs.Resolvers.Offers.{judged_within, offer_is}
use Rattle.model.proofs.Verdicts.Places.{row_at, slice_get-take}
use Rattle.model.proofs.Resolvers.Requests.{take_suc}
use Rattle.model.proofs.Worlds.Runs.{set_other, set_same}

-- the same parts of two worlds give the same requests
same_judged : (config : Config) (w v : World) (r : ℕ) → v.history ≡ w.history → v.received ≡ w.received → slice_index v.judged_counts r ≡ slice_index w.judged_counts r → judged_requests config v r ≡ judged_requests config w r
unfolding judged_requests
same_judged config w v r history received count = λ i. map (λ (rec : Record). request config rec (slice_index (received i) rec.row) r) (take (count i) (history i))

pub map_each : {X Y : Type 0} (f g : X → Y) (xs : List X) → ((k : ℕ) (x : X) → slice_get xs k ≡ Some x → f x ≡ g x) → map f xs ≡ map g xs
map_each f g [] each = refl
map_each f g (x ∷ xs) each = let first = each 0 x refl in let rest = map_each f g xs (λ k y at. each (suc k) y at) in λ i. first i ∷ rest i

pub slice_index-append : (ns ms : List ℕ) (i : ℕ) → i < length ns → slice_index (ns ++ ms) i ≡ slice_index ns i
slice_index-append [] ms i within = absurd (omega arith)
slice_index-append (n ∷ ns) ms zero within = refl
slice_index-append (n ∷ ns) ms (suc i) within = slice_index-append ns ms i (omega arith)

-- ---- other events

either_judged : (config : Config) (w : World) (r : ℕ) (t : Bool) (first second : Handled) → judged_requests config first.world r ≡ judged_requests config w r → judged_requests config second.world r ≡ judged_requests config w r → judged_requests config (if t then first else second).world r ≡ judged_requests config w r
either_judged config w r true first second one other = one
either_judged config w r false first second one other = other

kept_by_record : (config : Config) (w : World) (rec : Record) (received r : ℕ) → IsSound config w → r < config.resolvers → judged_requests config (record w { history = w.history ++ rec ∷ []; received = w.received ++ received ∷ [] }) r ≡ judged_requests config w r
unfolding judged_requests
kept_by_record config w rec received r sound there =
    ap (map (λ (s : Record). request config s (slice_index (w.received ++ received ∷ []) s.row) r)) (take-append-le (slice_index w.judged_counts r) w.history (rec ∷ []) (judged_within config w r sound there))
    ∙ map_each (λ (s : Record). request config s (slice_index (w.received ++ received ∷ []) s.row) r) (sent_request config w r) (take (slice_index w.judged_counts r) w.history)
    (λ k s at.
    let there : slice_get w.history k ≡ Some s = (slice_get-take w.history (slice_index w.judged_counts r) k s at).1 in
    let within : k < length w.history = slice_get_within w.history k s there in
    let row : s.row ≡ k = row_at config w.history k s sound.sequencer.history there in
    ap (λ (n : ℕ). request config s n r) (slice_index-append w.received (received ∷ []) s.row (omega (arith, within, row, sound.received))))

kept_by_offer : (config : Config) (w : World) (row s r : ℕ) (found : Option Record) → (r ≡ s → ⊥) → judged_requests config (handle_offer config w row s found).world r ≡ judged_requests config w r
kept_by_offer config w row s r None other = refl
kept_by_offer config w row s r (Some rec) other =
    either_judged config w r (nat_le config.resolvers s) _ _ refl
    (either_judged config w r (nat_lt (slice_index w.judged_counts s) rec.row) _ _ refl
    (either_judged config w r (nat_lt rec.row (slice_index w.judged_counts s)) _ _
    (either_judged config w r (nat_le rec.version (acknowledged w (slice_index w.judged_counts s) rec.proxy)) _ _ refl refl)
    (same_judged config w (record w { judged_counts = slice_set w.judged_counts s (suc (slice_index w.judged_counts s)) }) r refl refl (set_other w.judged_counts s (suc (slice_index w.judged_counts s)) r other))))

pub others_leave : (config : Config) (w : World) (event : Event) (r : ℕ) → IsSound config w → r < config.resolvers → ((row : ℕ) → event ≡ Offer row r → ⊥) → judged_requests config (handle_event config w event).world r ≡ judged_requests config w r
unfolding handle_event
others_leave config w (Sequence p batch) r sound there other =
    either_judged config w r (nat_le config.proxies p) _ _ refl
    (either_judged config w r (nat_le version_limit (next_record config w p batch).version) _ _ refl
    (kept_by_record config w (next_record config w p batch) (finished_version w p) r sound there))
others_leave config w (MoveRange range dest) r sound there other = either_judged config w r (nat_le config.resolvers dest) _ _ refl (same_judged config w _ r refl refl refl)
others_leave config w (Offer row s) r sound there other = kept_by_offer config w row s r (slice_get w.history row) (λ same. other row (ap (Offer row) (sym same)))
others_leave config w (Finish p) r sound there other = either_judged config w r (nat_le config.proxies p) _ _ refl (by (slice_get (records_of_proxy p w.history) (slice_index w.finished p)))
  where
    waits : (rec : Record) (waiting : List ℕ) → judged_requests config (finish_record config w p rec waiting).world r ≡ judged_requests config w r
    waits rec [] = same_judged config w (record w { finished = slice_set w.finished p (suc (slice_index w.finished p)) }) r refl refl refl
    waits rec (s ∷ ss) = refl

    by : (found : Option Record) → judged_requests config (handle_finish config w p found).world r ≡ judged_requests config w r
    by None = refl
    by (Some rec) = waits rec (missing_replies w rec.row (each_below config.resolvers))

-- ---- an Offer to the resolver

pub one_more : (config : Config) (w : World) (row r : ℕ) (rec : Record) → IsSound config w → r < config.resolvers → slice_get w.history row ≡ Some rec → slice_index w.judged_counts r ≡ row →
    judged_requests config (record w { judged_counts = slice_set w.judged_counts r (suc (slice_index w.judged_counts r)) }) r ≡ judged_requests config w r ++ sent_request config w r rec ∷ []
unfolding judged_requests
one_more config w row r rec sound there at next =
    ap (λ (n : ℕ). map (sent_request config w r) (take n w.history)) (set_same w.judged_counts r (suc (slice_index w.judged_counts r)) (omega (arith, there, sound.judged_counts)))
    ∙ ap (map (sent_request config w r)) (sym (take_suc w.history (slice_index w.judged_counts r) rec (ap (slice_get w.history) next ∙ at)))
    ∙ map-append (sent_request config w r) (take (slice_index w.judged_counts r) w.history) (rec ∷ [])

pub judged_adds : (config : Config) (w : World) (row r : ℕ) (rec : Record) (reply : Reply) → IsSound config w → r < config.resolvers → slice_get w.history row ≡ Some rec → (handle_event config w (Offer row r)).answer ≡ Judged reply →
    judged_requests config (handle_event config w (Offer row r)).world r ≡ judged_requests config w r ++ sent_request config w r rec ∷ []
judged_adds config w row r rec reply sound there at answered =
    ap (λ (handled : Handled). judged_requests config handled.world r) is
    ∙ by (nat_lt (slice_index w.judged_counts r) rec.row) (nat_lt rec.row (slice_index w.judged_counts r)) (nat_le rec.version (acknowledged w (slice_index w.judged_counts r) rec.proxy)) refl refl (ap (λ (handled : Handled). handled.answer) (sym is) ∙ answered)
  where
    own : Reply
    own = reply_of config (history_verdicts config w.history) r (take row w.history) rec

    is : handle_event config w (Offer row r) ≡ handle_offer_at w (slice_index w.judged_counts r) r own
    is = offer_is config w row r rec there at

    by : (early again acknowledging : Bool) → nat_lt (slice_index w.judged_counts r) rec.row ≡ early → nat_lt rec.row (slice_index w.judged_counts r) ≡ again →
        let handled : Handled =
        if early then refuse w (Early (last_version (take (slice_index w.judged_counts r) w.history)))
        else if again then (if acknowledging then refuse w (GivenUp (acknowledged w (slice_index w.judged_counts r) rec.proxy)) else record { world = w; answer = Again own })
        else record { world = record w { judged_counts = slice_set w.judged_counts r (suc (slice_index w.judged_counts r)) }; answer = Judged own } in
        handled.answer ≡ Judged reply → judged_requests config handled.world r ≡ judged_requests config w r ++ sent_request config w r rec ∷ []
    by true again acknowledging first second told = absurd (cc)
    by false true true first second told = absurd (cc)
    by false true false first second told = absurd (cc)
    by false false acknowledging first second told =
        let row_is : rec.row ≡ row = row_at config w.history row rec sound.sequencer.history at in
        one_more config w row r rec sound there at (omega (arith, row_is, ltb-false (slice_index w.judged_counts r) rec.row first, ltb-false rec.row (slice_index w.judged_counts r) second))

pub others_change_nothing : (config : Config) (w : World) (row r : ℕ) → ((reply : Reply) → (handle_event config w (Offer row r)).answer ≡ Judged reply → ⊥) → (handle_event config w (Offer row r)).world ≡ w
unfolding handle_event
others_change_nothing config w row r unjudged = by (slice_get w.history row) unjudged
  where
    own : Record → Reply
    own rec = reply_of config (history_verdicts config w.history) r (take row w.history) rec

    tests : (rec : Record) (unknown early again acknowledging : Bool) →
        let handled : Handled =
        if unknown then refuse w WrongResolver
        else if early then refuse w (Early (last_version (take (slice_index w.judged_counts r) w.history)))
        else if again then (if acknowledging then refuse w (GivenUp (acknowledged w (slice_index w.judged_counts r) rec.proxy)) else record { world = w; answer = Again (own rec) })
        else record { world = record w { judged_counts = slice_set w.judged_counts r (suc (slice_index w.judged_counts r)) }; answer = Judged (own rec) } in
        ((reply : Reply) → handled.answer ≡ Judged reply → ⊥) → handled.world ≡ w
    tests rec true early again acknowledging none = refl
    tests rec false true again acknowledging none = refl
    tests rec false false true true none = refl
    tests rec false false true false none = refl
    tests rec false false false acknowledging none = absurd (none (own rec) refl)

    by : (found : Option Record) → ((reply : Reply) → (handle_offer config w row r found).answer ≡ Judged reply → ⊥) → (handle_offer config w row r found).world ≡ w
    by None none = refl
    by (Some rec) none =
        tests rec (nat_le config.resolvers r) (nat_lt (slice_index w.judged_counts r) rec.row) (nat_lt rec.row (slice_index w.judged_counts r)) (nat_le rec.version (acknowledged w (slice_index w.judged_counts r) rec.proxy)) none
