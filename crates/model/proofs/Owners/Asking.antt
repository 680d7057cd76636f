-- Maps of owners that ask as some moves do: one more move, a longer forgotten front, and owners that make no difference.
use Rattle.std.proofs.Common.{◌≡◌, ℕ, ◌≤◌, max, refl, sym, ap, ap₂, ◌∙◌, Bool, true, false, not, ◌&&◌, ◌||◌, cond, nat_eq, nat_lt, List, [], ◌∷◌, ◌++◌, arith}
use Rattle.system_keys.specs.Keys.{Key, Range, holds}
use Rattle.model.specs.Owners.{Owner, owners, is_last, none_dated_below, walk_visits, trimmed, asks_read, asks_write}
use Rattle.model.specs.Shares.{each_below}
use Rattle.model.specs.OwnerMaps.{owners_left, last_date, owner_of}
use Rattle.model.specs.OwnerMaps.{StandingMapsAskAlike, MoveAddsOneToAsk, ForgettingAsksAlike, ReadersAreThoseAsked, WritersAreThoseAsked}
use Rattle.model.proofs.Owners.MadeMoves.{one_move_more}
use Rattle.model.proofs.Owners.Maps.{visits_trimmed, last_trimmed, in_order_more, last_date_more, filter_alike, same_reads, same_writes, same_visits, same_last}

pub standing_asks : StandingMapsAskAlike
standing_asks map moves stands =
    record {
      in_order = stands.in_order;
      last = stands.last;
      visits = λ bound r key above. same_visits map moves bound r key stands above;
      last_owner = λ r key. same_last map moves r key stands;
    }

-- ---- the same resolvers are asked

pub asked_readers : ReadersAreThoseAsked
asked_readers map moves bound range asks =
    filter_alike (λ r. asks_read map.moves (max bound map.oldest) r range) (λ r. asks_read moves (max bound map.oldest) r range) (each_below map.resolvers)
    (λ r. same_reads map.moves moves (max bound map.oldest) r range (λ key. asks.visits (max bound map.oldest) r key (omega arith)))

pub asked_writers : WritersAreThoseAsked
asked_writers map moves range asks =
    filter_alike (λ r. asks_write map.moves r range) (λ r. asks_write moves r range) (each_below map.resolvers)
    (λ r. same_writes map.moves moves r range (λ key. asks.last_owner r key))

-- ---- one more owner behind a list

none_behind : (bound : ℕ) (list : List Owner) (p : Owner) → none_dated_below bound (list ++ p ∷ []) ≡ (none_dated_below bound list && not (nat_lt p.date bound))
none_behind bound [] p = by (nat_lt p.date bound)
  where
    by : (t : Bool) → (not t && true) ≡ not t
    by true = refl
    by false = refl
none_behind bound (o ∷ list) p = by (not (nat_lt o.date bound)) (none_behind bound list p)
  where
    by : (t : Bool) → none_dated_below bound (list ++ p ∷ []) ≡ (none_dated_below bound list && not (nat_lt p.date bound)) → (t && none_dated_below bound (list ++ p ∷ [])) ≡ (t && none_dated_below bound list && not (nat_lt p.date bound))
    by true e = e
    by false e = refl

-- a walk that begins one owner later
visits_behind : (bound r : ℕ) (list : List Owner) (p : Owner) → walk_visits bound r (list ++ p ∷ []) ≡ ((walk_visits bound r list && not (nat_lt p.date bound)) || nat_eq p.resolver r)
visits_behind bound r [] p = by (nat_eq p.resolver r)
  where
    by : (t : Bool) → ((t && true) || false) ≡ t
    by true = refl
    by false = refl
visits_behind bound r (o ∷ list) p =
    ap₂ (λ s t. (nat_eq o.resolver r && s) || t) (none_behind bound list p) (visits_behind bound r list p)
    ∙ by (nat_eq o.resolver r) (none_dated_below bound list) (not (nat_lt p.date bound)) (walk_visits bound r list) (nat_eq p.resolver r)
  where
    by : (e n t w f : Bool) → ((e && (n && t)) || ((w && t) || f)) ≡ ((((e && n) || w) && t) || f)
    by true true true w f = refl
    by true true false true f = refl
    by true true false false f = refl
    by true false t w f = refl
    by false n t w f = refl

last_behind : (r : ℕ) (o : Owner) (list : List Owner) (p : Owner) → is_last r (o ∷ (list ++ p ∷ [])) ≡ nat_eq p.resolver r
last_behind r o [] p = refl
last_behind r o (q ∷ list) p = last_behind r q list p

-- behind two lists whose walks visit the same, also if one has lost its front
visits_more : (bound oldest r : ℕ) (left list other : List Owner) (p : Owner) → oldest ≤ bound → left ≡ trimmed oldest list → walk_visits bound r list ≡ walk_visits bound r other
    → walk_visits bound r (left ++ p ∷ []) ≡ walk_visits bound r (other ++ p ∷ [])
visits_more bound oldest r left list other p above is same =
    visits_behind bound r left p
    ∙ ap (λ w. (w && not (nat_lt p.date bound)) || nat_eq p.resolver r) (ap (walk_visits bound r) is ∙ visits_trimmed bound oldest r list above ∙ same)
    ∙ sym (visits_behind bound r other p)

last_more : (r : ℕ) (list : List Owner) (p : Owner) → is_last r (list ++ p ∷ []) ≡ nat_eq p.resolver r
last_more r [] p = refl
last_more r (o ∷ list) p = last_behind r o list p

-- ---- one more move

pub asks_one_more : MoveAddsOneToAsk
asks_one_more map next moves m asks later oldest last left =
    let up_to : last_date 0 moves ≤ m.date = omega (arith, asks.last, later) in
    record {
      in_order = in_order_more 0 moves m asks.in_order up_to;
      last = last ∙ sym (last_date_more 0 moves m);
      visits = λ bound r key above.
          let from : map.oldest ≤ bound = omega (arith, oldest, above) in
          sym (visits_trimmed bound next.oldest r (owners next.moves key) above)
          ∙ ap (walk_visits bound r) (left key)
          ∙ visits_by bound r key from (holds range key)
          ∙ sym (ap (walk_visits bound r) (one_move_more moves m key));
      last_owner = λ r key.
          sym (last_trimmed next.oldest r (owners next.moves key))
          ∙ ap (is_last r) (left key)
          ∙ last_by r key (holds range key)
          ∙ sym (ap (is_last r) (one_move_more moves m key));
    }
  where
    range : Range
    range = m.range

    visits_by : (bound r : ℕ) (key : Key) → map.oldest ≤ bound → (t : Bool)
        → walk_visits bound r (cond t (trimmed map.oldest (owners_left map key ++ owner_of m ∷ [])) (owners_left map key)) ≡ walk_visits bound r (cond t (owners moves key ++ owner_of m ∷ []) (owners moves key))
    visits_by bound r key from true =
        visits_trimmed bound map.oldest r (owners_left map key ++ owner_of m ∷ []) from
        ∙ visits_more bound map.oldest r (owners_left map key) (owners map.moves key) (owners moves key) (owner_of m) from refl (asks.visits bound r key from)
    visits_by bound r key from false = visits_trimmed bound map.oldest r (owners map.moves key) from ∙ asks.visits bound r key from

    last_by : (r : ℕ) (key : Key) (t : Bool)
        → is_last r (cond t (trimmed map.oldest (owners_left map key ++ owner_of m ∷ [])) (owners_left map key)) ≡ is_last r (cond t (owners moves key ++ owner_of m ∷ []) (owners moves key))
    last_by r key true =
        last_trimmed map.oldest r (owners_left map key ++ owner_of m ∷ []) ∙ last_more r (owners_left map key) (owner_of m) ∙ sym (last_more r (owners moves key) (owner_of m))
    last_by r key false = last_trimmed map.oldest r (owners map.moves key) ∙ asks.last_owner r key

-- ---- more is forgotten

pub forgetting_asks : ForgettingAsksAlike
forgetting_asks map next moves asks more last left =
    record {
      in_order = asks.in_order;
      last = last ∙ asks.last;
      visits = λ bound r key above.
          let from : map.oldest ≤ bound = omega (arith, more, above) in
          sym (visits_trimmed bound next.oldest r (owners next.moves key) above)
          ∙ ap (walk_visits bound r) (left key)
          ∙ visits_trimmed bound next.oldest r (owners_left map key) above
          ∙ visits_trimmed bound map.oldest r (owners map.moves key) from
          ∙ asks.visits bound r key from;
      last_owner = λ r key.
          sym (last_trimmed next.oldest r (owners next.moves key))
          ∙ ap (is_last r) (left key)
          ∙ last_trimmed next.oldest r (owners_left map key)
          ∙ last_trimmed map.oldest r (owners map.moves key)
          ∙ asks.last_owner r key;
    }
