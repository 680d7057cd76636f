-- Each step keeps the rule of an inbox.
use Rattle.std.proofs.Common.{◌≡◌, ◌≢◌, ℕ, zero, suc, ◌+◌, Bool, true, false, true≢false, eqb, eq-eqb, ne_eqb, cond, List, [], ◌∷◌, ◌++◌, length, set, sym, refl, ap, ◌∙◌, subst, ◌⊎◌, inl, inr, ⊎_elim, append_assoc, arith, Option, Some, None}
use Rattle.std.proofs.lemmas.List.Elements.{filter-append}
use Rattle.std.proofs.lemmas.List.{append-nil}
use Rattle.std.specs.Prelude.{◌==◌}
use mathlib.Core.Option.{some, some-injective, some-ne-none}
use lib.ListN.{get_elem?}
use Rattle.atomic_table.proofs.Lists.{at_set}
use Rattle.crossbeam_channel.specs.Fifo.{Pushes, Pops, Forks, Merges, Learns}
use Rattle.inboxes.specs.declared.views.MessageView.{MessageView}
use Rattle.inboxes.specs.declared.views.View.{View}
use Rattle.inboxes.specs.Views.{sender, worker, spent}
use Rattle.inboxes.specs.Delivers.{of_proxy, KnowsSent, KnowsTaken, Delivers, IsToldMore}

-- one message more of the proxy
pub of_mine : (proxy : ℕ) (all : List MessageView) (x : MessageView) → x.proxy ≡ proxy
    → of_proxy proxy (all ++ x ∷ []) ≡ of_proxy proxy all ++ x ∷ []
of_mine proxy all x is =
    filter-append (λ (m : MessageView). m.proxy == proxy) all (x ∷ [])
    ∙ ap (λ (b : Bool). of_proxy proxy all ++ cond b (x ∷ []) []) (eq-eqb x.proxy proxy is)

-- one message more of another proxy
pub of_other : (proxy : ℕ) (all : List MessageView) (x : MessageView) → x.proxy ≢ proxy
    → of_proxy proxy (all ++ x ∷ []) ≡ of_proxy proxy all
of_other proxy all x is_not =
    filter-append (λ (m : MessageView). m.proxy == proxy) all (x ∷ [])
    ∙ ap (λ (b : Bool). of_proxy proxy all ++ cond b (x ∷ []) []) (ne_eqb x.proxy proxy is_not)
    ∙ append-nil (of_proxy proxy all)

abbrev All : (ℕ → View → Type 0) → List View → Type 0
All F views = (pass : ℕ) (v : View) → get_elem? views pass ≡ some v → F pass v

all_set : (F : ℕ → View → Type 0) (views : List View) (pass : ℕ) (w : View) → F pass w
    → ((j : ℕ) (u : View) → j ≢ pass → get_elem? views j ≡ some u → F j u) → All F (set views pass w)
all_set F views pass w mine others j u e =
    ⊎_elim
    (λ (x : (j ≡ pass) × (w ≡ u)). subst (λ (y : ℕ × View). F y.0 y.1) (λ i. (sym x.0 i, x.1 i)) mine)
    (λ (x : (j ≢ pass) × (get_elem? views j ≡ some u)). others j u x.0 x.1)
    (at_set views pass j w u e)

-- a pass among those with one more is one of them, or the new one
at_end : (views : List View) (w u : View) (j : ℕ) → get_elem? (views ++ w ∷ []) j ≡ some u
    → (get_elem? views j ≡ some u) ⊎ ((j ≡ length views) × (w ≡ u))
at_end [] w u zero e = inr (refl, some-injective w u e)
at_end [] w u (suc j) e = absurd (some-ne-none u (sym e))
at_end (x ∷ xs) w u zero e = inl e
at_end (x ∷ xs) w u (suc j) e = ⊎_elim (λ h. inl h) (λ h. inr (ap suc h.0, h.1)) (at_end xs w u j e)

only : (F : ℕ → View → Type 0) (w : View) → F 0 w → All F (w ∷ [])
only F w here zero u e = subst (λ (y : View). F 0 y) (some-injective w u e) here
only F w here (suc j) u e = absurd (some-ne-none u (sym e))

-- the seats, with that of one proxy changed
abbrev with_seat : (ℕ → Option ℕ) → ℕ → Option ℕ → ℕ → Option ℕ
with_seat seat p s q = cond (eqb q p) s (seat q)

seat_here : (seat : ℕ → Option ℕ) (p : ℕ) (s : Option ℕ) → with_seat seat p s p ≡ s
seat_here seat p s = ap (λ (b : Bool). cond b s (seat p)) (eq-eqb p p refl)

seat_else : (seat : ℕ → Option ℕ) (p : ℕ) (s : Option ℕ) (q : ℕ) → q ≢ p
    → with_seat seat p s q ≡ seat q
seat_else seat p s q apart = ap (λ (b : Bool). cond b s (seat q)) (ne_eqb q p apart)

none_either : (b : Bool) (s : Option ℕ) → s ≡ None → cond b None s ≡ None
none_either true s none = refl
none_either false s none = none

one_seat : (seat : ℕ → Option ℕ) (p q i j : ℕ) → seat p ≡ Some i → seat q ≡ Some j → p ≡ q → j ≡ i
one_seat seat p q i j a b same = let e : Some i ≡ Some j = sym a ∙ ap seat same ∙ b in cc

no_seat : (seat : ℕ → Option ℕ) (p q i : ℕ) → seat p ≡ Some i → seat q ≡ None → p ≡ q → ⊥
no_seat seat p q i a b same = let e : Some i ≡ None = sym a ∙ ap seat same ∙ b in cc

no_told : (t : ℕ × List MessageView) → None ≡ Some t → ⊥
no_told t told = cc

told_is : (s t : ℕ × List MessageView) → Some s ≡ Some t → s ≡ t
told_is s t told = cc

abbrev Fits : ℕ → (ℕ → Option ℕ) → List MessageView → List MessageView → ℕ → View → Type 0
Fits reader seat got all pass v =
    KnowsSent seat all pass v × KnowsTaken reader seat got all pass v

pub starts : Delivers [] (worker 0 [] None ∷ [])
starts = (
  0,
  (λ _. None),
  [],
  only (Fits 0 (λ _. None) [] []) (worker 0 [] None)
      ((λ wrong. absurd (true≢false (sym wrong))), λ _. (refl, refl, (λ p beyond. (refl, refl)), λ t told. absurd (no_told t told))),
)

-- a message more of a proxy, and its pass knows it
sent_more : (reader : ℕ) (seat : ℕ → Option ℕ) (got all : List MessageView) (views : List View)
    (pass : ℕ) (v : View) (x : MessageView) → v.sends ≡ true → x.proxy ≡ v.from
    → All (Fits reader seat got all) views → get_elem? views pass ≡ some v
    → All (Fits reader seat got (all ++ x ∷ [])) (set views pass (sender v.from (v.put ++ x ∷ [])))
sent_more reader seat got all views pass v x is_sender mine fits at =
    let own = (fits pass v at).0 is_sender in
    let new : List MessageView = all ++ x ∷ [] in
    all_set (Fits reader seat got new) views pass (sender v.from (v.put ++ x ∷ [])) (
      (λ _. (
        own.0,
        ap (λ (l : List MessageView). l ++ x ∷ []) own.1 ∙ sym (of_mine v.from all x mine),
      )),
      (λ wrong. absurd (true≢false (sym wrong))),
    )
    (λ j u apart e.
    let theirs = fits j u e in (
      (λ s. let old = theirs.0 s in (
        old.0,
        old.1
            ∙ sym (of_other u.from all x
            (λ same. apart (one_seat seat v.from u.from pass j own.0 old.0 (sym mine ∙ same)))),
      )),
      (λ g. let old = theirs.1 g in (
        old.0,
        old.1,
        (λ p beyond. let none = old.2 p beyond in (
          none.0,
          of_other p all x (λ same. no_seat seat v.from p pass own.0 none.0 (sym mine ∙ same))
              ∙ none.1,
        )),
        (λ t told. let known = old.3 t told in (
          known.0,
          known.1
              ∙ sym (of_other t.0 all x
              (λ same. no_seat seat v.from t.0 pass own.0 known.0 (sym mine ∙ same))),
        )),
      )),
    ))

pub sends : (n pass : ℕ) (v : View) (x : MessageView) → v.sends ≡ true → x.proxy ≡ v.from
    → Pushes Delivers n pass v x (λ w. w ≡ sender v.from (v.put ++ x ∷ []))
sends n pass v x is_sender mine items views _ h at =
    let w : View = sender v.from (v.put ++ x ∷ []) in (
      w,
      (
        h.0,
        h.1,
        h.2,
        subst (λ (all : List MessageView). All (Fits h.0 h.1 h.2 all) (set views pass w))
            (append_assoc h.2 items (x ∷ []))
            (sent_more h.0 h.1 h.2 (h.2 ++ items) views pass v x is_sender mine h.3 at),
      ),
      refl,
    )

-- a message is taken, and the worker's pass knows it
taken_more : (reader : ℕ) (seat : ℕ → Option ℕ) (got all : List MessageView) (views : List View)
    (pass : ℕ) (v : View) (x : MessageView) → v.gets ≡ true
    → All (Fits reader seat got all) views → get_elem? views pass ≡ some v
    → All (Fits reader seat (got ++ x ∷ []) all) (set views pass (worker v.made (v.got ++ x ∷ []) v.told))
taken_more reader seat got all views pass v x is_worker fits at =
    let own = (fits pass v at).1 is_worker in
    all_set (Fits reader seat (got ++ x ∷ []) all) views pass (worker v.made (v.got ++ x ∷ []) v.told) (
      (λ wrong. absurd (true≢false (sym wrong))),
      λ _. (own.0, ap (λ (l : List MessageView). l ++ x ∷ []) own.1, own.2, own.3),
    )
    (λ j u apart e.
    let theirs = fits j u e in (
      theirs.0,
      λ g. absurd (apart ((theirs.1 g).0 ∙ sym own.0)),
    ))

pub takes : (pass : ℕ) (v : View) → v.gets ≡ true
    → Pops Delivers pass v (λ x w. w ≡ worker v.made (v.got ++ x ∷ []) v.told)
takes pass v is_worker x items views h at =
    let w : View = worker v.made (v.got ++ x ∷ []) v.told in
    let got : List MessageView = h.2 ++ x ∷ [] in (
      w,
      (
        h.0,
        h.1,
        got,
        subst (λ (all : List MessageView). All (Fits h.0 h.1 got all) (set views pass w))
            (sym (append_assoc h.2 (x ∷ []) items))
            (taken_more h.0 h.1 h.2 (h.2 ++ x ∷ items) views pass v x is_worker h.3 at),
      ),
      refl,
    )

-- a pass is made for the next proxy
forked : (reader : ℕ) (seat : ℕ → Option ℕ) (got all : List MessageView) (views : List View)
    (pass : ℕ) (v : View) → v.gets ≡ true
    → All (Fits reader seat got all) views → get_elem? views pass ≡ some v
    → let vs : List View = set views pass (worker (v.made + 1) v.got None) in
    All (Fits reader (with_seat seat v.made (Some (length vs))) got all) (vs ++ sender v.made [] ∷ [])
forked reader seat got all views pass v is_worker fits at =
    let own = (fits pass v at).1 is_worker in
    let left : View = worker (v.made + 1) v.got None in
    let right : View = sender v.made [] in
    let vs : List View = set views pass left in
    let n : ℕ = length vs in
    let next : ℕ → Option ℕ = with_seat seat v.made (Some n) in
    let none = own.2 v.made (omega arith) in
    let front : All (Fits reader next got all) vs =
    all_set (Fits reader next got all) views pass left (
      (λ wrong. absurd (true≢false (sym wrong))),
      λ _. (
        own.0,
        own.1,
        (λ p beyond.
            let old = own.2 p (omega arith) in (
              seat_else seat v.made (Some n) p (λ same. omega arith) ∙ old.0,
              old.1,
            )),
        λ t told. absurd (no_told t told),
      ),
    )
    (λ j u apart e.
    let theirs = fits j u e in (
      (λ s. let old = theirs.0 s in (
        seat_else seat v.made (Some n) u.from
            (λ same. no_seat seat u.from v.made j old.0 none.0 same)
            ∙ old.0,
        old.1,
      )),
      λ g. absurd (apart ((theirs.1 g).0 ∙ sym own.0)),
    )) in
    let back : Fits reader next got all n right =
    ((λ _. (seat_here seat v.made (Some n), sym none.1)), (λ wrong. absurd (true≢false (sym wrong)))) in
    λ j u e. ⊎_elim (λ old. front j u old)
    (λ (is : (j ≡ n) × (right ≡ u)).
    subst (λ (y : ℕ × View). Fits reader next got all y.0 y.1) (λ i. (sym is.0 i, is.1 i)) back)
    (at_end vs right u j e)

pub forks : (pass : ℕ) (v : View) → v.gets ≡ true
    → Forks Delivers pass v (worker (v.made + 1) v.got None) (sender v.made [])
forks pass v is_worker items views h at =
    let vs : List View = set views pass (worker (v.made + 1) v.got None) in (
      h.0,
      with_seat h.1 v.made (Some (length vs)),
      h.2,
      forked h.0 h.1 h.2 (h.2 ++ items) views pass v is_worker h.3 at,
    )

-- the pass of a proxy is joined to the worker's
merged : (reader : ℕ) (seat : ℕ → Option ℕ) (got all : List MessageView) (views : List View)
    (pass : ℕ) (v : View) (other : ℕ) (u : View) → v.gets ≡ true → u.sends ≡ true
    → All (Fits reader seat got all) views → get_elem? views pass ≡ some v
    → get_elem? views other ≡ some u
    → let vs : List View = set views pass (worker v.made v.got (Some (u.from, u.put))) in
    All (Fits reader (with_seat seat u.from None) got all) (set vs other spent)
merged reader seat got all views pass v other u is_worker is_sender fits at was =
    let own = (fits pass v at).1 is_worker in
    let theirs = (fits other u was).0 is_sender in
    let both : View = worker v.made v.got (Some (u.from, u.put)) in
    let vs : List View = set views pass both in
    let next : ℕ → Option ℕ = with_seat seat u.from None in
    let Now : ℕ → View → Type 0 = λ j y. j ≢ other → Fits reader next got all j y in
    let now : All Now vs =
    all_set Now views pass both
    (λ _. (
      (λ wrong. absurd (true≢false (sym wrong))),
      λ _. (
        own.0,
        own.1,
        (λ p beyond.
            let old = own.2 p beyond in
            (none_either (eqb p u.from) (seat p) old.0, old.1)),
        λ t told.
            let Known : ℕ × List MessageView → Type 0 = λ t. (next t.0 ≡ None) × (t.1 ≡ of_proxy t.0 all) in
            subst Known (told_is (u.from, u.put) t told) (seat_here seat u.from None, theirs.1),
      ),
    ))
    (λ j y apart e other_than.
    let old = fits j y e in (
      (λ s. let o = old.0 s in (
        seat_else seat u.from None y.from
            (λ same. other_than (one_seat seat u.from y.from other j theirs.0 o.0 (sym same)))
            ∙ o.0,
        o.1,
      )),
      λ g. absurd (apart ((old.1 g).0 ∙ sym own.0)),
    )) in
    all_set (Fits reader next got all) vs other spent ((λ wrong. absurd (true≢false (sym wrong))), (λ wrong. absurd (true≢false (sym wrong)))) (λ j y apart e. now j y e apart)

pub merges : (pass : ℕ) (v : View) (other : ℕ) (u : View) → v.gets ≡ true → u.sends ≡ true
    → Merges Delivers pass v other u (worker v.made v.got (Some (u.from, u.put))) spent
merges pass v other u is_worker is_sender items views h at two there =
    let both : View = worker v.made v.got (Some (u.from, u.put)) in
    let was : get_elem? views other ≡ some u =
    ⊎_elim (λ x. absurd (two x.0)) (λ x. x.1) (at_set views pass other both u there) in (
      h.0,
      with_seat h.1 u.from None,
      h.2,
      merged h.0 h.1 h.2 (h.2 ++ items) views pass v other u is_worker is_sender h.3 at was,
    )

pub learns : (pass : ℕ) (v : View) → v.gets ≡ true
    → Learns Delivers pass v (λ items. IsToldMore v)
learns pass v is_worker items views h at t told =
    let own = (h.3 pass v at).1 is_worker in
    let known = own.3 t told in (
      of_proxy t.0 items,
      known.1
          ∙ filter-append (λ (m : MessageView). m.proxy == t.0) h.2 items
          ∙ ap (λ (l : List MessageView). of_proxy t.0 l ++ of_proxy t.0 items) (sym own.1),
    )
