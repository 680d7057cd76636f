-- What resolvers tell of the journal, and which rows a proxy has not seen.
use Rattle.std.proofs.Common.{◌≡◌, refl, sym, ap, ◌∙◌, subst, ℕ, zero, suc, ◌<◌, ◌≤◌, List, [], ◌∷◌, ◌++◌, map, length, take, filter, Bool, true, false, cond, nat_lt, nat_le, if◌then◌else◌, slice_get, Option, Some, length-append, option_map, ◌⊎◌, inl, inr, append_assoc, leb-true, leb-false, lt-ltb, le-ltb, arith}
use Rattle.std.proofs.Math.Seq.{take-append_seam}
use Rattle.std.proofs.lemmas.Bool.{cases_order, lt-leb}
use Rattle.std.proofs.lemmas.List.{length-map}
use Rattle.std.specs.Prelude.{unwrap_or}
use Rattle.std.proofs.lemmas.Option.{slice_get-map}
use Rattle.model.specs.Configs.{Config}
use Rattle.model.specs.declared.verdict.Verdict.{Verdict}
use Rattle.model.specs.declared.verdict.Verdict.TheVariants.{Conflict}
use Rattle.model.specs.declared.journal.StateTxn.{StateTxn}
use Rattle.model.specs.declared.journal.JournalRow.{JournalRow}
use Rattle.model.specs.declared.unseen.Carried.{Carried}
use Rattle.model.specs.declared.unseen.UnseenState.{UnseenState}
use Rattle.model.specs.declared.unseen.UnseenRow.{UnseenRow}
use Rattle.model.specs.Transactions.{StampedTransaction, is_state_transaction}
use Rattle.model.specs.Records.{Record, IsHistory, Follows, last_version}
use Rattle.model.specs.Shares.{each_below}
use Rattle.model.specs.Journal.{VerdictSource, state_of, states_from, journal_row, journal, carried_to, reply_states_from, reply_row, reply_state_of, reply_row_of, HaveVerdictCount, is_after, unseen}
use Rattle.model.specs.World.{up_to_version, rows_up_to}
use Rattle.model.proofs.Members.{Has, Has-from_Contains, Contains-from_Has}
use Rattle.model.proofs.Shares.Askers.{slice_get-append_left}
use Rattle.model.proofs.History.Growth.{slice_get-push, last_version-push}

-- ---- what one resolver tells is its part of the journal

pub length-each_below : (n : ℕ) → length (each_below n) ≡ n
length-each_below zero = refl
length-each_below (suc n) = omega (arith, length-append (each_below n) (n ∷ []), length-each_below n)

pub slice_get-each_below : (n r : ℕ) → r < n → slice_get (each_below n) r ≡ Some r
slice_get-each_below zero r h = absurd (omega arith)
slice_get-each_below (suc n) r h = by (cases_order r n) (slice_get-each_below n r)
  where
    by : (r ≡ n) ⊎ ((r < n) ⊎ (n < r)) → (r < n → slice_get (each_below n) r ≡ Some r) → slice_get (each_below n ++ n ∷ []) r ≡ Some r
    by (inl e) rest = ap (slice_get (each_below n ++ n ∷ [])) (e ∙ sym (length-each_below n)) ∙ slice_get-push (each_below n) n ∙ ap (λ (k : ℕ). Some k) (sym e)
    by (inr (inl below)) rest = slice_get-append_left (each_below n) (n ∷ []) r (omega (arith, length-each_below n)) ∙ rest below
    by (inr (inr above)) rest = absurd (omega arith)

said_by : (config : Config) (verdict_by : VerdictSource) (rec : Record) (n : ℕ) (t : StampedTransaction) (r : ℕ) → r < config.resolvers → unwrap_or (slice_get (state_of config verdict_by rec n t).verdicts r) Conflict ≡ verdict_by r rec.row n
said_by config verdict_by rec n t r below =
    ap (λ (found : Option Verdict). unwrap_or found Conflict)
    (slice_get-map (λ (s : ℕ). verdict_by s rec.row n) (each_below config.resolvers) r ∙ ap (option_map (λ (s : ℕ). verdict_by s rec.row n)) (slice_get-each_below config.resolvers r below))

told_states : (config : Config) (verdict_by : VerdictSource) (rec : Record) (r : ℕ) → r < config.resolvers → (n : ℕ) (ts : List StampedTransaction) → reply_states_from verdict_by r rec n ts ≡ map (reply_state_of r) (states_from config verdict_by rec n ts)
told_states config verdict_by rec r below n [] = refl
told_states config verdict_by rec r below n (t ∷ ts) = by (is_state_transaction t) (told_states config verdict_by rec r below (suc n) ts)
  where
    by : (b : Bool) → reply_states_from verdict_by r rec (suc n) ts ≡ map (reply_state_of r) (states_from config verdict_by rec (suc n) ts)
        → (if b then (record { verdict = verdict_by r rec.row n; carried = carried_to r t }) ∷ reply_states_from verdict_by r rec (suc n) ts else reply_states_from verdict_by r rec (suc n) ts) ≡ map (reply_state_of r) (if b then state_of config verdict_by rec n t ∷ states_from config verdict_by rec (suc n) ts else states_from config verdict_by rec (suc n) ts)
    by true rest = λ i. (record { verdict = sym (said_by config verdict_by rec n t r below) i; carried = carried_to r t }) ∷ rest i
    by false rest = rest

pub told_row_is : (config : Config) (verdict_by : VerdictSource) (rec : Record) (r : ℕ) → r < config.resolvers → reply_row verdict_by r rec ≡ reply_row_of r (journal_row config verdict_by rec)
unfolding reply_row journal_row
told_row_is config verdict_by rec r below = λ i. record { version = rec.version; states = told_states config verdict_by rec r below 0 rec.batch i }

told_rows : (config : Config) (verdict_by : VerdictSource) (r : ℕ) → r < config.resolvers → (h : List Record) → map (reply_row verdict_by r) h ≡ map (reply_row_of r) (journal config verdict_by h)
unfolding journal
told_rows config verdict_by r below [] = refl
told_rows config verdict_by r below (rec ∷ h) = λ i. told_row_is config verdict_by rec r below i ∷ told_rows config verdict_by r below h i

pub unseen_is_told : (config : Config) (verdict_by : VerdictSource) (r : ℕ) (before : List Record) (rec : Record) → r < config.resolvers → unseen verdict_by r before rec ≡ map (reply_row_of r) (journal config verdict_by (filter (is_after rec.own_previous) before))
unfolding unseen
unseen_is_told config verdict_by r before rec below = told_rows config verdict_by r below (filter (is_after rec.own_previous) before)

-- ---- what all resolvers tell leaves no other row

states_verdicts : (config : Config) (verdict_by : VerdictSource) (rec : Record) (n : ℕ) (ts : List StampedTransaction) (t : StateTxn) → Has (states_from config verdict_by rec n ts) t → length t.verdicts ≡ config.resolvers
states_verdicts config verdict_by rec n [] t has = absurd has
states_verdicts config verdict_by rec n (u ∷ ts) t has = by (is_state_transaction u) has (states_verdicts config verdict_by rec (suc n) ts t)
  where
    own : state_of config verdict_by rec n u ≡ t → length t.verdicts ≡ config.resolvers
    own same = ap (λ (s : StateTxn). length s.verdicts) (sym same) ∙ length-map (each_below config.resolvers) (λ (r : ℕ). verdict_by r rec.row n) ∙ length-each_below config.resolvers

    by : (b : Bool) → Has (if b then state_of config verdict_by rec n u ∷ states_from config verdict_by rec (suc n) ts else states_from config verdict_by rec (suc n) ts) t → (Has (states_from config verdict_by rec (suc n) ts) t → length t.verdicts ≡ config.resolvers) → length t.verdicts ≡ config.resolvers
    by true (inl same) rest = own same
    by true (inr later) rest = rest later
    by false later rest = rest later

pub row_verdicts : (config : Config) (verdict_by : VerdictSource) (rec : Record) → HaveVerdictCount config.resolvers (journal_row config verdict_by rec)
unfolding journal_row
row_verdicts config verdict_by rec t there = states_verdicts config verdict_by rec 0 rec.batch t (Has-from_Contains (states_from config verdict_by rec 0 rec.batch) t there)

-- lists of one length with the same verdict at each place
same_verdicts : (vs ws : List Verdict) → length vs ≡ length ws → ((r : ℕ) → r < length vs → unwrap_or (slice_get vs r) Conflict ≡ unwrap_or (slice_get ws r) Conflict) → vs ≡ ws
same_verdicts [] [] same each = refl
same_verdicts [] (w ∷ ws) same each = absurd (omega arith)
same_verdicts (v ∷ vs) [] same each = absurd (omega arith)
same_verdicts (v ∷ vs) (w ∷ ws) same each = λ i. each 0 (omega arith) i ∷ same_verdicts vs ws (omega arith) (λ r within. each (suc r) (omega arith)) i

same_carried : (s t : Carried) → Some s ≡ Some t → s ≡ t
same_carried s t same = cc

same_state : (n : ℕ) (s t : StateTxn) → 0 < n → length s.verdicts ≡ n → length t.verdicts ≡ n → ((r : ℕ) → r < n → reply_state_of r s ≡ reply_state_of r t) → s ≡ t
same_state n s t some in_s in_t each =
    let carried : Some (record { mutations = s.mutations; lock_aware = s.lock_aware }) ≡ Some (record { mutations = t.mutations; lock_aware = t.lock_aware }) = ap (λ (u : UnseenState). u.carried) (each 0 some) in
    let both = same_carried (record { mutations = s.mutations; lock_aware = s.lock_aware }) (record { mutations = t.mutations; lock_aware = t.lock_aware }) carried in
    let verdicts : s.verdicts ≡ t.verdicts = same_verdicts s.verdicts t.verdicts (in_s ∙ sym in_t) (λ r within. ap (λ (u : UnseenState). u.verdict) (each r (omega (arith, within, in_s)))) in
    λ i. record { mutations = (both i).mutations; lock_aware = (both i).lock_aware; verdicts = verdicts i }

same_states : (n : ℕ) (xs ys : List StateTxn) → 0 < n → ((t : StateTxn) → Has xs t → length t.verdicts ≡ n) → ((t : StateTxn) → Has ys t → length t.verdicts ≡ n) → ((r : ℕ) → r < n → map (reply_state_of r) xs ≡ map (reply_state_of r) ys) → xs ≡ ys
same_states n [] [] some in_xs in_ys each = refl
same_states n [] (y ∷ ys) some in_xs in_ys each = let told = each 0 some in absurd (cc)
same_states n (x ∷ xs) [] some in_xs in_ys each = let told = each 0 some in absurd (cc)
same_states n (x ∷ xs) (y ∷ ys) some in_xs in_ys each =
    λ i. same_state n x y some (in_xs x (inl refl)) (in_ys y (inl refl)) (λ r below. let told = each r below in cc) i
    ∷ same_states n xs ys some (λ t has. in_xs t (inr has)) (λ t has. in_ys t (inr has)) (λ r below. let told = each r below in cc) i

pub told_exact : (resolvers : ℕ) (a b : JournalRow) → 0 < resolvers → HaveVerdictCount resolvers a → HaveVerdictCount resolvers b → ((r : ℕ) → r < resolvers → reply_row_of r a ≡ reply_row_of r b) → a ≡ b
told_exact resolvers a b some in_a in_b each =
    let version : a.version ≡ b.version = ap (λ (row : UnseenRow). row.version) (each 0 some) in
    let states : a.states ≡ b.states = same_states resolvers a.states b.states some (λ t has. in_a t (Contains-from_Has a.states t has)) (λ t has. in_b t (Contains-from_Has b.states t has)) (λ r below. ap (λ (row : UnseenRow). row.states) (each r below)) in
    λ i. record { version = version i; states = states i }

-- ---- the rows up to a version, and those after it

-- versions never go back, from this one on
abbrev Rise : ℕ → List Record → Type 0
Rise version [] = Unit {0}
Rise version (rec ∷ h) = (version ≤ rec.version) × Rise rec.version h

none_up_to : (version from : ℕ) (h : List Record) → version < from → Rise from h → (up_to_version version h ≡ []) × (filter (is_after version) h ≡ h)
none_up_to version from [] above rise = (refl, refl)
none_up_to version from (rec ∷ h) above rise =
    let past : version < rec.version = omega (arith, rise.0) in
    let rest = none_up_to version rec.version h past rise.1 in
    let not_up_to : nat_le rec.version version ≡ false = lt-leb rec.version version past in
    let after : nat_lt version rec.version ≡ true = lt-ltb version rec.version past in
    (rw (not_up_to) rest.0, rw (after) (ap (λ (rs : List Record). rec ∷ rs) rest.1))

split_from : (version from : ℕ) (h : List Record) → Rise from h → up_to_version version h ++ filter (is_after version) h ≡ h
split_from version from [] rise = refl
split_from version from (rec ∷ h) rise = by (nat_le rec.version version) refl (split_from version rec.version h rise.1)
  where
    by : (b : Bool) → nat_le rec.version version ≡ b → up_to_version version h ++ filter (is_after version) h ≡ h
        → cond b (rec ∷ up_to_version version h) (up_to_version version h) ++ cond (nat_lt version rec.version) (rec ∷ filter (is_after version) h) (filter (is_after version) h) ≡ rec ∷ h
    by true within rest =
        let not_after : nat_lt version rec.version ≡ false = le-ltb version rec.version (leb-true rec.version version within) in
        rw not_after (ap (λ (rs : List Record). rec ∷ rs) rest)
    by false past rest =
        let above : version < rec.version = leb-false rec.version version past in
        let none = none_up_to version rec.version h above rise.1 in
        let after : nat_lt version rec.version ≡ true = lt-ltb version rec.version above in
        rw (none.0, after, none.1) refl

rise_behind : (config : Config) (done h : List Record) → IsHistory config (done ++ h) → Rise (last_version done) h
rise_behind config done [] chain = tt
rise_behind config done (rec ∷ h) chain =
    let at : slice_get (done ++ rec ∷ h) (length done) ≡ Some rec = ap (λ (all : List Record). slice_get all (length done)) (sym (append_assoc done (rec ∷ []) h)) ∙ slice_get-append_left (done ++ rec ∷ []) h (length done) (omega (arith, length-append done (rec ∷ []))) ∙ slice_get-push done rec in
    let follows : Follows config (take (length done) (done ++ rec ∷ h)) rec = chain (length done) rec at in
    let previous : rec.previous ≡ last_version done = follows.previous ∙ ap last_version (take-append_seam done (rec ∷ h)) in
    let behind : Rise (last_version (done ++ rec ∷ [])) h = rise_behind config (done ++ rec ∷ []) h (subst (IsHistory config) (sym (append_assoc done (rec ∷ []) h)) chain) in
    (omega (arith, follows.version, previous), subst (λ (version : ℕ). Rise version h) (last_version-push done rec) behind)

-- the records of a history up to a version, and then those after it, are all of them
pub split_at_version : (config : Config) (h : List Record) (version : ℕ) → IsHistory config h → up_to_version version h ++ filter (is_after version) h ≡ h
split_at_version config h version chain = split_from version 0 h (rise_behind config [] h chain)

-- and so the first ones are the first rows
pub first_up_to : (config : Config) (h : List Record) (version : ℕ) → IsHistory config h → take (rows_up_to version h) h ≡ up_to_version version h
first_up_to config h version chain =
    ap (take (rows_up_to version h)) (sym (split_at_version config h version chain)) ∙ take-append_seam (up_to_version version h) (filter (is_after version) h)
