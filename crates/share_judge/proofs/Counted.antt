-- The starts that are counted begin the greatest ranges of keys with one last version.
use Rattle.std.proofs.Common.{◌≡◌, refl, sym, ap, ◌∙◌, ℕ, suc, ◌+◌, inl, inr, List, [], ◌∷◌, length, Bool, true, false, cond, not, ◌&&◌, nat_eq, nat_le, arith}
use Rattle.std.proofs.lemmas.Bool.{both_ways, eqb-true, eq-eqb}
use Rattle.system_keys.specs.Keys.{Key, is_key_below}
use Rattle.system_keys.specs.Limits.{key_space_end}
use Rattle.system_keys.proofs.KeyOrder.{not_below_itself, below_up_to, up_to_below, up_to_trans, not_below_back}
use Rattle.system_keys.proofs.KeyLaws.{inside_from_holds}
use Rattle.model.specs.WriteHistories.{unless_forgotten}
use Rattle.share_judge.specs.Answers.{HaveOneLast, AreSteps, IsCount}
use Rattle.share_judge.specs.Steps.{Start, last_from, IsBefore, AreRising, HasStart, is_inner_boundary, changes_from}
use Rattle.share_judge.proofs.Starts.{before_has, before_trans, up_to_before, none_before}

least_key : (key : Key) → is_key_below key [] ≡ false
least_key [] = refl
least_key (byte ∷ key) = refl

-- steps from a key on, and how many begin after it
record Divided (f : Key → ℕ) (begin : Key) (count : ℕ) : Type 0 where
  nexts : List Key
  steps : AreSteps f begin nexts
  counted : count ≡ length nexts

and_false : (b : Bool) → (b && false) ≡ false
and_false true = refl
and_false false = refl

none_more : (n : ℕ) → 0 + n ≡ n
none_more n = omega arith

one_more : (n : ℕ) → 1 + n ≡ suc n
one_more n = omega arith

-- starts at or past the end are not counted
none_counted : (dropped last : ℕ) (ss : List Start) → ((key : Key) → HasStart ss key → is_key_below key key_space_end ≡ false) → changes_from dropped last ss ≡ 0
none_counted dropped last [] past = refl
none_counted dropped last (s ∷ ss) past =
    let own : is_inner_boundary s.0 ≡ false = ap (λ (b : Bool). is_key_below [] s.0 && b) (past s.0 (inl refl)) ∙ and_false (is_key_below [] s.0) in
    ap (λ (b : Bool). cond (b && not (nat_eq (unless_forgotten dropped s.1) last)) 1 0 + changes_from dropped (unless_forgotten dropped s.1) ss) own
    ∙ none_more (changes_from dropped (unless_forgotten dropped s.1) ss)
    ∙ none_counted dropped (unless_forgotten dropped s.1) ss (λ key has. past key (inr has))

-- from the begin on, f has what the starts tell
abbrev pub TellsFrom : (dropped version : ℕ) (begin : Key) (ss : List Start) (f : Key → ℕ) → Type 0
TellsFrom dropped version begin ss f = (key : Key) → is_key_below key begin ≡ false → f key ≡ unless_forgotten dropped (last_from version ss key)

at_begin : (dropped version : ℕ) (begin : Key) (ss : List Start) (f : Key → ℕ) → IsBefore begin ss → TellsFrom dropped version begin ss f → f begin ≡ unless_forgotten dropped version
at_begin dropped version begin ss f all tells = tells begin (not_below_itself begin) ∙ ap (unless_forgotten dropped) (none_before version ss begin all)

-- up to the first start there is one version
one_up_to : (dropped version : ℕ) (begin end : Key) (s : Start) (ss : List Start) (f : Key → ℕ) → IsBefore begin (s ∷ ss) → TellsFrom dropped version begin (s ∷ ss) f → is_key_below s.0 end ≡ false → HaveOneLast f begin end
one_up_to dropped version begin end s ss f all tells up_to key inside =
    let is = inside_from_holds (record { begin = begin; end = end }) key inside in
    let below : is_key_below key s.0 ≡ true = below_up_to key end s.0 is.ended up_to in
    tells key is.begun
    ∙ ap (λ (b : Bool). unless_forgotten dropped (cond b version (last_from s.1 ss key))) below
    ∙ sym (at_begin dropped version begin (s ∷ ss) f all tells)

-- from the first start on, what it and the others tell
tells_next : (dropped version : ℕ) (begin : Key) (s : Start) (ss : List Start) (f : Key → ℕ) → is_key_below begin s.0 ≡ true → TellsFrom dropped version begin (s ∷ ss) f → TellsFrom dropped s.1 s.0 ss f
tells_next dropped version begin s ss f below tells key from =
    tells key (up_to_trans begin s.0 key (not_below_back begin s.0 below) from)
    ∙ ap (λ (b : Bool). unless_forgotten dropped (cond b version (last_from s.1 ss key))) from

-- a start with the version that was there tells nothing
tells_same : (dropped version : ℕ) (begin : Key) (s : Start) (ss : List Start) (f : Key → ℕ) → AreRising (s ∷ ss) → unless_forgotten dropped s.1 ≡ unless_forgotten dropped version → TellsFrom dropped version begin (s ∷ ss) f → TellsFrom dropped s.1 begin ss f
tells_same dropped version begin s ss f rising same tells key from = tells key from ∙ by (is_key_below key s.0) refl
  where
    by : (t : Bool) → is_key_below key s.0 ≡ t → unless_forgotten dropped (cond t version (last_from s.1 ss key)) ≡ unless_forgotten dropped (last_from s.1 ss key)
    by true below = sym same ∙ sym (ap (unless_forgotten dropped) (none_before s.1 ss key (before_trans key s.0 ss below rising.0)))
    by false above = refl

divided : (dropped version : ℕ) (begin : Key) (ss : List Start) (f : Key → ℕ) → AreRising ss → IsBefore begin ss → TellsFrom dropped version begin ss f → Divided f begin (changes_from dropped (unless_forgotten dropped version) ss)
divided dropped version begin [] f rising all tells =
    record {
      nexts = [];
      steps = λ key inside.
          let is = inside_from_holds (record { begin = begin; end = key_space_end }) key inside in
          tells key is.begun ∙ sym (tells begin (not_below_itself begin));
      counted = refl;
    }
divided dropped version begin (s ∷ ss) f rising all tells =
    by (is_key_below s.0 key_space_end) refl (nat_eq (unless_forgotten dropped s.1) (unless_forgotten dropped version)) refl (divided dropped s.1 s.0 ss f rising.1 rising.0) (divided dropped s.1 begin ss f rising.1 all.1)
  where
    own : ℕ
    own = unless_forgotten dropped s.1

    after_empty : is_key_below [] s.0 ≡ true
    after_empty = up_to_below [] begin s.0 (least_key begin) all.0

    past : is_key_below s.0 key_space_end ≡ false → (key : Key) → HasStart (s ∷ ss) key → is_key_below key key_space_end ≡ false
    past e key (inl is) = rw is e
    past e key (inr has) = up_to_trans key_space_end s.0 key e (not_below_back s.0 key (before_has s.0 key ss rising.0 has))

    by : (t : Bool) → is_key_below s.0 key_space_end ≡ t → (u : Bool) → nat_eq own (unless_forgotten dropped version) ≡ u
        → (TellsFrom dropped s.1 s.0 ss f → Divided f s.0 (changes_from dropped own ss))
        → (TellsFrom dropped s.1 begin ss f → Divided f begin (changes_from dropped own ss))
        → Divided f begin (changes_from dropped (unless_forgotten dropped version) (s ∷ ss))
    by true in_space false differs next rest =
        let later = next (tells_next dropped version begin s ss f all.0 tells) in
        record {
          nexts = s.0 ∷ later.nexts;
          steps = (
            record {
              begins_below = all.0;
              in_space = in_space;
              one = one_up_to dropped version begin s.0 s ss f all tells (not_below_itself s.0);
              differs = λ e.
                  let here : f s.0 ≡ own = at_begin dropped s.1 s.0 ss f rising.0 (tells_next dropped version begin s ss f all.0 tells) in
                  both_ways (nat_eq own (unless_forgotten dropped version)) differs (eq-eqb own (unless_forgotten dropped version) (sym here ∙ e ∙ at_begin dropped version begin (s ∷ ss) f all tells));
            },
            later.steps,
          );
          counted = rw (after_empty, in_space, differs) (one_more (changes_from dropped own ss) ∙ ap suc later.counted);
        }
    by true in_space true same next rest =
        let later = rest (tells_same dropped version begin s ss f rising (eqb-true own (unless_forgotten dropped version) same) tells) in
        record {
          nexts = later.nexts;
          steps = later.steps;
          counted = rw (after_empty, in_space, same) (none_more (changes_from dropped own ss) ∙ later.counted);
        }
    by false out u eq next rest =
        record {
          nexts = [];
          steps = one_up_to dropped version begin key_space_end s ss f all tells out;
          counted = none_counted dropped (unless_forgotten dropped version) (s ∷ ss) (past out);
        }

none_is : (dropped : ℕ) → unless_forgotten dropped 0 ≡ 0
none_is dropped = by (nat_le 0 dropped)
  where
    by : (t : Bool) → ◌≡◌ {A = ℕ} (cond t 0 0) 0
    by true = refl
    by false = refl

pub counted : (dropped count : ℕ) (ss : List Start) (f : Key → ℕ) → AreRising ss → ((key : Key) → f key ≡ unless_forgotten dropped (last_from 0 ss key)) → count ≡ 1 + changes_from dropped 0 ss → IsCount f count
counted dropped count ss f rising tells is = all ss rising tells is
  where
    of : (n : ℕ) → count ≡ suc n → Divided f [] n → IsCount f count
    of n e d = record { nexts = d.nexts; steps = d.steps; counted = e ∙ ap suc d.counted }

    all : (ss : List Start) → AreRising ss → ((key : Key) → f key ≡ unless_forgotten dropped (last_from 0 ss key)) → count ≡ 1 + changes_from dropped 0 ss → IsCount f count
    all [] rising tells is = of 0 (is ∙ one_more 0) (divided dropped 0 [] [] f tt tt (λ key from. tells key))
    all (s ∷ ss) rising tells is = by (is_key_below [] s.0) refl
      where
        by : (t : Bool) → is_key_below [] s.0 ≡ t → IsCount f count
        by true e =
            of (changes_from dropped (unless_forgotten dropped 0) (s ∷ ss)) (is ∙ one_more (changes_from dropped 0 (s ∷ ss)) ∙ ap (λ n. suc (changes_from dropped n (s ∷ ss))) (sym (none_is dropped)))
            (divided dropped 0 [] (s ∷ ss) f rising (e, before_trans [] s.0 ss e rising.0) (λ key from. tells key))
        by false e =
            of (changes_from dropped (unless_forgotten dropped s.1) ss)
            (is ∙ one_more (changes_from dropped 0 (s ∷ ss)) ∙ ap (λ (b : Bool). suc (cond ((b && is_key_below s.0 key_space_end) && not (nat_eq (unless_forgotten dropped s.1) 0)) 1 0 + changes_from dropped (unless_forgotten dropped s.1) ss)) e ∙ ap suc (none_more (changes_from dropped (unless_forgotten dropped s.1) ss)))
            (divided dropped s.1 [] ss f rising.1 (up_to_before [] s.0 ss (least_key s.0) rising.0)
            (λ key from. tells key ∙ ap (λ (b : Bool). unless_forgotten dropped (cond b 0 (last_from s.1 ss key))) (up_to_trans s.0 [] key e from)))
