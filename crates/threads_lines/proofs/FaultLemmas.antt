-- Results of several threads, one after another.
use Rattle.std.proofs.Common.{◌≡◌, ◌∙◌, ◌++◌, [], ◌∷◌, ℕ, List, sym, ap, subst, refl, append_assoc}
use Rattle.std.specs.Prelude.{⊤, Result, Ok, Err, MatchResult}
use Rattle.std.proofs.lemmas.List.{append-nil}
use Rattle.system_keys.specs.AsSpecified.{IsAsSpecifiedIfAllocated, IsFaultIfAllocated}
use Rattle.threads_lines.specs.Faults.{graver, join_results, join_texts, run_fault, text_of, texts_of}
use Rattle.threads_lines.specs.declared.faults.RunFault.{RunFault}
use Rattle.threads_lines.specs.declared.faults.RunFault.TheVariants as faults

graver_of_three : (x y z : RunFault) → graver (graver x y) z ≡ graver x (graver y z)
graver_of_three faults.OutOfMemory y z = refl
graver_of_three faults.Refused y z = refl

join_three : (a b c : Result (List ℕ) RunFault) → join_texts (join_texts a b) c ≡ join_texts a (join_texts b c)
join_three (Ok a) (Ok b) (Ok c) = ap Ok (append_assoc a b c)
join_three (Ok a) (Ok b) (Err z) = refl
join_three (Ok a) (Err y) (Ok c) = refl
join_three (Ok a) (Err y) (Err z) = refl
join_three (Err x) (Ok b) (Ok c) = refl
join_three (Err x) (Ok b) (Err z) = refl
join_three (Err x) (Err y) (Ok c) = refl
join_three (Err x) (Err y) (Err z) = ap Err (graver_of_three x y z)

join_none : (a : Result (List ℕ) RunFault) → join_texts a (Ok []) ≡ a
join_none (Ok a) = ap Ok (append-nil a)
join_none (Err x) = refl

none_join : (a : Result (List ℕ) RunFault) → join_texts (Ok []) a ≡ a
none_join (Ok a) = refl
none_join (Err x) = refl

-- one more result
pub texts_more : {X : Type 0} (bytes : X → List ℕ) (results : List (Result X RunFault)) (one : Result X RunFault)
    → texts_of bytes (results ++ one ∷ []) ≡ join_texts (texts_of bytes results) (text_of bytes one)
texts_more bytes [] one = join_none (text_of bytes one) ∙ sym (none_join (text_of bytes one))
texts_more bytes (first ∷ rest) one =
    ap (join_texts (text_of bytes first)) (texts_more bytes rest one)
    ∙ sym (join_three (text_of bytes first) (texts_of bytes rest) (text_of bytes one))

-- two texts that were joined
pub joined_parts : (a b : Result (List ℕ) RunFault) (text : List ℕ) → join_texts a b ≡ Ok text
    → (before : List ℕ) × (part : List ℕ) × (a ≡ Ok before) × (b ≡ Ok part) × (text ≡ before ++ part)
joined_parts (Ok before) (Ok part) text is = let whole : before ++ part ≡ text = cc in (before, part, refl, refl, sym whole)
joined_parts (Ok before) (Err fault) text is = absurd (cc)
joined_parts (Err fault) (Ok part) text is = absurd (cc)
joined_parts (Err fault) (Err second) text is = absurd (cc)

-- the fault `OutOfMemory` may come in place of any result
spared : (fault : RunFault) (specified : Result (List ℕ) RunFault) → fault ≡ faults.OutOfMemory → IsFaultIfAllocated (run_fault fault) specified
spared faults.OutOfMemory specified is = search
spared faults.Refused specified is = absurd (cc)

-- a fault that is specified
told : (fault : RunFault) (specified : Result (List ℕ) RunFault) → specified ≡ Err fault → IsFaultIfAllocated (run_fault fault) specified
told faults.OutOfMemory specified is = search
told faults.Refused specified is = is

-- what is said of the results so far, and of one more
joined_two : {X : Type 0} (bytes : X → List ℕ) (said : Result (List ℕ) RunFault) (one : Result X RunFault) (outcome appended : Result ⊤ RunFault) (old new : List ℕ)
    → IsAsSpecifiedIfAllocated run_fault (λ _. old) outcome said
    → MatchResult one (λ text. MatchResult appended (λ _. new ≡ old ++ bytes text) (λ fault. fault ≡ faults.OutOfMemory)) (λ fault. appended ≡ Err fault)
    → IsAsSpecifiedIfAllocated run_fault (λ _. new) (join_results outcome appended) (join_texts said (text_of bytes one))
joined_two bytes said (Ok text) (Ok _) (Ok _) old new known is = ap (λ s. join_texts s (Ok (bytes text))) known ∙ ap Ok (sym is)
joined_two bytes said (Ok text) (Ok _) (Err fault) old new known is = spared fault (join_texts said (Ok (bytes text))) is
joined_two bytes said (Err fault) (Ok _) (Ok _) old new known is = absurd (cc)
joined_two bytes said (Err fault) (Ok _) (Err second) old new known is =
    let same : fault ≡ second = cc in
    told second (join_texts said (Err fault)) (ap (λ s. join_texts s (Err fault)) known ∙ ap Err same)
joined_two bytes said (Ok text) (Err faults.OutOfMemory) (Ok _) old new known is = search
joined_two bytes said (Ok text) (Err faults.OutOfMemory) (Err fault) old new known is = search
joined_two bytes said (Err second) (Err faults.OutOfMemory) (Ok _) old new known is = absurd (cc)
joined_two bytes said (Err second) (Err faults.OutOfMemory) (Err fault) old new known is = search
joined_two bytes said (Ok text) (Err faults.Refused) (Ok _) old new known is = ap (λ s. join_texts s (Ok (bytes text))) known
joined_two bytes said (Ok text) (Err faults.Refused) (Err fault) old new known is = spared fault (join_texts said (Ok (bytes text))) is
joined_two bytes said (Err second) (Err faults.Refused) (Ok _) old new known is = absurd (cc)
joined_two bytes said (Err second) (Err faults.Refused) (Err fault) old new known is =
    let same : second ≡ fault = cc in
    told fault (join_texts said (Err second)) (ap (λ s. join_texts s (Err second)) known ∙ ap Err same)

-- one more result was joined
pub joined_more : {X : Type 0} (results : List (Result X RunFault)) (bytes : X → List ℕ) (one : Result X RunFault) (outcome appended next : Result ⊤ RunFault) (old new : List ℕ)
    → next ≡ join_results outcome appended
    → IsAsSpecifiedIfAllocated run_fault (λ _. old) outcome (texts_of bytes results)
    → MatchResult one (λ text. MatchResult appended (λ _. new ≡ old ++ bytes text) (λ fault. fault ≡ faults.OutOfMemory)) (λ fault. appended ≡ Err fault)
    → IsAsSpecifiedIfAllocated run_fault (λ _. new) next (texts_of bytes (results ++ one ∷ []))
joined_more results bytes one outcome appended next old new is before later =
    rw (is, texts_more bytes results one) (joined_two bytes (texts_of bytes results) one outcome appended old new before later)

-- all results were joined
pub joined_all : {X : Type 0} (results joined : List (Result X RunFault)) (bytes : X → List ℕ) (outcome returned : Result ⊤ RunFault) (text : List ℕ)
    → joined ≡ results → outcome ≡ returned
    → IsAsSpecifiedIfAllocated run_fault (λ _. text) outcome (texts_of bytes joined)
    → IsAsSpecifiedIfAllocated run_fault (λ _. text) returned (texts_of bytes results)
joined_all {X = X} results joined bytes outcome returned text all is so =
    subst (λ (o : Result ⊤ RunFault). IsAsSpecifiedIfAllocated run_fault (λ _. text) o (texts_of bytes results)) is
    (subst (λ (rs : List (Result X RunFault)). IsAsSpecifiedIfAllocated run_fault (λ _. text) outcome (texts_of bytes rs)) all so)
