-- Threads that are started and joined, one for each proxy.
use Rattle.std.proofs.Common.{◌≡◌, ◌++◌, ◌+◌, ◌∙◌, ◌<◌, [], ◌∷◌, ℕ, zero, suc, List, refl, sym, ap, subst, drop, length, inl, inr, arith}
use Rattle.std.specs.Prelude.{◌⊎◌, ⊤, slice_get, Some, Result, Ok, Err, IfOk, OnOk, MatchResult}
use Rattle.std.proofs.lemmas.Option.{same_Some}
use Rattle.model.proofs.History.Chain.{element_at}
use Rattle.model.specs.Stamps.{AdmittedTransaction}
use Rattle.model.proofs.History.Growth.{push_cases}
use Rattle.model.specs.Configs.{Config}
use Rattle.threads_lines.specs.Answers.{AreBatchLines, AreLinesOfProxy, AreWorkLines}
use Rattle.threads_lines.specs.Faults.{join_results}
use Rattle.threads_lines.specs.Histories.{Joins, Known, nothing_known}
use Rattle.threads_lines.specs.Parts.{IsInTurns}
use Rattle.threads_lines.specs.Threads.{AreInOrder, AreInPlace, IsTextOf, KeepPromises}
use Rattle.threads_lines.specs.declared.faults.RunFault.{RunFault}
use Rattle.threads_lines.specs.declared.faults.RunFault.TheVariants as faults
use Rattle.threads_lines.proofs.PartLemmas.{turns_weaker}

-- the first of those that are left
pub drop_next : {X : Type 0} (xs : List X) (k : ℕ) (x : X) (rest : List X) → drop k xs ≡ x ∷ rest → (slice_get xs k ≡ Some x) × (drop (k + 1) xs ≡ rest)
drop_next [] zero x rest is = absurd (cc)
drop_next [] (suc k) x rest is = absurd (cc)
drop_next (y ∷ ys) zero x rest is = (cc, let one : zero + 1 ≡ suc zero = omega arith in let tail : ys ≡ rest = cc in ap (λ n. drop n (y ∷ ys)) one ∙ tail)
drop_next (y ∷ ys) (suc k) x rest is =
    let (at, later) = drop_next ys k x rest is in
    let more : suc k + 1 ≡ suc (k + 1) = omega arith in
    (at, ap (λ n. drop n (y ∷ ys)) more ∙ later)

-- a number was put in its place
pub one_more_in_place : (numbers : List ℕ) (number : ℕ) → number ≡ length numbers → AreInPlace numbers → AreInPlace (numbers ++ number ∷ [])
one_more_in_place numbers number is before p found at = by (push_cases numbers number p found at) where
  by : ((p ≡ length numbers) × (number ≡ found)) ⊎ ((p < length numbers) × (slice_get numbers p ≡ Some found)) → found ≡ p
  by (inl (last, same)) = sym same ∙ is ∙ sym last
  by (inr (within, earlier)) = before p found earlier

-- one more thread was started
pub one_more_thread : {X : Type 0} (threads : List X) (number : X → ℕ) (batches : X → List (List AdmittedTransaction)) (work : List (List (List AdmittedTransaction))) (thread : X)
    → number thread ≡ length threads → slice_get work (length threads) ≡ Some (batches thread)
    → AreInOrder threads number batches work → AreInOrder (threads ++ thread ∷ []) number batches work
one_more_thread threads number batches work thread is there before p found at = by (push_cases threads thread p found at) where
  by : ((p ≡ length threads) × (thread ≡ found)) ⊎ ((p < length threads) × (slice_get threads p ≡ Some found)) → (number found ≡ p) × (slice_get work p ≡ Some (batches found))
  by (inl (last, same)) = (ap number (sym same) ∙ is ∙ sym last, ap (slice_get work) last ∙ there ∙ ap (λ t. Some (batches t)) same)
  by (inr (within, earlier)) = before p found earlier

-- one more thread was joined
pub one_more_joined : {X Y : Type 0} (Keeps : ℕ → List (List AdmittedTransaction) → Y → Type 0) (threads : List X) (number : X → ℕ) (batches : X → List (List AdmittedTransaction))
    (returned : List (Result Y RunFault)) (thread : X) (one : Result Y RunFault)
    → slice_get threads (length returned) ≡ Some thread → IfOk one (Keeps (number thread) (batches thread))
    → KeepPromises Keeps threads number batches returned → KeepPromises Keeps threads number batches (returned ++ one ∷ [])
one_more_joined {X = X} {Y = Y} Keeps threads number batches returned thread one here kept before place found result at there = by (push_cases returned one place result there)
  where
    by : ((place ≡ length returned) × (one ≡ result)) ⊎ ((place < length returned) × (slice_get returned place ≡ Some result)) → IfOk result (Keeps (number found) (batches found))
    by (inl (last, same)) =
        let is : thread ≡ found = same_Some thread found (sym here ∙ ap (slice_get threads) (sym last) ∙ at) in
        subst (λ (t : X). IfOk result (Keeps (number t) (batches t))) is
        (subst (λ (r : Result Y RunFault). IfOk r (Keeps (number thread) (batches thread))) same kept)
    by (inr (within, earlier)) = before place found result at earlier

-- what the threads returned is what the proxies are answered
pub work_lines : {X Y : Type 0} (config : Config) (rows : ℕ) (threads : List X) (number : X → ℕ) (batches : X → List (List AdmittedTransaction)) (work : List (List (List AdmittedTransaction)))
    (returned : List (Result Y RunFault)) (bytes : Y → List ℕ) (known : Y → Known) (last : Known) (text : List ℕ)
    → AreInOrder threads number batches work → length threads ≡ length work → length returned ≡ length threads
    → KeepPromises (λ p given one. AreBatchLines config rows p given (known one) (bytes one)) threads number batches returned
    → IsInTurns (IsTextOf bytes known returned) nothing_known (length returned) last text
    → AreWorkLines config rows work last text
work_lines {Y = Y} config rows threads number batches work returned bytes known last text ordered count all kept are =
    subst (λ (n : ℕ). IsInTurns (AreLinesOfProxy config rows work) nothing_known n last text) (all ∙ count)
    (turns_weaker (IsTextOf bytes known returned) (AreLinesOfProxy config rows work) nothing_known (length returned) last text of_proxy are)
  where
    of_proxy : (p : ℕ) (before after : Known) (part : List ℕ) → p < length returned → IsTextOf bytes known returned p before after part → AreLinesOfProxy config rows work p before after part
    of_proxy p before after part below of_thread =
        let (one, at, joins, is) = of_thread in
        let (thread, there) = element_at threads p (omega (arith, below, all)) in
        let (same, given) = ordered p thread there in
        let lines : AreBatchLines config rows (number thread) (batches thread) (known one) (bytes one) = kept p thread (Ok one) there at in
        let mine : AreBatchLines config rows p (batches thread) (known one) (bytes one) = subst (λ (n : ℕ). AreBatchLines config rows n (batches thread) (known one) (bytes one)) same lines in
        (batches thread, known one, given, subst (AreBatchLines config rows p (batches thread) (known one)) (sym is) mine, joins)

-- the same if each thread returned a text
pub answered_proxies : {X Y : Type 0} (config : Config) (rows : ℕ) (threads : List X) (number : X → ℕ) (batches : X → List (List AdmittedTransaction)) (work : List (List (List AdmittedTransaction)))
    (returned : List (Result Y RunFault)) (result : Result Y RunFault) (bytes : Y → List ℕ) (known : Y → Known)
    → AreInOrder threads number batches work → length threads ≡ length work → length returned ≡ length threads
    → KeepPromises (λ p given one. AreBatchLines config rows p given (known one) (bytes one)) threads number batches returned
    → IfOk result (λ answered. IsInTurns (IsTextOf bytes known returned) nothing_known (length returned) (known answered) (bytes answered))
    → IfOk result (λ answered. AreWorkLines config rows work (known answered) (bytes answered))
answered_proxies config rows threads number batches work returned (Ok answered) bytes known ordered count all kept are =
    work_lines config rows threads number batches work returned bytes known (known answered) (bytes answered) ordered count all kept are
answered_proxies config rows threads number batches work returned (Err fault) bytes known ordered count all kept are = are

-- ---- results that are joined

-- what stands after the front
pub after_front : {X : Type 0} (front rest all : List X) (x : X) → front ++ x ∷ rest ≡ all → slice_get all (length front) ≡ Some x
after_front front rest all x is = subst (λ (xs : List _). slice_get xs (length front) ≡ Some x) is (there front)
  where
    there : (ys : List _) → slice_get (ys ++ x ∷ rest) (length ys) ≡ Some x
    there [] = refl
    there (y ∷ ys) = there ys

-- one more result was joined
pub joined_next : {Y : Type 0} (bytes : Y → List ℕ) (known : Y → Known) (results : List (Result Y RunFault)) (count : ℕ) (one : Result Y RunFault) (between last : Known) (old new : List ℕ)
    (outcome appended next : Result ⊤ RunFault) → next ≡ join_results outcome appended → slice_get results count ≡ Some one
    → IfOk outcome (λ _. IsInTurns (IsTextOf bytes known results) nothing_known count between old)
    → MatchResult one (λ text. MatchResult appended (λ _. new ≡ old ++ bytes text) (λ fault. fault ≡ faults.OutOfMemory)) (λ fault. appended ≡ Err fault)
    → OnOk appended (IfOk one (λ text. Joins (known text) between last))
    → IfOk next (λ _. IsInTurns (IsTextOf bytes known results) nothing_known (suc count) last new)
joined_next {Y = Y} bytes known results count one between last old new outcome appended next is at before text joins =
    subst (λ (r : Result ⊤ RunFault). IfOk r (λ _. IsInTurns (IsTextOf bytes known results) nothing_known (suc count) last new)) (sym is) (by one outcome appended at before text joins)
  where
    by : (r : Result Y RunFault) (o a : Result ⊤ RunFault) → slice_get results count ≡ Some r
        → IfOk o (λ _. IsInTurns (IsTextOf bytes known results) nothing_known count between old)
        → MatchResult r (λ text. MatchResult a (λ _. new ≡ old ++ bytes text) (λ fault. fault ≡ faults.OutOfMemory)) (λ fault. a ≡ Err fault)
        → OnOk a (IfOk r (λ text. Joins (known text) between last))
        → IfOk (join_results o a) (λ _. IsInTurns (IsTextOf bytes known results) nothing_known (suc count) last new)
    by (Ok answered) (Ok _) (Ok _) there turns grown joined = (between, old, bytes answered, turns, (answered, there, joined, refl), grown)
    by (Err fault) (Ok _) (Ok _) there turns grown joined = absurd (cc)
    by r (Ok _) (Err fault) there turns grown joined = search
    by r (Err fault) (Ok _) there turns grown joined = search
    by r (Err fault) (Err second) there turns grown joined = search

-- all results were joined
pub joined_turns : {Y : Type 0} (bytes : Y → List ℕ) (known : Y → Known) (results : List (Result Y RunFault)) (count : ℕ) (last : Known) (text : List ℕ)
    (outcome : Result ⊤ RunFault) (nothing : ⊤) → count ≡ length results → outcome ≡ Ok nothing
    → IfOk outcome (λ _. IsInTurns (IsTextOf bytes known results) nothing_known count last text)
    → IsInTurns (IsTextOf bytes known results) nothing_known (length results) last text
joined_turns bytes known results count last text outcome nothing all is turns =
    subst (λ (n : ℕ). IsInTurns (IsTextOf bytes known results) nothing_known n last text) all
    (subst (λ (o : Result ⊤ RunFault). IfOk o (λ _. IsInTurns (IsTextOf bytes known results) nothing_known count last text)) is turns)
