-- Texts of several parts.
use Rattle.std.proofs.Common.{◌≡◌, ◌++◌, ◌+◌, ◌∙◌, ◌<◌, [], ℕ, zero, suc, List, refl, sym, ap, add-one, append_assoc, arith}
use Rattle.std.specs.Prelude.{slice_get, Some}
use Rattle.std.proofs.lemmas.List.{append-nil}
use Rattle.model.specs.Configs.{Config}
use Rattle.model.specs.Stamps.{AdmittedTransaction}
use Rattle.threads_lines.specs.Answers.{AreClosingLines, AreWorkLines, IsBatchLine, IsLineOf}
use Rattle.threads_lines.specs.Histories.{Known}
use Rattle.threads_lines.specs.Lines.{batch_line}
use Rattle.threads_lines.specs.Parts.{GrowsBy, IsInParts, IsInTurns}
use Rattle.threads_lines.specs.Threads.{AreAnswerLines}

-- no part was printed yet
pub no_part : (IsPart : ℕ → List ℕ → Type 0) (old : List ℕ) → GrowsBy (IsInParts IsPart 0) old old
no_part IsPart old = ([], refl, sym (append-nil old))

-- one more part was printed
pub one_more_part : (IsPart : ℕ → List ℕ → Type 0) (count : ℕ) (old between new : List ℕ)
    → GrowsBy (IsInParts IsPart count) old between → GrowsBy (IsPart count) between new
    → GrowsBy (IsInParts IsPart (count + 1)) old new
one_more_part IsPart count old between new earlier later =
    let (before, parts, first) = earlier in
    let (part, is, last) = later in
    (before ++ part, rw add-one (before, part, parts, is, refl), last ∙ ap (λ text. text ++ part) first ∙ append_assoc old before part)

-- ---- turns

-- none was printed yet
pub no_turn : {K : Type 0} (IsTurn : ℕ → K → K → List ℕ → Type 0) (first : K) (old : List ℕ) → GrowsBy (IsInTurns IsTurn first 0 first) old old
no_turn IsTurn first old = ([], (refl, refl), sym (append-nil old))

-- one more was printed
pub one_more_turn : {K : Type 0} (IsTurn : ℕ → K → K → List ℕ → Type 0) (first between last : K) (count : ℕ) (old middle new : List ℕ)
    → GrowsBy (IsInTurns IsTurn first count between) old middle → GrowsBy (IsTurn count between last) middle new
    → GrowsBy (IsInTurns IsTurn first (count + 1) last) old new
one_more_turn IsTurn first between last count old middle new sooner later =
    let (earlier, turns, start) = sooner in
    let (part, is, end) = later in
    (earlier ++ part, rw add-one (between, earlier, part, turns, is, refl), end ∙ ap (λ text. text ++ part) start ∙ append_assoc old earlier part)

-- turns that are as one predicate says, and so as another says
pub turns_weaker : {K : Type 0} (IsTurn Is : ℕ → K → K → List ℕ → Type 0) (first : K) (count : ℕ) (last : K) (text : List ℕ)
    → ((n : ℕ) (before after : K) (part : List ℕ) → n < count → IsTurn n before after part → Is n before after part)
    → IsInTurns IsTurn first count last text → IsInTurns Is first count last text
turns_weaker IsTurn Is first zero last text weaker are = are
turns_weaker IsTurn Is first (suc count) last text weaker are =
    let (between, earlier, part, sooner, is, text_is) = are in (
      between,
      earlier,
      part,
      turns_weaker IsTurn Is first count between earlier (λ n before after each below known. weaker n before after each (omega (arith, below)) known) sooner,
      weaker count between last part (omega arith) is,
      text_is,
    )

-- one more batch was answered
pub one_more_batch : (config : Config) (rows : ℕ) (p : ℕ) (batches : List (List AdmittedTransaction)) (first between last : Known) (count : ℕ) (batch : List AdmittedTransaction) (old middle new : List ℕ)
    → slice_get batches count ≡ Some batch
    → GrowsBy (IsInTurns (IsBatchLine config rows p batches) first count between) old middle → GrowsBy (IsLineOf config rows p (batch_line p count) batch between last) middle new
    → GrowsBy (IsInTurns (IsBatchLine config rows p batches) first (count + 1) last) old new
one_more_batch config rows p batches first between last count batch old middle new there earlier later =
    let (part, is, end) = later in
    one_more_turn (IsBatchLine config rows p batches) first between last count old middle new earlier (part, (batch, there, is), end)

-- the lines of all batches, and then those of the closings
pub all_answer_lines : (config : Config) (rows : ℕ) (work : List (List (List AdmittedTransaction))) (proxies : ℕ) (between known : Known) (old new : List ℕ)
    → AreWorkLines config rows work between old → GrowsBy (AreClosingLines config rows proxies between known) old new
    → AreAnswerLines config rows work proxies known new
all_answer_lines config rows work proxies between known old new answered later =
    let (closings, closed, last) = later in
    record { between = between; batches = old; closings = closings; answered = answered; closed = closed; text_is = last }
