-- Threads that are started and joined, one for each proxy. `number` is the proxy of a thread, and
-- `batches` those that it commits.
use Rattle.std.specs.Prelude.{◌≡◌, ℕ, List, slice_get, Some, ◌++◌, Result, Ok, IfOk}
use Rattle.model.specs.Configs.{Config}
use Rattle.model.specs.Numbers.{ProxyNumber}
use Rattle.model.specs.Stamps.{AdmittedTransaction}
use Rattle.threads_lines.specs.Answers.{AreClosingLines, AreWorkLines}
use Rattle.threads_lines.specs.Histories.{Joins, Known}
use Rattle.threads_lines.specs.declared.faults.RunFault.{RunFault}

-- each number is its place
abbrev pub AreInPlace : (numbers : List ProxyNumber) → Type 0
AreInPlace numbers = (p number : ℕ) → slice_get numbers p ≡ Some number → number ≡ p

-- each thread is of the proxy at its place, and of the batches that stand there
abbrev pub AreInOrder :
    {X : Type 0} → (threads : List X) → (number : X → ProxyNumber)
    → (batches : X → List (List AdmittedTransaction))
    → (work : List (List (List AdmittedTransaction))) → Type 0
AreInOrder threads number batches work =
    (p : ℕ) (thread : _) → slice_get threads p ≡ Some thread
    → (number thread ≡ p) × (slice_get work p ≡ Some (batches thread))

-- each thread returned what it promises, if it did not fail; `Keeps` says what is promised for these
-- batches of this proxy
abbrev pub KeepPromises :
    {X Y : Type 0} → (Keeps : ProxyNumber → List (List AdmittedTransaction) → Y → Type 0)
    → (threads : List X) → (number : X → ProxyNumber)
    → (batches : X → List (List AdmittedTransaction)) → (returned : List (Result Y RunFault))
    → Type 0
KeepPromises Keeps threads number batches returned =
    (place : ℕ) (thread : _) (one : _) → slice_get threads place ≡ Some thread
    → slice_get returned place ≡ Some one
    → IfOk one (Keeps (number thread) (batches thread))

-- the thread at this place returned this text, and what it knew is known too; `bytes` and `known` say
-- which they are
abbrev pub IsTextOf :
    {Y : Type 0} → (bytes : Y → List ℕ) → (known : Y → Known)
    → (returned : List (Result Y RunFault)) → (place : ℕ) → (before after : Known)
    → (text : List ℕ) → Type 0
IsTextOf bytes known returned place before after text =
    (one : _) × (slice_get returned place ≡ Some (Ok one)) × Joins (known one) before after
    × (text ≡ bytes one)

-- the lines of answers to the batches that the proxies commit, and then of those to the closings of so
-- many proxies
pub record AreAnswerLines
    (config : Config)
    (rows : ℕ)
    (work : List (List (List AdmittedTransaction)))
    (proxies : ℕ)
    (known : Known)
    (text : List ℕ) : Type 0 where
  pub between : Known
  pub batches : List ℕ
  pub closings : List ℕ
  pub answered : AreWorkLines config rows work between batches
  pub closed : AreClosingLines config rows proxies between known closings
  pub text_is : text ≡ batches ++ closings
