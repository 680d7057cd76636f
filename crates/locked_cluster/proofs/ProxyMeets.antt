-- The journals of two proxies whose records agree.
use Rattle.std.proofs.Common.{◌≡◌, sym, ap, ◌∙◌, subst, ℕ, ◌*◌, ◌≤◌, List, length, take, arith}
use Rattle.facts.specs.Stretches.{Agree, Stretch, StretchesAgree}
use Rattle.model.specs.Configs.{Config}
use Rattle.model.specs.Records.{Record}
use Rattle.model.specs.Journal.{history_verdicts, journal}
use Rattle.model.proofs.Agreement.Sources.{journal_take}
use Rattle.model.proofs.Verdicts.Places.{take-take_le}
use Rattle.locked_cluster.specs.Proxies.{LockedProxyView, IsLockedProxy}
use Rattle.locked_resolvers.proofs.Lists.{first_same, take_all}
use Rattle.locked_cluster.proofs.ProxyRows.{fewer_rows, first_rows, journal_of, known_count, known_history, known_records}

-- the journal of the proxy that has come no further has no more rows
journal_within : (config : Config) (a b : LockedProxyView) → IsLockedProxy config a → IsLockedProxy config b → a.proxy.version ≤ b.proxy.version → length a.proxy.journal ≤ length b.proxy.journal
journal_within config a b keeps kept less =
    fewer_rows (length a.proxy.journal) (length b.proxy.journal) config.step keeps.config_is.step.0 (subst (λ (n : ℕ). n ≤ length b.proxy.journal * config.step) keeps.version (subst (λ (n : ℕ). a.proxy.version ≤ n) kept.version less))

-- the records that it knows up to its version are the first of those that the other knows up to its own
pub known_begin : (config : Config) (a b : LockedProxyView) → IsLockedProxy config a → IsLockedProxy config b → Agree 0 a.records 0 b.records → a.proxy.version ≤ b.proxy.version → known_records a ≡ take (length a.proxy.journal) (known_records b)
known_begin config a b keeps kept agree less =
    first_same (length a.proxy.journal) a.records b.records agree keeps.agreed.rows (let there = kept.agreed.rows in omega (arith, there, rows))
    ∙ sym (take-take_le b.records (length a.proxy.journal) (length b.proxy.journal) rows)
  where
    rows : length a.proxy.journal ≤ length b.proxy.journal
    rows = journal_within config a b keeps kept less

-- and they are fewer, or as many
pub known_within : (config : Config) (a b : LockedProxyView) → IsLockedProxy config a → IsLockedProxy config b → a.proxy.version ≤ b.proxy.version → length a.proxy.journal ≤ length (known_records b)
known_within config a b keeps kept less =
    let count = known_count config b kept in
    let rows = journal_within config a b keeps kept less in
    omega (arith, count, rows)

-- its journal begins that of the other
pub begins_other : (config : Config) (a b : LockedProxyView) → IsLockedProxy config a → IsLockedProxy config b → Agree 0 a.records 0 b.records → a.proxy.version ≤ b.proxy.version → a.proxy.journal ≡ take (length a.proxy.journal) b.proxy.journal
begins_other config a b keeps kept agree less =
    journal_of config a keeps
    ∙ ap (λ (h : List Record). journal config (history_verdicts config h) h) (known_begin config a b keeps kept agree less)
    ∙ sym (first_rows config (known_records b) (length a.proxy.journal) (known_history config b kept) (known_within config a b keeps kept less))
    ∙ sym (journal_take config (history_verdicts config (known_records b)) (known_records b) (length a.proxy.journal))
    ∙ ap (take (length a.proxy.journal)) (sym (journal_of config b kept))

-- at one version it is the same
pub same_journal : (config : Config) (a b : LockedProxyView) → IsLockedProxy config a → IsLockedProxy config b → Agree 0 a.records 0 b.records → a.proxy.version ≡ b.proxy.version → a.proxy.journal ≡ b.proxy.journal
same_journal config a b keeps kept agree same =
    begins_other config a b keeps kept agree (omega (arith, same)) ∙ take_all b.proxy.journal (length a.proxy.journal) back
  where
    back : length b.proxy.journal ≤ length a.proxy.journal
    back = fewer_rows (length b.proxy.journal) (length a.proxy.journal) config.step keeps.config_is.step.0 (let mine = keeps.version in let theirs = kept.version in omega (arith, mine, theirs, same))

-- what agrees one way agrees the other way
pub agree_back : {X : Type 0} (xs ys : List X) → Agree 0 xs 0 ys → Agree 0 ys 0 xs
agree_back xs ys agree i j x y at at_x at_y = sym (agree j i y x (sym at) at_y at_x)

-- two stretches from row 0 agree as lists
pub agree_lists : {X : Type 0} (s t : Stretch X) (xs ys : List X) → s ≡ record { first = 0; known = xs } → t ≡ record { first = 0; known = ys } → StretchesAgree s t → Agree 0 xs 0 ys
agree_lists {X} s t xs ys is other agree =
    subst (λ (u : Stretch X). Agree u.first u.known 0 ys) is (subst (λ (w : Stretch X). Agree s.first s.known w.first w.known) other agree)
