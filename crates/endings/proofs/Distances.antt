-- Each proxy knows the first rows of the journal of the whole history.
use Rattle.std.proofs.Common.{◌≡◌, refl, sym, ap, ◌∙◌, subst, ℕ, zero, suc, ◌+◌, ◌≤◌, List, [], ◌∷◌, ◌++◌, length, take, drop, fold, Bool, true, false, cond, nat_eq, nat_le, slice_get, slice_index, Some, take-append-drop, length-append, arith}
use Rattle.std.proofs.lemmas.Bool.{le-leb, leb-true, eq-eqb}
use Rattle.std.proofs.lemmas.List.{take-take, length-take-le, nil_from_length}
use Rattle.std.proofs.lemmas.List.Sums.{fold-append}
use Rattle.std.proofs.lemmas.Option.{slice_get_within}
use Rattle.model.specs.Configs.{Config, IsConfig}
use Rattle.model.specs.declared.journal.JournalRow.{JournalRow}
use Rattle.model.specs.Records.{Record, last_version, records_of_proxy}
use Rattle.model.specs.Journal.{history_verdicts, journal}
use Rattle.model.specs.Metadata.{metadata, after_journal_row}
use Rattle.model.specs.World.{World, IsSound, finished_version, up_to_version, rows_up_to, proxy_journal}
use Rattle.model.proofs.Agreement.Sources.{journal_take}
use Rattle.model.proofs.History.Chain.{element_at, up_to_front_are}
use Rattle.model.proofs.History.Growth.{records_of_proxy-append}
use Rattle.model.proofs.Owners.Moves.{last_version_at}
use Rattle.model.proofs.Verdicts.Places.{row_at}
use Rattle.model.proofs.Worlds.Runs.{OwnPlace, own_place, finished_within}
use Rattle.endings.specs.Distances.{rows_known, NothingFinishedNothingKnown, AProxyKnowsUpToItsLastRecord, EachJournalIsAPrefix, TheOneAheadHasTheJournalOfTheOther, TheOneAheadHasTheMetadataOfTheOther, TheLaterVersionKnowsMore, ItLacksItsUnfinishedRecords, OnceFinishedItLacksOnlyOthers}

take_next : {X : Type 0} (xs : List X) (k : ℕ) (x : X) → slice_get xs k ≡ Some x → take (suc k) xs ≡ take k xs ++ x ∷ []
take_next [] k x at = absurd (cc)
take_next (y ∷ ys) zero x at = let same : y ≡ x = cc in ap (λ z. z ∷ []) same
take_next (y ∷ ys) (suc k) x at = ap (λ zs. y ∷ zs) (take_next ys k x at)

-- ---- the rows that a proxy knows

-- proxy p, which has finished this number of records, knows the first n rows, and of its own exactly these
pub record Knows (w : World) (p done n : ℕ) : Type 0 where
  pub within : n ≤ length w.history
  pub up_to : up_to_version (last_version (take done (records_of_proxy p w.history))) w.history ≡ take n w.history
  pub own : records_of_proxy p (take n w.history) ≡ take done (records_of_proxy p w.history)

knows_none : (config : Config) (w : World) (p : ℕ) → IsConfig config → IsSound config w → Knows w p 0 0
knows_none config w p limits sound = record {
  within = omega arith;
  up_to = up_to_front_are config w.history 0 limits.step.0 sound.sequencer.history (omega arith);
  own = refl;
}

knows_some : (config : Config) (w : World) (p done : ℕ) (rec : Record) → IsConfig config → IsSound config w → slice_get (records_of_proxy p w.history) done ≡ Some rec → Knows w p (suc done) (suc rec.row)
knows_some config w p done rec limits sound at = subst (λ (row : ℕ). Knows w p (suc done) (suc row)) (sym (row_at config w.history place.i rec sound.sequencer.history place.at)) (record {
  within = within;
  up_to = ap (λ (version : ℕ). up_to_version version w.history) (last_version_at (records_of_proxy p w.history) done rec at ∙ sym (last_version_at w.history place.i rec place.at)) ∙ up_to_front_are config w.history (suc place.i) limits.step.0 sound.sequencer.history within;
  own =
      ap (records_of_proxy p) (take_next w.history place.i rec place.at)
      ∙ records_of_proxy-append p (take place.i w.history) (rec ∷ [])
      ∙ (λ i. place.earlier i ++ alone i)
      ∙ sym (take_next (records_of_proxy p w.history) done rec at);
})
  where
    place : OwnPlace p w.history done rec
    place = own_place p w.history done rec at

    within : suc place.i ≤ length w.history
    within = slice_get_within w.history place.i rec place.at

    alone : records_of_proxy p (rec ∷ []) ≡ rec ∷ []
    alone = let own : nat_eq rec.proxy p ≡ true = eq-eqb rec.proxy p place.own in rw own refl

-- what a proxy knows, by how many records it has finished
knows_done : (config : Config) (w : World) (p done : ℕ) → IsConfig config → IsSound config w → done ≤ length (records_of_proxy p w.history) → (n : ℕ) × Knows w p done n
knows_done config w p zero limits sound up_to = (0, knows_none config w p limits sound)
knows_done config w p (suc done) limits sound up_to = let last = element_at (records_of_proxy p w.history) done (omega arith) in (suc last.0.row, knows_some config w p done last.0 limits sound last.1)

count_is : (w : World) (p n : ℕ) → Knows w p (slice_index w.finished p) n → rows_known w p ≡ n
count_is w p n knows = ap length knows.up_to ∙ length-take-le n w.history knows.within

pub known : (config : Config) (w : World) (p : ℕ) → IsConfig config → IsSound config w → Knows w p (slice_index w.finished p) (rows_known w p)
known config w p limits sound =
    let found = knows_done config w p (slice_index w.finished p) limits sound (finished_within config w p sound) in
    subst (Knows w p (slice_index w.finished p)) (sym (count_is w p found.0 found.1)) found.1

pub none_known : NothingFinishedNothingKnown
none_known config w p limits sound none = count_is w p 0 (subst (λ (done : ℕ). Knows w p done 0) (sym none) (knows_none config w p limits sound))

pub known_up_to : AProxyKnowsUpToItsLastRecord
known_up_to config w p done rec limits sound is at = count_is w p (suc rec.row) (subst (λ (d : ℕ). Knows w p d (suc rec.row)) (sym is) (knows_some config w p done rec limits sound at))

-- a proxy knows no more rows than there are
pub known_within : (config : Config) (w : World) (p : ℕ) → IsConfig config → IsSound config w → rows_known w p ≤ length w.history
known_within config w p limits sound = (known config w p limits sound).within

-- ---- journals

pub journal_is_prefix : EachJournalIsAPrefix
unfolding proxy_journal
journal_is_prefix config w p limits sound =
    ap (journal config (history_verdicts config w.history)) (known config w p limits sound).up_to
    ∙ sym (journal_take config (history_verdicts config w.history) w.history (rows_known w p))

prefix_of : (config : Config) (w : World) (p q : ℕ) → IsConfig config → IsSound config w → rows_known w p ≤ rows_known w q → take (rows_known w p) (proxy_journal config w q) ≡ proxy_journal config w p
prefix_of config w p q limits sound fewer =
    ap (take (rows_known w p)) (journal_is_prefix config w q limits sound)
    ∙ take-take (rows_known w p) (rows_known w q) (journal config (history_verdicts config w.history) w.history) fewer
    ∙ sym (journal_is_prefix config w p limits sound)

pub ahead_journal : TheOneAheadHasTheJournalOfTheOther
ahead_journal config w p q limits sound fewer =
    sym (take-append-drop (rows_known w p) (proxy_journal config w q))
    ∙ ap (λ (rows : List JournalRow). rows ++ drop (rows_known w p) (proxy_journal config w q)) (prefix_of config w p q limits sound fewer)

pub ahead_metadata : TheOneAheadHasTheMetadataOfTheOther
unfolding metadata
ahead_metadata config w p q limits sound fewer =
    ap (λ (rows : List JournalRow). fold after_journal_row [] rows) (ahead_journal config w p q limits sound fewer)
    ∙ fold-append after_journal_row [] (proxy_journal config w p) (drop (rows_known w p) (proxy_journal config w q))

-- ---- the later version

pub up_to_more : (low high : ℕ) (h : List Record) → low ≤ high → rows_up_to low h ≤ rows_up_to high h
up_to_more low high [] order = omega arith
up_to_more low high (rec ∷ h) order = by (nat_le rec.version low) refl (nat_le rec.version high) refl (up_to_more low high h order)
  where
    by : (s : Bool) → nat_le rec.version low ≡ s → (t : Bool) → nat_le rec.version high ≡ t → rows_up_to low h ≤ rows_up_to high h → length (cond s (rec ∷ up_to_version low h) (up_to_version low h)) ≤ length (cond t (rec ∷ up_to_version high h) (up_to_version high h))
    by true under true below rest = omega (arith, rest)
    by false over true below rest = omega (arith, rest)
    by false over false above rest = rest
    by true under false above rest = let up : rec.version ≤ low = leb-true rec.version low under in let yes : nat_le rec.version high ≡ true = le-leb rec.version high (omega arith) in absurd (cc)

pub later_knows_more : TheLaterVersionKnowsMore
later_knows_more w p q order = up_to_more (finished_version w p) (finished_version w q) w.history order

-- ---- the rows that a proxy lacks

pub lacks_unfinished : ItLacksItsUnfinishedRecords
lacks_unfinished config w p limits sound =
    let knows = known config w p limits sound in
    let n : ℕ = rows_known w p in
    let parts : length (records_of_proxy p w.history) ≡ length (records_of_proxy p (take n w.history)) + length (records_of_proxy p (drop n w.history)) =
    ap (λ (h : List Record). length (records_of_proxy p h)) (sym (take-append-drop n w.history)) ∙ ap length (records_of_proxy-append p (take n w.history) (drop n w.history)) ∙ length-append (records_of_proxy p (take n w.history)) (records_of_proxy p (drop n w.history)) in
    let own : length (records_of_proxy p (take n w.history)) ≡ slice_index w.finished p = ap length knows.own ∙ length-take-le (slice_index w.finished p) (records_of_proxy p w.history) (finished_within config w p sound) in
    omega (arith, parts, own)

pub lacks_others : OnceFinishedItLacksOnlyOthers
lacks_others config w p limits sound there all = nil_from_length (records_of_proxy p (drop (rows_known w p) w.history)) (omega (arith, lacks_unfinished config w p limits sound, all p there))
