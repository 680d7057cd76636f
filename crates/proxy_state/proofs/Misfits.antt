-- The first place of the unseen rows that does not fit, and the first version of disagreement.
use Rattle.std.proofs.Common.{◌≡◌, refl, sym, ap, ◌∙◌, ℕ, zero, suc, ◌+◌, ◌*◌, ◌<◌, ◌≤◌, List, [], ◌∷◌, map, length, filter, Bool, true, false, not, nat_le, slice_get, Some, None, option_map, arith}
use Rattle.std.proofs.Math.Nat.{suc-mul}
use Rattle.std.proofs.lemmas.Bool.{and_parts, leb-true}
use Rattle.std.proofs.lemmas.Option.{slice_get-map}
use Rattle.std.specs.List.{list_all}
use Rattle.model.specs.Configs.{Config}
use Rattle.model.specs.declared.unseen.UnseenRow.{UnseenRow}
use Rattle.model.specs.declared.reply.Reply.{Reply}
use Rattle.model.specs.Records.{Record}
use Rattle.model.specs.Shares.{share, each_below}
use Rattle.model.specs.Finishing.{Replies, reply_from, row_from, unseen_of_reply, row_fits, version_at, place_fits, place_fits_by, misfits, is_reply_to, are_replies_to, disagreements}
use Rattle.proxy_state.specs.declared.begun_record.BegunRecord.{BegunRecord}
use Rattle.proxy_state.specs.Learning.{AskedAreKept, count_parts_for, has_reply_numbers}
use Rattle.proxy_state.proofs.AskedParts.{share_counted}
use Rattle.proxy_state.proofs.BelowLaws.{none_next, first_passing}

-- ---- a place that fits

row_there : (rows : List UnseenRow) (k : ℕ) → k < length rows → (row : UnseenRow) × (slice_get rows k ≡ Some row)
row_there [] k within = absurd (omega arith)
row_there (row ∷ rows) zero within = (row, refl)
row_there (row ∷ rows) (suc k) within = row_there rows k (omega arith)

-- if resolver 0 has a row there, its version is not above the end
pub fit_within : (config : Config) (version end : ℕ) (replies : Replies) (k : ℕ) → k < length (unseen_of_reply (reply_from replies 0)) → place_fits config version end replies k ≡ true → version_at config.step version k ≤ end
fit_within config version end replies k within fits =
    let there = row_there (unseen_of_reply (reply_from replies 0)) k within in
    let fit : place_fits_by config version end replies k (Some there.0) ≡ true = ap (place_fits_by config version end replies k) (sym there.1) ∙ fits in
    leb-true (version_at config.step version k) end (and_parts (nat_le (version_at config.step version k) end) (list_all (λ r. row_fits (version_at config.step version k) (length there.0.states) r (row_from replies k r)) (each_below config.resolvers)) fit).0

-- the version of the next place
pub version_next : (step version before k : ℕ) → before ≡ version + k * step → before + step ≡ version_at step version k
version_next step version before k is = omega (arith, is, suc-mul k step)

-- ---- the first that does not

pub misfit_first : (config : Config) (version end before : ℕ) (replies : Replies) (k : ℕ) → k < suc (length (unseen_of_reply (reply_from replies 0))) → filter (λ i. not (place_fits config version end replies i)) (each_below k) ≡ [] → place_fits config version end replies k ≡ false → before ≡ version + k * config.step
    → Some (before + config.step) ≡ slice_get (map (version_at config.step version) (misfits config version end replies)) 0
misfit_first config version end before replies k within none fails is =
    sym (
    slice_get-map (version_at config.step version) (misfits config version end replies) 0
    ∙ ap (option_map (version_at config.step version)) (first_passing (λ i. not (place_fits config version end replies i)) (suc (length (unseen_of_reply (reply_from replies 0)))) k within none (ap (λ (t : Bool). not t) fails))
    ∙ ap (λ (v : ℕ). Some v) (sym (version_next config.step version before k is))
    )

pub misfit_none : (config : Config) (version end : ℕ) (replies : Replies) → filter (λ i. not (place_fits config version end replies i)) (each_below (length (unseen_of_reply (reply_from replies 0)))) ≡ [] → place_fits config version end replies (length (unseen_of_reply (reply_from replies 0))) ≡ true
    → None ≡ slice_get (map (version_at config.step version) (misfits config version end replies)) 0
misfit_none config version end replies none fits =
    let all : misfits config version end replies ≡ [] = none_next (λ i. not (place_fits config version end replies i)) (length (unseen_of_reply (reply_from replies 0))) (suc (length (unseen_of_reply (reply_from replies 0)))) refl none (ap (λ (t : Bool). not t) fits) in
    sym (ap (λ (places : List ℕ). slice_get (map (version_at config.step version) places) 0) all)

pub disagree_rows : (config : Config) (version : ℕ) (rec : Record) (replies : Replies) → are_replies_to config rec replies ≡ true → slice_get (map (version_at config.step version) (misfits config version rec.previous replies)) 0 ≡ slice_get (disagreements config version rec replies) 0
unfolding disagreements
disagree_rows config version rec replies all = rw all refl

pub disagree_record : (config : Config) (version : ℕ) (rec : Record) (replies : Replies) → are_replies_to config rec replies ≡ false → Some rec.version ≡ slice_get (disagreements config version rec replies) 0
unfolding disagreements
disagree_record config version rec replies some = rw some refl

-- ---- one reply

pub reply_numbers : (config : Config) (begun : BegunRecord) (r : ℕ) (reply : Reply) → AskedAreKept config begun → r < config.resolvers → has_reply_numbers begun.rec r (count_parts_for r begun.asked) reply ≡ is_reply_to config begun.rec r (Some reply)
reply_numbers config begun r reply asking below =
    let count : count_parts_for r begun.asked ≡ length (share config begun.rec r) = ap (count_parts_for r) asking ∙ sym (share_counted config begun.rec r below) in
    ap (λ (n : ℕ). has_reply_numbers begun.rec r n reply) count
