-- What is collected from the replies of all resolvers to a record.
use Rattle.std.proofs.Common.{◌≡◌, refl, sym, ap, ◌∙◌, subst, ℕ, zero, suc, ◌+◌, ◌-◌, ◌<◌, ◌≤◌, ◌⊎◌, inl, inr, List, [], ◌∷◌, ◌++◌, map, length, take, replicate, slice_get, slice_set, Option, Some, None, option_map, unwrap_or, append-nil, arith}
use Rattle.std.proofs.lemmas.Bool.{cases_order}
use Rattle.std.proofs.lemmas.List.{map-append}
use Rattle.std.proofs.lemmas.Option.{slice_get-map, slice_get_within}
use Rattle.facts.specs.Stretches.{Agree}
use Rattle.model.specs.Configs.{Config}
use Rattle.model.specs.declared.reply.Reply.{Reply}
use Rattle.model.specs.Records.{Record, IsHistory}
use Rattle.model.specs.Journal.{history_verdicts, list_at}
use Rattle.model.specs.World.{reply_of}
use Rattle.model.specs.Agreed.{Column, Columns, IsVerdictColumn}
use Rattle.model.specs.Finishing.{Replies, AreRepliesBy, reply_from}
use Rattle.model.proofs.History.Chain.{element_at}
use Rattle.model.proofs.Proxies.Finishing.{world_replies}
use Rattle.model.proofs.Verdicts.Places.{row_at}
use Rattle.locked_resolvers.specs.NotedReplies.{NotedReplyView, IsNotedReply}
use Rattle.locked_cluster.specs.Ready.{AreRepliesOfAll, IsReady}
use Rattle.locked_resolvers.proofs.Lists.{first_same, take_all, take_next}
use Rattle.locked_cluster.proofs.ProxyColumns.{list_at_is}

-- ---- the places of the replies

-- each reply in the place of its resolver
abbrev pub in_places : List NotedReplyView → Replies
in_places noted = map (λ (n : NotedReplyView). Some n.reply) noted

-- the columns of the replies
abbrev pub columns_in : List NotedReplyView → Columns
columns_in noted = map (λ (n : NotedReplyView). n.column) noted

-- the first replies in their places, and empty places for the others
abbrev pub first_places : List NotedReplyView → (resolvers k : ℕ) → Replies
first_places noted resolvers k = in_places (take k noted) ++ replicate (resolvers - k) None

-- the first of some empty places is filled
fill_first : {X : Type 0} (front : List (Option X)) (more n : ℕ) (x : X) → n ≡ length front → slice_set (front ++ replicate (suc more) None) n (Some x) ≡ (front ++ Some x ∷ []) ++ replicate more None
fill_first [] more zero x is = refl
fill_first [] more (suc n) x is = absurd (omega (arith, is))
fill_first (y ∷ ys) more zero x is = absurd (omega (arith, is))
fill_first (y ∷ ys) more (suc n) x is = ap (λ zs. y ∷ zs) (fill_first ys more n x (omega (arith, is)))

pub count_first : (noted : List NotedReplyView) (k : ℕ) → k ≤ length noted → length (in_places (take k noted)) ≡ k
count_first noted zero within = refl
count_first [] (suc k) within = absurd (omega (arith, within))
count_first (n ∷ noted) (suc k) within = ap (λ m. suc m) (count_first noted k (omega (arith, within)))

pub place_next : (noted : List NotedReplyView) (resolvers k : ℕ) (n : NotedReplyView) → slice_get noted k ≡ Some n → length noted ≡ resolvers → slice_set (first_places noted resolvers k) k (Some n.reply) ≡ first_places noted resolvers (k + 1)
place_next noted resolvers k n at count =
    let within : k < length noted = slice_get_within noted k n at in
    let left : resolvers - k ≡ suc (resolvers - (k + 1)) = omega (arith, within, count) in
    ap (λ (more : ℕ). slice_set (in_places (take k noted) ++ replicate more None) k (Some n.reply)) left
    ∙ fill_first (in_places (take k noted)) (resolvers - (k + 1)) k n.reply (sym (count_first noted k (omega (arith, within))))
    ∙ ap (λ (front : Replies). front ++ replicate (resolvers - (k + 1)) None) (sym (map-append (λ (m : NotedReplyView). Some m.reply) (take k noted) (n ∷ [])) ∙ ap in_places (sym (take_next noted k n at)))

pub columns_next : (noted : List NotedReplyView) (k : ℕ) (n : NotedReplyView) → slice_get noted k ≡ Some n → columns_in (take k noted) ++ n.column ∷ [] ≡ columns_in (take (k + 1) noted)
columns_next noted k n at = sym (map-append (λ (m : NotedReplyView). m.column) (take k noted) (n ∷ [])) ∙ ap columns_in (sym (take_next noted k n at))

pub all_placed : (noted : List NotedReplyView) (resolvers k : ℕ) → length noted ≡ resolvers → length noted ≤ k → first_places noted resolvers k ≡ in_places noted
all_placed noted resolvers k count all =
    let none : resolvers - k ≡ 0 = omega (arith, count, all) in
    ap (λ (more : ℕ). in_places (take k noted) ++ replicate more None) none ∙ append-nil (in_places (take k noted)) ∙ ap in_places (take_all noted k all)

pub columns_count : (noted : List NotedReplyView) (k : ℕ) → k ≤ length noted → length (columns_in (take k noted)) ≡ k
columns_count noted zero within = refl
columns_count [] (suc k) within = absurd (omega (arith, within))
columns_count (n ∷ noted) (suc k) within = ap (λ m. suc m) (columns_count noted k (omega (arith, within)))

-- ---- what each reply says

-- the reply is by its type what it says, and it was made by these records
pub record SaysOf (config : Config) (records : List Record) (n : NotedReplyView) : Type 0 where
  pub noted : IsNotedReply config n
  pub same : n.records ≡ records

-- the first replies are all made by these records
abbrev pub AllSayOf : Config → (records : List Record) (noted : List NotedReplyView) (k : ℕ) → Type 0
AllSayOf config records noted k = (j : ℕ) (n : NotedReplyView) → j < k → slice_get noted j ≡ Some n → SaysOf config records n

pub says_of : (config : Config) (row : ℕ) (records : List Record) (n : NotedReplyView) → length records ≡ row + 1 → n.reply.row ≡ row → IsNotedReply config n → Agree 0 records 0 n.records → SaysOf config records n
says_of config row records n last own noted agree =
    let other = noted.last in
    let both : length n.records ≡ length records = omega (arith, last, own, other) in
    record {
      noted = noted;
      same = sym (sym (take_all records (length records) (omega arith)) ∙ first_same (length records) records n.records agree (omega arith) (omega (arith, both)) ∙ take_all n.records (length records) (omega (arith, both)));
    }

pub say_more : (config : Config) (records : List Record) (noted : List NotedReplyView) (k : ℕ) (n : NotedReplyView) → AllSayOf config records noted k → slice_get noted k ≡ Some n → SaysOf config records n → AllSayOf config records noted (k + 1)
say_more config records noted k n all at says j m below there = by (cases_order j k)
  where
    one : (a b : NotedReplyView) → Some a ≡ Some b → a ≡ b
    one a b both = cc

    by : (j ≡ k) ⊎ ((j < k) ⊎ (k < j)) → SaysOf config records m
    by (inl same) = subst (SaysOf config records) (one n m (sym at ∙ ap (slice_get noted) (sym same) ∙ there)) says
    by (inr (inl less)) = all j m less there
    by (inr (inr more)) = absurd (omega (arith, below, more))

-- ---- all of them

pub is_ready : (config : Config) (row : ℕ) (records : List Record) (noted : List NotedReplyView) (replies : Replies) (columns : Columns) → IsHistory config records → length records ≡ row + 1 → AreRepliesOfAll config row noted → AllSayOf config records noted (length noted) → replies ≡ in_places noted → columns ≡ columns_in noted
    → IsReady config (record { row = row; replies = replies; records = records; columns = columns })
is_ready config row records noted replies columns history last all say replies_are columns_are =
    record {
      rec = rec;
      history = history;
      last = last;
      there = here;
      cells = λ r there.
          let one = at r there in
          let known = (say r one.0 (below r one.0 one.1) one.1).noted.cells in
          let same = ap (λ (rs : List Record). length rs) (say r one.0 (below r one.0 one.1) one.1).same in
          let column = ap (λ (c : Column). length c) (column_at r one.0 one.1) in
          omega (arith, known, same, column);
      verdicts = λ r there.
          let one = at r there in
          let said = say r one.0 (below r one.0 one.1) one.1 in
          subst (IsVerdictColumn config records r) (sym (column_at r one.0 one.1))
          (subst (λ (s : ℕ). IsVerdictColumn config records s one.0.column) (all.each r one.0 one.1).0
          (subst (λ (rs : List Record). IsVerdictColumn config rs one.0.reply.resolver one.0.column) said.same said.noted.verdicts));
      replied =
          subst by_row row_is (world_replies config records rec replies history (ap (slice_get records) row_is ∙ here) (λ r there. reply_at r there));
    }
  where
    found : (rec : Record) × (slice_get records row ≡ Some rec)
    found = element_at records row (omega (arith, last))

    rec : Record
    rec = found.0

    here : slice_get records row ≡ Some rec
    here = found.1

    row_is : rec.row ≡ row
    row_is = row_at config records row rec history here

    by_row : ℕ → Type 0
    by_row k = AreRepliesBy config (history_verdicts config records) (take k records) rec replies

    below : (r : ℕ) (n : NotedReplyView) → slice_get noted r ≡ Some n → r < length noted
    below r n there = slice_get_within noted r n there

    at : (r : ℕ) → r < config.resolvers → (n : NotedReplyView) × (slice_get noted r ≡ Some n)
    at r there = let count = all.count in element_at noted r (omega (arith, there, count))

    column_at : (r : ℕ) (n : NotedReplyView) → slice_get noted r ≡ Some n → list_at columns r ≡ n.column
    column_at r n there =
        ap (λ (cs : Columns). list_at cs r) columns_are
        ∙ list_at_is (columns_in noted) r n.column (slice_get-map (λ (m : NotedReplyView). m.column) noted r ∙ ap (option_map (λ (m : NotedReplyView). m.column)) there)

    one_record : (a b : Record) (place : Option Record) → place ≡ Some a → place ≡ Some b → a ≡ b
    one_record a b place is_a is_b = cc

    reply_at : (r : ℕ) → r < config.resolvers → reply_from replies r ≡ Some (reply_of config (history_verdicts config records) r (take rec.row records) rec)
    reply_at r there =
        let one = at r there in
        let said = say r one.0 (below r one.0 one.1) one.1 in
        let resolver = (all.each r one.0 one.1).0 in
        let own : one.0.reply.row ≡ rec.row = (all.each r one.0 one.1).1 ∙ sym row_is in
        let same = said.same in
        let record_is : said.noted.rec ≡ rec = one_record said.noted.rec rec (slice_get records rec.row) (sym (λ i. slice_get (same i) (own i)) ∙ said.noted.there) (ap (slice_get records) row_is ∙ here) in
        ap (λ (rs : Replies). reply_from rs r) replies_are
        ∙ ap (λ (place : Option (Option Reply)). unwrap_or place None) (slice_get-map (λ (m : NotedReplyView). Some m.reply) noted r ∙ ap (option_map (λ (m : NotedReplyView). Some m.reply)) one.1)
        ∙ ap (λ (reply : Reply). Some reply) (said.noted.reply_is ∙ (λ i. reply_of config (history_verdicts config (same i)) (resolver i) (take (own i) (same i)) (record_is i)))
