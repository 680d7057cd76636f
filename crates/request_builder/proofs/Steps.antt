-- One more range, one more transaction: what is left of a walk over two lists side by side.
use Rattle.std.proofs.Common.{◌≡◌, ℕ, zero, suc, ◌<◌, ◌≤◌, refl, sym, ap, ap₂, ◌∙◌, cond, List, [], ◌∷◌, ◌++◌, length, drop, get_or, append_assoc, arith}
use Rattle.std.proofs.Math.Seq.{drop-cons}
use Rattle.system_keys.specs.Keys.{Range}
use Rattle.model.specs.Transactions.{StampedTransaction}
use Rattle.model.specs.Journal.{list_at}
use Rattle.request_builder.specs.declared.asked_resolvers.AskedResolvers.{AskedResolvers}
use Rattle.request_builder.specs.AskedResolvers.{is_in, ranges_for, part_for, sent_part, parts_for, mark_by, marks_for}

-- the list from i on begins with element i
next_of : {X : Type 0} (xs : List X) (i : ℕ) (x : X) → i < length xs → x ≡ get_or xs i x → drop i xs ≡ x ∷ drop (suc i) xs
next_of {X} xs i x there is = drop-cons xs i x there ∙ ap (λ (y : X). y ∷ drop (suc i) xs) (sym is)

-- ---- ranges

no_lists : (r : ℕ) (ranges : List Range) → ranges_for r ranges [] ≡ []
no_lists r [] = refl
no_lists r (range ∷ ranges) = refl

pub ranges_at : (r i : ℕ) (range : Range) (ranges : List Range) (lists : List (List ℕ)) → i < length ranges → range ≡ get_or ranges i range → ranges_for r (drop i ranges) (drop i lists) ≡ cond (is_in r (list_at lists i)) (range ∷ []) [] ++ ranges_for r (drop (suc i) ranges) (drop (suc i) lists)
ranges_at r i range [] lists there is = absurd (omega arith)
ranges_at r zero range (x ∷ ranges) [] there is = sym (no_lists r ranges)
ranges_at r zero range (x ∷ ranges) (list ∷ lists) there is = ap (λ (y : Range). cond (is_in r list) (y ∷ []) [] ++ ranges_for r ranges lists) (sym is)
ranges_at r (suc i) range (x ∷ ranges) [] there is = no_lists r (drop i ranges) ∙ sym (no_lists r (drop (suc i) ranges))
ranges_at r (suc i) range (x ∷ ranges) (list ∷ lists) there is = ranges_at r i range ranges lists (omega arith) is

-- ---- the list at a place

pub list_found : (lists : List (List ℕ)) (i : ℕ) (list : List ℕ) → i < length lists → list ≡ get_or lists i list → list_at lists i ≡ list
list_found [] i list there is = absurd (omega arith)
list_found (x ∷ lists) zero list there is = sym is
list_found (x ∷ lists) (suc i) list there is = list_found lists i list (omega arith) is

pub list_past : (lists : List (List ℕ)) (i : ℕ) → length lists ≤ i → list_at lists i ≡ []
list_past [] i past = refl
list_past (x ∷ lists) zero past = absurd (omega arith)
list_past (x ∷ lists) (suc i) past = list_past lists i (omega arith)

-- ---- transactions

pub parts_at : (r n i : ℕ) (t : StampedTransaction) (asking : AskedResolvers) (ts : List StampedTransaction) (askings : List AskedResolvers) → i < length ts → i < length askings → t ≡ get_or ts i t → asking ≡ get_or askings i asking → parts_for r n (drop i ts) (drop i askings) ≡ sent_part asking.is_state (part_for r n t asking) ++ parts_for r (suc n) (drop (suc i) ts) (drop (suc i) askings)
parts_at r n i t asking ts askings there asked is asking_is = ap₂ (parts_for r n) (next_of ts i t there is) (next_of askings i asking asked asking_is)

pub marks_at : (r n i : ℕ) (t : StampedTransaction) (asking : AskedResolvers) (ts : List StampedTransaction) (askings : List AskedResolvers) → i < length ts → i < length askings → t ≡ get_or ts i t → asking ≡ get_or askings i asking → marks_for r n (drop i ts) (drop i askings) ≡ mark_by r n t asking ++ marks_for r (suc n) (drop (suc i) ts) (drop (suc i) askings)
marks_at r n i t asking ts askings there asked is asking_is = ap₂ (marks_for r n) (next_of ts i t there is) (next_of askings i asking asked asking_is)

-- ---- a list that grows by what is taken of the rest

pub grown : {X : Type 0} (done more rest left whole : List X) → done ++ left ≡ whole → left ≡ more ++ rest → (done ++ more) ++ rest ≡ whole
grown {X} done more rest left whole is split = append_assoc done more rest ∙ ap (λ (xs : List X). done ++ xs) (sym split) ∙ is
