-- Requests and copies of records that are put together one by one.
use Rattle.std.proofs.Common.{◌≡◌, sym, ap, ◌∙◌, ℕ, zero, suc, List, [], ◌∷◌, ◌++◌, length, replicate, slice_get, append_assoc}
use Rattle.facts.specs.Stretches.{Stretch}
use Rattle.model.specs.Configs.{Config}
use Rattle.model.specs.Records.{Record}
use Rattle.model.specs.Requests.{Request}
use Rattle.locked_resolvers.specs.Requests.{RequestView, IsRequestFor}
use Rattle.locked_cluster.specs.Begun.{AreRequestsFor, with_records}

not_none : {X : Type 0} (left : List X) (y : X) → left ++ y ∷ [] ≡ [] → ⊥
not_none [] y is = cc
not_none (z ∷ left) y is = cc

-- the last of some copies, and those that are left
pub popped : {X : Type 0} (n : ℕ) (x y : X) (left : List X) → replicate (suc n) x ≡ left ++ y ∷ [] → (y ≡ x) × (left ≡ replicate n x)
popped n x y [] is = (cc, cc)
popped zero x y (z ∷ left) is = absurd (not_none left y (let rest : [] ≡ left ++ y ∷ [] = cc in sym rest))
popped (suc n) x y (z ∷ left) is =
    let rest : replicate (suc n) x ≡ left ++ y ∷ [] = cc in
    let later = popped n x y left rest in
    let first : z ≡ x = cc in
    (later.0, λ i. first i ∷ later.1 i)

-- the copies are as many as the requests to come
pub copy_popped : (items rest : List Request) (one : Request) (copies left : List (Stretch Record)) (records copy : Stretch Record) → items ≡ one ∷ rest → copies ≡ replicate (length items) records → copies ≡ left ++ copy ∷ [] → (copy ≡ records) × (left ≡ replicate (length rest) records)
copy_popped items rest one copies left records copy next are is =
    popped (length rest) records copy left (sym (are ∙ ap (λ (qs : List Request). replicate (length qs) records) next) ∙ is)

-- the next request is for the records
pub first_is_for : (config : Config) (records : List Record) (items rest : List Request) (one : Request) → items ≡ one ∷ rest → AreRequestsFor config records items → IsRequestFor config (record { plain = one; records = records })
first_is_for config records items rest one next are = are 0 one (ap (λ (qs : List Request). slice_get qs 0) next)

pub rest_are_for : (config : Config) (records : List Record) (items rest : List Request) (one : Request) → items ≡ one ∷ rest → AreRequestsFor config records items → AreRequestsFor config records rest
rest_are_for config records items rest one next are r q at = are (suc r) q (ap (λ (qs : List Request). slice_get qs (suc r)) next ∙ at)

pub joined_next : (records : List Record) (made : List RequestView) (items rest all : List Request) (one : Request) (q : RequestView) → items ≡ one ∷ rest → q ≡ record { plain = one; records = records } → made ++ with_records records items ≡ with_records records all → (made ++ q ∷ []) ++ with_records records rest ≡ with_records records all
joined_next records made items rest all one q next is so_far =
    append_assoc made (q ∷ []) (with_records records rest)
    ∙ ap (λ (p : RequestView). made ++ p ∷ with_records records rest) is
    ∙ ap (λ (qs : List Request). made ++ with_records records qs) (sym next)
    ∙ so_far
