-- Each case computes.
use Rattle.std.proofs.Common.{◌≡◌, ◌∙◌, ◌++◌, ℕ, List, [], ap, codes, refl, arith}
use Rattle.std.specs.Prelude.{Some}
use Rattle.std.proofs.lemmas.List.{append_cancel_left}
use Rattle.scripts.specs.Outputs.{done}
use Rattle.scripts.specs.Runs.{BeginsOutput, WritesOutput}
use Rattle.scripts.specs.declared.status.RunStatus.{RunStatus}
use Rattle.scripts.proofs.edges.written_edges.Goals as goal

-- what was written whole
whole : (left : List ℕ) (status : RunStatus) → WritesOutput done (Some (codes "ab")) (Some (codes "o")) (Some left) status → left ≡ codes "oab"
whole left status (bytes, is, put, same) = put ∙ ap (λ (text : List ℕ). codes "o" ++ text) is

-- what was written of a beginning
begun : (left : List ℕ) → BeginsOutput done (Some (codes "ab")) (Some (codes "o")) (Some left)
    → (front rest : List ℕ) × (left ≡ codes "o" ++ front) × (front ++ rest ≡ codes "ab")
begun left (bytes, is, (rest, (front, all, put))) = (front, rest, put, all ∙ is)

-- another byte begins no text of these bytes
no_other : BeginsOutput done (Some (codes "ab")) (Some (codes "o")) (Some (codes "ob")) → ⊥
no_other b =
    let (front, rest, put, all) = begun (codes "ob") b in
    let first : codes "b" ≡ front = append_cancel_left (codes "o") (codes "b") front put in
    let whole : codes "b" ++ rest ≡ codes "ab" = ap (λ (text : List ℕ). text ++ rest) first ∙ all in
    let same : ◌≡◌ {A = ℕ} 98 97 = cc in
    omega (arith, same)

pub returns : goal.returns
returns c = record {
  whole = record {
    whole = (codes "ab", refl, refl, refl);
    a_byte_too_few = λ w. let e = whole (codes "oa") _ w in absurd (cc);
    a_byte_too_many = λ w. let e = whole (codes "oabb") _ w in absurd (cc);
    another_text = λ w. let e = whole (codes "oba") _ w in let same : ◌≡◌ {A = ℕ} 98 97 = cc in omega (arith, same);
    another_status = λ w. let e = w.3 in absurd (cc);
    unknown_input = (codes "b", tt, refl, refl);
  };
  beginning = record {
    beginning = (codes "ab", refl, (codes "b", (codes "a", refl, refl)));
    nothing = (codes "ab", refl, (codes "ab", ([], refl, refl)));
    no_beginning = no_other;
    a_byte_lost = λ b. let (front, rest, put, all) = begun (codes "") b in absurd (cc);
    out_of_memory = no_other;
    no_cluster = λ none. none;
  };
}
