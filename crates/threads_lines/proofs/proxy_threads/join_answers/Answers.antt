-- One more result is joined.
use Rattle.std.proofs.Common.{◌≡◌, ◌∙◌, ◌++◌, [], ◌∷◌, ℕ, suc, sym, ap, subst, length, length-append, append-nil, append_assoc, arith}
use Rattle.std.specs.Prelude.{Ok, Err, IfOk, string_bytes}
use Rattle.std.proofs.lemmas.List.{nil_from_length}
use Rattle.std.specs.Vec.Iter.{into_iter_items}
use Rattle.threads_lines.proofs.FaultLemmas.{joined_all, joined_more}
use Rattle.threads_lines.proofs.ThreadLemmas.{after_front, joined_next, joined_turns}
use Rattle.threads_lines.specs.Histories.{nothing_known}
use Rattle.threads_lines.specs.Parts.{IsInTurns}
use Rattle.threads_lines.specs.Threads.{IsTextOf}
use Rattle.threads_lines.proofs.proxy_threads.join_answers.Goals as goal

pub loop-one-preserved : goal.loop-one-preserved
loop-one-preserved g c =
    let l = c.loop-one in
    let one = c.in-Some.one in
    let next = c.in-Some.ensures.steps.0 in
    let size = ap length next in
    let appended = c.append_returned in
    let at = after_front l.yielded (into_iter_items c.next.new.self) c.args.results.items one (ap (λ rest. l.yielded ++ rest) (sym next) ∙ l.invariant.left) in
    let more : length (l.yielded ++ one ∷ []) ≡ suc (length l.yielded) = omega (arith, length-append l.yielded (one ∷ [])) in
    record {
      count = omega (arith, size, l.invariant.count, c.in-Some.ensures.steps.1);
      left = append_assoc l.yielded (one ∷ []) (into_iter_items c.next.new.self) ∙ ap (λ rest. l.yielded ++ rest) (sym next) ∙ l.invariant.left;
      joined = joined_more l.yielded (λ answered. string_bytes answered.text) one l.outcome appended.result c.join_results-outcome.result
          (string_bytes l.text) (string_bytes appended.new.text) c.join_results-outcome.ensures l.invariant.joined appended.ensures.text;
      turns = subst (λ (n : ℕ). IfOk c.join_results-outcome.result
          (λ _. IsInTurns (IsTextOf (λ answered. string_bytes answered.text) (λ answered. answered.history) c.args.results.items) nothing_known n
          appended.new.history (string_bytes appended.new.text))) (sym more)
          (joined_next (λ answered. string_bytes answered.text) (λ answered. answered.history) c.args.results.items (length l.yielded) one l.history
          appended.new.history (string_bytes l.text) (string_bytes appended.new.text) l.outcome appended.result c.join_results-outcome.result
          c.join_results-outcome.ensures at l.invariant.turns appended.ensures.text appended.ensures.joined);
    }

pub returns-in-Ok-clause-text : goal.returns-in-Ok-clause-text
returns-in-Ok-clause-text g c =
    let l = c.loop-one in
    let none : into_iter_items l.one-iterator ≡ [] = nil_from_length (into_iter_items l.one-iterator) (sym l.invariant.count ∙ c.in-None.ensures.steps.0) in
    let all : l.yielded ≡ c.args.results.items = sym (append-nil l.yielded) ∙ ap (λ rest. l.yielded ++ rest) (sym none) ∙ l.invariant.left in
    joined_all c.args.results.items l.yielded (λ answered. string_bytes answered.text) l.outcome (Ok c.in-Ok.field-0) (string_bytes l.text) all c.in-Ok.is l.invariant.joined

pub returns-in-Ok-clause-joined : goal.returns-in-Ok-clause-joined
returns-in-Ok-clause-joined g c =
    let l = c.loop-one in
    let none : into_iter_items l.one-iterator ≡ [] = nil_from_length (into_iter_items l.one-iterator) (sym l.invariant.count ∙ c.in-None.ensures.steps.0) in
    let all : l.yielded ≡ c.args.results.items = sym (append-nil l.yielded) ∙ ap (λ rest. l.yielded ++ rest) (sym none) ∙ l.invariant.left in
    joined_turns (λ answered. string_bytes answered.text) (λ answered. answered.history) c.args.results.items (length l.yielded) l.history (string_bytes l.text) l.outcome c.in-Ok.field-0 (ap length all) c.in-Ok.is l.invariant.turns

pub returns-in-Err-clause-text : goal.returns-in-Err-clause-text
returns-in-Err-clause-text g c =
    let l = c.loop-one in
    let none : into_iter_items l.one-iterator ≡ [] = nil_from_length (into_iter_items l.one-iterator) (sym l.invariant.count ∙ c.in-None.ensures.steps.0) in
    let all : l.yielded ≡ c.args.results.items = sym (append-nil l.yielded) ∙ ap (λ rest. l.yielded ++ rest) (sym none) ∙ l.invariant.left in
    joined_all c.args.results.items l.yielded (λ answered. string_bytes answered.text) l.outcome (Err c.in-Err.fault) (string_bytes l.text) all c.in-Err.is l.invariant.joined
