-- The answer on each course.
use Rattle.std.proofs.Common.{◌≡◌, ◌∙◌, refl, sym, ap, subst, rules}
use Rattle.std.specs.Prelude.{None, Ok, Err, IsOk}
use Rattle.model.specs.Offers.{Judged}
use Rattle.model.specs.ResolverMemory.{GiveAgain, Judge}
use Rattle.system_keys.specs.AsSpecified.{IsAsSpecified}
use Rattle.state_memory.specs.Answers.{fault_of, offer_answer_of, course_of}
use Rattle.state_memory.specs.declared.refusal.Refusal.TheVariants as refusals
use Rattle.state_memory.proofs.OfferedRequests.{answer, on_course, refused_alike}
use Rattle.state_memory.proofs.resolver.Resolver.offer.Goals as goal

pub returns-in_err-reply-clause-answer : goal.returns-in_err-reply-clause-answer
returns-in_err-reply-clause-answer c = λ judged stands.
    let is : c.from_residual.result ≡ Err c.in_err-reply.field-0.0 = search rules in
    subst (λ r. IsAsSpecified fault_of offer_answer_of r (answer c.args.self.now judged c.args.request.now)) (sym is)
    (refused_alike c.args.self.now judged c.args.request.now (fault_of c.in_err-reply.field-0.0) stands c.in_err-reply.ensures)

pub returns-in_err-judge-in-Judge-clause-answer : goal.returns-in_err-judge-in-Judge-clause-answer
returns-in_err-judge-in-Judge-clause-answer c = λ judged stands.
    let is : c.from_residual-in_err-judge-in-Judge.result ≡ Err refusals.OutOfMemory = search rules in
    let next = c.in_ok-reply.ensures ∙ ap (λ way. Ok (course_of way)) c.in-Judge.is in
    subst (λ r. IsAsSpecified fault_of offer_answer_of r (answer c.args.self.now judged c.args.request.now)) (sym is)
    (refused_alike c.args.self.now judged c.args.request.now None stands (subst IsOk (sym next) refl))

pub returns-in-GiveAgain-clause-answer : goal.returns-in-GiveAgain-clause-answer
returns-in-GiveAgain-clause-answer c = λ judged stands.
    on_course c.args.self.now judged c.args.request.now (Ok (GiveAgain c.in-GiveAgain.reply)) stands (c.in_ok-reply.ensures ∙ ap (λ way. Ok (course_of way)) c.in-GiveAgain.is)

pub returns-in_ok-judge-in-Judge-clause-answer : goal.returns-in_ok-judge-in-Judge-clause-answer
returns-in_ok-judge-in-Judge-clause-answer c = λ judged stands.
    on_course c.args.self.now judged c.args.request.now (Ok Judge) stands (c.in_ok-reply.ensures ∙ ap (λ way. Ok (course_of way)) c.in-Judge.is) ∙ ap (λ reply. Ok (Judged reply)) (sym (c.in_ok-judge-in-Judge.ensures.judged.replied judged stands))
