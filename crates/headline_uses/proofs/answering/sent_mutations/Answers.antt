-- By the promise each change of a committed transaction is in the answer, with its tags.
use Rattle.std.proofs.Common.{◌≡◌, ap, ◌∙◌, subst, ℕ, List, Contains}
use Rattle.system_keys.specs.declared.change.Change.{Change}
use Rattle.model.specs.Configs.{Config}
use Rattle.model.specs.declared.outcome.Tagged.{Tagged}
use Rattle.model.specs.Metadata.{Entries, tags}
use Rattle.model.specs.PrivateCopies.{private_copy}
use Rattle.model.specs.World.{IsTaggedBy}
use Rattle.locked_cluster.specs.Answers.{NotedFinishedView}
use Rattle.locked_cluster.specs.Headline.{HasMutation, IsTrueAnswer, history_metadata}
use Rattle.headline_uses.specs.Mutations.{AreAllSent, sent_by}
use Rattle.headline_uses.proofs.answering.sent_mutations.Goals as goal

-- a mutation of this number, place and change, with the tags that the entries give it
is_sent : (entries : Entries) (mutations : List Tagged) (n place : ℕ) (change : Change) (has : HasMutation mutations n place change) → IsTaggedBy entries has.mutation → Contains mutations (sent_by entries n place change)
is_sent entries mutations n place change has given = subst (λ (sent : Tagged). Contains mutations sent) same has.there
  where
    same : has.mutation ≡ sent_by entries n place change
    same i =
        record {
          number = has.number_is i;
          place = has.place_is i;
          change = has.change_is i;
          tags = (given.tags ∙ ap (tags entries) has.change_is) i;
          private = (given.private ∙ ap (private_copy entries) has.change_is) i;
        }

-- each change of a transaction whose client is told Committed is in a true answer
all_sent : (config : Config) (answer : NotedFinishedView) → IsTrueAnswer config answer → AreAllSent config answer.records answer.finished
all_sent config answer is a at version number told place change there =
    let committed = (is.told a at).0 (record { version = version; number = number; told = told }) in
    let has = is.all_are_there a at committed place change there in
    is_sent (history_metadata config answer.records) answer.finished.tagged a.n place change has (is.tags_are has.mutation has.there)

pub returns-clause-all : goal.returns-clause-all
returns-clause-all g c = all_sent g.N.Naming.cells.config c.args.answer.now c.metadata_of_two.ensures.answer_is
