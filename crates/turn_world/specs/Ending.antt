-- What is left to do in a cluster, as the code lists it, and what a call does that carries it out.
use Rattle.std.specs.Prelude.{◌≡◌, ℕ, List, map, flat_map, length, Result, IsOk, IsTrue, All}
use Rattle.std.specs.List.{list_all}
use Rattle.model.specs.Numbers.{ResolverNumber}
use Rattle.model.specs.Shares.{each_below}
use Rattle.model.specs.World as world
use Rattle.model.specs.World.{answers}
use Rattle.model.specs.Turns.{TurnCluster}
use Rattle.endings.specs.Work.{is_done, work_left, AllFinished, done_world}
use Rattle.endings.specs.EventsLeft.{events_left}
use Rattle.turn_world.specs.declared.answer.Answer.{Answer}
use Rattle.turn_world.specs.declared.refusal.Refusal.{Refusal}
use Rattle.turn_world.specs.Parts.{missing_of}
use Rattle.turn_world.specs.Steps.{HasCarriedOut}

-- the offers of a row to the resolvers that have not judged it, by how many rows each has judged
abbrev pub offers_missing_of_row : (judged_counts : List ℕ) (row : ℕ) → List world.Event
offers_missing_of_row judged_counts row =
    map (λ (r : ResolverNumber). world.Offer row r) (missing_of row judged_counts)

-- these offers of the first so many rows, row by row
abbrev pub offers_missing : (judged_counts : List ℕ) (rows : ℕ) → List world.Event
offers_missing judged_counts rows =
    flat_map (offers_missing_of_row judged_counts) (each_below rows)

-- The cluster carried out what was left, in its fixed order, and no event was refused. Each was done,
-- and so they were as many as work was left. Afterwards all records are finished, and the world is the
-- one in which every order of offers and finishes ends.
pub record HasFinishedAll
    (before after : TurnCluster) (results : List (Result Answer Refusal)) : Type 0 where
  pub carried_out :
      HasCarriedOut before after (events_left before.config before.world) results
  pub none_refused : All IsOk results
  pub done :
      IsTrue (list_all is_done
      (answers before.config before.world (events_left before.config before.world)))
  pub count : length results ≡ work_left before.config before.world
  pub finished : AllFinished after.config after.world
  pub world_is : after.world ≡ done_world before.config before.world
