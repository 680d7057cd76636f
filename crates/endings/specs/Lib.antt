-- what is left to do in a world, the events that do it, and the world once all is done
pub mod Work
-- statements: nothing gets stuck
pub mod Progress
-- statements: every order ends in one world
pub mod Orders
-- statements: how far apart proxies can be, and what resolvers remember for the slowest
pub mod Distances
-- what is left to do, as events in a fixed order; statements: they finish all
pub mod EventsLeft
-- rounds, segments and schedules that are fair; statements: they finish all
pub mod Fairness
-- scenarios: a small cluster whose work is done in several orders
pub mod Scenarios
