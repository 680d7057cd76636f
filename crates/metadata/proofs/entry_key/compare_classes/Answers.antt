-- Keys of two classes compare alike.
use Rattle.std.proofs.Common.{◌∙◌}
use Rattle.metadata.proofs.EntryKeys.{before_own, before_after, own_after, turned}
use Rattle.metadata.proofs.entry_key.compare_classes.Goals as goal

pub returns-in-Before-KeyServers-clause-apart : goal.returns-in-Before-KeyServers-clause-apart
returns-in-Before-KeyServers-clause-apart c = λ differ a b h k. before_own a b (h ∙ c.in-Before-KeyServers.is-0) (k ∙ c.in-Before-KeyServers.is-1)

pub returns-in-Before-After-clause-apart : goal.returns-in-Before-After-clause-apart
returns-in-Before-After-clause-apart c = λ differ a b h k. before_after a b (h ∙ c.in-Before-After.is-0) (k ∙ c.in-Before-After.is-1)

pub returns-in-KeyServers-Before-clause-apart : goal.returns-in-KeyServers-Before-clause-apart
returns-in-KeyServers-Before-clause-apart c = λ differ a b h k. turned a b (before_own b a (k ∙ c.in-KeyServers-Before.is-1) (h ∙ c.in-KeyServers-Before.is-0))

pub returns-in-KeyServers-After-clause-apart : goal.returns-in-KeyServers-After-clause-apart
returns-in-KeyServers-After-clause-apart c = λ differ a b h k. own_after a b (h ∙ c.in-KeyServers-After.is-0) (k ∙ c.in-KeyServers-After.is-1)

pub returns-in-After-Before-clause-apart : goal.returns-in-After-Before-clause-apart
returns-in-After-Before-clause-apart c = λ differ a b h k. turned a b (before_after b a (k ∙ c.in-After-Before.is-1) (h ∙ c.in-After-Before.is-0))

pub returns-in-After-KeyServers-clause-apart : goal.returns-in-After-KeyServers-clause-apart
returns-in-After-KeyServers-clause-apart c = λ differ a b h k. turned a b (own_after b a (k ∙ c.in-After-KeyServers.is-1) (h ∙ c.in-After-KeyServers.is-0))
