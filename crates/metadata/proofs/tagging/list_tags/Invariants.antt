-- What is listed, and what is left, are all tags.
use Rattle.std.proofs.Common.{◌≡◌, ◌++◌}
use Rattle.metadata.proofs.tagging.list_tags.Given as goal

abbrev pub invariant-loop-tag : goal.invariant-loop-tag
invariant-loop-tag l = l.list.items ++ l.tag-iterator ≡ l.tags.keys
