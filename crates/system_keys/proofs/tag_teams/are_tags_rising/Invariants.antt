use Rattle.std.proofs.Common.{◌≡◌, drop, None}
use Rattle.system_keys.specs.ListedTags.{are_tags_rising}
use Rattle.system_keys.proofs.tag_teams.are_tags_rising.Given as goal

abbrev pub invariant-loop-tag : goal.invariant-loop-tag
invariant-loop-tag l = are_tags_rising l.before (drop l.tag-index l.tags) ≡ are_tags_rising None l.tags
