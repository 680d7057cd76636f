use Rattle.model.proofs.Metadata.Tags.{tags_rise, HasTag-from_tags, tags-from_HasTag, tags_of_servers, tags_of_list}
use Rattle.model.proofs.Metadata.Touched.{set_meets, set_met, clear_meets, clear_met}
use Rattle.model.proofs.laws.metadata.tags_of_change_law.Goals as goal

pub returns : goal.returns
returns c = record {
  rising = tags_rise;
  exact = λ rows change tag. (HasTag-from_tags rows change tag, tags-from_HasTag rows change tag);
  of_servers = tags_of_servers;
  of_tags = tags_of_list;
  set = λ rows key value row order. (set_meets rows key value row order, set_met rows key value row order);
  cleared = λ rows range row order some. (clear_meets rows range row order some, clear_met rows range row order);
}
