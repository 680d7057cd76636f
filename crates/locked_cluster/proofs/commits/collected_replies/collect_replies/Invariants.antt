-- The replies so far are in their places, and their columns in order; all were made by these records.
use Rattle.std.proofs.Common.{◌≡◌, take}
use Rattle.locked_cluster.proofs.CommitReplies.{AllSayOf, columns_in, first_places}
use Rattle.locked_cluster.proofs.commits.collected_replies.collect_replies.Given as goal

abbrev pub invariant-loop-reply : goal.invariant-loop-reply
invariant-loop-reply g l =
    record {
      places : l.kept ≡ first_places l.replies g.N.Naming.cells.config.resolvers l.reply-index;
      columns : l.columns ≡ columns_in (take l.reply-index l.replies);
      all : AllSayOf g.N.Naming.cells.config l.records.known l.replies l.reply-index;
    }
