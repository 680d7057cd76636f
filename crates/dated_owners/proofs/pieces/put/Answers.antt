-- An insertion at a key at which a piece begins cannot fail.
use Rattle.dated_owners.proofs.AddedOwners.{put_there}
use Rattle.dated_owners.proofs.pieces.put.Goals as goal

pub returns : goal.returns
returns c = λ there. put_there c.insert.result c.args.pieces.now.entries c.insert.new.self.entries c.args.key c.args.owners c.insert.ensures.entries c.insert.ensures.absent there
