-- After both cuts each piece is in the range or out of it.
use Rattle.std.proofs.Common.{◌∙◌}
use Rattle.system_keys.specs.Keys.{Range}
use Rattle.dated_owners.proofs.AddedOwners.{IsCut, put_is, adds_in, still_kept}
use Rattle.dated_owners.proofs.pieces.add_owner.Goals as goal

pub returns-clause-ok : goal.returns-clause-ok
returns-clause-ok c =
    let range : Range = record { begin = c.args.begin.now; end = c.args.end.now } in
    let old = c.args.pieces.now.entries in
    let cut = c.cut-2.new.pieces.entries in
    let new = c.put_all_owners.new.pieces.entries in
    let is : IsCut range old cut =
    record {
      was = c.requires.kept;
      kept = c.in_ok-cut-2.ensures.kept (c.in_ok-cut.ensures.kept c.requires.kept);
      same = c.in_ok-cut-2.ensures.same ∙ c.in_ok-cut.ensures.same;
      begins = c.in_ok-cut-2.ensures.there;
      ends = c.in_ok-cut-2.ensures.others c.args.end.now c.in_ok-cut.ensures.there;
    } in
    adds_in range c.args.owner old cut new c.requires.below is (put_is range c.args.owner cut new c.in_ok-grown.grown.items is.kept.rising c.in_ok-grown.ensures c.put_all_owners.ensures)

pub returns-clause-kept : goal.returns-clause-kept
returns-clause-kept c =
    let range : Range = record { begin = c.args.begin.now; end = c.args.end.now } in
    let cut = c.cut-2.new.pieces.entries in
    let new = c.put_all_owners.new.pieces.entries in
    let kept = c.in_ok-cut-2.ensures.kept (c.in_ok-cut.ensures.kept c.requires.kept) in
    still_kept range c.args.owner cut new kept (c.in_ok-cut-2.ensures.others c.args.end.now c.in_ok-cut.ensures.there)
    (put_is range c.args.owner cut new c.in_ok-grown.grown.items kept.rising c.in_ok-grown.ensures c.put_all_owners.ensures)
