-- A start with the owners that its key has changes none.
use Rattle.std.proofs.Common.{◌∙◌, sym, ap, subst, []}
use Rattle.dated_owners.specs.Starts.{last_value, IsStart, joined}
use Rattle.dated_owners.proofs.KeyStarts.{rising_entries, put_in, start_inserted, start_stays, last_inserted}
use Rattle.dated_owners.proofs.JoinedStarts.{Starts, joined_cut}
use Rattle.dated_owners.proofs.pieces.cut.Goals as goal

pub returns-clause-same : goal.returns-clause-same
returns-clause-same c =
    let is = put_in c.args.pieces.now.entries c.insert.new.self.entries c.in_ok-copy.copy c.args.key.now c.in_ok-owners.owners _ c.in_ok-insert.ensures.entries c.in_ok-copy.ensures.copy (c.in_ok-owners.ensures ∙ c.owners_at.ensures) in
    ap (joined []) is ∙ joined_cut [] c.args.pieces.now.entries c.args.key.now (rising_entries c.args.pieces.now.entries c.insert.ensures.was_ordered)

pub returns-clause-there : goal.returns-clause-there
returns-clause-there c =
    let is = put_in c.args.pieces.now.entries c.insert.new.self.entries c.in_ok-copy.copy c.args.key.now c.in_ok-owners.owners _ c.in_ok-insert.ensures.entries c.in_ok-copy.ensures.copy (c.in_ok-owners.ensures ∙ c.owners_at.ensures) in
    subst (λ (ss : Starts). IsStart c.args.key.now ss) (sym is) (start_inserted c.args.pieces.now.entries c.args.key.now _)

pub returns-clause-others : goal.returns-clause-others
returns-clause-others c = λ k there.
    let is = put_in c.args.pieces.now.entries c.insert.new.self.entries c.in_ok-copy.copy c.args.key.now c.in_ok-owners.owners _ c.in_ok-insert.ensures.entries c.in_ok-copy.ensures.copy (c.in_ok-owners.ensures ∙ c.owners_at.ensures) in
    subst (λ (ss : Starts). IsStart k ss) (sym is) (start_stays k c.args.pieces.now.entries c.args.key.now _ there)

pub returns-clause-kept : goal.returns-clause-kept
returns-clause-kept c = λ kept.
    let is = put_in c.args.pieces.now.entries c.insert.new.self.entries c.in_ok-copy.copy c.args.key.now c.in_ok-owners.owners _ c.in_ok-insert.ensures.entries c.in_ok-copy.ensures.copy (c.in_ok-owners.ensures ∙ c.owners_at.ensures) in
    record {
      rising = rising_entries c.insert.new.self.entries c.insert.ensures.ordered;
      none_past = ap (last_value []) is ∙ last_inserted [] c.args.pieces.now.entries c.args.key.now kept.rising ∙ kept.none_past;
    }
