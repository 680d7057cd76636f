-- A turn of the loop adds the last key that is left, and in the end none is left.
use Rattle.std.proofs.Common.{◌∙◌, ap, sym, subst, ◌||◌, List}
use Rattle.system_keys.specs.Keys.{Key}
use Rattle.metadata.specs.Overwrites.{is_listed}
use Rattle.metadata.proofs.KeySets.{AreAdded, added_last, none_left}
use Rattle.metadata.proofs.key_set.KeySet.insert_all.Goals as goal

pub loop-key-preserved : goal.loop-key-preserved
loop-key-preserved c =
    added_last c.args.keys.now c.in-Some.before.now c.in-Some.key.now c.args.self.now c.loop-key.self c.insert.new.self
    c.in_ok-insert.ensures
    (subst (λ (left : List Key). AreAdded c.args.keys.now left c.args.self.now c.loop-key.self) c.in-Some.ensures.cases.0 c.loop-key.invariant)

pub returns : goal.returns
returns c = λ other.
    ap (λ (left : List Key). is_listed left other || is_listed c.loop-key.self other) (sym (none_left c.loop-key.rest.now c.in_default.ensures.cases))
    ∙ c.loop-key.invariant other
