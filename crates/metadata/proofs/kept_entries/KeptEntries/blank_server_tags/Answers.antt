-- A turn of the loop blanks one key, and after the last none is left.
use Rattle.std.proofs.Common.{◌∙◌, ap, subst, ◌&&◌, Some, [], ℕ, List, if◌then◌else◌}
use Rattle.system_keys.specs.Keys.{Key}
use Rattle.system_keys.specs.Families.{is_kept_key}
use Rattle.model.specs.Metadata.{entry_value}
use Rattle.metadata.specs.CachedTags.{names_server}
use Rattle.metadata.specs.Overwrites.{is_same_key, is_listed}
use Rattle.metadata.proofs.BlankedKeys.{AreBlanking, blanking_next, all_blanked}
use Rattle.metadata.proofs.kept_entries.KeptEntries.blank_server_tags.Goals as goal

pub loop-key-init : goal.loop-key-init
loop-key-init c = λ key.
    ap (λ (keys : List Key). if (names_server key && is_kept_key key) && is_listed keys key then Some [] else entry_value c.args.self.now key) (c.into_iter-key-iterator.ensures.into_iter_gives ∙ c.iter-key-items.ensures)

pub loop-key-preserved : goal.loop-key-preserved
loop-key-preserved c =
    blanking_next c.args.keys.now c.in-Some.key.now c.next.new.self c.args.self.now c.loop-key.self c.blank_server_tag.new.self
    (λ key. c.in_ok-blank_server_tag.ensures key
    ∙ ap (λ (empty : List ℕ). if (names_server key && is_kept_key key) && is_same_key key c.in-Some.key.now then Some empty else entry_value c.loop-key.self key) (c.from-empty.ensures ∙ c.new.ensures.items))
    (subst (λ (left : List Key). AreBlanking c.args.keys.now left c.args.self.now c.loop-key.self) c.in-Some.ensures.steps c.loop-key.invariant)

pub returns : goal.returns
returns c = all_blanked c.args.keys.now c.args.self.now c.loop-key.self (subst (λ (left : List Key). AreBlanking c.args.keys.now left c.args.self.now c.loop-key.self) c.in-None.ensures.steps.0 c.loop-key.invariant)
