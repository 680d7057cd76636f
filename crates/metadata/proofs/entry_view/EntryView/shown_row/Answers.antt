-- The last entry up to the key that is not hidden serves it.
use Rattle.std.proofs.Common.{◌≡◌, ◌∙◌, ap, sym, subst, true, false, [], ◌∷◌, None, rules}
use Rattle.std.specs.Option.{option_map}
use Rattle.model.specs.Metadata.{Entry, Entries, serving_entry, key_servers_entries}
use Rattle.model.proofs.Members.{Has-append_left}
use Rattle.metadata.specs.MapEntries.{is_serving_up_to}
use Rattle.metadata.specs.Overwrites.{is_listed}
use Rattle.metadata.specs.HiddenRuns.{Run, is_serving_before}
use Rattle.metadata.proofs.KeptTags.{AreRows, rows_passing}
use Rattle.metadata.proofs.HiddenRuns.{IsFront, own_rows, front_up_to, front_stepped, IsJump, jump_to, jump_fewer, one_run}
use Rattle.metadata.proofs.ServingEntries.{last_left, last_serves, last_hidden, last_shown}
use Rattle.metadata.proofs.entry_view.EntryView.shown_row.Goals as goal

pub loop-found-init : goal.loop-found-init
loop-found-init c = record {
  last = last_serves c.self.inside.hidden.now c.self.inside.entries.now c.in_ok-up_to.up_to c.args.key.now c.in_ok-up_to.ensures.found;
  rows = rows_passing c.self.inside.entries.now (is_serving_up_to c.args.key.now) c.in_ok-up_to.up_to c.serving_up_to.ensures.order c.in_ok-up_to.ensures.found;
  front = front_up_to c.self.inside.entries.now c.in_ok-up_to.up_to c.args.key.now c.serving_up_to.ensures.order c.in_ok-up_to.ensures.found;
  order = c.serving_up_to.ensures.order;
}

pub loop-found-preserved : goal.loop-found-preserved
loop-found-preserved c =
    let hides : is_listed c.self.inside.hidden.now c.in-Some.found.now ≡ true = search rules in
    let last : Entry = (c.in-Some.found.now, c.in-Some.row.now) in
    let steps = c.in-Some.ensures.steps in
    record {
      last = sym (last_hidden None c.self.inside.hidden.now c.next_back.new.self last hides) ∙ ap (last_left None c.self.inside.hidden.now) (sym steps) ∙ c.loop-found.invariant.last;
      rows = λ entry has. subst (AreRows c.self.inside.entries.now) steps c.loop-found.invariant.rows entry (Has-append_left c.next_back.new.self (last ∷ []) entry has);
      front = front_stepped c.next_back.new.self last (own_rows c.self.inside.entries.now) (subst (λ (es : Entries). IsFront es (own_rows c.self.inside.entries.now)) steps c.loop-found.invariant.front);
      order = c.loop-found.invariant.order;
    }

-- the entries before the first key of a run that hides the last entry
jump : (c : goal.In_ok-up_to-2) → IsJump c.self.inside.hidden.now c.self.inside.entries.now c.next_back.new.self c.in_ok-up_to-2.up_to
jump c =
    let last : Entry = (c.in-Some.found.now, c.in-Some.row.now) in
    let run : Run = (c.in-Some-run_of.first.now, c.in-Some-run_of.field-0-1.now) in
    let rows = c.self.inside.entries.now in
    let steps = c.in-Some.ensures.steps in
    jump_to c.self.inside.hidden.now rows c.next_back.new.self c.in_ok-up_to-2.up_to last run c.loop-found.invariant.order
    (subst (λ (es : Entries). IsFront es (own_rows rows)) steps c.loop-found.invariant.front)
    (λ entry has. subst (AreRows rows) steps c.loop-found.invariant.rows entry (Has-append_left c.next_back.new.self (last ∷ []) entry has))
    (one_run c.self.inside.hidden.now rows c.self.inside.runs.now run c.self.invariant.0 c.in-Some-run_of.ensures.listed)
    c.in-Some-run_of.ensures.begins c.in-Some-run_of.ensures.reaches c.in_ok-up_to-2.ensures

pub loop-found-preserved-in-Some-run_of : goal.loop-found-preserved-in-Some-run_of
loop-found-preserved-in-Some-run_of c =
    let hides : is_listed c.self.inside.hidden.now c.in-Some.found.now ≡ true = search rules in
    let last : Entry = (c.in-Some.found.now, c.in-Some.row.now) in
    let steps = c.in-Some.ensures.steps in
    record {
      last = (jump c).left ∙ sym (last_hidden None c.self.inside.hidden.now c.next_back.new.self last hides) ∙ ap (last_left None c.self.inside.hidden.now) (sym steps) ∙ c.loop-found.invariant.last;
      rows = rows_passing c.self.inside.entries.now (is_serving_before c.in-Some-run_of.first.now) c.in_ok-up_to-2.up_to c.loop-found.invariant.order c.in_ok-up_to-2.ensures;
      front = (jump c).front_is;
      order = c.loop-found.invariant.order;
    }

pub loop-found-smaller-in-Some-run_of : goal.loop-found-smaller-in-Some-run_of
loop-found-smaller-in-Some-run_of c =
    jump_fewer c.self.inside.hidden.now c.self.inside.entries.now c.next_back.new.self c.in_ok-up_to-2.up_to c.loop-found.up_to (c.in-Some.found.now, c.in-Some.row.now) (jump c) c.in-Some.ensures.steps

pub serving_before-requires : goal.serving_before-requires
serving_before-requires c =
    (one_run c.self.inside.hidden.now c.self.inside.entries.now c.self.inside.runs.now (c.in-Some-run_of.first.now, c.in-Some-run_of.field-0-1.now) c.self.invariant.0 c.in-Some-run_of.ensures.listed).own

pub returns-then-not-contains : goal.returns-then-not-contains
returns-then-not-contains c =
    let shows : is_listed c.self.inside.hidden.now c.in-Some.found.now ≡ false = search rules in
    let last : Entry = (c.in-Some.found.now, c.in-Some.row.now) in
    ap (option_map (λ (entry : Entry). entry.1))
    (sym (last_shown None c.self.inside.hidden.now c.next_back.new.self last shows) ∙ ap (last_left None c.self.inside.hidden.now) (sym c.in-Some.ensures.steps) ∙ c.loop-found.invariant.last)
    ∙ ap (λ (entries : Entries). option_map (λ (entry : Entry). entry.1) (serving_entry (key_servers_entries entries) c.args.key.now)) c.self.view_is

pub returns : goal.returns
returns c =
    ap (option_map (λ (entry : Entry). entry.1)) (ap (last_left None c.self.inside.hidden.now) (sym c.in_default.ensures.steps.0) ∙ c.loop-found.invariant.last)
    ∙ ap (λ (entries : Entries). option_map (λ (entry : Entry). entry.1) (serving_entry (key_servers_entries entries) c.args.key.now)) c.self.view_is
