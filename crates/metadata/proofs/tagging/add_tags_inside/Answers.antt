-- A turn of the loop adds the tags of a row, unless it is hidden, and goes on after the run that the row is in.
use Rattle.std.proofs.Common.{◌∙◌, ap, sym, subst, flat_map, filter}
use Rattle.model.specs.Metadata.{Entries, entry_tags, Entry}
use Rattle.metadata.specs.ServerTables.{GiveTags}
use Rattle.metadata.proofs.GatheredTags.{tags_gathered}
use Rattle.metadata.specs.MapEntries.{is_serving_inside}
use Rattle.metadata.proofs.Tags.{added}
use Rattle.metadata.proofs.KeptTags.{rows_passing, rows_rest, row_added}
use Rattle.metadata.specs.HiddenRuns.{Run, is_serving_after}
use Rattle.metadata.proofs.HiddenRuns.{whole_back, back_stepped, inside_rows, IsJumpOn, jump_on, jump_on_fewer, one_run, run_inside}
use Rattle.metadata.proofs.ServingEntries.{is_left, tags_left, inside_next}
use Rattle.metadata.proofs.tagging.add_tags_inside.Goals as goal

pub loop-key-init : goal.loop-key-init
loop-key-init c =
    let found = c.in_ok-inside.ensures.found in
    record {
      added = ap (added c.args.tags.now.keys) (tags_left c.args.entries.now c.entries.inside.entries.now c.entries.inside.hidden.now c.in_ok-inside.inside c.args.range.now found c.entries.view_is);
      rows = rows_passing c.entries.inside.entries.now (is_serving_inside c.args.range.now) c.in_ok-inside.inside c.serving_inside.ensures.order found;
      back = whole_back c.in_ok-inside.inside (inside_rows c.args.range.now c.entries.inside.entries.now) found;
      order = c.serving_inside.ensures.order;
    }

pub loop-key-preserved : goal.loop-key-preserved
loop-key-preserved c =
    let entry : Entry = (c.in-Some.key.now, c.in-Some.row.now) in
    let steps = c.in-Some.ensures.steps in
    let view = c.args.entries.now in
    let servers = c.entries.inside.servers.now.tags in
    let so_far =
    inside_next view c.next.new.self c.entries.inside.hidden.now entry c.loop-key.tags.keys c.add_unless_hidden.new.tags.keys _
    (λ hides. c.in_ok-add_unless_hidden.ensures.hides hides)
    (λ shows.
    c.in_ok-add_unless_hidden.ensures.shows shows
    ∙ ap (added c.loop-key.tags.keys) (c.new-row_tags.ensures ∙ tags_gathered servers view c.in-Some.row.now (subst (GiveTags servers) c.entries.view_is c.entries.invariant.1))
    ∙ row_added view c.loop-key.tags.keys entry)
    (ap (λ (es : Entries). added c.loop-key.tags.keys (flat_map (entry_tags view) (filter (is_left c.entries.inside.hidden.now) es))) (sym steps) ∙ c.loop-key.invariant.added) in
    record {
      added = so_far;
      rows = rows_rest c.entries.inside.entries.now entry c.next.new.self c.loop-key.inside steps c.loop-key.invariant.rows;
      back = back_stepped entry c.next.new.self c.loop-key.inside (inside_rows c.args.range.now c.entries.inside.entries.now) steps c.loop-key.invariant.back;
      order = c.loop-key.invariant.order;
    }

-- the entries after the last key of the run that the entry is in
jump : (c : goal.In_ok-inside-2) → IsJumpOn c.entries.inside.hidden.now c.entries.inside.entries.now c.args.range.now c.next.new.self c.in_ok-inside-2.inside
jump c =
    let entry : Entry = (c.in-Some.key.now, c.in-Some.row.now) in
    let run : Run = (c.in-Some-run_of.field-0-0.now, c.in-Some-run_of.last.now) in
    let rows = c.entries.inside.entries.now in
    jump_on c.entries.inside.hidden.now rows c.args.range.now c.next.new.self c.in_ok-inside-2.inside c.loop-key.inside entry run c.loop-key.invariant.order c.in-Some.ensures.steps c.loop-key.invariant.back
    (rows_rest rows entry c.next.new.self c.loop-key.inside c.in-Some.ensures.steps c.loop-key.invariant.rows)
    (one_run c.entries.inside.hidden.now rows c.entries.inside.runs.now run c.entries.invariant.0 c.in-Some-run_of.ensures.listed)
    c.in-Some-run_of.ensures.begins c.in-Some-run_of.ensures.reaches c.in_ok-inside-2.ensures

pub loop-key-preserved-in-Some-run_of : goal.loop-key-preserved-in-Some-run_of
loop-key-preserved-in-Some-run_of c =
    let entry : Entry = (c.in-Some.key.now, c.in-Some.row.now) in
    let steps = c.in-Some.ensures.steps in
    let view = c.args.entries.now in
    let servers = c.entries.inside.servers.now.tags in
    let so_far =
    inside_next view c.next.new.self c.entries.inside.hidden.now entry c.loop-key.tags.keys c.add_unless_hidden.new.tags.keys _
    (λ hides. c.in_ok-add_unless_hidden.ensures.hides hides)
    (λ shows.
    c.in_ok-add_unless_hidden.ensures.shows shows
    ∙ ap (added c.loop-key.tags.keys) (c.new-row_tags.ensures ∙ tags_gathered servers view c.in-Some.row.now (subst (GiveTags servers) c.entries.view_is c.entries.invariant.1))
    ∙ row_added view c.loop-key.tags.keys entry)
    (ap (λ (es : Entries). added c.loop-key.tags.keys (flat_map (entry_tags view) (filter (is_left c.entries.inside.hidden.now) es))) (sym steps) ∙ c.loop-key.invariant.added) in
    record {
      added = ap (λ (list : Entries). added c.add_unless_hidden.new.tags.keys (flat_map (entry_tags view) list)) (jump c).left ∙ so_far;
      rows = rows_passing c.entries.inside.entries.now (is_serving_after c.in-Some-run_of.last.now c.args.range.now) c.in_ok-inside-2.inside c.loop-key.invariant.order c.in_ok-inside-2.ensures;
      back = (jump c).back_is;
      order = c.loop-key.invariant.order;
    }

pub loop-key-smaller-in-Some-run_of : goal.loop-key-smaller-in-Some-run_of
loop-key-smaller-in-Some-run_of c =
    jump_on_fewer c.entries.inside.hidden.now c.entries.inside.entries.now c.args.range.now c.next.new.self c.in_ok-inside-2.inside c.loop-key.inside (c.in-Some.key.now, c.in-Some.row.now) (jump c) c.in-Some.ensures.steps

pub serving_after-requires : goal.serving_after-requires
serving_after-requires c =
    run_inside c.entries.inside.entries.now c.args.range.now (c.in-Some.key.now, c.in-Some.row.now) c.next.new.self c.loop-key.inside c.in-Some-run_of.last.now c.in-Some.ensures.steps c.loop-key.invariant.back c.in-Some-run_of.ensures.reaches

pub returns : goal.returns
returns c = ap (λ (es : Entries). added c.loop-key.tags.keys (flat_map (entry_tags c.args.entries.now) (filter (is_left c.entries.inside.hidden.now) es))) (sym c.in_default.ensures.steps.0) ∙ c.loop-key.invariant.added
