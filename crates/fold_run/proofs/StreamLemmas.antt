-- The fields of a fold script, as they come.
use Rattle.std.proofs.Common.{◌≡◌, ℕ, List, refl, codes, arith}
use Rattle.std.specs.Prelude.{Option, Some, None, IfSome}
use Rattle.json.specs.Token.{Token}
use Rattle.serde_json.specs.Data.{Data, Members, object, put}
use Rattle.serde_json.specs.Find.{get_member}
use Rattle.scripts.specs.Shapes.{bytes_shape, count_members, list_shape, number_shape}
use Rattle.scripts.specs.Streams.{Fills, Takes, TakesData}
use Rattle.scripts.proofs.StreamLemmas.{taken_data}
use Rattle.scripts.proofs.StreamObjectLemmas.{slot_put, slot_other, slot_value, count_new, if_some_weaker}
use Rattle.fold_run.specs.Shapes.{fields_shape, row_shape}
use Rattle.fold_run.specs.Streams.{HoldsFields}
use Rattle.fold_run.specs.declared.script.RawRow.{RawRow}
use Rattle.fold_run.specs.declared.fold_fields.FoldFields.{FoldFields}

-- the rows are taken into an empty place
pub rows_put : {R : Type 0} (is_from : R → List RawRow → Type 0) (depth : ℕ) (old rest : List Token) (f new : FoldFields R) (result : Option Unit)
    → IfSome result (λ _. (raws : List RawRow) × (made : R) × Takes (list_shape row_shape) depth old raws rest × is_from made raws × (f.rows ≡ None) × (new ≡ record f { rows = Some made }))
    → IfSome result (λ _. (d : Data) × TakesData depth old d rest × ((ms : Members) → HoldsFields is_from f ms → HoldsFields is_from new (put (codes "rows") d ms)))
rows_put is_from depth old rest f new result taken = if_some_weaker result (λ _ found.
    let raws = found.0 in
    let read = taken_data (list_shape row_shape) depth old rest raws found.2 in
    let d = read.0 in
    let k = codes "rows" in (
      d,
      read.1,
      λ ms held.
          let empty : held.0 ≡ None = rw found.4 at held.1 in
          let fills : Fills (list_shape row_shape) d held.0 (Some raws) = record { empty = empty; filled = refl; value = read.2 } in
          let more = count_new (list_shape row_shape) k d held.0 (Some raws) ms fills held.3 in
          rw found.5 (
            Some raws,
            (raws, refl, found.3),
            slot_other number_shape (codes "resolvers") k f.resolvers d ms refl held.2,
            slot_put (list_shape row_shape) k d held.0 (Some raws) ms fills,
            slot_other (list_shape bytes_shape) (codes "ask") k f.ask d ms refl held.4,
            omega (arith, more.0, more.1, more.2, held.5),
          ),
    )) taken

-- ---- a whole script

-- the fields are those of a script
pub fields_of_script : {R : Type 0} (is_from : R → List RawRow → Type 0) (f : FoldFields R) (ms : Members) (resolvers : ℕ) (made : R) (ask : List (List ℕ))
    → HoldsFields is_from f ms → f.resolvers ≡ Some resolvers → f.rows ≡ Some made → f.ask ≡ Some ask
    → (raws : List RawRow) × is_from made raws × (fields_shape (object ms) ≡ Some (record { resolvers = resolvers; rows = raws; ask = ask }))
fields_of_script is_from f ms resolvers made ask held given rows asked =
    let from = rw rows at held.1 in
    let raws = from.0 in
    let a = slot_value number_shape (get_member (codes "resolvers") ms) resolvers (rw given at held.2) in
    let b = slot_value (list_shape row_shape) (get_member (codes "rows") ms) raws (rw from.1 at held.3) in
    let c = slot_value (list_shape bytes_shape) (get_member (codes "ask") ms) ask (rw asked at held.4) in
    let count : count_members ms ≡ 3 = rw (given, from.1, asked) at held.5 in
    (raws, from.2, rw (count, a.1, a.2, b.1, b.2, c.1, c.2) refl)
