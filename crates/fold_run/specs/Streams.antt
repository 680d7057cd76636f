-- What is held of the fields of a script while they come (this project's profile).
use Rattle.std.specs.Prelude.{◌≡◌, ◌+◌, List, codes, Option}
use Rattle.serde_json.specs.Data.{Members}
use Rattle.scripts.specs.Shapes.{bytes_shape, count_members, list_shape, number_shape}
use Rattle.scripts.specs.Streams.{IsFrom, Slot, one}
use Rattle.fold_run.specs.Shapes.{row_shape}
use Rattle.fold_run.specs.declared.script.RawRow.{RawRow}
use Rattle.fold_run.specs.declared.fold_fields.FoldFields.{FoldFields}

-- what the fields of a script hold while they come; of the rows, what `is_from` says of them
abbrev pub HoldsFields : {R : Type 0} → (R → List RawRow → Type 0) → FoldFields R → Members
    → Type 0
HoldsFields is_from f ms = (raws : Option (List RawRow)) × IsFrom is_from f.rows raws
    × Slot number_shape (codes "resolvers") f.resolvers ms
    × Slot (list_shape row_shape) (codes "rows") raws ms
    × Slot (list_shape bytes_shape) (codes "ask") f.ask ms
    × (count_members ms ≡ one f.resolvers + one raws + one f.ask)
