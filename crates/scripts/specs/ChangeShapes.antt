-- The form of a change, in fold scripts and in batches: an object of one field, whose name says
-- what the list of two texts in it stands for (this project's profile).
use Rattle.std.specs.Prelude.{ℕ, List, codes, if◌then◌else◌, Option, Some, None, option_map}
use Rattle.serde_json.specs.Data.{Data}
use Rattle.serde_json.specs.Find.{get}
use Rattle.mutation.specs.declared.transaction.Mutation.{Mutation}
use Rattle.mutation.specs.declared.transaction.Mutation.TheVariants as mutations
use Rattle.scripts.specs.declared.raw_change.RawChange.{RawChange}
use Rattle.scripts.specs.declared.raw_change.RawChange.TheVariants.{Set, Clear}
use Rattle.scripts.specs.Shapes.{pair_shape, has_fields}

-- the value of a field that is there, in an object that has to have no other field
abbrev pub only_pair : Data → Option Data → Option (Option (List ℕ × List ℕ))
only_pair d (Some value) = if has_fields 1 d then option_map Some (pair_shape value) else None
only_pair d None = Some None

-- `{"NAME":[text,text]}` gives the two texts; an object without this field gives nothing
abbrev pub pair_in_field : List ℕ → Data → Option (Option (List ℕ × List ℕ))
pair_in_field name d = only_pair d (get name d)

-- what the pair stands for if there is one, and otherwise the next form
abbrev pub or_form : {X : Type 0} → Option (Option (List ℕ × List ℕ)) → (List ℕ → List ℕ → X)
    → Option X → Option X
or_form None form next = None
or_form (Some (Some pair)) form next = Some (form pair.0 pair.1)
or_form (Some None) form next = next

-- `{"clear":[begin,end]}`
abbrev pub clear_shape : Data → Option RawChange
clear_shape d = or_form (pair_in_field (codes "clear") d) Clear None

-- `{"set":[key,value]}` or `{"clear":[begin,end]}`
abbrev pub change_shape : Data → Option RawChange
change_shape d = or_form (pair_in_field (codes "set") d) Set (clear_shape d)

-- a change, as a mutation of a transaction
abbrev pub mutation_of_raw : RawChange → Mutation
mutation_of_raw (Set key value) = mutations.Set key value
mutation_of_raw (Clear begin end) = mutations.Clear begin end

-- `{"set_stamped":[key,value]}`, or a change
abbrev pub mutation_shape : Data → Option Mutation
mutation_shape d = or_form (pair_in_field (codes "set_stamped") d) mutations.SetStamped
    (option_map mutation_of_raw (change_shape d))
