-- Keys of one class compare as what is behind the prefix does.
use Rattle.std.proofs.Common.{◌∙◌, ap, ap₂, refl}
use Rattle.system_keys.specs.Keys.{Key}
use Rattle.metadata.proofs.KeyValues.{key_cmp}
use Rattle.metadata.proofs.EntryKeys.{same_class}
use Rattle.metadata.proofs.entry_key.EntryKey.compare_to.Goals as goal

pub returns-in-Equal : goal.returns-in-Equal
returns-in-Equal c =
    c.cmp.ensures
    ∙ ap (λ (key : Key). key_cmp key c.parts_of-class.result.1.now) c.as_slice.ensures
    ∙ same_class c.self.inside.class c.parts_of-class.result.0 c.self.inside.rest c.parts_of-class.result.1.now (c.in-Equal.ensures.same refl)
    ∙ ap₂ key_cmp c.self.view_is c.parts_of-class.ensures.rest
