-- What the program adds to the text of an error.
use Rattle.std.proofs.Common.{◌≡◌, ◌≢◌, List, [], ◌∷◌, ◌++◌, refl}
use Rattle.clap.specs.declared.error.kind.ErrorKind.{ErrorKind}
use Rattle.clap.specs.declared.error.kind.ErrorKind.TheVariants.{DisplayHelp}
use Rattle.clap.specs.Words.{Kinds}
use Rattle.command_line.specs.Rejections.{IsTextOf, ending_of_kind, hint}

-- any error but help has a hint
pub of_no_help : (kind : ErrorKind) → (kind ≡ DisplayHelp → ⊥) → ending_of_kind kind ≡ hint
of_no_help DisplayHelp other = absurd (other refl)
of_no_help kind other = refl

some_ending : (kind : ErrorKind) → ending_of_kind kind ≢ []
some_ending DisplayHelp none = cc
some_ending kind none = cc

-- the text of a refusal is not empty
pub is_told : (faults : Kinds) (text : List _) → IsTextOf faults text → text ≢ []
is_told faults text told none = by told.2.0 (told.2.1)
  where
    by : (said : List _) → text ≡ said ++ ending_of_kind told.0 → ⊥
    by [] is = let e : ending_of_kind told.0 ≡ [] = cc in some_ending told.0 e
    by (x ∷ said) is = cc
