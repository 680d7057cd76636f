use Rattle.std.proofs.Common.{◌≡◌, ◌∙◌, [], Some, ap, inl, inr, refl, subst, sym}
use Rattle.clap.specs.Kinds.{HasKind, Kinds}
use Rattle.clap.specs.Words.{IsAmong, kind_of}
use Rattle.clap.specs.declared.error.Error.{Error}
use Rattle.clap.specs.declared.error.kind.ErrorKind.TheVariants as kinds
use Rattle.std.specs.Prelude.{Err}
use Rattle.command_line.specs.Rejections.{RejectsBy, TellsKind}
use Rattle.command_line.specs.declared.choosing.Rejection.{Rejection}
use Rattle.command_line.specs.declared.choosing.Rejection.TheVariants.{OutOfMemory, Words}
use Rattle.command_line.proofs.choosing.choose_mode.Goals as goal

-- an error that has none of the possible kinds is OutOfMemory
only_memory : (possible : Kinds) (error : Error) → possible ≡ [] → HasKind possible error → kind_of error ≡ kinds.OutOfMemory
only_memory possible error none (inl memory) = memory
only_memory possible error none (inr among) = absurd (subst (IsAmong (kind_of error)) none among)

-- the text of an error tells one of the possible kinds
tells : (possible : Kinds) (error : Error) (rejection : Rejection) → HasKind possible error
    → (kind_of error ≡ kinds.OutOfMemory → rejection ≡ OutOfMemory) → TellsKind (kind_of error) rejection → RejectsBy possible (Err rejection)
tells possible error OutOfMemory has memory told = tt
tells possible error (Words text) (inl is) memory told = let none = memory is in cc
tells possible error (Words text) (inr among) memory told = (kind_of error, among, told)

pub returns-in-Ok-Some : goal.returns-in-Ok-Some
returns-in-Ok-Some g c =
    let read = c.in-Ok-Some.ensures.read in
    record {
      names = read.0;
      refused = λ some. absurd (some read.1.0);
      told = λ some. absurd (some read.1.0);
      taken = λ _. sym read.1.1 ∙ c.in-Ok-Some.field-0-is ∙ ap (λ mode. Some mode) (sym c.in-Ok-Some.mode-is);
    }

pub returns-in-Err : goal.returns-in-Err
returns-in-Err g c =
    let read = c.in-Err.ensures.read in
    record {
      names = read.0;
      refused = λ _. refl;
      told = λ _. tells _ c.in-Err.error c.rejection_of.result read.1 c.rejection_of.ensures.memory c.rejection_of.ensures.told;
      taken = λ none. c.rejection_of.ensures.memory (only_memory _ c.in-Err.error none read.1);
    }
