use Rattle.std.proofs.Common.{ap, subst, sym, refl, inl, ◌∷◌, ◌≡◌, ◌∙◌, codes, map, []}
use Rattle.std.proofs.lemmas.Result.{err_from_is_err_and}
use Rattle.clap.specs.Words.{App, fault_of, first_of, found_of, is_simple, is_simple_and_free, matches_of}
use Rattle.clap.specs.Kinds.{HasKind}
use Rattle.clap.proofs.WalkLemmas.{first_value-rows}
use Rattle.command_line.specs.CommandLine.{ModeNames, mode_given}
use Rattle.command_line.proofs.OfferedModes.{is_name, some_mode}
use Rattle.std.specs.Prelude.{IsSome, Option}
use Rattle.command_line.specs.declared.mode.Mode.{Mode}
use Rattle.command_line.proofs.reading.read_mode.Goals as goal

-- names for a command line that no command was made of
abbrev some_names : ModeNames
some_names = record {
  list = record {
    ref_ptr = (0, 0);
    now = record { ref_ptr = (0, 0); now = codes "fold" } ∷ record { ref_ptr = (0, 0); now = codes "turns" }
        ∷ record { ref_ptr = (0, 0); now = codes "threads" } ∷ [];
  };
  texts = refl;
}

pub returns-in_err-command-clause-read : goal.returns-in_err-command-clause-read
returns-in_err-command-clause-read g c =
    let exit = err_from_is_err_and c.from_residual.result c.from_residual.ensures.1 in
    (some_names, rw exit.1 (inl exit.2))

pub returns-in_err-matches-clause-read : goal.returns-in_err-matches-clause-read
returns-in_err-matches-clause-read g c =
    let words = map g.W.AsStr.text c.args.words.now in
    let line = c.in_ok-command.ensures in
    let fails = c.in_err-matches.ensures.kinds (ap is_simple_and_free line.1.shape) in
    let exit = err_from_is_err_and c.from_residual-in_err-matches.result c.from_residual-in_err-matches.ensures.1 in
    (line.0, rw (exit.1, exit.2) (subst (λ (a : App). HasKind (fault_of a words) c.in_err-matches.field-0.0) line.1.shape fails))

pub returns-clause-read : goal.returns-clause-read
returns-clause-read g c =
    let words = map g.W.AsStr.text c.args.words.now in
    let line = c.in_ok-command.ensures in
    let read = c.in_ok-matches.ensures in (
      line.0,
      (
        subst (λ (a : App). fault_of a words ≡ []) line.1.shape (read.kinds (ap is_simple_and_free line.1.shape)),
        c.mode_given.ensures ∙ ap mode_given (first_value-rows (found_of c.in_ok-matches.matches) (codes "mode")
            ∙ ap (first_of (codes "mode")) ((read.matches (ap is_simple line.1.shape)).0 ∙ ap (λ (a : App). matches_of a words) line.1.shape)),
      ),
    )

pub returns-clause-offered : goal.returns-clause-offered
returns-clause-offered g c =
    let line = c.in_ok-command.ensures in
    subst (λ (mode : Option Mode). IsSome mode) (sym c.mode_given.ensures)
    (some_mode _ (λ word is. is_name line.0 word (line.1.passes c.in_ok-matches.matches word c.in_ok-matches.ensures.parsed is)))
