use Rattle.std.proofs.Common.{inl, inr, refl}
use Rattle.command_line.proofs.known_lines.known_lines_scenarios.Goals as goal

pub returns : goal.returns
returns c = record {
  no_words = inl refl;
  fold = inr refl;
  turns = refl;
  threads = refl;
  other_letters = inl refl;
  help = (inr (inl refl), inr (inr refl));
  turns_is_no_fold = λ line. elim line [ inl none ↦ cc | inr fold ↦ cc ];
  twice_is_no_fold = λ line. elim line [ inl none ↦ cc | inr fold ↦ cc ];
  fold_is_no_rejection = λ line. elim line [ inl other ↦ cc | inr help ↦ elim help [ inl long ↦ cc | inr short ↦ cc ] ];
}
