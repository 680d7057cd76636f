use Rattle.std.proofs.Common.{◌≡◌, ◌∙◌, ◌<◌, ◌∷◌, [], ℕ, true, ltb, refl}
use Rattle.std.proofs.lemmas.Bool.{lt-ltb}
use Rattle.std.specs.Char.{encode_utf8}
use Rattle.pages.proofs.Prints.{prints_as}
use Rattle.scripts.proofs.line_pieces.push_ascii.Goals as goal

one_byte : (character : ℕ) → character < 128 → encode_utf8 character ≡ character ∷ []
unfolding encode_utf8
one_byte character small = let yes : ltb character 128 ≡ true = lt-ltb character 128 small in rw yes refl

pub returns : goal.returns
returns g c = prints_as c.push.ensures (c.encode_utf8.ensures.value ∙ one_byte c.args.character c.requires)
