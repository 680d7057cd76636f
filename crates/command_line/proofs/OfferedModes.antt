-- The command line takes no modes but those that there are.
use Rattle.std.proofs.Common.{◌||◌, ◌⊎◌, ◌≡◌, ◌∙◌, Bool, true, false, List, Option, Some, None, codes, map, refl, sym, subst, inl, inr}
use Rattle.std.specs.Prelude.{IsSome}
use Rattle.std.specs.List.{list_any}
use Rattle.std.proofs.lemmas.Slice.Eq.{bytes_eq-Decides}
use Rattle.std.specs.Str.{bytes_eq}
use Rattle.clap.specs.Words.{Text}
use Rattle.clap.specs.Values.{Accepts, same_text}
use Rattle.clap.specs.declared.builder.value_parser.ValueParser.TheVariants.{Names}
use Rattle.clap.proofs.WalkLemmas.{list_any-map}
use Rattle.command_line.specs.CommandLine.{ModeNames, mode_given}
use Rattle.command_line.specs.Modes.{mode_named}

either : (a b : Bool) → (a || b) ≡ true → (a ≡ true) ⊎ (b ≡ true)
either true b e = inl refl
either false b e = inr e

or_false : (b : Bool) → (b || false) ≡ true → b ≡ true
or_false true e = refl
or_false false e = e

-- the word is the name of a mode
abbrev pub IsName : Text → Type 0
IsName word = (codes "fold" ≡ word) ⊎ (codes "turns" ≡ word) ⊎ (codes "threads" ≡ word)

-- a word that is among the names is the name of a mode
pub is_name : (names : ModeNames) (word : Text) → Accepts false (Names names.list) word → IsName word
is_name names word taken =
    let among : list_any (λ t. same_text false t word) (map (λ n. n.now) names.list.now) ≡ true =
    sym (list_any-map (λ t. same_text false t word) (λ n. n.now) names.list.now) ∙ taken in
    let three : (bytes_eq (codes "fold") word || (bytes_eq (codes "turns") word || (bytes_eq (codes "threads") word || false))) ≡ true =
    subst (λ (ts : List Text). list_any (λ t. same_text false t word) ts ≡ true) names.texts among in
    elim (either _ _ three) [
      | inl fold ↦ inl ((bytes_eq-Decides (codes "fold") word).0 fold)
      | inr rest ↦ inr (elim (either _ _ rest) [
        | inl turns ↦ inl ((bytes_eq-Decides (codes "turns") word).0 turns)
        | inr last ↦ inr ((bytes_eq-Decides (codes "threads") word).0 (or_false _ last))
      ])
    ]

-- a word that can be the name of a mode alone gives a mode, and so does none
pub some_mode : (given : Option Text) → ((word : Text) → given ≡ Some word → IsName word) → IsSome (mode_given given)
some_mode None among = refl
some_mode (Some word) among = elim (among word refl) [
  | inl fold ↦ subst (λ (name : Text). IsSome (mode_named name)) fold refl
  | inr rest ↦ elim rest [
    | inl turns ↦ subst (λ (name : Text). IsSome (mode_named name)) turns refl
    | inr threads ↦ subst (λ (name : Text). IsSome (mode_named name)) threads refl
  ]
]
