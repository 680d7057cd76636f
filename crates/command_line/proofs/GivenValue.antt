-- What clap lets through as the value of a command's one argument.
use Rattle.std.proofs.Common.{◌++◌, ◌||◌, ◌≡◌, ◌∙◌, ◌<◌, ap, ℕ, Bool, true, false, List, [], ◌∷◌, length, Option, Some, None, refl, sym, subst, inl, inr, arith}
use Rattle.std.specs.List.{All, slice_index_or}
use Rattle.std.specs.Str.{bytes_eq}
use Rattle.std.specs.Prelude.{option_map, slice_get}
use Rattle.std.specs.Borrow.{Bor}
use Rattle.std.proofs.lemmas.Slice.Eq.{bytes_eq-Decides}
use Rattle.std.proofs.lemmas.List.Elements.{All-get_or, All-nil}
use Rattle.clap.specs.Facts.{args_of, groups_of, Entry, EntryPasses, PassesArg, parser_of, parser_of_value}
use Rattle.clap.specs.Built.{IsPlain, IsPlainArg, IsParsedFrom, IsAuto, AddsArg, SameRules}
use Rattle.clap.specs.Matches.{matched_of, first_value, found_of}
use Rattle.clap.specs.Values.{Accepts}
use Rattle.clap.proofs.CallerLemmas.{entry_by_id, same_rules_by_id, added_plain}
use Rattle.clap.specs.declared.builder.arg.Arg.{Arg}
use Rattle.clap.specs.declared.builder.command.Command.{Command}
use Rattle.clap.specs.declared.builder.command.Command.TheViews.{out-Command}
use Rattle.clap.specs.declared.builder.value_parser.ValueParser.{ValueParser}
use Rattle.clap.specs.declared.parser.matches.ArgMatches.{ArgMatches}
use Rattle.clap.specs.declared.parser.matches.MatchedArg.{MatchedArg}

-- the first of several values that all pass
first_passes : (P : List ℕ → Type 0) (vs : List (Bor (List ℕ))) (v : List ℕ) → All (λ w. P w.now) vs
    → option_map (λ s. s.now) (slice_get vs 0) ≡ Some v → P v
first_passes P [] v all first = cc
first_passes P (w ∷ ws) v all first =
    let is : w.now ≡ v = cc in
    subst P is (All-get_or (λ w. P w.now) (w ∷ ws) 0 w (omega arith) all)

-- what passed the parser of an argument with the same rules
accepts_of : (a y : Arg) (q : ValueParser) (t : List ℕ) → SameRules a y → a.value_parser ≡ Some q
    → Accepts y.ignore_case (parser_of y) t → Accepts a.ignore_case q t
accepts_of a y q t s parser read =
    let is_q : parser_of y ≡ q = ap parser_of_value (s.parser q parser) in
    let as_q : Accepts y.ignore_case q t = subst (λ (w : ValueParser). Accepts y.ignore_case w t) is_q read in
    subst (λ (b : Bool). Accepts b q t) s.ignore_case as_q

-- each value of the entry of an argument passed the parser of an argument with its id
entry_values : (c : Command) (id : List ℕ) (x : MatchedArg) (e : Entry) → groups_of c ≡ [] → (id ≡ [] → ⊥)
    → e.1 ≡ x → e.0.now ≡ id → EntryPasses c e → All (λ w. PassesArg c id w.now) x.vals.items
entry_values c id x e no_groups named same_x key_id pass =
    let no_group : e.1.is_group ≡ true → ⊥ = λ g. elim (pass.3 g) [
      | inl empty ↦ named (sym key_id ∙ empty)
      | inr lots ↦
          let bad : 0 < 0 = rw no_groups at lots in
          absurd (omega arith)
    ] in
    elim pass.0 [
      | inl g ↦ absurd (no_group g)
      | inr vals ↦ subst (λ (w : List ℕ). All (λ v. PassesArg c w v.now) x.vals.items) key_id (rw same_x at vals)
    ]

-- the value that was given to the one argument of a command passed that argument's parser
pub one_given_passes : (start cmd : Command) (a : Arg) (m : ArgMatches) → AddsArg start a cmd
    → args_of start ≡ [] → groups_of start ≡ [] → (out-Command start).has_globals ≡ false
    → IsPlainArg a → a.global ≡ false → (a.id.now ≡ [] → ⊥) → (IsAuto a → ⊥)
    → (q : ValueParser) → a.value_parser ≡ Some q → IsParsedFrom cmd m
    → (v : List ℕ) → first_value (found_of m) a.id.now ≡ Some v → Accepts a.ignore_case q v
one_given_passes start cmd a m added args groups globals plain global named own q parser p v given =
    go (matched_of (found_of m) a.id.now) refl
  where
    passes : PassesArg p.built a.id.now v → Accepts a.ignore_case q v
    passes pass =
        let list : args_of cmd ≡ added.arg ∷ [] = added.args ∙ ap (λ l. l ++ added.arg ∷ []) args in
        let elem : slice_index_or (args_of cmd) 0 a ≡ added.arg = ap (λ l. slice_index_or l 0 a) list in
        let lt : 0 < length (args_of cmd) = subst (λ l. 0 < length l) (sym list) (omega arith) in
        let same-id : (slice_index_or (args_of cmd) 0 a).id ≡ a.id = ap (λ x. x.id) elem ∙ added.rules.id in
        let same-now : (slice_index_or (args_of cmd) 0 a).id.now ≡ a.id.now = ap (λ x. x.now) same-id in
        let same-parser : (slice_index_or (args_of cmd) 0 a).value_parser ≡ Some q = ap (λ x. x.value_parser) elem ∙ added.rules.parser q parser in
        let same-case : (slice_index_or (args_of cmd) 0 a).ignore_case ≡ a.ignore_case = ap (λ x. x.ignore_case) elem ∙ added.rules.ignore_case in
        let only : (j : ℕ) (e : Arg) → j < length (args_of cmd) → bytes_eq (slice_index_or (args_of cmd) j e).id.now (slice_index_or (args_of cmd) 0 a).id.now ≡ true → j ≡ 0 =
        λ j e low same. let one : j < 1 = subst (λ l. j < length l) list low in omega arith in
        let there : bytes_eq pass.1.id.now (slice_index_or (args_of cmd) 0 a).id.now ≡ true =
        subst (λ (u : List ℕ). bytes_eq pass.1.id.now u ≡ true) (sym same-now) pass.4.0 in
        let rules = same_rules_by_id cmd m p 0 a lt only
        (λ auto. own (elim auto [ inl h ↦ inl (sym same-now ∙ h) | inr h ↦ inr (sym same-now ∙ h) ]))
        pass.0 pass.1 pass.2 pass.3 there in
        subst (λ (b : Bool). Accepts b q v) same-case (accepts_of _ pass.1 q v rules same-parser pass.4.1)

    go : (o : Option MatchedArg) → matched_of (found_of m) a.id.now ≡ o → Accepts a.ignore_case q v
    go None e =
        let bad : None ≡ Some v = rw e at given in
        cc
    go (Some x) e =
        let start-plain : IsPlain start = (subst (All IsPlainArg) (sym args) (All-nil IsPlainArg), groups) in
        let plain2 : IsPlain cmd = added_plain start cmd a added start-plain plain in
        let no-globals : (out-Command cmd).has_globals ≡ false = added.globals ∙ (ap (λ b. b || a.global) globals ∙ ap (λ b. false || b) global) in
        let parsed = p.parsed (p.from.globals ∙ no-globals) in
        let got = entry_by_id (EntryPasses p.built) (found_of m).entries.items a.id.now x parsed.values e in
        let all = entry_values p.built a.id.now x got.0 (p.from.plain plain2).1 named got.1 ((bytes_eq-Decides got.0.0.now a.id.now).0 got.2) got.3 in
        passes (first_passes (λ w. PassesArg p.built a.id.now w) x.vals.items v all (rw e at given))
