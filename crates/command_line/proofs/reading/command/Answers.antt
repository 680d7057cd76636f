use Rattle.std.proofs.Common.{rules, arith, ap, ap₂, sym, subst, refl, inl, inr, ◌≡◌, ◌∙◌, codes, true, ℕ, List, [], Bool, Option, Some, slice_index}
use Rattle.std.proofs.lemmas.Result.{IfOk-weaker}
use Rattle.clap.specs.Words.{App, Rule, app_of, new_rule, rule_of, AddsArg, first_value, found_of}
use Rattle.clap.specs.Simple.{app_of_fields, with_rule}
use Rattle.clap.specs.Values.{Accepts}
use Rattle.clap.specs.declared.builder.command.Command.{Command}
use Rattle.clap.specs.declared.builder.value_parser.ValueParser.{ValueParser}
use Rattle.clap.specs.declared.builder.value_parser.ValueParser.TheVariants.{Names}
use Rattle.command_line.specs.CommandLine.{ModeNames, bare_shape, mode_rule}
use Rattle.command_line.proofs.GivenValue.{one_given_passes}
use Rattle.command_line.proofs.reading.command.Goals as goal

pub returns : goal.returns
returns c =
    let names : ModeNames = record { list = c.as_slice.result; texts = search rules } in
    let given = c.value_parser-mode.ensures.given in
    let named : rule_of c.value_name.result ≡ record (new_rule (codes "mode")) { value_names = 1 } =
    ap rule_of c.value_name.ensures ∙ ap (λ (r : Rule). record r { value_names = 1 }) c.new.ensures.rule in
    let helped : rule_of c.help.result ≡ record (new_rule (codes "mode")) { value_names = 1 } = ap rule_of c.help.ensures ∙ named in
    let parser : c.value_parser-mode.result.value_parser ≡ Some (Names c.as_slice.result) = given.1 ∙ ap (λ (q : ValueParser). Some q) given.2 in
    let rule_is : rule_of c.value_parser-mode.result ≡ mode_rule names =
    ap rule_of c.value_parser-mode.ensures.others ∙ ap₂ (λ (r : Rule) (q : Option ValueParser). record r { parser = q }) helped parser in
    let bare_is : app_of c.no_binary_name.result ≡ record { top = bare_shape; subs = [] } =
    ap app_of_fields c.no_binary_name.ensures
    ∙ ap (λ (a : App). record a { top = record a.top { no_binary_name = true } }) (ap app_of_fields c.about.ensures ∙ c.new-2.ensures.app) in
    let id_is : c.value_parser-mode.result.id.now ≡ codes "mode" = ap (λ (r : Rule). r.id) rule_is in
    let first : (t : List ℕ) → c.value_parser-mode.result.id.now ≡ t → slice_index t 0 ≡ 109 = λ t e. rw (← e, id_is) refl in
    IfOk-weaker c.arg.result _ _ (λ (command : Command) (added : AddsArg c.no_binary_name.result c.value_parser-mode.result command). (
      names,
      record {
        shape = added.shape (search rules) ∙ ap₂ with_rule bare_is rule_is;
        passes = λ matches word parsed is. subst (λ (b : Bool). Accepts b (Names names.list) word) (ap (λ (r : Rule). r.ignore_case) rule_is)
            (one_given_passes c.no_binary_name.result command c.value_parser-mode.result matches added (search rules) (search rules) (search rules)
            (search rules) (search rules)
            (λ e. let bad : 0 ≡ 109 = first [] e in absurd (omega arith))
            (λ auto. elim auto [
              | inl h ↦ let bad : 104 ≡ 109 = first _ h in absurd (omega arith)
              | inr h ↦ let bad : 118 ≡ 109 = first _ h in absurd (omega arith)
            ])
            (Names names.list) parser parsed word (subst (λ (t : List ℕ). first_value (found_of matches) t ≡ Some word) (sym id_is) is));
      },
    )) c.arg.ensures
