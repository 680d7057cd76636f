-- The verdict by all pairs, over the places of a history.
use Rattle.std.proofs.Common.{◌≡◌, sym, ap, ◌∙◌, subst, ℕ, ◌<◌, List, arith}
use Rattle.std.specs.Prelude.{true, ◌⊎◌, ◌↔◌, nat_eq, nat_lt, slice_get, Some, Contains}
use Rattle.std.proofs.lemmas.Bool.{eqb-true, eq-eqb, ltb-true, lt-ltb, or_cases, or_left, or_right}
use mathlib.Core.Logic.{inl, inr}
use Rattle.model.specs.Configs.{Config, IsConfig}
use Rattle.model.specs.declared.verdict.Verdict.TheVariants.{Conflict}
use Rattle.model.specs.Records.{Record, IsHistory}
use Rattle.model.specs.Verdicts.{JudgedPart, is_after_snapshot, verdict}
use Rattle.model.specs.Serial.{Place, IsBetween, seen_at, verdict_at_place, HasConflictWith}
use Rattle.model.proofs.Owners.Moves.{grows}
use Rattle.model.proofs.Verdicts.ByPairs.{HasConflict-from_verdict, verdict-from_HasConflict}
use Rattle.model.proofs.Verdicts.Places.{IsBefore, judged_before_place, same_record, verdict_at_place_is, judged_around, judged_place}

-- versions rise along a history
versions_rise : (config : Config) (h : List Record) (i j : ℕ) (a b : Record) → IsConfig config → IsHistory config h → i < j → slice_get h i ≡ Some a → slice_get h j ≡ Some b → a.version < b.version
versions_rise config h i j a b limits history earlier a_is b_is =
    let chained = (grows config h i j a b history earlier a_is b_is).chained in
    let stepped = (history j b b_is).version in
    let positive = limits.step.0 in
    omega arith

before_from_between : {h : List Record} (a b : Place h) → IsBetween a b → IsBefore a b
before_from_between a b (inl same) = inl same
before_from_between a b (inr earlier) = inr earlier.0

-- what is after the snapshot by versions stands between the snapshot and the transaction
between_from_after : (config : Config) (r : ℕ) (h : List Record) (a b : Place h) → IsConfig config → IsHistory config h → IsBefore a b → is_after_snapshot (seen_at config r b) (seen_at config r a) ≡ true → IsBetween a b
between_from_after config r h a b limits history (inl same) after = inl same
between_from_after config r h a b limits history (inr earlier) after = go (or_cases (nat_eq a.rec.version b.rec.version) (nat_lt b.transaction.snapshot a.rec.version) after)
  where
    rises : a.rec.version < b.rec.version
    rises = versions_rise config h a.i b.i a.rec b.rec limits history earlier a.record_is b.record_is

    go : (nat_eq a.rec.version b.rec.version ≡ true) ⊎ (nat_lt b.transaction.snapshot a.rec.version ≡ true) → IsBetween a b
    go (inl same) = let equal = eqb-true a.rec.version b.rec.version same in absurd (omega (arith, rises))
    go (inr above) = inr (earlier, ltb-true b.transaction.snapshot a.rec.version above)

-- what stands between the snapshot and the transaction is after the snapshot, by versions alone
after_from_between : (config : Config) (r : ℕ) (h : List Record) (a b : Place h) → IsBetween a b → is_after_snapshot (seen_at config r b) (seen_at config r a) ≡ true
after_from_between config r h a b (inl same) = or_left (nat_eq a.rec.version b.rec.version) (nat_lt b.transaction.snapshot a.rec.version) (eq-eqb a.rec.version b.rec.version (ap (λ (s : Record). s.version) (same_record a b same.0)))
after_from_between config r h a b (inr earlier) = or_right (nat_eq a.rec.version b.rec.version) (nat_lt b.transaction.snapshot a.rec.version) (lt-ltb b.transaction.snapshot a.rec.version earlier.1)

pub HasConflictWith-from_verdict : (config : Config) (r : ℕ) (h : List Record) (b : Place h) → IsConfig config → IsHistory config h → verdict_at_place config r h b ≡ Conflict → HasConflictWith config r h b
HasConflictWith-from_verdict config r h b limits history e =
    let c = HasConflict-from_verdict config.window (judged_before_place config r h b) (seen_at config r b) (sym (verdict_at_place_is config r h b) ∙ e) in
    let p = judged_place config r h b c.earlier c.u c.between c.before_is in
    let own : verdict config.window c.earlier c.u ≡ verdict config.window (judged_before_place config r h p.a) (seen_at config r p.a) = cc (p.front_is, p.u_is) in
    record {
      in_time = c.in_time;
      a = p.a;
      asked = p.asking;
      committed = verdict_at_place_is config r h p.a ∙ (sym own ∙ c.committed);
      between = between_from_after config r h p.a b limits history p.before (subst (λ (u : JudgedPart). is_after_snapshot (seen_at config r b) u ≡ true) p.u_is c.after_snapshot);
      read = c.read;
      write = c.write;
      read_in = c.read_in;
      write_in = subst (λ (u : JudgedPart). Contains u.part.writes c.write) p.u_is c.write_in;
      overlap = c.overlap;
    }

pub verdict-from_HasConflictWith : (config : Config) (r : ℕ) (h : List Record) (b : Place h) → HasConflictWith config r h b → verdict_at_place config r h b ≡ Conflict
verdict-from_HasConflictWith config r h b c =
    let near = judged_around config r h c.a b (before_from_between c.a b c.between) c.asked in
    verdict_at_place_is config r h b ∙ verdict-from_HasConflict config.window (judged_before_place config r h b) (seen_at config r b) (record {
      in_time = c.in_time;
      earlier = judged_before_place config r h c.a;
      u = seen_at config r c.a;
      between = near.back;
      before_is = near.whole;
      committed = sym (verdict_at_place_is config r h c.a) ∙ c.committed;
      after_snapshot = after_from_between config r h c.a b c.between;
      read = c.read;
      write = c.write;
      read_in = c.read_in;
      write_in = c.write_in;
      overlap = c.overlap;
    })

pub verdict_places : (config : Config) (r : ℕ) (h : List Record) (b : Place h) → IsConfig config → IsHistory config h → (verdict_at_place config r h b ≡ Conflict) ↔ HasConflictWith config r h b
verdict_places config r h b limits history = (HasConflictWith-from_verdict config r h b limits history, verdict-from_HasConflictWith config r h b)
