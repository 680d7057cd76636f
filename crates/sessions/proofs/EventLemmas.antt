-- Views that go on by events, and events that are writes.
use Rattle.std.proofs.Common.{◌≡◌, ◌≢◌, ◌<◌, ◌≤◌, arith, ◌+◌, ◌⊎◌, ℕ, List, [], ◌∷◌, ◌++◌, Option, Some, None, IfSome, refl, sym, ap, ◌∙◌, append_assoc, append-nil, ◌-◌, length, take, drop, take-append-drop, subst, inl, inr}
use Rattle.std.proofs.lemmas.List.{length-take-le, take_rest}
use Rattle.std.specs.Io.KnownBytes.{Appends, Consumes, IsAtEnd}
use Rattle.std.proofs.KnownBytes.{Appends-nil, Appends-trans, Consumes-nil, Consumes-trans}
use Rattle.sessions.specs.Events.{Event, Read, End, Wrote, bytes_came, bytes_read, bytes_written, reads_of, HasEnded, Writes, View, GoesOnBy, with_events, WritesText}

-- ---- a view goes on

with_no_events : (old : Option (List Event)) → old ≡ with_events old []
with_no_events None = refl
with_no_events (Some history) = refl

with_more_events : (old : Option (List Event)) (es fs : List Event) → with_events (with_events old es) fs ≡ with_events old (fs ++ es)
with_more_events None es fs = refl
with_more_events (Some history) es fs = ap Some (sym (append_assoc fs es history))

came_append : (es fs : List Event) → bytes_came (fs ++ es) ≡ bytes_came es ++ bytes_came fs
came_append es [] = sym (append-nil (bytes_came es))
came_append es (Read bytes ∷ fs) = ap (λ l. l ++ bytes) (came_append es fs) ∙ append_assoc (bytes_came es) (bytes_came fs) bytes
came_append es (End ∷ fs) = came_append es fs
came_append es (Wrote bytes ∷ fs) = came_append es fs

written_append : (es fs : List Event) → bytes_written (fs ++ es) ≡ bytes_written es ++ bytes_written fs
written_append es [] = sym (append-nil (bytes_written es))
written_append es (Read bytes ∷ fs) = written_append es fs
written_append es (End ∷ fs) = written_append es fs
written_append es (Wrote bytes ∷ fs) = ap (λ l. l ++ bytes) (written_append es fs) ∙ append_assoc (bytes_written es) (bytes_written fs) bytes

ended_split : (es fs : List Event) → HasEnded (fs ++ es) → HasEnded fs ⊎ HasEnded es
ended_split es [] ended = inr ended
ended_split es (Read bytes ∷ fs) ended = ended_split es fs ended
ended_split es (End ∷ fs) ended = inl tt
ended_split es (Wrote bytes ∷ fs) ended = ended_split es fs ended

none_after : (front rest : List ℕ) → [] ≡ front ++ rest → rest ≡ []
none_after [] rest e = sym e
none_after (x ∷ front) rest e = cc

-- what had ended stays at its end
end_kept : (a b c : Option (List ℕ)) (bs cs : List ℕ) → Consumes a b bs → Consumes b c cs → IfSome a (λ _. IsAtEnd b) → IfSome a (λ _. IsAtEnd c)
end_kept None b c bs cs first second end = tt
end_kept (Some x) None c bs cs first second end = absurd first
end_kept (Some x) (Some y) None bs cs first second end = absurd second
end_kept (Some x) (Some y) (Some z) bs cs first second end = none_after cs z (sym end ∙ second)

end_reached : (a b c : Option (List ℕ)) (bs : List ℕ) → Consumes a b bs → IfSome b (λ _. IsAtEnd c) → IfSome a (λ _. IsAtEnd c)
end_reached None b c bs first end = tt
end_reached (Some x) None c bs first end = absurd first
end_reached (Some x) (Some y) c bs first end = end

pub goes_on_by_nothing : {N : Type 0} (view : View N) → GoesOnBy view view []
goes_on_by_nothing view =
    record { same = refl; remaining = Consumes-nil view.remaining; end = λ ended. absurd ended; written = Appends-nil view.written; history = with_no_events view.history }

-- events, and then more
pub goes_on_by_more : {N : Type 0} (old mid new : View N) (es fs : List Event) → GoesOnBy old mid es → GoesOnBy mid new fs → GoesOnBy old new (fs ++ es)
goes_on_by_more old mid new es fs first second =
    record {
      same = second.same ∙ first.same;
      remaining = subst (Consumes old.remaining new.remaining) (sym (came_append es fs)) (Consumes-trans _ _ _ _ _ first.remaining second.remaining);
      end = λ ended. elim (ended_split es fs ended) [
        | inl later ↦ end_reached _ _ _ _ first.remaining (second.end later)
        | inr before ↦ end_kept _ _ _ _ _ first.remaining second.remaining (first.end before)
      ];
      written = subst (Appends old.written new.written) (sym (written_append es fs)) (Appends-trans _ _ _ _ _ first.written second.written);
      history = second.history ∙ ap (λ h. with_events h fs) first.history ∙ with_more_events old.history es fs;
    }

-- ---- writes

pub writes_more : (es fs : List Event) (s t : List ℕ) → Writes es s → Writes fs t → Writes (fs ++ es) (s ++ t)
writes_more es [] s t first second =
    let e : s ++ t ≡ s = ap (λ l. s ++ l) second ∙ append-nil s in rw e first
writes_more es (Read bytes ∷ fs) s t first second = absurd second
writes_more es (End ∷ fs) s t first second = absurd second
writes_more es (Wrote bytes ∷ fs) s t first second =
    (s ++ second.0, writes_more es fs s second.0 first second.1, ap (λ l. s ++ l) second.2 ∙ sym (append_assoc s second.0 bytes))

pub writes_nothing : {N : Type 0} (view : View N) → WritesText view view []
writes_nothing view = ([], goes_on_by_nothing view, refl)

writes_once : {N : Type 0} (old new : View N) (bytes : List ℕ) → GoesOnBy old new (Wrote bytes ∷ []) → WritesText old new bytes
writes_once old new bytes leads = (Wrote bytes ∷ [], leads, ([], refl, refl))

pub writes_text_more : {N : Type 0} (old mid new : View N) (s t : List ℕ) → WritesText old mid s → WritesText mid new t → WritesText old new (s ++ t)
writes_text_more old mid new s t first second =
    (second.0 ++ first.0, goes_on_by_more old mid new first.0 second.0 first.1 second.1, writes_more first.0 second.0 s t first.2 second.2)

-- a call that did nothing, at the end
pub writes_no_more : {N : Type 0} (old mid new : View N) (s : List ℕ) → WritesText old mid s → GoesOnBy mid new [] → WritesText old new s
writes_no_more old mid new s first nothing = (first.0, goes_on_by_more old mid new first.0 [] first.1 nothing, first.2)

-- writes read nothing
pub read_before_writes : (es ws : List Event) (text : List ℕ) → Writes ws text → bytes_read (ws ++ es) ≡ bytes_read es
read_before_writes es [] text writes = refl
read_before_writes es (Read bytes ∷ ws) text writes = absurd writes
read_before_writes es (End ∷ ws) text writes = absurd writes
read_before_writes es (Wrote bytes ∷ ws) text writes = read_before_writes es ws writes.0 writes.1

pub came_before_writes : (es ws : List Event) (text : List ℕ) → Writes ws text → bytes_came (ws ++ es) ≡ bytes_came es
came_before_writes es [] text writes = refl
came_before_writes es (Read bytes ∷ ws) text writes = absurd writes
came_before_writes es (End ∷ ws) text writes = absurd writes
came_before_writes es (Wrote bytes ∷ ws) text writes = came_before_writes es ws writes.0 writes.1

-- the front of a buffer that a read filled
pub takes_some : (n : ℕ) (buffer : List ℕ) → 0 < n → n ≤ length buffer → take n buffer ≢ []
takes_some n buffer some within none =
    let e : n ≡ 0 = sym (length-take-le n buffer within) ∙ ap length none in omega arith

-- a read that brought bytes
pub reads_one_more : (bytes : List ℕ) (es : List Event) → bytes ≢ [] → reads_of (Read bytes ∷ es) ≡ reads_of es + 1
reads_one_more [] es some = absurd (some refl)
reads_one_more (byte ∷ bytes) es some = refl

pub reads_before_writes : (es ws : List Event) (text : List ℕ) → Writes ws text → reads_of (ws ++ es) ≡ reads_of es
reads_before_writes es [] text writes = refl
reads_before_writes es (Read bytes ∷ ws) text writes = absurd writes
reads_before_writes es (End ∷ ws) text writes = absurd writes
reads_before_writes es (Wrote bytes ∷ ws) text writes = reads_before_writes es ws writes.0 writes.1

pub written_by_writes : (es ws : List Event) (text : List ℕ) → Writes ws text → bytes_written (ws ++ es) ≡ bytes_written es ++ text
written_by_writes es [] text writes = sym (ap (λ l. bytes_written es ++ l) writes ∙ append-nil (bytes_written es))
written_by_writes es (Read bytes ∷ ws) text writes = absurd writes
written_by_writes es (End ∷ ws) text writes = absurd writes
written_by_writes es (Wrote bytes ∷ ws) text writes =
    ap (λ l. l ++ bytes) (written_by_writes es ws writes.0 writes.1)
    ∙ append_assoc (bytes_written es) writes.0 bytes ∙ ap (λ l. bytes_written es ++ l) (sym writes.2)

-- one more write, of a front of what is left
pub writes_part : {N : Type 0} (old mid new : View N) (bytes front rest : List ℕ) (n : ℕ) → front ++ rest ≡ bytes → WritesText old mid front → GoesOnBy mid new (Wrote (take n rest) ∷ [])
    → (text : List ℕ) × (unwritten : List ℕ) × WritesText old new text × (text ++ unwritten ≡ bytes)
writes_part old mid new bytes front rest n whole wrote goes = (
  front ++ take n rest,
  drop n rest,
  writes_text_more old mid new front (take n rest) wrote (writes_once mid new (take n rest) goes),
  append_assoc front (take n rest) (drop n rest) ∙ ap (λ l. front ++ l) (take-append-drop n rest) ∙ whole,
)

-- the same, with what is left as a loop's slice has it
pub writes_front : {N : Type 0} (old mid new : View N) (bytes front rest : List ℕ) (n : ℕ) → front ++ rest ≡ bytes → WritesText old mid front → GoesOnBy mid new (Wrote (take n rest) ∷ [])
    → (text : List ℕ) × (text ++ take (length rest - n) (drop n rest) ≡ bytes) × WritesText old new text
writes_front old mid new bytes front rest n whole wrote goes = (
  front ++ take n rest,
  ap (λ l. (front ++ take n rest) ++ l) (take_rest rest n) ∙ append_assoc front (take n rest) (drop n rest) ∙ ap (λ l. front ++ l) (take-append-drop n rest) ∙ whole,
  writes_text_more old mid new front (take n rest) wrote (writes_once mid new (take n rest) goes),
)
