-- A session in memory, and what a line makes of it (this project's profile).
use Rattle.std.specs.Prelude.{ℕ, List, [], None}
use Rattle.session_run.specs.Session.{State, session_rules}

-- the cluster, and the answer to the last line that was carried out
pub record SessionView : Type 0 where
  pub cluster : State
  pub answer : List ℕ

-- before its first line: no cluster, and no answer
abbrev pub first_session : SessionView
first_session = record { cluster = None; answer = [] }

abbrev pub answer_to : SessionView → List ℕ → List ℕ
answer_to session line = session_rules.answer session.cluster line

-- a line was carried out, and its answer is kept
abbrev pub after_line : SessionView → List ℕ → SessionView
after_line session line =
    record {
      cluster = session_rules.after session.cluster line;
      answer = answer_to session line;
    }

-- a line was carried out, and an allocation failed for its answer: none is kept
abbrev pub after_lost_line : SessionView → List ℕ → SessionView
after_lost_line session line =
    record {
      cluster = session_rules.after session.cluster line;
      answer = [];
    }
