-- Time-tabling keeps its promise: it is narrowing by lawful rules, whose search finds one wherever one applies, which are exact on fixed jobs, and its
-- records are lean.
use native.Mathlib.Omega.{arith}
use mathlib.Core.Path.{refl}
use Rattle.promises.specs.Ask.{Grounds}
use Rattle.promises.specs.Promise as promise
use Rattle.promises.proofs.Meaning as general
use Rattle.timetable.specs.Table.{Call, jobs_of, asks, After, narrowed, narrowed_by}
use Rattle.timetable.specs.Promise.{Narrows}
use Rattle.timetable.proofs.Law.{lawful, searches}
use Rattle.timetable.proofs.Exact.{exact, fixed_applies}
use Rattle.timetable.proofs.Lean.{logged_lean}
use Rattle.timetable.proofs.Unmoved.{unmoved_by}

pub grounds : (c : Call) → Grounds (asks c)
grounds c =
    let J = jobs_of c in
    record {
      lawful = lawful J;
      searches = searches J;
      exact = exact J;
      broken = fixed_applies J;
      fine = λ g ms x b. logged_lean J (omega (arith, g.few)) c.win ms x c.log b;
    }

-- its contract is that of narrowing by rules, and that shorter reasons move nothing
pub by_rules : (c : Call) (a : After) → Narrows c a → promise.Narrows (asks c) a
unfolding narrowed_by
by_rules c a h = record { answered = h.answered; exactly = h.exactly; kept = h.kept; largest = h.largest; reasons = h.reasons }

pub narrows : (c : Call) → Narrows c (narrowed c)
unfolding narrowed_by
narrows c =
    let h = general.narrows (asks c) (grounds c) in
    record { answered = refl; exactly = h.exactly; kept = h.kept; largest = h.largest; reasons = h.reasons; unmoved = unmoved_by c }
