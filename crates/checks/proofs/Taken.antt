-- Each record that the planner writes is good on the windows where its move is made, stands for that move and names its job.
use Prim.Native.Nat.{ℕ, ◌*◌, ◌≤◌, ◌<◌}
use native.Mathlib.Omega.{arith}
use mathlib.Core.Path.{◌≡◌, refl}
use mathlib.Core.Bool.{true}
use Rattle.lists.specs.Lists.{◌!◌}
use Rattle.narrowing.specs.Windows.{Win, Side, early, late, number, Long, moved}
use Rattle.narrowing.specs.Search.{Move, move}
use Rattle.narrowing.proofs.Moves.{side_number}
use Rattle.members.specs.Members.{set_words}
use Rattle.members.proofs.Sets.{has_given}
use Rattle.joblist.specs.Limits.{most_time}
use Rattle.journal.specs.Journal.{job_of, is_member}
use Rattle.timetable.specs.Time.{Jobs, Applies, bound}
use Rattle.timetable.specs.Search.{Member, lean_member, naming, entry}
use Rattle.timetable.specs.Table.{Call, jobs_of, asks}
use Rattle.timetable.proofs.Facts.{crowded_at}
use Rattle.timetable.proofs.Entries.{entry_length}
use Rattle.timetable.proofs.Lean.{lean_member_lem, entry_lean}
use Rattle.codes.specs.Facts.{OwnTrue, Tightens, GoodRecord}
use Rattle.verdicts.specs.Promise.{WritesGood}
use Rattle.checks.specs.Replay.{changed, trial}

number_most : (s : Side) → number s ≤ 1
number_most early = omega arith
number_most late = omega arith

-- ---- one record

module _ (J : Jobs) (W : Win) (few : J.n ≤ 32 * set_words) (L : Long J.n J.p W) (j : ℕ) (s : Side) (t : ℕ) (b : j < J.n) (small : W.l ! j ≤ most_time)
    (a : Applies J W j s (bound s t)) where
  before_end : (v : Side) → Applies J W j v (bound v t) → t < W.l ! j
  unfolding Long
  before_end early d = omega (arith, d.to, L j b)
  before_end late d = d.to

  own_at : (v : Side) → Applies J W j v (bound v t) → OwnTrue J.p W j v t
  own_at early d = d.to
  own_at late d = d.from

  tightens_at : (v : Side) → Applies J W j v (bound v t) → Tightens W j v t
  tightens_at early d = d.from
  tightens_at late d = d.to

  named_member : (k : ℕ) → is_member (entry J (move W j s t)) k ≡ true → Member J W j t k
  unfolding naming
  named_member k h = lean_member_lem J W j t k (has_given set_words (lean_member J W j t) k h)

  pub entry_good : GoodRecord J W (entry J (move W j s t))
  unfolding naming Long
  entry_good =
      let c = crowded_at J W j s t a in
      let lean = entry_lean J few (move W j s t) c in
      record {
        passes = record {
          in_range = record { job = b; side = number_most s; time = omega (arith, before_end s a) };
          partners = record {
            lasts = c.lasts;
            takes = c.takes;
            members = λ k h.
                let m = named_member k h in
                let q = m.sure_there in
                (record { listed = m.listed; lasts = omega (arith, q.from, q.to, L k m.listed); takes = m.takes }, m.other);
          };
          counted = lean.counted;
          exceeds = lean.exceeds;
          stated = record { own = rw (side_number s) (own_at s a); members = λ k h. (named_member k h).sure_there };
          tightens = rw (side_number s) (tightens_at s a);
        };
        lean = lean.lean;
      }

-- ---- the whole log

changed_entry : (J : Jobs) (W : Win) (j : ℕ) (s : Side) (t : ℕ) → changed W (entry J (move W j s t)) ≡ moved W j s (bound s t)
unfolding changed naming
changed_entry J W j early t = refl
changed_entry J W j late t = refl

entry_job : (J : Jobs) (m : Move) → job_of (entry J m) ≡ m.job
unfolding naming
entry_job J m = refl

-- what is asked of the planner's records
pub writes : (c : Call) → WritesGood (trial (jobs_of c)) (asks c)
writes c =
    let J = jobs_of c in
    record {
      words = entry_length lean_member J;
      job = entry_job J;
      to = changed_entry J;
      good = λ g W L h j s i v t a. entry_good J W (omega (arith, g.few)) L i v t a.listed (h i) a.applies;
    }
