-- The answer table of a call without a log, whose room is always enough, meets the contract of one, over any rules.
use Prim.Native.Nat.{ℕ, suc, ◌<◌}
use native.Mathlib.Omega.{arith}
use mathlib.Core.Path.{refl}
use mathlib.Core.List.{List}
use mathlib.Core.Logic.{◌↔◌}
use Rattle.narrowing.specs.Windows.{Win, Side, slack}
use Rattle.narrowing.specs.Rules.{Family, Lawful}
use Rattle.narrowing.specs.Schedules.{Fixed, Exact}
use Rattle.narrowing.specs.Search.{Search, Searches}
use Rattle.joblist.specs.Limits.{Column}
use Rattle.promises.specs.Ask.{Ask, Grounds, job_count, lasts}
use Rattle.promises.specs.Table.{narrowed}
use Rattle.promises.specs.Promise.{HasRoom, Narrows}
use Rattle.promises.specs.Counted.{without_log, left_by, Counts}
use Rattle.promises.proofs.Meaning.{narrows, slack_room}
use Rattle.promises.proofs.Unlogged.{plain}

module _ (A : Ask) (x : Grounds A) (enough : HasRoom A (suc (slack (lasts A) A.win (job_count A)))) where
  table : Narrows A (narrowed A)
  table = narrows A x

  pub counts : Counts A (left_by A)
  unfolding left_by
  counts =
      record {
        answered = refl;
        exactly = record {
          plain = plain A x enough;
          settled = λ n. (
            λ e. let r = (table.exactly.settled n).0 e in (r.0, r.2, r.3),
            λ y. (table.exactly.settled n).1 (y.0, slack_room A x y.0 enough, y.1, y.2),
          );
          clash = λ n. (
            λ e. let r = (table.exactly.clash n).0 e in (r.0, r.2, r.3),
            λ y. (table.exactly.clash n).1 (y.0, slack_room A x y.0 enough, y.1, y.2),
          );
          moves = record {
            settled = λ n e.
                let r = table.reasons.settled n e in
                record { moves = r.logs.moves; many = r.logs.many; chosen = r.logs.chosen; ends = r.led; most = r.most };
            clash = λ n j e.
                let r = table.reasons.clash n j e in
                record { moves = r.logs.moves; many = r.logs.many; chosen = r.logs.chosen; ends = r.clashed; most = r.most };
          };
        };
        kept = record { schedules = table.kept.schedules; none = table.kept.none; fixed = λ g f u. table.kept.fixed g f (enough.0, omega (arith, enough.1)) };
      }

-- ---- of a call without a log: a log of no word is not ragged, and its room is always enough; nothing is asked of records

module _ (W : Win) (beside alone : List Column) (R : Search) (G : Family) (fits broken : List ℕ → Type 0) where
  abbrev call : Ask
  call = without_log W beside alone R G fits broken

  pub without_log_room : HasRoom call (suc (slack R.p W R.n))
  without_log_room = ((0, refl), omega arith)

  pub without_log_grounds : Lawful R.n G → Searches R G → Exact R.n R.p G fits
      → ((s : List ℕ) (U : Win) → Fixed R.n R.p s U → ((j : ℕ) × (v : Side) × (b : ℕ) × (j < R.n) × G U j v b) ↔ broken s)
      → Grounds call
  without_log_grounds a b c d = record { lawful = a; searches = b; exact = c; broken = d; fine = λ g ms q m i k. tt }

  pub without_log_counts : Grounds call → Counts call (left_by call)
  without_log_counts x = counts call x without_log_room
