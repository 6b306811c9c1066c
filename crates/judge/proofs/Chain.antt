-- The chain of codes as the code makes it, each test over what it looks at; and what a record has once 21 and 22 have passed, so that the later
-- tests can look its jobs up.
use Prim.Native.Nat.{ℕ}
use native.Mathlib.Omega.{arith}
use mathlib.Core.Path.{◌≡◌, refl}
use mathlib.Core.Bool.{true}
use mathlib.Core.List.{List, []}
use lib.Dec.{ltb, eqb}
use lib.ListN.{length}
use Rattle.lists.specs.Lists.{◌!◌}
use Rattle.lists.specs.Tests.{unless}
use Rattle.narrowing.specs.Windows.{Win, win}
use Rattle.members.specs.Members.{ones_of}
use Rattle.journal.specs.Journal.{count_word, set_of_record, job_of, time_of}
use Rattle.timetable.specs.Reason.{named}
use Rattle.timetable.specs.Table.{call, Good}
use Rattle.codes.specs.Facts.{side, InRange}
use Rattle.codes.specs.Codes.{in_range, takes_part, partners, stated_true, tightens, lean, code}
use Rattle.exam.specs.Lent.{jobs_in, Timed, Drawn, LetThrough}
use Rattle.codes.proofs.Codes.{range_judged, partners_judged}

-- ---- the chain, each test over what it looks at

pub code_is : (cap : ℕ) (W : Win) (p r x : List ℕ) → length r ≡ length p
    → code (jobs_in (length p) p r cap) W x
    ≡ unless (in_range (jobs_in (length p) [] [] 0) x) 21
    (unless (partners (jobs_in (length p) p r 0) x) 22
    (unless (eqb (x ! count_word) (ones_of (set_of_record x))) 23
    (unless (ltb cap (named (jobs_in (length r) [] r 0) x)) 24
    (unless (stated_true (jobs_in 0 p [] 0) W x) 25
    (unless (tightens W (job_of x) (side x) (time_of x)) 26
    (unless (lean (jobs_in (length r) [] r cap) x) 27 0))))))
unfolding code in_range partners takes_part stated_true lean
code_is cap W p r x e = rw e

-- ---- after 21 and 22

pub ranged : (n : ℕ) (x : List ℕ) → in_range (jobs_in n [] [] 0) x ≡ true → InRange (jobs_in n [] [] 0) x
ranged n x h = (range_judged (jobs_in n [] [] 0) (win [] []) x).passed h

pub placed : (n : ℕ) (p r x : List ℕ) → in_range (jobs_in n [] [] 0) x ≡ true → partners (jobs_in n p r 0) x ≡ true → LetThrough n x
placed n p r x h q = record {
  job = (ranged n x h).job;
  time = (ranged n x h).time;
  members = λ k m. (((partners_judged (jobs_in n p r 0) (win [] []) x).passed q).members k m).0.listed;
}

-- the demands of a good list
pub drawn : (W : Win) (p r : List ℕ) (cap : ℕ) → Good (call W p r cap []) → Drawn r
drawn W p r cap g = record { sized = (refl, tt); few = omega (arith, g.few, g.sized.1.1.1.0); within = (g.within.1.1.1.0, tt); beside = tt }

-- good lists are good without their demands
pub timed : (W : Win) (p r : List ℕ) (cap : ℕ) → Good (call W p r cap []) → Timed W p
timed W p r cap g = record {
  sized = (g.sized.0, (g.sized.1.0, (g.sized.1.1.0, tt)));
  few = g.few;
  within = (g.within.0, (g.within.1.0, (g.within.1.1.0, tt)));
  beside = tt;
}
