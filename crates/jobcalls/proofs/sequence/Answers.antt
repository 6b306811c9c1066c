-- `jobcalls::sequence` meets its contract: the windows that the desk's call is lent are copies of the first two lists, its durations the third, and what it
-- leaves of the copies is put back.
use mathlib.Core.Path.{◌≡◌, sym, ap, ◌∙◌}
use mathlib.Core.List.{List}
use Prim.Native.Nat.{ℕ}
use lib.ListN.{length, take, replicate, length-replicate}
use Rattle.answers.specs.Said.{says}
use Rattle.packed.specs.Packed.{list_of}
use Rattle.requests.specs.Sizes.{job_entries}
use Rattle.jobcalls.specs.Sequenced.{jobs_in}
use Rattle.jobcalls.proofs.sequence.Goals as goal

-- a list copied into a list of zeros, as long as a line may have one
copied : (words now : List ℕ) (k : ℕ) → now ≡ take (length (replicate {A = ℕ} job_entries 0)) (list_of words k) → jobs_in words k ≡ now
copied words now k e = sym (e ∙ ap (λ (n : ℕ). take n (list_of words k)) (length-replicate {A = ℕ} job_entries 0))

pub returns : goal.returns
returns c =
    let s = c.sequence-answer in
    let words = c.args.words.now in
    let est = copied words _ 0 c.copied-est.ensures in
    let lct = copied words _ 1 c.copied-lct.ensures in
    record {
      says = says s.result;
      est = s.new.est;
      lct = s.new.lct;
      told = c.narrowing.ensures;
      sequences = rw (est, lct, sym c.list.ensures) s.ensures;
      put = c.put_windows.ensures;
    }
