-- How many bytes a text can have: no count of them overflows. And the whole text, part by part, as the code puts it.
use Prim.Native.Nat.{ℕ, suc, ◌+◌, ◌*◌, ◌≤◌, ◌<◌}
use native.Mathlib.Nat.{mul-le-mul}
use native.Mathlib.Omega.{arith}
use mathlib.Core.Path.{◌≡◌, refl, sym, ap, ◌∙◌}
use mathlib.Core.Bool.{Bool, false}
use mathlib.Core.List.{List, [], ◌∷◌, ◌++◌, map, append_assoc}
use lib.ListN.{length, length-append, length-map}
use Rattle.lists.specs.Lists.{◌!◌, Every}
use Rattle.joblist.specs.Limits.{most_jobs}
use Rattle.chains.specs.Paths.{Pair}
use Rattle.chains.specs.Listed.{paired}
use Rattle.projects.specs.Projects.{Project, tagged, pairs_from}
use Rattle.scanner.specs.Scan.{held}
use Rattle.projects.specs.Form.{decimal, line_of, job_lines, project_text}
use Rattle.projects.specs.Made.{successors_of, rows_from, made}
use Rattle.scribe.specs.Says.{most_bytes, Put, RoomFor}
use Rattle.scribe.specs.Writing.{Ready, Ran}
use Rattle.scribe.proofs.Decimals.{decimal_32}
use Rattle.scribe.proofs.Back.{written_is}
use Rattle.lists.proofs.Every.{every_from}
use Rattle.chains.proofs.Listed.{paired_length}
use Rattle.scribe.proofs.Pairs.{Ups, rising_ups, rising_few}
use Rattle.scribe.proofs.Rows.{of_below, of_few, rows_length, pairs_back}
use Rattle.scribe.proofs.Puts.{Parts}
use Rattle.scribe.proofs.Steps.{line_step}
use Rattle.scribe.proofs.Passing.{jobs_cons, jobs_none}

-- ---- how many bytes

-- numbers of 32 bits
abbrev Words : List ℕ → Type 0
Words vs = Every (λ v. v < held) vs

-- ten digits and a byte behind them
line_short : (vs : List ℕ) → Words vs → length (line_of vs) ≤ 1 + 11 * length vs
unfolding line_of
line_short [] h = omega arith
line_short (v ∷ []) h = rw (length-append (decimal v) (10 ∷ [])) (omega (arith, decimal_32 v h.0))
line_short (v ∷ w ∷ vs) h = let q = line_short (w ∷ vs) h.1 in rw (length-append (decimal v) (32 ∷ line_of (w ∷ vs))) (omega (arith, decimal_32 v h.0))

every_suc : (n : ℕ) (xs : List ℕ) → n ≤ most_jobs → Every (λ s. s < n) xs → Words (map suc xs)
every_suc n [] l h = tt
every_suc n (x ∷ xs) l h = (omega (arith, h.0), every_suc n xs l h.1)

tagged_length : (j : ℕ) (ss : List ℕ) → length (tagged j ss) ≡ length ss
tagged_length j [] = refl
tagged_length j (s ∷ ss) = ap suc (tagged_length j ss)

pairs_cons : (j d q : ℕ) (ds qs : List ℕ) (ps : List Pair)
    → length (pairs_from j (rows_from j (d ∷ ds) (q ∷ qs) ps)) ≡ length (successors_of j ps) + length (pairs_from (suc j) (rows_from (suc j) ds qs ps))
unfolding pairs_from rows_from successors_of
pairs_cons j d q ds qs ps =
    length-append (tagged j (successors_of j ps)) (pairs_from (suc j) (rows_from (suc j) ds qs ps))
    ∙ ap (λ (m : ℕ). m + length (pairs_from (suc j) (rows_from (suc j) ds qs ps))) (tagged_length j (successors_of j ps))

jobs_short : (n j : ℕ) (ds qs : List ℕ) (ps : List Pair) → Ups n ps → n ≤ most_jobs → length ds ≡ length qs → Words ds → Words qs
    → length (job_lines (rows_from j ds qs ps)) ≤ 34 * length ds + 11 * length (pairs_from j (rows_from j ds qs ps))
jobs_short n j [] qs ps h l e a b = rw (jobs_none j qs ps) (omega arith)
jobs_short n j (d ∷ ds) [] ps h l e a b = absurd (omega arith)
jobs_short n j (d ∷ ds) (q ∷ qs) ps h l e a b =
    let rest = jobs_short n (suc j) ds qs ps h l (omega arith) a.1 b.1 in
    let ss = successors_of j ps in
    let own = line_short (d ∷ q ∷ length ss ∷ map suc ss) (a.0, (b.0, (omega (arith, of_few n j ps h), every_suc n ss l (of_below n j ps h)))) in
    rw (jobs_cons j d q ds qs ps, length-append (line_of (d ∷ q ∷ length ss ∷ map suc ss)) (job_lines (rows_from (suc j) ds qs ps)), pairs_cons j d q ds qs ps)
    (omega (arith, rest, own, length-map ss suc))

-- ---- the whole text

one_line : (v : ℕ) → line_of (v ∷ []) ≡ decimal v ++ 10 ∷ []
unfolding line_of
one_line v = refl

two-line : (v w : ℕ) (t : List ℕ) → line_of (v ∷ w ∷ []) ++ t ≡ (decimal v ++ 32 ∷ []) ++ ((decimal w ++ 10 ∷ []) ++ t)
two-line v w t = rw (line_step v (w ∷ []), one_line w) (append_assoc (decimal v ++ 32 ∷ []) (decimal w ++ 10 ∷ []) t)

module _ (cap : ℕ) {durs dems js ss : List ℕ} (g : Ready durs dems js ss) where
  same_lists : length durs ≡ length dems
  same_lists = sym g.demands

  pub write_parts : Parts (decimal (length durs) ++ 32 ∷ []) (decimal 1 ++ 10 ∷ []) (decimal cap ++ 10 ∷ []) (job_lines (rows_from 0 durs dems (paired js ss))) (project_text (made cap durs dems (paired js ss)))
  write_parts =
      let rs = rows_from 0 durs dems (paired js ss) in
      record {
        joined =
            written_is (made cap durs dems (paired js ss))
            ∙ rw (rows_length 0 durs dems (paired js ss) same_lists, one_line cap) (two-line (length durs) 1 ((decimal cap ++ 10 ∷ []) ++ job_lines rs));
      }

  written_short : cap < held → ((k : ℕ) → durs ! k < held) → ((k : ℕ) → dems ! k < held) → length (project_text (made cap durs dems (paired js ss))) ≤ most_bytes
  written_short c a b =
      let n = length durs in
      let ps = paired js ss in
      let rs = rows_from 0 durs dems ps in
      let u = rising_ups n js ss g.rising (sym g.pairs) in
      let few = rising_few n js ss g.rising (sym g.pairs) in
      let m = mul-le-mul g.few g.few in
      let lines = jobs_short n 0 durs dems ps u g.few same_lists (every_from (λ v. v < held) durs (λ k l. a k)) (every_from (λ v. v < held) dems (λ k l. b k)) in
      let count : length (pairs_from 0 rs) ≡ length js = ap length (pairs_back n cap durs dems js ss g.rising (sym g.pairs) refl g.demands) ∙ paired_length js ss g.pairs in
      let jobs = rows_length 0 durs dems ps same_lists in
      let heads = line_short (length rs ∷ 1 ∷ []) (omega (arith, jobs, g.few), (omega arith, tt)) in
      let caps = line_short (cap ∷ []) (c, tt) in
      rw (written_is (made cap durs dems ps), length-append (line_of (length rs ∷ 1 ∷ [])) (line_of (cap ∷ []) ++ job_lines rs), length-append (line_of (cap ∷ [])) (job_lines rs))
      (omega (arith, heads, caps, lines, count, few, m, g.few))

  pub whole_room : {dry : Bool} {b : List ℕ} → cap < held → ((k : ℕ) → durs ! k < held) → ((k : ℕ) → dems ! k < held)
      → (dry ≡ false → length (project_text (made cap durs dems (paired js ss))) ≤ length b) → RoomFor dry 0 (project_text (made cap durs dems (paired js ss))) b
  whole_room c x y h = record { few = omega (arith, written_short c x y); room = λ e. omega (arith, h e) }

-- the whole text put from the start on
pub put_whole : {dry : Bool} {x : Project} {b b' : List ℕ} {r : ℕ} → Put dry 0 (project_text x) b b' r → Ran dry x b b' r
put_whole {x = x} p = let z : 0 + length (project_text x) ≡ length (project_text x) = omega arith in record { count = p.place ∙ z; bytes = p.bytes ∙ rw z }
