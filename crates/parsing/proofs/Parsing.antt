-- A text read whole: from its opening and its rows to the project.
use Prim.Native.Nat.{ℕ, ◌≤◌}
use native.Mathlib.Omega.{arith}
use mathlib.Core.Path.{◌≡◌, refl, sym, ap, ◌∙◌}
use mathlib.Core.Bool.{true, false}
use mathlib.Core.List.{List, [], ◌∷◌}
use lib.ListN.{length, drop, take, length-map}
use lib.Seq.{length-take-le}
use Rattle.std.specs.Prelude.{Ok}
use Rattle.joblist.specs.Limits.{most_jobs}
use Rattle.chains.specs.Paths.{Precedes, Below}
use Rattle.texts.specs.Tokens.{Token, tokens}
use Rattle.texts.specs.Readings.{bad, good}
use Rattle.scanner.specs.Scan.{none?}
use Rattle.projects.specs.Projects.{Row, Project, pairs_from, pairs_of, durations}
use Rattle.projects.specs.Patterson.{row, opening, patterson}
use Rattle.rowheads.specs.Heads.{head_in, row_in}
use Rattle.walking.specs.Walk.{Seen, seeing, WalkedSays}
use Rattle.walking.specs.Comes.{only_pairs}
use Rattle.parsing.specs.Parsed.{OpenSays, Parsing, ParsedSays}
use Rattle.rowheads.specs.declared.Table.TheVariants.{Whole}
use Rattle.parsing.specs.declared.Shape.{Shape}
use Rattle.parsing.specs.declared.Opened.{Opened}
use Rattle.walking.specs.declared.Walked.{Walked}
use Rattle.parsing.proofs.Limits.{patterson_takes}
use Rattle.walking.proofs.Rows.{rows_good, rows_bad, pairs_any}
use Rattle.parsing.proofs.Whole.{project_bad, project_bad₂, project_over, project_good}

-- whether tokens are left
some_left : (ts : List Token) → none? ts ≡ false → (t : Token) × (rest : List Token) × (ts ≡ t ∷ rest)
some_left [] e = let z : ◌≡◌ {A = ℕ} 0 1 = cc in absurd (omega arith)
some_left (t ∷ ts) e = (t, ts, refl)

none_left : (ts : List Token) → none? ts ≡ true → ts ≡ []
none_left [] e = refl
none_left (t ∷ ts) e = let z : ◌≡◌ {A = ℕ} 0 1 = cc in absurd (omega arith)

module _ (s : List ℕ) (res : ℕ) where
  pub parsed_closed : (c : ℕ) → opening (tokens s) ≡ bad c → patterson s ≡ bad c
  unfolding patterson row row_in head_in
  parsed_closed c e = project_bad (tokens s) c e

  module _ (z : Opened) (q : OpenSays (opening (tokens s)) s res (Ok z)) where
    pub parsed_rows : (c : ℕ) → seeing z.n (Whole z.k) res 0 0 (tokens (drop z.at s)) ≡ bad c → patterson s ≡ bad c
    unfolding patterson row row_in head_in
    parsed_rows c e = project_bad₂ (tokens s) (tokens (drop z.at s)) q.0 q.1 c (rw (q.2, q.3) (rows_bad z.n (Whole z.k) res (tokens (drop z.at s)) c e))

    module _ (w : Walked) (f : WalkedSays (seeing z.n (Whole z.k) res 0 0 (tokens (drop z.at s))) s z.n (Ok w)) where
      pub parsed_over : none? (tokens (drop w.at s)) ≡ false → patterson s ≡ bad 30
      unfolding patterson row row_in head_in
      parsed_over h =
          let t = rows_good z.n (Whole z.k) res (tokens (drop z.at s)) (tokens (drop w.at s)) f.0 f.1 in
          let l = some_left (tokens (drop w.at s)) h in
          project_over (tokens s) (tokens (drop z.at s)) q.0 q.1 t.0 (tokens (drop w.at s)) (rw (q.2, q.3) t.1) l.0 l.1 l.2

      pub parsed_whole : none? (tokens (drop w.at s)) ≡ true
          → ParsedSays (patterson s) s res
          (Ok (record { shape = record { n = z.n; k = z.k; cap = z.cap; pairs = w.pairs; table = Whole z.k; at = z.at }; dur = w.dur; dem = w.dem }))
      unfolding patterson row row_in head_in
      parsed_whole h =
          let e = none_left (tokens (drop w.at s)) h in
          let t = rows_good z.n (Whole z.k) res (tokens (drop z.at s)) (tokens (drop w.at s)) f.0 f.1 in
          let ds : durations t.0 ≡ take z.n w.dur = sym (ap (λ (y : Seen). y.durs) t.2) ∙ f.2 in
          let said = project_good (tokens s) (tokens (drop z.at s)) q.0 q.1 t.0 (tokens (drop w.at s)) (rw (q.2, q.3) t.1) e in (
            record { capacities = q.0.capacities; rows = t.0 },
            said,
            record {
              jobs = sym (length-map t.0 (λ (r : Row). r.duration)) ∙ ap length ds ∙ length-take-le z.n w.dur (omega (arith, q.5, f.6));
              resources = q.6;
              cap = q.4;
              durs_are = ds;
              dems_are = sym (ap (λ (y : Seen). y.dems) t.2) ∙ f.3;
              count = ap (λ (y : Seen). length y.pairs) (sym t.2) ∙ f.4;
              end = [];
              come =
                  pairs_any z.n (Whole z.k) 0 res 0 0 (tokens (drop z.at s)) ∙ ap only_pairs f.1 ∙ ap (λ (y : Seen). good y.pairs (tokens (drop w.at s))) t.2
                  ∙ ap (λ (u : List Token). good (pairs_from 0 t.0) u) e;
              limits = (patterson_takes s [] _ said).within;
              long_durs = f.6;
              long_dems = f.7;
              low = f.8;
            },
          )

-- ---- what is known of a text read whole

module _ (s : List ℕ) (res : ℕ) (durs dems : List ℕ) (z : Shape) (x : Project) (p : Parsing s res durs dems z x) where
  pub parsing_range : Below z.n (Precedes (pairs_of x))
  parsing_range = rw (← p.jobs) p.limits.range

  pub parsing_few : z.n ≤ most_jobs
  parsing_few = omega (arith, p.jobs, p.limits.few)
