-- The three tables, read one after the other: from what the walk found in each to the project.
use Prim.Native.Nat.{ℕ, ◌≤◌}
use mathlib.Core.Path.{◌≡◌, sym, ap, ◌∙◌}
use mathlib.Core.Bool.{true, false}
use mathlib.Core.List.{List, [], map}
use lib.ListN.{length, drop, take}
use Rattle.std.specs.Prelude.{Ok}
use Rattle.lists.specs.Lists.{◌!◌}
use Rattle.joblist.specs.Limits.{most_time, most_demand, most_jobs, most_resources}
use Rattle.texts.specs.Tokens.{Token, tokens}
use Rattle.texts.specs.Readings.{bad, good, in_turn, numbers_up_to}
use Rattle.texts.proofs.Readings.{said_good, said_bad, numbers_takes}
use Rattle.headings.specs.Lines.{behind_lines, counted}
use Rattle.headings.specs.Headings.{marks, in_order, section}
use Rattle.projects.specs.Projects.{Project, pairs_from, durations, demands_on}
use Rattle.projects.specs.Tables.{relation, Need, request}
use Rattle.walking.specs.Walk.{Seen, seeing, WalkedSays}
use Rattle.walking.specs.Comes.{only_pairs, comes, rows_at}
use Rattle.parsing.specs.Parsed.{ParsedSays}
use Rattle.rowheads.specs.declared.Table.TheVariants.{Relations, Requests}
use Rattle.walking.specs.declared.Walked.{Walked}
use Rattle.rowheads.proofs.Tables.{linked, needed, relations_said, requests_said}
use Rattle.walking.proofs.Rows.{viewed, rows_good, rows_bad, pairs_any}
use Rattle.psplib.specs.Psplib.{join, tables, sections, psplib}
use Rattle.psplib.proofs.Joined.{join_long, join_pairs, join_durations, join_demands}
use Rattle.psplib.proofs.Limits.{relations_take, requests_take, tables_take}

-- the relations read, whose pairs can be read again from `at` on
pub record Related (n : ℕ) (s relations : List ℕ) (at pairs : ℕ) : Type 0 where
  pub sss : List (List ℕ)
  pub end : List Token
  pub read : in_turn (relation n) 0 n (tokens (behind_lines 2 relations)) ≡ good sss end
  pub count : length (pairs_from 0 (map linked sss)) ≡ pairs
  pub come : comes n Relations s (rows_at at) ≡ good (pairs_from 0 (map linked sss)) end

-- the requests read, with durations and demands in the arrays
pub record Requested (n k res : ℕ) (requests durs dems : List ℕ) : Type 0 where
  pub qs : List Need
  pub end : List Token
  pub read : in_turn (request k) 0 n (tokens (behind_lines 3 requests)) ≡ good qs end
  pub durs_are : durations (map needed qs) ≡ take n durs
  pub dems_are : demands_on res (map needed qs) ≡ take n dems
  pub long_durs : length durs ≡ most_jobs
  pub long_dems : length dems ≡ most_jobs
  pub low : (j : ℕ) → durs ! j ≤ most_time

module _ (n res : ℕ) (s relations : List ℕ) (at : ℕ) (here : drop at s ≡ behind_lines 2 relations) where
  no_relation : (c : ℕ) → seeing n Relations res 0 0 (tokens (drop at s)) ≡ bad c → in_turn (relation n) 0 n (tokens (behind_lines 2 relations)) ≡ bad c
  no_relation c e = said_bad (map linked) _ c (sym (relations_said n (tokens (behind_lines 2 relations))) ∙ rw (← here) (rows_bad n Relations res (tokens (drop at s)) c e))

  pub relations_read : (w : Walked) → WalkedSays (seeing n Relations res 0 0 (tokens (drop at s))) s n (Ok w) → Related n s relations at w.pairs
  relations_read w f =
      let t = rows_good n Relations res (tokens (drop at s)) (tokens (drop w.at s)) f.0 f.1 in
      let q = said_good (map linked) (in_turn (relation n) 0 n (tokens (drop at s))) t.0 (tokens (drop w.at s)) (sym (relations_said n (tokens (drop at s))) ∙ t.1) in
      let v : f.0 ≡ viewed res (map linked q.0) = t.2 ∙ ap (viewed res) q.2 in
      record {
        sss = q.0;
        end = tokens (drop w.at s);
        read = rw (← here) q.1;
        count = ap (λ (y : Seen). length y.pairs) (sym v) ∙ f.4;
        come = pairs_any n Relations 0 res 0 0 (tokens (drop at s)) ∙ ap only_pairs f.1 ∙ ap (λ (y : Seen). good y.pairs (tokens (drop w.at s))) v;
      }

module _ (n k res : ℕ) (s requests : List ℕ) (to : ℕ) (here : drop to s ≡ behind_lines 3 requests) where
  no_request : (c : ℕ) → seeing n (Requests k) res 0 0 (tokens (drop to s)) ≡ bad c → in_turn (request k) 0 n (tokens (behind_lines 3 requests)) ≡ bad c
  no_request c e = said_bad (map needed) _ c (sym (requests_said n k (tokens (behind_lines 3 requests))) ∙ rw (← here) (rows_bad n (Requests k) res (tokens (drop to s)) c e))

  pub requests_read : (w : Walked) → WalkedSays (seeing n (Requests k) res 0 0 (tokens (drop to s))) s n (Ok w) → Requested n k res requests w.dur w.dem
  requests_read w f =
      let t = rows_good n (Requests k) res (tokens (drop to s)) (tokens (drop w.at s)) f.0 f.1 in
      let q = said_good (map needed) (in_turn (request k) 0 n (tokens (drop to s))) t.0 (tokens (drop w.at s)) (sym (requests_said n k (tokens (drop to s))) ∙ t.1) in
      let v : f.0 ≡ viewed res (map needed q.0) = t.2 ∙ ap (viewed res) q.2 in
      record {
        qs = q.0;
        end = tokens (drop w.at s);
        read = rw (← here) q.1;
        durs_are = sym (ap (λ (y : Seen). y.durs) v) ∙ f.2;
        dems_are = sym (ap (λ (y : Seen). y.dems) v) ∙ f.3;
        long_durs = f.6;
        long_dems = f.7;
        low = f.8;
      }

module _ (n k res : ℕ) (s relations requests capacities : List ℕ) where
  -- a refusal, by its number
  abbrev Refused : ℕ → Type 0
  Refused c = tables n k relations requests capacities ≡ bad c

  module _ (at : ℕ) (here : drop at s ≡ behind_lines 2 relations) where
    pub no_relations : (c : ℕ) → seeing n Relations res 0 0 (tokens (drop at s)) ≡ bad c → Refused c
    unfolding tables
    no_relations c e = rw (no_relation n res s relations at here c e)

  module _ (at pairs : ℕ) (r : Related n s relations at pairs) where
    module _ (to : ℕ) (here : drop to s ≡ behind_lines 3 requests) where
      pub no_requests : (c : ℕ) → seeing n (Requests k) res 0 0 (tokens (drop to s)) ≡ bad c → Refused c
      unfolding tables
      no_requests c e = rw (r.read, no_request n k res s requests to here c e)

    module _ (durs dems : List ℕ) (q : Requested n k res requests durs dems) (from : ℕ) (here : drop from s ≡ behind_lines 2 capacities) where
      pub no_capacities : (c : ℕ) → numbers_up_to most_demand k (tokens (drop from s)) ≡ bad c → Refused c
      unfolding tables
      no_capacities c e =
          let p : numbers_up_to most_demand k (tokens (behind_lines 2 capacities)) ≡ bad c = rw (← here) e in
          rw (r.read, q.read, p)

      pub tables_read : (cs : List ℕ) (rest : List Token) (cap : ℕ) → n ≤ most_jobs → numbers_up_to most_demand k (tokens (drop from s)) ≡ good cs rest → cs ! res ≡ cap
          → ParsedSays (tables n k relations requests capacities) s res (Ok (record { shape = record { n = n; k = k; cap = cap; pairs = pairs; table = Relations; at = at }; dur = durs; dem = dems }))
      unfolding tables
      tables_read cs rest cap few e picked =
          let long : length r.sss ≡ n = (relations_take n _ r.end r.sss r.read).0 in
          let even : length r.sss ≡ length q.qs = long ∙ sym (requests_take n k _ q.end q.qs q.read).0 in (
            made,
            said,
            record {
              jobs = join_long r.sss q.qs even ∙ long;
              resources = (numbers_takes most_demand k (tokens (drop from s)) rest cs e).0;
              cap = picked;
              durs_are = join_durations r.sss q.qs even ∙ q.durs_are;
              dems_are = join_demands res r.sss q.qs even ∙ q.dems_are;
              count = ap length (join_pairs 0 r.sss q.qs even) ∙ r.count;
              end = r.end;
              come = r.come ∙ ap (λ ps. good ps r.end) (sym (join_pairs 0 r.sss q.qs even));
              long_durs = q.long_durs;
              long_dems = q.long_dems;
              low = q.low;
              limits = tables_take n k relations requests capacities made [] few said;
            },
          )
        where
          made : Project
          made = record { capacities = cs; rows = join r.sss q.qs }

          said : tables n k relations requests capacities ≡ good made []
          said =
              let p : numbers_up_to most_demand k (tokens (behind_lines 2 capacities)) ≡ good cs rest = rw (← here) e in
              rw (r.read, q.read, p)

-- ---- the whole text

module _ (s : List ℕ) where
  -- a refusal, by its number
  abbrev TextRefused : ℕ → Type 0
  TextRefused c = psplib s ≡ bad c

  pub no_headings : in_order 0 (marks s) ≡ false → TextRefused 35
  unfolding psplib
  no_headings e = rw e

  module _ (ordered : in_order 0 (marks s) ≡ true) where
    pub no_jobs : (c : ℕ) → counted most_jobs (section 0 (marks s)) ≡ bad c → TextRefused c
    unfolding psplib sections
    no_jobs c e = rw (ordered, e)

    module _ (n : ℕ) (t₁ : List Token) (e₁ : counted most_jobs (section 0 (marks s)) ≡ good n t₁) where
      pub no_resources : (c : ℕ) → counted most_resources (section 1 (marks s)) ≡ bad c → TextRefused c
      unfolding psplib sections
      no_resources c e = rw (ordered, e₁, e)

      pub by_tables : (k : ℕ) (t₂ : List Token) → counted most_resources (section 1 (marks s)) ≡ good k t₂
          → psplib s ≡ tables n k (section 2 (marks s)) (section 3 (marks s)) (section 4 (marks s))
      unfolding psplib sections
      by_tables k t₂ e₂ = rw (ordered, e₁, e₂)
