-- The lists of the work at its start: those of a good list, with the latest ends counted back and the jobs in order for each side.
use Prim.Native.Nat.{ℕ, ◌≤◌}
use mathlib.Core.Path.{◌≡◌, ap, subst, ◌∙◌}
use mathlib.Core.List.{List}
use lib.ListN.{length}
use Rattle.lists.specs.Lists.{◌!◌}
use Rattle.lists.specs.Orders.{Ordered}
use Rattle.narrowing.specs.Windows.{Win, win, Long}
use Rattle.answers.specs.declared.Answer.{Answer}
use Rattle.joblist.specs.Limits.{most_jobs, most_time}
use Rattle.heads.specs.Promise.{GoodHead}
use Rattle.mirrors.specs.Back.{counted_back, told}
use Rattle.mirrors.proofs.Back.{back_length, back_most, back_back}
use Rattle.headturns.specs.Turns.{head_lists, Both}
use Rattle.sequencing.specs.Work.{Works}

module _ (e l p : List ℕ) (g : GoodHead (win e l) p) (m : List ℕ) (b : m ≡ counted_back l) where
  back_long : length m ≡ length e
  back_long = ap length b ∙ back_length l ∙ g.sized.1.0

  back_limit : (k : ℕ) → m ! k ≤ most_time
  back_limit k = rw b (back_most l k)

  -- counted back they tell the submitted windows
  told_same : told e m ≡ win e l
  told_same = rw b (ap (λ (x : List ℕ). win e x) (back_back l g.within.1.0))

  pub both_start : (f r : List ℕ) → Ordered e (length e) f → length f ≡ most_jobs → Ordered m (length m) r → length r ≡ most_jobs → Both (length e) p (head_lists e m f r)
  both_start f r o s q t =
      record {
        ahead = record {
          lent = record {
            few = g.few;
            starts_long = g.sized.0;
            ends_long = back_long;
            p_long = g.sized.1.1.0;
            starts_most = g.within.0;
            ends_most = back_limit;
            p_most = g.within.1.1.0;
          };
          room = s;
          order = o;
        };
        behind = record {
          lent = record {
            few = g.few;
            starts_long = back_long;
            ends_long = g.sized.0;
            p_long = g.sized.1.1.0;
            starts_most = back_limit;
            ends_most = g.within.0;
            p_most = g.within.1.1.0;
          };
          room = t;
          order = subst (λ (i : ℕ). Ordered m i r) back_long q;
        };
      }

  pub long_start : Long (length e) p (win e l) → Long (length e) p (told e m)
  long_start h = rw told_same h

  pub works_same : (a : Answer) (X : Win) → Works (told e m) p a X → Works (win e l) p a X
  works_same a X h = subst (λ (W : Win). Works W p a X) told_same h
