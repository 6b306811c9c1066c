-- The next move is one: of two moves that are each the search's own choice, with no rule applying at a place passed over, the one that stands further on would
-- have passed the other. So as many moves from the same windows are the same moves, and a clash is of one job.
use Prim.Native.Nat.{ℕ}
use native.Mathlib.Omega.{arith}
use native.Mathlib.Decide.{dec_le, dec_lt, ℕ_discrete}
use mathlib.Core.Path.{◌≡◌, refl, sym, ap, subst, ◌∙◌}
use mathlib.Core.List.{List, [], ◌∷◌, ◌++◌}
use mathlib.Core.Logic.{◌⊎◌, inl, inr}
use mathlib.Core.Option.{Option, some}
use lib.ListN.{length}
use Rattle.narrowing.specs.Windows.{Win, Side, early, late, Long, LowestTooShort}
use Rattle.narrowing.specs.Rules.{Family}
use Rattle.narrowing.specs.Search.{Search, Move, after}
use Rattle.narrowing.specs.Rounds.{place_of, Passed, Choice, Chosen}
use Rattle.narrowing.specs.Led.{Clashed}

-- two places are one, or one of them is passed over on the way to the other
passed_or : (a b x : ℕ) → (x ≡ b) ⊎ (Passed a b x ⊎ Passed a x b)
passed_or a b x =
    elim (ℕ_discrete x b) [
      | yes e ↦ inl e
      | no e ↦
          inr (elim (dec_le a b) [
            | yes p ↦ elim (dec_le a x) [ yes q ↦ elim (dec_lt x b) [ yes r ↦ inl (inl (q, r)) | no r ↦ inr (inl (p, omega arith)) ] | no q ↦ inr (inr (omega arith, inl p)) ]
            | no p ↦ elim (dec_le a x) [ yes q ↦ inl (inr (omega arith, inl q)) | no q ↦ elim (dec_lt x b) [ yes r ↦ inl (inr (omega arith, inr r)) | no r ↦ inr (inr (omega arith, inr (omega arith))) ] ]
          ])
    ]

place_one : (j k : ℕ) (s u : Side) → place_of j s ≡ place_of k u → (j ≡ k) × (s ≡ u)
place_one j k early early e = (omega arith, refl)
place_one j k early late e = absurd (omega arith)
place_one j k late early e = absurd (omega arith)
place_one j k late late e = (omega arith, refl)

found_one : (x : Option ℕ) (c d : ℕ) → x ≡ some c → x ≡ some d → c ≡ d
found_one x c d e f = let q : some c ≡ some d = sym e ∙ f in let z : c ≡ d = cc in z

move_one : (m n : Move) → m.job ≡ n.job → m.side ≡ n.side → m.choice ≡ n.choice → m.before ≡ n.before → m ≡ n
move_one m n a b c d =
    ap (λ (i : ℕ). record { job = i; side = m.side; choice = m.choice; before = m.before }) a
    ∙ ap (λ (s : Side). record { job = n.job; side = s; choice = m.choice; before = m.before }) b
    ∙ ap (λ (i : ℕ). record { job = n.job; side = n.side; choice = i; before = m.before }) c
    ∙ ap (λ (W : Win). record { job = n.job; side = n.side; choice = n.choice; before = W }) d

module _ (R : Search) (G : Family) where
  choice_one : (W : Win) (j : ℕ) (s : Side) (m n : Move) → Choice R G W j s m → Choice R G W j s n → m ≡ n
  choice_one W j s m n f g =
      move_one m n same.0 same.1
      (found_one (R.best W n.job n.side) m.choice n.choice (subst (λ (u : Side). R.best W n.job u ≡ some m.choice) same.1 (subst (λ (i : ℕ). R.best W i m.side ≡ some m.choice) same.0 f.chosen)) g.chosen)
      (f.before ∙ sym g.before)
    where
      go : (place_of n.job n.side ≡ place_of m.job m.side) ⊎ (Passed (place_of j s) (place_of m.job m.side) (place_of n.job n.side) ⊎ Passed (place_of j s) (place_of n.job n.side) (place_of m.job m.side))
          → place_of m.job m.side ≡ place_of n.job n.side
      go (inl e) = sym e
      go (inr (inl p)) = absurd (f.passed n.job n.side g.listed p _ g.applies)
      go (inr (inr p)) = absurd (g.passed m.job m.side f.listed p _ f.applies)

      same : (m.job ≡ n.job) × (m.side ≡ n.side)
      same = place_one m.job n.job m.side n.side (go (passed_or (place_of j s) (place_of m.job m.side) (place_of n.job n.side)))

  -- as many moves are the same moves
  pub chosen_one : (ms ns : List Move) (W : Win) (j : ℕ) (s : Side) → Chosen R G W j s ms → Chosen R G W j s ns → length ms ≡ length ns → ms ≡ ns
  chosen_one [] [] W j s f g e = refl
  chosen_one [] (n ∷ ns) W j s f g e = absurd (omega arith)
  chosen_one (m ∷ ms) [] W j s f g e = absurd (omega arith)
  chosen_one (m ∷ ms) (n ∷ ns) W j s (f, fs) (g, gs) e =
      let q = choice_one W j s m n f g in
      ap (λ (z : Move). z ∷ ms) q
      ∙ ap (λ (zs : List Move). n ∷ zs)
      (chosen_one ms ns (after R W n.job n.side n.choice) n.job n.side
      (subst (λ (z : Move). Chosen R G (after R W z.job z.side z.choice) z.job z.side ms) q fs) gs (omega arith))

-- ---- a clash is of one job

abbrev last_of : Move → List Move → Move
last_of d [] = d
last_of d (x ∷ xs) = last_of x xs

last-is : (d : Move) (xs : List Move) (x : Move) → last_of d (xs ++ (x ∷ [])) ≡ x
last-is d [] x = refl
last-is d (y ∷ xs) x = last-is y xs x

lowest_one : (n : ℕ) (p : List ℕ) (W : Win) (i j : ℕ) → LowestTooShort n p W i → LowestTooShort n p W j → i ≡ j
unfolding Long
lowest_one n p W i j f g =
    elim (ℕ_discrete i j) [
      | yes e ↦ e
      | no e ↦ elim (dec_lt i j) [ yes b ↦ absurd (omega (arith, f.shorter, g.before i b)) | no b ↦ absurd (omega (arith, g.shorter, f.before j (omega arith))) ]
    ]

pub clash_one : (R : Search) (W : Win) (ms : List Move) (i j : ℕ) → Clashed R W ms i → Clashed R W ms j → i ≡ j
clash_one R W [] i j f g = lowest_one R.n R.p W i j f g
clash_one R W (m ∷ ms) i j (l, f) (k, g) =
    let a : last_of m (m ∷ ms) ≡ f.last = ap (last_of m) f.closing ∙ last-is m f.before f.last in
    let b : last_of m (m ∷ ms) ≡ g.last = ap (last_of m) g.closing ∙ last-is m g.before g.last in
    sym f.job ∙ ap (λ (z : Move). z.job) (sym a ∙ b) ∙ g.job
