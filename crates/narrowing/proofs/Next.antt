-- The next move is at the first place, from where the work stands, at which the search has a choice; no place passed over has one.
use Prim.Native.Nat.{ℕ, zero, suc, ◌+◌, ◌-◌, ◌*◌, ◌≤◌, ◌<◌}
use native.Mathlib.Omega.{arith}
use native.Mathlib.Decide.{ℕ_discrete, dec_lt}
use mathlib.Core.Path.{◌≡◌, refl, subst}
use mathlib.Core.Logic.{◌⊎◌, inl, inr}
use mathlib.Core.Option.{Option, none, some}
use Rattle.narrowing.specs.Windows.{Win, Side, early, late, Long}
use Rattle.narrowing.specs.Rules.{Family, Stable}
use Rattle.narrowing.specs.Search.{Search, Offered, Searches, move}
use Rattle.narrowing.specs.Run.{Next, rests, moves, or_move, or_next, first_move, resume, next_move}
use Rattle.narrowing.specs.Rounds.{place_of, Passed, Choice}

-- a place in a round of n jobs: job j, and its side
abbrev pub Place : ℕ → ℕ → Side → Type 0
Place n j early = j ≤ n
Place n j late = j < n

pub place_of_lem : (n j : ℕ) (s : Side) → j < n → Place n j s
place_of_lem n j early b = omega arith
place_of_lem n j late b = b

place_apart : (k j : ℕ) (u s : Side) → place_of k u ≡ place_of j s → (k ≡ j) × (u ≡ s)
place_apart k j early early e = (omega arith, refl)
place_apart k j early late e = absurd (omega arith)
place_apart k j late early e = absurd (omega arith)
place_apart k j late late e = (omega arith, refl)

place_below : (n k : ℕ) (u : Side) → k < n → place_of k u < 2 * n
place_below n k early b = omega arith
place_below n k late b = omega arith

module _ (R : Search) (W : Win) where
  -- the search has no choice at any place from a to b
  abbrev Quiet : ℕ → ℕ → Type 0
  Quiet a b = (k : ℕ) (u : Side) → k < R.n → a ≤ place_of k u → place_of k u < b → R.best W k u ≡ none

  -- from place a to the end of the round: no choice, or the first one
  abbrev Says : ℕ → Next → Type 0
  Says a rests = Quiet a (2 * R.n)
  Says a (moves j s c) = (j < R.n) × (R.best W j s ≡ some c) × (a ≤ place_of j s) × Quiet a (place_of j s)

  quiet_more : (j : ℕ) (s : Side) (b : ℕ) → R.best W j s ≡ none → Quiet (suc (place_of j s)) b → Quiet (place_of j s) b
  quiet_more j s b e q k u h x y =
      elim (ℕ_discrete (place_of k u) (place_of j s)) [
        | yes r ↦ let z = place_apart k j u s r in rw (z.0, z.1) e
        | no r ↦ q k u h (omega arith) y
      ]

  or_move_lem : (j : ℕ) (s : Side) → j < R.n → (x : Option ℕ) → R.best W j s ≡ x → (y : Next) → Says (suc (place_of j s)) y → Says (place_of j s) (or_move j s x y)
  or_move_lem j s b none e rests q = quiet_more j s (2 * R.n) e q
  or_move_lem j s b none e (moves i v c) q = (q.0, q.1, omega arith, quiet_more j s (place_of i v) e q.3)
  or_move_lem j s b (some c) e y q = (b, e, omega arith, λ k u h x z. absurd (omega arith))

  says_at : (a b : ℕ) → a ≡ b → (x : Next) → Says a x → Says b x
  says_at a b e x q = subst (λ (k : ℕ). Says k x) e q

  first_says : (k j : ℕ) → j + k ≡ R.n → Says (place_of j early) (first_move R W k j)
  unfolding first_move
  first_says zero j e = λ k u h x y. absurd (omega (arith, place_below R.n k u h))
  first_says (suc k) j e =
      or_move_lem j early (omega arith) (R.best W j early) refl (or_move j late (R.best W j late) (first_move R W k (suc j)))
      (says_at (place_of j late) (suc (place_of j early)) (omega arith) (or_move j late (R.best W j late) (first_move R W k (suc j)))
      (or_move_lem j late (omega arith) (R.best W j late) refl (first_move R W k (suc j))
      (says_at (place_of (suc j) early) (suc (place_of j late)) (omega arith) (first_move R W k (suc j)) (first_says k (suc j) (omega arith)))))

  resume_says : (j : ℕ) (s : Side) → Place R.n j s → Says (place_of j s) (resume R W j s)
  unfolding resume
  resume_says j early b = first_says (R.n - j) j (omega arith)
  resume_says j late b =
      or_move_lem j late b (R.best W j late) refl (first_move R W (R.n - suc j) (suc j))
      (says_at (place_of (suc j) early) (suc (place_of j late)) (omega arith) (first_move R W (R.n - suc j) (suc j)) (first_says (R.n - suc j) (suc j) (omega arith)))

  -- from job j's side s, in this round or the next one
  abbrev NextSays : ℕ → Side → Next → Type 0
  NextSays j s rests = Quiet 0 (2 * R.n)
  NextSays j s (moves i v c) =
      (i < R.n) × (R.best W i v ≡ some c) × ((k : ℕ) (u : Side) → k < R.n → Passed (place_of j s) (place_of i v) (place_of k u) → R.best W k u ≡ none)

  none-some : (x : Option ℕ) (c : ℕ) → x ≡ none → x ≡ some c → ⊥
  none-some x c e f = let z : ◌≡◌ {A = ℕ} 0 1 = cc in omega arith

  passed_here : (a b x : ℕ) → a ≤ b → Passed a b x → (a ≤ x) × (x < b)
  passed_here a b x h (inl q) = q
  passed_here a b x h (inr q) = absurd (omega arith)

  passed_round : (a b x : ℕ) → b < a → Passed a b x → (a ≤ x) ⊎ (x < b)
  passed_round a b x h (inl q) = absurd (omega arith)
  passed_round a b x h (inr q) = q.1

  or_next_lem : (j : ℕ) (s : Side) (x y : Next) → Says (place_of j s) x → Says 0 y → NextSays j s (or_next x y)
  or_next_lem j s rests rests p q = q
  or_next_lem j s rests (moves i v c) p q = (q.0, q.1, go (dec_lt (place_of i v) (place_of j s)))
    where
      go : Dec (place_of i v < place_of j s) → (k : ℕ) (u : Side) → k < R.n → Passed (place_of j s) (place_of i v) (place_of k u) → R.best W k u ≡ none
      go (no h) k u d r = absurd (none-some (R.best W i v) c (p i v q.0 (omega arith) (place_below R.n i v q.0)) q.1)
      go (yes h) k u d r = by_way (passed_round (place_of j s) (place_of i v) (place_of k u) h r)
        where
          by_way : (place_of j s ≤ place_of k u) ⊎ (place_of k u < place_of i v) → R.best W k u ≡ none
          by_way (inl z) = p k u d z (place_below R.n k u d)
          by_way (inr z) = q.3 k u d (omega arith) z
  or_next_lem j s (moves i v c) y p q = (p.0, p.1, λ k u d r. let z = passed_here (place_of j s) (place_of i v) (place_of k u) p.2 r in p.3 k u d z.0 z.1)

  next_says : (j : ℕ) (s : Side) → Place R.n j s → NextSays j s (next_move R W j s)
  unfolding next_move
  next_says j s b =
      or_next_lem j s (resume R W j s) (first_move R W R.n 0) (resume_says j s b) (says_at (place_of 0 early) 0 (omega arith) (first_move R W R.n 0) (first_says R.n 0 (omega arith)))

-- ---- by the rules that the search looks for

module _ (R : Search) (G : Family) (search : Searches R G) (W : Win) (L : Long R.n R.p W) where
  quiet_rule : (k : ℕ) (u : Side) → k < R.n → R.best W k u ≡ none → (c : ℕ) → G W k u c → ⊥
  quiet_rule k u b e = subst (Offered (G W k u) (R.bound u)) e (search.best-is W k u L b)

  -- no rule applies, or the move that is made
  abbrev pub Ahead : ℕ → Side → Next → Type 0
  Ahead j s rests = Stable R.n G W
  Ahead j s (moves i v c) = Choice R G W j s (move W i v c)

  ahead : (j : ℕ) (s : Side) (x : Next) → NextSays R W j s x → Ahead j s x
  unfolding Stable
  ahead j s rests q = λ k u c b. quiet_rule k u b (q k u b (omega arith) (place_below R.n k u b)) c
  ahead j s (moves i v c) q =
      record {
        before = refl;
        listed = q.0;
        chosen = q.1;
        applies = subst (Offered (G W i v) (R.bound v)) q.1 (search.best-is W i v L q.0);
        passed = λ k u b r. quiet_rule k u b (q.2 k u b r);
      }

  pub next-is : (j : ℕ) (s : Side) → Place R.n j s → Ahead j s (next_move R W j s)
  next-is j s b = ahead j s (next_move R W j s) (next_says R W j s b)

-- a rule applies somewhere, or nowhere
pub stable_or : (R : Search) (G : Family) → Searches R G → (W : Win) → Long R.n R.p W
    → Stable R.n G W ⊎ ((j : ℕ) × (s : Side) × (b : ℕ) × (j < R.n) × G W j s b)
stable_or R G search W L = go (next_move R W 0 early) (next-is R G search W L 0 early (omega arith))
  where
    go : (x : Next) → Ahead R G search W L 0 early x → Stable R.n G W ⊎ ((j : ℕ) × (s : Side) × (b : ℕ) × (j < R.n) × G W j s b)
    go rests q = inl q
    go (moves i v c) q = inr (i, v, R.bound v c, q.listed, q.applies)
