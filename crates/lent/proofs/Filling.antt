-- The pairs written one by one, and a list made place by place.
use Prim.Native.Nat.{ℕ, suc, ◌+◌, ◌≤◌, ◌<◌}
use native.Mathlib.Omega.{arith}
use native.Mathlib.Numerals.{add-one}
use mathlib.Core.Path.{◌≡◌, refl, sym, ap, ◌∙◌}
use mathlib.Core.Bool.{Bool, true, false, cond}
use mathlib.Core.List.{List, [], ◌∷◌, ◌++◌, map, append_assoc, append-nil}
use lib.ListN.{length, drop, set, length-append, length-set, length-map}
use lib.Seq.{drop-cons, set_at}
use Rattle.std.specs.Prelude.{Some, None}
use Rattle.lists.specs.Lists.{◌!◌}
use Rattle.chains.specs.Paths.{Pair, pair}
use Rattle.texts.specs.Tokens.{blank, onto, goes_on, solid_runs, Token, token, tokens}
use Rattle.texts.specs.Readings.{Read, good}
use Rattle.passes.specs.Rounds.{Drawn}
use Rattle.lent.specs.Parts.{Wrote}

map_snoc : (f : Pair → ℕ) (done : List Pair) (p : Pair) (l : List ℕ) → map f (done ++ p ∷ []) ++ l ≡ map f done ++ f p ∷ l
map_snoc f [] p l = refl
map_snoc f (x ∷ xs) p l = ap (λ t. f x ∷ t) (map_snoc f xs p l)

write_step : (f : Pair → ℕ) (done : List Pair) (i : ℕ) (l l₀ : List ℕ) (p : Pair) → length done ≡ i → length l ≡ length l₀ → i < length l
    → l ≡ map f done ++ drop i l₀ → set l i (f p) ≡ map f (done ++ p ∷ []) ++ drop (i + 1) l₀
write_step f done i l l₀ p n q h e =
    ap (λ (t : List ℕ). set t i (f p)) (e ∙ ap (λ (t : List ℕ). map f done ++ t) (drop-cons l₀ i 0 (omega arith)))
    ∙ set_at (map f done) (l₀ ! i) (drop (suc i) l₀) (f p) i (length-map done f ∙ n)
    ∙ rw (add-one i) (sym (map_snoc f done p (drop (suc i) l₀)))

-- i pairs written: `done`, and `rest` still comes
pub record Midway (js₀ ss₀ js ss : List ℕ) (now : Read (List Pair)) (i : ℕ) (ps : List Pair) (end : List Token) : Type 0 where
  pub done : List Pair
  pub rest : List Pair
  pub all : ps ≡ done ++ rest
  pub long : length done ≡ i
  pub ahead : now ≡ good rest end
  pub js_are : js ≡ map (λ (p : Pair). p.job) done ++ drop i js₀
  pub ss_are : ss ≡ map (λ (p : Pair). p.successor) done ++ drop i ss₀

-- r is the reading of all pairs, `now` that of the pairs still to come
pub record Writing (r now : Read (List Pair)) (js₀ ss₀ js ss : List ℕ) (i : ℕ) : Type 0 where
  pub long_js : length js ≡ length js₀
  pub long_ss : length ss ≡ length ss₀
  pub mid : (ps : List Pair) (end : List Token) → r ≡ good ps end → Midway js₀ ss₀ js ss now i ps end

module _ (r : Read (List Pair)) (js₀ ss₀ : List ℕ) where
  pub writing_start : Writing r r js₀ ss₀ js₀ ss₀ 0
  writing_start = record {
    long_js = refl;
    long_ss = refl;
    mid = λ ps end e. record { done = []; rest = ps; all = refl; long = refl; ahead = e; js_are = refl; ss_are = refl };
  }

  module _ (now later : Read (List Pair)) (js ss : List ℕ) (i : ℕ) (g : Writing r now js₀ ss₀ js ss i) where
    pub writing_end : Drawn now None later → Wrote r js₀ ss₀ js ss
    writing_end t = record {
      are = λ ps end e.
          let m = g.mid ps end e in
          let z : ps ≡ m.done = m.all ∙ ap (λ (l : List Pair). m.done ++ l) (t m.rest end m.ahead) ∙ append-nil m.done in
          let y : length ps ≡ i = ap length z ∙ m.long in
          rw (y, z) (m.js_are, m.ss_are);
    }

    module _ (a b : ℕ) (t : Drawn now (Some (a, b)) later) where
      pub writing_step : i < length js → i < length ss → Writing r later js₀ ss₀ (set js i a) (set ss i b) (i + 1)
      writing_step h₁ h₂ = record {
        long_js = length-set js i a ∙ g.long_js;
        long_ss = length-set ss i b ∙ g.long_ss;
        mid = λ ps end e.
            let m = g.mid ps end e in
            let d = t.0 m.rest end m.ahead in
            record {
              done = m.done ++ pair a b ∷ [];
              rest = d.0;
              all = m.all ∙ ap (λ (l : List Pair). m.done ++ l) d.1 ∙ sym (append_assoc m.done (pair a b ∷ []) d.0);
              long = omega (arith, m.long, length-append m.done (pair a b ∷ []));
              ahead = d.2;
              js_are = write_step (λ (p : Pair). p.job) m.done i js js₀ (pair a b) m.long g.long_js h₁ m.js_are;
              ss_are = write_step (λ (p : Pair). p.successor) m.done i ss ss₀ (pair a b) m.long g.long_ss h₂ m.ss_are;
            };
      }

      -- there are more pairs than have been written
      pub more_left : (ps : List Pair) (end : List Token) → r ≡ good ps end → i < length ps
      more_left ps end e =
          let m = g.mid ps end e in
          let d = t.0 m.rest end m.ahead in
          omega (arith, m.long, ap length m.all, length-append m.done m.rest, ap length d.1)

-- a text has no more tokens than bytes
onto_few : (b : ℕ) (ts : List (List ℕ)) → length (onto b ts) ≤ suc (length ts)
onto_few b [] = omega arith
onto_few b (t ∷ ts) = omega arith

runs_few : (s : List ℕ) → length (solid_runs s) ≤ length s
unfolding solid_runs
runs_few [] = omega arith
runs_few (b ∷ s) = go (blank b) (goes_on s) (runs_few s)
  where
    go : (x y : Bool) → length (solid_runs s) ≤ length s → length (cond x (solid_runs s) (cond y (onto b (solid_runs s)) ((b ∷ []) ∷ solid_runs s))) ≤ suc (length s)
    go true y h = omega arith
    go false true h = omega (arith, onto_few b (solid_runs s))
    go false false h = omega arith

pub tokens_few : (s : List ℕ) → length (tokens s) ≤ length s
unfolding tokens
tokens_few s = omega (arith, runs_few s, length-map (solid_runs s) token)
