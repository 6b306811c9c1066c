-- Each number of a reader exactly when, of the text of either layout: no premise on the text is left.
use Prim.Native.Nat.{ℕ, ◌≤◌, ◌<◌}
use native.Mathlib.Omega.{arith}
use mathlib.Core.Path.{◌≡◌, refl}
use mathlib.Core.List.{List}
use mathlib.Core.Logic.{inr, ◌↔◌}
use Rattle.joblist.specs.Limits.{most_time}
use Rattle.texts.specs.Readings.{bad}
use Rattle.projects.specs.Patterson.{patterson}
use Rattle.parsing.proofs.Limits.{patterson_codes, patterson_beyond}
use Rattle.rowheads.proofs.Takes.{some_code}
use Rattle.psplib.specs.Psplib.{psplib}
use Rattle.psplib.proofs.Limits.{psplib_codes, psplib_some}
use Rattle.psplib.proofs.Exactly.{Headed, psplib_35, psplib_beyond}
use Rattle.exchange.specs.Calls.{Lent, TextCall}
use Rattle.exchange.specs.Tests.{Refusal}
use Rattle.exchange.specs.When.{NoResource, NoRoom, Cyclic, ChainTooLong, Readable}
use Rattle.exchange.proofs.Asked.{asked}
use Rattle.exchange.proofs.When.{when_text, when_37, when_38, when_33, when_34, when_read}

-- a text that gives no number beyond 32 but 35, and not 0
pub record Numbered (c : TextCall) : Type 0 where
  pub beyond : (k : ℕ) → 32 < k → (k ≡ 35 → ⊥) → c.text ≡ bad k → ⊥
  pub some : c.text ≡ bad 0 → ⊥

pub patterson_numbered : (s : List ℕ) (res h : ℕ) (L : Lent) → Numbered (asked (patterson s) res h L)
patterson_numbered s res h L = record { beyond = λ k b f. patterson_beyond s k b; some = λ e. some_code (patterson_codes s 0 e) refl }

pub psplib_numbered : (s : List ℕ) (res h : ℕ) (L : Lent) → Numbered (asked (psplib s) res h L)
psplib_numbered s res h L = record { beyond = psplib_beyond s; some = λ e. psplib_some (psplib_codes s 0 e) refl }

module _ (c : TextCall) (w : Numbered c) where
  pub exactly_37 : Refusal c 37 ↔ NoResource c
  exactly_37 = when_37 c 37 (omega arith) (w.beyond 37 (omega arith) (λ e. omega arith)) refl

  pub exactly_38 : Refusal c 38 ↔ NoRoom c
  exactly_38 = when_38 c 38 (omega arith) (w.beyond 38 (omega arith) (λ e. omega arith)) refl

  pub exactly_33 : Refusal c 33 ↔ Cyclic c
  exactly_33 = when_33 c 33 (omega arith) (w.beyond 33 (omega arith) (λ e. omega arith)) refl

  pub exactly_34 : Refusal c 34 ↔ ChainTooLong c
  exactly_34 = when_34 c 34 (omega arith) (w.beyond 34 (omega arith) (λ e. omega arith)) refl

  pub exactly_read : Refusal c 0 ↔ Readable c
  exactly_read = when_read c w.some

-- 35: the horizon is within its limit, and the headings are not the five, each once and in order
pub exactly_35 : (s : List ℕ) (res h : ℕ) (L : Lent) → Refusal (asked (psplib s) res h L) 35 ↔ ((h ≤ most_time) × (Headed s → ⊥))
exactly_35 s res h L = (
  (λ r. let m = (when_text (asked (psplib s) res h L) 35 (inr (inr refl))).0 r in (m.near, (psplib_35 s).0 m.text)),
  (λ q. (when_text (asked (psplib s) res h L) 35 (inr (inr refl))).1 (record { near = q.0; text = (psplib_35 s).1 q.1 })),
)
