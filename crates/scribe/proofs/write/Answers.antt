-- `scribe::write` meets its contract: the bytes are counted, and put where the buffer is long enough.
use native.Mathlib.Omega.{arith}
use mathlib.Core.Path.{◌≡◌, refl}
use borrow.Author.Rules.{rules}
use mathlib.Core.Bool.{true}
use Rattle.std.specs.Prelude.{Some}
use Rattle.std.specs.Borrow.{GName}
use Rattle.lists.proofs.Sets.{clash}
use Rattle.scribe.proofs.write.Goals as goal

-- the pen still holds the buffer that was lent
same_name : {x y : GName} → Some x ≡ Some y → x ≡ y
same_name e = cc

pub put_project-requires : goal.put_project-requires
put_project-requires c = record { start = refl; successors_in_bounds = λ e. clash true refl e }

pub returns-then-buffer-bytes : goal.returns-then-buffer-bytes
returns-then-buffer-bytes c = (omega (arith, c.put_project.ensures.ran.count, c.if-buffer-bytes.true), refl)

pub put_project-requires-2 : goal.put_project-requires-2
put_project-requires-2 c =
    record { start = refl; successors_in_bounds = λ e. omega (arith, c.put_project.ensures.ran.count, c.if-buffer-bytes.false) }

pub returns : goal.returns
returns c = (omega (arith, c.put_project.ensures.ran.count, c.if-buffer-bytes.false), c.put_project-2.ensures.ran.count, let k = same_name c.put_project-2.ensures.same in let e = c.put_project-2.ensures.ran.bytes in search rules)
