-- `Call::named` meets its contract: a word that is no text is no name, since names are text.
use mathlib.Core.Path.{refl, subst}
use Rattle.std.specs.Prelude.{IsUtf8}
use Rattle.requests.specs.declared.names.Layout.{Layout}
use Rattle.requests.specs.declared.names.Task.{Task}
use Rattle.requests.specs.declared.names.Call.{Call}
use Rattle.requests.specs.Names.{name_of}
use Rattle.requests.proofs.names.Call.named.Goals as goal

names_are_text : (c : Call) → IsUtf8 (name_of c)
unfolding lib.Utf8.encode
names_are_text (Call.Jobs Task.Narrow) = (name_of (Call.Jobs Task.Narrow), (refl, refl))
names_are_text (Call.Jobs Task.Check) = (name_of (Call.Jobs Task.Check), (refl, refl))
names_are_text Call.Conflict = (name_of Call.Conflict, (refl, refl))
names_are_text Call.Record = (name_of Call.Record, (refl, refl))
names_are_text Call.Overload = (name_of Call.Overload, (refl, refl))
names_are_text Call.Head = (name_of Call.Head, (refl, refl))
names_are_text (Call.Read Layout.Patterson) = (name_of (Call.Read Layout.Patterson), (refl, refl))
names_are_text (Call.Read Layout.Psplib) = (name_of (Call.Read Layout.Psplib), (refl, refl))
names_are_text Call.Write = (name_of Call.Write, (refl, refl))

pub returns-in_default : goal.returns-in_default
returns-in_default c = λ d e. c.in_default.ensures.cases.0 (subst IsUtf8 e (names_are_text d))
