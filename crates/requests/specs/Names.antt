-- The calls' names and the form of each one's line, as docs/ANSWERS.md has them under 'The lines of `probe`'.
use Rattle.std.specs.Prelude.{ℕ, ◌≡◌, Bool, true, false, List, [], ◌∷◌, Option, Some, None}
use Rattle.forms.specs.declared.Form.{Form}
use Rattle.requests.specs.Sizes.{job_entries, log_entries, pair_entries}
use Rattle.requests.specs.declared.names.Layout.{Layout}
use Rattle.requests.specs.declared.names.Task.{Task}
use Rattle.requests.specs.declared.names.Call.{Call}

-- the bytes of a call's name
abbrev pub name_of : Call → List ℕ
-- `narrow`
name_of (Call.Jobs Task.Narrow) = 110 ∷ 97 ∷ 114 ∷ 114 ∷ 111 ∷ 119 ∷ []
-- `check`
name_of (Call.Jobs Task.Check) = 99 ∷ 104 ∷ 101 ∷ 99 ∷ 107 ∷ []
-- `conflict`
name_of Call.Conflict = 99 ∷ 111 ∷ 110 ∷ 102 ∷ 108 ∷ 105 ∷ 99 ∷ 116 ∷ []
-- `record`
name_of Call.Record = 114 ∷ 101 ∷ 99 ∷ 111 ∷ 114 ∷ 100 ∷ []
-- `overload`
name_of Call.Overload = 111 ∷ 118 ∷ 101 ∷ 114 ∷ 108 ∷ 111 ∷ 97 ∷ 100 ∷ []
-- `head`
name_of Call.Head = 104 ∷ 101 ∷ 97 ∷ 100 ∷ []
-- `patterson`
name_of (Call.Read Layout.Patterson) = 112 ∷ 97 ∷ 116 ∷ 116 ∷ 101 ∷ 114 ∷ 115 ∷ 111 ∷ 110 ∷ []
-- `psplib`
name_of (Call.Read Layout.Psplib) = 112 ∷ 115 ∷ 112 ∷ 108 ∷ 105 ∷ 98 ∷ []
-- `write`
name_of Call.Write = 119 ∷ 114 ∷ 105 ∷ 116 ∷ 101 ∷ []

-- the call has that name, or where there is none no call has
abbrev pub Named : List ℕ → Option Call → Type 0
Named word (Some c) = name_of c ≡ word
Named word None = (d : Call) → name_of d ≡ word → ⊥

-- numbers below 2^32, perhaps one below 2^64, lists of jobs, lists of at most so many entries, perhaps bytes
abbrev pub line_form : ℕ → Bool → ℕ → ℕ → ℕ → Bool → Form
line_form shorts long jobs others most bytes =
    record { shorts = shorts; long = long; lists = record { count = jobs; most = job_entries }; more = record { count = others; most = most }; bytes = bytes }

abbrev pub form_of : Call → Form
form_of (Call.Jobs Task.Narrow) = line_form 1 false 4 1 log_entries false
form_of (Call.Jobs Task.Check) = line_form 1 true 4 1 log_entries false
form_of Call.Conflict = line_form 1 true 4 1 log_entries false
form_of Call.Record = line_form 0 true 0 1 log_entries false
form_of Call.Overload = line_form 0 false 3 0 0 false
form_of Call.Head = line_form 0 false 3 0 0 false
form_of (Call.Read layout) = line_form 2 false 4 2 pair_entries true
form_of Call.Write = line_form 1 false 2 2 pair_entries true
