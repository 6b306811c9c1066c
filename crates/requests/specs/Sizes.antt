-- The most that a line of `probe` may hold, as docs/ANSWERS.md has it under 'The lines of `probe`'; the library knows no such limit.
use Rattle.std.specs.Prelude.{ℕ, suc, ◌+◌, ◌*◌}

-- the entries of a list of jobs, of a log and of a list of pairs
abbrev pub job_entries : ℕ
job_entries = 1200

abbrev pub log_entries : ℕ
log_entries = 131072

abbrev pub pair_entries : ℕ
pair_entries = 70000

-- the bytes of a text or a buffer
abbrev pub text_bytes : ℕ
text_bytes = 524288

-- the words of all its lists: four of jobs and two of pairs, each behind its length
abbrev pub line_words : ℕ
line_words = 4 * suc job_entries + 2 * suc pair_entries
