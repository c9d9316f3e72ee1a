-- Document 01, "The program": the text of the planner's answer to a job, and what is printed of an input.
use Rattle.std.specs.Prelude.{List, ◌++◌, ℕ, ◌+◌, take, Result, Ok, Err}
use Rattle.ring.specs.Boards.{Ring, most_boards}
use Rattle.ring.specs.Schedule.{sender, receiver}
use Rattle.hop.specs.declared.Shape.{Shape}
use Rattle.hop.specs.declared.Job.{Job}
use Rattle.hop.specs.declared.refusals.Refusal.{Refusal}
use Rattle.hop.specs.Answers.{number_by, board_by}
use Rattle.hop.specs.Read.{job_length, job_of}
use Rattle.planner.specs.declared.Planned.{Planned}
use Rattle.planner.specs.Answer.{ring_for, plan_answer}
use Rattle.planner.specs.Traffic.{sends_by}
use Rattle.report.specs.Text.{first_line, board_lines, refusal_line}

-- a refusal's line
abbrev pub refused_text : Refusal → List ℕ
refused_text refusal = refusal_line (number_by refusal) (board_by refusal)

-- a ring's plan: its first line, and a line for each board
abbrev pub plan_text : Ring → Planned → List ℕ
plan_text r planned = first_line planned.finish planned.moves planned.tight ++ board_lines (sends_by r (sender r)) (sends_by r (receiver r)) r.n

-- of a refused job the refusal; of a ring the refusal of its plan, or the plan
abbrev pub text_by : Job → Result Shape Refusal → Result Planned Refusal → List ℕ
text_by job (Err refusal) answer = refused_text refusal
text_by job (Ok shape) (Err refusal) = refused_text refusal
text_by job (Ok shape) (Ok planned) = plan_text (ring_for job shape) planned

-- what is printed of a job that is planned into so many bytes of room
unfoldable pub report_of : Job → ℕ → List ℕ
report_of job room = text_by job job.answer (plan_answer job room)

-- the most bytes of an input that are read: one byte more than the longest job
abbrev pub input_limit : ℕ
input_limit = job_length most_boards + 1

-- the bytes that are planned into
abbrev pub plan_room : ℕ
plan_room = 65535

-- what the program prints of an input: the text of its first bytes, up to the limit, as a job
unfoldable pub printed : List ℕ → List ℕ
printed s = report_of (job_of (take input_limit s)) plan_room
