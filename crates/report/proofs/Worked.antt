-- Document 01's case A, from the bytes of the job to the bytes of the text, and the ends of the numbers. Assumes nothing.
use mathlib.Core.Path.{◌≡◌, refl}
use mathlib.Core.List.{List, [], ◌∷◌}
use Prim.Native.Nat.{ℕ}
use Rattle.ring.specs.Numbers.{sum, sum_ℤ, least, greatest, peak}
use Rattle.ring.specs.Lists.{total, joined, fill}
use Rattle.ring.specs.Limits.{board_of}
use Rattle.ring.specs.Plan.{ends_after, level, low, high, offset, ahead, behind, end_back, rounds, start_of, finish_of, moves, tight}
use Rattle.hop.specs.Refusals.{faultless, ring_check}
use Rattle.hop.specs.Read.{check_of, job_of}
use Rattle.planner.specs.Answer.{plan_answer}
use Rattle.report.specs.Text.{ascii, digits, decimal, refusal_line}
use Rattle.report.specs.Report.{report_of, printed}

-- kind 2, 4 boards: loads 5 1 1 2, surpluses 3 0 −2 −1, costs 2 3 1 4
abbrev job_a : List ℕ
job_a =
    72 ∷ 79 ∷ 80 ∷ 0 ∷ 1 ∷ 2 ∷ 4
    ∷ 0 ∷ 5 ∷ 0 ∷ 3 ∷ 0 ∷ 2
    ∷ 0 ∷ 1 ∷ 0 ∷ 0 ∷ 0 ∷ 3
    ∷ 0 ∷ 1 ∷ 255 ∷ 254 ∷ 0 ∷ 1
    ∷ 0 ∷ 2 ∷ 255 ∷ 255 ∷ 0 ∷ 4
    ∷ []

pub case_a : printed job_a
    ≡ ascii "finish 9 moves 7 tight 1\nboard 0 sends 3 receives 0\nboard 1 sends 3 receives 3\nboard 2 sends 1 receives 3\nboard 3 sends 0 receives 1\n"
unfolding sum sum_ℤ least greatest peak total joined fill board_of ends_after level low high offset ahead behind end_back rounds start_of finish_of moves tight faultless ring_check check_of job_of plan_answer report_of printed digits decimal
case_a = refl

pub refused : refusal_line 10 127 ≡ ascii "refused 10 board 127\n"
unfolding digits decimal
refused = refl

pub greatest_number : decimal 4294967295 ≡ ascii "4294967295"
unfolding digits decimal
greatest_number = refl
