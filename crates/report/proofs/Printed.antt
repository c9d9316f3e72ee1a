-- What the program prints of an input: its two sizes, its first bytes alone, and the refusal of an input that is too long. Assumes nothing.
use mathlib.Core.Path.{◌≡◌, refl, sym, ap, ◌∙◌}
use mathlib.Core.List.{List}
use mathlib.Core.Logic.{inl, inr}
use Prim.Native.Nat.{ℕ, ◌≤◌, ◌<◌, min}
use native.Mathlib.Omega.{arith}
use lib.ListN.{length, take}
use lib.Seq.{length-take-le, take-take}
use Rattle.std.proofs.lemmas.List.{take_min}
use Rattle.ring.specs.Boards.{Within}
use Rattle.std.proofs.Common.{Result, Ok, Err}
use Rattle.hop.specs.declared.Shape.{Shape}
use Rattle.hop.specs.declared.refusals.Refusal.{Refusal}
use Rattle.hop.specs.Answers.{Gives, number_by, board_by, of_check}
use Rattle.hop.specs.Read.{job_length, head_of, check_of, job_of}
use Rattle.hop.proofs.First.{stands}
use Rattle.hop.proofs.Accepted.{job_answer}
use Rattle.hop.proofs.Reading.{headed}
use Rattle.hop.proofs.Given.{Early, head_gives, early_board}
use Rattle.planner.specs.PlanBytes.{record_place}
use Rattle.report.specs.Text.{refusal_line}
use Rattle.report.specs.Report.{report_of, input_limit, plan_room, printed}
use Rattle.report.proofs.Texts.{text_unread}

-- "so 776 bytes for now"
pub limit_is : input_limit ≡ 776
limit_is = refl

-- "65,535 bytes (10,920 sends)": a plan of 10,920 sends has room, and one of 10,921 has none
pub sends_held : (record_place 10920 ≤ plan_room) × (plan_room < record_place 10921)
sends_held = omega arith

-- the text of an input is that of its first 776 bytes
pub printed_first : (s : List ℕ) → printed s ≡ printed (take 776 s)
unfolding printed
printed_first s = ap (λ (t : List ℕ). report_of (job_of t) plan_room) (sym (take-take 776 776 s (omega arith)))

-- what is planned of them into so much room is what is printed
pub prints : (s : List ℕ) (k room : ℕ) → k ≡ min input_limit (length s) → room ≡ plan_room → report_of (job_of (take k s)) room ≡ printed s
unfolding printed
prints s k room e q = (λ i. report_of (job_of (take (e i) s)) (q i)) ∙ ap (λ (t : List ℕ). report_of (job_of t) plan_room) (take_min input_limit s)

-- more bytes than the longest job has make no ring
too_long : (s : List ℕ) → job_length 128 < length s → (r : Refusal) × Within 2 6 (number_by r) × (board_by r ≡ 0) × (check_of s ≡ Err r)
unfolding check_of
too_long s h = go (head_of s) refl (head_gives s)
  where
    go : (c : Result Shape Refusal) → head_of s ≡ c → Gives (Early s) 0 (of_check c) → (r : Refusal) × Within 2 6 (number_by r) × (board_by r ≡ 0) × (check_of s ≡ Err r)
    go (Ok ring) e g = let f = headed s ring e in absurd (omega arith)
    go (Err r) e g = (
      r,
      elim g.0 [ inl p ↦ absurd (omega arith) | inr p ↦ p ],
      early_board s (number_by r) (board_by r) g,
      sym (stands (head_of s) (head_of s) _ r refl e),
    )

-- an input longer than the longest job is refused whatever it holds: by 2 to 6, so for its mark, version, kind, n or length
pub longer_refused : (s : List ℕ) → job_length 128 < length s → (number : ℕ) × Within 2 6 number × (printed s ≡ refusal_line number 0)
unfolding printed
longer_refused s h =
    let cut = take input_limit s in
    let long : length cut ≡ input_limit = length-take-le input_limit s (omega arith) in
    let (r, among, none, e) = too_long cut (omega arith) in
    (number_by r, among, sym (text_unread (job_of cut) plan_room r (job_answer cut ∙ e)) ∙ ap (refusal_line (number_by r)) none)
