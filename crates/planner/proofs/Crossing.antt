-- What each board sends and receives in a plan, from the levels of the links on its two sides. Assumes nothing.
use Rattle.std.proofs.Common.{◌≡◌, ◌∙◌, true, List, ℕ, ◌+◌, ◌-◌, ◌<◌, arith, eqb, ℤ, replicate}
use Rattle.ring.specs.Lists.{fill}
use Rattle.ring.specs.Boards.{Ring, Accepted, ring_in, prev}
use Rattle.ring.specs.Schedule.{sender, receiver}
use Rattle.ring.specs.Plan.{level, offset, ahead, behind, plan}
use Rattle.ring.proofs.Sums.{sum_ones}
use Rattle.ring.proofs.Totals.{count_all}
use Rattle.ring.proofs.Offset.{fits}
use Rattle.ring.proofs.Planned.{sent_by, received_by_is}
use Rattle.ring.proofs.Best.{timed}
use Rattle.ring.proofs.Fill.{fill_same}
use Rattle.planner.specs.Lent.{Lent}
use Rattle.planner.specs.Traffic.{for_boards, sends_by}
use Rattle.planner.proofs.Raising.{under, under_is}

module _ (r : Ring) (ok : Accepted r) (i : ℕ) (h : i < r.n) where
  -- forward on its own link, and back on the link before
  pub sends_are : ahead r (offset r) i + behind r (offset r) (prev r.n i) ≡ sends_by r (sender r) i
  sends_are = omega (arith, count_all (λ s. eqb (sender r s) i) (plan r (offset r)), sent_by r (offset r) (timed r (offset r) ok (fits r ok)).back (λ s. true) i h, sum_ones (ahead r (offset r) i), sum_ones (behind r (offset r) (prev r.n i)))

  -- forward from the link before, and back on its own link
  pub receipts_are : ahead r (offset r) (prev r.n i) + behind r (offset r) i ≡ sends_by r (receiver r) i
  receipts_are = omega (arith, count_all (λ s. eqb (receiver r s) i) (plan r (offset r)), received_by_is r (offset r) (timed r (offset r) ok (fits r ok)).back (λ s. true) i h, sum_ones (ahead r (offset r) (prev r.n i)), sum_ones (behind r (offset r) i))

-- what board i sends and receives, by the levels on its two sides
abbrev pub sent : Ring → ℕ → ℕ
sent r i = (level r i - offset r) + (offset r - under r i)

abbrev pub received : Ring → ℕ → ℕ
received r i = (under r i - offset r) + (offset r - level r i)

module _ {kind n : ℕ} {loads : List ℕ} {surpluses : List ℤ} {costs : List ℕ} (lent : Lent kind n loads surpluses costs) where
  abbrev r : Ring
  r = ring_in kind n loads surpluses costs

  pub all_sent : fill (sent r) n (replicate 128 0) ≡ for_boards (sends_by r (sender r)) n
  unfolding ahead behind
  all_sent =
      fill_same {A = ℕ} (sent r) (sends_by r (sender r)) n (replicate 128 0)
      (record { at = λ i h. (λ t. (level r i - offset r) + (offset r - under_is lent i h t)) ∙ sends_are r lent.accepted i h })

  pub all_received : fill (received r) n (replicate 128 0) ≡ for_boards (sends_by r (receiver r)) n
  unfolding ahead behind
  all_received =
      fill_same {A = ℕ} (received r) (sends_by r (receiver r)) n (replicate 128 0)
      (record { at = λ i h. (λ t. (under_is lent i h t - offset r) + (offset r - level r i)) ∙ receipts_are r lent.accepted i h })
