-- Demand 3, for every accepted ring of kinds 1, 2 and 3, over the definitions of specs/ alone: each statement under the sentence of
-- document 01 that it is, and of the tight link under that of document 02's order 3.
use mathlib.Core.Path.{◌≡◌, sym, ◌∙◌}
use mathlib.Core.List.{List}
use Prim.Native.Nat.{ℕ, suc, ◌+◌, ◌/◌, ◌≤◌, ◌<◌}
use native.Mathlib.Omega.{arith}
use lib.IntN.{pos, nat_abs, ◌+ℤ◌, ◌-ℤ◌}
use lib.ListN.{length}
use Rattle.ring.specs.Numbers.{sum}
use Rattle.ring.specs.Lists.{EachTwo}
use Rattle.ring.specs.Boards.{Ring, Accepted, TwoWay}
use Rattle.ring.specs.Schedule.{Send, Valid, sent_before, received_by, load_at, in_flight, finish}
use Rattle.ring.specs.Bytes.{InOrder}
use Rattle.ring.specs.Plan.{S, LeastAt, GreatestAt, R, offset, Waits, f, carries, start_of, plan, link_time, finish_of, moves, tight}
use Rattle.ring.proofs.Level.{One, some_least, some_greatest}
use Rattle.ring.proofs.Offset.{one_way, fits, f_one_way, idle_one_way, f_two_way, R_is}
use Rattle.ring.proofs.Best.{valid, ends_at, least_finish}
use Rattle.ring.proofs.Waiting.{waits, one_rule}
use Rattle.ring.proofs.Moves.{as_many, sizes, ordered, tight_is, tight_most, tight_none, tight_finish}
use Rattle.ring.proofs.Conserve.{never_below, conserved, load_at_end}
use Rattle.ring.proofs.Bounds.{finish_most}

module _ (r : Ring) (ok : Accepted r) where
  -- "A valid schedule": "each with a link, a direction the kind allows", "the sends of one board don't overlap, nor do the receipts of
  -- one board", "when a board starts a send, its load at that tick is at least 1", "after all sends each board has load − surplus"
  pub plan_is_valid : Valid r (plan r (offset r))
  plan_is_valid = valid r (offset r) ok (fits r ok)

  -- "The finish is the greatest f(i) × cost(i)." and of kind 3 "The finish is T × c."
  pub finish_is : finish r (plan r (offset r)) ≡ finish_of r (offset r)
  finish_is = ends_at r (offset r) ok (fits r ok)

  -- "Source document 001 (RR2004-28) decides the model and the least finish time, as restated here."
  pub none_sooner : (σ : List Send) → Valid r σ → finish r (plan r (offset r)) ≤ finish r σ
  none_sooner = least_finish r (offset r) ok (fits r ok)

  -- "Let S(i) be the sum of surpluses of boards 0 to i, low the least S, high the greatest, R = high − low.": low is S(k), high is S(m)
  pub some_low : (k : ℕ) × LeastAt r k
  some_low = some_least r ok

  pub some_high : (m : ℕ) × GreatestAt r m
  some_high = some_greatest r ok

  pub R_is_the_difference : (k m : ℕ) → LeastAt r k → GreatestAt r m → pos (R r) ≡ S r m -ℤ S r k
  R_is_the_difference k m low high = R_is r ok k low m high

  module _ (one : TwoWay r.kind → ⊥) where
    -- "Link i carries f(i) = S(i) − low items, forward.", "The link after which S is least carries nothing"
    pub carries_S : (k : ℕ) → LeastAt r k → (i : ℕ) → i < r.n → f r (offset r) i ≡ S r i -ℤ S r k
    carries_S k low = f_one_way r ok k low one

    pub carries_nothing : (k : ℕ) → LeastAt r k → carries r (offset r) k ≡ 0
    carries_nothing k low = idle_one_way r ok k low one

    fit : One r (offset r)
    fit = record { kind = one; from = one_way r one }

    -- "Send j on link i starts as soon as it can: the later of the end of send j − 1 on link i (0 if j = 1) and, if j is more than the
    -- load of board i, the end of send (j − load) on link i − 1." Here of send j + 1
    pub starts_wait : Waits r (offset r) (start_of r (offset r))
    starts_wait = waits r (offset r) ok fit

    -- "so the rule has a first link to stand on.": no other starts keep the rule
    pub only_starts : (start : ℕ → ℕ → ℕ) → Waits r (offset r) start → (i : ℕ) → i < r.n → (j : ℕ) → j < carries r (offset r) i
        → start i (suc j) ≡ start_of r (offset r) i (suc j)
    only_starts start rule = one_rule r (offset r) ok fit start (start_of r (offset r)) rule starts_wait

  -- of kind 3, "f(i) = S(i) − low − floor(R / 2), signed."
  pub signed_S : r.kind ≡ 3 → (k : ℕ) → LeastAt r k → (i : ℕ) → i < r.n → f r (offset r) i ≡ S r i -ℤ (S r k +ℤ pos (R r / 2))
  signed_S two k low = f_two_way r ok k low two

  -- "The moves are the sum of |f(i)|.", and the plan has so many sends
  pub moves_are : moves r (offset r) ≡ sum (λ i. nat_abs (f r (offset r) i)) r.n
  moves_are = sizes r (offset r)

  pub moves_is : length (plan r (offset r)) ≡ moves r (offset r)
  moves_is = as_many r (offset r)

  -- "The tight link is to be the lowest-numbered link with the greatest items × cost.": it is a link, none has more, each lower has less
  pub tight_below : tight r (offset r) < r.n
  tight_below = omega (arith, ok.boards, (tight_is r (offset r)).place)

  pub tight_greatest : (i : ℕ) → i < r.n → link_time r (offset r) i ≤ link_time r (offset r) (tight r (offset r))
  tight_greatest = tight_most r (offset r)

  pub tight_lowest : (i : ℕ) → i < tight r (offset r) → link_time r (offset r) i < link_time r (offset r) (tight r (offset r))
  tight_lowest = (tight_is r (offset r)).lowest

  -- "it is link 0 where there are no moves"
  pub tight_idle : moves r (offset r) ≡ 0 → tight r (offset r) ≡ 0
  tight_idle = tight_none r (offset r) ok

  -- in kinds 1 and 2 it holds the ring up: its items × cost are the finish
  pub tight_holds : (TwoWay r.kind → ⊥) → link_time r (offset r) (tight r (offset r)) ≡ finish r (plan r (offset r))
  tight_holds one = tight_finish r (offset r) one ∙ sym finish_is

  -- "Records go by link upward, then by start upward, then by direction, forward first."
  pub in_order : EachTwo InOrder (plan r (offset r))
  in_order = ordered r (offset r) ok (fits r ok)

  module _ (σ : List Send) (v : Valid r σ) where
    -- "The load at tick t is the first load, plus receipts that ended at or before t, minus sends that started strictly before t.": the
    -- difference is never below 0
    pub load_holds : (i t : ℕ) → sent_before r σ i t ≤ r.load i + received_by r σ i t
    load_holds = never_below r ok σ v

    -- "Loads plus items in flight equal the job's total at every tick."
    pub total_stays : (t : ℕ) → sum (λ i. load_at r σ i t) r.n + in_flight r σ t ≡ sum r.load r.n
    total_stays = conserved r ok σ v

    -- "after all sends each board has load − surplus"
    pub ends_with : (t : ℕ) → finish r σ ≤ t → (i : ℕ) → i < r.n → load_at r σ i t ≡ r.after i
    ends_with = load_at_end r ok σ v

  -- "finish above 4,294,967,295": there is none, since none is above 128 × 4,095 × 8,000
  pub finish_fits : (finish_of r (offset r) ≤ 4193280000) × (finish_of r (offset r) < 4294967296)
  finish_fits = omega (arith, finish_most r ok (offset r) (fits r ok))
