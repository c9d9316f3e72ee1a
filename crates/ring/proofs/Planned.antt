-- The plan as a list of sends, for every kind and every offset: what holds of each send and of each two, what is sent and received,
-- and what its starts have to keep for it to be a valid schedule.
use mathlib.Core.Path.{◌≡◌, refl, sym, ap, ◌∙◌}
use mathlib.Core.Bool.{Bool, true, false}
use mathlib.Core.Logic.{◌⊎◌, inl, inr}
use Prim.Native.Nat.{ℕ, suc, ◌+◌, ◌≤◌, ◌<◌}
use native.Mathlib.Omega.{arith}
use lib.Dec.{eqb, ltb}
use borrow.Author.Tests.{ltb-true, ltb-false, eq-eqb, ne_eqb}
use Rattle.ring.specs.Numbers.{pick, both, one_if, sum}
use Rattle.ring.specs.Lists.{Each, EachTwo, total, count}
use Rattle.ring.specs.Boards.{Ring, Accepted, TwoWay, next, prev}
use Rattle.ring.specs.Schedule.{Send, MayStart, sender, receiver, ends, Allowed, Apart, Valid}
use Rattle.ring.specs.Plan.{ahead, behind, carries, direction_of, start_of, send_of, link_sends, plan, finish_of}
use Rattle.ring.proofs.Sums.{sum_eq, sum_zero, sum_at, sum_ones}
use Rattle.ring.proofs.Totals.{count_all}
use Rattle.ring.proofs.Joined.{each_joined, two_joined, total_joined}
use Rattle.ring.proofs.Neighbours.{prev_below, next_one}
use Rattle.ring.proofs.Level.{one_sign, carried}
use Rattle.ring.proofs.Flow.{along, sent_if, received_if}

module _ (r : Ring) (o : ℕ) where
  -- a link that sends forward, or nothing, and one that sends back
  pub record Fore (i : ℕ) : Type 0 where
    pub direction : direction_of r o i ≡ 0
    pub none : behind r o i ≡ 0

  pub record Hind (i : ℕ) : Type 0 where
    pub direction : direction_of r o i ≡ 1
    pub none : ahead r o i ≡ 0
    pub some : 1 ≤ behind r o i

  pub link_is : (i : ℕ) → Fore i ⊎ Hind i
  link_is i = go (ltb 0 (behind r o i)) refl (one_sign r o i)
    where
      go : (b : Bool) → ltb 0 (behind r o i) ≡ b → (ahead r o i ≡ 0) ⊎ (behind r o i ≡ 0) → Fore i ⊎ Hind i
      go true e (inl z) = inr (record { direction = rw e; none = z; some = ltb-true 0 (behind r o i) e })
      go true e (inr z) = absurd (omega (arith, ltb-true 0 (behind r o i) e))
      go false e z = inl (record { direction = rw e; none = omega (arith, ltb-false 0 (behind r o i) e) })

  -- each send of the plan, each two, and a total over them
  pub each_plan : (P : Send → Type 0) → ((i j : ℕ) → i < r.n → j < carries r o i → P (send_of r o i (suc j))) → Each P (plan r o)
  each_plan P h = each_joined P _ r.n (λ i hi. each_joined P _ (carries r o i) (λ j lj. (h i j hi lj, tt)))

  pub two_plan : (P : Send → Send → Type 0)
      → ((i j k : ℕ) → i < r.n → j < k → k < carries r o i → P (send_of r o i (suc j)) (send_of r o i (suc k)))
      → ((i j a b : ℕ) → i < a → a < r.n → j < carries r o i → b < carries r o a → P (send_of r o i (suc j)) (send_of r o a (suc b))) → EachTwo P (plan r o)
  two_plan P h c =
      two_joined P _ r.n
      (λ i hi. two_joined P _ (carries r o i) (λ j lj. (tt, tt)) (λ j k l lk. ((h i j k hi l lk, tt), tt)))
      (λ i a l ha. each_joined (λ s. Each (P s) (link_sends r o a (carries r o a))) _ (carries r o i)
      (λ j lj. (each_joined (P (send_of r o i (suc j))) _ (carries r o a) (λ b lb. (c i j a b l ha lj lb, tt)), tt)))

  pub total_plan : (f : Send → ℕ) → total f (plan r o) ≡ sum (λ i. sum (λ j. f (send_of r o i (suc j))) (carries r o i)) r.n
  unfolding total
  total_plan f = total_joined f _ r.n ∙ sum_eq _ _ r.n (λ i h. total_joined f _ (carries r o i) ∙ sum_eq _ _ (carries r o i) (λ j l. omega arith))

  -- of the first k sends of link l, those that pass a test
  abbrev pub passing : (Send → Bool) → ℕ → ℕ → ℕ
  passing q l k = sum (λ j. one_if (q (send_of r o l (suc j)))) k

  -- the sends of link l in direction w that pass a test
  along_count : (w l : ℕ) (q : Send → Bool) → l < r.n
      → count (λ s. both (along w l s) (q s)) (plan r o) ≡ passing q l (pick (eqb (direction_of r o l) w) (carries r o l) 0)
  unfolding sum
  along_count w l q hl =
      total_plan (λ s. one_if (both (along w l s) (q s)))
      ∙ (sum_at (λ i. passing (λ s. both (along w l s) (q s)) i (carries r o i)) l r.n hl
      (λ i ne. sum_zero _ (carries r o i) (λ j m. other i j ne (eqb (direction_of r o i) w)))
      ∙ this (eqb (direction_of r o l) w))
    where
      other : (i j : ℕ) → (i ≡ l → ⊥) → (b : Bool) → one_if (both (both b (eqb i l)) (q (send_of r o i (suc j)))) ≡ 0
      other i j ne true = rw (ne_eqb i l ne)
      other i j ne false = refl

      this : (b : Bool) → passing (λ s. both (both b (eqb l l)) (q s)) l (carries r o l) ≡ passing q l (pick b (carries r o l) 0)
      this true = rw (eq-eqb l l refl)
      this false = sum_zero _ (carries r o l) (λ j m. refl)

  pub fore_count : (l : ℕ) (q : Send → Bool) → l < r.n → count (λ s. both (along 0 l s) (q s)) (plan r o) ≡ passing q l (ahead r o l)
  fore_count l q h = along_count 0 l q h ∙ ap (passing q l) (go (link_is l))
    where
      go : Fore l ⊎ Hind l → pick (eqb (direction_of r o l) 0) (carries r o l) 0 ≡ ahead r o l
      go (inl f) = rw (f.direction, f.none) (omega arith)
      go (inr b) = rw (b.direction, b.none)

  pub hind_count : (l : ℕ) (q : Send → Bool) → l < r.n → count (λ s. both (along 1 l s) (q s)) (plan r o) ≡ passing q l (behind r o l)
  hind_count l q h = along_count 1 l q h ∙ ap (passing q l) (go (link_is l))
    where
      go : Fore l ⊎ Hind l → pick (eqb (direction_of r o l) 1) (carries r o l) 0 ≡ behind r o l
      go (inl f) = rw (f.direction, f.none)
      go (inr b) = rw (b.direction, b.none) (omega arith)

  -- what the starts of a plan have to keep
  pub record Timed : Type 0 where
    -- only a two-way ring sends back
    pub back : (i : ℕ) → i < r.n → Hind i → TwoWay r.kind
    -- the sends of a link go one after another
    pub turns : (i j k : ℕ) → i < r.n → j < k → k < carries r o i → ends r (send_of r o i (suc j)) ≤ start_of r o i (suc k)
    -- a forward link and a back link that meet at a board don't overlap
    pub meet : (i a : ℕ) → i < r.n → a < r.n → Fore i → Hind a → (i ≡ next r.n a) ⊎ (next r.n i ≡ a) → (j b : ℕ) → j < carries r o i → b < carries r o a
        → Apart r (send_of r o i (suc j)) (send_of r o a (suc b))
    -- the board that sends has an item
    pub held : (i j : ℕ) → i < r.n → j < carries r o i → MayStart r (plan r o) (sender r (send_of r o i (suc j))) (start_of r o i (suc j))
    -- every send ends by the finish
    pub ended : (i j : ℕ) → i < r.n → j < carries r o i → ends r (send_of r o i (suc j)) ≤ finish_of r o

  pub sender_fore : (i j : ℕ) → Fore i → sender r (send_of r o i j) ≡ i
  sender_fore i j f = ap (λ (w : ℕ). pick (eqb w 0) i (next r.n i)) f.direction

  pub sender_hind : (i j : ℕ) → Hind i → sender r (send_of r o i j) ≡ next r.n i
  sender_hind i j b = ap (λ (w : ℕ). pick (eqb w 0) i (next r.n i)) b.direction

  receiver_fore : (i j : ℕ) → Fore i → receiver r (send_of r o i j) ≡ next r.n i
  receiver_fore i j f = ap (λ (w : ℕ). pick (eqb w 0) (next r.n i) i) f.direction

  receiver_hind : (i j : ℕ) → Hind i → receiver r (send_of r o i j) ≡ i
  receiver_hind i j b = ap (λ (w : ℕ). pick (eqb w 0) (next r.n i) i) b.direction

  swap : (s t : Send) → Apart r s t → Apart r t s
  swap s t (inl h) = inr h
  swap s t (inr h) = inl h

  module _ (back : (i : ℕ) → i < r.n → Hind i → TwoWay r.kind) where
    pub plan_allowed : Each (Allowed r) (plan r o)
    plan_allowed = each_plan (Allowed r) (λ i j h l. (h, elim (link_is i) [ inl f ↦ inl f.direction | inr b ↦ inr (b.direction, back i h b) ]))

    -- what board x sends and receives, of the sends that pass a test
    pub sent_by : (q : Send → Bool) (x : ℕ) → x < r.n
        → count (λ s. both (eqb (sender r s) x) (q s)) (plan r o) ≡ passing q x (ahead r o x) + passing q (prev r.n x) (behind r o (prev r.n x))
    sent_by q x h = omega (arith, sent_if r (plan r o) plan_allowed x h q, fore_count x q h, hind_count (prev r.n x) q (prev_below r.n x h))

    pub received_by_is : (q : Send → Bool) (x : ℕ) → x < r.n
        → count (λ s. both (eqb (receiver r s) x) (q s)) (plan r o) ≡ passing q (prev r.n x) (ahead r o (prev r.n x)) + passing q x (behind r o x)
    received_by_is q x h = omega (arith, received_if r (plan r o) plan_allowed x h q, fore_count (prev r.n x) q (prev_below r.n x h), hind_count x q h)

    plan_left : Accepted r → (i : ℕ) → i < r.n
        → r.load i + count (λ s. eqb (receiver r s) i) (plan r o) ≡ r.after i + count (λ s. eqb (sender r s) i) (plan r o)
    plan_left ok i h =
        omega (
          arith,
          carried r o ok i h,
          count_all (λ s. eqb (sender r s) i) (plan r o),
          count_all (λ s. eqb (receiver r s) i) (plan r o),
          sent_by (λ s. true) i h,
          received_by_is (λ s. true) i h,
          sum_ones (ahead r o i),
          sum_ones (behind r o i),
          sum_ones (ahead r o (prev r.n i)),
          sum_ones (behind r o (prev r.n i)),
        )

  module _ (t : Timed) where
    -- sends of one board, or receipts: `who` is u i on a forward link and v i on a back link
    apart_by : (who : Send → ℕ) (u v : ℕ → ℕ) → ((i j : ℕ) → Fore i → who (send_of r o i j) ≡ u i) → ((i j : ℕ) → Hind i → who (send_of r o i j) ≡ v i)
        → ((i a : ℕ) → i < r.n → a < r.n → u i ≡ u a → i ≡ a) → ((i a : ℕ) → i < r.n → a < r.n → v i ≡ v a → i ≡ a)
        → ((i a : ℕ) → u i ≡ v a → (i ≡ next r.n a) ⊎ (next r.n i ≡ a)) → EachTwo (λ x y. who x ≡ who y → Apart r x y) (plan r o)
    apart_by who u v isF isH oneF oneH at =
        two_plan _ (λ i j k h l lk e. inl (t.turns i j k h l lk)) (λ i j a b l h lj lb e. go i j a b l h lj lb e (link_is i) (link_is a))
      where
        go : (i j a b : ℕ) → i < a → a < r.n → j < carries r o i → b < carries r o a → who (send_of r o i (suc j)) ≡ who (send_of r o a (suc b))
            → Fore i ⊎ Hind i → Fore a ⊎ Hind a → Apart r (send_of r o i (suc j)) (send_of r o a (suc b))
        go i j a b l h lj lb e (inl f) (inl g) = absurd (omega (arith, oneF i a (omega arith) h (sym (isF i (suc j) f) ∙ (e ∙ isF a (suc b) g))))
        go i j a b l h lj lb e (inl f) (inr g) = t.meet i a (omega arith) h f g (at i a (sym (isF i (suc j) f) ∙ (e ∙ isH a (suc b) g))) j b lj lb
        go i j a b l h lj lb e (inr f) (inl g) =
            swap (send_of r o a (suc b)) (send_of r o i (suc j))
            (t.meet a i h (omega arith) g f (at a i (sym (isF a (suc b) g) ∙ (sym e ∙ isH i (suc j) f))) b j lb lj)
        go i j a b l h lj lb e (inr f) (inr g) = absurd (omega (arith, oneH i a (omega arith) h (sym (isH i (suc j) f) ∙ (e ∙ isH a (suc b) g))))

    pub timed_valid : Accepted r → Valid r (plan r o)
    timed_valid ok = record {
      allowed = plan_allowed t.back;
      sends = apart_by (sender r) (λ i. i) (next r.n) sender_fore sender_hind (λ i a h k e. e) (next_one r.n) (λ i a e. inl e);
      receipts = apart_by (receiver r) (next r.n) (λ i. i) receiver_fore receiver_hind (next_one r.n) (λ i a h k e. e) (λ i a e. inr e);
      held = each_plan _ t.held;
      left = plan_left t.back ok;
    }
