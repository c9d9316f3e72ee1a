-- How many sends of each link have started and ended, tick by tick and within a tick, in a valid schedule: the books that the columns' cuts keep.
use mathlib.Core.Path.{◌≡◌, refl, sym, ap, ◌∙◌}
use mathlib.Core.List.{List}
use mathlib.Core.Bool.{Bool, true, false}
use mathlib.Core.Logic.{inl, inr}
use Prim.Native.Nat.{ℕ, zero, suc, ◌+◌, ◌*◌, ◌≤◌, ◌<◌}
use native.Mathlib.Nat.{mul-le-mul_left}
use native.Mathlib.Omega.{arith}
use lib.Dec.{eqb, ltb, leb}
use borrow.Author.Tests.{eqb-true, ltb-true, leb-true, lt-ltb, le-ltb, le-leb}
use Rattle.ring.specs.Numbers.{both, one_if}
use Rattle.ring.specs.Lists.{Each, total, count}
use Rattle.ring.specs.Boards.{Ring, Accepted, prev}
use Rattle.ring.specs.Schedule.{Send, sender, receiver, lasts, ends, sent_before, received_by, Valid}
use Rattle.ring.specs.Columns.{N}
use Rattle.ring.proofs.Tests.{le_lt, leb_iff, both_true, one_if_le}
use Rattle.ring.proofs.Sums.{sum_term}
use Rattle.ring.proofs.Totals.{count_none, each_all, each_map, two_map, total_add, total_eq, total_le, total_zero}
use Rattle.ring.proofs.Packing.{packed}
use Rattle.ring.proofs.Flow.{along, sent_if, received_if}
use Rattle.ring.proofs.Finish.{lasting}
use Rattle.ring.proofs.Conserve.{never_over}

module _ (r : Ring) where
  -- the sends of link l in direction w that started before t, and those that ended before t
  abbrev pub gone : List Send → ℕ → ℕ → ℕ → ℕ
  gone σ t w l = count (λ s. both (along w l s) (ltb s.start t)) σ

  abbrev pub come : List Send → ℕ → ℕ → ℕ → ℕ
  come σ t w l = count (λ s. both (along w l s) (ltb (ends r s) t)) σ

  -- no cut goes below 0 if so many columns stand before board 0
  abbrev pub lead : List Send → ℕ
  lead σ = total (λ s. 1) σ * N r

  -- the books: a is what started and b what ended, by direction and link
  pub record Books (σ : List Send) (dir : ℕ → ℕ) (a b : ℕ → ℕ → ℕ) : Type 0 where
    pub few : (w l : ℕ) → a w l ≤ lead σ
    pub ended : (w l : ℕ) → b w l ≤ a w l
    pub alone : (w l : ℕ) → a w l ≤ b w l + 1
    pub idle : (w l : ℕ) → (dir l ≡ w → ⊥) → a w l ≡ 0
    pub held : (i : ℕ) → i < r.n → a 0 i + a 1 (prev r.n i) ≤ r.load i + (b 0 (prev r.n i) + b 1 i)

  module _ (ok : Accepted r) where
    pub some : 1 ≤ N r
    some = let z : 0 < r.n = omega (arith, ok.boards) in omega (arith, ok.loads 0 z, sum_term r.load 0 r.n z)

    pub count_few : (σ : List Send) (p : Send → Bool) → count p σ ≤ lead σ
    count_few σ p =
        omega (arith, total_le (λ s. one_if (p s)) (λ s. 1) σ (each_all (λ s. one_if_le (p s)) σ), mul-le-mul_left (total (λ s. 1) σ) some)

  module _ (ok : Accepted r) (σ : List Send) (v : Valid r σ) where
    -- a send that ended by t started before t
    pub ended_started : (t w l : ℕ) → come σ (suc t) w l ≤ gone σ t w l
    ended_started t w l =
        total_le _ _ σ (each_map (λ s a. at (along w l s) s.start (lasts r s) a) σ (lasting r σ v ok))
      where
        at : (b : Bool) (m c : ℕ) → 1 ≤ c → one_if (both b (ltb (m + c) (suc t))) ≤ one_if (both b (ltb m t))
        at false m c h = omega arith
        at true m c h =
            elim (le_lt t m) [
              | inl l ↦ rw (le-ltb (m + c) (suc t) (omega arith), le-ltb m t l) (omega arith)
              | inr l ↦ rw (lt-ltb m t l) (one_if_le (ltb (m + c) (suc t)))
            ]

    -- document 01's counts of a board, link by link; at t or before is before t + 1
    pub sent_is : (t i : ℕ) → i < r.n → sent_before r σ i t ≡ gone σ t 0 i + gone σ t 1 (prev r.n i)
    sent_is t i h = sent_if r σ v.allowed i h (λ s. ltb s.start t)

    pub received_is : (t i : ℕ) → i < r.n → received_by r σ i t ≡ come σ (suc t) 0 (prev r.n i) + come σ (suc t) 1 i
    received_is t i h =
        total_eq _ _ σ
        (each_all (λ s. ap (λ (b : Bool). one_if (both (eqb (receiver r s) i) b)) (leb_iff (ends r s) t (suc (ends r s)) (suc t) (λ l. omega arith) (λ l. omega arith))) σ)
        ∙ received_if r σ v.allowed i h (λ s. ltb (ends r s) (suc t))

    -- what a board has sent it had, or had got before
    pub board_held : (t i : ℕ) → i < r.n → gone σ t 0 i + gone σ t 1 (prev r.n i) ≤ r.load i + (come σ t 0 (prev r.n i) + come σ t 1 i)
    board_held zero i h = omega (arith, count_none (along 0 i) (λ s. s.start) σ, count_none (along 1 (prev r.n i)) (λ s. s.start) σ)
    board_held (suc t) i h = omega (arith, never_over r ok σ v i t, sent_is (suc t) i h, received_is t i h)

    -- of the sends of one link in one direction one at most has started and not ended
    module _ (t w l : ℕ) where
      -- a send of link l in direction w that started before t and did not end before t
      abbrev between : Send → Bool
      between s = both (along w l s) (both (ltb s.start t) (leb t (ends r s)))

      record Between (s : Send) : Type 0 where
        pub direction : s.direction ≡ w
        pub link : s.link ≡ l
        pub started : s.start < t
        pub not_ended : t ≤ ends r s

      between_is : (s : Send) → between s ≡ true → Between s
      between_is s e =
          let (o, b) = both_true (along w l s) _ e in
          let (x, y) = both_true (eqb s.direction w) (eqb s.link l) o in
          let (p, q) = both_true (ltb s.start t) (leb t (ends r s)) b in
          record {
            direction = eqb-true s.direction w x;
            link = eqb-true s.link l y;
            started = ltb-true s.start t p;
            not_ended = leb-true t (ends r s) q;
          }

      one_between : count between σ * 1 ≤ 1
      one_between =
          packed between (λ s. 0) (λ s. 1) 1 1 σ
          (two_map (λ s u a b h ps pu.
          let x = between_is s ps in
          let y = between_is u pu in
          let e : sender r s ≡ sender r u = rw (x.direction, x.link, y.direction, y.link) in
          absurd (elim (h e) [ inl k ↦ omega arith | inr k ↦ omega arith ]))
          σ v.allowed v.sends)
          (each_all (λ s e. omega arith) σ)

      at_most_one : gone σ t w l ≤ come σ t w l + 1
      at_most_one =
          omega (
            arith,
            one_between,
            total_add (λ s. one_if (both (along w l s) (ltb (ends r s) t))) (λ s. one_if (between s)) σ,
            total_le (λ s. one_if (both (along w l s) (ltb s.start t)))
                (λ s. one_if (both (along w l s) (ltb (ends r s) t)) + one_if (between s)) σ
                (each_all (λ s. at (along w l s) s.start (ends r s)) σ),
          )
        where
          at : (o : Bool) (m e : ℕ) → one_if (both o (ltb m t)) ≤ one_if (both o (ltb e t)) + one_if (both o (both (ltb m t) (leb t e)))
          at false m e = omega arith
          at true m e =
              elim (le_lt t e) [
                | inl k ↦ rw (le-leb t e k) (go (ltb m t))
                | inr k ↦ rw (lt-ltb e t k) (omega (arith, one_if_le (ltb m t)))
              ]
            where
              go : (x : Bool) → one_if x ≤ one_if (ltb e t) + one_if (both x true)
              go true = omega arith
              go false = omega arith

    module _ (dir : ℕ → ℕ) (goes : Each (λ s. s.direction ≡ dir s.link) σ) where
      unused : (w l : ℕ) → (dir l ≡ w → ⊥) → (q : Send → Bool) → count (λ s. both (along w l s) (q s)) σ ≡ 0
      unused w l ne q = total_zero _ σ (each_map (λ s e. at s e (eqb s.direction w) refl (eqb s.link l) refl) σ goes)
        where
          at : (s : Send) → s.direction ≡ dir s.link → (x : Bool) → eqb s.direction w ≡ x → (y : Bool) → eqb s.link l ≡ y → one_if (both (both x y) (q s)) ≡ 0
          at s e true p true q₁ = absurd (ne (ap dir (sym (eqb-true s.link l q₁)) ∙ (sym e ∙ eqb-true s.direction w p)))
          at s e true p false q₁ = refl
          at s e false p y q₁ = refl

      -- the books are kept at every moment of a tick
      pub books : (a b : ℕ → ℕ → ℕ) (t : ℕ) → ((w l : ℕ) → a w l ≤ gone σ t w l) → ((w l : ℕ) → come σ t w l ≤ b w l) → ((w l : ℕ) → b w l ≤ a w l)
          → Books σ dir a b
      books a b t p q o = record {
        few = λ w l. omega (arith, p w l, count_few ok σ (λ s. both (along w l s) (ltb s.start t)));
        ended = o;
        alone = λ w l. omega (arith, p w l, q w l, at_most_one t w l);
        idle = λ w l ne. omega (arith, p w l, unused w l ne (λ s. ltb s.start t));
        held = λ i h. omega (arith, board_held t i h, p 0 i, p 1 (prev r.n i), q 0 (prev r.n i), q 1 i);
      }
