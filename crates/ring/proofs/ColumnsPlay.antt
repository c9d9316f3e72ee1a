-- Playing a valid schedule whose links are each used one way: after every tick the boards and the links stand round the ring as the books say,
-- and at every tick each board's list is as long as its load.
use mathlib.Core.Path.{◌≡◌, refl, sym, ap, subst, ◌∙◌}
use mathlib.Core.List.{List, [], ◌∷◌, ◌++◌, append-nil}
use mathlib.Core.Bool.{Bool, true, false}
use mathlib.Core.Logic.{◌⊎◌, inl, inr}
use Prim.Native.Nat.{ℕ, zero, suc, ◌+◌, ◌-◌, ◌%◌, ◌≤◌, ◌<◌}
use native.Mathlib.Nat.{add-mul-mod_self_right}
use native.Mathlib.Omega.{arith}
use lib.Dec.{eqb}
use lib.ListN.{length}
use lib.Seq.{append_snoc}
use borrow.Author.Tests.{eq-eqb, ne_eqb}
use Rattle.ring.specs.Numbers.{pick, both, one_if, sum}
use Rattle.ring.specs.Lists.{Each, total, count, joined, up_to}
use Rattle.ring.specs.Boards.{Ring, Accepted, TwoWay, next, prev}
use Rattle.ring.specs.Schedule.{Send, sender, ends, load_at, MayStart, Allowed, Valid}
use Rattle.ring.specs.Columns.{Places, for_each, departs, arrives, arrived, departed, tick, loads_before, N, at_first, after_ticks, at_tick}
use Rattle.ring.proofs.Tests.{both_with, both_without}
use Rattle.ring.proofs.Sums.{sum_mono}
use Rattle.ring.proofs.Totals.{each_map₂, count_step, count_none, count_part, count_more}
use Rattle.ring.proofs.Neighbours.{next_below, prev_next}
use Rattle.ring.proofs.Flow.{along}
use Rattle.ring.proofs.Conserve.{of_board_counted}
use Rattle.ring.proofs.ColumnsStretch.{up_to_length, stretch_mod, stretch_plain}
use Rattle.ring.proofs.ColumnsMove.{round, same_column, Stands, same_cuts, start_fore, start_back, arrive_fore, arrive_back}
use Rattle.ring.proofs.ColumnsCounts.{gone, come, lead, Books, books, ended_started, sent_is, received_is}

-- what holds as each send of a list has its turn holds when all had
module _ (σ : List Send) (p : Send → Bool) (g : Send → Places → Places) (Q : Send → Type 0) (I : List Send → Places → Type 0)
    (step : (done : List Send) (s : Send) (rest : List Send) (c : Places) → done ++ s ∷ rest ≡ σ → Q s → I done c → I (done ++ s ∷ []) (pick (p s) (g s c) c))
  where
    turns : (rest done : List Send) (c : Places) → done ++ rest ≡ σ → Each Q rest → I done c → I σ (for_each p g rest c)
    unfolding for_each
    turns [] done c e q i = subst (λ xs. I xs c) (sym (append-nil done) ∙ e) i
    turns (s ∷ rest) done c e q i = turns rest (done ++ s ∷ []) _ (append_snoc done s rest ∙ e) q.1 (step done s rest c e q.0 i)

-- which of a link's sends a send is
here : (s : Send) (w : ℕ) → s.direction ≡ w → one_if (along w s.link s) ≡ 1
here s w e = rw (eq-eqb s.direction w e, eq-eqb s.link s.link refl)

elsewhere : (s : Send) (w j : ℕ) → (j ≡ s.link → ⊥) → one_if (along w j s) ≡ 0
elsewhere s w j ne = ap one_if (both_without (eqb s.direction w) (eqb s.link j) (ne_eqb s.link j (λ e. ne (sym e))))

otherwise : (s : Send) (w j : ℕ) → (s.direction ≡ w → ⊥) → one_if (along w j s) ≡ 0
otherwise s w j ne = rw (ne_eqb s.direction w ne)

module _ (r : Ring) where
  -- a board lies between the link before it and its own
  pub board_ends : (i : ℕ) → i < r.n → loads_before r (suc i) + round r i ≡ loads_before r (suc (prev r.n i)) + r.load i
  unfolding sum
  board_ends zero h = let e : suc (r.n - 1) ≡ r.n = omega arith in omega (arith, ap (sum r.load) e)
  board_ends (suc i) h = omega arith

  pub link_ends : (i : ℕ) → i < r.n → loads_before r (suc (prev r.n i)) ≡ loads_before r i + round r i
  unfolding sum
  link_ends i h = omega (arith, board_ends i h)

module _ (r : Ring) (σ : List Send) where
  -- the cut after board l, and the cut before the next board, where a started and b ended
  abbrev pub near_cut : (ℕ → ℕ → ℕ) → (ℕ → ℕ → ℕ) → ℕ → ℕ
  near_cut a b l = lead r σ + loads_before r (suc l) + b 1 l - a 0 l

  abbrev pub far_cut : (ℕ → ℕ → ℕ) → (ℕ → ℕ → ℕ) → ℕ → ℕ
  far_cut a b l = lead r σ + loads_before r (suc l) + a 1 l - b 0 l

module _ (r : Ring) (σ : List Send) (dir : ℕ → ℕ) where
  abbrev pub StandsAt : (ℕ → ℕ → ℕ) → (ℕ → ℕ → ℕ) → Places → Type 0
  StandsAt a b c = Stands r dir (near_cut r σ a b) (far_cut r σ a b) c

  module _ (a b : ℕ → ℕ → ℕ) (k : Books r σ dir a b) (c : Places) (s : Send) (h : s.link < r.n) (w : s.direction ≡ dir s.link) (st : StandsAt a b c) where
    -- one send starts
    module _ (a' : ℕ → ℕ → ℕ) (k' : Books r σ dir a' b) (more : (w l : ℕ) → a' w l ≡ a w l + one_if (along w l s)) where
      start_one : (s.direction ≡ 0) ⊎ ((s.direction ≡ 1) × TwoWay r.kind) → StandsAt a' b (departs r s c)
      start_one (inl z) =
          let l : ℕ = s.link in
          let q : ℕ = prev r.n l in
          let up = more 0 s.link in
          let on = here s 0 z in
          let none = k.idle 1 s.link (λ e. omega (arith, w)) in
          start_fore r dir (near_cut r σ a b) (far_cut r σ a b) (near_cut r σ a' b) (far_cut r σ a' b) c s st h
          (r.load l + (b 0 q + b 1 l) - (a' 0 l + a' 1 q)) z (sym w ∙ z)
          (λ j ne. omega (arith, more 0 j, elsewhere s 0 j ne))
          (λ j. omega (arith, more 1 j, otherwise s 1 j (λ e. omega arith)))
          (omega (arith, k'.few 0 l))
          (omega (arith, k'.held l h, k'.few 0 l, board_ends r l h, more 1 q, otherwise s 1 q (λ e. omega arith), k.ended 0 q, k.few 0 q))
          (omega (arith, k.ended 0 l, k.ended 1 l, k'.alone 0 l))
      start_one (inr (z, three)) =
          let l : ℕ = s.link in
          let m : ℕ = next r.n l in
          let hm = next_below r.n s.link h in
          let p : prev r.n m ≡ l = prev_next r.n s.link h in
          let up = more 1 s.link in
          let on = here s 1 z in
          let none = k.idle 0 s.link (λ e. omega (arith, w)) in
          start_back r dir (near_cut r σ a b) (far_cut r σ a b) (near_cut r σ a' b) (far_cut r σ a' b) c s st h
          (r.load m + (b 0 l + b 1 m) - (a' 0 m + a' 1 l)) z (sym w ∙ z)
          (λ j. omega (arith, more 0 j, otherwise s 0 j (λ e. omega arith)))
          (λ j ne. omega (arith, more 1 j, elsewhere s 1 j ne))
          (omega (arith, k.ended 0 l))
          (omega (arith, rw p at (k'.held m hm), rw p at (board_ends r m hm), k'.few 0 m, more 0 m, otherwise s 0 m (λ e. omega arith), k.ended 0 l))
          (omega (arith, k.ended 0 l, k.ended 1 l, k'.alone 1 l))

    -- one send ends
    module _ (b' : ℕ → ℕ → ℕ) (k' : Books r σ dir a b') (more : (w l : ℕ) → b' w l ≡ b w l + one_if (along w l s)) where
      arrive_one : (s.direction ≡ 0) ⊎ ((s.direction ≡ 1) × TwoWay r.kind) → StandsAt a b' (arrives r s c)
      arrive_one (inl z) =
          let l : ℕ = s.link in
          let m : ℕ = next r.n l in
          let hm = next_below r.n s.link h in
          let p : prev r.n m ≡ l = prev_next r.n s.link h in
          let up = more 0 s.link in
          let on = here s 0 z in
          let none = k.idle 1 s.link (λ e. omega (arith, w)) in
          arrive_fore r dir (near_cut r σ a b) (far_cut r σ a b) (near_cut r σ a b') (far_cut r σ a b') c s st h
          (r.load m + (b 0 l + b 1 m) - (a 0 m + a 1 l)) z (sym w ∙ z)
          (λ j. omega (arith, more 1 j, otherwise s 1 j (λ e. omega arith)))
          (λ j ne. omega (arith, more 0 j, elsewhere s 0 j ne))
          (omega (arith, k'.ended 0 l, k.few 0 l))
          (omega (arith, k'.ended 0 l, k.ended 1 l, k.few 0 l, k.alone 0 l))
          (omega (arith, rw p at (k.held m hm), rw p at (board_ends r m hm), k.few 0 m, k.ended 0 l, k.few 0 l))
      arrive_one (inr (z, three)) =
          let l : ℕ = s.link in
          let q : ℕ = prev r.n l in
          let up = more 1 s.link in
          let on = here s 1 z in
          let none = k.idle 0 s.link (λ e. omega (arith, w)) in
          arrive_back r dir (near_cut r σ a b) (far_cut r σ a b) (near_cut r σ a b') (far_cut r σ a b') c s st h
          (r.load l + (b 0 q + b 1 l) - (a 0 l + a 1 q)) z (sym w ∙ z)
          (λ j ne. omega (arith, more 1 j, elsewhere s 1 j ne))
          (λ j. omega (arith, more 0 j, otherwise s 0 j (λ e. omega arith)))
          (omega arith)
          (omega (arith, k'.ended 1 l, k.ended 0 l, k.alone 1 l))
          (omega (arith, k.held l h, board_ends r l h, k.ended 0 q, k.few 0 q))

-- one more of a list, at its tick or not
module _ (p : Send → Bool) (when : Send → ℕ) (t : ℕ) (done : List Send) (s : Send) where
  one_now : eqb (when s) t ≡ true → count (λ x. both (p x) (eqb (when x) t)) (done ++ s ∷ []) ≡ count (λ x. both (p x) (eqb (when x) t)) done + one_if (p s)
  one_now e = omega (arith, count_more (λ x. both (p x) (eqb (when x) t)) done s, ap one_if (both_with (p s) (eqb (when s) t) e))

  not_now : eqb (when s) t ≡ false → count (λ x. both (p x) (eqb (when x) t)) (done ++ s ∷ []) ≡ count (λ x. both (p x) (eqb (when x) t)) done
  not_now e = omega (arith, count_more (λ x. both (p x) (eqb (when x) t)) done s, ap one_if (both_without (p s) (eqb (when s) t) e))

module _ (r : Ring) (ok : Accepted r) (σ : List Send) (v : Valid r σ) (dir : ℕ → ℕ) (goes : Each (λ s. s.direction ≡ dir s.link) σ) where
  -- a send of the schedule
  abbrev Sent : Send → Type 0
  Sent s = Allowed r s × (s.direction ≡ dir s.link)

  each_sent : Each Sent σ
  each_sent = each_map₂ (λ s a e. (a, e)) σ v.allowed goes

  module _ (t : ℕ) where
    -- those that start at t, of a part of the schedule, and those that end
    abbrev start_now : List Send → ℕ → ℕ → ℕ
    start_now done w l = count (λ s. both (along w l s) (eqb s.start t)) done

    abbrev end_now : List Send → ℕ → ℕ → ℕ
    end_now done w l = count (λ s. both (along w l s) (eqb (ends r s) t)) done

    -- in the midst of the arrivals, and in the midst of the sends
    abbrev came_by : List Send → ℕ → ℕ → ℕ
    came_by done w l = come r σ t w l + end_now done w l

    abbrev went_by : List Send → ℕ → ℕ → ℕ
    went_by done w l = gone r σ t w l + start_now done w l

    arriving : (done rest : List Send) → done ++ rest ≡ σ → Books r σ dir (gone r σ t) (came_by done)
    arriving done rest e =
        books r ok σ v dir goes (gone r σ t) (came_by done) t (λ w l. omega arith) (λ w l. omega arith)
        (λ w l.
        omega (
          arith,
          count_part (λ s. both (along w l s) (eqb (ends r s) t)) done rest σ e,
          count_step (along w l) (ends r) t σ,
          ended_started r ok σ v t w l,
        ))

    sending : (done rest : List Send) → done ++ rest ≡ σ → Books r σ dir (went_by done) (come r σ (suc t))
    sending done rest e =
        books r ok σ v dir goes (went_by done) (come r σ (suc t)) (suc t)
        (λ w l. omega (arith, count_part (λ s. both (along w l s) (eqb s.start t)) done rest σ e, count_step (along w l) (λ s. s.start) t σ))
        (λ w l. omega arith)
        (λ w l. omega (arith, ended_started r ok σ v t w l))

    arrive_turn : (done : List Send) (s : Send) (rest : List Send) (c : Places) → done ++ s ∷ rest ≡ σ → Sent s → StandsAt r σ dir (gone r σ t) (came_by done) c
        → StandsAt r σ dir (gone r σ t) (came_by (done ++ s ∷ [])) (pick (eqb (ends r s) t) (arrives r s c) c)
    arrive_turn done s rest c e q st = go (eqb (ends r s) t) refl
      where
        go : (x : Bool) → eqb (ends r s) t ≡ x → StandsAt r σ dir (gone r σ t) (came_by (done ++ s ∷ [])) (pick x (arrives r s c) c)
        go true y =
            arrive_one r σ dir (gone r σ t) (came_by done) (arriving done (s ∷ rest) e) c s q.0.0 q.1 st (came_by (done ++ s ∷ []))
            (arriving (done ++ s ∷ []) rest (append_snoc done s rest ∙ e))
            (λ w l. omega (arith, one_now (along w l) (ends r) t done s y)) q.0.1
        go false y =
            same_cuts r dir
            (λ j. omega (arith, not_now (along 1 j) (ends r) t done s y))
            (λ j. omega (arith, not_now (along 0 j) (ends r) t done s y)) st

    start_turn : (done : List Send) (s : Send) (rest : List Send) (c : Places) → done ++ s ∷ rest ≡ σ → Sent s
        → StandsAt r σ dir (went_by done) (come r σ (suc t)) c
        → StandsAt r σ dir (went_by (done ++ s ∷ [])) (come r σ (suc t)) (pick (eqb s.start t) (departs r s c) c)
    start_turn done s rest c e q st = go (eqb s.start t) refl
      where
        go : (x : Bool) → eqb s.start t ≡ x → StandsAt r σ dir (went_by (done ++ s ∷ [])) (come r σ (suc t)) (pick x (departs r s c) c)
        go true y =
            start_one r σ dir (went_by done) (come r σ (suc t)) (sending done (s ∷ rest) e) c s q.0.0 q.1 st (went_by (done ++ s ∷ []))
            (sending (done ++ s ∷ []) rest (append_snoc done s rest ∙ e))
            (λ w l. omega (arith, one_now (along w l) (λ x. x.start) t done s y)) q.0.1
        go false y =
            same_cuts r dir
            (λ j. omega (arith, not_now (along 0 j) (λ x. x.start) t done s y))
            (λ j. omega (arith, not_now (along 1 j) (λ x. x.start) t done s y)) st

    -- when the arrivals have come, and when the sends have gone too
    arrived_stands : (c : Places) → StandsAt r σ dir (gone r σ t) (come r σ t) c → StandsAt r σ dir (gone r σ t) (come r σ (suc t)) (arrived r σ t c)
    unfolding total
    arrived_stands c st =
        same_cuts r dir (λ j. omega (arith, count_step (along 1 j) (ends r) t σ)) (λ j. omega (arith, count_step (along 0 j) (ends r) t σ))
        (turns σ (λ s. eqb (ends r s) t) (arrives r) Sent (λ done x. StandsAt r σ dir (gone r σ t) (came_by done) x) arrive_turn σ [] c refl each_sent
        (same_cuts r dir (λ j. omega arith) (λ j. omega arith) st))

    departed_stands : (c : Places) → StandsAt r σ dir (gone r σ t) (come r σ (suc t)) c
        → StandsAt r σ dir (gone r σ (suc t)) (come r σ (suc t)) (departed r σ t c)
    unfolding total
    departed_stands c st =
        same_cuts r dir (λ j. omega (arith, count_step (along 0 j) (λ s. s.start) t σ)) (λ j. omega (arith, count_step (along 1 j) (λ s. s.start) t σ))
        (turns σ (λ s. eqb s.start t) (departs r) Sent (λ done x. StandsAt r σ dir (went_by done) (come r σ (suc t)) x) start_turn σ [] c refl each_sent
        (same_cuts r dir (λ j. omega arith) (λ j. omega arith) st))

  -- before the first tick
  first_stands : StandsAt r σ dir (gone r σ 0) (come r σ 0) (at_first r)
  unfolding sum joined
  first_stands = record {
    boards = λ i h k e.
        let a = count_none (along 1 (prev r.n i)) (λ s. s.start) σ in
        let b = count_none (along 0 (prev r.n i)) (ends r) σ in
        let c = count_none (along 0 i) (λ s. s.start) σ in
        let d = count_none (along 1 i) (ends r) σ in
        let p : far_cut r σ (gone r σ 0) (come r σ 0) (prev r.n i) ≡ loads_before r i + round r i + lead r σ = omega (arith, link_ends r i h) in
        let q : k ≡ r.load i = omega (arith, board_ends r i h) in
        sym (
        (stretch_mod (N r) _ (loads_before r i) k
        (ap (λ (z : ℕ). z % N r) p
        ∙ (add-mul-mod_self_right (loads_before r i + round r i) (total (λ s. 1) σ) (N r) ∙ same_column r i (loads_before r i)))
        ∙ (stretch_plain (N r) (loads_before r i) k (λ x l. omega (arith, sum_mono r.load (suc i) r.n h))
        ∙ ap (up_to (λ x. loads_before r i + x)) q))
        );
    links = λ l h k e.
        let a = count_none (along 1 l) (λ s. s.start) σ in
        let b = count_none (along 0 l) (ends r) σ in
        let c = count_none (along 0 l) (λ s. s.start) σ in
        let d = count_none (along 1 l) (ends r) σ in
        let q : k ≡ 0 = omega arith in
        rw q;
    others = λ l h w ne. refl;
  }

  pub play_stands : (t : ℕ) → StandsAt r σ dir (gone r σ t) (come r σ t) (after_ticks r σ t)
  unfolding after_ticks tick
  play_stands zero = first_stands
  play_stands (suc t) = departed_stands t _ (arrived_stands t _ (play_stands t))

  -- the list of each board at tick t is as long as its load then
  pub play_loaded : (i t : ℕ) → i < r.n → length ((at_tick r σ t).board i) ≡ load_at r σ i t
  unfolding load_at total
  play_loaded i t h =
      let q : ℕ = prev r.n i in
      let k = sending t [] σ refl in
      ap length
      ((arrived_stands t _ (play_stands t)).boards i h (load_at r σ i t)
      (omega (arith, k.held i h, k.few 0 i, k.few 0 q, k.ended 0 q, sent_is r ok σ v t i h, received_is r ok σ v t i h, board_ends r i h)))
      ∙ up_to_length _ (load_at r σ i t)

  -- so no send finds an empty board
  pub play_none_empty : Each (λ s. 1 ≤ length ((at_tick r σ s.start).board (sender r s))) σ
  play_none_empty =
      each_map₂ (λ s a (l : MayStart r σ (sender r s) s.start). rw (← (play_loaded (sender r s) s.start (of_board_counted r s a (eqb s.direction 0)).0)) at l)
      σ v.allowed v.held
