-- The ring read as one round of columns, board 0, link 0, board 1 and so on: a send that starts and a send that ends move one cut between two
-- neighbours by one column, and nothing else.
use mathlib.Core.Path.{◌≡◌, sym, ap, ◌∙◌}
use mathlib.Core.List.{List, [], ◌∷◌, ◌++◌}
use Prim.Native.Nat.{ℕ, zero, suc, ◌+◌, ◌-◌, ◌%◌, ◌<◌}
use native.Mathlib.Nat.{add-mod_right}
use native.Mathlib.Omega.{arith}
use lib.ListN.{length, take, drop}
use borrow.Author.Tests.{eq-eqb, ne_eqb}
use Rattle.ring.specs.Lists.{joined}
use Rattle.ring.specs.Boards.{Ring, next, prev}
use Rattle.ring.specs.Schedule.{Send}
use Rattle.ring.specs.Columns.{Places, put, departs, arrives, N, stretch}
use Rattle.ring.proofs.Neighbours.{next_below, prev_next, next_prev}
use Rattle.ring.proofs.ColumnsStretch.{put_case, up_to_last, up_to_init, stretch_front, stretch_mod, stretch_join}

put_at : {A : Type 0} (g : ℕ → A) (i j : ℕ) (x : A) → j ≡ i → put g i x j ≡ x
put_at g i j x e = rw (eq-eqb j i e)

put_off : {A : Type 0} (g : ℕ → A) (i j : ℕ) (x : A) → (j ≡ i → ⊥) → put g i x j ≡ g j
put_off g i j x ne = rw (ne_eqb j i ne)

-- a list that is a stretch loses its last, or its first
module _ (m : ℕ) where
  last_goes : (p k : ℕ) (xs : List ℕ) → xs ≡ stretch m p (suc k) → take (length xs - 1) xs ≡ stretch m p k
  last_goes p k xs e = rw e (up_to_init (λ x. (p + x) % m) k)

  last_is : (p k q : ℕ) (xs : List ℕ) → xs ≡ stretch m p (suc k) → (p + k) % m ≡ q % m → drop (length xs - 1) xs ≡ stretch m q 1
  unfolding joined
  last_is p k q xs e g =
      ap (λ (l : List ℕ). drop (length l - 1) l) e ∙ (up_to_last (λ x. (p + x) % m) k ∙ (ap (λ (z : ℕ). z ∷ []) g ∙ sym (stretch_front m q 0)))

  first_goes : (p k : ℕ) (xs : List ℕ) → xs ≡ stretch m p (suc k) → drop 1 xs ≡ stretch m (suc p) k
  first_goes p k xs e = ap (λ (l : List ℕ). drop 1 l) (e ∙ stretch_front m p k)

  first_is : (p k : ℕ) (xs : List ℕ) → xs ≡ stretch m p (suc k) → take 1 xs ≡ stretch m p 1
  unfolding joined
  first_is p k xs e = ap (λ (l : List ℕ). take 1 l) (e ∙ stretch_front m p k) ∙ sym (stretch_front m p 0)

  -- two that meet are one
  pub meet : (p j q k n : ℕ) (xs ys : List ℕ) → xs ≡ stretch m p j → ys ≡ stretch m q k → (p + j) % m ≡ q % m → j + k ≡ n → xs ++ ys ≡ stretch m p n
  meet p j q k n xs ys e f g s =
      (λ t. e t ++ f t)
      ∙ (ap (λ (l : List ℕ). stretch m p j ++ l) (stretch_mod m q (p + j) k (sym g)) ∙ (sym (stretch_join m p j k) ∙ ap (stretch m p) s))

  -- no column
  none : (p k : ℕ) → k ≡ 0 → [] ≡ stretch m p k
  unfolding joined
  none p k e = rw e

module _ (r : Ring) where
  -- once round more for board 0, whose link before is the last
  abbrev pub round : ℕ → ℕ
  round zero = N r
  round (suc i) = 0

  -- the end of board 0, or of another, is the same column with the round and without
  pub same_column : (i x : ℕ) → (x + round i) % N r ≡ x % N r
  same_column zero x = add-mod_right x (N r)
  same_column (suc i) x = ap (λ (z : ℕ). z % N r) (omega arith)

  -- link l carries columns in the direction `dir l` only
  module _ (dir : ℕ → ℕ) where
    -- link l has the columns from A l to B l, and board i those from the end of the link before it to A i; the other way no link has any
    pub record Stands (A B : ℕ → ℕ) (c : Places) : Type 0 where
      pub boards : (i : ℕ) → i < r.n → (k : ℕ) → B (prev r.n i) + k ≡ A i + round i → c.board i ≡ stretch (N r) (B (prev r.n i)) k
      pub links : (l : ℕ) → l < r.n → (k : ℕ) → A l + k ≡ B l → c.link l (dir l) ≡ stretch (N r) (A l) k
      pub others : (l : ℕ) → l < r.n → (w : ℕ) → (w ≡ dir l → ⊥) → c.link l w ≡ []

    -- the same cuts
    pub same_cuts : {A B A' B' : ℕ → ℕ} {c : Places} → ((j : ℕ) → A' j ≡ A j) → ((j : ℕ) → B' j ≡ B j) → Stands A B c → Stands A' B' c
    same_cuts a b s = record {
      boards = λ i h k e. rw (b (prev r.n i)) (s.boards i h k (omega (arith, a i, b (prev r.n i))));
      links = λ l h k e. rw (a l) (s.links l h k (omega (arith, a l, b l)));
      others = s.others;
    }

    module _ (A B A' B' : ℕ → ℕ) (c : Places) (s : Stands A B c) (l : ℕ) (h : l < r.n) (w : ℕ) (d : dir l ≡ w) (xs ys : List ℕ) where
      none_other : (j : ℕ) → j < r.n → (u : ℕ) → (u ≡ dir j → ⊥) → put c.link l (put (c.link l) w ys) j u ≡ []
      none_other =
          put_case (λ j zs. j < r.n → (u : ℕ) → (u ≡ dir j → ⊥) → zs u ≡ []) c.link l (put (c.link l) w ys)
          (λ g u ne. put_off (c.link l) w u ys (λ e. ne (e ∙ sym d)) ∙ s.others l g u ne)
          (λ j ne g u nu. s.others j g u nu)

      -- the cut between board l and link l
      near : ((j : ℕ) → (j ≡ l → ⊥) → A' j ≡ A j) → ((j : ℕ) → B' j ≡ B j)
          → ((k : ℕ) → B (prev r.n l) + k ≡ A' l + round l → xs ≡ stretch (N r) (B (prev r.n l)) k)
          → ((k : ℕ) → A' l + k ≡ B l → ys ≡ stretch (N r) (A' l) k)
          → Stands A' B' (record { board = put c.board l xs; link = put c.link l (put (c.link l) w ys) })
      near a b p q = record {
        boards =
            put_case (λ i zs. i < r.n → (k : ℕ) → B' (prev r.n i) + k ≡ A' i + round i → zs ≡ stretch (N r) (B' (prev r.n i)) k) c.board l xs
            (λ g k e. rw (b (prev r.n l)) (p k (omega (arith, b (prev r.n l)))))
            (λ i ne g k e. rw (b (prev r.n i)) (s.boards i g k (omega (arith, a i ne, b (prev r.n i)))));
        links =
            put_case (λ j zs. j < r.n → (k : ℕ) → A' j + k ≡ B' j → zs (dir j) ≡ stretch (N r) (A' j) k) c.link l (put (c.link l) w ys)
            (λ g k e. put_at (c.link l) w (dir l) ys d ∙ q k (omega (arith, b l)))
            (λ j ne g k e. rw (a j ne) (s.links j g k (omega (arith, a j ne, b j))));
        others = none_other;
      }

      -- the cut between link l and the next board
      far : ((j : ℕ) → A' j ≡ A j) → ((j : ℕ) → (j ≡ l → ⊥) → B' j ≡ B j)
          → ((k : ℕ) → B' l + k ≡ A (next r.n l) + round (next r.n l) → xs ≡ stretch (N r) (B' l) k)
          → ((k : ℕ) → A l + k ≡ B' l → ys ≡ stretch (N r) (A l) k)
          → Stands A' B' (record { board = put c.board (next r.n l) xs; link = put c.link l (put (c.link l) w ys) })
      far a b p q = record {
        boards =
            put_case (λ i zs. i < r.n → (k : ℕ) → B' (prev r.n i) + k ≡ A' i + round i → zs ≡ stretch (N r) (B' (prev r.n i)) k) c.board (next r.n l) xs
            (λ g k e. rw (prev_next r.n l h) (p k (omega (arith, a (next r.n l), ap B' (prev_next r.n l h)))))
            (λ i ne g k e.
            let o : B' (prev r.n i) ≡ B (prev r.n i) = b (prev r.n i) (λ z. ne (sym (next_prev r.n i g) ∙ ap (next r.n) z)) in
            rw o (s.boards i g k (omega (arith, a i))));
        links =
            put_case (λ j zs. j < r.n → (k : ℕ) → A' j + k ≡ B' j → zs (dir j) ≡ stretch (N r) (A' j) k) c.link l (put (c.link l) w ys)
            (λ g k e. rw (a l) (put_at (c.link l) w (dir l) ys d ∙ q k (omega (arith, a l))))
            (λ j ne g k e. rw (a j) (s.links j g k (omega (arith, a j, b j ne))));
        others = none_other;
      }

    module _ (A B A' B' : ℕ → ℕ) (c : Places) (s : Send) (st : Stands A B c) (h : s.link < r.n) (k₀ : ℕ) where
      -- what is on the link
      flying : (w : ℕ) → dir s.link ≡ w → (k : ℕ) → A s.link + k ≡ B s.link → c.link s.link w ≡ stretch (N r) (A s.link) k
      flying w d k e = rw d at (st.links s.link h k e)

      -- what is on the board that the link leads to
      ahead : (k : ℕ) → B s.link + k ≡ A (next r.n s.link) + round (next r.n s.link) → c.board (next r.n s.link) ≡ stretch (N r) (B s.link) k
      ahead k e =
          let p = prev_next r.n s.link h in
          rw p at (st.boards (next r.n s.link) (next_below r.n s.link h) k (rw p e))

      pub start_fore : s.direction ≡ 0 → dir s.link ≡ 0 → ((j : ℕ) → (j ≡ s.link → ⊥) → A' j ≡ A j) → ((j : ℕ) → B' j ≡ B j)
          → suc (A' s.link) ≡ A s.link → B (prev r.n s.link) + suc k₀ ≡ A s.link + round s.link → A s.link ≡ B s.link
          → Stands A' B' (departs r s c)
      start_fore z d a b one full free =
          rw z
          (near A B A' B' c st s.link h 0 d _ _ a b
          (λ k e. last_goes (N r) (B (prev r.n s.link)) k (c.board s.link) (st.boards s.link h (suc k) (omega arith)))
          (λ k e.
          last_is (N r) (B (prev r.n s.link)) k₀ (A' s.link) (c.board s.link) (st.boards s.link h (suc k₀) full)
          (ap (λ (x : ℕ). x % N r) {x = B (prev r.n s.link) + k₀} {y = A' s.link + round s.link} (omega arith) ∙ same_column s.link (A' s.link))
          ∙ ap (λ (x : ℕ). stretch (N r) (A' s.link) x) (omega arith)))

      pub start_back : s.direction ≡ 1 → dir s.link ≡ 1 → ((j : ℕ) → A' j ≡ A j) → ((j : ℕ) → (j ≡ s.link → ⊥) → B' j ≡ B j)
          → B' s.link ≡ suc (B s.link) → B s.link + suc k₀ ≡ A (next r.n s.link) + round (next r.n s.link) → A s.link ≡ B s.link
          → Stands A' B' (departs r s c)
      start_back z d a b one full free =
          rw z
          (far A B A' B' c st s.link h 1 d _ _ a b
          (λ k e.
          first_goes (N r) (B s.link) k (c.board (next r.n s.link)) (ahead (suc k) (omega arith))
          ∙ ap (λ (x : ℕ). stretch (N r) x k) (sym one))
          (λ k e.
          first_is (N r) (B s.link) k₀ (c.board (next r.n s.link)) (ahead (suc k₀) full)
          ∙ ((λ t. stretch (N r) (sym free t) 1) ∙ ap (λ (x : ℕ). stretch (N r) (A s.link) x) (omega arith))))

      pub arrive_fore : s.direction ≡ 0 → dir s.link ≡ 0 → ((j : ℕ) → A' j ≡ A j) → ((j : ℕ) → (j ≡ s.link → ⊥) → B' j ≡ B j)
          → suc (B' s.link) ≡ B s.link → A s.link + 1 ≡ B s.link → B s.link + k₀ ≡ A (next r.n s.link) + round (next r.n s.link)
          → Stands A' B' (arrives r s c)
      arrive_fore z d a b one full room =
          rw z
          (far A B A' B' c st s.link h 0 d _ _ a b
          (λ k e.
          let back : A s.link ≡ B' s.link = omega arith in
          meet (N r) (B' s.link) 1 (B s.link) k₀ k (c.link s.link 0) (c.board (next r.n s.link))
          (flying 0 d 1 full ∙ ap (λ (x : ℕ). stretch (N r) x 1) back) (ahead k₀ room) (ap (λ (x : ℕ). x % N r) (omega arith)) (omega arith))
          (λ k e. none (N r) (A s.link) k (omega arith)))

      pub arrive_back : s.direction ≡ 1 → dir s.link ≡ 1 → ((j : ℕ) → (j ≡ s.link → ⊥) → A' j ≡ A j) → ((j : ℕ) → B' j ≡ B j)
          → A' s.link ≡ suc (A s.link) → A s.link + 1 ≡ B s.link → B (prev r.n s.link) + k₀ ≡ A s.link + round s.link
          → Stands A' B' (arrives r s c)
      arrive_back z d a b one full room =
          rw z
          (near A B A' B' c st s.link h 1 d _ _ a b
          (λ k e.
          meet (N r) (B (prev r.n s.link)) k₀ (A s.link) 1 k (c.board s.link) (c.link s.link 1) (st.boards s.link h k₀ room) (flying 1 d 1 full)
          (ap (λ (x : ℕ). x % N r) room ∙ same_column s.link (A s.link)) (omega arith))
          (λ k e. none (N r) (A' s.link) k (omega arith)))
