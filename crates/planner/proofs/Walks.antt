-- A walk over the levels of a ring's links: plain, numbered, and numbered beside the costs. Assumes nothing.
use Rattle.std.proofs.Common.{◌≡◌, ap, ◌∙◌, List, ℕ, ◌+◌, ◌≤◌, ◌<◌, zero-add, arith, length, Option, Some, None}
use Rattle.std.specs.List.{zip, enumerate_from}
use Rattle.std.specs.Iterator.{Yields, YieldsFirst}
use Rattle.std.specs.Slice.Iter.{iter_rest}
use Rattle.std.specs.declared.slice.Iter.{Iter}
use Rattle.std.specs.declared.iter.Zip.{Zip}
use Rattle.std.specs.declared.iter.Enumerate.{Enumerate}
use Rattle.std.specs.Iterator.Adapters.{zip_first, zip_second, enumerate_source, enumerate_count, enumerate_steps}
use Rattle.std.proofs.lemmas.Grind.{get_or_default_zero}
use Rattle.std.proofs.lemmas.Iterator.{YieldsList, zips, YieldsList-from_zip, YieldsList-from_slice}
use Rattle.std.proofs.iter.Yields.{fronts}
use Rattle.std.specs.Borrow.{Bor}
use Rattle.std.proofs.lemmas.Iterator.Consumers.{YieldsList-from_first, YieldsList-from_enumerate, YieldsList-turn, YieldsList-end}
use Rattle.std.proofs.lemmas.List.FromFn.{length-enumerate_from, get_or-enumerate_from}
use Rattle.std.proofs.lemmas.Slice.Zip.{length-zip, get_or-zip}
use Rattle.ring.specs.Lists.{each, up_to}
use Rattle.planner.specs.declared.levels.Levels.{Levels}
use Rattle.planner.specs.Levels.{levels_from}
use Rattle.planner.proofs.Raising.{up_to_long, value_at}

-- a walk over the values up to n: this turn's is the next of them, and at the end all were passed
module _ {S : Type 0} {steps : S → Option ℕ → S → Type 0} {s : S} (g : ℕ → ℕ) (n : ℕ) (road : YieldsList steps (λ x. x) s (up_to g n)) (xs : List ℕ) (t : S) (so : Yields steps s xs t) (r : Option ℕ) (u : S) (step : steps t r u) where
  pub value_turn : (x : ℕ) → r ≡ Some x → (length xs < n) × (x ≡ g (length xs))
  value_turn x is =
      let k = YieldsList-turn road xs t so r u x is step in
      let h : length xs < n = omega (arith, k.0, up_to_long g n) in
      (h, k.1 ∙ value_at g x n (length xs) h)

  pub value_end : r ≡ None → length xs ≡ n
  value_end is = (YieldsList-end road xs t so r u is step).1 ∙ up_to_long g n

-- turn k of such a walk where each value has its number
pub record Turn (g : ℕ → ℕ) (n k number value : ℕ) : Type 0 where
  pub below : k < n
  pub number_is : number ≡ k
  pub value_is : value ≡ g k

module _ {S : Type 0} {steps : S → Option (ℕ × ℕ) → S → Type 0} {s : S} (g : ℕ → ℕ) (n : ℕ) (road : YieldsList steps (λ p. (p.0, p.1)) s (enumerate_from 0 (up_to g n))) (xs : List (ℕ × ℕ)) (t : S) (so : Yields steps s xs t) (r : Option (ℕ × ℕ)) (u : S) (step : steps t r u) where
  pub numbered_turn : (p : ℕ × ℕ) → r ≡ Some p → Turn g n (length xs) p.0 p.1
  numbered_turn p is =
      let k = YieldsList-turn road xs t so r u p is step in
      let h : length xs < n = omega (arith, k.0, length-enumerate_from 0 (up_to g n), up_to_long g n) in
      let e = k.1 ∙ get_or-enumerate_from 0 (up_to g n) (length xs) p (omega (arith, h, up_to_long g n)) in
      record { below = h; number_is = ap (λ (q : ℕ × ℕ). q.0) e ∙ zero-add (length xs); value_is = ap (λ (q : ℕ × ℕ). q.1) e ∙ value_at g p.1 n (length xs) h }

  pub numbered_end : r ≡ None → length xs ≡ n
  numbered_end is = (YieldsList-end road xs t so r u is step).1 ∙ length-enumerate_from 0 (up_to g n) ∙ up_to_long g n

-- the same where each also has an element of a list beside it
pub record PairTurn (g : ℕ → ℕ) (n : ℕ) (ys : List ℕ) (k number value beside : ℕ) : Type 0 where
  pub turn : Turn g n k number value
  pub beside_is : beside ≡ each ys k

module _ {S : Type 0} {steps : S → Option (ℕ × (ℕ × Bor ℕ)) → S → Type 0} {s : S} (g : ℕ → ℕ) (n : ℕ) (ys : List ℕ) (long : n ≤ length ys)
    (road : YieldsList steps (λ p. (p.0, (p.1.0, p.1.1.now))) s (enumerate_from 0 (zip (up_to g n) ys))) (xs : List (ℕ × (ℕ × Bor ℕ))) (t : S) (so : Yields steps s xs t)
    (r : Option (ℕ × (ℕ × Bor ℕ))) (u : S) (step : steps t r u)
  where
    many : length (enumerate_from 0 (zip (up_to g n) ys)) ≡ n
    many = omega (arith, length-enumerate_from 0 (zip (up_to g n) ys), length-zip (up_to g n) ys, up_to_long g n)

    pub paired_turn : (p : ℕ × (ℕ × Bor ℕ)) → r ≡ Some p → PairTurn g n ys (length xs) p.0 p.1.0 p.1.1.now
    paired_turn p is =
        let k = YieldsList-turn road xs t so r u p is step in
        let i : ℕ = length xs in
        let h : i < n = omega (arith, k.0, many) in
        let q : ℕ × (ℕ × ℕ) = (p.0, (p.1.0, p.1.1.now)) in
        let e =
        k.1
        ∙ get_or-enumerate_from 0 (zip (up_to g n) ys) i q (omega (arith, h, many, length-enumerate_from 0 (zip (up_to g n) ys)))
        ∙ ap (λ (x : ℕ × ℕ). (0 + i, x)) (get_or-zip (up_to g n) ys i q.1 (omega (arith, h, up_to_long g n)) (omega arith)) in
        record {
          turn = record { below = h; number_is = ap (λ (x : ℕ × (ℕ × ℕ)). x.0) e ∙ zero-add i; value_is = ap (λ (x : ℕ × (ℕ × ℕ)). x.1.0) e ∙ value_at g p.1.0 n i h };
          beside_is = ap (λ (x : ℕ × (ℕ × ℕ)). x.1.1) e ∙ get_or_default_zero ys i p.1.1.now (omega arith);
        }

    pub paired_end : r ≡ None → length xs ≡ n
    paired_end is = (YieldsList-end road xs t so r u is step).1 ∙ many

-- the levels that are left
abbrev pub left : Levels → List ℕ
left s = levels_from s.level s.surpluses.now

-- a walk over them
pub road : (g : ℕ → ℕ) (n : ℕ) (s t : Levels) → left s ≡ up_to g n → t ≡ s → YieldsList (YieldsFirst left) (λ x. x) t (up_to g n)
road g n s t is same = YieldsList-from_first (λ x. x) left (up_to g n) (ap left same ∙ is)

-- the same, numbered
pub numbered : (g : ℕ → ℕ) (n : ℕ) (s : Levels) (t : Enumerate Levels) → left s ≡ up_to g n → enumerate_source t ≡ s → enumerate_count t ≡ 0
    → YieldsList (enumerate_steps (YieldsFirst left)) (λ p. (p.0, p.1)) t (enumerate_from 0 (up_to g n))
numbered g n s t is same none = YieldsList-from_enumerate {s = t} (road g n s (enumerate_source t) is same) none

-- the same, numbered and beside a list
pub paired : (g : ℕ → ℕ) (n : ℕ) (ys : List ℕ) (s : Levels) (t : Enumerate (Zip Levels (Iter ℕ))) → left s ≡ up_to g n → zip_first (enumerate_source t) ≡ s → iter_rest (zip_second (enumerate_source t)) ≡ ys → enumerate_count t ≡ 0
    → YieldsList (enumerate_steps (zips (YieldsFirst left) fronts)) (λ p. (p.0, (p.1.0, p.1.1.now))) t (enumerate_from 0 (zip (up_to g n) ys))
paired g n ys s t is same beside none =
    YieldsList-from_enumerate {s = t} (YieldsList-from_zip {s = enumerate_source t} (road g n s (zip_first (enumerate_source t)) is same) (YieldsList-from_slice {s = zip_second (enumerate_source t)} ys beside)) none
