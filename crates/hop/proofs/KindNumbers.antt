-- The kinds of ring, and the numbers 1 to 3. Assumes nothing.
use Rattle.std.proofs.Common.{◌≡◌, refl, sym, ap, Bool, true, false, ℕ, eqb, Result, Ok, Err, arith}
use borrow.Author.Tests.{eqb-true, eqb-false}
use Rattle.ring.specs.Boards.{Within}
use Rattle.hop.specs.declared.kinds.Kind.{Kind}
use Rattle.hop.specs.declared.kinds.Kind.TheVariants.{OneWay, MixedOneWay, TwoWay}
use Rattle.hop.specs.declared.refusals.Refusal.{Refusal}
use Rattle.hop.specs.Kinds.{number_of, kind_of}

-- a kind is that of its number
pub kind_back : (kind : Kind) → kind_of (number_of kind) ≡ Ok kind
kind_back OneWay = refl
kind_back MixedOneWay = refl
kind_back TwoWay = refl

pub kind_within : (kind : Kind) → Within 1 3 (number_of kind)
kind_within OneWay = omega arith
kind_within MixedOneWay = omega arith
kind_within TwoWay = omega arith

-- each number of 1 to 3 is a kind's
pub kind_some : (k : ℕ) → Within 1 3 k → (kind : Kind) × (number_of kind ≡ k)
kind_some k w = go (eqb k 1) refl (eqb k 2) refl
  where
    go : (a : Bool) → eqb k 1 ≡ a → (b : Bool) → eqb k 2 ≡ b → (kind : Kind) × (number_of kind ≡ k)
    go true p b q = (OneWay, sym (eqb-true k 1 p))
    go false p true q = (MixedOneWay, sym (eqb-true k 2 q))
    go false p false q = let x = eqb-false k 1 p in let y = eqb-false k 2 q in (TwoWay, omega arith)

-- a number that has a kind is its number
pub kind_named : (k : ℕ) (kind : Kind) → kind_of k ≡ Ok kind → number_of kind ≡ k
kind_named k kind e = go (eqb k 1) refl (eqb k 2) refl (eqb k 3) refl
  where
    number_if : Result Kind Refusal → ℕ
    number_if (Ok kind) = number_of kind
    number_if (Err r) = 0

    is : number_if (kind_of k) ≡ number_of kind
    is = ap number_if e

    go : (a : Bool) → eqb k 1 ≡ a → (b : Bool) → eqb k 2 ≡ b → (c : Bool) → eqb k 3 ≡ c → number_of kind ≡ k
    go true p b q c r = let h = rw p at is in omega (arith, eqb-true k 1 p, h)
    go false p true q c r = let h = rw (p, q) at is in omega (arith, eqb-true k 2 q, h)
    go false p false q true r = let h = rw (p, q, r) at is in omega (arith, eqb-true k 3 r, h)
    go false p false q false r = let h = rw (p, q, r) at is in absurd (omega (arith, kind_within kind, h))
