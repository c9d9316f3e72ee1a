-- The finish of a schedule: no send ends after it, and it leaves room for what one board sends or receives.
use mathlib.Core.Path.{◌≡◌, sym, ap, ◌∙◌}
use mathlib.Core.List.{List, [], ◌∷◌}
use mathlib.Core.Bool.{Bool, true}
use Prim.Native.Nat.{ℕ, ◌*◌, ◌≤◌}
use native.Mathlib.Nat.{le_refl}
use native.Mathlib.Omega.{arith}
use lib.Dec.{eqb}
use borrow.Author.Tests.{eqb-true}
use Rattle.ring.specs.Numbers.{pick}
use Rattle.ring.specs.Lists.{Each, EachTwo, count}
use Rattle.ring.specs.Boards.{Ring, Accepted, next}
use Rattle.ring.specs.Schedule.{Send, sender, lasts, ends, finish, Allowed, Apart, Valid}
use Rattle.ring.proofs.Tests.{both_true}
use Rattle.ring.proofs.Totals.{each_map, each_map₂, two_map}
use Rattle.ring.proofs.Packing.{packed}
use Rattle.ring.proofs.Flow.{along}

module _ (r : Ring) where
  pub finish_each : (b : ℕ) (σ : List Send) → finish r σ ≤ b → Each (λ s. ends r s ≤ b) σ
  unfolding finish
  finish_each b [] h = tt
  finish_each b (s ∷ σ) h = (omega arith, finish_each b σ (omega arith))

  pub finish_le : (b : ℕ) (σ : List Send) → Each (λ s. ends r s ≤ b) σ → finish r σ ≤ b
  unfolding finish
  finish_le b [] h = omega arith
  finish_le b (s ∷ σ) h = omega (arith, finish_le b σ h.1)

  module _ (σ : List Send) (v : Valid r σ) where
    -- a send lasts a tick at least
    pub lasting : Accepted r → Each (λ s. 1 ≤ lasts r s) σ
    lasting ok = each_map (λ s a. (ok.costs s.link a.0).0) σ v.allowed

    -- sends that pass a test, all of one board (or all to one board), that last c or more each
    pub board_room : (who : Send → ℕ) → EachTwo (λ s t. who s ≡ who t → Apart r s t) σ → (p : Send → Bool) (c i : ℕ)
        → ((s : Send) → Allowed r s → p s ≡ true → (who s ≡ i) × (c ≤ lasts r s)) → count p σ * c ≤ finish r σ
    board_room who apart p c i f =
        packed p (λ s. s.start) (ends r) c (finish r σ) σ
        (two_map (λ s t a b h ps pt. h ((f s a ps).0 ∙ sym (f t b pt).0)) σ v.allowed apart)
        (each_map₂ (λ s a l ps. (omega (arith, (f s a ps).1), l)) σ v.allowed (finish_each (finish r σ) σ (le_refl _)))

    -- the sends of one link in one direction are of one board
    pub along_room : (w l : ℕ) → count (along w l) σ * r.cost l ≤ finish r σ
    along_room w l =
        board_room (sender r) v.sends (along w l) (r.cost l) (pick (eqb w 0) l (next r.n l))
        (λ s a e.
        let (x, y) = both_true _ _ e in
        let p = eqb-true s.direction w x in
        let q = eqb-true s.link l y in
        (rw (p, q), omega (arith, ap r.cost q)))
