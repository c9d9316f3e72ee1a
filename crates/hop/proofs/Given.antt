-- Which refusal numbers the reader and the writer give, and with which board. Assumes nothing.
use Rattle.std.proofs.Common.{◌≡◌, refl, Bool, true, false, List, ◌⊎◌, ℕ, zero, suc, ◌≤◌, ◌<◌, ltb, eqb, ℤ, nat_abs, length, get_or, Option, Some, None, Result, Ok, Err, arith}
use mathlib.Core.Logic.{inl, inr}
use borrow.Author.Tests.{ltb-true}
use Rattle.ring.specs.declared.Board.{Board}
use Rattle.ring.specs.declared.Outside.{Outside}
use Rattle.ring.specs.declared.Outside.TheVariants.{Load, After, Cost}
use Rattle.ring.specs.Numbers.{pick, sum_ℤ}
use Rattle.ring.specs.Lists.{each, each_ℤ}
use Rattle.ring.specs.Boards.{Within}
use Rattle.ring.specs.Limits as limits
use Rattle.ring.specs.Limits.{board_of}
use Rattle.ring.specs.Bytes.{half_at}
use Rattle.hop.specs.declared.kinds.Kind.{Kind}
use Rattle.hop.specs.declared.Shape.{Shape}
use Rattle.hop.specs.declared.refusals.Refusal.{Refusal}
use Rattle.hop.specs.declared.refusals.Refusal.TheVariants.{TooShort, NoJob, NoVersion, NoKind, BoardCount, WrongLength, BadBoard, UnlikeCost, NoRoom}
use Rattle.hop.specs.Kinds.{number_of}
use Rattle.hop.specs.Answers.{number_by, board_by, refusal, Placed, Gives, of_check, of_written, ReaderGives, WriterGives}
use Rattle.hop.specs.Refusals.{goes_on, shape_of, refuses, unmade, faultless, board_fault, cost_fault, balanced_of, ring_check}
use Rattle.hop.specs.Read.{job_length, load_in, surplus_in, cost_in, mark_of, head_of, check_of}
use Rattle.hop.specs.Write.{lists_of, room_of, written_of}
use Rattle.hop.proofs.Reading.{headed}

-- what holds of both holds of the one picked
pub picked : {A : Type 0} (P : A → Type 0) (t : Bool) {a b : A} → P a → P b → P (pick t a b)
picked P true p q = p
picked P false p q = q

-- a refusal that names no board
pub no_board : (n number : ℕ) → (Within 7 10 number → ⊥) → Placed n number 0
no_board n number other = inr (other, refl)

-- a check that gives only such numbers, of a ring of n boards
record Right (numbers : ℕ → Type 0) (n : ℕ) (c : Result Shape Refusal) : Type 0 where
  says : Gives numbers n (of_check c)

fault_is : (f : Outside) → Within 7 9 (limits.number_of f)
fault_is Load = omega arith
fault_is After = omega arith
fault_is Cost = omega arith

-- a refusal of 7 to 10 on board i
record On (numbers : ℕ → Type 0) (i : ℕ) (r : Refusal) : Type 0 where
  one : numbers (number_by r)
  range : Within 7 10 (number_by r)
  board : board_by r ≡ i

module _ (numbers : ℕ → Type 0) (n : ℕ) where
  ring : {s : Shape} → Right numbers n (Ok s)
  ring = record { says = tt }

  stops : {r : Refusal} → numbers (number_by r) → (Within 7 10 (number_by r) → ⊥) → board_by r ≡ 0 → Right numbers n (Err r)
  stops one other e = record { says = (one, inr (other, e)) }

  -- refused by the first board with a fault, one of the boards below n
  faultless_right : (f : ℕ → Option Refusal) → ((i : ℕ) (r : Refusal) → f i ≡ Some r → On numbers i r) → (k : ℕ) → k ≤ n → {next : Result Shape Refusal}
      → Right numbers n next → Right numbers n (faultless f k next)
  unfolding faultless
  faultless_right f h zero l p = p
  faultless_right f h (suc k) l {next} p = faultless_right f h k (omega arith) (go (f k) refl)
    where
      go : (o : Option Refusal) → f k ≡ o → Right numbers n (refuses o next)
      go None e = p
      go (Some r) e = let on = h k r e in record { says = (on.one, inl (on.range, omega (arith, on.board))) }

  -- refusals 7 to 11
  module _ (all : (number : ℕ) → Within 7 11 number → numbers number) (shape : Shape) (n_is : shape.n ≡ n) (load : ℕ → ℕ) (surplus : ℕ → ℤ) (cost : ℕ → ℕ) where
    balanced_right : Right numbers n (balanced_of shape surplus)
    balanced_right = picked (Right numbers n) (eqb (nat_abs (sum_ℤ surplus shape.n)) 0) ring (stops (all 11 (omega arith)) (λ h. omega arith) refl)

    bad : (i : ℕ) (b : Result Board Outside) (r : Refusal) → unmade i b ≡ Some r → On numbers i r
    bad i (Ok board) r e = let z : ◌≡◌ {A = ℕ} 0 1 = cc in absurd (omega arith)
    bad i (Err fault) r e =
        let q : BadBoard fault i ≡ r = cc in
        let w = fault_is fault in
        rw (← q) (record { one = all (limits.number_of fault) (omega arith); range = omega arith; board = refl })

    ten : (i : ℕ) (t : Bool) (r : Refusal) → pick t None (Some (UnlikeCost i)) ≡ Some r → On numbers i r
    ten i true r e = let z : ◌≡◌ {A = ℕ} 0 1 = cc in absurd (omega arith)
    ten i false r e = let q : UnlikeCost i ≡ r = cc in rw (← q) (record { one = all 10 (omega arith); range = omega arith; board = refl })

    ring_right : Right numbers n (ring_check shape load surplus cost)
    unfolding ring_check
    ring_right =
        faultless_right (board_fault load surplus cost) (λ i r e. bad i (board_of (load i) (surplus i) (cost i)) r e) shape.n (omega arith)
        (picked (Right numbers n) (eqb (number_of shape.kind) 2) balanced_right
        (faultless_right (cost_fault cost) (λ i r e. ten i (eqb (cost i) (cost 0)) r e) shape.n (omega arith) balanced_right))

-- the kind and n pass as they are, or are refused with 4 or 5
shape_right : (P : Result Shape Refusal → Type 0) (kind n : ℕ) (next : Shape → Result Shape Refusal) → P (Err NoKind) → P (Err BoardCount)
    → ((k : Kind) → P (next (record { kind = k; n = n }))) → P (goes_on (shape_of kind n) next)
shape_right P kind n next four five p =
    let Q : Result Shape Refusal → Type 0 = λ c. P (goes_on c next) in
    let sized : Kind → Result Shape Refusal = λ k. pick (ltb n 2) (Err BoardCount) (pick (ltb 128 n) (Err BoardCount) (Ok (record { kind = k; n = n }))) in
    let some : (k : Kind) → Q (sized k) = λ k. picked Q (ltb n 2) five (picked Q (ltb 128 n) five (p k)) in
    let R : Result Kind Refusal → Type 0 = λ c. Q (goes_on c sized) in
    picked R (eqb kind 1) (some _) (picked R (eqb kind 2) (some _) (picked R (eqb kind 3) (some _) four))

-- refusals 1 to 6, none of which names a board: 1 for fewer than 7 bytes alone
abbrev pub Early : List ℕ → ℕ → Type 0
Early s number = ((number ≡ 1) × (length s < 7)) ⊎ Within 2 6 number

pub head_gives : (s : List ℕ) → Gives (Early s) 0 (of_check (head_of s))
head_gives s = go (ltb (length s) 7) refl
  where
    P : Result Shape Refusal → Type 0
    P c = Gives (Early s) 0 (of_check c)

    early : (r : Refusal) → Within 2 6 (number_by r) → board_by r ≡ 0 → P (Err r)
    early r h e = (inr h, inr (λ z. omega arith, e))

    go : (t : Bool) → ltb (length s) 7 ≡ t → P (pick t (Err TooShort) (mark_of s))
    go true e = (inl (refl, ltb-true (length s) 7 e), no_board 0 1 (λ z. omega arith))
    go false e =
        let mark = early NoJob (omega arith) refl in
        picked P (eqb (get_or s 0 0) 72)
        (picked P (eqb (get_or s 1 0) 79)
        (picked P (eqb (get_or s 2 0) 80)
        (picked P (eqb (half_at s 3) 1)
        (shape_right P (get_or s 5 0) (get_or s 6 0) _ (early NoKind (omega arith) refl) (early BoardCount (omega arith) refl)
        (λ k. picked P (eqb (length s) (job_length (get_or s 6 0))) {a = Ok (record { kind = k; n = get_or s 6 0 })} tt (early WrongLength (omega arith) refl)))
        (early NoVersion (omega arith) refl))
        mark)
        mark)
        mark

pub early_board : (s : List ℕ) (number board : ℕ) → Gives (Early s) 0 (refusal number board) → board ≡ 0
early_board s number board g = elim g.1 [ inl p ↦ absurd (omega arith) | inr p ↦ p.1 ]

-- "The reader gives 1 to 11": of the boards that the bytes say
pub reader_gives : (s : List ℕ) → Gives ReaderGives (get_or s 6 0) (of_check (check_of s))
unfolding check_of
reader_gives s = go (head_of s) refl (head_gives s)
  where
    rest : Shape → Result Shape Refusal
    rest ring = ring_check ring (load_in s) (surplus_in s) (cost_in s)

    go : (c : Result Shape Refusal) → head_of s ≡ c → Gives (Early s) 0 (of_check c) → Gives ReaderGives (get_or s 6 0) (of_check (goes_on c rest))
    go (Ok ring) e g =
        rw (headed s ring e).n_is (ring_right ReaderGives ring.n (λ number h. omega arith) ring refl (load_in s) (surplus_in s) (cost_in s)).says
    go (Err r) e g =
        let w : Within 1 6 (number_by r) = elim g.0 [ inl p ↦ omega arith | inr p ↦ omega arith ] in
        (omega arith, inr (λ h. omega arith, early_board s (number_by r) (board_by r) g))

-- the job writer gives "4; 5 for the first list's length; 6 if another list's length differs; 7 to 11; 13": of as many boards as the first list has
pub writer_gives : (kind : ℕ) (loads : List ℕ) (surpluses : List ℤ) (costs : List ℕ) (room : ℕ)
    → Gives WriterGives (length loads) (of_written (written_of kind loads surpluses costs room))
unfolding written_of
writer_gives kind loads surpluses costs room = go (lists_of kind loads surpluses costs) lists
  where
    n : ℕ
    n = length loads

    early : (r : Refusal) → Within 4 6 (number_by r) → board_by r ≡ 0 → Right WriterGives n (Err r)
    early r h e = stops WriterGives n (inl (omega arith)) (λ z. omega arith) e

    lists : Right WriterGives n (lists_of kind loads surpluses costs)
    lists =
        let length_wrong = early WrongLength (omega arith) refl in
        shape_right (Right WriterGives n) kind n _ (early NoKind (omega arith) refl) (early BoardCount (omega arith) refl)
        (λ k. picked (Right WriterGives n) (eqb (length surpluses) n)
        (picked (Right WriterGives n) (eqb (length costs) n)
        (ring_right WriterGives n (λ number h. inl (omega arith)) (record { kind = k; n = n }) refl (each loads) (each_ℤ surpluses) (each costs))
        length_wrong)
        length_wrong)

    go : (c : Result Shape Refusal) → Right WriterGives n c → Gives WriterGives n (of_written (room_of room c))
    go (Ok ring) p =
        picked (λ (w : Result ℕ Refusal). Gives WriterGives n (of_written w)) (ltb room (job_length ring.n)) {a = Err NoRoom} {b = Ok (job_length ring.n)}
        (inr refl, no_board n 13 (λ z. omega arith)) tt
    go (Err r) p = p.says
