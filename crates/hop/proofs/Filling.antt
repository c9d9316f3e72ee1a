-- A job's arrays that are filled board by board from its bytes. Assumes nothing.
use Rattle.std.proofs.Common.{◌≡◌, refl, sym, ap, ◌∙◌, List, ℕ, ◌+◌, ◌≤◌, ◌<◌, ℤ, pos, min, length, replicate, set, Result, Ok, Err, FitsSigned, w16, to_z, of_z, to_z-of_z, arith, add-one}
use borrow.Author.Tests.{le-ltb}
use Rattle.ring.specs.Lists.{fill}
use Rattle.ring.proofs.Fill.{fill_same}
use Rattle.hop.specs.declared.Shape.{Shape}
use Rattle.hop.specs.declared.Job.{Job}
use Rattle.hop.specs.declared.Numbers.{Numbers}
use Rattle.hop.specs.declared.refusals.Refusal.{Refusal}
use Rattle.hop.specs.Read.{job_length, load_in, surplus_in, cost_in, stored_in, numbers_in, with_numbers_in, check_of, bare, beside, job_of}
use Rattle.hop.proofs.Reading.{check_headed}

-- a job's arrays with the numbers of the first i boards
abbrev pub filled_to : List ℕ → ℕ → Job → Job
filled_to s i job =
    record {
      answer = job.answer;
      loads = fill (λ k. (numbers_in s k).load) i job.loads;
      surpluses = fill (λ k. (numbers_in s k).surplus) i job.surpluses;
      costs = fill (λ k. (numbers_in s k).cost) i job.costs;
    }

-- a job with a board's numbers put at place i
abbrev pub with_numbers : Job → ℕ → ℕ → ℤ → ℕ → Job
with_numbers job i load surplus cost =
    record { answer = job.answer; loads = set job.loads i load; surpluses = set job.surpluses i surplus; costs = set job.costs i cost }

-- of n boards the first i are filled in
pub record Filled (s : List ℕ) (n i : ℕ) (was job : Job) : Type 0 where
  pub few : i ≤ n
  pub is : job ≡ filled_to s i was

-- one board more, its surplus as 16 bits hold it
pub more : {s : List ℕ} {n i : ℕ} {was job : Job} {board : Numbers} → Filled s n i was job → i < n → board ≡ numbers_in s i
    → FitsSigned w16 board.surplus → Filled s n (i + 1) was (with_numbers job i board.load (to_z w16 (of_z w16 board.surplus)) board.cost)
unfolding fill
more {s} {i = i} f l is fits =
    record {
      few = omega arith;
      is = rw (add-one, fill, to_z-of_z fits) (λ t. with_numbers (f.is t) i (is t).load (is t).surplus (is t).cost);
    }

-- no board yet
pub none : {s : List ℕ} {n : ℕ} {job : Job} → Filled s n 0 job job
unfolding fill
none = record { few = omega arith; is = refl }

-- all of them
pub all : {s : List ℕ} {n i : ℕ} {was job : Job} → Filled s n i was job → n ≤ i → job ≡ filled_to s n was
all {s} {n} {i} {was} f l = let q : i ≡ n = omega (arith, f.few) in f.is ∙ ap (λ (k : ℕ). filled_to s k was) q

-- a job with another answer
abbrev pub answering : Job → Result Shape Refusal → Job
answering job answer = record { answer = answer; loads = job.loads; surpluses = job.surpluses; costs = job.costs }

-- zeros stay zeros
pub cleared : {job : Job} (answer : Result Shape Refusal) → job ≡ bare job.answer → answering job answer ≡ bare answer
cleared answer is = ap (λ (j : Job). answering j answer) is

-- what the bytes have of a board that they are long enough for
stored : (s : List ℕ) (i : ℕ) → job_length i + 6 ≤ length s → numbers_in s i ≡ stored_in s i
stored s i h = rw (le-ltb (length s) (job_length i + 6) h) refl

module _ (s : List ℕ) {answer : Result Shape Refusal} (is : answer ≡ check_of s) where
  -- the numbers of an accepted ring's boards, put among zeros, make the job that is read
  pub read_is : {ring : Shape} → answer ≡ Ok ring → with_numbers_in s ring.n (bare answer) ≡ job_of s
  unfolding job_of
  read_is {ring} ok =
      let h = check_headed s ring (sym is ∙ ok) in
      let there : (i : ℕ) → i < ring.n → numbers_in s i ≡ stored_in s i = λ i l. stored s i (omega (arith, h.whole)) in
      let few : min ring.n 128 ≡ ring.n = omega (arith, h.boards) in
      let loads = fill_same (λ i. (numbers_in s i).load) (load_in s) ring.n (replicate 128 0) (record { at = λ i l. ap (λ (x : Numbers). x.load) (there i l) }) in
      let surpluses = fill_same (λ i. (numbers_in s i).surplus) (surplus_in s) ring.n (replicate 128 (pos 0)) (record { at = λ i l. ap (λ (x : Numbers). x.surplus) (there i l) }) in
      let costs = fill_same (λ i. (numbers_in s i).cost) (cost_in s) ring.n (replicate 128 0) (record { at = λ i l. ap (λ (x : Numbers). x.cost) (there i l) }) in
      ap (λ (k : ℕ). filled_to s k (bare answer)) few ∙ (λ t. record { answer = ok t; loads = loads t; surpluses = surpluses t; costs = costs t }) ∙ ap (beside s) (sym ok ∙ is)

  -- a refusal has zeros beside it
  pub refused : {r : Refusal} → answer ≡ Err r → bare answer ≡ job_of s
  unfolding job_of
  refused e = ap bare e ∙ ap (beside s) (sym e ∙ is)
