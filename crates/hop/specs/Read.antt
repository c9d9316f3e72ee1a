-- Document 01, "Bytes": what the bytes of a job say, or why they are refused.
use Rattle.std.specs.Prelude.{List, ℕ, ◌+◌, ◌*◌, min, ltb, ℤ, pos, length, get_or, replicate, Result, Ok, Err}
use Rattle.std.specs.Int.{w16}
use Rattle.std.proofs.Common.{to_z}
use Rattle.ring.specs.Numbers.{pick}
use Rattle.ring.specs.Lists.{fill}
use Rattle.ring.specs.Bytes.{half_at}
use Rattle.hop.specs.declared.Shape.{Shape}
use Rattle.hop.specs.declared.Job.{Job}
use Rattle.hop.specs.declared.Numbers.{Numbers}
use Rattle.hop.specs.declared.refusals.Refusal.{Refusal}
use Rattle.hop.specs.declared.refusals.Refusal.TheVariants.{TooShort, NoJob, NoVersion, WrongLength}
use Rattle.hop.specs.Refusals.{unlike, goes_on, shape_of, ring_check}

-- the length of a job of n boards, and so the place of board n's numbers in a longer one
abbrev pub job_length : ℕ → ℕ
job_length n = 7 + 6 * n

-- board i's load
abbrev pub load_in : List ℕ → ℕ → ℕ
load_in s i = half_at s (job_length i)

-- board i's surplus, in two's complement
abbrev pub surplus_in : List ℕ → ℕ → ℤ
surplus_in s i = to_z w16 (half_at s (job_length i + 2))

-- the cost of link i
abbrev pub cost_in : List ℕ → ℕ → ℕ
cost_in s i = half_at s (job_length i + 4)

-- the numbers of board i as the bytes have them
abbrev pub stored_in : List ℕ → ℕ → Numbers
stored_in s i = record { load = load_in s i; surplus = surplus_in s i; cost = cost_in s i }

-- the same, and zeros where the bytes end before that board's do
abbrev pub numbers_in : List ℕ → ℕ → Numbers
numbers_in s i = pick (ltb (length s) (job_length i + 6)) (record { load = 0; surplus = pos 0; cost = 0 }) (stored_in s i)

-- a job whose arrays of 128 have the numbers of n boards in their first places, as the bytes have them, and what was there after them
abbrev pub with_numbers_in : List ℕ → ℕ → Job → Job
with_numbers_in s n job =
    record {
      answer = job.answer;
      loads = fill (λ i. (numbers_in s i).load) (min n 128) job.loads;
      surpluses = fill (λ i. (numbers_in s i).surplus) (min n 128) job.surpluses;
      costs = fill (λ i. (numbers_in s i).cost) (min n 128) job.costs;
    }

-- refusals 4 to 6, or the kind and n
abbrev pub sizes_of : List ℕ → Result Shape Refusal
sizes_of s = goes_on (shape_of (get_or s 5 0) (get_or s 6 0)) (λ ring. unlike (length s) (job_length ring.n) (Err WrongLength) (Ok ring))

-- 2 where the mark is not "HOP", 3 where the version is not 1, then the rest
abbrev pub mark_of : List ℕ → Result Shape Refusal
mark_of s =
    unlike (get_or s 0 0) 72 (Err NoJob)
    (unlike (get_or s 1 0) 79 (Err NoJob)
    (unlike (get_or s 2 0) 80 (Err NoJob)
    (unlike (half_at s 3) 1 (Err NoVersion) (sizes_of s))))

-- refusals 1 to 6, or the kind and n
abbrev pub head_of : List ℕ → Result Shape Refusal
head_of s = pick (ltb (length s) 7) (Err TooShort) (mark_of s)

-- the reader's answer: refusals 1 to 6, then 7 to 11, or the kind and n
unfoldable pub check_of : List ℕ → Result Shape Refusal
check_of s = goes_on (head_of s) (λ ring. ring_check ring (load_in s) (surplus_in s) (cost_in s))

-- a ring with its boards' numbers beside it, and zeros after them
abbrev pub holding : Shape → (ℕ → ℕ) → (ℕ → ℤ) → (ℕ → ℕ) → Job
holding ring load surplus cost =
    record {
      answer = Ok ring;
      loads = fill load ring.n (replicate 128 0);
      surpluses = fill surplus ring.n (replicate 128 (pos 0));
      costs = fill cost ring.n (replicate 128 0);
    }

-- an answer with nothing but zeros beside it
abbrev pub bare : Result Shape Refusal → Job
bare answer = record { answer = answer; loads = replicate 128 0; surpluses = replicate 128 (pos 0); costs = replicate 128 0 }

-- a ring has the numbers that the bytes say beside it, a refusal has zeros
abbrev pub beside : List ℕ → Result Shape Refusal → Job
beside s (Ok ring) = holding ring (load_in s) (surplus_in s) (cost_in s)
beside s (Err r) = bare (Err r)

-- the job that is read from any bytes
unfoldable pub job_of : List ℕ → Job
job_of s = beside s (check_of s)
