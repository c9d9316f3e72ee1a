-- Document 01, "Refusal numbers", the other way about: what the bytes of a job, and a writer's lists, are when nothing is to be refused.
use Rattle.std.specs.Prelude.{◌≡◌, List, ℕ, ◌<◌, ℤ, pos, ◌-ℤ◌, length, get_or, ◌≤ℤ◌}
use Rattle.ring.specs.Numbers.{sum_ℤ}
use Rattle.ring.specs.Lists.{each, each_ℤ}
use Rattle.ring.specs.Boards.{Within, OneCost, last_kind, fewest_boards, most_boards, most_load, most_cost}
use Rattle.ring.specs.Bytes.{half_at}
use Rattle.hop.specs.Read.{job_length, load_in, surplus_in, cost_in}

-- lo to hi, both among them, of signed numbers
abbrev pub Withinℤ : ℤ → ℤ → ℤ → Type 0
Withinℤ lo hi z = (lo ≤ℤ z) × (z ≤ℤ hi)

-- n boards within their limits, their costs alike where the kind asks it, their surpluses in balance: nothing for refusals 7 to 11
pub record Lawful (kind n : ℕ) (load : ℕ → ℕ) (surplus : ℕ → ℤ) (cost : ℕ → ℕ) : Type 0 where
  pub loads : (i : ℕ) → i < n → Within 1 most_load (load i)
  pub afters : (i : ℕ) → i < n → Withinℤ (pos 1) (pos most_load) (pos (load i) -ℤ surplus i)
  pub costs : (i : ℕ) → i < n → Within 1 most_cost (cost i)
  pub alike : OneCost kind → (i : ℕ) → i < n → cost i ≡ cost 0
  pub balanced : sum_ℤ surplus n ≡ pos 0

-- the mark "HOP", version 1, a kind and an n within their limits, and n boards of bytes: nothing for refusals 1 to 6
pub record Headed (s : List ℕ) (kind n : ℕ) : Type 0 where
  pub h : get_or s 0 0 ≡ 72
  pub o : get_or s 1 0 ≡ 79
  pub p : get_or s 2 0 ≡ 80
  pub version : half_at s 3 ≡ 1
  pub kind_is : get_or s 5 0 ≡ kind
  pub n_is : get_or s 6 0 ≡ n
  pub kinds : Within 1 last_kind kind
  pub boards : Within fewest_boards most_boards n
  pub whole : length s ≡ job_length n

-- the bytes of a job that is not refused
abbrev pub LawfulJob : List ℕ → ℕ → ℕ → Type 0
LawfulJob s kind n = Headed s kind n × Lawful kind n (load_in s) (surplus_in s) (cost_in s)

-- a kind and three lists of one length that the writer does not refuse
pub record LawfulLists (kind : ℕ) (loads : List ℕ) (surpluses : List ℤ) (costs : List ℕ) : Type 0 where
  pub kinds : Within 1 last_kind kind
  pub boards : Within fewest_boards most_boards (length loads)
  pub surpluses_long : length surpluses ≡ length loads
  pub costs_long : length costs ≡ length loads
  pub lawful : Lawful kind (length loads) (each loads) (each_ℤ surpluses) (each costs)
