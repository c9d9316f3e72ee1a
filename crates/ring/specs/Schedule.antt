-- Document 01, "A valid schedule": any list of sends, what makes it valid, the loads at a tick, and when it ends.
use Rattle.std.specs.Prelude.{◌≡◌, List, [], ◌∷◌, ℕ, ◌+◌, ◌-◌, ◌≤◌, ◌<◌, max, ◌⊎◌, eqb, ltb, leb}
use Rattle.ring.specs.Numbers.{pick, both}
use Rattle.ring.specs.Lists.{Each, EachTwo, count}
use Rattle.ring.specs.Boards.{Ring, TwoWay, next}

-- one item over a link: its direction, 0 forward and 1 back, and the tick at which it starts
pub record Send : Type 0 where
  pub link : ℕ
  pub direction : ℕ
  pub start : ℕ

module _ (r : Ring) where
  -- the board that sends: link i joins board i to the next
  abbrev pub sender : Send → ℕ
  sender s = pick (eqb s.direction 0) s.link (next r.n s.link)

  -- the board that receives
  abbrev pub receiver : Send → ℕ
  receiver s = pick (eqb s.direction 0) (next r.n s.link) s.link

  -- a send lasts the link's cost
  abbrev pub lasts : Send → ℕ
  lasts s = r.cost s.link

  -- and ends so many ticks after its start
  abbrev pub ends : Send → ℕ
  ends s = s.start + lasts s

  -- the sends of board i that started strictly before t
  abbrev pub sent_before : List Send → ℕ → ℕ → ℕ
  sent_before σ i t = count (λ s. both (eqb (sender s) i) (ltb s.start t)) σ

  -- the receipts of board i that ended at or before t
  abbrev pub received_by : List Send → ℕ → ℕ → ℕ
  received_by σ i t = count (λ s. both (eqb (receiver s) i) (leb (ends s) t)) σ

  -- the load of board i at tick t
  unfoldable pub load_at : List Send → ℕ → ℕ → ℕ
  load_at σ i t = r.load i + received_by σ i t - sent_before σ i t

  -- board i may start a send at tick t
  abbrev pub MayStart : List Send → ℕ → ℕ → Type 0
  MayStart σ i t = 1 ≤ load_at σ i t

  -- the items in flight at tick t: start < t < end
  unfoldable pub in_flight : List Send → ℕ → ℕ
  in_flight σ t = count (λ s. both (ltb s.start t) (ltb t (ends s))) σ

  -- the largest end, or 0 without sends
  unfoldable pub finish : List Send → ℕ
  finish [] = 0
  finish (s ∷ σ) = max (ends s) (finish σ)

  -- a link of the ring, and a direction that the kind allows
  abbrev pub Allowed : Send → Type 0
  Allowed s = (s.link < r.n) × ((s.direction ≡ 0) ⊎ ((s.direction ≡ 1) × TwoWay r.kind))

  -- two sends that don't overlap: one starts when the other ends, or later
  abbrev pub Apart : Send → Send → Type 0
  Apart s t = (ends s ≤ t.start) ⊎ (ends t ≤ s.start)

  -- a valid schedule
  pub record Valid (σ : List Send) : Type 0 where
    -- each send has a link and a direction the kind allows
    pub allowed : Each Allowed σ
    -- the sends of one board don't overlap
    pub sends : EachTwo (λ s t. sender s ≡ sender t → Apart s t) σ
    -- nor do the receipts of one board
    pub receipts : EachTwo (λ s t. receiver s ≡ receiver t → Apart s t) σ
    -- when a board starts a send, its load at that tick is at least 1
    pub held : Each (λ s. MayStart σ (sender s) s.start) σ
    -- after all sends each board has load − surplus
    pub left : (i : ℕ) → i < r.n → r.load i + count (λ s. eqb (receiver s) i) σ ≡ r.after i + count (λ s. eqb (sender s) i) σ
