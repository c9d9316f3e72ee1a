-- Kinds 1 and 2: the records of a link whose sends wait are those of the plan where the records of the link before are; so are those of all links
-- when the ring was gone round from one that carries nothing. Assumes nothing.
use Rattle.std.proofs.Common.{◌≡◌, refl, sym, ap, ◌∙◌, Bool, true, false, List, ◌++◌, ◌⊎◌, inl, inr, ℕ, zero, suc, ◌+◌, ◌*◌, ◌-◌, ◌≤◌, ◌<◌, arith, eqb, ltb, ℤ, pos, ◌+ℤ◌, ◌-ℤ◌, length, take, drop, get_or}
use borrow.Author.Tests.{lt-ltb, le-ltb, ltb-true, ltb-false, eqb-true}
use Rattle.ring.specs.Numbers.{pick, sum}
use Rattle.ring.specs.Lists.{joined}
use Rattle.ring.specs.Boards.{Ring, Accepted, next, prev}
use Rattle.ring.specs.Plan.{behind, carries, direction_of, start_of, fed, moves, plan}
use Rattle.ring.specs.Bytes.{word_at, send_bytes, records_of}
use Rattle.ring.proofs.Tests.{le_lt}
use Rattle.ring.proofs.Joined.{joined_same}
use Rattle.ring.proofs.Neighbours.{prev_below, next_below, prev_next}
use Rattle.ring.proofs.Level.{One, none_behind, ahead_step, comes}
use Rattle.ring.proofs.Waiting.{waits}
use Rattle.ring.proofs.Best.{timed}
use Rattle.ring.proofs.Bounds.{moves_most, finish_most}
use Rattle.planner.specs.declared.links.Feed.{Feed}
use Rattle.planner.specs.declared.links.Place.{Place}
use Rattle.planner.specs.PlanBytes.{record_place}
use Rattle.planner.specs.Links.{link_bytes, arrives_in, start_fed, place_after, Fed}
use Rattle.planner.proofs.Bytes.{send_long, link_long, records_plan}
use Rattle.planner.proofs.Grow.{sum_within}
use Rattle.planner.proofs.ReadBack.{word_back}
use Rattle.planner.proofs.Raising.{gained}
use Rattle.planner.proofs.Parts.{part, laid, laid_long, laid_here, laid_before, laid_after, part_before, part_after, word_same, word_in, whole}
use Rattle.hop.proofs.Pieces.{joined_at}

-- the start of send x, in the records of a link
start_in : (link direction : ℕ) (start : ℕ → ℕ) (k x : ℕ) → x < k → start x < 4294967296 → word_at (link_bytes link direction start k) (6 * x + 2) ≡ start x
unfolding send_bytes
start_in link direction start k x h few =
    word_same (joined send k) (send x) (6 * x + 2) 2
    (λ d l.
    let q : 6 * x + 2 + d ≡ 6 * x + (2 + d) = omega arith in
    ap (λ (n : ℕ). get_or (joined send k) n 0) q
    ∙ joined_at send (λ y. send_long (record { link = link; direction = direction; start = start y })) k x (2 + d) h (omega arith))
    ∙ word_back (start x) few
  where
    send : ℕ → List ℕ
    send y = send_bytes (record { link = link; direction = direction; start = start y })

-- of n links, link l is the k-th after link z, round the ring
abbrev Turned : ℕ → ℕ → ℕ → ℕ → Type 0
Turned n z k l = (z + k ≡ l) ⊎ (z + k ≡ l + n)

turned_next : (n z k l : ℕ) → z < n → suc k < n → Turned n z k l → Turned n z (suc k) (next n l)
turned_next n z k l hz hk t = go (eqb (suc l) n) refl
  where
    go : (b : Bool) → eqb (suc l) n ≡ b → Turned n z (suc k) (pick b 0 (suc l))
    go true e = elim t [ inl p ↦ inr (omega (arith, eqb-true (suc l) n e)) | inr p ↦ absurd (omega (arith, eqb-true (suc l) n e)) ]
    go false e = elim t [ inl p ↦ inl (omega arith) | inr p ↦ inr (omega arith) ]

turned_apart : (n z j k i l : ℕ) → j < k → k < n → Turned n z j i → Turned n z k l → i < n → l < n → i ≡ l → ⊥
turned_apart n z j k i l h m (inl p) (inl q) hi hl e = omega arith
turned_apart n z j k i l h m (inl p) (inr q) hi hl e = omega arith
turned_apart n z j k i l h m (inr p) (inl q) hi hl e = omega arith
turned_apart n z j k i l h m (inr p) (inr q) hi hl e = omega arith

turned_same : (n z k i l : ℕ) → Turned n z k i → Turned n z k l → i < n → l < n → i ≡ l
turned_same n z k i l (inl p) (inl q) hi hl = omega arith
turned_same n z k i l (inl p) (inr q) hi hl = absurd (omega arith)
turned_same n z k i l (inr p) (inl q) hi hl = absurd (omega arith)
turned_same n z k i l (inr p) (inr q) hi hl = omega arith

turned_all : (n z i : ℕ) → z < n → i < n → (j : ℕ) × (j < n) × Turned n z j i
turned_all n z i hz hi =
    elim (le_lt z i) [
      | inl h ↦ (i - z, omega arith, inl (omega arith))
      | inr h ↦ (i + n - z, omega arith, inr (omega arith))
    ]

module _ (r : Ring) (o : ℕ) where
  -- where the records of link l begin, and those records
  abbrev pub place_of : ℕ → ℕ
  place_of l = record_place (sum (carries r o) l)

  abbrev pub piece : ℕ → List ℕ
  piece l = link_bytes l (direction_of r o l) (λ x. start_of r o l (suc x)) (carries r o l)

  -- they stand in a buffer
  abbrev pub Stands : List ℕ → ℕ → Type 0
  Stands xs l = part xs (place_of l) (6 * carries r o l) ≡ piece l

  -- one link's records stand before another's
  in_order : (i l : ℕ) → i < l → place_of i + 6 * carries r o i ≤ place_of l
  in_order i l h = omega (arith, sum_within (carries r o) i l h)

  disjoint : (i l : ℕ) → (i ≡ l → ⊥) → (place_of i + 6 * carries r o i ≤ place_of l) ⊎ (place_of l + 6 * carries r o l ≤ place_of i)
  disjoint i l d = elim (le_lt i l) [ inl h ↦ inl (in_order i l (omega arith)) | inr h ↦ inr (in_order l i h) ]

  -- the place of the link after link l
  place_next : (here : Place) → here.at ≡ place_of here.link
      → place_after here (carries r o here.link) r.n ≡ record { link = next r.n here.link; at = place_of (next r.n here.link) }
  unfolding sum
  place_next here e = go (eqb (suc here.link) r.n) refl
    where
      l : ℕ
      l = here.link

      go : (b : Bool) → eqb (suc l) r.n ≡ b
          → ◌≡◌ {A = Place} (record { link = next r.n l; at = pick b 15 (here.at + 6 * carries r o l) }) (record { link = next r.n l; at = place_of (pick b 0 (suc l)) })
      go true q = refl
      go false q = let f : here.at + 6 * carries r o l ≡ place_of (suc l) = omega (arith, e) in λ t. record { link = next r.n l; at = f t }

  -- a buffer that held `was`, gone round from link z on, up to the k-th link after it
  pub record Gone (was : List ℕ) (z k : ℕ) (here : Place) (count : ℕ) (now : List ℕ) : Type 0 where
    pub link : here.link < r.n
    pub turned : Turned r.n z k here.link
    pub at : here.at ≡ place_of here.link
    pub count_is : count ≡ carries r o here.link
    pub stand : (j i : ℕ) → i < r.n → j ≤ k → Turned r.n z j i → Stands now i
    pub head : take 15 now ≡ take 15 was
    pub rest : drop (place_of r.n) now ≡ drop (place_of r.n) was
    pub long : length now ≡ length was

  module _ (ok : Accepted r) (one : One r o) where
    -- what link l carries goes forward
    forward : (l : ℕ) → l < r.n → direction_of r o l ≡ 0
    forward l h = rw (le-ltb 0 (behind r o l) (omega (arith, none_behind r o ok one l h)))

    start_few : (l x : ℕ) → l < r.n → x < carries r o l → start_of r o l (suc x) < 4294967296
    start_few l x h k = omega (arith, (timed r o ok (inr one)).ended l x h k, finish_most r ok o (inr one))

    -- all places are within the plan, which is not long
    pub place_last : record_place (moves r o) ≡ place_of r.n
    unfolding moves
    place_last = refl

    pub short : (l : ℕ) → l < r.n → place_of l + 6 * carries r o l < 4294967296
    short l h = omega (arith, in_order l r.n h, place_last, moves_most r ok o (inr one))

    -- link l after link m, whose records stand in a buffer
    module _ (xs : List ℕ) (m l : ℕ) (h : l < r.n) (before : prev r.n l ≡ m) (stands : Stands xs m) where
      abbrev pub feed : Feed
      feed = record { from = place_of m; load = r.load l; cost = r.cost m }

      -- what a send waits for is there when the link before has sent it
      arrives_is : (x : ℕ) → x < carries r o l → arrives_in xs feed x ≡ fed r (start_of r o) l (suc x)
      arrives_is x k = go (ltb x (r.load l)) refl (ltb (r.load l) (suc x)) refl
        where
          go : (a : Bool) → ltb x (r.load l) ≡ a → (b : Bool) → ltb (r.load l) (suc x) ≡ b
              → pick a 0 (word_at xs (place_of m + 6 * (x - r.load l) + 2) + r.cost m) ≡ pick b (start_of r o (prev r.n l) (suc x - r.load l) + r.cost (prev r.n l)) 0
          go true e true f = absurd (omega (arith, ltb-true x (r.load l) e, ltb-true (r.load l) (suc x) f))
          go true e false f = refl
          go false e false f = absurd (omega (arith, ltb-false x (r.load l) e, ltb-false (r.load l) (suc x) f))
          go false e true f =
              let y : ℕ = x - r.load l in
              let s : suc x - r.load l ≡ suc y = omega (arith, ltb-false x (r.load l) e) in
              let few : y < carries r o m = omega (arith, rw before at (comes r o ok one l (suc x) h (omega (arith, none_behind r o ok one l h)))) in
              let a : place_of m + 6 * y + 2 ≡ place_of m + (6 * y + 2) = omega arith in
              let word : word_at xs (place_of m + 6 * y + 2) ≡ start_of r o m (suc y) =
              ap (word_at xs) a
              ∙ word_in xs (piece m) (place_of m) (6 * carries r o m) (6 * y + 2) stands (omega arith)
              ∙ start_in m (direction_of r o m) (λ z. start_of r o m (suc z)) (carries r o m) y few (start_few m y (rw before at (prev_below r.n l h)) few) in
              rw (before, s) (ap (λ (w : ℕ). w + r.cost m) word)

      -- so the sends start as document 01's rule says
      starts_are : (x : ℕ) → x < carries r o l → start_fed (arrives_in xs feed) (r.cost l) x ≡ start_of r o l (suc x)
      unfolding start_fed
      starts_are zero k = arrives_is 0 k ∙ sym (waits r o ok one l 0 h k ∙ omega arith)
      starts_are (suc x) k =
          let t : ltb 0 (suc x) ≡ true = lt-ltb 0 (suc x) (omega arith) in
          omega (arith, starts_are x (omega arith), arrives_is (suc x) k, rw t at (waits r o ok one l (suc x) h k))

      -- and the link's records are the plan's
      fed_piece : link_bytes l 0 (start_fed (arrives_in xs feed) (r.cost l)) (carries r o l) ≡ piece l
      fed_piece =
          joined_same _ _ (carries r o l)
          (λ x k t. send_bytes (record { link = l; direction = sym (forward l h) t; start = starts_are x k t }))

      -- the place of link l is apart from what its sends wait for
      fed_there : (here : Place) → here ≡ record { link = l; at = place_of l } → (m ≡ l → ⊥) → place_of r.n ≤ length xs → Fed xs here (carries r o l) feed
      fed_there here is other room =
          let link : here.link ≡ l = ap (λ (p : Place). p.link) is in
          let at : here.at ≡ place_of l = ap (λ (p : Place). p.at) is in
          let come = rw before at (comes r o ok one l (carries r o l) h (omega (arith, none_behind r o ok one l h))) in
          let mine = in_order l r.n h in
          let theirs = in_order m r.n (rw before at (prev_below r.n l h)) in
          record {
            link = omega (arith, link, ok.boards);
            room = omega (arith, at, mine);
            fed = omega (arith, come, theirs);
            apart = elim (disjoint m l other) [ inl d ↦ inl (omega (arith, at, come)) | inr d ↦ inr (omega (arith, at)) ];
          }

    -- at first: the link that carries nothing
    pub set_out : (was : List ℕ) (here : Place) → here.link < r.n → carries r o here.link ≡ 0 → here.at ≡ place_of here.link → Gone was here.link 0 here 0 was
    unfolding joined
    set_out was here h none at =
        record {
          link = h;
          turned = inl (omega arith);
          at = at;
          count_is = sym none;
          stand = λ j i l k t.
              let e : i ≡ here.link = elim t [ inl p ↦ omega arith | inr p ↦ absurd (omega arith) ] in
              rw (e, none) refl;
          head = refl;
          rest = refl;
          long = refl;
        }

    module _ {was : List ℕ} {z k : ℕ} {here : Place} {count : ℕ} {now : List ℕ} (g : Gone was z k here count now) (hz : z < r.n) (more : suc k < r.n) where
      -- the link after, and its place
      abbrev after : ℕ
      after = next r.n here.link

      after_here : after < r.n
      after_here = next_below r.n here.link g.link

      before_after : prev r.n after ≡ here.link
      before_after = prev_next r.n here.link g.link

      other : here.link ≡ after → ⊥
      other = turned_apart r.n z k (suc k) here.link after (omega arith) more g.turned (turned_next r.n z k here.link hz more g.turned) g.link after_here

      stands_here : Stands now here.link
      stands_here = g.stand k here.link g.link (omega arith) g.turned

      next_is : place_after here count r.n ≡ record { link = after; at = place_of after }
      next_is = ap (λ (c : ℕ). place_after here c r.n) g.count_is ∙ place_next here g.at

      -- what it carries, by the surplus of the board between
      pub count_next : (s : ℤ) → pos (r.after after) ≡ pos (r.load after) -ℤ s → pos (carries r o after) ≡ pos count +ℤ s
      count_next s is =
          let step = rw before_after at (ahead_step r o ok one after after_here) in
          gained (carries r o after) count (r.load after) (r.after after) s
          (omega (arith, step, g.count_is, none_behind r o ok one after after_here, none_behind r o ok one here.link g.link)) is

      module _ (there : Place) (is : there ≡ place_after here count r.n) (many : ℕ) (so : many ≡ carries r o after) (f : Feed) (fed_by : f ≡ record { from = here.at; load = r.load after; cost = r.cost here.link }) where
        there_is : there ≡ record { link = after; at = place_of after }
        there_is = is ∙ next_is

        feed_is : f ≡ feed now here.link after after_here before_after stands_here
        feed_is = fed_by ∙ (λ t. record { from = g.at t; load = r.load after; cost = r.cost here.link })

        pub fed_next : place_of r.n ≤ length was → Fed now there many f
        fed_next room =
            rw (so, feed_is)
            (fed_there now here.link after after_here before_after stands_here there there_is other (omega (arith, g.long)))

        module _ (cost : ℕ) (cost-is : cost ≡ r.cost after) (room : place_of r.n ≤ length was) (then : List ℕ)
            (wrote : then ≡ (take there.at now ++ link_bytes there.link 0 (start_fed (arrives_in now f) cost) many) ++ drop (there.at + 6 * many) now)
          where
            -- the part that was written over
            abbrev from : ℕ
            from = place_of after

            abbrev size : ℕ
            size = 6 * carries r o after

            fits : from + size ≤ length now
            fits = omega (arith, in_order after r.n after_here, g.long)

            long_piece : length (piece after) ≡ size
            long_piece = link_long after (direction_of r o after) (λ x. start_of r o after (suc x)) (carries r o after)

            then_is : then ≡ laid now (piece after) from size long_piece fits
            then_is =
                wrote
                ∙ (λ t. (take (there_is t).at now ++ link_bytes (there_is t).link 0 (start_fed (arrives_in now (feed_is t)) (cost-is t)) (so t)) ++ drop ((there_is t).at + 6 * so t) now)
                ∙ ap (λ (p : List ℕ). (take from now ++ p) ++ drop (from + size) now) (fed_piece now here.link after after_here before_after stands_here)

            still : (i : ℕ) → i < r.n → (i ≡ after → ⊥) → Stands now i → Stands then i
            still i h apart s =
                ap (λ (l : List ℕ). part l (place_of i) (6 * carries r o i)) then_is
                ∙ elim (disjoint i after apart) [
                  | inl d ↦ part_before now (piece after) from size long_piece fits (place_of i) (6 * carries r o i) d
                  | inr d ↦ part_after now (piece after) from size long_piece fits (place_of i) (6 * carries r o i) d
                ]
                ∙ s

            turned_there : Turned r.n z (suc k) after
            turned_there = turned_next r.n z k here.link hz more g.turned

            stand_then : (j i : ℕ) → i < r.n → j ≤ suc k → Turned r.n z j i → Stands then i
            stand_then j i h l t =
                elim (le_lt (suc k) j) [
                  | inl p ↦
                      let e : suc k ≡ j = omega arith in
                      let q : i ≡ after = turned_same r.n z (suc k) i after (rw (← e) at t) turned_there h after_here in
                      rw q (ap (λ (l : List ℕ). part l from size) then_is ∙ laid_here now (piece after) from size long_piece fits)
                  | inr p ↦ still i h (turned_apart r.n z j (suc k) i after p more t turned_there h after_here) (g.stand j i h (omega arith) t)
                ]

            pub gone_on : Gone was z (suc k) there many then
            gone_on =
                let link : there.link ≡ after = ap (λ (p : Place). p.link) there_is in
                let at : there.at ≡ place_of after = ap (λ (p : Place). p.at) there_is in
                record {
                  link = omega (arith, link, after_here);
                  turned = rw link turned_there;
                  at = at ∙ ap place_of (sym link);
                  count_is = so ∙ ap (carries r o) (sym link);
                  stand = stand_then;
                  head = ap (take 15) then_is ∙ laid_before now (piece after) from size long_piece fits 15 (omega arith) ∙ g.head;
                  rest = ap (drop (place_of r.n)) then_is ∙ laid_after now (piece after) from size long_piece fits (place_of r.n) (in_order after r.n after_here) ∙ g.rest;
                  long = ap (λ (l : List ℕ). length l) then_is ∙ laid_long now (piece after) from size long_piece fits ∙ g.long;
                }

    -- when all links were passed, the records are the plan's
    pub gone_round : {was : List ℕ} {z k : ℕ} {here : Place} {count : ℕ} {now : List ℕ} → Gone was z k here count now → z < r.n → suc k ≡ r.n
        → now ≡ (take 15 was ++ records_of (plan r o)) ++ drop (record_place (moves r o)) was
    gone_round {was} {z} {k} {here} {count} {now} g hz e =
        whole piece (carries r o) now 15 r.n (λ i h. let (j, l, t) = turned_all r.n z i hz h in g.stand j i h (omega arith) t)
        ∙ (λ t. (g.head t ++ sym (records_plan r o) t) ++ g.rest t)
        ∙ ap (λ (k : ℕ). (take 15 was ++ records_of (plan r o)) ++ drop k was) (sym place_last)
