-- What the steps of a search leave true. Assumes nothing.
use Rattle.std.proofs.Common.{◌≡◌, ℕ, ◌+◌, ◌<◌, ◌≤◌, List, length, get_or, Some, sym, refl, ap, ◌∙◌, subst, subst₂, add-one, arith, below_more}
use Rattle.search.specs.declared.queue.Queue.{Queue}
use Rattle.search.specs.Walks.{From, stay, step}
use Rattle.search.specs.Visits.{node_at, distance_at, Walked, Near, Led, SameMemory, Grown, Saw, SawFirst, Popped}
use Rattle.search.proofs.Joining.{After}

pub grown_none : (q : Queue) → Grown q q
grown_none q = record { memory = record { name = refl; long = refl }; head = refl; longer = omega arith; queued = λ p h. refl; seen = λ v h. refl }

pub grown_trans : {a b c : Queue} → Grown a b → Grown b c → Grown a c
grown_trans g h =
    record {
      memory = record { name = h.memory.name ∙ g.memory.name; long = h.memory.long ∙ g.memory.long };
      head = h.head ∙ g.head;
      longer = omega (arith, g.longer, h.longer);
      queued = λ p l. h.queued p (omega (arith, g.longer)) ∙ g.queued p l;
      seen = λ v s. h.seen v (λ e. s (sym (g.seen v s) ∙ e)) ∙ g.seen v s;
    }

-- what is no further than d stays so
pub grown_led : {q q' : Queue} (i : ℕ) (nodes : List ℕ) (d : ℕ) → d < 65535 → Grown q q' → Led i nodes d q → Led i nodes d q'
grown_led {q} i nodes d small g h j l =
    let a : get_or q.distance.now (get_or nodes j 0) 0 ≤ d = h j l in
    omega (arith, g.seen (get_or nodes j 0) (omega arith))

-- a node is seen
pub saw : {q q' : Queue} {node d : ℕ} → After node d q.distance.now q.nodes.now q.tail q'.distance.now q'.nodes.now q'.tail
    → q'.head ≡ q.head → q'.distance.ghost_name ≡ q.distance.ghost_name → Saw node d q q'
saw a head name =
    record {
      grown = record { memory = record { name = name; long = a.long }; head = head; longer = a.longer; queued = a.queued; seen = a.seen };
      walks = a.walks;
      near = a.near;
      led = a.led;
    }

pub saw_more : {q q₁ q₂ : Queue} (i : ℕ) (nodes : List ℕ) (d : ℕ) → d < 65535 → i < length nodes → SawFirst i nodes d q q₁ → Saw (get_or nodes i 0) d q₁ q₂ → SawFirst (i + 1) nodes d q q₂
saw_more {q₂ = q₂} i nodes d few h w s =
    record {
      grown = grown_trans w.grown s.grown;
      walks = λ nbr starts ends ws. s.walks nbr starts (ends i h) (w.walks nbr starts ends ws);
      near = s.near;
      led = below_more (λ k. get_or q₂.distance.now (get_or nodes k 0) 0 ≤ d) i (grown_led i nodes d few s.grown w.led) s.led;
    }

-- one arc more
pub from_step : (nbr : ℕ → List ℕ) (starts : List ℕ) (u k i : ℕ) → i < length (nbr u) → From nbr starts u k → From nbr starts (get_or (nbr u) i 0) (k + 1)
from_step nbr starts u k i h w = rw add-one (w.0, w.1, step w.2 i h refl)

-- a distance in the queue is far below 65535
pub few : (q : Queue) (p : ℕ) → p < q.tail → distance_at q p + 1 < 65535
few q p h = omega (arith, q.queued.early p h, q.queued.room, q.queued.small)

-- the nodes before the head of the queue are visited
pub record Going (nbr : ℕ → List ℕ) (starts : List ℕ) (q : Queue) : Type 0 where
  pub upto : q.head ≤ q.tail
  pub walks : Walked nbr starts q
  pub near : q.head < q.tail → Near q (distance_at q q.head + 1)
  pub started : Led (length starts) starts 0 q
  pub done : (p : ℕ) → p < q.head → Led (length (nbr (node_at q p))) (nbr (node_at q p)) (distance_at q p + 1) q

-- before the first visit
pub going_none : (nbr : ℕ → List ℕ) (starts : List ℕ) {q q' : Queue} → q.head ≡ 0 → q.tail ≡ 0 → SawFirst (length starts) starts 0 q q' → Going nbr starts q'
going_none nbr starts unvisited empty w =
    record {
      upto = omega (arith, w.grown.head);
      walks = w.walks nbr starts (λ j h. (j, h, stay refl)) (λ p h. absurd (omega arith));
      near = λ h p l. omega (arith, w.near p l);
      started = w.led;
      done = λ p h. absurd (omega (arith, w.grown.head));
    }

module _ {nbr : ℕ → List ℕ} {starts : List ℕ} {q q₁ : Queue} {node : ℕ} (g : Going nbr starts q) (popped : Popped q (Some node) q₁) where
  pub kept : {q₀ q₂ : Queue} → SameMemory q₀ q → Grown q₁ q₂ → SameMemory q₀ q₂
  kept {q₀} {q₂} m grown =
      let w = subst (λ q. Grown q q₂) popped.2 grown in
      record { name = w.memory.name ∙ m.name; long = w.memory.long ∙ m.long }

  -- one visit more
  pub going_more : {q₂ : Queue} → SawFirst (length (nbr node)) (nbr node) (get_or q₁.distance.now node 0 + 1) q₁ q₂ → Going nbr starts q₂
  going_more {q₂} visited =
      record {
        upto = omega (arith, w.grown.head, w.grown.longer, popped.0);
        walks = w.walks nbr starts (λ j h. from_step nbr starts (node_at q q.head) (distance_at q q.head) j h (g.walks q.head popped.0)) g.walks;
        near = λ h p l. omega (arith, w.near p l, same q.head popped.0, w.grown.head, q₂.queued.ordered q.head q₂.head (omega (arith, w.grown.head)) h);
        started = grown_led (length starts) starts 0 (omega arith) w.grown g.started;
        done = λ p h.
            below_more (λ p. Led (length (nbr (node_at q₂ p))) (nbr (node_at q₂ p)) (distance_at q₂ p + 1) q₂) q.head
            (λ p l. moved p (omega arith) (grown_led (length (nbr (node_at q p))) (nbr (node_at q p)) (distance_at q p + 1) (few q p (omega arith)) w.grown (g.done p l)))
            (moved q.head popped.0 w.led)
            p (omega (arith, w.grown.head));
      }
    where
      q₁' : Queue
      q₁' = record q { head = q.head + 1 }

      w : SawFirst (length (nbr (node_at q q.head))) (nbr (node_at q q.head)) (distance_at q q.head + 1) q₁' q₂
      w = subst₂ (λ u q. SawFirst (length (nbr u)) (nbr u) (get_or q.distance.now u 0 + 1) q q₂) popped.1 popped.2 visited

      same : (p : ℕ) → p < q.tail → distance_at q₂ p ≡ distance_at q p
      same p h = ap (λ v. get_or q₂.distance.now v 0) (w.grown.queued p h) ∙ w.grown.seen (node_at q p) (omega (arith, few q p h))

      moved : (p : ℕ) → p < q.tail → Led (length (nbr (node_at q p))) (nbr (node_at q p)) (distance_at q p + 1) q₂ → Led (length (nbr (node_at q₂ p))) (nbr (node_at q₂ p)) (distance_at q₂ p + 1) q₂
      moved p h = subst₂ (λ u d. Led (length (nbr u)) (nbr u) (d + 1) q₂) (sym (w.grown.queued p h)) (sym (same p h))
