-- How the queue of a search changes.
use Rattle.std.specs.Prelude.{◌≡◌, ℕ, ◌+◌, ◌<◌, ◌≤◌, ◌≢◌, List, Option, length, slice_index, MatchOption}
use Rattle.search.specs.declared.queue.Queue.{Queue}
use Rattle.search.specs.Walks.{From}
use Rattle.search.specs.Queue.{at}

-- the node at place p of a queue
abbrev pub node_at : Queue → ℕ → ℕ
node_at q p = slice_index q.nodes.now p

-- its distance
abbrev pub distance_at : Queue → ℕ → ℕ
distance_at q p = at q.distance.now q.nodes.now p

-- each node in the queue is at the end of a walk of as many arcs as its distance
abbrev pub Walked : (ℕ → List ℕ) → List ℕ → Queue → Type 0
Walked nbr starts q = (p : ℕ) → p < q.tail → From nbr starts (node_at q p) (distance_at q p)

-- no node in the queue is further than d
abbrev pub Near : Queue → ℕ → Type 0
Near q d = (p : ℕ) → p < q.tail → distance_at q p ≤ d

-- the first i of these nodes are no further than d
abbrev pub Led : ℕ → List ℕ → ℕ → Queue → Type 0
Led i nodes d q = (j : ℕ) → j < i → slice_index q.distance.now (slice_index nodes j) ≤ d

-- the distances stand in the same memory
pub record SameMemory (q q' : Queue) : Type 0 where
  pub name : q'.distance.ghost_name ≡ q.distance.ghost_name
  pub long : length q'.distance.now ≡ length q.distance.now

-- nodes joined the queue: what was seen and queued stays as it is
pub record Grown (q q' : Queue) : Type 0 where
  pub memory : SameMemory q q'
  pub head : q'.head ≡ q.head
  pub longer : q.tail ≤ q'.tail
  pub queued : (p : ℕ) → p < q.tail → node_at q' p ≡ node_at q p
  pub seen : (v : ℕ) → slice_index q.distance.now v ≢ 65535 → slice_index q'.distance.now v ≡ slice_index q.distance.now v

-- a node was seen at distance d
pub record Saw (node d : ℕ) (q q' : Queue) : Type 0 where
  pub grown : Grown q q'
  pub walks : (nbr : ℕ → List ℕ) (starts : List ℕ) → From nbr starts node d → Walked nbr starts q → Walked nbr starts q'
  pub near : Near q' d
  pub led : slice_index q'.distance.now node ≤ d

-- the first i of these nodes were seen at distance d
pub record SawFirst (i : ℕ) (nodes : List ℕ) (d : ℕ) (q q' : Queue) : Type 0 where
  pub grown : Grown q q'
  pub walks : (nbr : ℕ → List ℕ) (starts : List ℕ) → ((j : ℕ) → j < length nodes → From nbr starts (slice_index nodes j) d) → Walked nbr starts q → Walked nbr starts q'
  pub near : Near q' d
  pub led : Led i nodes d q'

-- the node at the head of the queue is the next to visit, if there is one
abbrev pub Popped : Queue → Option ℕ → Queue → Type 0
Popped q r q' = MatchOption r ((q.tail ≤ q.head) × (q' ≡ q)) (λ node. (q.head < q.tail) × (node ≡ node_at q q.head) × (q' ≡ record q { head = q.head + 1 }))

-- before the visit of a node: it stands in the queue, and no node there is further than its neighbours may be
pub record Visiting (q : Queue) (node : ℕ) : Type 0 where
  pub queued : (p : ℕ) × (p < q.tail) × (node_at q p ≡ node)
  pub near : Near q (slice_index q.distance.now node + 1)
