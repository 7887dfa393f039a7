-- Walks in a graph, and what a search of it tells. A graph is given by its nodes, the numbers below n, and the
-- list of neighbours of each node. Assumes nothing.
use Rattle.std.specs.Prelude.{◌≡◌, ℕ, suc, ◌<◌, ◌≤◌, ◌↔◌, List, length, slice_index}

-- at most 4096 nodes, each with at most 4096 neighbours, all of them nodes
pub record Lawful (n : ℕ) (nbr : ℕ → List ℕ) : Type 0 where
  pub few : n ≤ 4096
  pub short : (u : ℕ) → u < n → length (nbr u) ≤ 4096
  pub within : (u i : ℕ) → u < n → i < length (nbr u) → slice_index (nbr u) i < n

-- a walk of k arcs from s to v: each arc leads to a neighbour, at some place of the list of neighbours
pub data Walk (nbr : ℕ → List ℕ) (s : ℕ) : ℕ → ℕ → Type 0 where
  stay : {v : ℕ} → s ≡ v → Walk nbr s v 0
  step : {u v k : ℕ} → Walk nbr s u k → (i : ℕ) → i < length (nbr u) → slice_index (nbr u) i ≡ v → Walk nbr s v (suc k)

-- a walk of k arcs from one of the starts to v
abbrev pub From : (ℕ → List ℕ) → List ℕ → ℕ → ℕ → Type 0
From nbr starts v k = (j : ℕ) × (j < length starts) × Walk nbr (slice_index starts j) v k

-- d is the least number of which P holds
pub record Least (P : ℕ → Type 0) (d : ℕ) : Type 0 where
  pub some : P d
  pub least : (k : ℕ) → P k → d ≤ k

-- what x tells of P: the least number of which it holds, or 65535 if it holds of none
pub record Tells (P : ℕ → Type 0) (x : ℕ) : Type 0 where
  pub reached : (d : ℕ) → d < 65535 → (x ≡ d) ↔ Least P d
  pub unreached : (x ≡ 65535) ↔ ((k : ℕ) → P k → ⊥)

-- each start is a node
abbrev pub Starting : ℕ → List ℕ → Type 0
Starting n starts = (j : ℕ) → j < length starts → slice_index starts j < n

-- the memory suffices and each start is a node
pub record Fit (n : ℕ) (starts distance work : List ℕ) : Type 0 where
  pub distances : n ≤ length distance
  pub queue : n ≤ length work
  pub starting : Starting n starts

-- the distances after a search, where they were `old` before: at each node the number of arcs of a shortest walk from
-- a start, or 65535 if there is none; places beyond the nodes are unaltered
pub record Searched (n : ℕ) (nbr : ℕ → List ℕ) (starts old new : List ℕ) : Type 0 where
  pub nodes : (v : ℕ) → v < n → Tells (From nbr starts v) (slice_index new v)
  pub beyond : (v : ℕ) → n ≤ v → slice_index new v ≡ slice_index old v
