-- The paths of a rule book, and the sets of stages that lists of events reach.
use Rattle.std.specs.Prelude.{◌≡◌, ℕ, ◌<◌, ◌≤◌, Bool, true, ◌↔◌, List, [], ◌∷◌, ◌++◌}
use Rattle.rules.specs.Rules.{Rules}

-- A set of stages.
abbrev pub Stages : Type 0
Stages = ℕ → Bool

-- A path from one stage to another along arcs, with the list of events that it spells: its labels without the silent ones.
pub data Path (rules : Rules) : ℕ → List ℕ → ℕ → Type 0 where
  stay : {s : ℕ} → Path rules s [] s
  silent : {s t u : ℕ} {w : List ℕ} → rules.arc s 0 t ≡ true → Path rules t w u → Path rules s w u
  event : {s t u e : ℕ} {w : List ℕ} → 0 < e → rules.arc s e t ≡ true → Path rules t w u → Path rules s (e ∷ w) u

-- R(w): the stages that a path from stage 0 spelling the list w reaches.
abbrev pub R : Rules → List ℕ → ℕ → Type 0
R rules w n = Path rules 0 w n

-- The exit of a set by an event: the stages reached from a member by one arc of that label and then silent arcs.
abbrev pub Exit : Rules → Stages → ℕ → ℕ → Type 0
Exit rules S e n = (m : ℕ) × (t : ℕ) × (S m ≡ true) × (rules.arc m e t ≡ true) × Path rules t [] n

-- The set S holds exactly the stages of P.
abbrev pub Holds : Stages → (ℕ → Type 0) → Type 0
Holds S P = (n : ℕ) → (S n ≡ true) ↔ P n

-- P and Q have the same stages.
abbrev pub Same : (ℕ → Type 0) → (ℕ → Type 0) → Type 0
Same P Q = (n : ℕ) → P n ↔ Q n

-- P has no stage.
abbrev pub Empty : (ℕ → Type 0) → Type 0
Empty P = (n : ℕ) → P n → ⊥

-- P has a stage.
abbrev pub Inhabited : (ℕ → Type 0) → Type 0
Inhabited P = (n : ℕ) × P n

-- An event of the book: 1 up to the number of its events.
abbrev pub Event : Rules → ℕ → Type 0
Event rules e = (0 < e) × (e ≤ rules.events)

-- A list of events of the book.
abbrev pub Word : Rules → List ℕ → Type 0
Word rules [] = Unit {0}
Word rules (e ∷ w) = Event rules e × Word rules w

-- No silent arc leaves the set.
abbrev pub Closed : Rules → Stages → Type 0
Closed rules S = (m n : ℕ) → S m ≡ true → rules.arc m 0 n ≡ true → S n ≡ true

-- The stages that paths spelling the list w reach from members of S.
abbrev pub From : Rules → Stages → List ℕ → ℕ → Type 0
From rules S w n = (m : ℕ) × (S m ≡ true) × Path rules m w n

-- How R grows from list to list.
pub record ReachLaws (rules : Rules) : Type 0 where
  -- The set of the empty list is the least closed set that holds stage 0.
  pub begins : (S : Stages) → Holds S (R rules []) →
      (S 0 ≡ true) × Closed rules S × ((T : Stages) → T 0 ≡ true → Closed rules T → (n : ℕ) → S n ≡ true → T n ≡ true)
  -- One more event at the end of a list takes the exit of its set.
  pub grows : (w : List ℕ) (e : ℕ) (S : Stages) → 0 < e → Holds S (R rules w) → Same (R rules (w ++ (e ∷ []))) (Exit rules S e)
  -- The set of a list is closed.
  pub closed : (w : List ℕ) (S : Stages) → Holds S (R rules w) → Closed rules S

-- What a closed set S means to one who holds it and takes events one by one.
pub record FollowerLaws (rules : Rules) (S : Stages) : Type 0 where
  -- The empty list leads from S to S itself.
  pub now_here : Same (From rules S []) (λ n. S n ≡ true)
  -- The exit T of S by an event is closed, and each list leads from T where the list with that event in front leads from S.
  pub moved_on : (e : ℕ) (T : Stages) → 0 < e → Holds T (Exit rules S e) →
      Closed rules T × ((w : List ℕ) → Same (From rules T w) (From rules S (e ∷ w)))
  -- Where the exit by an event is empty, no list that begins with the event leads anywhere.
  pub nowhere : (e : ℕ) → 0 < e → Empty (Exit rules S e) → (w : List ℕ) → Empty (From rules S (e ∷ w))

-- The theorems on paths.
pub record PathLaws : Type 0 where
  -- R grows in every book by these laws.
  pub reach : (rules : Rules) → ReachLaws rules
  -- A closed set is all that has to be known of the events so far.
  pub follower : (rules : Rules) (S : Stages) → Closed rules S → FollowerLaws rules S
