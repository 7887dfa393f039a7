-- What a rule book says, and what is true of every rule book.
use Rattle.std.specs.Prelude.{◌≡◌, ℕ, zero, suc, ◌+◌, ◌<◌, ◌≤◌, Bool, true, false, cond, ◌&&◌, ◌||◌, ◌==◌}

-- A rule book: a nondeterministic automaton with silent arcs. Its events are 1 to `events`. Its stages are the states,
-- of which the live ones may be used; orders start at stage 0. A live stage has a mark. An arc (from, label, to) that
-- stands leads from a stage to a stage, by the event that is its label or, where the label is 0, silently.
pub record Rules : Type 0 where
  pub events : ℕ
  pub live : ℕ → Bool
  pub mark : ℕ → ℕ
  pub arc : ℕ → ℕ → ℕ → Bool

-- Two books are alike: events, live stages, their marks, and arcs are equal.
pub record Alike (a b : Rules) : Type 0 where
  pub events : a.events ≡ b.events
  pub live : (n : ℕ) → a.live n ≡ b.live n
  pub mark : (n : ℕ) → a.live n ≡ true → a.mark n ≡ b.mark n
  pub arc : (m e n : ℕ) → a.arc m e n ≡ b.arc m e n

-- The fresh book with so many events: stage 0 is live with mark 0, and no arc stands.
abbrev pub fresh : ℕ → Rules
fresh E = record { events = E; live = λ n. (n == 0); mark = λ n. 0; arc = λ m e n. false }

-- The test passes at some number below n.
unfoldable pub any_below : ℕ → (ℕ → Bool) → Bool
any_below zero p = false
any_below (suc n) p = p n || any_below n p

-- The sum over the numbers below n.
unfoldable pub sum_below : ℕ → (ℕ → ℕ) → ℕ
sum_below zero f = 0
sum_below (suc n) f = f n + sum_below n f

-- Whether an arc leaves or enters the stage. No book has a stage above 255, and the ends of its arcs are live.
abbrev pub has_any_arc : Rules → ℕ → Bool
has_any_arc b n = any_below 256 (λ m. b.live m && any_below (suc b.events) (λ e. b.arc n e m || b.arc m e n))

-- How many arcs leave the stage m.
abbrev pub arcs_from : Rules → ℕ → ℕ
arcs_from b m = sum_below 256 (λ n. cond (b.live n) (sum_below (suc b.events) (λ e. cond (b.arc m e n) 1 0)) 0)

-- How many arcs stand.
abbrev pub standing : Rules → ℕ
standing b = sum_below 256 (λ m. cond (b.live m) (arcs_from b m) 0)

-- What is true of every book of width W, which is at most 256: 1 to 15 events; stage 0 is live; live stages are below W
-- and have marks up to 7; arcs join live stages and have a label up to the number of events; at most 1,024 stand. No arc
-- can stand twice, since an arc stands or does not.
pub record WellFormed (W : ℕ) (b : Rules) : Type 0 where
  pub some_event : 0 < b.events
  pub few_events : b.events ≤ 15
  pub start_live : b.live 0 ≡ true
  pub few_stages : (n : ℕ) → b.live n ≡ true → n < W
  pub small_mark : (n : ℕ) → b.live n ≡ true → b.mark n ≤ 7
  pub arc_fits : (m e n : ℕ) → b.arc m e n ≡ true → (b.live m ≡ true) × (b.live n ≡ true) × (e ≤ b.events)
  pub few_arcs : standing b ≤ 1024
