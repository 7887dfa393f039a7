-- Paths joined and taken apart.
use Rattle.std.proofs.Common.{◌≡◌, ℕ, ◌<◌, true, List, [], ◌∷◌, ◌++◌}
use Rattle.rules.specs.Rules.{Rules}
use Rattle.rules.specs.Paths.{Stages, Path, R, Exit, Holds, Closed, ReachLaws}
use Rattle.rules.specs.Paths.Path.{stay, silent, event}

pub join : {rules : Rules} {s t u : ℕ} {v w : List ℕ} → Path rules s v t → Path rules t w u → Path rules s (v ++ w) u
join stay q = q
join (silent a p) q = silent a (join p q)
join (event h a p) q = event h a (join p q)

-- silent arcs at the end
pub extend : {rules : Rules} {s t u : ℕ} {w : List ℕ} → Path rules s w t → Path rules t [] u → Path rules s w u
extend stay q = q
extend (silent a p) q = silent a (extend p q)
extend (event h a p) q = event h a (extend p q)

-- what a list of events means, event by event
abbrev pub Spelled : Rules → List ℕ → ℕ → ℕ → Type 0
Spelled rules [] s u = Path rules s [] u
Spelled rules (e ∷ w) s u = (m : ℕ) × (t : ℕ) × Path rules s [] m × (0 < e) × (rules.arc m e t ≡ true) × Path rules t w u

pub spelled : {rules : Rules} {s u : ℕ} {w : List ℕ} → Path rules s w u → Spelled rules w s u
spelled stay = stay
spelled (silent {w = []} a p) = silent a p
spelled (silent {w = e ∷ w} a p) = let h = spelled p in (h.0, h.1, silent a h.2, h.3, h.4, h.5)
spelled (event h a p) = (_, _, stay, h, a, p)

-- a path stops before its last event
pub before_last : {rules : Rules} (w : List ℕ) (e : ℕ) {s u : ℕ} → Path rules s (w ++ (e ∷ [])) u →
    (m : ℕ) × (t : ℕ) × Path rules s w m × (0 < e) × (rules.arc m e t ≡ true) × Path rules t [] u
before_last [] e p = spelled p
before_last (f ∷ w) e p =
    let h = spelled p in
    let k = before_last w e h.5 in
    (k.0, k.1, join h.2 (event h.3 h.4 k.2), k.3, k.4, k.5)

-- a closed set keeps what silent arcs reach from it
pub closed_path : {rules : Rules} {S : Stages} → Closed rules S → {m n : ℕ} → Path rules m [] n → S m ≡ true → S n ≡ true
closed_path c stay h = h
closed_path c (silent a p) h = closed_path c p (c _ _ h a)

pub reach_closed : {rules : Rules} {w : List ℕ} {S : Stages} → Holds S (R rules w) → Closed rules S
reach_closed h m n s a = (h n).1 (extend ((h m).0 s) (silent a stay))

pub exit_closed : (rules : Rules) (S : Stages) (e : ℕ) {T : Stages} → Holds T (Exit rules S e) → Closed rules T
exit_closed rules S e h m n s a = let x = (h m).0 s in (h n).1 (x.0, x.1, x.2, x.3, extend x.4 (silent a stay))

pub reach_stands : (rules : Rules) → ReachLaws rules
reach_stands rules = record {
  begins = λ S h. ((h 0).1 stay, reach_closed h, λ T z c n s. closed_path c ((h n).0 s) z);
  grows = λ w e S p h n. (
    λ q. let k = before_last w e q in (k.0, k.1, (h _).1 k.2, k.4, k.5),
    λ x. join ((h _).0 x.2) (event p x.3 x.4),
  );
  closed = λ w S h. reach_closed h;
}
