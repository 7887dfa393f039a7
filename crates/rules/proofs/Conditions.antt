-- What the conditions on a change mean of a well-formed book, and that the book stays well formed.
use Rattle.std.proofs.Common.{◌≡◌, ℕ, suc, ◌<◌, ◌≤◌, Bool, true, false, cond, not, ◌&&◌, ◌||◌, eqb, ltb, ◌⊎◌, Some, None, Option, sym, refl, ap, ◌∙◌, subst, inl, inr, arith}
use Rattle.std.proofs.lemmas.Bool.{false≢true, both_ways, eqb-true, eqb-false, ne_eqb, ltb-true, ltb-false, lt-ltb, not-false, and_parts, and_from, or_cases, or_parts, or_left, or_right, false_from_ne_true}
use Rattle.rules.specs.declared.change.Arc.{Arc as AnArc}
use Rattle.rules.specs.declared.change.Change.{Change}
use Rattle.rules.specs.declared.change.Change.TheVariants.{Stage, Drop, Arc, Cut, Mark}
use Rattle.rules.specs.declared.change.BookFault.{BookFault}
use Rattle.rules.specs.declared.change.BookFault.TheVariants.{OutOfRange, LiveAlready, NotLive, DropsStart, HasArcs, ArcStands, ArcAbsent, BookFull}
use Rattle.rules.specs.Rules.{Rules, WellFormed, fresh, has_any_arc, standing, any_below}
use Rattle.rules.specs.Changes.{put, put_arc, changed, first_fault, Allowed, Conditions, ChangeLaws}
use Rattle.rules.proofs.Below.{any_some, some_any}
use Rattle.rules.proofs.Faults.{Fine, fine_ends, ends_fine, arc_first, cut_first, stage_free, mark_free}
use Rattle.rules.proofs.ArcCounts.{Joins, arcs_count, arcs_kept, arcs_added, no_arcs}
use Rattle.std.proofs.lemmas.Option.{none-some}

pub formed_joins : (W : ℕ) (b : Rules) → W ≤ 256 → WellFormed W b → Joins b
formed_joins W b w g = record { low = λ n l. let h = g.few_stages n l in omega arith; ends = g.arc_fits }

-- a stage has arcs exactly if one leaves or enters it
module _ (b : Rules) (g : Joins b) where
  abbrev Joined : ℕ → Type 0
  Joined n = (m : ℕ) × (e : ℕ) × (k : ℕ) × (b.arc m e k ≡ true) × ((m ≡ n) ⊎ (k ≡ n))

  pub joined_there : (n : ℕ) → has_any_arc b n ≡ true → Joined n
  joined_there n h =
      let p = any_some 256 (λ m. b.live m && any_below (suc b.events) (λ e. b.arc n e m || b.arc m e n)) h in
      let q = and_parts (b.live p.0) _ p.2 in
      let r = any_some (suc b.events) (λ e. b.arc n e p.0 || b.arc p.0 e n) q.1 in
      go p.0 r.0 (or_cases (b.arc n r.0 p.0) (b.arc p.0 r.0 n) r.2)
    where
      go : (m e : ℕ) → (b.arc n e m ≡ true) ⊎ (b.arc m e n ≡ true) → Joined n
      go m e (inl x) = (n, e, m, x, inl refl)
      go m e (inr x) = (m, e, n, x, inr refl)

  pub joined_back : (n : ℕ) → Joined n → has_any_arc b n ≡ true
  joined_back n (m, e, k, h, w) = go w
    where
      found : (x : ℕ) → b.live x ≡ true → (b.arc n e x || b.arc x e n) ≡ true → has_any_arc b n ≡ true
      found x l t = some_any 256 (λ m. b.live m && any_below (suc b.events) (λ e. b.arc n e m || b.arc m e n)) x (g.low x l)
          (and_from (b.live x) _ l (some_any (suc b.events) (λ e. b.arc n e x || b.arc x e n) e (omega (arith, (g.ends m e k h).2)) t))

      go : (m ≡ n) ⊎ (k ≡ n) → has_any_arc b n ≡ true
      go (inl p) = found k (g.ends m e k h).1 (or_left (b.arc n e k) (b.arc k e n) (subst (λ (x : ℕ). b.arc x e k ≡ true) p h))
      go (inr p) = found m (g.ends m e k h).0 (or_right (b.arc n e m) (b.arc m e n) (subst (λ (x : ℕ). b.arc m e x ≡ true) p h))

-- a condition that does not hold is passed over
past : (x : Bool) (f : BookFault) (o : Option BookFault) → cond x (Some f) o ≡ None → (x ≡ false) × (o ≡ None)
past true f o h = absurd (none-some _ (sym h))
past false f o h = (refl, h)

by_past : (x : Bool) (f : BookFault) (o : Option BookFault) → x ≡ false → o ≡ None → cond x (Some f) o ≡ None
by_past x f o p q = ap (λ (v : Bool). cond v (Some f) o) p ∙ q

-- no condition holds exactly if the change may be made
module _ (W : ℕ) (b : Rules) (g : Joins b) where
  inside : (n : ℕ) → not (ltb n W) ≡ false → n < W
  inside n h = ltb-true n W (not-false (ltb n W) h)

  pub allow : (ch : Change) → first_fault W b ch ≡ None → Allowed W b ch
  allow (Stage n m) h =
      let p = past (not (ltb n W) || ltb 7 m) OutOfRange _ h in
      let q = or_parts (not (ltb n W)) (ltb 7 m) p.0 in
      (inside n q.0, ltb-false 7 m q.1, (past (b.live n) LiveAlready None p.1).0)
  allow (Drop n) h =
      let p = past (not (ltb n W)) OutOfRange _ h in
      let q = past (not (b.live n)) NotLive _ p.1 in
      let r = past (eqb n 0) DropsStart _ q.1 in
      let s = past (has_any_arc b n) HasArcs None r.1 in (
        inside n p.0,
        not-false (b.live n) q.0,
        eqb-false n 0 r.0,
        λ m e k a. (
          (λ x. both_ways (has_any_arc b n) s.0 (joined_back b g n (m, e, k, a, inl x))),
          (λ x. both_ways (has_any_arc b n) s.0 (joined_back b g n (m, e, k, a, inr x))),
        ),
      )
  allow (Arc x) h =
      let p = past (not (ltb x.from W) || (ltb b.events x.label || not (ltb x.to W))) OutOfRange _ h in
      let q = past (not (b.live x.from) || not (b.live x.to)) NotLive _ p.1 in
      let r = past (b.arc x.from x.label x.to) ArcStands _ q.1 in
      let s = past (not (ltb (standing b) 1024)) BookFull None r.1 in
      let f : Fine W b x.from x.label x.to = record { inside = p.0; alive = q.0 } in
      (fine_ends W b x.from x.label x.to f, r.0, ltb-true (standing b) 1024 (not-false (ltb (standing b) 1024) s.0))
  allow (Cut x) h =
      let p = past (not (ltb x.from W) || (ltb b.events x.label || not (ltb x.to W))) OutOfRange _ h in
      let q = past (not (b.live x.from) || not (b.live x.to)) NotLive _ p.1 in
      let r = past (not (b.arc x.from x.label x.to)) ArcAbsent None q.1 in
      let f : Fine W b x.from x.label x.to = record { inside = p.0; alive = q.0 } in
      (fine_ends W b x.from x.label x.to f, not-false (b.arc x.from x.label x.to) r.0)
  allow (Mark n m) h =
      let p = past (not (ltb n W) || ltb 7 m) OutOfRange _ h in
      let q = or_parts (not (ltb n W)) (ltb 7 m) p.0 in
      (inside n q.0, ltb-false 7 m q.1, not-false (b.live n) (past (not (b.live n)) NotLive None p.1).0)

  pub clear : (ch : Change) → Allowed W b ch → first_fault W b ch ≡ None
  clear (Stage n m) h = stage_free W b n m h.0 h.1 h.2
  clear (Drop n) h =
      by_past (not (ltb n W)) OutOfRange _ (ap not (lt-ltb n W h.0))
      (by_past (not (b.live n)) NotLive _ (ap not h.1)
      (by_past (eqb n 0) DropsStart _ (ne_eqb n 0 h.2)
      (by_past (has_any_arc b n) HasArcs None (false_from_ne_true (has_any_arc b n) (λ t. none (joined_there b g n t))) refl)))
    where
      none : Joined b g n → ⊥
      none (m, e, k, a, inl x) = (h.3 m e k a).0 x
      none (m, e, k, a, inr x) = (h.3 m e k a).1 x
  clear (Arc x) h =
      arc_first W b x (ends_fine W b x.from x.label x.to h.0) false false h.1 (ap not (lt-ltb (standing b) 1024 h.2))
  clear (Cut x) h = cut_first W b x (ends_fine W b x.from x.label x.to h.0) true h.1
  clear (Mark n m) h = mark_free W b n m h.0 h.1 h.2

-- the value at the place that was written, and at any other
abbrev Put : {A : Type 0} → (ℕ → A) → ℕ → A → ℕ → Type 0
Put f n v k = ((k ≡ n) × (put f n v k ≡ v)) ⊎ ((k ≡ n → ⊥) × (put f n v k ≡ f k))

pub put_cases : {A : Type 0} (f : ℕ → A) (n : ℕ) (v : A) (k : ℕ) → ((k ≡ n) × (put f n v k ≡ v)) ⊎ ((k ≡ n → ⊥) × (put f n v k ≡ f k))
put_cases f n v k = go (eqb k n) refl
  where
    go : (b : Bool) → eqb k n ≡ b → ((k ≡ n) × (cond b v (f k) ≡ v)) ⊎ ((k ≡ n → ⊥) × (cond b v (f k) ≡ f k))
    go true h = inl (eqb-true k n h, refl)
    go false h = inr (eqb-false k n h, refl)

pub put_arc_cases : (f : ℕ → ℕ → ℕ → Bool) (m e n : ℕ) (v : Bool) (x y z : ℕ) →
    ((x ≡ m) × (y ≡ e) × (z ≡ n) × (put_arc f m e n v x y z ≡ v)) ⊎ (put_arc f m e n v x y z ≡ f x y z)
put_arc_cases f m e n v x y z = go (eqb x m && (eqb y e && eqb z n)) refl
  where
    go : (b : Bool) → (eqb x m && (eqb y e && eqb z n)) ≡ b →
        ((x ≡ m) × (y ≡ e) × (z ≡ n) × (cond b v (f x y z) ≡ v)) ⊎ (cond b v (f x y z) ≡ f x y z)
    go true h = let p = and_parts (eqb x m) (eqb y e && eqb z n) h in let q = and_parts (eqb y e) (eqb z n) p.1 in
        inl (eqb-true x m p.0, eqb-true y e q.0, eqb-true z n q.1, refl)
    go false h = inr refl

still_live : (f : ℕ → Bool) (n k : ℕ) → f k ≡ true → put f n true k ≡ true
still_live f n k h = go (put_cases f n true k)
  where
    go : Put f n true k → put f n true k ≡ true
    go (inl x) = x.1
    go (inr x) = x.1 ∙ h

other_live : (f : ℕ → Bool) (n k : ℕ) → (k ≡ n → ⊥) → f k ≡ true → put f n false k ≡ true
other_live f n k d h = go (put_cases f n false k)
  where
    go : Put f n false k → put f n false k ≡ true
    go (inl x) = absurd (d x.0)
    go (inr x) = x.1 ∙ h

-- all but the number of arcs, of a book whose stages and marks are changed
module _ (W : ℕ) (b : Rules) (w : W ≤ 256) (g : WellFormed W b) where
  formed_stage : (n m : ℕ) → Allowed W b (Stage n m) → WellFormed W (changed b (Stage n m))
  formed_stage n m h = record {
    some_event = g.some_event;
    few_events = g.few_events;
    start_live = still_live b.live n 0 g.start_live;
    few_stages = λ k l. low k l (put_cases b.live n true k);
    small_mark = λ k l. small k l (put_cases b.live n true k) (put_cases b.mark n m k);
    arc_fits = fits;
    few_arcs = let s = arcs_kept b (changed b (Stage n m)) (formed_joins W b w g)
        (record { low = λ k l. let i = low k l (put_cases b.live n true k) in omega arith; ends = fits }) (λ x e y a. a) in
        let t = g.few_arcs in omega arith;
  }
    where
      low : (k : ℕ) → put b.live n true k ≡ true → Put b.live n true k → k < W
      low k l (inl x) = let e = x.0 in let i = h.0 in omega arith
      low k l (inr x) = g.few_stages k (sym x.1 ∙ l)

      small : (k : ℕ) → put b.live n true k ≡ true → Put b.live n true k → Put b.mark n m k → put b.mark n m k ≤ 7
      small k l x (inl y) = subst (λ (z : ℕ). z ≤ 7) (sym y.1) h.1
      small k l (inl x) (inr y) = absurd (y.0 x.0)
      small k l (inr x) (inr y) = subst (λ (z : ℕ). z ≤ 7) (sym y.1) (g.small_mark k (sym x.1 ∙ l))

      fits : (x e y : ℕ) → b.arc x e y ≡ true → (put b.live n true x ≡ true) × (put b.live n true y ≡ true) × (e ≤ b.events)
      fits x e y a = let f = g.arc_fits x e y a in (still_live b.live n x f.0, still_live b.live n y f.1, f.2)

  formed_drop : (n : ℕ) → Allowed W b (Drop n) → WellFormed W (changed b (Drop n))
  formed_drop n h = record {
    some_event = g.some_event;
    few_events = g.few_events;
    start_live = other_live b.live n 0 (λ e. h.2 (sym e)) g.start_live;
    few_stages = λ k l. g.few_stages k (was k l (put_cases b.live n false k));
    small_mark = λ k l. g.small_mark k (was k l (put_cases b.live n false k));
    arc_fits = fits;
    few_arcs = let s = arcs_kept b (changed b (Drop n)) (formed_joins W b w g)
        (record { low = λ k l. let i = g.few_stages k (was k l (put_cases b.live n false k)) in omega arith; ends = fits }) (λ x e y a. a) in
        let t = g.few_arcs in omega arith;
  }
    where
      was : (k : ℕ) → put b.live n false k ≡ true → Put b.live n false k → b.live k ≡ true
      was k l (inl x) = absurd (false≢true (sym x.1 ∙ l))
      was k l (inr x) = sym x.1 ∙ l

      fits : (x e y : ℕ) → b.arc x e y ≡ true → (put b.live n false x ≡ true) × (put b.live n false y ≡ true) × (e ≤ b.events)
      fits x e y a = let f = g.arc_fits x e y a in let d = h.3 x e y a in
          (other_live b.live n x d.0 f.0, other_live b.live n y d.1 f.1, f.2)

  -- the same stages and marks, with the arcs of `arc`, which are all fit, and few
  formed_arcs : (arc : ℕ → ℕ → ℕ → Bool) → ((x f y : ℕ) → arc x f y ≡ true → (b.live x ≡ true) × (b.live y ≡ true) × (f ≤ b.events)) →
      standing (record { events = b.events; live = b.live; mark = b.mark; arc = arc }) ≤ 1024 →
      WellFormed W (record { events = b.events; live = b.live; mark = b.mark; arc = arc })
  formed_arcs arc fits few = record {
    some_event = g.some_event;
    few_events = g.few_events;
    start_live = g.start_live;
    few_stages = g.few_stages;
    small_mark = g.small_mark;
    arc_fits = fits;
    few_arcs = few;
  }

  abbrev PutArc : ℕ → ℕ → ℕ → Bool → ℕ → ℕ → ℕ → Type 0
  PutArc m e n v x f y = ((x ≡ m) × (f ≡ e) × (y ≡ n) × (put_arc b.arc m e n v x f y ≡ v)) ⊎ (put_arc b.arc m e n v x f y ≡ b.arc x f y)

  formed_arc : (r : AnArc) → Allowed W b (Arc r) → WellFormed W (changed b (Arc r))
  formed_arc r h = formed_arcs (put_arc b.arc r.from r.label r.to true) (λ x f y a. fits x f y a (put_arc_cases b.arc r.from r.label r.to true x f y))
      (let s = arcs_added b (changed b (Arc r)) (formed_joins W b w g)
      (record { low = (formed_joins W b w g).low; ends = λ x f y a. fits x f y a (put_arc_cases b.arc r.from r.label r.to true x f y) }) (r.from, r.label, r.to)
      (λ x f y a. new x f y a (put_arc_cases b.arc r.from r.label r.to true x f y)) in
      let t = h.2 in omega arith)
    where
      fits : (x f y : ℕ) → put_arc b.arc r.from r.label r.to true x f y ≡ true → PutArc r.from r.label r.to true x f y →
          (b.live x ≡ true) × (b.live y ≡ true) × (f ≤ b.events)
      fits x f y a (inl z) = rw (z.0, z.1, z.2) (h.0.from_live, h.0.to_live, h.0.label)
      fits x f y a (inr z) = g.arc_fits x f y (sym z ∙ a)

      new : (x f y : ℕ) → put_arc b.arc r.from r.label r.to true x f y ≡ true → PutArc r.from r.label r.to true x f y →
          (◌≡◌ {A = ℕ × ℕ × ℕ} (x, f, y) (r.from, r.label, r.to)) ⊎ (b.arc x f y ≡ true)
      new x f y a (inl z) = inl (λ i. (z.0 i, z.1 i, z.2 i))
      new x f y a (inr z) = inr (sym z ∙ a)

  formed_cut : (r : AnArc) → WellFormed W (changed b (Cut r))
  formed_cut r = formed_arcs (put_arc b.arc r.from r.label r.to false) (λ x f y a. g.arc_fits x f y (old x f y a (put_arc_cases b.arc r.from r.label r.to false x f y)))
      (let s = arcs_kept b (changed b (Cut r)) (formed_joins W b w g)
      (record {
        low = (formed_joins W b w g).low;
        ends = λ x f y a. g.arc_fits x f y (old x f y a (put_arc_cases b.arc r.from r.label r.to false x f y));
      }) (λ x f y a. old x f y a (put_arc_cases b.arc r.from r.label r.to false x f y)) in
      let t = g.few_arcs in omega arith)
    where
      old : (x f y : ℕ) → put_arc b.arc r.from r.label r.to false x f y ≡ true → PutArc r.from r.label r.to false x f y → b.arc x f y ≡ true
      old x f y a (inl z) = absurd (false≢true (sym z.3 ∙ a))
      old x f y a (inr z) = sym z ∙ a

  formed_mark : (n m : ℕ) → Allowed W b (Mark n m) → WellFormed W (changed b (Mark n m))
  formed_mark n m h = record {
    some_event = g.some_event;
    few_events = g.few_events;
    start_live = g.start_live;
    few_stages = g.few_stages;
    small_mark = λ k l. small k l (put_cases b.mark n m k);
    arc_fits = g.arc_fits;
    few_arcs = g.few_arcs;
  }
    where
      small : (k : ℕ) → b.live k ≡ true → Put b.mark n m k → put b.mark n m k ≤ 7
      small k l (inl y) = subst (λ (z : ℕ). z ≤ 7) (sym y.1) h.1
      small k l (inr y) = subst (λ (z : ℕ). z ≤ 7) (sym y.1) (g.small_mark k l)

  pub formed_change : (ch : Change) → Allowed W b ch → WellFormed W (changed b ch)
  formed_change (Stage n m) h = formed_stage n m h
  formed_change (Drop n) h = formed_drop n h
  formed_change (Arc r) h = formed_arc r h
  formed_change (Cut r) h = formed_cut r
  formed_change (Mark n m) h = formed_mark n m h

  pub conditions : Conditions W b
  conditions = let j = formed_joins W b w g in record {
    counts = arcs_count b j;
    joined = λ n. (joined_there b j n, joined_back b j n);
    allowed = λ ch. (allow W b j ch, clear W b j ch);
    stays = λ ch h. formed_change ch (allow W b j ch h);
  }

pub formed_fresh : (W E : ℕ) → 0 < W → 0 < E → E ≤ 15 → WellFormed W (fresh E)
formed_fresh W E w p q = record {
  some_event = p;
  few_events = q;
  start_live = refl;
  few_stages = λ n l. let e = eqb-true n 0 l in omega arith;
  small_mark = λ n l. omega arith;
  arc_fits = λ m e n a. absurd (false≢true a);
  few_arcs = let z = no_arcs (fresh E) (λ m e n. refl) in omega arith;
}

pub change_laws : ChangeLaws
change_laws = record { begins = formed_fresh; means = λ W b w g. conditions W b w g }
