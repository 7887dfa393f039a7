-- A fresh book takes the canonical changes, and is then alike.
use Rattle.std.proofs.Common.{◌≡◌, ℕ, zero, suc, ◌<◌, ◌≤◌, Bool, true, false, cond, not, ◌&&◌, eqb, ◌⊎◌, List, [], ◌∷◌, ◌++◌, map, sym, refl, ap, ◌∙◌, subst, inl, inr, arith}
use Rattle.std.proofs.lemmas.Bool.{false≢true, both_ways, eqb-true, eqb-false, eq-eqb, ne_eqb, lt-ltb, cases_eq, cases_lt, cases_Bool, false_from_ne_true}
use Rattle.rules.specs.declared.change.Arc.{Arc as AnArc}
use Rattle.rules.specs.declared.change.Change.{Change}
use Rattle.rules.specs.declared.change.Change.TheVariants.{Stage, Arc, Mark}
use Rattle.rules.specs.Rules.{Rules, Alike, WellFormed, fresh, sum_below, arcs_from, standing}
use Rattle.rules.specs.Changes.{put, put_arc, changed, Leads}
use Rattle.rules.specs.Counts.{Among, NoRepeat}
use Rattle.book.proofs.SlotWrites.{same_arc, arc_same, bit_one, bit_none}
use Rattle.rules.proofs.Below.{sum_le, sum_lt}
use Rattle.rules.proofs.Faults.{Fine, ends_fine, arc_first, stage_free, mark_free}
use Rattle.rules.specs.Listing.{each_below}
use Rattle.book_text.specs.Canonical.{stage_change, stage_changes, Ascending, CanonicalChanges, CanonicalLaws}
use Rattle.book_text.proofs.Unique.{before_itself, one_text}

pub leads_append : (W : ℕ) (xs ys : List Change) (a b c : Rules) → Leads W xs a b → Leads W ys b c → Leads W (xs ++ ys) a c
leads_append W [] ys a b c p q = subst (λ (r : Rules). Leads W ys r c) (sym p) q
leads_append W (x ∷ xs) ys a b c p q = (p.0, leads_append W xs ys (changed a x) b c p.1 q)

leads_each : (W : ℕ) (f : ℕ → List Change) (P : ℕ → Rules → Type 0) (n : ℕ) →
    ((k : ℕ) (r : Rules) → k < n → P k r → (next : Rules) × Leads W (f k) r next × P (suc k) next) →
    (r : Rules) → P 0 r → (next : Rules) × Leads W (each_below n f) r next × P n next
unfolding each_below
leads_each W f P zero step r p = (r, refl, p)
leads_each W f P (suc n) step r p =
    let a = leads_each W f P n (λ k q lt. step k q (omega arith)) r p in
    let s = step n a.0 (omega arith) a.2 in
    (s.0, leads_append W (each_below n f) (f n) r a.0 s.0 a.1 s.1, s.2)

-- the stages below k are made
record Staged (b : Rules) (k : ℕ) (r : Rules) : Type 0 where
  pub events : r.events ≡ b.events
  pub inside : (n : ℕ) → n < k → r.live n ≡ b.live n
  pub outside : (n : ℕ) → k ≤ n → r.live n ≡ eqb n 0
  pub mark : (n : ℕ) → n < k → b.live n ≡ true → r.mark n ≡ b.mark n
  pub arc : (x y z : ℕ) → r.arc x y z ≡ false

put_same : {A : Type 0} (f : ℕ → A) (n : ℕ) (v : A) (k : ℕ) → k ≡ n → put f n v k ≡ v
put_same f n v k e = ap (λ (t : Bool). cond t v (f k)) (eq-eqb k n e)

put_other : {A : Type 0} (f : ℕ → A) (n : ℕ) (v : A) (k : ℕ) → (k ≡ n → ⊥) → put f n v k ≡ f k
put_other f n v k d = ap (λ (t : Bool). cond t v (f k)) (ne_eqb k n d)

module _ (W : ℕ) (b : Rules) (wide : W ≤ 256) (g : WellFormed W b) where
  abbrev Next : ℕ → Rules → List Change → Type 0
  Next k r cs = (next : Rules) × Leads W cs r next × Staged b (suc k) next

  -- stage 0 has its mark
  first : (r : Rules) → Staged b 0 r → Next 0 r (Mark 0 (b.mark 0) ∷ [])
  first r s = (
    changed r (Mark 0 (b.mark 0)),
    (mark_free W r 0 (b.mark 0) (g.few_stages 0 g.start_live) (g.small_mark 0 g.start_live) (s.outside 0 (omega arith)), refl),
    record {
      events = s.events;
      inside = λ n lt. let e : n ≡ 0 = omega arith in s.outside n (omega arith) ∙ eq-eqb n 0 e ∙ sym (ap b.live e ∙ g.start_live);
      outside = λ n le. s.outside n (omega arith);
      mark = λ n lt h. let e : n ≡ 0 = omega arith in put_same r.mark 0 (b.mark 0) n e ∙ ap b.mark (sym e);
      arc = s.arc;
    },
  )

  -- a live stage is made
  made : (k : ℕ) (r : Rules) → 0 < k → b.live k ≡ true → Staged b k r → Next k r (Stage k (b.mark k) ∷ [])
  made k r lt h s = (
    changed r (Stage k (b.mark k)),
    (stage_free W r k (b.mark k) (g.few_stages k h) (g.small_mark k h) (s.outside k (omega arith) ∙ ne_eqb k 0 (omega arith)), refl),
    record {
      events = s.events;
      inside = λ n l. inside n l (cases_eq n k);
      outside = λ n l. put_other r.live k true n (omega arith) ∙ s.outside n (omega arith);
      mark = λ n l hn. mark n l hn (cases_eq n k);
      arc = s.arc;
    },
  )
    where
      inside : (n : ℕ) → n < suc k → (n ≡ k) ⊎ (n ≡ k → ⊥) → put r.live k true n ≡ b.live n
      inside n l (inl e) = put_same r.live k true n e ∙ sym (ap b.live e ∙ h)
      inside n l (inr d) = put_other r.live k true n d ∙ s.inside n (omega arith)

      mark : (n : ℕ) → n < suc k → b.live n ≡ true → (n ≡ k) ⊎ (n ≡ k → ⊥) → put r.mark k (b.mark k) n ≡ b.mark n
      mark n l hn (inl e) = put_same r.mark k (b.mark k) n e ∙ ap b.mark (sym e)
      mark n l hn (inr d) = put_other r.mark k (b.mark k) n d ∙ s.mark n (omega arith) hn

  -- a stage that is not live is passed over
  passed : (k : ℕ) (r : Rules) → 0 < k → b.live k ≡ false → Staged b k r → Next k r []
  passed k r lt h s = (
    r,
    refl,
    record {
      events = s.events;
      inside = λ n l. inside n l (cases_eq n k);
      outside = λ n l. s.outside n (omega arith);
      mark = λ n l hn. mark n l hn (cases_eq n k);
      arc = s.arc;
    },
  )
    where
      inside : (n : ℕ) → n < suc k → (n ≡ k) ⊎ (n ≡ k → ⊥) → r.live n ≡ b.live n
      inside n l (inl e) = s.outside n (omega arith) ∙ ne_eqb n 0 (omega arith) ∙ sym (ap b.live e ∙ h)
      inside n l (inr d) = s.inside n (omega arith)

      mark : (n : ℕ) → n < suc k → b.live n ≡ true → (n ≡ k) ⊎ (n ≡ k → ⊥) → r.mark n ≡ b.mark n
      mark n l hn (inl e) = absurd (both_ways (b.live n) (ap b.live e ∙ h) hn)
      mark n l hn (inr d) = s.mark n (omega arith) hn

  stage_step : (k : ℕ) (r : Rules) → k < 256 → Staged b k r → Next k r (stage_change b k)
  stage_step k r lt s = go (eqb k 0) (b.live k) refl refl
    where
      go : (u v : Bool) → eqb k 0 ≡ u → b.live k ≡ v → Next k r (cond u (Mark 0 (b.mark 0) ∷ []) (cond v (Stage k (b.mark k) ∷ []) []))
      go true v e h = let z = eqb-true k 0 e in
          subst (λ (j : ℕ). Next j r (Mark 0 (b.mark 0) ∷ [])) (sym z) (first r (subst (λ (j : ℕ). Staged b j r) z s))
      go false true e h = let d = eqb-false k 0 e in made k r (omega arith) h s
      go false false e h = let d = eqb-false k 0 e in passed k r (omega arith) h s

  fresh_staged : Staged b 0 (fresh b.events)
  fresh_staged = record {
    events = refl;
    inside = λ n lt. absurd (omega arith);
    outside = λ n le. refl;
    mark = λ n lt h. absurd (omega arith);
    arc = λ x y z. refl;
  }

  -- all arcs stand but those that are still to be added
  record Arced (todo : List AnArc) (r : Rules) : Type 0 where
    pub events : r.events ≡ b.events
    pub live : (n : ℕ) → r.live n ≡ b.live n
    pub mark : (n : ℕ) → b.live n ≡ true → r.mark n ≡ b.mark n
    pub made : (x y z : ℕ) → b.arc x y z ≡ true → (Among (record { from = x; label = y; to = z }) todo → ⊥) → r.arc x y z ≡ true
    pub gone : (x y z : ℕ) → r.arc x y z ≡ true → (b.arc x y z ≡ true) × (Among (record { from = x; label = y; to = z }) todo → ⊥)

  low : (n : ℕ) → b.live n ≡ true → n < 256
  low n h = let q = g.few_stages n h in omega arith

  staged_arced : (r : Rules) (arcs : List AnArc) → ((x : AnArc) → b.arc x.from x.label x.to ≡ true → Among x arcs) → Staged b 256 r → Arced arcs r
  staged_arced r arcs all s = record {
    events = s.events;
    live = λ n. live n (cases_lt n 256);
    mark = λ n h. s.mark n (low n h) h;
    made = λ x y z h d. absurd (d (all (record { from = x; label = y; to = z }) h));
    gone = λ x y z h. absurd (both_ways (r.arc x y z) (s.arc x y z) h);
  }
    where
      live : (n : ℕ) → (n < 256) ⊎ (256 ≤ n) → r.live n ≡ b.live n
      live n (inl l) = s.inside n l
      live n (inr l) = s.outside n l ∙ ne_eqb n 0 (omega arith) ∙ sym (false_from_ne_true (b.live n) (λ h. let q = low n h in omega arith))

  -- fewer arcs stand, so that one more may
  bit_le : (x y : Bool) → (x ≡ true → y ≡ true) → cond {A = ℕ} x 1 0 ≤ cond {A = ℕ} y 1 0
  bit_le true y h = omega (arith, bit_one y (h refl))
  bit_le false y h = omega arith

  guard_le : (v w : Bool) (x y : ℕ) → v ≡ w → x ≤ y → cond {A = ℕ} v x 0 ≤ cond {A = ℕ} w y 0
  guard_le v true x y e h = let p = ap (λ (t : Bool). cond {A = ℕ} t x 0) e in omega arith
  guard_le v false x y e h = let p = ap (λ (t : Bool). cond {A = ℕ} t x 0) e in omega arith

  guard_lt : (v w : Bool) (x y : ℕ) → v ≡ w → w ≡ true → x < y → cond {A = ℕ} v x 0 < cond {A = ℕ} w y 0
  guard_lt v true x y e q h = let p = ap (λ (t : Bool). cond {A = ℕ} t x 0) e in omega arith
  guard_lt v false x y e q h = absurd (false≢true q)

  fewer : (todo : List AnArc) (m e n : ℕ) (r : Rules) → Arced todo r → b.arc m e n ≡ true → r.arc m e n ≡ false → standing r < standing b
  fewer todo m e n r s h d =
      let ends = g.arc_fits m e n h in
      sum_lt 256 (λ x. cond (r.live x) (arcs_from r x) 0) (λ x. cond (b.live x) (arcs_from b x) 0) m (low m ends.0)
      (λ x. guard_le (r.live x) (b.live x) _ _ (s.live x) (from_le x))
      (guard_lt (r.live m) (b.live m) _ _ (s.live m) ends.0
      (sum_lt 256 (λ z. cond (r.live z) (labels_r m z) 0) (λ z. cond (b.live z) (labels_b m z) 0) n (low n ends.1)
      (λ z. guard_le (r.live z) (b.live z) _ _ (s.live z) (labels_le m z))
      (guard_lt (r.live n) (b.live n) _ _ (s.live n) ends.1
      (subst (λ (E : ℕ). sum_below (suc E) (λ y. cond {A = ℕ} (r.arc m y n) 1 0) < labels_b m n) (sym s.events)
      (sum_lt (suc b.events) (λ y. cond (r.arc m y n) 1 0) (λ y. cond (b.arc m y n) 1 0) e (omega (arith, ends.2))
      (λ y. bit_le (r.arc m y n) (b.arc m y n) (λ a. (s.gone m y n a).0))
      (omega (arith, bit_none (r.arc m e n) d, bit_one (b.arc m e n) h)))))))
    where
      labels_r : ℕ → ℕ → ℕ
      labels_r x z = sum_below (suc r.events) (λ y. cond (r.arc x y z) 1 0)

      labels_b : ℕ → ℕ → ℕ
      labels_b x z = sum_below (suc b.events) (λ y. cond (b.arc x y z) 1 0)

      labels_le : (x z : ℕ) →
          sum_below (suc r.events) (λ y. cond {A = ℕ} (r.arc x y z) 1 0) ≤ sum_below (suc b.events) (λ y. cond {A = ℕ} (b.arc x y z) 1 0)
      labels_le x z =
          subst (λ (E : ℕ). sum_below (suc E) (λ y. cond {A = ℕ} (r.arc x y z) 1 0) ≤ sum_below (suc b.events) (λ y. cond {A = ℕ} (b.arc x y z) 1 0)) (sym s.events)
          (sum_le (suc b.events) (λ y. cond (r.arc x y z) 1 0) (λ y. cond (b.arc x y z) 1 0) (λ y. bit_le (r.arc x y z) (b.arc x y z) (λ a. (s.gone x y z a).0)))

      from_le : (x : ℕ) → arcs_from r x ≤ arcs_from b x
      from_le x =
          sum_le 256 (λ z. cond (r.live z) (sum_below (suc r.events) (λ y. cond (r.arc x y z) 1 0)) 0)
          (λ z. cond (b.live z) (sum_below (suc b.events) (λ y. cond (b.arc x y z) 1 0)) 0)
          (λ z. guard_le (r.live z) (b.live z) _ _ (s.live z) (labels_le x z))

  -- one arc is added
  arc_made : (w : AnArc) (todo : List AnArc) (r : Rules) → b.arc w.from w.label w.to ≡ true → (Among w todo → ⊥) → Arced (w ∷ todo) r →
      Leads W (Arc w ∷ []) r (changed r (Arc w)) × Arced todo (changed r (Arc w))
  arc_made w todo r h single s = (
    (arc_first W r w fine false false absent (ap not (lt-ltb (standing r) 1024 room)), refl),
    record {
      events = s.events;
      live = s.live;
      mark = s.mark;
      made = λ x y z a d. adds x y z a d (cases_Bool (eqb x w.from && (eqb y w.label && eqb z w.to)));
      gone = λ x y z a. only x y z a (cases_Bool (eqb x w.from && (eqb y w.label && eqb z w.to)));
    },
  )
    where
      ends : (b.live w.from ≡ true) × (b.live w.to ≡ true) × (w.label ≤ b.events)
      ends = g.arc_fits w.from w.label w.to h

      absent : r.arc w.from w.label w.to ≡ false
      absent = false_from_ne_true (r.arc w.from w.label w.to) (λ a. (s.gone w.from w.label w.to a).1 (inl refl))

      room : standing r < 1024
      room = omega (arith, fewer (w ∷ todo) w.from w.label w.to r s h absent, g.few_arcs)

      fine : Fine W r w.from w.label w.to
      fine = ends_fine W r w.from w.label w.to (record {
        from_low = g.few_stages w.from ends.0;
        to_low = g.few_stages w.to ends.1;
        label = omega (arith, s.events, ends.2);
        from_live = s.live w.from ∙ ends.0;
        to_live = s.live w.to ∙ ends.1;
      })

      adds : (x y z : ℕ) → b.arc x y z ≡ true → (Among (record { from = x; label = y; to = z }) todo → ⊥) →
          ((eqb x w.from && (eqb y w.label && eqb z w.to)) ≡ true) ⊎ ((eqb x w.from && (eqb y w.label && eqb z w.to)) ≡ false) →
          put_arc r.arc w.from w.label w.to true x y z ≡ true
      adds x y z a d (inl t) = ap (λ (v : Bool). cond v true (r.arc x y z)) t
      adds x y z a d (inr t) = ap (λ (v : Bool). cond v true (r.arc x y z)) t ∙ s.made x y z a other
        where
          other : Among (record { from = x; label = y; to = z }) (w ∷ todo) → ⊥
          other (inl q) =
              both_ways _ t (arc_same x y z w.from w.label w.to (ap (λ (u : AnArc). u.from) q) (ap (λ (u : AnArc). u.label) q) (ap (λ (u : AnArc). u.to) q))
          other (inr k) = d k

      only : (x y z : ℕ) → put_arc r.arc w.from w.label w.to true x y z ≡ true →
          ((eqb x w.from && (eqb y w.label && eqb z w.to)) ≡ true) ⊎ ((eqb x w.from && (eqb y w.label && eqb z w.to)) ≡ false) →
          (b.arc x y z ≡ true) × (Among (record { from = x; label = y; to = z }) todo → ⊥)
      only x y z a (inl t) =
          let q = same_arc x y z w.from w.label w.to t in
          let k : ◌≡◌ {A = AnArc} (record { from = x; label = y; to = z }) w = λ i. record { from = q.0 i; label = q.1 i; to = q.2 i } in
          (subst (λ (u : AnArc). b.arc u.from u.label u.to ≡ true) (sym k) h, λ m. single (subst (λ (u : AnArc). Among u todo) k m))
      only x y z a (inr t) =
          let p = s.gone x y z (sym (ap (λ (v : Bool). cond v true (r.arc x y z)) t) ∙ a) in
          (p.0, λ u. p.1 (inr u))

  -- all of them are added
  arcs_made : (todo : List AnArc) (r : Rules) → NoRepeat todo → ((x : AnArc) → Among x todo → b.arc x.from x.label x.to ≡ true) → Arced todo r →
      (next : Rules) × Leads W (map Arc todo) r next × Arced [] next
  arcs_made [] r single stand s = (r, refl, s)
  arcs_made (x ∷ todo) r single stand s =
      let a = arc_made x todo r (stand x (inl refl)) single.0 s in
      let q = arcs_made todo (changed r (Arc x)) single.1 (λ y k. stand y (inr k)) a.1 in
      (q.0, (a.0.0, q.1), q.2)

  arced_alike : (r : Rules) → Arced [] r → Alike b r
  arced_alike r s = record {
    events = sym s.events;
    live = λ n. sym (s.live n);
    mark = λ n h. sym (s.mark n h);
    arc = λ x y z. same x y z (cases_Bool (b.arc x y z));
  }
    where
      same : (x y z : ℕ) → (b.arc x y z ≡ true) ⊎ (b.arc x y z ≡ false) → b.arc x y z ≡ r.arc x y z
      same x y z (inl h) = h ∙ sym (s.made x y z h (λ k. k))
      same x y z (inr h) = h ∙ sym (false_from_ne_true (r.arc x y z) (λ a. both_ways (b.arc x y z) h (s.gone x y z a).0))

ascending_single : (xs : List AnArc) → Ascending xs → NoRepeat xs
ascending_single [] h = tt
ascending_single (x ∷ xs) h = ((λ k. before_itself x (h.0 x k)), ascending_single xs h.1)

pub rebuilt : (W : ℕ) (b : Rules) (changes : List Change) → W ≤ 256 → WellFormed W b → CanonicalChanges b changes →
    (after : Rules) × Leads W changes (fresh b.events) after × Alike b after
rebuilt W b changes wide g q =
    let stages = leads_each W (stage_change b) (Staged b) 256 (stage_step W b wide g) (fresh b.events) (fresh_staged W b wide g) in
    let arced = staged_arced W b wide g stages.0 q.arcs (λ x. (q.in_order.exactly x).1) stages.2 in
    let arcs = arcs_made W b wide g q.arcs stages.0 (ascending_single q.arcs q.in_order.ascending) (λ x. (q.in_order.exactly x).0) arced in
    let all = leads_append W (stage_changes b) (map Arc q.arcs) (fresh b.events) stages.0 arcs.0 stages.1 arcs.1 in
    (arcs.0, subst (λ (chs : List Change). Leads W chs (fresh b.events) arcs.0) (sym q.are) all, arced_alike W b wide g arcs.0 arcs.2)

pub canonical_laws : CanonicalLaws
canonical_laws = record { rebuilds = rebuilt; one = one_text }
