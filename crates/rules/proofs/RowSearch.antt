-- Rows numbered by place stay right; a search over the rows that is done has found them all, in turn; and the steps of such a search.
use Rattle.std.proofs.Common.{◌≡◌, ℕ, suc, ◌<◌, true, ltb, ◌⊎◌, ◌↔◌, List, [], ◌∷◌, Some, None, Option, sym, refl, ap, ◌∙◌, subst, inl, inr, arith}
use Rattle.rules.specs.Rules.{Rules}
use Rattle.rules.specs.Paths.{Event, Word, R, Exit, Holds, Empty}
use Rattle.rules.specs.Table.{Table, onward, Rows, Sound}
use Rattle.rules.specs.Turn.{Earlier, InTurn, Places, placed, by_place, Discovery, Discovering, Appended, SearchSteps}
use Rattle.std.proofs.lemmas.Option.{none-some, same_Some}
use Rattle.rules.proofs.Leads.{onward_none}
use Rattle.rules.proofs.FirstLists.{three}
use Rattle.std.proofs.lemmas.Bool.{ltb-true, lt-ltb}

module _ (rules : Rules) (t : Table) (N : ℕ) (row place : ℕ → ℕ) (good : Rows rules t) (places : Places t N row place) where
  used_row : (i : ℕ) → ltb i N ≡ true → t.used (row i) ≡ true
  used_row i u = (places.row_used i (ltb-true i N u)).0

  place_used : (r : ℕ) → t.used r ≡ true → ltb (place r) N ≡ true
  place_used r u = lt-ltb (place r) N (places.row_placed r u).0

  place_set : (r : ℕ) (P : ℕ → Type 0) → t.used r ≡ true → Holds (t.set r) P → Holds (t.set (row (place r))) P
  place_set r P u h = subst (λ (x : ℕ). Holds (t.set x) P) (sym (places.row_placed r u).1) h

  exit_placed : (i e q : ℕ) → ltb i N ≡ true → Event rules e → (o : Option ℕ) → t.exit (row i) e ≡ o → placed place o ≡ Some q →
      (ltb q N ≡ true) × Holds (t.set (row q)) (Exit rules (t.set (row i)) e)
  exit_placed i e q u k None h l = absurd (none-some _ l)
  exit_placed i e q u k (Some r) h l = let g = good.exit_row (row i) e r (used_row i u) k h in
      subst (λ (x : ℕ). (ltb x N ≡ true) × Holds (t.set (row x)) (Exit rules (t.set (row i)) e)) (same_Some _ _ l)
      (place_used r g.0, place_set r (Exit rules (t.set (row i)) e) g.0 g.1)

  none_placed : (i e : ℕ) → ltb i N ≡ true → Event rules e → (o : Option ℕ) → t.exit (row i) e ≡ o → placed place o ≡ None →
      Empty (Exit rules (t.set (row i)) e)
  none_placed i e u k None h l = good.no_exit (row i) e (used_row i u) k h
  none_placed i e u k (Some r) h l = absurd (none-some _ (sym l))

  pub rows_placed : Rows rules (by_place t N row place)
  rows_placed = record {
    start_used = place_used t.start good.start_used;
    start_set = place_set t.start (R rules []) good.start_used good.start_set;
    inhabited = λ i u. good.inhabited (row i) (used_row i u);
    exit_row = λ i e q u k h. exit_placed i e q u k (t.exit (row i) e) refl h;
    no_exit = λ i e u k h. none_placed i e u k (t.exit (row i) e) refl h;
    no_event = λ i e u k. ap (placed place) (good.no_event (row i) e (used_row i u) k);
    apart = λ i j u v h. sym (places.row_used i (ltb-true i N u)).1 ∙ ap place (good.apart (row i) (row j) (used_row i u) (used_row j v) h)
        ∙ (places.row_used j (ltb-true j N v)).1;
  }

pub placed_rows : (rules : Rules) (t : Table) (N : ℕ) (row place : ℕ → ℕ) → Rows rules t → Places t N row place →
    Rows rules (by_place t N row place) × ((i : ℕ) → ((by_place t N row place).used i ≡ true) ↔ (i < N))
placed_rows rules t N row place good places = (rows_placed rules t N row place good places, λ i. (ltb-true i N, lt-ltb i N))

module _ (rules : Rules) (t : Table) (N : ℕ) (row place from by : ℕ → ℕ) (sound : Sound rules t) (disc : Discovery rules t N row place from by) where
  abbrev HasPlace : ℕ → Type 0
  HasPlace r = (place r < N) × (row (place r) ≡ r)

  start_place : HasPlace t.start
  start_place = subst HasPlace disc.begins (let h = (disc.found 0 disc.some_row).1 in (subst (λ (x : ℕ). x < N) (sym h) disc.some_row, ap row h))

  onward_place : (w : List ℕ) (q r : ℕ) → HasPlace q → Word rules w → onward t w (Some q) ≡ Some r → HasPlace r
  onward_place [] q r h k l = subst HasPlace (same_Some _ _ l) h
  onward_place (e ∷ w) q r h k l = go (λ p m n. onward_place w p r m k.1 n) (t.exit q e) refl l
    where
      go : ((p : ℕ) → HasPlace p → onward t w (Some p) ≡ Some r → HasPlace r) → (o : Option ℕ) → t.exit q e ≡ o → onward t w o ≡ Some r → HasPlace r
      go ih None m n = absurd (none-some _ (sym (onward_none t w) ∙ n))
      go ih (Some p) m n = let x = disc.looked (place q) e p h.0 k.0 (ap (λ (y : ℕ). t.exit y e) h.1 ∙ m) in ih p (x.0, x.1) n

  every_place : (r : ℕ) → t.used r ≡ true → HasPlace r
  every_place r u = let w = sound.near r u in onward_place w.0 t.start r start_place w.1 w.2

  places : Places t N row place
  places = record { row_used = disc.found; row_placed = every_place }

  met_placed : (i : ℕ) → 0 < i → i < N → (from i < i) × Event rules (by i) × (placed place (t.exit (row (from i)) (by i)) ≡ Some i)
  met_placed i h l = let m = disc.met i h l in (m.0, m.1, ap (placed place) m.2 ∙ ap {B = Option ℕ} Some (disc.found i l).1)

  first_placed : (r i e : ℕ) → 0 < r → i < N → Event rules e → (o : Option ℕ) → t.exit (row i) e ≡ o → placed place o ≡ Some r →
      Earlier i e (from r) (by r) → ⊥
  first_placed r i e h l k None m n b = none-some _ n
  first_placed r i e h l k (Some q) m n b = let z : place q ≡ r = same_Some _ _ n in
      (disc.looked i e q l k m).2 (omega arith) (subst (λ (x : ℕ). Earlier i e (from x) (by x)) (sym z) b)

  pub in_turn : InTurn rules (by_place t N row place) N from by
  in_turn = let g = placed_rows rules t N row place sound.rows places in record {
    rows = g.0;
    start = ap place (sym disc.begins) ∙ (disc.found 0 disc.some_row).1;
    places = g.1;
    met = met_placed;
    first = λ r i e h l m k x. first_placed r i e h m k (t.exit (row i) e) refl x;
    turn = disc.turn;
  }

pub discovery_in_turn : (rules : Rules) (t : Table) (N : ℕ) (row place from by : ℕ → ℕ) → Sound rules t → Discovery rules t N row place from by →
    Places t N row place × InTurn rules (by_place t N row place) N from by
discovery_in_turn rules t N row place from by sound disc =
    (places rules t N row place from by sound disc, in_turn rules t N row place from by sound disc)

-- the steps

earlier_suc : (j f i e : ℕ) → Earlier j f i (suc e) → Earlier j f i e ⊎ ((j ≡ i) × (f ≡ e))
earlier_suc j f i e (inl h) = inl (inl h)
earlier_suc j f i e (inr h) = go (three f e)
  where
    go : (f < e) ⊎ ((f ≡ e) ⊎ (e < f)) → Earlier j f i e ⊎ ((j ≡ i) × (f ≡ e))
    go (inl l) = inl (inr (h.0, l))
    go (inr (inl l)) = inr (h.0, l)
    go (inr (inr l)) = let k = h.1 in absurd (omega arith)

earlier_more : (j f i e : ℕ) → Earlier j f i e → Earlier j f i (suc e)
earlier_more j f i e (inl h) = inl h
earlier_more j f i e (inr h) = let k = h.1 in inr (h.0, omega arith)

earlier_next : (j f i e : ℕ) → Earlier j f i e → Earlier j f (suc i) 1
earlier_next j f i e (inl h) = inl (omega arith)
earlier_next j f i e (inr h) = let k = h.0 in inl (omega arith)

earlier_asym : (j f i e : ℕ) → Earlier j f i e → Earlier i e j f → ⊥
earlier_asym j f i e (inl h) (inl k) = omega arith
earlier_asym j f i e (inl h) (inr k) = let z = k.0 in omega arith
earlier_asym j f i e (inr h) (inl k) = let z = h.0 in omega arith
earlier_asym j f i e (inr h) (inr k) = let z = h.1 in let y = k.1 in omega arith

module _ (rules : Rules) (t : Table) (good : Rows rules t) where
  abbrev Looked : ℕ → (ℕ → ℕ) → (ℕ → ℕ) → (ℕ → ℕ) → (ℕ → ℕ) → ℕ → ℕ → ℕ → Type 0
  Looked N row place from by j f q = (place q < N) × (row (place q) ≡ q) × (0 < place q → Earlier j f (from (place q)) (by (place q)) → ⊥)

  begin : (row place from by : ℕ → ℕ) → row 0 ≡ t.start → place (row 0) ≡ 0 → Discovering rules t 1 0 1 row place from by
  begin row place from by h k = record {
    some_row = omega arith;
    begins = h;
    found = λ i l. let z : 0 ≡ i = omega arith in
        subst (λ (x : ℕ). (t.used (row x) ≡ true) × (place (row x) ≡ x)) z (subst (λ (x : ℕ). t.used x ≡ true) (sym h) good.start_used, k);
    met = λ i p l. absurd (omega arith);
    turn = λ i p l. absurd (omega arith);
    looked = λ j f q l m b x. absurd (early j f m.0 b);
  }
    where
      early : (j f : ℕ) → 0 < f → Earlier j f 0 1 → ⊥
      early j f p (inl h) = omega arith
      early j f p (inr h) = let k = h.1 in omega arith

  -- one event further, with what holds of the event
  further : (N i e : ℕ) (row place from by : ℕ → ℕ) → Discovering rules t N i e row place from by →
      ((q : ℕ) → t.exit (row i) e ≡ Some q → Looked N row place from by i e q) → Discovering rules t N i (suc e) row place from by
  further N i e row place from by d h = record {
    some_row = d.some_row;
    begins = d.begins;
    found = d.found;
    met = λ k p l. let m = d.met k p l in (m.0, m.1, m.2, earlier_more _ _ i e m.3);
    turn = d.turn;
    looked = λ j f q l m b x. go j f q l m x (earlier_suc j f i e b);
  }
    where
      go : (j f q : ℕ) → j < N → Event rules f → t.exit (row j) f ≡ Some q → Earlier j f i e ⊎ ((j ≡ i) × (f ≡ e)) → Looked N row place from by j f q
      go j f q l m x (inl b) = d.looked j f q l m b x
      go j f q l m x (inr z) = let r = h q ((λ i. t.exit (row (sym z.0 i)) (sym z.1 i)) ∙ x) in (
        r.0,
        r.1,
        λ p b. r.2 p (subst (λ (y : ℕ). Earlier y e (from (place q)) (by (place q))) z.0
            (subst (λ (y : ℕ). Earlier j y (from (place q)) (by (place q))) z.1 b)),
      )

  seen : (N i e q : ℕ) (row place from by : ℕ → ℕ) → Discovering rules t N i e row place from by → t.exit (row i) e ≡ Some q →
      place q < N → row (place q) ≡ q → Discovering rules t N i (suc e) row place from by
  seen N i e q row place from by d x l m = further N i e row place from by d
      (λ p y. subst (Looked N row place from by i e) (same_Some _ _ (sym x ∙ y)) (l, m, λ h b. earlier_asym i e _ _ b (d.met (place q) h l).3))

  module _ (N i e q : ℕ) (row place from by row' place' from' by' : ℕ → ℕ) (d : Discovering rules t N i e row place from by) (i<N : i < N) (is_event : Event rules e)
      (x : t.exit (row i) e ≡ Some q) (unseen : (k : ℕ) → k < N → row k ≡ q → ⊥) (app : Appended N i e q row place from by row' place' from' by') where
    at_end : (k : ℕ) → k < suc N → (k < N) ⊎ (N ≡ k)
    at_end k h = go (three k N)
      where
        go : (k < N) ⊎ ((k ≡ N) ⊎ (N < k)) → (k < N) ⊎ (N ≡ k)
        go (inl l) = inl l
        go (inr (inl l)) = inr (sym l)
        go (inr (inr l)) = absurd (omega arith)

    found_new : (k : ℕ) → (k < N) ⊎ (N ≡ k) → (t.used (row' k) ≡ true) × (place' (row' k) ≡ k)
    found_new k (inl l) = let f = d.found k l in rw (app.row_kept k l) (f.0, app.place_kept (row k) (unseen k l) ∙ f.1)
    found_new k (inr z) = subst (λ (y : ℕ). (t.used (row' y) ≡ true) × (place' (row' y) ≡ y)) z
        (rw app.row_new ((good.exit_row (row i) e q (d.found i i<N).0 is_event x).0, app.place_new))

    met_new : (k : ℕ) → 0 < k → (k < N) ⊎ (N ≡ k) →
        (from' k < k) × Event rules (by' k) × (t.exit (row' (from' k)) (by' k) ≡ Some (row' k)) × Earlier (from' k) (by' k) i (suc e)
    met_new k p (inl l) = let m = d.met k p l in let b = m.0 in
        rw (app.from_kept k l, app.by_kept k l, app.row_kept k l, app.row_kept (from k) (omega arith)) (b, m.1, m.2, earlier_more _ _ i e m.3)
    met_new k p (inr z) = subst (λ (y : ℕ). (from' y < y) × Event rules (by' y) × (t.exit (row' (from' y)) (by' y) ≡ Some (row' y)) × Earlier (from' y)
        (by' y) i (suc e)) z
        (rw (app.from_new, app.by_new, app.row_new, app.row_kept i i<N) (i<N, is_event, x, inr (refl, omega arith)))

    turn_new : (k : ℕ) → 0 < k → (suc k < N) ⊎ (N ≡ suc k) → Earlier (from' k) (by' k) (from' (suc k)) (by' (suc k))
    turn_new k p (inl l) = rw (app.from_kept k (omega arith), app.by_kept k (omega arith), app.from_kept (suc k) l, app.by_kept (suc k) l) (d.turn k p l)
    turn_new k p (inr z) = subst (λ (y : ℕ). Earlier (from' k) (by' k) (from' y) (by' y)) z
        (rw (app.from_new, app.by_new, app.from_kept k (omega arith), app.by_kept k (omega arith)) (d.met k p (omega arith)).3)

    before_i : (j f : ℕ) → Earlier j f i (suc e) → j < N
    before_i j f (inl h) = omega arith
    before_i j f (inr h) = let z = h.0 in omega arith

    looked_new : (j f p : ℕ) → j < N → Event rules f → t.exit (row j) f ≡ Some p → Earlier j f i e ⊎ ((j ≡ i) × (f ≡ e)) →
        Looked (suc N) row' place' from' by' j f p
    looked_new j f p l m y (inl b) = let r = d.looked j f p l m b y in let s = r.0 in
        let other : p ≡ q → ⊥ = λ z. unseen (place p) s (r.1 ∙ z) in
        rw (app.place_kept p other, app.row_kept (place p) s, app.from_kept (place p) s, app.by_kept (place p) s) (omega arith, r.1, r.2)
    looked_new j f p l m y (inr z) =
        let p≡q : q ≡ p = same_Some _ _ (sym x ∙ (λ k. t.exit (row (sym z.0 k)) (sym z.1 k)) ∙ y) in
        subst (Looked (suc N) row' place' from' by' j f) p≡q
        (rw (app.place_new, app.row_new, app.from_new, app.by_new) (omega arith, refl, λ h b. last z.0 z.1 b))
      where
        last : j ≡ i → f ≡ e → Earlier j f i e → ⊥
        last u v (inl b) = omega arith
        last u v (inr b) = let c = b.1 in omega arith

    new : Discovering rules t (suc N) i (suc e) row' place' from' by'
    new = record {
      some_row = omega arith;
      begins = app.row_kept 0 d.some_row ∙ d.begins;
      found = λ k l. found_new k (at_end k l);
      met = λ k p l. met_new k p (at_end k l);
      turn = λ k p l. turn_new k p (at_end (suc k) l);
      looked = λ j f p l m b y. let j<N = before_i j f b in
          looked_new j f p j<N m (ap (λ (r : ℕ). t.exit r f) (sym (app.row_kept j j<N)) ∙ y) (earlier_suc j f i e b);
    }

  next_row : (N i e : ℕ) (row place from by : ℕ → ℕ) → Discovering rules t N i e row place from by → rules.events < e →
      Discovering rules t N (suc i) 1 row place from by
  next_row N i e row place from by d h = record {
    some_row = d.some_row;
    begins = d.begins;
    found = d.found;
    met = λ k p l. let m = d.met k p l in (m.0, m.1, m.2, earlier_next _ _ i e m.3);
    turn = d.turn;
    looked = λ j f q l m b x. d.looked j f q l m (before j f m b (three j i)) x;
  }
    where
      before : (j f : ℕ) → Event rules f → Earlier j f (suc i) 1 → (j < i) ⊎ ((j ≡ i) ⊎ (i < j)) → Earlier j f i e
      before j f m b (inl k) = inl k
      before j f m b (inr (inl k)) = let z = m.1 in inr (k, omega arith)
      before j f m (inl b) (inr (inr k)) = absurd (omega arith)
      before j f m (inr b) (inr (inr k)) = let z = b.1 in let y = m.0 in absurd (omega arith)

  done : (N : ℕ) (row place from by : ℕ → ℕ) → Discovering rules t N N 1 row place from by → Discovery rules t N row place from by
  done N row place from by d = record {
    some_row = d.some_row;
    begins = d.begins;
    found = d.found;
    met = λ k p l. let m = d.met k p l in (m.0, m.1, m.2);
    turn = d.turn;
    looked = λ j f q l m x. d.looked j f q l m (inl l) x;
  }

pub search_stands : (rules : Rules) (t : Table) → Rows rules t → SearchSteps rules t
search_stands rules t good = record {
  begin = begin rules t good;
  no_exit = λ N i e row place from by d h. further rules t good N i e row place from by d (λ q x. absurd (none-some _ (sym h ∙ x)));
  seen = seen rules t good;
  new = new rules t good;
  next_row = next_row rules t good;
  done = done rules t good;
}
