-- Distances seen row by row are those of the shortest lists, and rows to which no list leads can be left out.
use Rattle.std.proofs.Common.{◌≡◌, ℕ, zero, suc, ◌+◌, ◌<◌, ◌≤◌, Bool, true, ◌⊎◌, List, [], ◌∷◌, ◌++◌, length, Some, None, Option, sym, refl, ap, ◌∙◌, subst, inl, inr, arith}
use Rattle.rules.specs.Rules.{Rules}
use Rattle.rules.specs.Paths.{Event, Word}
use Rattle.rules.specs.Table.{Table, onward, leads, Rows, Sound, Layered, only, Found}
use Rattle.std.proofs.lemmas.Option.{none-some, same_Some}
use Rattle.rules.proofs.Leads.{onward_none}
use Rattle.rules.proofs.FirstLists.{length_snoc}
use Rattle.rules.proofs.TurnOrder.{onward_end, word_snoc}

module _ (rules : Rules) (t : Table) (layers : Layered rules t) where
  near : (k r : ℕ) → t.dist r < k → t.used r ≡ true → (w : List ℕ) × Word rules w × (leads t w ≡ Some r) × (length w ≡ t.dist r)
  near zero r h u = absurd (omega arith)
  near (suc k) r h u = go (λ q l v. near k q l v) (layers.one_beyond r u)
    where
      Near : ℕ → Type 0
      Near r = (w : List ℕ) × Word rules w × (leads t w ≡ Some r) × (length w ≡ t.dist r)

      go : ((q : ℕ) → t.dist q < k → t.used q ≡ true → Near q) →
          (r ≡ t.start) ⊎ ((q : ℕ) × (e : ℕ) × (t.used q ≡ true) × Event rules e × (t.exit q e ≡ Some r) × (t.dist r ≡ suc (t.dist q))) → Near r
      go ih (inl e) = subst Near (sym e) ([], tt, refl, sym layers.start_at)
      go ih (inr x) = let d = x.5 in let w = ih x.0 (omega arith) x.2 in (
        w.0 ++ (x.1 ∷ []),
        word_snoc rules w.0 x.1 w.1 x.3,
        onward_end t w.0 x.1 (Some t.start) ∙ ap (onward t (x.1 ∷ [])) w.2 ∙ x.4,
        length_snoc w.0 x.1 ∙ ap suc w.3 ∙ sym d,
      )

  far : (w : List ℕ) (q r : ℕ) → t.used q ≡ true → Word rules w → onward t w (Some q) ≡ Some r → t.dist r ≤ t.dist q + length w
  far [] q r u k h = let e = ap t.dist (same_Some _ _ h) in omega arith
  far (e ∷ w) q r u k h = go (λ p v l. far w p r v k.1 l) (t.exit q e) refl h
    where
      go : ((p : ℕ) → t.used p ≡ true → onward t w (Some p) ≡ Some r → t.dist r ≤ t.dist p + length w) →
          (o : Option ℕ) → t.exit q e ≡ o → onward t w o ≡ Some r → t.dist r ≤ t.dist q + suc (length w)
      go ih None g l = absurd (none-some _ (sym (onward_none t w) ∙ l))
      go ih (Some p) g l = let a = layers.no_farther q e p u k.0 g in let b = ih p (layers.rows.exit_row q e p u k.0 g).0 l in omega arith

pub layers_sound : (rules : Rules) (t : Table) → Layered rules t → Sound rules t
layers_sound rules t layers = record {
  rows = layers.rows;
  near = λ r u. near rules t layers (suc (t.dist r)) r (omega arith) u;
  nearest = λ r w u k h. let a = far rules t layers w t.start r layers.rows.start_used k h in let b = layers.start_at in omega arith;
}

pub found_sound : (rules : Rules) (t : Table) (keep : ℕ → Bool) → Rows rules t → Found rules t keep → Sound rules (only keep t)
found_sound rules t keep good found = record {
  rows = record {
    start_used = (found.no_other t.start [] tt refl).0;
    start_set = good.start_set;
    inhabited = λ r k. good.inhabited r (found.reached r k).0;
    exit_row = λ r e q k i h. let f = found.reached r k in (
      (found.no_other q (f.1.0 ++ (e ∷ [])) (word_snoc rules f.1.0 e f.1.1 i)
          (onward_end t f.1.0 e (Some t.start) ∙ ap (onward t (e ∷ [])) f.1.2 ∙ h)).0,
      (good.exit_row r e q f.0 i h).1,
    );
    no_exit = λ r e k. good.no_exit r e (found.reached r k).0;
    no_event = λ r e k. good.no_event r e (found.reached r k).0;
    apart = λ r q k l. good.apart r q (found.reached r k).0 (found.reached q l).0;
  };
  near = λ r k. let f = (found.reached r k).1 in (f.0, f.1, same_onward f.0 (Some t.start) ∙ f.2, f.3);
  nearest = λ r w k i h. (found.no_other r w i (sym (same_onward w (Some t.start)) ∙ h)).1;
}
  where
    same_onward : (w : List ℕ) (o : Option ℕ) → onward (only keep t) w o ≡ onward t w o
    same_onward [] o = refl
    same_onward (e ∷ w) None = refl
    same_onward (e ∷ w) (Some r) = same_onward w (t.exit r e)
