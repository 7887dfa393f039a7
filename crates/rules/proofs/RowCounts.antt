-- Counting the rows of tables counts the reached sets and the pairs of a report.
use Rattle.std.proofs.Common.{◌≡◌, ℕ, ◌≤◌, true, List, length, Some, None, Option, sym, refl, ap, ◌∙◌, subst}
use mathlib.Core.Path.{fun_ext}
use Rattle.rules.specs.Rules.{Rules}
use Rattle.rules.specs.Paths.{Stages, R, Exit, Same, Event}
use Rattle.rules.specs.Table.{Table, Sound, leads}
use Rattle.rules.specs.Alteration.{Named, KeptRow, KeepsNumbers, SameStep}
use Rattle.rules.specs.Counts.{Among, NoRepeat, Counts}
use Rattle.rules.specs.Report.{Reached, Kept, Born, Retired, NamedPair, TurnedPair, Tally, Reported, CountedRows}
use Rattle.rules.proofs.Counting.{fewer, one_count, counts_map}
use Rattle.rules.proofs.Booleans.{both}
use Rattle.rules.proofs.Leads.{Finds, leads_finds, leads_some}
use Rattle.rules.proofs.UnnamedStays.{exits_step, step_exits, unnamed_stays}

-- each used row holds a reached set, and each reached set has its row
pub set_reached : (rules : Rules) (t : Table) → Sound rules t → (r : ℕ) → t.used r ≡ true → Reached rules (t.set r)
set_reached rules t s r u = let n = s.near r u in let h = leads_some rules t s.rows n.0 r n.1 n.2 in
    let i = s.rows.inhabited r u in (n.0, n.1, h.1, (i.0, (h.1 i.0).0 i.1))

pub row_of_lem : (rules : Rules) (t : Table) → Sound rules t → (S : Stages) → Reached rules S → (r : ℕ) × (t.used r ≡ true) × (S ≡ t.set r)
row_of_lem rules t s S x = go (leads t x.0) (leads_finds rules t s.rows x.0 x.1)
  where
    go : (o : Option ℕ) → Finds t (R rules x.0) o → (r : ℕ) × (t.used r ≡ true) × (S ≡ t.set r)
    go None f = absurd (f x.3.0 x.3.1)
    go (Some r) f = (r, f.0, fun_ext (λ n. both _ _ (λ a. (f.1 n).1 ((x.2 n).0 a), λ b. (x.2 n).1 ((f.1 n).0 b))))

module _ (old new : Rules) (t u : Table) (before : Sound old t) (after : Sound new u) (events : old.events ≡ new.events) (keeps : KeepsNumbers t u) where
  kept_set : (r : ℕ) → KeptRow t u r → Kept old new (t.set r)
  kept_set r k = (set_reached old t before r k.before, subst (Reached new) (sym (fun_ext k.same)) (set_reached new u after r k.after))

  met_row : (r q : ℕ) (S : Stages) → t.used r ≡ true → u.used q ≡ true → S ≡ t.set r → S ≡ u.set q → (r ≡ q) × KeptRow t u r
  met_row r q S a b e f = let same : (n : ℕ) → t.set r n ≡ u.set q n = λ n. ap (λ (X : Stages). X n) (sym e ∙ f) in
      let z = keeps r q a b same in
      (z, record { before = a; after = subst (λ (x : ℕ). u.used x ≡ true) (sym z) b; same = λ n. same n ∙ ap (λ (x : ℕ). u.set x n) (sym z) })

  kept_row : (S : Stages) → Kept old new S → (r : ℕ) × KeptRow t u r × (S ≡ t.set r)
  kept_row S k = let a = row_of_lem old t before S k.0 in let b = row_of_lem new u after S k.1 in
      (a.0, (met_row a.0 b.0 S a.1 b.1 a.2 b.2).1, a.2)

  apart_old : (r q : ℕ) → t.used r ≡ true → t.used q ≡ true → t.set r ≡ t.set q → r ≡ q
  apart_old r q a b e = before.rows.apart r q a b (λ n. ap (λ (X : Stages). X n) e)

  apart_new : (r q : ℕ) → u.used r ≡ true → u.used q ≡ true → u.set r ≡ u.set q → r ≡ q
  apart_new r q a b e = after.rows.apart r q a b (λ n. ap (λ (X : Stages). X n) e)

  pub rows_report : (c : Tally) → CountedRows old new t u c → Reported old new c
  rows_report c p = record {
    kept_sets = counts_map (KeptRow t u) (Kept old new) t.set kept_set (λ r q a b. apart_old r q a.before b.before) kept_row p.kept_rows;
    born_sets = counts_map (λ r. (u.used r ≡ true) × (KeptRow t u r → ⊥)) (Born old new) u.set
        (λ r a. (
          set_reached new u after r a.0,
          λ x. let b = row_of_lem old t before (u.set r) x in let m = met_row b.0 r (u.set r) b.1 a.0 b.2 refl in
              a.1 (subst (KeptRow t u) m.0 m.1),
        ))
        (λ r q a b. apart_new r q a.0 b.0)
        (λ S x. let a = row_of_lem new u after S x.0 in
        (a.0, (a.1, λ k. x.1 (subst (Reached old) (fun_ext k.same ∙ sym a.2) (set_reached old t before a.0 k.before))), a.2)) p.born_rows;
    retired_sets = counts_map (λ r. (t.used r ≡ true) × (KeptRow t u r → ⊥)) (Retired old new) t.set
        (λ r a. (
          set_reached old t before r a.0,
          λ x. let b = row_of_lem new u after (t.set r) x in a.1
              (met_row r b.0 (t.set r) a.0 b.1 refl b.2).1,
        ))
        (λ r q a b. apart_old r q a.0 b.0)
        (λ S x. let a = row_of_lem old t before S x.0 in
        (a.0, (a.1, λ k. x.1 (subst (Reached new) (sym (fun_ext k.same) ∙ sym a.2) (set_reached new u after a.0 k.after))), a.2))
        p.retired_rows;
    named_pairs = counts_map (λ p. KeptRow t u p.0 × Event old p.1 × Named old new (t.set p.0) p.1) (NamedPair old new) pair
        (λ x a. (kept_set x.0 a.0, a.1, a.2)) (λ x y a b. pair_one x y a.0 b.0)
        (λ y a. let k = kept_row y.0 a.0 in (
          (k.0, y.1),
          (k.1, a.1, subst (λ (S : Stages). Named old new S y.1) k.2 a.2),
          pair_is y k.0
              k.2,
        )) p.named_steps;
    turned_pairs = counts_map (λ p. KeptRow t u p.0 × Event old p.1 × (SameStep t u p.0 p.1 → ⊥)) (TurnedPair old new) pair
        (λ x a. (kept_set x.0 a.0, a.1, λ s. a.2 (exits_step old new t u before after events keeps x.0 x.1 a.0 a.1 s)))
        (λ x y a b. pair_one x y a.0 b.0)
        (λ y a. let k = kept_row y.0 a.0 in (
          (k.0, y.1),
          (
            k.1,
            a.1,
            λ s. a.2 (subst (λ (S : Stages). Same (Exit old S y.1) (Exit new S y.1)) (sym k.2)
                (step_exits old new t u before after events keeps k.0 y.1 k.1 a.1 s)),
          ),
          pair_is y k.0 k.2,
        )) p.turned_steps;
  }
    where
      pair : ℕ × ℕ → Stages × ℕ
      pair p = (t.set p.0, p.1)

      pair_one : (x y : ℕ × ℕ) → KeptRow t u x.0 → KeptRow t u y.0 → pair x ≡ pair y → x ≡ y
      pair_one x y a b e = let r = apart_old x.0 y.0 a.before b.before (λ i. (e i).0) in λ i. (r i, (e i).1)

      pair_is : (y : Stages × ℕ) (r : ℕ) → y.0 ≡ t.set r → y ≡ pair (r, y.1)
      pair_is y r e = λ i. (e i, y.1)

pub rows_count_sets : (old new : Rules) (t u : Table) → Sound old t → Sound new u → old.events ≡ new.events → KeepsNumbers t u →
    (c : Tally) → CountedRows old new t u c → Reported old new c
rows_count_sets = rows_report

pub kept_sets_stay : (old new : Rules) (t u : Table) → Sound old t → Sound new u → old.events ≡ new.events → KeepsNumbers t u →
    (S : Stages) (e : ℕ) → Kept old new S → Event old e → (Named old new S e → ⊥) →
    Same (Exit old S e) (Exit new S e) × ((r : ℕ) × KeptRow t u r × (S ≡ t.set r) × SameStep t u r e)
kept_sets_stay old new t u before after events keeps S e kept is_event free =
    let k = kept_row old new t u before after events keeps S kept in
    let h = unnamed_stays old new t u before after events keeps k.0 e k.1 is_event
    (λ n. free (subst (λ (X : Stages). Named old new X e) (sym k.2) n)) in
    (subst (λ (X : Stages). Same (Exit old X e) (Exit new X e)) (sym k.2) h.0, (k.0, k.1, k.2, h.1))

pub rows_count_reached : (rules : Rules) (t : Table) (c : ℕ) → Sound rules t → Counts ℕ (λ r. t.used r ≡ true) c →
    Counts Stages (Reached rules) c
rows_count_reached rules t c s p = counts_map (λ r. t.used r ≡ true) (Reached rules) t.set (λ r u. set_reached rules t s r u)
    (λ r q u v e. s.rows.apart r q u v (λ n. ap (λ (X : Stages). X n) e)) (λ S x. row_of_lem rules t s S x) p

pub reached_at_least : (rules : Rules) (found : List Stages) (c : ℕ) → NoRepeat found → ((S : Stages) → Among S found → Reached rules S) →
    Counts Stages (Reached rules) c → length found ≤ c
reached_at_least rules found c n h p = subst (λ (x : ℕ). length found ≤ x) p.count (fewer found p.list n (λ S m. (p.exactly S).1 (h S m)))

pub one_report : (old new : Rules) (c d : Tally) → Reported old new c → Reported old new d → c ≡ d
one_report old new c d p q = λ i. record {
  kept = one_count p.kept_sets q.kept_sets i;
  born = one_count p.born_sets q.born_sets i;
  retired = one_count p.retired_sets q.retired_sets i;
  named = one_count p.named_pairs q.named_pairs i;
  turned = one_count p.turned_pairs q.turned_pairs i;
}
