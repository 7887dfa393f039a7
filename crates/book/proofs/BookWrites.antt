-- What a book record means: the arcs of a stage, the number of arcs, and the fresh book.
use Rattle.std.proofs.Common.{◌≡◌, ℕ, zero, suc, ◌<◌, ◌≤◌, true, eqb, ◌⊎◌, List, Some, None, Option, count_by, length, get_or, set, replicate, sym, refl, ap, ◌∙◌, inl, inr, arith, length-set}
use lib.ListN.{length-replicate}
use Rattle.std.proofs.lemmas.Bool.{false≢true, eqb-true, eq-eqb, ne_eqb, leb-true, or_left, or_right, or_cases, cases_lt}
use Rattle.std.proofs.lemmas.List.{get_or_past}
use Rattle.std.proofs.lemmas.List.Folds.{list_any_at, Any-from_list_any, list_any-from_Any}
use Rattle.rules.specs.declared.change.Arc.{Arc}
use Rattle.rules.specs.Rules.{Rules, fresh, has_any_arc, standing}
use Rattle.rules.proofs.Booleans.{both}
use Rattle.rules.proofs.Counting.{one_count, counts_map}
use Rattle.rules.proofs.ArcCounts.{Joins, arcs_count}
use Rattle.rules.proofs.Conditions.{joined_there, joined_back}
use Rattle.book.specs.declared.record.Stage.{Stage}
use Rattle.book.specs.declared.record.Book.{Book}
use Rattle.book.specs.Slots.{here, touches, arcs_in, joined, tally, proper}
use Rattle.book.specs.Consistency.{Consistent, no_stage, live_in, mark_in}
use Rattle.book.specs.Records.{rules_of}
use Rattle.book.proofs.SlotWrites.{same_arc}
use Rattle.book.proofs.ArcsOfSlots.{found, proper_parts, itself, slot_counts}

pub low_live : (l : List Stage) → length l ≡ 256 → (k : ℕ) → live_in l k ≡ true → k < 256
low_live l e k h = go (cases_lt k 256)
  where
    go : (k < 256) ⊎ (256 ≤ k) → k < 256
    go (inl x) = x
    go (inr x) = absurd (false≢true (sym (ap (λ (s : Stage). s.live) (get_or_past l k no_stage (omega arith))) ∙ h))

pub ends_fit : (b : Book) (m e n : ℕ) → arcs_in b.arcs m e n ≡ true → (live_in b.stages m ≡ true) × (live_in b.stages n ≡ true) × (e ≤ b.events)
ends_fit b m e n h =
    let a = found (here m e n) refl b.arcs h in
    let x = a.1 in
    let p = proper_parts (live_in b.stages) b.events x (sym (ap (proper (live_in b.stages) b.events) a.3) ∙ b.consistent.2.2 a.0) in
    let q = same_arc m e n x.from x.label x.to a.4 in (
      ap (live_in b.stages) q.0 ∙ p.from_live,
      ap (live_in b.stages) q.2 ∙ p.to_live,
      omega (arith, leb-true x.label b.events p.label_low, q.1),
    )

joins : (b : Book) → Joins (rules_of b)
joins b = record { low = low_live b.stages b.consistent.1.0; ends = ends_fit b }

pub joined_meant : (b : Book) (n : ℕ) → has_any_arc (rules_of b) n ≡ joined b.arcs n
joined_meant b n = both (has_any_arc (rules_of b) n) (joined b.arcs n) (there, back)
  where
    touching : (m e k : ℕ) → (m ≡ n) ⊎ (k ≡ n) → (s : Option Arc) → here m e k s ≡ true → touches n s ≡ true
    touching m e k w None h = absurd (false≢true h)
    touching m e k (inl p) (Some a) h = or_left (eqb n a.from) (eqb n a.to) (eq-eqb n a.from (sym p ∙ (same_arc m e k a.from a.label a.to h).0))
    touching m e k (inr p) (Some a) h = or_right (eqb n a.from) (eqb n a.to) (eq-eqb n a.to (sym p ∙ (same_arc m e k a.from a.label a.to h).2))

    there : has_any_arc (rules_of b) n ≡ true → joined b.arcs n ≡ true
    there h =
        let j = joined_there (rules_of b) (joins b) n h in
        let a = Any-from_list_any (here j.0 j.1 j.2) b.arcs j.3 in
        list_any-from_Any (touches n) b.arcs (a.0, a.1, a.2, a.3, touching j.0 j.1 j.2 j.4 a.1 a.4)

    back : joined b.arcs n ≡ true → has_any_arc (rules_of b) n ≡ true
    back h =
        let a = found (touches n) refl b.arcs h in
        let x = a.1 in
        let t = list_any_at (here x.from x.label x.to) b.arcs a.0 None a.2 (ap (here x.from x.label x.to) a.3 ∙ itself x) in
        joined_back (rules_of b) (joins b) n (x.from, x.label, x.to, t, end x (or_cases (eqb n x.from) (eqb n x.to) a.4))
      where
        end : (x : Arc) → (eqb n x.from ≡ true) ⊎ (eqb n x.to ≡ true) → (x.from ≡ n) ⊎ (x.to ≡ n)
        end x (inl e) = inl (sym (eqb-true n x.from e))
        end x (inr e) = inr (sym (eqb-true n x.to e))

pub standing_meant : (b : Book) → standing (rules_of b) ≡ tally b.arcs
standing_meant b =
    one_count (arcs_count (rules_of b) (joins b))
    (counts_map (λ a. arcs_in b.arcs a.from a.label a.to ≡ true) (λ t. arcs_in b.arcs t.0 t.1 t.2 ≡ true) (λ a. (a.from, a.label, a.to))
    (λ a h. h) (λ x y p q e i. record { from = (e i).0; label = (e i).1; to = (e i).2 }) (λ t h. (record { from = t.0; label = t.1; to = t.2 }, h, refl))
    (slot_counts b.arcs b.consistent.2.1))

-- the fresh book
get_or_all : {A : Type 0} (n k : ℕ) (v : A) → get_or (replicate n v) k v ≡ v
get_or_all zero k v = refl
get_or_all (suc n) zero v = refl
get_or_all (suc n) (suc k) v = get_or_all n k v

abbrev first_stage : Stage
first_stage = record { live = true; mark = 0 }

-- the fresh book's stages
abbrev pub FreshStages : List Stage → Type 0
FreshStages l = l ≡ set (replicate 256 no_stage) 0 first_stage

fresh_live : (l : List Stage) → FreshStages l → (k : ℕ) → live_in l k ≡ eqb k 0
fresh_live l x zero = ap (λ v. live_in v 0) x
fresh_live l x (suc k) =
    ap (λ v. live_in v (suc k)) x ∙ ap (λ (s : Stage). s.live) (get_or_all 255 k no_stage) ∙ sym (ne_eqb (suc k) 0 (λ e. omega (arith, e)))

fresh_mark : (l : List Stage) → FreshStages l → (k : ℕ) → mark_in l k ≡ 0
fresh_mark l x zero = ap (λ v. mark_in v 0) x
fresh_mark l x (suc k) = ap (λ v. mark_in v (suc k)) x ∙ ap (λ (s : Stage). s.mark) (get_or_all 255 k no_stage)

pub consistent_fresh : (E : ℕ) (l : List Stage) (ss : List (Option Arc)) → 1 ≤ E → E ≤ 15 → FreshStages l → ss ≡ replicate 1024 None → Consistent E l ss 0
consistent_fresh E l ss p q x z = (
  (p, q),
  (
    ap length x ∙ length-set (replicate 256 no_stage) 0 first_stage ∙ length-replicate 256 no_stage,
    fresh_live l x 0,
    λ n. omega (arith, fresh_mark l x n),
  ),
  (
    ap length z ∙ length-replicate {A = Option Arc} 1024 None,
    λ m e n. omega (arith, ap (count_by (here m e n)) z),
    λ k. ap (λ v. proper (live_in l) E (get_or v k None)) z ∙ ap (proper (live_in l) E) (get_or_all 1024 k None),
    sym (ap tally z),
  ),
)

pub fresh_meant : (E : ℕ) (l : List Stage) (ss : List (Option Arc)) → FreshStages l → ss ≡ replicate 1024 None →
    ◌≡◌ {A = Rules} (record { events = E; live = live_in l; mark = mark_in l; arc = arcs_in ss }) (fresh E)
fresh_meant E l ss x z = λ i. record {
  events = E;
  live = λ k. fresh_live l x k i;
  mark = λ k. fresh_mark l x k i;
  arc = λ a b c. arcs_in (z i) a b c;
}
