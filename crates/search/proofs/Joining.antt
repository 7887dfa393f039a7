-- What a node that is seen leaves true. Assumes nothing.
use Rattle.std.proofs.Common.{◌≡◌, ℕ, ◌+◌, ◌<◌, ◌≤◌, ◌≢◌, true, eqb, List, length, take, get_or, set, sym, refl, ap, ◌∙◌, subst, subst₂, inl, inr, ⊎_elim, arith, below_more}
use mathlib.Core.Path.{subst₃}
use Rattle.std.specs.List.{list_any}
use Rattle.std.proofs.lemmas.List.{get_or-set_same, get_or-set_other, get_or-take, length-set, length-take, take-set}
use Rattle.std.proofs.lemmas.List.Folds.{Any-from_list_any, list_any_more}
use Rattle.std.proofs.lemmas.Bool.{cases_eq, eq-eqb, eqb-true}
use Rattle.std.proofs.lemmas.Bool.Decides.{nat_tests}
use Rattle.std.proofs.lemmas.Grind.{get_or_default_zero}
use Rattle.search.specs.Walks.{From}
use Rattle.search.specs.Queue.{Queued, Joined, unseen, at}
use Rattle.search.proofs.Unseen.{unseen_all, unseen_set}

-- before any node is seen
pub none_queued : (dist nodes : List ℕ) → length dist ≤ 4096 → length dist ≤ length nodes → ((v : ℕ) → v < length dist → get_or dist v 0 ≡ 65535) → Queued dist nodes 0
none_queued dist nodes small fits clear =
    record {
      small = small;
      fits = fits;
      room = omega (arith, unseen_all dist clear);
      inside = λ p h. absurd (omega arith);
      early = λ p h. absurd (omega arith);
      placed = λ v h s. absurd (s (clear v h));
      ordered = λ p r l h. absurd (omega arith);
    }

-- where a seen node stands
pub place_of : {dist nodes : List ℕ} {tail : ℕ} → Queued dist nodes tail → (v : ℕ) → v < length dist → get_or dist v 0 ≢ 65535 → (p : ℕ) × (p < tail) × (get_or nodes p 0 ≡ v)
place_of {nodes = nodes} {tail = tail} q v h s =
    let a = Any-from_list_any (λ u. eqb u v) (take tail nodes) (q.placed v h s) in
    let low : a.0 < tail = omega (arith, a.2, length-take tail nodes) in (
      a.0,
      low,
      sym (get_or_default_zero nodes a.0 a.1 (omega (arith, a.2, length-take tail nodes))) ∙ sym (get_or-take tail nodes a.0 a.1 low) ∙ a.3 ∙ eqb-true a.1 v a.4,
    )

-- what is written past the end of the queue leaves the places in it as they are
old_place : (nodes : List ℕ) (tail node p : ℕ) → p < tail → get_or (set nodes tail node) p 0 ≡ get_or nodes p 0
old_place nodes tail node p h = get_or-set_other nodes tail p node 0 (omega arith)

-- after a node was seen at distance d
pub record After (node d : ℕ) (dist nodes : List ℕ) (tail : ℕ) (dist' nodes' : List ℕ) (tail' : ℕ) : Type 0 where
  pub queue : Queued dist' nodes' tail'
  pub long : length dist' ≡ length dist
  pub longer : tail ≤ tail'
  pub queued : (p : ℕ) → p < tail → get_or nodes' p 0 ≡ get_or nodes p 0
  pub seen : (v : ℕ) → get_or dist v 0 ≢ 65535 → get_or dist' v 0 ≡ get_or dist v 0
  pub walks : (nbr : ℕ → List ℕ) (starts : List ℕ) → From nbr starts node d → ((p : ℕ) → p < tail → From nbr starts (get_or nodes p 0) (at dist nodes p)) → (p : ℕ) → p < tail' → From nbr starts (get_or nodes' p 0) (at dist' nodes' p)
  pub near : (p : ℕ) → p < tail' → at dist' nodes' p ≤ d
  pub led : get_or dist' node 0 ≤ d

module _ {dist nodes : List ℕ} {tail node d : ℕ} (q : Queued dist nodes tail) (inn : node < length dist) (new : get_or dist node 0 ≡ 65535) (low : d ≤ tail) (near : (p : ℕ) → p < tail → at dist nodes p ≤ d) where
  few : unseen (set dist node d) + 1 ≡ unseen dist
  few = unseen_set dist node d inn new (omega (arith, q.room, q.small))

  free : tail < length dist
  free = omega (arith, q.room, few)

  old_node : (v : ℕ) → get_or dist v 0 ≢ 65535 → get_or (set dist node d) v 0 ≡ get_or dist v 0
  old_node v h = get_or-set_other dist node v d 0 (λ e. h (ap (λ u. get_or dist u 0) e ∙ new))

  old_at : (p : ℕ) → p < tail → at (set dist node d) (set nodes tail node) p ≡ at dist nodes p
  old_at p h =
      ap (λ v. get_or (set dist node d) v 0) (old_place nodes tail node p h)
      ∙ old_node (get_or nodes p 0) (omega (arith, q.early p h, free, q.small))

  new_place : get_or (set nodes tail node) tail 0 ≡ node
  new_place = get_or-set_same nodes tail node 0 (omega (arith, free, q.fits))

  new_at : at (set dist node d) (set nodes tail node) tail ≡ d
  new_at = ap (λ v. get_or (set dist node d) v 0) new_place ∙ get_or-set_same dist node d 0 inn

  new_near : (p : ℕ) → p < tail + 1 → at (set dist node d) (set nodes tail node) p ≤ d
  new_near = below_more (λ p. at (set dist node d) (set nodes tail node) p ≤ d) tail (λ p h. omega (arith, old_at p h, near p h)) (omega (arith, new_at))

  new_placed : (v : ℕ) → v < length (set dist node d) → get_or (set dist node d) v 0 ≢ 65535 → list_any (λ u. eqb u v) (take (tail + 1) (set nodes tail node)) ≡ true
  new_placed v h s =
      let more = list_any_more (λ u. eqb u v) (set nodes tail node) tail 0 (omega (arith, length-set nodes tail node, free, q.fits)) in
      let kept = take-set nodes tail node in
      ⊎_elim
      (λ (e : v ≡ node). let is = eq-eqb (get_or (set nodes tail node) tail 0) v (new_place ∙ sym e) in grind (arith, nat_tests))
      (λ (ne : v ≡ node → ⊥).
      let same = get_or-set_other dist node v d 0 ne in
      let was = q.placed v (omega (arith, length-set dist node d)) (λ e. s (same ∙ e)) in
      grind (arith, nat_tests))
      (cases_eq v node)

  new_ordered : (p r : ℕ) → p ≤ r → r < tail + 1 → at (set dist node d) (set nodes tail node) p ≤ at (set dist node d) (set nodes tail node) r
  new_ordered p r l h =
      ⊎_elim
      (λ (e : r ≡ tail). subst (λ x. at (set dist node d) (set nodes tail node) p ≤ at (set dist node d) (set nodes tail node) x) (sym e) (omega (arith, new_near p (omega arith), new_at)))
      (λ (ne : r ≡ tail → ⊥).
      let below : r < tail = omega arith in
      omega (arith, old_at r below, old_at p (omega arith), q.ordered p r l below))
      (cases_eq r tail)

  pushed : After node d dist nodes tail (set dist node d) (set nodes tail node) (tail + 1)
  pushed =
      record {
        queue = record {
          small = simp length-set q.small;
          fits = simp length-set q.fits;
          room = omega (arith, length-set dist node d, few, q.room);
          inside = below_more (λ p. get_or (set nodes tail node) p 0 < length (set dist node d)) tail (λ p h. omega (arith, old_place nodes tail node p h, length-set dist node d, q.inside p h)) (omega (arith, new_place, length-set dist node d, inn));
          early = below_more (λ p. at (set dist node d) (set nodes tail node) p ≤ p) tail (λ p h. omega (arith, old_at p h, q.early p h)) (omega (arith, new_at, low));
          placed = new_placed;
          ordered = new_ordered;
        };
        long = length-set dist node d;
        longer = omega arith;
        queued = old_place nodes tail node;
        seen = old_node;
        walks = λ nbr starts w ws.
            below_more (λ p. From nbr starts (get_or (set nodes tail node) p 0) (at (set dist node d) (set nodes tail node) p)) tail
            (λ p h. subst₂ (From nbr starts) (sym (old_place nodes tail node p h)) (sym (old_at p h)) (ws p h))
            (subst₂ (From nbr starts) (sym new_place) (sym new_at) w);
        near = new_near;
        led = omega (arith, get_or-set_same dist node d 0 inn);
      }

module _ {dist nodes : List ℕ} {tail node d : ℕ} (q : Queued dist nodes tail) (inn : node < length dist) (near : (p : ℕ) → p < tail → at dist nodes p ≤ d) where
  was_seen : get_or dist node 0 ≢ 65535 → After node d dist nodes tail dist nodes tail
  was_seen s =
      record {
        queue = q;
        long = refl;
        longer = omega arith;
        queued = λ p h. refl;
        seen = λ v h. refl;
        walks = λ nbr starts w ws. ws;
        near = near;
        led = let t = place_of q node inn s in subst (λ v. get_or dist v 0 ≤ d) t.2 (near t.0 t.1);
      }

  pub seen : d ≤ tail → {dist' nodes' : List ℕ} {tail' : ℕ} → Joined dist nodes tail node d dist' nodes' tail' → After node d dist nodes tail dist' nodes' tail'
  seen low (inl h) = subst₃ (After node d dist nodes tail) (sym h.1) (sym h.2) (sym h.3) (was_seen h.0)
  seen low (inr h) = subst₃ (After node d dist nodes tail) (sym h.1) (sym h.2) (sym h.3) (pushed q inn h.0 low near)
