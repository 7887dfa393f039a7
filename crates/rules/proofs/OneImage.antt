-- Books that tell the same have the same image.
use Rattle.std.proofs.Common.{◌≡◌, ℕ, zero, suc, ◌<◌, ◌≤◌, Bool, true, false, List, [], ◌∷◌, ◌++◌, length, get_or, Some, None, Option, sym, refl, ap, ◌∙◌, subst, ap₂, arith}
use Rattle.rules.specs.Rules.{Rules}
use Rattle.rules.specs.Paths.{R, Exit, Holds, Same, Event}
use Rattle.rules.specs.Table.{Table}
use Rattle.rules.specs.Order.{TellsSame}
use Rattle.rules.specs.Turn.{InOrder, InTurn}
use Rattle.rules.specs.Image.{stage_bits, exit_bits, row_bits, image_bits, bytes, header_bits, Highest, Image}
use Rattle.rules.specs.Listing.{each_below}
use Rattle.rules.proofs.PathParts.{reach_stands}
use Rattle.rules.proofs.Booleans.{both}
use Rattle.rules.proofs.Leads.{leads_some, onward_word}
use Rattle.rules.proofs.TurnOrder.{turn_is_order}
use Rattle.rules.proofs.FirstLists.{one_enumeration}

pub each_same : (n : ℕ) (f g : ℕ → List Bool) → ((k : ℕ) → k < n → f k ≡ g k) → each_below n f ≡ each_below n g
unfolding each_below
each_same zero f g h = refl
each_same (suc n) f g h = ap₂ {C = List Bool} ◌++◌ (each_same n f g (λ k l. h k (omega arith))) (h n (omega arith))

highest_one : (a b : Rules) (i j : ℕ) → TellsSame a b → Highest a i → Highest b j → i ≡ j
highest_one a b i j l h k =
    let p = k.last i (sym (l.live i) ∙ h.is_live) in
    let q = h.last j (l.live j ∙ k.is_live) in
    omega arith

stage_same : (a b : Rules) → TellsSame a b → (n : ℕ) → stage_bits a n ≡ stage_bits b n
stage_same a b l n = go (a.live n) refl
  where
    go : (x : Bool) → a.live n ≡ x → stage_bits a n ≡ stage_bits b n
    go true h = let k = l.mark n h in let m = l.live n in rw (← m, h, k)
    go false h = let m = l.live n in rw (← m, h)

-- the list that leads to a place
pub word_holds : (rules : Rules) (t : Table) (N : ℕ) (ws : List (List ℕ)) → InOrder rules t N ws → (i : ℕ) → i < N → Holds (t.set i) (R rules (get_or ws i []))
word_holds rules t N ws o i h = let l = o.leads_there i h in
    (leads_some rules t o.rows (get_or ws i []) i (onward_word rules t o.rows (get_or ws i []) t.start i o.rows.start_used l) l).1

module _ (a b : Rules) (t u : Table) (N : ℕ) (ws : List (List ℕ)) (tells : TellsSame a b) (p : InOrder a t N ws) (q : InOrder b u N ws) where
  set_same : (i n : ℕ) → i < N → t.set i n ≡ u.set i n
  set_same i n h = let x = word_holds a t N ws p i h in let y = word_holds b u N ws q i h in
      both _ _ (λ s. (y n).1 ((tells.reach _ n).0 ((x n).0 s)), λ s. (x n).1 ((tells.reach _ n).1 ((y n).0 s)))

  exits_same : (i e : ℕ) → i < N → 0 < e → Same (Exit a (t.set i) e) (Exit b (u.set i) e)
  exits_same i e h k n =
      let x = (reach_stands a).grows (get_or ws i []) e (t.set i) k (word_holds a t N ws p i h) n in
      let y = (reach_stands b).grows (get_or ws i []) e (u.set i) k (word_holds b u N ws q i h) n in
      (λ z. y.0 ((tells.reach _ n).0 (x.1 z)), λ z. x.0 ((tells.reach _ n).1 (y.1 z)))

  exit_same : (i e : ℕ) → i < N → Event a e → t.exit i e ≡ u.exit i e
  exit_same i e h k = go (t.exit i e) (u.exit i e) refl refl
    where
      k' : Event b e
      k' = (k.0, rw tells.events at k.1)

      x : Same (Exit a (t.set i) e) (Exit b (u.set i) e)
      x = exits_same i e h k.0

      go : (o o' : Option ℕ) → t.exit i e ≡ o → u.exit i e ≡ o' → o ≡ o'
      go None None l m = refl
      go None (Some j) l m =
          let y = q.rows.exit_row i e j ((q.places i).1 h) k' m in
          let z = q.rows.inhabited j y.0 in
          absurd (p.rows.no_exit i e ((p.places i).1 h) k l z.0 ((x z.0).1 ((y.1 z.0).0 z.1)))
      go (Some j) None l m =
          let y = p.rows.exit_row i e j ((p.places i).1 h) k l in
          let z = p.rows.inhabited j y.0 in
          absurd (q.rows.no_exit i e ((q.places i).1 h) k' m z.0 ((x z.0).0 ((y.1 z.0).0 z.1)))
      go (Some j) (Some j') l m =
          let y = p.rows.exit_row i e j ((p.places i).1 h) k l in
          let z = q.rows.exit_row i e j' ((q.places i).1 h) k' m in
          let here = (p.places j).0 y.0 in
          ap {B = Option ℕ} Some (q.rows.apart j j' ((q.places j).1 here) z.0
          (λ n. sym (set_same j n here) ∙ both _ _ (λ s. (z.1 n).1 ((x n).0 ((y.1 n).0 s)), λ s. (y.1 n).1 ((x n).1 ((z.1 n).0 s)))))

  bits_same : (top : ℕ) → image_bits a top N t ≡ image_bits b top N u
  bits_same top = ap₂ {C = List Bool} ◌++◌ (ap (λ (E : ℕ). header_bits E top N) tells.events)
      (ap₂ {C = List Bool} ◌++◌ (each_same (suc top) (stage_bits a) (stage_bits b) (λ n h. stage_same a b tells n))
      (each_same N (row_bits a top t) (row_bits b top u) (λ i h. ap₂ {C = List Bool} ◌++◌
      (each_same (suc top) (λ n. t.set i n ∷ []) (λ n. u.set i n ∷ []) (λ n g. ap (λ (x : Bool). x ∷ []) (set_same i n h)))
      (each_same a.events (λ k. exit_bits (t.exit i (suc k))) (λ k. exit_bits (u.exit i (suc k)))
      (λ k g. ap exit_bits (exit_same i (suc k) h (omega arith, g)))
      ∙ ap (λ (E : ℕ). each_below E (λ k. exit_bits (u.exit i (suc k)))) tells.events))))

pub one_image : (a b : Rules) (x y : List ℕ) → TellsSame a b → Image a x → Image b y → x ≡ y
one_image a b x y tells p q =
    let tops = highest_one a b p.top q.top tells p.highest q.highest in
    let words = one_enumeration a b p.words q.words tells p.in_order.enumerates q.in_order.enumerates in
    let counts : p.count ≡ q.count = sym p.in_order.count ∙ ap length words ∙ q.in_order.count in
    let ordered : InOrder a p.by_place q.count q.words =
    subst (λ (ws : List (List ℕ)). InOrder a p.by_place q.count ws) words
    (subst (λ (N : ℕ). InOrder a p.by_place N p.words) counts p.in_order) in
    p.is ∙ ap bytes (ap₂ {C = List Bool} (λ top N. image_bits a top N p.by_place) tops counts
    ∙ bits_same a b p.by_place q.by_place q.count q.words tells ordered q.in_order q.top) ∙ sym q.is

pub turn_image : (rules : Rules) (t : Table) (top N : ℕ) (from by : ℕ → ℕ) → N ≤ 4096 → Highest rules top → InTurn rules t N from by →
    Image rules (bytes (image_bits rules top N t))
turn_image rules t top N from by few highest in_turn = let o = turn_is_order rules t N from by in_turn in
    record { top = top; count = N; by_place = t; words = o.0; few = few; highest = highest; in_order = o.1; is = refl }
