-- Books that are alike have one canonical text.
use Rattle.std.proofs.Common.{◌≡◌, ℕ, Bool, true, false, cond, eqb, ◌⊎◌, List, [], ◌∷◌, ◌++◌, map, sym, refl, ap, ◌∙◌, subst, inl, inr, arith}
use Rattle.rules.specs.declared.change.Arc.{Arc as AnArc}
use Rattle.rules.specs.declared.change.Change.{Change}
use Rattle.rules.specs.declared.change.Change.TheVariants.{Stage, Arc, Mark}
use Rattle.rules.specs.Rules.{Rules, Alike, WellFormed}
use Rattle.rules.specs.Counts.{Among}
use Rattle.rules.specs.Listing.{each_below}
use Rattle.book_text.specs.Canonical.{ArcBefore, Ascending, CanonicalText, stage_change, stage_changes, text_of}

pub before_itself : (x : AnArc) → ArcBefore x x → ⊥
before_itself x (inl l) = omega arith
before_itself x (inr (e, inl l)) = omega arith
before_itself x (inr (e, inr (f, l))) = omega arith

before_both : (x y : AnArc) → ArcBefore x y → ArcBefore y x → ⊥
before_both x y (inl l) (inl k) = omega arith
before_both x y (inl l) (inr (e, k)) = omega arith
before_both x y (inr (e, l)) (inl k) = omega arith
before_both x y (inr (e, inl l)) (inr (f, inl k)) = omega arith
before_both x y (inr (e, inl l)) (inr (f, inr (g, k))) = omega arith
before_both x y (inr (e, inr (h, l))) (inr (f, inl k)) = omega arith
before_both x y (inr (e, inr (h, l))) (inr (f, inr (g, k))) = omega arith

-- two ascending lists with the same members are equal
one_order : (xs ys : List AnArc) → Ascending xs → Ascending ys → ((x : AnArc) → Among x xs → Among x ys) →
    ((x : AnArc) → Among x ys → Among x xs) → xs ≡ ys
one_order [] [] p q f g = refl
one_order [] (y ∷ ys) p q f g = absurd (g y (inl refl))
one_order (x ∷ xs) [] p q f g = absurd (f x (inl refl))
one_order (x ∷ xs) (y ∷ ys) p q f g =
    let e : x ≡ y = same (f x (inl refl)) (g y (inl refl)) in
    let r = one_order xs ys p.1 q.1 (λ z h. into e z h (f z (inr h))) (λ z h. out e z h (g z (inr h))) in
    λ i. e i ∷ r i
  where
    same : Among x (y ∷ ys) → Among y (x ∷ xs) → x ≡ y
    same (inl e) h = e
    same (inr h) (inl e) = sym e
    same (inr h) (inr k) = absurd (before_both x y (p.0 y k) (q.0 x h))

    into : x ≡ y → (z : AnArc) → Among z xs → (z ≡ y) ⊎ Among z ys → Among z ys
    into e z h (inl d) = absurd (before_itself x (p.0 x (subst (λ (w : AnArc). Among w xs) (d ∙ sym e) h)))
    into e z h (inr k) = k

    out : x ≡ y → (z : AnArc) → Among z ys → (z ≡ x) ⊎ Among z xs → Among z xs
    out e z h (inl d) = absurd (before_itself y (q.0 y (subst (λ (w : AnArc). Among w ys) (d ∙ e) h)))
    out e z h (inr k) = k

each_same : (n : ℕ) (f g : ℕ → List Change) → ((k : ℕ) → f k ≡ g k) → each_below n f ≡ each_below n g
each_same n f g h = ap (each_below n) (λ i k. h k i)

stage_same : (W : ℕ) (a b : Rules) → WellFormed W a → Alike a b → (n : ℕ) → stage_change a n ≡ stage_change b n
stage_same W a b g s n = go (eqb n 0) (a.live n) refl
  where
    go : (u v : Bool) → a.live n ≡ v → cond u (Mark 0 (a.mark 0) ∷ []) (cond (a.live n) (Stage n (a.mark n) ∷ []) [])
        ≡ cond u (Mark 0 (b.mark 0) ∷ []) (cond (b.live n) (Stage n (b.mark n) ∷ []) [])
    go true v h = ap (λ (k : ℕ). Mark 0 k ∷ []) (s.mark 0 g.start_live)
    go false true h =
        ap (λ (w : Bool). cond w (Stage n (a.mark n) ∷ []) []) (s.live n)
        ∙ ap (λ (k : ℕ). cond (b.live n) (Stage n k ∷ []) []) (s.mark n h)
    go false false h =
        ap (λ (w : Bool). cond w (Stage n (a.mark n) ∷ []) []) h
        ∙ sym (ap (λ (w : Bool). cond w (Stage n (b.mark n) ∷ []) []) (sym (s.live n) ∙ h))

pub one_text : (W : ℕ) (a b : Rules) (x y : List ℕ) → WellFormed W a → Alike a b → CanonicalText a x → CanonicalText b y → x ≡ y
one_text W a b x y g s p q = p.is ∙ (λ i. text_of (s.events i) (changes i)) ∙ sym q.is
  where
    there : (z : AnArc) → Among z p.canonical.arcs → Among z q.canonical.arcs
    there z h = (q.canonical.in_order.exactly z).1 (sym (s.arc z.from z.label z.to) ∙ (p.canonical.in_order.exactly z).0 h)

    back : (z : AnArc) → Among z q.canonical.arcs → Among z p.canonical.arcs
    back z h = (p.canonical.in_order.exactly z).1 (s.arc z.from z.label z.to ∙ (q.canonical.in_order.exactly z).0 h)

    arcs : p.canonical.arcs ≡ q.canonical.arcs
    arcs = one_order p.canonical.arcs q.canonical.arcs p.canonical.in_order.ascending q.canonical.in_order.ascending there back

    stages : stage_changes a ≡ stage_changes b
    stages = each_same 256 (stage_change a) (stage_change b) (stage_same W a b g s)

    changes : p.changes ≡ q.changes
    changes = p.canonical.are ∙ (λ i. stages i ++ map Arc (arcs i)) ∙ sym q.canonical.are
