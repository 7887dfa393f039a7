-- A list without repeat is no longer than one that holds all its members; a count is one number; things counted by other names.
use Rattle.std.proofs.Common.{◌≡◌, ℕ, suc, ◌≤◌, ◌⊎◌, List, [], ◌∷◌, ◌++◌, map, length, sym, refl, ap, ◌∙◌, subst, inl, inr, arith}
use lib.ListN.{length-map}
use Rattle.rules.specs.Counts.{Among, NoRepeat, Counts}

-- members of two lists, one after the other
pub among_left : {A : Type 0} (a : A) (xs ys : List A) → Among a xs → Among a (xs ++ ys)
among_left a [] ys h = absurd h
among_left a (x ∷ xs) ys (inl e) = inl e
among_left a (x ∷ xs) ys (inr h) = inr (among_left a xs ys h)

pub among_right : {A : Type 0} (a : A) (xs ys : List A) → Among a ys → Among a (xs ++ ys)
among_right a [] ys h = h
among_right a (x ∷ xs) ys h = inr (among_right a xs ys h)

pub among_split : {A : Type 0} (a : A) (xs ys : List A) → Among a (xs ++ ys) → Among a xs ⊎ Among a ys
among_split a [] ys h = inr h
among_split a (x ∷ xs) ys (inl e) = inl (inl e)
among_split {A = A} a (x ∷ xs) ys (inr h) = go (among_split a xs ys h)
  where
    go : Among a xs ⊎ Among a ys → Among a (x ∷ xs) ⊎ Among a ys
    go (inl p) = inl (inr p)
    go (inr p) = inr p

pub repeat_append : {A : Type 0} (xs ys : List A) → NoRepeat xs → NoRepeat ys → ((a : A) → Among a xs → Among a ys → ⊥) → NoRepeat (xs ++ ys)
repeat_append [] ys p q d = q
repeat_append {A = A} (x ∷ xs) ys p q d = ((λ h. go (among_split x xs ys h)), repeat_append xs ys p.1 q (λ a u v. d a (inr u) v))
  where
    go : Among x xs ⊎ Among x ys → ⊥
    go (inl u) = p.0 u
    go (inr v) = d x (inl refl) v

without : {A : Type 0} (l : List A) (x : A) → Among x l → List A
without [] x m = []
without (y ∷ l) x (inl e) = l
without (y ∷ l) x (inr m) = y ∷ without l x m

length_without : {A : Type 0} (l : List A) (x : A) (m : Among x l) → length l ≡ suc (length (without l x m))
unfolding without
length_without [] x m = absurd m
length_without (y ∷ l) x (inl e) = refl
length_without (y ∷ l) x (inr m) = ap suc (length_without l x m)

among_without : {A : Type 0} (l : List A) (x y : A) (m : Among x l) → Among y l → (y ≡ x → ⊥) → Among y (without l x m)
unfolding without
among_without [] x y m k h = absurd m
among_without (z ∷ l) x y (inl e) (inl f) h = absurd (h (f ∙ sym e))
among_without (z ∷ l) x y (inl e) (inr k) h = k
among_without (z ∷ l) x y (inr m) (inl f) h = inl f
among_without (z ∷ l) x y (inr m) (inr k) h = inr (among_without l x y m k h)

pub among_moved : {A : Type 0} (l : List A) (x y : A) → y ≡ x → Among y l → Among x l
among_moved l x y e m = subst (λ z. Among z l) e m

-- a list without repeat whose members all stand in another list is no longer than that
pub fewer : {A : Type 0} (xs ys : List A) → NoRepeat xs → ((x : A) → Among x xs → Among x ys) → length xs ≤ length ys
fewer [] ys n h = omega arith
fewer (x ∷ xs) ys n h = let m = h x (inl refl) in
    let f = fewer xs (without ys x m) n.1 (λ y k. among_without ys x y m (h y (inr k)) (λ e. n.0 (among_moved xs x y e k))) in
    omega (arith, length_without ys x m)

pub one_count : {A : Type 0} {P : A → Type 0} {c d : ℕ} → Counts A P c → Counts A P d → c ≡ d
one_count p q =
    let a = fewer p.list q.list p.no_repeat (λ x m. (q.exactly x).1 ((p.exactly x).0 m)) in
    let b = fewer q.list p.list q.no_repeat (λ x m. (p.exactly x).1 ((q.exactly x).0 m)) in
    omega (arith, p.count, q.count)

-- what is counted by other names
among_map : {A B : Type 0} (f : A → B) (l : List A) (x : A) → Among x l → Among (f x) (map f l)
among_map f [] x m = absurd m
among_map f (y ∷ l) x (inl e) = inl (ap f e)
among_map f (y ∷ l) x (inr m) = inr (among_map f l x m)

map_among : {A B : Type 0} (f : A → B) (l : List A) (y : B) → Among y (map f l) → (x : A) × Among x l × (y ≡ f x)
map_among f [] y m = absurd m
map_among f (x ∷ l) y (inl e) = (x, inl refl, e)
map_among f (x ∷ l) y (inr m) = let h = map_among f l y m in (h.0, inr h.1, h.2)

map_no_repeat : {A B : Type 0} (f : A → B) (l : List A) → ((x y : A) → Among x l → Among y l → f x ≡ f y → x ≡ y) → NoRepeat l → NoRepeat (map f l)
map_no_repeat f [] h n = tt
map_no_repeat f (x ∷ l) h n = (
  λ m. let k = map_among f l (f x) m in n.0 (among_moved l x k.0 (sym (h x k.0 (inl refl) (inr k.1) k.2)) k.1),
  map_no_repeat f l (λ y z a b. h y z (inr a) (inr b)) n.1,
)

pub counts_map : {A B : Type 0} (P : A → Type 0) (Q : B → Type 0) (f : A → B) {c : ℕ} → ((x : A) → P x → Q (f x)) →
    ((x y : A) → P x → P y → f x ≡ f y → x ≡ y) → ((y : B) → Q y → (x : A) × P x × (y ≡ f x)) → Counts A P c → Counts B Q c
counts_map P Q f into one onto p = record {
  list = map f p.list;
  no_repeat = map_no_repeat f p.list (λ x y a b. one x y ((p.exactly x).0 a) ((p.exactly y).0 b)) p.no_repeat;
  exactly = λ y. (
    λ m. let k = map_among f p.list y m in subst Q (sym k.2) (into k.0 ((p.exactly k.0).0 k.1)),
    λ q. let k = onto y q in among_moved (map f p.list) y (f k.0) (sym k.2) (among_map f p.list k.0 ((p.exactly k.0).1 k.1)),
  );
  count = length-map p.list f ∙ p.count;
}
