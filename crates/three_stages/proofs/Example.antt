-- The book of three stages, by listed tables.
use Rattle.std.proofs.Common.{◌≡◌, ℕ, ◌<◌, ◌≤◌, Bool, true, ◌&&◌, eqb, leb, ◌⊎◌, ◌↔◌, List, [], ◌∷◌, length, get_or, Some, None, Option, sym, refl, ap, ◌∙◌, inl, inr, arith, lit≤}
use mathlib.Core.Bool.{false≢true}
use Rattle.std.proofs.lemmas.Bool.{and_parts, or_cases, ltb-true, lt-ltb, eqb-true, leb-true}
use Rattle.rules.specs.Rules.{Rules, WellFormed}
use Rattle.rules.specs.Paths.{Stages}
use Rattle.rules.specs.Table.{Table, Sound}
use Rattle.rules.specs.Listing.{each_below}
use Rattle.rules.specs.Image.{Image, bytes, image_bits}
use Rattle.rules.specs.Turn.{InTurn}
use Rattle.rules.specs.Counts.{Counts, Among}
use Rattle.rules.specs.Report.{Reached, Reported}
use Rattle.three_stages.specs.Example.{has_stage, has_arc, book_of, three_stage_rules, example_book, AtDistance, tally_of, ThreeStageCases}
use Rattle.rules.proofs.ArcCounts.{Joins, arcs_listed}
use Rattle.rules.proofs.Leads.{follows_stands, leads_some}
use Rattle.rules.proofs.Distances.{layers_sound}
use Rattle.rules.proofs.OneImage.{turn_image}
use Rattle.rules.proofs.RowCounts.{rows_count_reached}
use Rattle.three_stages.proofs.FiniteTables.{Arcs}
use Rattle.three_stages.proofs.ListedTables.{table_of, Tested, TurnedTest, listed_layers, listed_turn}
use Rattle.three_stages.proofs.ListedReports.{listed_report, below, below_among, below_no_repeat, among_below}

abbrev three : List ℕ
three = 0 ∷ 1 ∷ 2 ∷ []

abbrev arcs_of_example : Arcs
arcs_of_example = (0, 1, 1) ∷ (0, 1, 2) ∷ (1, 2, 2) ∷ (2, 2, 2) ∷ []

abbrev rows_of_example : List (List ℕ)
rows_of_example = (0 ∷ []) ∷ (1 ∷ 2 ∷ []) ∷ (2 ∷ []) ∷ []

abbrev exits_of_example : List (List (Option ℕ))
exits_of_example = (Some 1 ∷ None ∷ []) ∷ (None ∷ Some 2 ∷ []) ∷ (None ∷ Some 2 ∷ []) ∷ []

tested_example : Tested 2 arcs_of_example rows_of_example exits_of_example (0 ∷ 1 ∷ 2 ∷ []) (0 ∷ 0 ∷ 1 ∷ []) (0 ∷ 1 ∷ 2 ∷ [])
tested_example = record { some_row = refl; start = refl; fill = refl; answers = refl; differ = refl; zero_at = refl; beyond = refl; nears = refl }

turned_example : TurnedTest 2 rows_of_example exits_of_example (0 ∷ 0 ∷ 1 ∷ []) (0 ∷ 1 ∷ 2 ∷ [])
turned_example = record { back = refl; first = refl; turn = refl }

sound_example : Sound example_book (table_of 2 rows_of_example exits_of_example (0 ∷ 1 ∷ 2 ∷ []))
sound_example = layers_sound example_book (table_of 2 rows_of_example exits_of_example (0 ∷ 1 ∷ 2 ∷ []))
    (listed_layers 2 three arcs_of_example rows_of_example exits_of_example (0 ∷ 1 ∷ 2 ∷ []) (0 ∷ 0 ∷ 1 ∷ []) (0 ∷ 1 ∷ 2 ∷ []) tested_example)

at_distance : (rules : Rules) (t : Table) → Sound rules t → (r : ℕ) → t.used r ≡ true → AtDistance rules (t.set r) (t.dist r)
at_distance rules t s r u = let n = s.near r u in record {
  near = (n.0, n.1, (leads_some rules t s.rows n.0 r n.1 n.2).1, n.3);
  nearest = λ w k h. ((follows_stands rules t s).shortest r w u k h).1;
}

-- each row is a set
sets_of : (rules : Rules) (t : Table) → Sound rules t → (N : ℕ) → ((r : ℕ) → (t.used r ≡ true) ↔ (r < N)) → Counts Stages (Reached rules) (length (below N))
sets_of rules t s N p = rows_count_reached rules t (length (below N)) s
    (record { list = below N; no_repeat = below_no_repeat N; exactly = λ r. (λ m. (p r).1 (among_below N r m), λ u. below_among N r ((p r).0 u)); count = refl })

abbrev none_above : ℕ → List ℕ → Bool
none_above top [] = true
none_above top (x ∷ xs) = leb x top && none_above top xs

not_above : (top : ℕ) (xs : List ℕ) → none_above top xs ≡ true → (n : ℕ) → has_stage xs n ≡ true → n ≤ top
not_above top [] h n k = absurd (false≢true k)
not_above top (x ∷ xs) h n k = go (λ l. not_above top xs parts.1 n l) (or_cases (eqb x n) (has_stage xs n) k)
  where
    parts : (leb x top ≡ true) × (none_above top xs ≡ true)
    parts = and_parts (leb x top) (none_above top xs) h

    go : (has_stage xs n ≡ true → n ≤ top) → (eqb x n ≡ true) ⊎ (has_stage xs n ≡ true) → n ≤ top
    go ih (inl e) = let z = eqb-true x n e in let y = leb-true x top parts.0 in omega arith
    go ih (inr l) = ih l

-- what is listed fits, by a test
abbrev fits : ℕ → List ℕ → Arcs → Bool
fits E stages [] = true
fits E stages (a ∷ more) = (has_stage stages a.0 && (has_stage stages a.2 && leb a.1 E)) && fits E stages more

listed_fits : (E : ℕ) (stages : List ℕ) (arcs : Arcs) → fits E stages arcs ≡ true → (m e n : ℕ) → has_arc arcs m e n ≡ true →
    (has_stage stages m ≡ true) × (has_stage stages n ≡ true) × (e ≤ E)
listed_fits E stages [] h m e n k = absurd (false≢true k)
listed_fits E stages (a ∷ more) h m e n k = go (λ l. listed_fits E stages more parts.1 m e n l)
    (or_cases (eqb a.0 m && (eqb a.1 e && eqb a.2 n)) (has_arc more m e n) k)
  where
    parts : ((has_stage stages a.0 && (has_stage stages a.2 && leb a.1 E)) ≡ true) × (fits E stages more ≡ true)
    parts = and_parts (has_stage stages a.0 && (has_stage stages a.2 && leb a.1 E)) (fits E stages more) h

    go : (has_arc more m e n ≡ true → (has_stage stages m ≡ true) × (has_stage stages n ≡ true) × (e ≤ E)) →
        ((eqb a.0 m && (eqb a.1 e && eqb a.2 n)) ≡ true) ⊎ (has_arc more m e n ≡ true) → (has_stage stages m ≡ true) ×
        (has_stage stages n ≡ true) × (e ≤ E)
    go ih (inl l) =
        let p = and_parts (eqb a.0 m) (eqb a.1 e && eqb a.2 n) l in
        let q = and_parts (eqb a.1 e) (eqb a.2 n) p.1 in
        let u = and_parts (has_stage stages a.0) (has_stage stages a.2 && leb a.1 E) parts.0 in
        let v = and_parts (has_stage stages a.2) (leb a.1 E) u.1 in (
          sym (ap (has_stage stages) (eqb-true a.0 m p.0)) ∙ u.0,
          sym (ap (has_stage stages) (eqb-true a.2 n q.1)) ∙ v.0,
          let x = leb-true a.1 E v.1 in let y = eqb-true a.1 e q.0 in omega arith,
        )
    go ih (inr l) = ih l

listed_arc : (arcs : Arcs) (m e n : ℕ) → has_arc arcs m e n ≡ true → Among (m, e, n) arcs
listed_arc [] m e n k = absurd (false≢true k)
listed_arc (a ∷ more) m e n k = go (λ l. listed_arc more m e n l) (or_cases (eqb a.0 m && (eqb a.1 e && eqb a.2 n)) (has_arc more m e n) k)
  where
    go : (has_arc more m e n ≡ true → Among (m, e, n) more) →
        ((eqb a.0 m && (eqb a.1 e && eqb a.2 n)) ≡ true) ⊎ (has_arc more m e n ≡ true) → Among (m, e, n) (a ∷ more)
    go ih (inl l) =
        let p = and_parts (eqb a.0 m) (eqb a.1 e && eqb a.2 n) l in
        let q = and_parts (eqb a.1 e) (eqb a.2 n) p.1 in
        inl (λ i. (sym (eqb-true a.0 m p.0) i, sym (eqb-true a.1 e q.0) i, sym (eqb-true a.2 n q.1) i))
    go ih (inr l) = inr (ih l)

formed_of : (W : ℕ) → 3 ≤ W → WellFormed W example_book
formed_of W w = record {
  some_event = lit≤ tt;
  few_events = lit≤ tt;
  start_live = refl;
  few_stages = λ n l. let h = not_above 2 three refl n l in omega arith;
  small_mark = λ n l. omega arith;
  arc_fits = listed_fits 2 three arcs_of_example refl;
  few_arcs = let h = arcs_listed example_book joins arcs_of_example (λ a s. listed_arc arcs_of_example a.0 a.1 a.2 s) in omega arith;
}
  where
    joins : Joins example_book
    joins = record { low = λ n l. let h = not_above 2 three refl n l in omega arith; ends = listed_fits 2 three arcs_of_example refl }

turn_example : InTurn example_book (table_of 2 rows_of_example exits_of_example (0 ∷ 1 ∷ 2 ∷ [])) 3 (λ r. get_or (0 ∷ 0 ∷ 1 ∷ []) r 0)
    (λ r. get_or (0 ∷ 1 ∷ 2 ∷ []) r 0)
turn_example = listed_turn 2 three arcs_of_example rows_of_example exits_of_example (0 ∷ 1 ∷ 2 ∷ []) (0 ∷ 0 ∷ 1 ∷ [])
    (0 ∷ 1 ∷ 2 ∷ []) tested_example turned_example

image_example : Image example_book (bytes (image_bits example_book 2 3 (table_of 2 rows_of_example exits_of_example (0 ∷ 1 ∷ 2 ∷ []))))
image_example = turn_image example_book (table_of 2 rows_of_example exits_of_example (0 ∷ 1 ∷ 2 ∷ [])) 2 3 (λ r. get_or (0 ∷ 0 ∷ 1 ∷ []) r 0)
    (λ r. get_or (0 ∷ 1 ∷ 2 ∷ []) r 0) (lit≤ tt)
    (record { is_live = refl; last = not_above 2 three refl }) turn_example

-- one stage and no arc
abbrev rows_of_fresh : List (List ℕ)
rows_of_fresh = (0 ∷ []) ∷ []

tested_fresh : Tested 1 [] rows_of_fresh ((None ∷ []) ∷ []) (0 ∷ []) (0 ∷ []) (0 ∷ [])
tested_fresh = record { some_row = refl; start = refl; fill = refl; answers = refl; differ = refl; zero_at = refl; beyond = refl; nears = refl }

image_fresh : Image (book_of 1 (0 ∷ []) []) (bytes (image_bits (book_of 1 (0 ∷ []) []) 0 1 (table_of 1 rows_of_fresh ((None ∷ []) ∷ []) (0 ∷ []))))
image_fresh = turn_image (book_of 1 (0 ∷ []) []) (table_of 1 rows_of_fresh ((None ∷ []) ∷ []) (0 ∷ [])) 0 1 (λ r. get_or (0 ∷ []) r 0) (λ r. get_or (0 ∷ []) r 0)
    (lit≤ tt)
    (record { is_live = refl; last = not_above 0 (0 ∷ []) refl })
    (listed_turn 1 (0 ∷ []) [] rows_of_fresh ((None ∷ []) ∷ []) (0 ∷ []) (0 ∷ []) (0 ∷ []) tested_fresh (record { back = refl; first = refl; turn = refl }))

-- an updated book, its table listed with the kept sets under their old numbers
sound_listed : (arcs : Arcs) (rows : List (List ℕ)) (exits : List (List (Option ℕ))) (dists froms bys : List ℕ) → Tested 2 arcs rows exits dists froms bys →
    Sound (three_stage_rules arcs) (table_of 2 rows exits dists)
sound_listed arcs rows exits dists froms bys h = layers_sound (three_stage_rules arcs) (table_of 2 rows exits dists)
    (listed_layers 2 three arcs rows exits dists froms bys h)

one_cut : Reported example_book (three_stage_rules ((0, 1, 1) ∷ (1, 2, 2) ∷ (2, 2, 2) ∷ [])) (tally_of 2 1 1 1 1)
one_cut = listed_report 2 three three arcs_of_example ((0, 1, 1) ∷ (1, 2, 2) ∷ (2, 2, 2) ∷ []) rows_of_example ((0 ∷ []) ∷ (1 ∷ []) ∷ (2 ∷ []) ∷ [])
    exits_of_example ((Some 1 ∷ None ∷ []) ∷ (None ∷ Some 2 ∷ []) ∷ (None ∷ Some 2 ∷ []) ∷ []) (0 ∷ 1 ∷ 2 ∷ []) (0 ∷ 1 ∷ 2 ∷ []) sound_example
    (sound_listed ((0, 1, 1) ∷ (1, 2, 2) ∷ (2, 2, 2) ∷ []) ((0 ∷ []) ∷ (1 ∷ []) ∷ (2 ∷ []) ∷ [])
    ((Some 1 ∷ None ∷ []) ∷ (None ∷ Some 2 ∷ []) ∷ (None ∷ Some 2 ∷ []) ∷ [])
    (0 ∷ 1 ∷ 2 ∷ []) (0 ∷ 0 ∷ 1 ∷ []) (0 ∷ 1 ∷ 2 ∷ [])
    (record { some_row = refl; start = refl; fill = refl; answers = refl; differ = refl; zero_at = refl; beyond = refl; nears = refl }))
    refl (tally_of 2 1 1 1 1) refl

silent_from_0 : Reported example_book (three_stage_rules ((0, 0, 2) ∷ (0, 1, 1) ∷ (0, 1, 2) ∷ (1, 2, 2) ∷ (2, 2, 2) ∷ [])) (tally_of 2 1 1 0 0)
silent_from_0 = listed_report 2 three three arcs_of_example ((0, 0, 2) ∷ (0, 1, 1) ∷ (0, 1, 2) ∷ (1, 2, 2) ∷ (2, 2, 2) ∷ []) rows_of_example
    ((0 ∷ 2 ∷ []) ∷ (1 ∷ 2 ∷ []) ∷ (2 ∷ []) ∷ [])
    exits_of_example ((Some 1 ∷ Some 2 ∷ []) ∷ (None ∷ Some 2 ∷ []) ∷ (None ∷ Some 2 ∷ []) ∷ []) (0 ∷ 1 ∷ 2 ∷ []) (0 ∷ 1 ∷ 1 ∷ []) sound_example
    (sound_listed ((0, 0, 2) ∷ (0, 1, 1) ∷ (0, 1, 2) ∷ (1, 2, 2) ∷ (2, 2, 2) ∷ []) ((0 ∷ 2 ∷ []) ∷ (1 ∷ 2 ∷ []) ∷ (2 ∷ []) ∷ [])
    ((Some 1 ∷ Some 2 ∷ []) ∷ (None ∷ Some 2 ∷ []) ∷ (None ∷ Some 2 ∷ []) ∷ [])
    (0 ∷ 1 ∷ 1 ∷ []) (0 ∷ 0 ∷ 0 ∷ []) (0 ∷ 1 ∷ 2 ∷ [])
    (record { some_row = refl; start = refl; fill = refl; answers = refl; differ = refl; zero_at = refl; beyond = refl; nears = refl }))
    refl (tally_of 2 1 1 0 0) refl

silent_from_1 : Reported example_book (three_stage_rules ((1, 0, 2) ∷ (0, 1, 1) ∷ (0, 1, 2) ∷ (1, 2, 2) ∷ (2, 2, 2) ∷ [])) (tally_of 3 0 0 1 0)
silent_from_1 = listed_report 2 three three arcs_of_example ((1, 0, 2) ∷ (0, 1, 1) ∷ (0, 1, 2) ∷ (1, 2, 2) ∷ (2, 2, 2) ∷ []) rows_of_example rows_of_example
    exits_of_example exits_of_example (0 ∷ 1 ∷ 2 ∷ []) (0 ∷ 1 ∷ 2 ∷ []) sound_example
    (sound_listed ((1, 0, 2) ∷ (0, 1, 1) ∷ (0, 1, 2) ∷ (1, 2, 2) ∷ (2, 2, 2) ∷ []) rows_of_example exits_of_example (0 ∷ 1 ∷ 2 ∷ []) (0 ∷ 0 ∷ 1 ∷ [])
    (0 ∷ 1 ∷ 2 ∷ [])
    (record { some_row = refl; start = refl; fill = refl; answers = refl; differ = refl; zero_at = refl; beyond = refl; nears = refl }))
    refl (tally_of 3 0 0 1 0) refl

silent_from_2 : Reported example_book (three_stage_rules ((2, 0, 1) ∷ (0, 1, 1) ∷ (0, 1, 2) ∷ (1, 2, 2) ∷ (2, 2, 2) ∷ [])) (tally_of 2 0 1 2 1)
silent_from_2 = listed_report 2 three three arcs_of_example ((2, 0, 1) ∷ (0, 1, 1) ∷ (0, 1, 2) ∷ (1, 2, 2) ∷ (2, 2, 2) ∷ []) rows_of_example
    ((0 ∷ []) ∷ (2 ∷ 1 ∷ []) ∷ [])
    exits_of_example ((Some 1 ∷ None ∷ []) ∷ (None ∷ Some 1 ∷ []) ∷ []) (0 ∷ 1 ∷ 2 ∷ []) (0 ∷ 1 ∷ []) sound_example
    (sound_listed ((2, 0, 1) ∷ (0, 1, 1) ∷ (0, 1, 2) ∷ (1, 2, 2) ∷ (2, 2, 2) ∷ []) ((0 ∷ []) ∷ (2 ∷ 1 ∷ []) ∷ [])
    ((Some 1 ∷ None ∷ []) ∷ (None ∷ Some 1 ∷ []) ∷ [])
    (0 ∷ 1 ∷ []) (0 ∷ 0 ∷ []) (0 ∷ 1 ∷ [])
    (record { some_row = refl; start = refl; fill = refl; answers = refl; differ = refl; zero_at = refl; beyond = refl; nears = refl }))
    refl (tally_of 2 0 1 2 1) refl

named_twice : Reported example_book (three_stage_rules ((1, 0, 2) ∷ (0, 1, 1) ∷ (1, 2, 2) ∷ (2, 2, 2) ∷ [])) (tally_of 3 0 0 1 0)
named_twice = listed_report 2 three three arcs_of_example ((1, 0, 2) ∷ (0, 1, 1) ∷ (1, 2, 2) ∷ (2, 2, 2) ∷ []) rows_of_example rows_of_example
    exits_of_example exits_of_example (0 ∷ 1 ∷ 2 ∷ []) (0 ∷ 1 ∷ 2 ∷ []) sound_example
    (sound_listed ((1, 0, 2) ∷ (0, 1, 1) ∷ (1, 2, 2) ∷ (2, 2, 2) ∷ []) rows_of_example exits_of_example (0 ∷ 1 ∷ 2 ∷ []) (0 ∷ 0 ∷ 1 ∷ []) (0 ∷ 1 ∷ 2 ∷ [])
    (record { some_row = refl; start = refl; fill = refl; answers = refl; differ = refl; zero_at = refl; beyond = refl; nears = refl }))
    refl (tally_of 3 0 0 1 0) refl

both_cuts : Reported example_book (three_stage_rules ((1, 2, 2) ∷ (2, 2, 2) ∷ [])) (tally_of 1 0 2 1 1)
both_cuts = listed_report 2 three three arcs_of_example ((1, 2, 2) ∷ (2, 2, 2) ∷ []) rows_of_example ((0 ∷ []) ∷ [])
    exits_of_example ((None ∷ None ∷ []) ∷ []) (0 ∷ 1 ∷ 2 ∷ []) (0 ∷ []) sound_example
    (sound_listed ((1, 2, 2) ∷ (2, 2, 2) ∷ []) ((0 ∷ []) ∷ []) ((None ∷ None ∷ []) ∷ []) (0 ∷ []) (0 ∷ []) (0 ∷ [])
    (record { some_row = refl; start = refl; fill = refl; answers = refl; differ = refl; zero_at = refl; beyond = refl; nears = refl }))
    refl (tally_of 1 0 2 1 1) refl

nothing : Reported example_book example_book (tally_of 3 0 0 0 0)
nothing = listed_report 2 three three arcs_of_example arcs_of_example rows_of_example rows_of_example exits_of_example exits_of_example (0 ∷ 1 ∷ 2 ∷ [])
    (0 ∷ 1 ∷ 2 ∷ []) sound_example sound_example
    refl (tally_of 3 0 0 0 0) refl

pub three_stage_cases : ThreeStageCases
unfolding each_below
three_stage_cases = let t = table_of 2 rows_of_example exits_of_example (0 ∷ 1 ∷ 2 ∷ []) in record {
  formed = formed_of 256 (lit≤ tt);
  formed_64 = formed_of 64 (lit≤ tt);
  sets = sets_of example_book t sound_example 3 (λ r. (ltb-true r 3, lt-ltb r 3));
  set_0 = at_distance example_book t sound_example 0 refl;
  set_1_2 = at_distance example_book t sound_example 1 refl;
  set_2 = at_distance example_book t sound_example 2 refl;
  image = image_example;
  fresh_image = image_fresh;
  one_cut = one_cut;
  silent_from_0 = silent_from_0;
  silent_from_1 = silent_from_1;
  silent_from_2 = silent_from_2;
  named_twice = named_twice;
  both_cuts = both_cuts;
  nothing = nothing;
}
