-- The fronts of a database: they verify, and what the next assertion adds.
use Rattle.std.proofs.Common.{◌≡◌, ◌≢◌, ℕ, zero, suc, ◌+◌, ◌*◌, ◌<◌, ◌≤◌, List, [], ◌∷◌, ◌++◌, Some, length, get_or, take, drop, map, inl, inr, refl, sym, ap, subst, ◌∙◌, arith, true, false}
use Rattle.std.specs.Prelude.{◌||◌, IsTrue, All, Contains, slice_get}
use mathlib.Core.Bool.{not}
use Rattle.std.specs.List.{list_any}
use Rattle.std.specs.Str.{bytes_eq}
use Rattle.std.proofs.lemmas.List.{take_more, take-append-drop, length-take-le, map-append}
use Rattle.std.proofs.lemmas.List.Elements.{All-take, All-head, All-tail, Contains-append_left}
use Rattle.std.proofs.lemmas.List.Folds.{list_any_at}
use Rattle.std.proofs.lemmas.Option.{slice_get-get_or}
use Rattle.std.proofs.lemmas.Grind.{common_steps}
use Rattle.mmsyntax.specs.declared.statement.Assertion.{Assertion}
use Rattle.mmsyntax.specs.declared.statement.Kind.{Kind}
use Rattle.mmsyntax.specs.declared.statement.Kind.TheVariants.{Axiom, Theorem}
use Rattle.mmsyntax.specs.declared.statement.Step.{Step}
use Rattle.mmsyntax.specs.declared.statement.Step.TheVariants.{Float, Hyp, Cite}
use Rattle.mmsyntax.specs.Tables.{Tables, Contents}
use Rattle.mmsyntax.specs.Layout.{HasSpelling}
use Rattle.mmsyntax.specs.Assertions.{Distinct, IsUnit, IsDeclarable, is_lawful_label}
use Rattle.mmsyntax.specs.Dotted.{ClashNowhere}
use Rattle.mmsyntax.proofs.Apart.{apart_within}
use Rattle.mmsyntax.proofs.Names.{bytes_eq-same, bytes_eq-sym}
use Rattle.mmsyntax.proofs.Distinct.{distinct_left, distinct_front}
use Rattle.mmsyntax.proofs.Declarable.{declarable, spelled_where_declarable}
use Rattle.derivation.specs.Databases.{AllCheck, frame_in}
use Rattle.derivation.specs.Derivation.{Checks}
use Rattle.library.specs.declared.library.Ranked.{Ranked}
use Rattle.library.specs.Library.{Verifies, setting_over, ranked_from, opening}
use Rattle.library.specs.Edits.{has, added, is_of_unknown}
use Rattle.library.proofs.Derivations.{NamesOne, steps_named}
use Rattle.library.proofs.Frames.{frame_found}
use Rattle.librarylaws.proofs.Opening.{length-ranked_from, opening_verifies}
use Rattle.ranges.specs.Ranges.{Has}
use Rattle.cells.specs.Shows.{slots_of}
use Rattle.plaincells.specs.Opening.{front, held_from}

-- ---- they verify

whole : (k : ℕ) (xs : List Assertion) → take k xs ++ drop k xs ≡ xs
whole k xs = take-append-drop k xs

front_labels : (k : ℕ) (xs : List Assertion)
    → map (λ (a : Assertion). a.label) (take k xs) ++ map (λ (a : Assertion). a.label) (drop k xs) ≡ map (λ (a : Assertion). a.label) xs
front_labels k xs =
    let label = λ (a : Assertion). a.label in
    sym (map-append label (take k xs) (drop k xs)) ∙ ap (map label) (whole k xs)

front_declarable : (t : Tables) (k : ℕ) (xs : List Assertion) → IsDeclarable t xs → IsDeclarable t (take k xs)
front_declarable t k xs d =
    let some = map (λ (a : Assertion). a.label) (take k xs) in
    let others = map (λ (a : Assertion). a.label) (drop k xs) in
    record {
      prelude = d.prelude;
      units = All-take (IsUnit t) k xs d.units;
      lawful = All-take (λ a. IsTrue (is_lawful_label t a.label)) k xs d.lawful;
      distinct = distinct_left bytes_eq some others (subst (λ ls. Distinct bytes_eq ls) (sym (front_labels k xs)) d.distinct);
      apart = apart_within (some ++ others) some (Contains-append_left some others) (subst ClashNowhere (sym (front_labels k xs)) d.apart);
      few = let n : length (take k xs) ≤ length xs = grind (arith, common_steps) in omega (arith, n, d.few);
    }

front_get : (xs : List Assertion) (k j : ℕ) (a : Assertion) → slice_get (take k xs) j ≡ Some a → (j < k) × (slice_get xs j ≡ Some a)
front_get xs zero j a h = absurd cc
front_get [] (suc k) j a h = absurd cc
front_get (x ∷ xs) (suc k) zero a h = (omega arith, h)
front_get (x ∷ xs) (suc k) (suc j) a h = let r = front_get xs k j a h in (let lt = r.0 in omega arith, r.1)

take_less : (xs : List Assertion) (k j : ℕ) → j ≤ k → take j (take k xs) ≡ take j xs
take_less xs k j le = grind (arith, common_steps)

front_checks : (db : Contents) (k : ℕ) → AllCheck db → AllCheck (front k db)
front_checks db k all j a at =
    let r = front_get db.assertions k j a at in
    let lt = r.0 in
    subst (λ ys. Checks (frame_in db.prelude ys) db.prelude a) (sym (take_less db.assertions k j (omega arith))) (all j a r.1)

-- what a front of a database opens verifies
pub front_verifies : (db : Contents) (k slots : ℕ) → HasSpelling db → AllCheck db → 1 ≤ slots → slots ≤ 4096 → length db.assertions ≤ slots
    → Verifies (setting_over db slots) (opening (front k db))
front_verifies db k slots h all some few room =
    opening_verifies (front k db) slots
    (spelled_where_declarable (front k db) (front_declarable db.prelude k db.assertions (declarable db h)))
    (front_checks db k all) some few (let n : length (take k db.assertions) ≤ length db.assertions =
    grind (arith, common_steps) in omega (arith, n, room))

-- ---- one more

ranked_from-push : (n : ℕ) (xs : List Assertion) (a : Assertion)
    → ranked_from n (xs ++ a ∷ []) ≡ ranked_from n xs ++ record { rank = 100 * (n + length xs); assertion = a } ∷ []
ranked_from-push n [] a = ap (λ m. record { rank = 100 * m; assertion = a } ∷ []) (let e : n ≡ n + 0 = omega arith in e)
ranked_from-push n (x ∷ xs) a =
    ap (λ es. record { rank = 100 * n; assertion = x } ∷ es) (ranked_from-push (n + 1) xs a)
    ∙ ap (λ m. record { rank = 100 * n; assertion = x } ∷ (ranked_from (n + 1) xs ++ record { rank = 100 * m; assertion = a } ∷ []))
    (let e : n + 1 + length xs ≡ n + suc (length xs) = omega arith in e)

held_from-push : (i : ℕ) (es : List Ranked) (e : Ranked)
    → held_from i (es ++ e ∷ []) ≡ held_from i es ++ record { slot = i + length es; entry = e } ∷ []
held_from-push i [] e = ap (λ j. record { slot = j; entry = e } ∷ []) (let n : i ≡ i + 0 = omega arith in n)
held_from-push i (x ∷ es) e =
    ap (λ ps. record { slot = i; entry = x } ∷ ps) (held_from-push (suc i) es e)
    ∙ ap (λ j. record { slot = i; entry = x } ∷ (held_from (suc i) es ++ record { slot = j; entry = e } ∷ []))
    (let n : suc i + length es ≡ i + suc (length es) = omega arith in n)

-- the slots of those are the first so many
pub slots_from : (i j : ℕ) (es : List Ranked) → Has j (slots_of (held_from i es)) → j < i + length es
slots_from i j [] h = absurd h
slots_from i j (e ∷ es) (inl same) = omega (arith, same)
slots_from i j (e ∷ es) (inr h) = let later = slots_from (suc i) j es h in omega (arith, later)

module _ (db : Contents) (k : ℕ) (a : Assertion) (lt : k < length db.assertions) (is : a ≡ get_or db.assertions k a) where
  next_front : take (k + 1) db.assertions ≡ take k db.assertions ++ a ∷ []
  next_front = take_more db.assertions k a lt ∙ ap (λ (x : Assertion). take k db.assertions ++ x ∷ []) (sym is)

  length_front : length (take k db.assertions) ≡ k
  length_front = length-take-le k db.assertions (omega arith)

  -- the next assertion is added to what the front opens
  pub opening_next : opening (front (k + 1) db) ≡ added (opening (front k db)) (100 * (k + 1)) a
  opening_next =
      ap (ranked_from 1) next_front ∙ ranked_from-push 1 (take k db.assertions) a
      ∙ ap (λ n. ranked_from 1 (take k db.assertions) ++ record { rank = 100 * n; assertion = a } ∷ [])
      (let e : 1 + length (take k db.assertions) ≡ k + 1 = omega (arith, length_front) in e)

  pub length_opening : length (opening (front k db)) ≡ k
  length_opening = length-ranked_from 1 (take k db.assertions) ∙ length_front

  -- in the next slot
  pub held_next : held_from 0 (opening (front (k + 1) db))
      ≡ held_from 0 (opening (front k db)) ++ record { slot = k; entry = record { rank = 100 * (k + 1); assertion = a } } ∷ []
  held_next =
      ap (held_from 0) opening_next ∙ held_from-push 0 (opening (front k db)) _
      ∙ ap (λ n. held_from 0 (opening (front k db)) ++ record { slot = n; entry = record { rank = 100 * (k + 1); assertion = a } } ∷ [])
      (let e : 0 + length (opening (front k db)) ≡ k = omega (arith, length_opening) in e)

-- ---- its label is new, and what it cites is known

has-ranked_from : (n : ℕ) (xs : List Assertion) (label : List ℕ)
    → has (ranked_from n xs) label ≡ list_any (λ (x : Assertion). bytes_eq label x.label) xs
has-ranked_from n [] label = refl
has-ranked_from n (x ∷ xs) label = ap (λ b. bytes_eq label x.label || b) (has-ranked_from (n + 1) xs label)

any_label : (xs : List Assertion) (label : List ℕ)
    → list_any (λ (x : Assertion). bytes_eq label x.label) xs ≡ list_any (bytes_eq label) (map (λ (x : Assertion). x.label) xs)
any_label [] label = refl
any_label (x ∷ xs) label = ap (λ b. bytes_eq label x.label || b) (any_label xs label)

module _ (db : Contents) (k : ℕ) (a : Assertion) (lt : k < length db.assertions) (is : a ≡ get_or db.assertions k a) where
  pub label_new : IsDeclarable db.prelude db.assertions → has (opening (front k db)) a.label ≡ false
  label_new d =
      has-ranked_from 1 (take k db.assertions) a.label ∙ any_label (take k db.assertions) a.label
      ∙ distinct_front bytes_eq bytes_eq-sym (map (λ (x : Assertion). x.label) (take k db.assertions)) [] a.label
      (subst (λ ls. Distinct bytes_eq ls)
      (ap (map (λ (x : Assertion). x.label)) (next_front db k a lt is)
      ∙ map-append (λ (x : Assertion). x.label) (take k db.assertions) (a ∷ []))
      (front_declarable db.prelude (k + 1) db.assertions d).distinct)

  known_label : (label : List ℕ) → (x : Assertion) × Contains (take k db.assertions) x × (x.label ≡ label)
      → has (opening (front k db)) label ≡ true
  known_label label f =
      has-ranked_from 1 (take k db.assertions) label
      ∙ list_any_at (λ (x : Assertion). bytes_eq label x.label) (take k db.assertions) f.1.0 f.0 f.1.1
      (ap (λ (x : Assertion). bytes_eq label x.label) f.1.2 ∙ ap (bytes_eq label) f.2 ∙ bytes_eq-same label)

  known_steps : (steps : List Step) → All (NamesOne (frame_in db.prelude (take k db.assertions)) db.prelude a) steps
      → list_any (is_of_unknown (opening (front k db))) steps ≡ false
  known_steps [] h = refl
  known_steps (Float i ∷ steps) h = known_steps steps (All-tail (NamesOne (frame_in db.prelude (take k db.assertions)) db.prelude a) _ _ h)
  known_steps (Hyp i ∷ steps) h = known_steps steps (All-tail (NamesOne (frame_in db.prelude (take k db.assertions)) db.prelude a) _ _ h)
  known_steps (Cite label ∷ steps) h =
      let one = All-head (NamesOne (frame_in db.prelude (take k db.assertions)) db.prelude a) (Cite label) steps h in
      let found = frame_found db.prelude (take k db.assertions) label one.0 one.1 in
      ap (λ b. not b || list_any (is_of_unknown (opening (front k db))) steps) (known_label label (found.0, found.1, found.2))
      ∙ known_steps steps (All-tail (NamesOne (frame_in db.prelude (take k db.assertions)) db.prelude a) _ _ h)

  pub unit_of : IsDeclarable db.prelude db.assertions → IsUnit db.prelude a
  unit_of d = subst (IsUnit db.prelude) (sym is) (d.units k a lt)

  -- each label that it cites is that of an assertion before it
  pub all_known : IsDeclarable db.prelude db.assertions → AllCheck db → list_any (is_of_unknown (opening (front k db))) a.proof ≡ false
  all_known d all = go a.kind refl
    where
      go : (kind : Kind) → a.kind ≡ kind → list_any (is_of_unknown (opening (front k db))) a.proof ≡ false
      go Axiom eq = ap (list_any (is_of_unknown (opening (front k db)))) ((unit_of d).fits.no_axiom_proof eq)
      go Theorem eq =
          known_steps a.proof (steps_named (frame_in db.prelude (take k db.assertions)) db.prelude a a.proof a.statement
          (all k a (slice_get-get_or db.assertions k a lt ∙ ap (λ (x : Assertion). Some x) (sym is)) eq))

  pub label_some : IsDeclarable db.prelude db.assertions → a.label ≢ []
  label_some d none =
      let lawful : IsTrue (is_lawful_label db.prelude a.label) =
      subst (λ (x : Assertion). IsTrue (is_lawful_label db.prelude x.label)) (sym is) (d.lawful k a lt) in
      let empty : IsTrue (is_lawful_label db.prelude []) = subst (λ l. IsTrue (is_lawful_label db.prelude l)) none lawful in
      absurd cc
