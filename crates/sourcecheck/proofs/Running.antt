-- Steps one after the other, over numbers: where they lead, and the fault of those that lead nowhere.
use Rattle.std.proofs.Common.{◌≡◌, ◌≢◌, ℕ, zero, suc, ◌+◌, ◌<◌, Bool, true, false, cond, List, [], ◌∷◌, ◌++◌, length, map, filter, take, drop, get_or}
use Rattle.std.proofs.Common.{refl, sym, ap, ◌∙◌, append_assoc, append-nil, arith}
use Rattle.std.specs.Prelude.{◌==◌, OnOk, IfErr, MatchResult, Option, Some, None, Result, Ok, Err, if◌then◌else◌}
use Rattle.std.specs.Option.{option_or, option_and_then}
use Rattle.std.specs.Cmp.Lexicographic.{pointwise}
use Rattle.std.proofs.lemmas.List.{map-append}
use Rattle.std.proofs.lemmas.Bool.Decides.{Decides-eqb}
use Rattle.std.proofs.lemmas.Slice.Eq.{slice_eq-Decides}
use Rattle.mmtext.specs.Words.{Word}
use Rattle.derivation.specs.declared.fault.ProofFaultKind.{ProofFaultKind}
use Rattle.derivation.specs.declared.fault.ProofFaultKind.TheVariants.{UnknownStep, StackShort, WrongType, HypothesisDiffers, NotDisjoint}
use Rattle.derivation.specs.declared.fault.ProofFaultKind.TheVariants.{NotOneLeft, StatementDiffers, TooLong, NoMemory}
use Rattle.source.specs.Scopes.{Assertion}
use Rattle.source.specs.declared.letters.Code.{Code}
use Rattle.source.specs.declared.letters.Code.TheVariants.{Number}
use Rattle.source.specs.Proofs.{Stack, Step, numbered, step_of, empty, stepped, run_steps, only, single, made}
use Rattle.verifying.specs.Citations.{same_expression}
use Rattle.verifying.specs.Verifies.{Entry, entry}
use Rattle.verifying.specs.Faults.{is_counted, at_end, last_failure, differs, fault_from}
use Rattle.sourcecheck.specs.Coded.{EndFails}
use Rattle.sourcecheck.specs.Shown.{shown_entry, shown, FailsBy, LeadsTo, Reached, IsFaultOfKind}
use Rattle.sourcecheck.specs.Spans.{Sheet}
use Rattle.sourcecheck.specs.Written.{written_at, written}
use Rattle.sourcecheck.proofs.Filling.{same_numbers}

-- ---- results

pub match_both : {A E : Type 0} {P Q T : Type 0} {R S : E → Type 0} (r : Result A E) → OnOk r P → OnOk r T → IfErr r R → (P → T → Q)
    → ((e : E) → R e → S e) → MatchResult r (λ _. Q) S
match_both (Ok a) p t q f g = f p t
match_both (Err e) p t q f g = g e q

-- ---- lists

filtered_more : (p : Step → Bool) (xs ys : List Step) → length (filter p (xs ++ ys)) ≡ length (filter p xs) + length (filter p ys)
filtered_more p [] ys = omega arith
filtered_more p (x ∷ xs) ys =
    let rest = filtered_more p xs ys in
    elim (p x) as (λ b. length (cond b (x ∷ filter p (xs ++ ys)) (filter p (xs ++ ys)))
    ≡ length (cond b (x ∷ filter p xs) (filter p xs)) + length (filter p ys)) [
      | true ↦ omega (arith, rest)
      | false ↦ rest
    ]

pub around : {A : Type 0} (xs : List A) (i : ℕ) (d : A) → i < length xs → xs ≡ take i xs ++ get_or xs i d ∷ drop (i + 1) xs
around [] i d lt = absurd (omega arith)
around (x ∷ xs) zero d lt = refl
around (x ∷ xs) (suc i) d lt =
    let e : suc (i + 1) ≡ suc i + 1 = omega arith in
    ap (λ l. x ∷ l) (around xs i d (omega arith)) ∙ ap (λ n. x ∷ take i xs ++ get_or xs i d ∷ drop n (x ∷ xs)) e

pub mapped_around : {A B : Type 0} (f : A → B) (xs : List A) (i : ℕ) (d : A) → i < length xs
    → map f xs ≡ map f (take i xs) ++ f (get_or xs i d) ∷ map f (drop (i + 1) xs)
mapped_around f xs i d lt = ap (map f) (around xs i d lt) ∙ map-append f (take i xs) (get_or xs i d ∷ drop (i + 1) xs)

-- ---- counting

number_counted : (ws : List Word) (n : ℕ) → is_counted (numbered ws n) ≡ true
number_counted [] n = refl
number_counted (w ∷ ws) zero = refl
number_counted (w ∷ ws) (suc n) = number_counted ws n

pub code_counted : (ws : List Word) (code : Code) (n : ℕ) → code ≡ Number n → length (filter is_counted (step_of ws code ∷ [])) ≡ 1
code_counted ws code n e =
    ap (λ c. length (filter is_counted (step_of ws c ∷ []))) e
    ∙ ap (λ b. length (cond b (step_of ws (Number n) ∷ []) [])) (number_counted ws _)

-- ---- one more step

module _ (name : ℕ → Word) (earlier : List Assertion) (x : Assertion) where
  abbrev run : Option (Stack Entry) → List Step → Option (Stack Entry)
  run s steps = run_steps (entry earlier x) earlier x.active s steps

  run_then : (s : Option (Stack Entry)) (xs ys : List Step) → run s (xs ++ ys) ≡ run (run s xs) ys
  run_then s [] ys = refl
  run_then None (y ∷ xs) [] = refl
  run_then None (y ∷ xs) (z ∷ ys) = refl
  run_then (Some s) (y ∷ xs) ys = run_then (stepped (entry earlier x) earlier x.active s y) xs ys

  run_none : (steps : List Step) → run None steps ≡ None
  run_none [] = refl
  run_none (y ∷ ys) = refl

  none_failed : (es : List (List ℕ)) → last_failure (map (shown_entry name) es) ≡ None
  none_failed [] = refl
  none_failed (e ∷ es) = refl

  pub start : Reached name earlier x [] (record { stack = record { entries = []; marked = [] }; written = 0 }) 0
  start = record { leads = refl; counted = refl; passed = λ rest. refl; written = λ rest. omega arith }

  module _ (front : List Step) (s : Sheet) (n : ℕ) (before : Reached name earlier x front s n) (step : Step) (m : ℕ)
      (m-is : m ≡ n + length (filter is_counted (step ∷ []))) where
    led : run (Some empty) (front ++ step ∷ []) ≡ stepped (entry earlier x) earlier x.active (shown name s.stack) step
    led = run_then (Some empty) front (step ∷ []) ∙ ap (λ o. run o (step ∷ [])) before.leads

    counted_more : m ≡ length (filter is_counted (front ++ step ∷ []))
    counted_more =
        m-is ∙ ap (λ k. k + length (filter is_counted (step ∷ []))) before.counted ∙ sym (filtered_more is_counted front (step ∷ []))

    pub reached_more : (t : Sheet) → LeadsTo name earlier x step s t → Reached name earlier x (front ++ step ∷ []) t m
    reached_more t to =
        let h = to.leads in
        let all = led ∙ h in
        record {
          leads = all;
          counted = counted_more;
          passed = λ rest.
              ap (fault_from earlier x []) (append_assoc front (step ∷ []) rest)
              ∙ before.passed (step ∷ rest)
              ∙ ap (λ k. option_or (at_end (front ++ step ∷ []) k) (fault_from earlier x (front ++ step ∷ []) rest))
              (ap (option_and_then (λ z. last_failure z.entries)) all ∙ none_failed t.stack.entries);
          written = λ rest.
              let here = before.written (step ∷ rest) in
              let far : written earlier x (Some (shown name s.stack)) (step ∷ rest)
              ≡ written_at step (Some (shown name t.stack)) + written earlier x (Some (shown name t.stack)) rest =
              ap (λ o. written_at step o + written earlier x o rest) h in
              ap (written earlier x (Some empty)) (append_assoc front (step ∷ []) rest) ∙ omega (arith, here, far, to.written);
        }

    none_made : stepped (entry earlier x) earlier x.active (shown name s.stack) step ≡ None → (rest : List Step)
        → made (entry earlier x) earlier x.active (front ++ step ∷ rest) ≡ None
    none_made h rest =
        ap single (run_then (Some empty) front (step ∷ rest) ∙ ap (λ o. run o (step ∷ rest)) before.leads
        ∙ ap (λ o. run o rest) h ∙ run_none rest)

    told : (kind : ProofFaultKind)
        → option_and_then (λ z. last_failure z.entries) (stepped (entry earlier x) earlier x.active (shown name s.stack) step) ≡ Some kind
        → (rest : List Step) → fault_from earlier x [] (front ++ step ∷ rest) ≡ Some (record { step = m; kind = kind })
    told kind h rest =
        before.passed (step ∷ rest)
        ∙ ap (λ k. option_or (at_end (front ++ step ∷ []) k) (fault_from earlier x (front ++ step ∷ []) rest))
        (ap (option_and_then (λ z. last_failure z.entries)) led ∙ h)
        ∙ ap (λ k. Some (record { step = k; kind = kind })) (sym counted_more)

    pub reached_fails : (kind : ProofFaultKind)
        → FailsBy s.written step (stepped (entry earlier x) earlier x.active (shown name s.stack) step) kind
        → (rest : List Step) → IsFaultOfKind earlier x (front ++ step ∷ rest) m kind
    reached_fails NoMemory h rest = tt
    reached_fails TooLong h rest =
        let all = before.written (step ∷ rest) in
        let next = stepped (entry earlier x) earlier x.active (shown name s.stack) step in
        let far : written earlier x (Some (shown name s.stack)) (step ∷ rest) ≡ written_at step next + written earlier x next rest = refl in
        omega (arith, h, all, far)
    reached_fails UnknownStep h rest = none_made h rest
    reached_fails StackShort h rest = none_made h rest
    reached_fails NotOneLeft h rest = absurd h
    reached_fails WrongType h rest = told WrongType h rest
    reached_fails HypothesisDiffers h rest = told HypothesisDiffers h rest
    reached_fails NotDisjoint h rest = told NotDisjoint h rest
    reached_fails StatementDiffers h rest = told StatementDiffers h rest

  -- ---- the end

  module _ (steps : List Step) (s : Sheet) (n : ℕ) (all : Reached name earlier x steps s n) where
    made_is : made (entry earlier x) earlier x.active steps ≡ only (map (shown_entry name) s.stack.entries)
    made_is = ap single all.leads

    pub ended : (statement : List ℕ) → s.stack.entries ≡ statement ∷ [] → map name statement ≡ x.statement
        → made (entry earlier x) earlier x.active steps ≡ Some (Ok x.statement)
    ended statement one is =
        made_is ∙ ap (λ es. only (map (shown_entry name) es)) one ∙ ap (λ e. Some (Ok e)) is

    not_one : (es : List (List ℕ)) → length es ≢ 1 → only (map (shown_entry name) es) ≡ None
    not_one [] h = refl
    not_one (e ∷ []) h = absurd (h refl)
    not_one (e ∷ d ∷ es) h = refl

    unlike : (d e : List ℕ) (b : Bool) → pointwise (λ a c. a == c) d e ≡ b → d ≢ e → b ≡ false
    unlike d e true is h = absurd (h ((slice_eq-Decides Decides-eqb d e true (sym is)).0 refl))
    unlike d e false is h = refl

    pub end_fails : ((m k : ℕ) → name m ≡ name k → m ≡ k) → (statement : List ℕ) (kind : ProofFaultKind)
        → map name statement ≡ x.statement → EndFails statement s.stack.entries kind → IsFaultOfKind earlier x steps n kind
    end_fails injective statement NotOneLeft is h = made_is ∙ not_one s.stack.entries h
    end_fails injective statement StatementDiffers is h =
        let e = h.0 in
        let other : same_expression (map name e) x.statement ≡ false =
        ap (same_expression (map name e)) (sym is) ∙ same_numbers name injective e statement
        ∙ unlike e statement (pointwise (λ a c. a == c) e statement) refl h.2 in
        ap (fault_from earlier x []) (sym (append-nil steps)) ∙ all.passed []
        ∙ ap (λ o. at_end steps (option_and_then (differs x) o)) (made_is ∙ ap (λ es. only (map (shown_entry name) es)) h.1)
        ∙ ap (λ b. at_end steps (if b then None else Some StatementDiffers)) other
        ∙ ap (λ k. Some (record { step = k; kind = StatementDiffers })) (sym all.counted)
    end_fails injective statement NoMemory is h = absurd h
    end_fails injective statement TooLong is h = absurd h
    end_fails injective statement UnknownStep is h = absurd h
    end_fails injective statement StackShort is h = absurd h
    end_fails injective statement WrongType is h = absurd h
    end_fails injective statement HypothesisDiffers is h = absurd h
    end_fails injective statement NotDisjoint is h = absurd h
