-- Steps one after the other: where they lead, and the fault of those that lead nowhere.
use Rattle.std.proofs.Common.{◌≡◌, ℕ, zero, suc, ◌+◌, ◌-◌, ◌<◌, ◌≤◌, Bool, true, false, cond, List, [], ◌∷◌, ◌++◌, length, map, filter, take, drop, get_or}
use Rattle.std.proofs.Common.{refl, sym, ap, ◌∙◌, append_assoc, append-nil, arith}
use Rattle.std.specs.Prelude.{reverse, find, Option, Some, None, Ok, if◌then◌else◌}
use Rattle.std.specs.Option.{option_map, option_or, option_and_then}
use Rattle.std.specs.Str.{bytes_eq}
use Rattle.std.specs.Borrow.{Bor}
use Rattle.std.specs.Global.{Vec}
use Rattle.std.proofs.lemmas.List.{map-append, reverse-append, length-map, length-reverse}
use Rattle.mmtext.specs.Words.{Word}
use Rattle.mmsyntax.proofs.Items.{not_found_is_none}
use Rattle.derivation.specs.declared.fault.ProofFaultKind.TheVariants as kind
use Rattle.source.specs.Scopes.{Hypothesis, label_of, Assertion}
use Rattle.source.specs.declared.letters.Code.{Code}
use Rattle.source.specs.declared.letters.Code.TheVariants.{Number}
use Rattle.source.specs.Proofs.{Stack, Step, names, again, numbered, step_of, taken_by, empty, pop, push, put, cite, stepped, run_steps, only, single, made}
use Rattle.source.specs.Views.{seen_words}
use Rattle.taking.proofs.Turned.{turned_back}
use Rattle.taking.proofs.Stacked.{popped, short}
use Rattle.verifying.specs.Citations.{Expression, said_by, same_expression}
use Rattle.verifying.specs.Verifies.{Entry, cited, entry}
use Rattle.verifying.specs.Faults.{is_counted, at_end, last_failure, differs, fault_from}
use Rattle.verifying.proofs.Verified.{hypotheses_are_put, citations_are_put}
use Rattle.explaining.specs.declared.finding.Finding.{Finding}
use Rattle.explaining.specs.declared.finding.Finding.TheVariants.{WrongType, HypothesisDiffers, NotDisjoint, StatementDiffers}
use Rattle.explaining.specs.declared.stack.Entries.{Entries}
use Rattle.explaining.specs.Findings.{Cites, IsCitation, Finds, IsFound, kind_of}
use Rattle.explaining.specs.Shown.{seen_expression, seen_entry, seen_stack, FailsBy, Reached, IsFaultFound}

-- ---- counting

filtered_more : (p : Step → Bool) (xs ys : List Step) → length (filter p (xs ++ ys)) ≡ length (filter p xs) + length (filter p ys)
filtered_more p [] ys = omega arith
filtered_more p (x ∷ xs) ys =
    let rest = filtered_more p xs ys in
    elim (p x) as (λ b. length (cond b (x ∷ filter p (xs ++ ys)) (filter p (xs ++ ys)))
    ≡ length (cond b (x ∷ filter p xs) (filter p xs)) + length (filter p ys)) [
      | true ↦ omega (arith, rest)
      | false ↦ rest
    ]

number_counted : (ws : List Word) (n : ℕ) → is_counted (numbered ws n) ≡ true
number_counted [] n = refl
number_counted (w ∷ ws) zero = refl
number_counted (w ∷ ws) (suc n) = number_counted ws n

pub code_counted : (ws : List Word) (code : Code) (n : ℕ) → code ≡ Number n → length (filter is_counted (step_of ws code ∷ [])) ≡ 1
code_counted ws code n e =
    ap (λ c. length (filter is_counted (step_of ws c ∷ []))) e
    ∙ ap (λ b. length (cond b (step_of ws (Number n) ∷ []) [])) (number_counted ws _)

pub mapped_around : {A B : Type 0} (f : A → B) (xs : List A) (i : ℕ) (d : A) → i < length xs
    → map f xs ≡ map f (take i xs) ++ f (get_or xs i d) ∷ map f (drop (i + 1) xs)
mapped_around f [] i d lt = absurd (omega arith)
mapped_around f (x ∷ xs) zero d lt = refl
mapped_around f (x ∷ xs) (suc i) d lt =
    let e : suc (i + 1) ≡ suc i + 1 = omega arith in
    ap (λ l. f x ∷ l) (mapped_around f xs i d (omega arith))
    ∙ ap (λ n. f x ∷ map f (take i xs) ++ f (get_or xs i d) ∷ map f (drop n (x ∷ xs))) e

pub number_again : (ws : List Word) (k : ℕ) → length ws ≤ k → numbered ws k ≡ again (k - length ws)
number_again [] k le = ap again (let e : k ≡ k - 0 = omega arith in e)
number_again (w ∷ ws) zero le = absurd (omega arith)
number_again (w ∷ ws) (suc k) le =
    let e : k - length ws ≡ suc k - suc (length ws) = omega arith in number_again ws k (omega arith) ∙ ap again e

-- ---- what is found is that of a citation

pub citation_found : (earlier : List Assertion) (x : Assertion) (steps : List Step) (n : ℕ) (c : Assertion) (es : List Expression)
    → IsCitation earlier x steps n c es → (finding : Finding) → Finds x c es finding → IsFound earlier x steps n finding
citation_found earlier x steps n c es is (WrongType cited float wanted found) h = (c, es, is, h)
citation_found earlier x steps n c es is (HypothesisDiffers cited label wanted found) h = (c, es, is, h)
citation_found earlier x steps n c es is (NotDisjoint cited first second for_first for_second one other) h = (c, es, is, h)
citation_found earlier x steps n c es is (StatementDiffers wanted found) h = absurd h

module _ (earlier : List Assertion) (x : Assertion) where
  abbrev run : Option (Stack Entry) → List Step → Option (Stack Entry)
  run s steps = run_steps (entry earlier x) earlier x.active s steps

  run_then : (s : Option (Stack Entry)) (xs ys : List Step) → run s (xs ++ ys) ≡ run (run s xs) ys
  run_then s [] ys = refl
  run_then None (y ∷ xs) [] = refl
  run_then None (y ∷ xs) (z ∷ ys) = refl
  run_then (Some s) (y ∷ xs) ys = run_then (stepped (entry earlier x) earlier x.active s y) xs ys

  run_none : (steps : List Step) → run None steps ≡ None
  run_none [] = refl
  run_none (y ∷ ys) = refl

  -- ---- a citation

  module _ (w : Word) (c : Assertion) (none : find (λ h. bytes_eq w (label_of h)) x.active ≡ None)
      (found : find (λ a. bytes_eq w a.label) earlier ≡ Some c) where
    taken_is : taken_by earlier x.active w ≡ Some c.hypotheses
    taken_is =
        ap (λ b. if b then Some [] else option_map (λ (a : Assertion). a.hypotheses) (find (λ a. bytes_eq w a.label) earlier))
        (not_found_is_none (λ h. bytes_eq w (label_of h)) x.active none)
        ∙ ap (option_map (λ (a : Assertion). a.hypotheses)) found

    pub too_few : (s : Entries) → length s.entries.items < length c.hypotheses
        → stepped (entry earlier x) earlier x.active (seen_stack s) (names w) ≡ None
    too_few s lt =
        let es = map seen_entry s.entries.items in
        let long : length (reverse es) ≡ length s.entries.items = length-reverse es ∙ length-map s.entries.items seen_entry in
        ap (cite (entry earlier x) w (seen_stack s)) taken_is
        ∙ ap (put (entry earlier x) w (seen_stack s).marked) (short c.hypotheses (reverse es) [] (omega (arith, lt, long)))

    entries_of : (es : List (Vec (Bor (List ℕ)))) → map seen_entry es ≡ map (λ e. Ok e) (map seen_expression es)
    entries_of [] = refl
    entries_of (e ∷ es) = ap (λ l. seen_entry e ∷ l) (entries_of es)

    module _ (s : Entries) (front es : List (Vec (Bor (List ℕ)))) (parts : s.entries.items ≡ front ++ es)
        (many : length es ≡ length c.hypotheses) where
      comes_off : pop c.hypotheses (seen_stack s).entries []
          ≡ Some (map (λ e. Ok e) (map seen_expression es), reverse (map seen_entry front))
      comes_off =
          let off = map seen_entry es in
          let below = reverse (map seen_entry front) in
          let long : length c.hypotheses ≡ length (reverse off) =
          sym many ∙ sym (length-map es seen_entry) ∙ sym (length-reverse off) in
          ap (λ l. pop c.hypotheses (reverse l) []) (ap (map seen_entry) parts ∙ map-append seen_entry front es)
          ∙ ap (λ l. pop c.hypotheses l []) (reverse-append (map seen_entry front) off)
          ∙ popped c.hypotheses (reverse off) below [] long
          ∙ ap (λ l. Some (l, below)) (append-nil (reverse (reverse off)) ∙ turned_back off ∙ entries_of es)

      pub is_cited : Cites earlier x (seen_stack s) w c (map seen_expression es)
      is_cited = record { no_hypothesis = none; is_cited = found; below = reverse (map seen_entry front); takes = comes_off }

      pub cites_to : (e : Expression) → cited x c (map seen_expression es) ≡ Ok e
          → stepped (entry earlier x) earlier x.active (seen_stack s) (names w)
          ≡ Some (record { entries = Ok e ∷ reverse (map seen_entry front); marked = (seen_stack s).marked })
      cites_to e is =
          citations_are_put earlier x (seen_stack s) w c (map seen_expression es) (reverse (map seen_entry front)) none found comes_off
          ∙ ap (λ r. Some (record { entries = r ∷ reverse (map seen_entry front); marked = (seen_stack s).marked })) is

  pub names_nothing : (w : Word) (s : Stack Entry) → find (λ h. bytes_eq w (label_of h)) x.active ≡ None
      → find (λ a. bytes_eq w a.label) earlier ≡ None → stepped (entry earlier x) earlier x.active s (names w) ≡ None
  names_nothing w s none found =
      ap (cite (entry earlier x) w s)
      (ap (λ b. if b then Some [] else option_map (λ (a : Assertion). a.hypotheses) (find (λ a. bytes_eq w a.label) earlier))
      (not_found_is_none (λ h. bytes_eq w (label_of h)) x.active none)
      ∙ ap (option_map (λ (a : Assertion). a.hypotheses)) found)

  pub says : (w : Word) (s : Stack Entry) (h : Hypothesis) (e : Expression) → find (λ h. bytes_eq w (label_of h)) x.active ≡ Some h
      → e ≡ said_by h → stepped (entry earlier x) earlier x.active s (names w) ≡ Some (push s (Ok e))
  says w s h e found is = hypotheses_are_put earlier x s w h found ∙ ap (λ e. Some (push s (Ok e))) (sym is)

  -- ---- one more step

  pub start : Reached earlier x [] empty 0
  start = record { leads = refl; counted = refl; passed = λ rest. refl }

  none_failed : (es : List (Vec (Bor (List ℕ)))) → last_failure (map seen_entry es) ≡ None
  none_failed [] = refl
  none_failed (e ∷ es) = refl

  -- no entry of what the code keeps failed
  pub last_stands : (s : Entries) → last_failure (seen_stack s).entries ≡ None
  last_stands s = of (reverse s.entries.items) (turned s.entries.items)
    where
      turned : (es : List (Vec (Bor (List ℕ)))) → reverse (map seen_entry es) ≡ map seen_entry (reverse es)
      turned [] = refl
      turned (e ∷ es) =
          reverse-append (seen_entry e ∷ []) (map seen_entry es) ∙ ap (λ l. l ++ seen_entry e ∷ []) (turned es)
          ∙ sym (map-append seen_entry (reverse es) (e ∷ [])) ∙ sym (ap (map seen_entry) (reverse-append (e ∷ []) es))

      of : (es : List (Vec (Bor (List ℕ)))) → reverse (map seen_entry s.entries.items) ≡ map seen_entry es
          → last_failure (reverse (map seen_entry s.entries.items)) ≡ None
      of es e = ap last_failure e ∙ none_failed es

  module _ (front : List Step) (s : Stack Entry) (n : ℕ) (before : Reached earlier x front s n) (step : Step) (m : ℕ)
      (m-is : m ≡ n + length (filter is_counted (step ∷ []))) where
    led : run (Some empty) (front ++ step ∷ []) ≡ stepped (entry earlier x) earlier x.active s step
    led = run_then (Some empty) front (step ∷ []) ∙ ap (λ o. run o (step ∷ [])) before.leads

    counted_more : m ≡ length (filter is_counted (front ++ step ∷ []))
    counted_more =
        m-is ∙ ap (λ k. k + length (filter is_counted (step ∷ []))) before.counted ∙ sym (filtered_more is_counted front (step ∷ []))

    pub reached_more : (t : Entries) → stepped (entry earlier x) earlier x.active s step ≡ Some (seen_stack t)
        → Reached earlier x (front ++ step ∷ []) (seen_stack t) m
    reached_more t h =
        let all = led ∙ h in
        record {
          leads = all;
          counted = counted_more;
          passed = λ rest.
              ap (fault_from earlier x []) (append_assoc front (step ∷ []) rest)
              ∙ before.passed (step ∷ rest)
              ∙ ap (λ k. option_or (at_end (front ++ step ∷ []) k) (fault_from earlier x (front ++ step ∷ []) rest))
              (ap (option_and_then (λ z. last_failure z.entries)) all ∙ last_stands t);
        }

    pub none_made : stepped (entry earlier x) earlier x.active s step ≡ None → (rest : List Step)
        → made (entry earlier x) earlier x.active (front ++ step ∷ rest) ≡ None
    none_made h rest =
        ap single (run_then (Some empty) front (step ∷ rest) ∙ ap (λ o. run o (step ∷ rest)) before.leads
        ∙ ap (λ o. run o rest) h ∙ run_none rest)

    failed : (finding : Finding) (by : FailsBy earlier x step s finding)
        → option_and_then (λ z. last_failure z.entries) (stepped (entry earlier x) earlier x.active s step) ≡ Some (kind_of finding)
    failed finding by =
        ap (λ step. option_and_then (λ z. last_failure z.entries) (stepped (entry earlier x) earlier x.active s step)) by.is_label
        ∙ ap (option_and_then (λ z. last_failure z.entries))
        (citations_are_put earlier x s by.label by.c by.es by.cites.below by.cites.no_hypothesis by.cites.is_cited by.cites.takes)
        ∙ ap (λ r. last_failure (r ∷ by.cites.below)) by.by.fails

    pub reached_fails : (finding : Finding) → FailsBy earlier x step s finding → (rest : List Step)
        → IsFaultFound earlier x (front ++ step ∷ rest) m finding
    reached_fails finding by rest =
        let one : length (filter is_counted (step ∷ [])) ≡ 1 = ap (λ step. length (filter is_counted (step ∷ []))) by.is_label in
        let same = before.counted in
        record {
          fault = before.passed (step ∷ rest)
              ∙ ap (λ k. option_or (at_end (front ++ step ∷ []) k) (fault_from earlier x (front ++ step ∷ []) rest))
              (ap (option_and_then (λ z. last_failure z.entries)) led ∙ failed finding by)
              ∙ ap (λ k. Some (record { step = k; kind = kind_of finding })) (sym counted_more);
          found = citation_found earlier x (front ++ step ∷ rest) m by.c by.es
              (record {
                front = front;
                label = by.label;
                at = record {
                  rest = rest;
                  parts = ap (λ step. front ++ step ∷ rest) by.is_label;
                  counted = refl;
                  number = omega (arith, m-is, one, same);
                };
                stack = s;
                stands = before.leads;
                cites = by.cites;
              }) finding by.by.finds;
        }

  -- ---- the end

  module _ (steps : List Step) (s : Entries) (n : ℕ) (all : Reached earlier x steps (seen_stack s) n) where
    made_is : made (entry earlier x) earlier x.active steps ≡ only (seen_stack s).entries
    made_is = ap single all.leads

    pub not_one : (length s.entries.items ≡ 1 → ⊥) → made (entry earlier x) earlier x.active steps ≡ None
    not_one h = made_is ∙ of (reverse (map seen_entry s.entries.items)) refl
      where
        of : (es : List Entry) → reverse (map seen_entry s.entries.items) ≡ es → only es ≡ None
        of [] e = refl
        of (d ∷ []) e =
            absurd (h (sym (length-map s.entries.items seen_entry) ∙ sym (length-reverse (map seen_entry s.entries.items)) ∙ ap length e))
        of (d ∷ f ∷ es) e = refl

    module _ (found : Vec (Bor (List ℕ))) (one : s.entries.items ≡ found ∷ []) where
      pub one_made : made (entry earlier x) earlier x.active steps ≡ Some (Ok (seen_words found.items))
      one_made = made_is ∙ ap (λ es. only (reverse (map seen_entry es))) one

      ended : fault_from earlier x [] steps
          ≡ at_end steps (if same_expression (seen_words found.items) x.statement then None else Some kind.StatementDiffers)
      ended =
          ap (fault_from earlier x []) (sym (append-nil steps)) ∙ all.passed []
          ∙ ap (λ o. at_end steps (option_and_then (differs x) o)) one_made

      pub same_end : same_expression (seen_words found.items) x.statement ≡ true → fault_from earlier x [] steps ≡ None
      same_end same = ended ∙ ap (λ b. at_end steps (if b then None else Some kind.StatementDiffers)) same

      pub other_end : (wanted : Vec (Bor (List ℕ))) → same_expression (seen_words found.items) x.statement ≡ false
          → seen_words wanted.items ≡ x.statement → IsFaultFound earlier x steps n (StatementDiffers wanted found)
      other_end wanted other is = record {
        fault = ended ∙ ap (λ b. at_end steps (if b then None else Some kind.StatementDiffers)) other
            ∙ ap (λ k. Some (record { step = k; kind = kind.StatementDiffers })) (sym all.counted);
        found = record { derives = one_made; stated = is };
      }
