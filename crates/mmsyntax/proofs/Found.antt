-- What words are found to be: expressions, steps that have a name, restricted pairs.
use Rattle.std.proofs.Common.{◌≡◌, ◌≢◌, ℕ, suc, ◌<◌, ◌≤◌, Bool, true, false, eqb, leb, ltb, List, [], ◌∷◌, ◌++◌, length, drop, Option}
use Rattle.std.proofs.Common.{Some, None, Result, Ok, Err, refl, ap, subst, arith, length-append}
use Rattle.std.specs.Prelude.{◌||◌, ◌&&◌, is_some, codes}
use mathlib.Core.Bool.{not}
use Rattle.std.specs.List.{list_any, AllByRecursion}
use Rattle.std.specs.Str.{bytes_eq}
use Rattle.std.proofs.lemmas.Bool.{ltb-false, leb-false, not-false}
use Rattle.std.proofs.lemmas.Bool.Decides.{nat_tests}
use Rattle.std.proofs.lemmas.List.Elements.{All-from_recursion}
use Rattle.mmsyntax.specs.declared.statement.Symbol.{Symbol}
use Rattle.mmsyntax.specs.declared.statement.Symbol.TheVariants.{Const, Var}
use Rattle.mmsyntax.specs.declared.statement.Float.{Float}
use Rattle.mmsyntax.specs.declared.statement.Step.{Step}
use Rattle.mmsyntax.specs.declared.statement.Step.TheVariants.{Float as FloatStep, Hyp, Cite}
use Rattle.mmsyntax.specs.declared.symbols.Name.{Name}
use Rattle.mmsyntax.specs.declared.symbols.Name.TheVariants.{Constant, Variable, Label}
use Rattle.mmtext.specs.declared.fault.FaultKind.{FaultKind}
use Rattle.mmtext.specs.declared.fault.FaultKind.TheVariants.{BadToken, BadLabel, TooLong, OutOfProfile, LabelClashes}
use Rattle.mmtext.specs.Words.{Word, has_dollar, is_label}
use Rattle.mmsyntax.specs.Tables.{Tables, named, meaning}
use Rattle.mmsyntax.specs.Rows.{symbol_named, unless_full, symbol_of, first_fault}
use Rattle.mmsyntax.specs.Blocks.{Hypothesis, Block, with_pairs, typed_named, unless_repeated, distinct_of, with_distinct}
use Rattle.mmsyntax.specs.Steps.{step_tests, float_named, hypothesis_named, step_named, unless_faulty, step_of}
use Rattle.mmsyntax.specs.Grammar.{ReadsAfter, Restricts, StepsAfter}
use Rattle.mmsyntax.specs.Layout.{no_float, float_at}
use Rattle.mmsyntax.specs.Dotted.{is_dotted}
use Rattle.mmsyntax.specs.Assertions.{IsSymbolOf, BeginsWithConstant, IsExpression, IsPairOf, AreAscending, CitesApart, IsNameable}
use Rattle.mmsyntax.proofs.Names.{place_of-at, variable_from_named}
use Rattle.mmsyntax.proofs.Distinct.{all_push, all_weaker}
use Rattle.mmsyntax.proofs.Lines.{IsWord}
use Rattle.mmsyntax.proofs.Sound.{cond_none, if_ok}
use Rattle.mmsyntax.proofs.Pairs.{pairs_with, pairs_ascend}

-- ---- places of names

constant_place : (fs : List Float) (c v l : Option ℕ) (i : ℕ) → named fs c v l ≡ Some (Constant i) → c ≡ Some i
constant_place fs (Some j) v l i h = ap (λ k. Some k) (let e : j ≡ i = cc in e)
constant_place fs None (Some j) l i h = absurd cc
constant_place fs None None (Some j) i h = absurd cc
constant_place fs None None None i h = absurd cc

pub label_place : (fs : List Float) (c v l : Option ℕ) (j : ℕ) → named fs c v l ≡ Some (Label j) → l ≡ Some j
label_place fs (Some i) v l j h = absurd cc
label_place fs None (Some i) l j h = absurd cc
label_place fs None None (Some k) j h = ap (λ n. Some n) (let e : k ≡ j = cc in e)
label_place fs None None None j h = absurd cc

pub constant_within : (t : Tables) (w : Word) (i : ℕ) → meaning t w ≡ Some (Constant i) → i < length t.constants
unfolding meaning
constant_within t w i h = (place_of-at (bytes_eq w) t.constants i [] (constant_place t.floats _ _ _ i h)).0

pub typed_within : (t : Tables) (w : Word) (i j : ℕ) → meaning t w ≡ Some (Variable i (Some j)) → j < length t.floats
unfolding meaning
typed_within t w i j h = (place_of-at (λ f. eqb f.variable i) t.floats j no_float (variable_from_named t.floats _ _ _ i (Some j) h).2).0

-- a word that names a $f is its label
pub label_at : (t : Tables) (w : Word) (j : ℕ) → meaning t w ≡ Some (Label j)
    → (j < length t.floats) × (bytes_eq w (float_at t.floats j).label ≡ true)
unfolding meaning
label_at t w j h = place_of-at (λ f. bytes_eq w f.label) t.floats j no_float (label_place t.floats _ _ _ j h)

-- ---- expressions

room_left : (count : ℕ) (r : Result Symbol FaultKind) (s : Symbol) → unless_full count r ≡ Ok s → (leb 65535 count ≡ false) × (r ≡ Ok s)
room_left count (Err kind) s h = absurd cc
room_left count (Ok x) s h = if_ok (leb 65535 count) TooLong (Ok x) s h

symbol_parts : (t : Tables) (n : ℕ) (w : Word) (s : Symbol) → symbol_of t n w ≡ Ok s
    → (leb 65535 n ≡ false) × (symbol_named (eqb n 0) (meaning t w) ≡ Ok s)
unfolding symbol_of
symbol_parts t n w s h = room_left n _ s (if_ok (has_dollar w) BadToken _ s h).1

symbol_found : (t : Tables) (w : Word) (first : Bool) (o : Option Name) (s : Symbol) → meaning t w ≡ o → symbol_named first o ≡ Ok s
    → IsSymbolOf t s
symbol_found t w true (Some (Constant i)) s e h = let same : Const i ≡ s = cc in subst (IsSymbolOf t) same (constant_within t w i e)
symbol_found t w false (Some (Constant i)) s e h = let same : Const i ≡ s = cc in subst (IsSymbolOf t) same (constant_within t w i e)
symbol_found t w false (Some (Variable i (Some j))) s e h = let same : Var j ≡ s = cc in subst (IsSymbolOf t) same (typed_within t w i j e)
symbol_found t w true (Some (Variable i (Some j))) s e h = absurd cc
symbol_found t w true (Some (Variable i None)) s e h = absurd cc
symbol_found t w false (Some (Variable i None)) s e h = absurd cc
symbol_found t w true (Some (Label j)) s e h = absurd cc
symbol_found t w false (Some (Label j)) s e h = absurd cc
symbol_found t w true None s e h = absurd cc
symbol_found t w false None s e h = absurd cc

reads_symbols : (t : Tables) (front : List Symbol) (ws : List Word) (e : List Symbol) → AllByRecursion (IsSymbolOf t) front
    → ReadsAfter t front ws e → AllByRecursion (IsSymbolOf t) e
reads_symbols t front [] e h d = subst (AllByRecursion (IsSymbolOf t)) d h
reads_symbols t front (w ∷ ws) e h d =
    let s = symbol_found t w (eqb (length front) 0) (meaning t w) d.0 refl (symbol_parts t (length front) w d.0 d.1).1 in
    reads_symbols t (front ++ d.0 ∷ []) ws e (all_push (IsSymbolOf t) front d.0 h s) d.2

reads_short : (t : Tables) (front : List Symbol) (ws : List Word) (e : List Symbol) → length front ≤ 65535 → ReadsAfter t front ws e
    → length e ≤ 65535
reads_short t front [] e h d = subst (λ (x : List Symbol). length x ≤ 65535) d h
reads_short t front (w ∷ ws) e h d =
    let room : length front < 65535 = leb-false 65535 (length front) (symbol_parts t (length front) w d.0 d.1).0 in
    reads_short t (front ++ d.0 ∷ []) ws e (omega (arith, length-append front (d.0 ∷ []))) d.2

first_constant : (o : Option Name) (s : Symbol) → symbol_named true o ≡ Ok s → BeginsWithConstant (s ∷ [])
first_constant None s h = absurd cc
first_constant (Some (Constant i)) s h = let e : Const i ≡ s = cc in subst (λ (x : Symbol). BeginsWithConstant (x ∷ [])) e tt
first_constant (Some (Variable i None)) s h = absurd cc
first_constant (Some (Variable i (Some j))) s h = absurd cc
first_constant (Some (Label j)) s h = absurd cc

begins_more : (front : List Symbol) (s : Symbol) → BeginsWithConstant front → BeginsWithConstant (front ++ s ∷ [])
begins_more [] s h = absurd h
begins_more (Const i ∷ front) s h = tt
begins_more (Var j ∷ front) s h = absurd h

reads_begins : (t : Tables) (front : List Symbol) (ws : List Word) (e : List Symbol) → BeginsWithConstant front → ReadsAfter t front ws e
    → BeginsWithConstant e
reads_begins t front [] e h d = subst BeginsWithConstant d h
reads_begins t front (w ∷ ws) e h d = reads_begins t (front ++ d.0 ∷ []) ws e (begins_more front d.0 h) d.2

read_begins : (t : Tables) (ws : List Word) (e : List Symbol) → ws ≢ [] → ReadsAfter t [] ws e → BeginsWithConstant e
read_begins t [] e some d = absurd (some refl)
read_begins t (w ∷ ws) e some d = reads_begins t (d.0 ∷ []) ws e (first_constant (meaning t w) d.0 (symbol_parts t 0 w d.0 d.1).1) d.2

pub read_expression : (t : Tables) (ws : List Word) (e : List Symbol) → ws ≢ [] → ReadsAfter t [] ws e → IsExpression t e
read_expression t ws e some d = record {
  begins = read_begins t ws e some d;
  symbols = All-from_recursion (IsSymbolOf t) e (reads_symbols t [] ws e tt d);
  short = reads_short t [] ws e (omega arith) d;
}

-- ---- words that are labels

pub some_bytes : (w : Word) → w ≢ [] → leb 1 (length w) ≡ true
some_bytes [] h = absurd (h refl)
some_bytes (b ∷ bs) h = one (length bs)
  where
    one : (n : ℕ) → leb 1 (suc n) ≡ true
    one n = grind (arith, nat_tests)

at_most : (n limit : ℕ) → ltb limit n ≡ false → leb n limit ≡ true
at_most n limit h = grind (arith, nat_tests)

all_four : (a b c d : Bool) → a ≡ true → b ≡ true → c ≡ true → d ≡ true → (a && b && c && d) ≡ true
all_four a b c d h i j k = rw (h, i, j, k)

-- bytes of a label, if it names nothing that it may not
pub label_four : (w : Word) (named : Bool) → IsWord w → is_label w ≡ true → ltb 255 (length w) ≡ false → named ≡ false
    → (leb 1 (length w) && leb (length w) 255 && is_label w && not named) ≡ true
label_four w named word label short new =
    all_four (leb 1 (length w)) (leb (length w) 255) (is_label w) (not named) (some_bytes w word.0) (at_most (length w) 255 short) label
    (ap not new)

-- ---- steps

-- what passing tests of a step in the proof of L say
record StepPasses (t : Tables) (own : Word) (hyps : List Hypothesis) (count : ℕ) (w : Word) (s : Step) : Type 0 where
  label : is_label w ≡ true
  room : count < 16384
  is_named : step_named own w (float_named (meaning t w)) (hypothesis_named hyps w) ≡ Ok s

pub no_fault : (o : Option FaultKind) (r : Result Step FaultKind) (s : Step) → unless_faulty o r ≡ Ok s → (o ≡ None) × (r ≡ Ok s)
no_fault (Some kind) r s h = absurd cc
no_fault None r s h = (refl, h)

step_passes : (t : Tables) (own : Word) (hyps : List Hypothesis) (count : ℕ) (w : Word) (s : Step) → step_of t own hyps count w ≡ Ok s
    → StepPasses t own hyps count w s
unfolding step_of
step_passes t own hyps count w s h =
    let both = no_fault (first_fault (step_tests count w)) _ s h in
    let tests = step_tests count w in
    let a = cond_none (bytes_eq w (codes "?") || bytes_eq w (codes "(")) OutOfProfile (first_fault (drop 1 tests)) both.0 in
    let b = cond_none (has_dollar w) BadToken (first_fault (drop 2 tests)) a.1 in
    let c = cond_none (not (is_label w)) BadToken (first_fault (drop 3 tests)) b.1 in
    let d = cond_none (leb 16384 count) TooLong None c.1 in
    record { label = not-false (is_label w) c.0; room = leb-false 16384 count d.0; is_named = both.1 }

float_label : (t : Tables) (w : Word) (o : Option Name) (j : ℕ) → meaning t w ≡ o → float_named o ≡ Some j → j < length t.floats
float_label t w (Some (Label k)) j e h = let same : k ≡ j = cc in subst (λ (n : ℕ). n < length t.floats) same (label_at t w k e).0
float_label t w (Some (Constant i)) j e h = absurd cc
float_label t w (Some (Variable i o)) j e h = absurd cc
float_label t w None j e h = absurd cc

more_steps : (front : List Step) (s : Step) → (front ++ s ∷ []) ≢ []
more_steps [] s = λ h. absurd cc
more_steps (x ∷ front) s = λ h. absurd cc

module _ (t : Tables) (own : Word) (hyps : List Hypothesis) where
  -- a step of the proof of L that a text can name
  abbrev IsStep : Step → Type 0
  IsStep s = IsNameable t (length hyps) s × CitesApart own s

  named_step : (w : Word) (s : Step) (f h : Option ℕ) → IsWord w → is_label w ≡ true → float_named (meaning t w) ≡ f
      → hypothesis_named hyps w ≡ h → step_named own w f h ≡ Ok s → IsStep s
  named_step w s (Some j) h word label ef eh n = let same : FloatStep j ≡ s = cc in
      subst IsStep same (float_label t w (meaning t w) j refl ef, tt)
  named_step w s None (Some i) word label ef eh n = let same : Hyp i ≡ s = cc in
      subst IsStep same ((place_of-at (λ h. bytes_eq w h.label) hyps i (record { label = []; expression = [] }) eh).0, tt)
  named_step w s None None word label ef eh n =
      let short = if_ok (ltb 255 (length w)) BadLabel _ s n in
      let apart = if_ok (is_dotted own w) LabelClashes (Ok (Cite w)) s short.1 in
      let same : Cite w ≡ s = let e : Ok (Cite w) ≡ Ok s = apart.1 in cc in
      subst IsStep same (label_four w (is_some (float_named (meaning t w))) word label short.0 (ap is_some ef), apart.0)

  steps_named : (front : List Step) (ws : List Word) (steps : List Step) → AllByRecursion IsWord ws → AllByRecursion IsStep front
      → StepsAfter t own hyps front ws steps → AllByRecursion IsStep steps
  steps_named front [] steps words h d = subst (AllByRecursion IsStep) d h
  steps_named front (w ∷ ws) steps words h d =
      let p = step_passes t own hyps (length front) w d.0 d.1 in
      let s = named_step w d.0 (float_named (meaning t w)) (hypothesis_named hyps w) words.0 p.label refl refl p.is_named in
      steps_named (front ++ d.0 ∷ []) ws steps words.1 (all_push IsStep front d.0 h s) d.2

  steps_few : (front : List Step) (ws : List Word) (steps : List Step) → length front ≤ 16384 → StepsAfter t own hyps front ws steps
      → length steps ≤ 16384
  steps_few front [] steps h d = subst (λ (x : List Step). length x ≤ 16384) d h
  steps_few front (w ∷ ws) steps h d =
      let room : length front < 16384 = (step_passes t own hyps (length front) w d.0 d.1).room in
      steps_few (front ++ d.0 ∷ []) ws steps (omega (arith, length-append front (d.0 ∷ []))) d.2

  steps_stay : (front : List Step) (ws : List Word) (steps : List Step) → front ≢ [] → StepsAfter t own hyps front ws steps → steps ≢ []
  steps_stay front [] steps some d = subst (λ (x : List Step). x ≢ []) d some
  steps_stay front (w ∷ ws) steps some d = steps_stay (front ++ d.0 ∷ []) ws steps (more_steps front d.0) d.2

  steps_some : (ws : List Word) (steps : List Step) → ws ≢ [] → StepsAfter t own hyps [] ws steps → steps ≢ []
  steps_some [] steps some d = absurd (some refl)
  steps_some (w ∷ ws) steps some d = steps_stay (d.0 ∷ []) ws steps (more_steps [] d.0) d.2

-- the steps of the proof of L
pub record AreSteps (t : Tables) (own : Word) (hyps : ℕ) (steps : List Step) : Type 0 where
  pub nameable : AllByRecursion (IsNameable t hyps) steps
  pub apart : AllByRecursion (CitesApart own) steps
  pub few : length steps ≤ 16384
  pub some : steps ≢ []

pub read_steps : (t : Tables) (own : Word) (hyps : List Hypothesis) (ws : List Word) (steps : List Step) → ws ≢ []
    → AllByRecursion IsWord ws → StepsAfter t own hyps [] ws steps → AreSteps t own (length hyps) steps
read_steps t own hyps ws steps some words d =
    let named = steps_named t own hyps [] ws steps words tt d in
    record {
      nameable = all_weaker (IsStep t own hyps) (IsNameable t (length hyps)) steps (λ s h. h.0) named;
      apart = all_weaker (IsStep t own hyps) (CitesApart own) steps (λ s h. h.1) named;
      few = steps_few t own hyps [] ws steps (omega arith) d;
      some = steps_some t own hyps ws steps some d;
    }

-- ---- $d

pub record AreRestricted (t : Tables) (ps : List (ℕ × ℕ)) : Type 0 where
  pub within : AllByRecursion (IsPairOf (length t.floats)) ps
  pub ascend : AreAscending ps
  pub few : length ps ≤ 65535

typed_found : (t : Tables) (w : Word) (o : Option Name) (j : ℕ) → meaning t w ≡ o → typed_named o ≡ Ok j → j < length t.floats
typed_found t w (Some (Variable i (Some k))) j e h = let same : k ≡ j = cc in
    subst (λ (n : ℕ). n < length t.floats) same (typed_within t w i k e)
typed_found t w (Some (Variable i None)) j e h = absurd cc
typed_found t w (Some (Constant i)) j e h = absurd cc
typed_found t w (Some (Label i)) j e h = absurd cc
typed_found t w None j e h = absurd cc

not_repeated : (vs : List ℕ) (ps : List (ℕ × ℕ)) (r : Result ℕ FaultKind) (j : ℕ) → unless_repeated vs ps r ≡ Ok j
    → (r ≡ Ok j) × (list_any (λ i. eqb i j) vs ≡ false) × (ltb 65535 (length (with_pairs j vs ps)) ≡ false)
not_repeated vs ps (Err kind) j h = absurd cc
not_repeated vs ps (Ok k) j h =
    let a = if_ok (list_any (λ i. eqb i k) vs) BadToken _ j h in
    let b = if_ok (ltb 65535 (length (with_pairs k vs ps))) TooLong (Ok k) j a.1 in
    let same : k ≡ j = let e : Ok k ≡ Ok j = b.1 in cc in (
      b.1,
      subst (λ (n : ℕ). list_any (λ i. eqb i n) vs ≡ false) same a.0,
      subst
          (λ (n : ℕ). ltb 65535 (length (with_pairs n vs ps)) ≡ false) same b.0,
    )

restricted : (t : Tables) (vs : List ℕ) (ps : List (ℕ × ℕ)) (w : Word) (j : ℕ) → distinct_of t vs ps w ≡ Ok j
    → (typed_named (meaning t w) ≡ Ok j) × (list_any (λ i. eqb i j) vs ≡ false) × (ltb 65535 (length (with_pairs j vs ps)) ≡ false)
unfolding distinct_of
restricted t vs ps w j h = not_repeated vs ps _ j (if_ok (has_dollar w) BadToken _ j h).1

-- a $d leaves the hypotheses, and restricted pairs
pub restricts : (t : Tables) (b : Block) (vs : List ℕ) (ws : List Word) (after : Block) → AllByRecursion (λ j. j < length t.floats) vs
    → AreRestricted t b.pairs → Restricts t b vs ws after → AreRestricted t after.pairs × (b.hyps ≡ after.hyps)
restricts t b vs [] after within h d = (subst (λ (x : Block). AreRestricted t x.pairs) d.1 h, ap (λ (x : Block). x.hyps) d.1)
restricts t b vs (w ∷ ws) after within h d =
    let j = d.0 in
    let p = restricted t vs b.pairs w j d.1 in
    let lt = typed_found t w (meaning t w) j refl p.0 in
    let now : AreRestricted t (with_pairs j vs b.pairs) = record {
      within = pairs_with (length t.floats) j vs b.pairs lt within p.1 h.within;
      ascend = pairs_ascend j vs b.pairs h.ascend;
      few = ltb-false 65535 (length (with_pairs j vs b.pairs)) p.2;
    } in
    restricts t (with_distinct b vs j) (vs ++ j ∷ []) ws after (all_push (λ j. j < length t.floats) vs j within lt) now d.2
