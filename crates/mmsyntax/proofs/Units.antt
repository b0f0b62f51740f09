-- What a block, an assertion and a statement declare is sound.
use Rattle.std.proofs.Common.{◌≡◌, ℕ, ◌<◌, ◌≤◌, Bool, true, leb, ltb, List, [], ◌∷◌, ◌++◌, length, drop, map, None, refl, sym, ap, subst}
use Rattle.std.proofs.Common.{◌∙◌, arith, length-append, leb-false}
use Rattle.std.specs.Prelude.{IsTrue, codes}
use mathlib.Core.Bool.{not}
use Rattle.std.specs.List.{flat_map, AllByRecursion}
use Rattle.std.proofs.lemmas.List.{length-map, map-append}
use Rattle.std.proofs.lemmas.List.Concat.{flat_map-cons}
use Rattle.std.proofs.lemmas.List.Elements.{All-from_recursion}
use Rattle.mmsyntax.specs.declared.statement.Symbol.{Symbol}
use Rattle.mmsyntax.specs.declared.statement.Kind.{Kind}
use Rattle.mmsyntax.specs.declared.statement.Kind.TheVariants.{Axiom, Theorem}
use Rattle.mmsyntax.specs.declared.statement.Step.{Step}
use Rattle.mmsyntax.specs.declared.statement.Assertion.{Assertion}
use Rattle.mmtext.specs.declared.fault.FaultKind.TheVariants.{RepeatedLabel, BadLabel, TooLong}
use Rattle.mmtext.specs.Words.{Word, is_label}
use Rattle.mmsyntax.specs.Tables.{Tables}
use Rattle.mmsyntax.specs.Rows.{Known, Pass, is_used, first_fault, in_prelude, assertion_label_tests, with_assertion}
use Rattle.mmsyntax.specs.Blocks.{Hypothesis, Block, no_block, hypothesis_label_tests, with_hypothesis, assertion_of, axiom_of, theorem_of}
use Rattle.mmsyntax.specs.Grammar.{Claim, asserted, proved, Piece, distinct, hypothesis, Statement, constants, variables, float, alone}
use Rattle.mmsyntax.specs.Grammar.{block, claim_spelling, piece_spelling, spelling, Claims, Holds, HoldAll, Declares, DeclareAll}
use Rattle.mmsyntax.specs.Assertions.{IsExpression, IsPairOf, CitesApart, Fits, IsNameable, IsUnit}
use Rattle.mmsyntax.proofs.Distinct.{all_push, all_left, all_right}
use Rattle.mmsyntax.proofs.Lines.{IsWord}
use Rattle.mmsyntax.proofs.Sound.{IsSound, cond_none, assertion_label_passes, constants_all, variables_all, float_sound}
use Rattle.mmsyntax.proofs.Sound.{hypothesis_sound, assertion_sound}
use Rattle.mmsyntax.proofs.Found.{read_expression, label_four, AreSteps, read_steps, AreRestricted, restricts}

abbrev pub expressions : List Hypothesis → List (List Symbol)
expressions hyps = map (λ h. h.expression) hyps

-- what a block holds
pub record IsBlockSound (t : Tables) (b : Block) : Type 0 where
  pub pairs : AreRestricted t b.pairs
  pub hyps : AllByRecursion (IsExpression t) (expressions b.hyps)
  pub few_hyps : length b.hyps ≤ 1000

no_block_sound : (t : Tables) → IsBlockSound t no_block
no_block_sound t = record { pairs = record { within = tt; ascend = tt; few = omega arith }; hyps = tt; few_hyps = omega arith }

-- ---- $d and $e

hypothesis_room : (k : Known) (b : Block) (w : Word) → Pass (hypothesis_label_tests k b w) → length b.hyps < 1000
hypothesis_room k b w h =
    let tests = hypothesis_label_tests k b w in
    let a = cond_none (ltb 260 (length w)) BadLabel (first_fault (drop 1 tests)) h in
    let c = cond_none (is_used k w) RepeatedLabel (first_fault (drop 2 tests)) a.1 in
    let d = cond_none (leb 1000 (length b.hyps)) TooLong None c.1 in
    leb-false 1000 (length b.hyps) d.0

held_hypothesis : (t : Tables) (b : Block) (w : Word) (e : List Symbol) → IsBlockSound t b → length b.hyps < 1000 → IsExpression t e
    → IsBlockSound t (with_hypothesis b w e)
held_hypothesis t b w e s room x = record {
  pairs = s.pairs;
  hyps = subst (AllByRecursion (IsExpression t)) (sym (map-append (λ h. h.expression) b.hyps (record { label = w; expression = e } ∷ [])))
      (all_push (IsExpression t) (expressions b.hyps) e s.hyps x);
  few_hyps = omega (arith, length-append b.hyps (record { label = w; expression = e } ∷ []));
}

held_pairs : (t : Tables) (b held : Block) → IsBlockSound t b → AreRestricted t held.pairs × (b.hyps ≡ held.hyps) → IsBlockSound t held
held_pairs t b held s h = record {
  pairs = h.0;
  hyps = subst (λ (x : List Hypothesis). AllByRecursion (IsExpression t) (expressions x)) h.1 s.hyps;
  few_hyps = subst (λ (x : List Hypothesis). length x ≤ 1000) h.1 s.few_hyps;
}

-- what is known behind a piece, and what the block holds
record IsHeld (k after : Known) (held : Block) : Type 0 where
  tables : k.tables ≡ after.tables
  sound : IsSound after
  block : IsBlockSound after.tables held

piece_held : (k : Known) (b : Block) (p : Piece) (after : Known) (held : Block) → IsSound k → IsBlockSound k.tables b
    → Holds k b p after held → IsHeld k after held
piece_held k b (distinct ws) after held s h d =
    subst (λ (x : Known). IsHeld k x held) d.0 (record
    { tables = refl; sound = s; block = held_pairs k.tables b held h (restricts k.tables b [] ws held tt h.pairs d.1) })
piece_held k b (hypothesis label ws) after held s h d =
    let rest = d.3 in
    let e = rest.0 in
    let x = read_expression k.tables ws e d.2 rest.1 in
    let now = held_hypothesis k.tables b label e h (hypothesis_room k b label d.1) x in
    subst (λ (c : Block). IsHeld k after c) rest.3
    (subst (λ (x : Known). IsHeld k x (with_hypothesis b label e)) rest.2
    (record { tables = refl; sound = hypothesis_sound k label s; block = now }))

pieces_held : (ps : List Piece) (k : Known) (b : Block) (after : Known) (held : Block) → IsSound k → IsBlockSound k.tables b
    → HoldAll k b ps after held → IsHeld k after held
pieces_held [] k b after held s h d =
    subst (λ (x : Known). IsHeld k x held) d.0 (record { tables = refl; sound = s; block = subst (IsBlockSound k.tables) d.1 h })
pieces_held (p ∷ ps) k b after held s h d =
    let one = piece_held k b p d.0 d.1 s h d.2 in
    let all = pieces_held ps d.0 d.1 after held one.sound one.block d.3 in
    record { tables = one.tables ∙ all.tables; sound = all.sound; block = all.block }

-- ---- $a and $p

unit_fits : (t : Tables) (b : Block) (w : Word) (kind : Kind) (e : List Symbol) (steps : List Step) → IsBlockSound t b → IsExpression t e
    → (kind ≡ Axiom → steps ≡ []) → length steps ≤ 16384 → AllByRecursion (CitesApart w) steps → Fits t (assertion_of b w kind e steps)
unit_fits t b w kind e steps h x none few apart = record {
  statement = x;
  hyps = All-from_recursion (IsExpression t) (expressions b.hyps) h.hyps;
  few_hyps = omega (arith, length-map b.hyps (λ (g : Hypothesis). g.expression), h.few_hyps);
  pairs_within = All-from_recursion (IsPairOf (length t.floats)) b.pairs h.pairs.within;
  pairs_ascend = h.pairs.ascend;
  few_pairs = h.pairs.few;
  no_axiom_proof = none;
  few_steps = few;
  cites_apart = All-from_recursion (CitesApart w) steps apart;
}

axiom_unit : (t : Tables) (b : Block) (w : Word) (e : List Symbol) → IsBlockSound t b → IsExpression t e → IsUnit t (axiom_of b w e)
axiom_unit t b w e h x = record {
  fits = unit_fits t b w Axiom e [] h x (λ _. refl) (omega arith) tt;
  some_steps = λ c. absurd cc;
  steps = All-from_recursion (IsNameable t (length (expressions b.hyps))) [] tt;
}

theorem_unit : (t : Tables) (b : Block) (w : Word) (e : List Symbol) (steps : List Step) → IsBlockSound t b → IsExpression t e
    → AreSteps t w (length b.hyps) steps → IsUnit t (theorem_of b w e steps)
theorem_unit t b w e steps h x s = record {
  fits = unit_fits t b w Theorem e steps h x (λ c. absurd cc) s.few s.apart;
  some_steps = λ _. s.some;
  steps = All-from_recursion (IsNameable t (length (expressions b.hyps))) steps
      (subst (λ (n : ℕ). AllByRecursion (IsNameable t n) steps) (sym (length-map b.hyps (λ (g : Hypothesis). g.expression))) s.nameable);
}

claim_label : (k : Known) (a : Assertion) → IsSound k → IsUnit k.tables a → IsWord a.label → IsTrue (is_label a.label)
    → Pass (assertion_label_tests k a.label) → IsSound (with_assertion k a)
claim_label k a s u word label pass =
    let p = assertion_label_passes k a.label pass in
    assertion_sound k a s u (label_four a.label _ word label p.short p.new.not_named) p

claim_sound : (k : Known) (b : Block) (claim : Claim) (a : Assertion) → IsSound k → IsBlockSound k.tables b
    → AllByRecursion IsWord (claim_spelling claim) → Claims k b claim a → IsSound (with_assertion k a)
claim_sound k b (asserted label ws) a s h words d =
    let rest = d.3 in
    let u = axiom_unit k.tables b label rest.0 h (read_expression k.tables ws rest.0 d.2 rest.1) in
    subst (λ (x : Assertion). IsSound (with_assertion k x)) rest.2 (claim_label k (axiom_of b label rest.0) s u words.0 d.0 d.1)
claim_sound k b (proved label ws steps) a s h words d =
    let rest = d.4 in
    let e = rest.0 in
    let ss = rest.1 in
    let behind = all_right IsWord ws (codes "$=" ∷ (steps ++ codes "$." ∷ [])) words.1.1 in
    let step_words = all_left IsWord steps (codes "$." ∷ []) behind.1 in
    let u = theorem_unit k.tables b label e ss h (read_expression k.tables ws e d.2 rest.2)
    (read_steps k.tables label b.hyps steps ss d.3 step_words rest.3) in
    subst (λ (x : Assertion). IsSound (with_assertion k x)) rest.4 (claim_label k (theorem_of b label e ss) s u words.0 d.0 d.1)

-- ---- statements

pub statement_sound : (k : Known) (st : Statement) (after : Known) → IsSound k → AllByRecursion IsWord (spelling st) → Declares k st after
    → IsSound after
statement_sound k (constants ws) after s h d = constants_all k ws after d.0 s (all_left IsWord ws (codes "$." ∷ []) h.1) d.2
statement_sound k (variables ws) after s h d = variables_all k ws after d.0 s (all_left IsWord ws (codes "$." ∷ []) h.1) d.2
statement_sound k (float label c v) after s h d = let n = d.3 in float_sound k after label c v n.0 n.1 d.0 s h.0 d.1 d.2 n.2 n.3 n.4
statement_sound k (alone claim) after s h d = subst IsSound d.2 (claim_sound k no_block claim d.0 s (no_block_sound k.tables) h d.1)
statement_sound k (block pieces claim) after s h d =
    let held = pieces_held pieces k no_block d.0 d.1 s (no_block_sound k.tables) d.3 in
    let end = all_right IsWord (flat_map piece_spelling pieces) (claim_spelling claim ++ codes "$}" ∷ []) h.1 in
    subst IsSound d.5 (claim_sound d.0 d.1 claim d.2 held.sound held.block
    (all_left IsWord (claim_spelling claim) (codes "$}" ∷ []) end) d.4)

pub all_sound : (ss : List Statement) (k after : Known) → IsSound k → AllByRecursion IsWord (flat_map spelling ss) → DeclareAll k ss after
    → IsSound after
all_sound [] k after s h d = subst IsSound d s
all_sound (st ∷ ss) k after s h d =
    let all = subst (AllByRecursion IsWord) (flat_map-cons spelling st ss) h in
    all_sound ss d.0 after (statement_sound k st d.0 s (all_left IsWord (spelling st) (flat_map spelling ss) all) d.1)
    (all_right IsWord (spelling st) (flat_map spelling ss) all) d.2

no_prelude : (k : Known) → k.units.prelude_closed ≡ true → IsTrue (in_prelude k) → ⊥
no_prelude k closed h = let e : not true ≡ true = subst (λ (b : Bool). not b ≡ true) closed h in absurd cc

-- behind a closed prelude no statement changes it
pub closed_tables : (k : Known) (st : Statement) (after : Known) → k.units.prelude_closed ≡ true → IsSound k → Declares k st after
    → k.tables ≡ after.tables
closed_tables k (constants ws) after closed s d = absurd (no_prelude k closed d.0)
closed_tables k (variables ws) after closed s d = absurd (no_prelude k closed d.0)
closed_tables k (float label c v) after closed s d = absurd (no_prelude k closed d.0)
closed_tables k (alone claim) after closed s d = ap (λ (x : Known). x.tables) d.2
closed_tables k (block pieces claim) after closed s d =
    (pieces_held pieces k no_block d.0 d.1 s (no_block_sound k.tables) d.3).tables ∙ ap (λ (x : Known). x.tables) d.5
