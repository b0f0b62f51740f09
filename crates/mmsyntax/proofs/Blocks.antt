-- The canonical statement of a unit, alone or in its block, declares the unit.
use Rattle.std.proofs.Common.{◌≡◌, ◌≢◌, ℕ, suc, ◌+◌, ◌^◌, ◌<◌, ◌≤◌, Bool, true, false, leb, ltb, List, [], ◌∷◌, ◌++◌, length, drop, map}
use Rattle.std.proofs.Common.{None, refl, sym, ap, subst, ◌∙◌, arith, append_assoc, length-append}
use Rattle.std.specs.Prelude.{is_some, IsTrue}
use Rattle.std.specs.List.{list_any, AllByRecursion}
use Rattle.std.specs.Str.{bytes_eq}
use Rattle.std.proofs.lemmas.Bool.{lt-leb, le-ltb}
use Rattle.std.proofs.lemmas.List.{append-nil, map-append}
use Rattle.std.proofs.lemmas.List.Elements.{recursion_from_All}
use Rattle.mmsyntax.specs.declared.statement.Symbol.{Symbol}
use Rattle.mmsyntax.specs.declared.statement.Symbol.TheVariants.{Var}
use Rattle.mmsyntax.specs.declared.statement.Kind.{Kind}
use Rattle.mmsyntax.specs.declared.statement.Kind.TheVariants.{Axiom, Theorem}
use Rattle.mmsyntax.specs.declared.statement.Step.{Step}
use Rattle.mmsyntax.specs.declared.statement.Assertion.{Assertion}
use Rattle.mmtext.specs.declared.fault.FaultKind.TheVariants.{RepeatedLabel, BadLabel, TooLong}
use Rattle.mmtext.specs.Words.{Word}
use Rattle.mmsyntax.specs.Tables.{Tables, meaning}
use Rattle.mmsyntax.specs.Dotted.{clash, ClashNowhere}
use Rattle.mmsyntax.specs.Rows.{Known, clashes, is_used, Pass, first_fault, assertion_label_tests, with_assertion}
use Rattle.mmsyntax.specs.Blocks.{Hypothesis, Block, no_block, hypothesis_label_tests, with_hypothesis}
use Rattle.mmsyntax.specs.Grammar.{Claim, Piece, Restricts, ReadsAfter, StepsAfter, Claims, HoldAll, Declares, DeclareAll}
use Rattle.mmsyntax.specs.Faults.{database_of}
use Rattle.mmsyntax.specs.Layout.{hypothesis_label, symbol_word, step_word, distinct_pieces, hypothesis_pieces, claim_of_kind, claim_of}
use Rattle.mmsyntax.specs.Layout.{unit_of, unit_statement}
use Rattle.mmsyntax.specs.Assertions.{IsExpression, IsPairOf, AreAscending, CitesApart, IsNameable, IsUnit, is_lawful_label, Distinct}
use Rattle.mmsyntax.proofs.Names.{bytes_eq-sym}
use Rattle.mmsyntax.proofs.Distinct.{any-map, distinct_front, labels_of, not_used, none_of, all_push, all_weaker}
use Rattle.mmsyntax.specs.Preludes.{AreSound}
use Rattle.mmsyntax.proofs.Apart.{apart_front}
use Rattle.mmsyntax.proofs.Units.{expressions}
use Rattle.mmsyntax.proofs.Numbered.{number_label, number_short}
use Rattle.mmsyntax.proofs.HypothesisLabels.{IsNumbered, IsEarlier, earlier, still_earlier, newest, not_earlier, no_label, not_numbered}
use Rattle.mmsyntax.proofs.HypothesisLabels.{made, made_dotted, made_named}
use Rattle.mmsyntax.proofs.Again.{none_cond, IsPlainLabel, plain_label, number_not_named, reads_again, some_words}
use Rattle.mmsyntax.proofs.Again.{restricts_again, steps_again}

-- ---- in general

hold_append : (k m n : Known) (b c d : Block) (ps qs : List Piece) → HoldAll k b ps m c → HoldAll m c qs n d → HoldAll k b (ps ++ qs) n d
hold_append k m n b c d [] qs h g = subst (λ x. HoldAll x b qs n d) (sym h.0) (subst (λ x. HoldAll m x qs n d) (sym h.1) g)
hold_append k m n b c d (p ∷ ps) qs h g = (h.0, h.1, h.2, hold_append h.0 m n h.1 c d ps qs h.3 g)

unit_from : (k next after : Known) (held : Block) (a : Assertion) (ps : List Piece) (claim : Claim) → HoldAll k no_block ps next held
    → Claims next held claim a → with_assertion next a ≡ after → Declares k (unit_of ps claim) after
unit_from k next after held a [] claim h c e = (
  a,
  subst (λ x. Claims x no_block claim a) (sym h.0)
      (subst (λ x. Claims next x claim a) (sym h.1) c),
  ap (λ x. with_assertion x a) h.0 ∙ e,
)
unit_from k next after held a (p ∷ ps) claim h c e = (next, held, a, h, c, e)

made_expressions : (label : Word) (n : ℕ) (es : List (List Symbol)) → expressions (made label n es) ≡ es
unfolding made
made_expressions label n [] = refl
made_expressions label n (e ∷ es) = ap (λ x. e ∷ x) (made_expressions label (suc n) es)

made_cons : (label : Word) (n : ℕ) (e : List Symbol) (es : List (List Symbol))
    → made label n (e ∷ es) ≡ record { label = hypothesis_label label (suc n); expression = e } ∷ made label (suc n) es
unfolding made
made_cons label n e es = refl

made_none : (label : Word) (n : ℕ) → made label n [] ≡ []
unfolding made
made_none label n = refl

module _ (t : Tables) (s : AreSound t) where
  -- the prelude, these assertions, and labels of hypotheses
  abbrev pub k3 : Bool → List Assertion → List Word → Known
  k3 closed xs hs = record { tables = t; units = record { assertions = xs; hypothesis_labels = hs; prelude_closed = closed } }

  -- ---- $d

  pairs_hold : (k : Known) (front rest : List (ℕ × ℕ)) → k.tables ≡ t → AllByRecursion (IsPairOf (length t.floats)) rest
      → AreAscending (front ++ rest) → length (front ++ rest) ≤ 65535
      → HoldAll k (record { pairs = front; hyps = [] }) (distinct_pieces t rest) k (record { pairs = front ++ rest; hyps = [] })
  pairs_hold k front [] same h a fit = (refl, ap (λ x. record { pairs = x; hyps = [] }) (sym (append-nil front)))
  pairs_hold k front (p ∷ rest) same h a fit =
      let more : (front ++ p ∷ []) ++ rest ≡ front ++ p ∷ rest = append_assoc front (p ∷ []) rest in (
        k,
        record { pairs = front ++ p ∷ []; hyps = [] },
        (
          refl,
          subst (λ x. Restricts x (record { pairs = front; hyps = [] }) [] (symbol_word t (Var p.0) ∷ symbol_word t (Var p.1) ∷ [])
              (record { pairs = front ++ p ∷ []; hyps = [] })) (sym same) (restricts_again t s front p rest [] h.0 a fit),
        ),
        subst (λ x. HoldAll k (record { pairs = front ++ p ∷ []; hyps = [] }) (distinct_pieces t rest) k (record { pairs = x; hyps = [] }))
            more
            (pairs_hold k (front ++ p ∷ []) rest same h.1 (subst AreAscending (sym more) a)
            (subst (λ (x : List (ℕ × ℕ)). length x ≤ 65535) (sym more) fit)),
      )

  -- ---- $e

  module _ (closed : Bool) (front : List Assertion) (label : Word) (p : IsPlainLabel label (is_some (meaning t label)))
      (clear : list_any (λ l. clash l label) (labels_of front) ≡ false) where
    new_number : (n : ℕ) (hs : List Word) → n < 1000 → AllByRecursion (IsEarlier (labels_of front) label n) hs
        → is_used (k3 closed front hs) (hypothesis_label label (suc n)) ≡ false
    new_number n hs lt old =
        let w = hypothesis_label label (suc n) in
        not_used (k3 closed front hs) w (record {
          not_named = number_not_named t s label (suc n) p.some p.label (omega arith) (omega arith);
          not_label = no_label (labels_of front) label (suc n) p.some (omega arith) (omega arith) clear;
          not_hypothesis = none_of (IsEarlier (labels_of front) label n) w hs
              (λ v h. not_earlier (labels_of front) label n v p.some lt h) old;
        })

    number_pass : (n : ℕ) (hs : List Word) (b : Block) → n ≡ length b.hyps → n < 1000
        → AllByRecursion (IsEarlier (labels_of front) label n) hs
        → Pass (hypothesis_label_tests (k3 closed front hs) b (hypothesis_label label (suc n)))
    number_pass n hs b e lt old =
        let w = hypothesis_label label (suc n) in
        let k = k3 closed front hs in
        let tests = hypothesis_label_tests k b w in
        none_cond (ltb 260 (length w)) BadLabel (first_fault (drop 1 tests))
        (le-ltb 260 (length w) (number_short label (suc n) p.short (omega arith)))
        (none_cond (is_used k w) RepeatedLabel (first_fault (drop 2 tests)) (new_number n hs lt old)
        (none_cond (leb 1000 (length b.hyps)) TooLong None (lt-leb 1000 (length b.hyps) (omega arith)) refl))

    -- the labels known behind the hypotheses
    record HypothesesHold (hs : List Word) (b : Block) (n : ℕ) (es : List (List Symbol)) : Type 0 where
      behind : List Word
      numbered : AllByRecursion (IsNumbered (labels_of front ++ label ∷ [])) behind
      hold : HoldAll (k3 closed front hs) b (hypothesis_pieces t label n es) (k3 closed front behind)
          (record { pairs = b.pairs; hyps = b.hyps ++ made label n es })

    hypotheses_hold : (hs : List Word) (b : Block) (n : ℕ) (es : List (List Symbol)) → n ≡ length b.hyps → n + length es ≤ 1000
        → AllByRecursion (IsEarlier (labels_of front) label n) hs → AllByRecursion (IsExpression t) es → HypothesesHold hs b n es
    hypotheses_hold hs b n [] e fit old h = record {
      behind = hs;
      numbered = all_weaker (IsEarlier (labels_of front) label n) (IsNumbered (labels_of front ++ label ∷ [])) hs (λ w x. x.numbered) old;
      hold = (refl, ap (λ x. record { pairs = b.pairs; hyps = x }) (sym (ap (λ x. b.hyps ++ x) (made_none label n) ∙ append-nil b.hyps)));
    }
    hypotheses_hold hs b n (x ∷ es) e fit old h =
        let w = hypothesis_label label (suc n) in
        let new : Hypothesis = record { label = w; expression = x } in
        let small : suc n < 2 ^ 64 = omega arith in
        let older = all_weaker (IsEarlier (labels_of front) label n) (IsEarlier (labels_of front) label (suc n)) hs
        (still_earlier (labels_of front) label n) old in
        let now = all_push (IsEarlier (labels_of front) label (suc n)) hs w older (newest (labels_of front) label n p.some (omega arith)) in
        let rest = hypotheses_hold (hs ++ w ∷ []) (with_hypothesis b w x) (suc n) es (omega (arith, length-append b.hyps (new ∷ [])))
        (omega arith) now h.1 in
        let all : (b.hyps ++ new ∷ []) ++ made label (suc n) es ≡ b.hyps ++ made label n (x ∷ es) =
        append_assoc b.hyps (new ∷ []) (made label (suc n) es) ∙ ap (λ y. b.hyps ++ y) (sym (made_cons label n x es)) in
        record {
          behind = rest.behind;
          numbered = rest.numbered;
          hold = (
            k3 closed front (hs ++ w ∷ []),
            with_hypothesis b w x,
            (
              number_label label (suc n) p.label small,
              number_pass n hs b e (omega arith) old,
              some_words t s x h.0,
              (x, reads_again t s x h.0, refl, refl),
            ),
            subst (λ y. HoldAll (k3 closed front (hs ++ w ∷ [])) (with_hypothesis b w x) (hypothesis_pieces t label (suc n) es)
                (k3 closed front rest.behind) (record { pairs = b.pairs; hyps = y })) all rest.hold,
          );
        }

  -- ---- $a and $p

  -- what a block holds before a unit
  abbrev held : Assertion → Block
  held a = record { pairs = a.pairs; hyps = made a.label 0 a.hyps }

  abbrev unit_with : Word → List (ℕ × ℕ) → List Symbol → Kind → List (List Symbol) → List Step → Assertion
  unit_with w ps e kind hs p = record { label = w; kind = kind; pairs = ps; hyps = hs; statement = e; proof = p }

  same_unit : (w : Word) (k l : Kind) (ps : List (ℕ × ℕ)) (hs gs : List (List Symbol)) (e : List Symbol) (p q : List Step) → l ≡ k → gs ≡ hs
      → q ≡ p → unit_with w ps e l gs q ≡ unit_with w ps e k hs p
  same_unit w k l ps hs gs e p q i j m = ap (λ x. unit_with w ps e x gs q) i ∙ ap (λ x. unit_with w ps e k x q) j
      ∙ ap (λ x. unit_with w ps e k hs x) m

  claim_of_unit : (k : Known) (a : Assertion) (kind : Kind) → k.tables ≡ t → IsUnit t a → IsPlainLabel a.label (is_some (meaning t a.label))
      → Pass (assertion_label_tests k a.label) → a.kind ≡ kind
      → Claims k (held a) (claim_of_kind kind a.label (map (symbol_word t) a.statement) (map (step_word t a.label) a.proof)) a
  claim_of_unit k a Axiom same u p pass e =
      let x = u.fits.statement in (
        p.label,
        pass,
        some_words t s a.statement x,
        (
          a.statement,
          subst (λ y. ReadsAfter y [] (map (symbol_word t) a.statement) a.statement) (sym same) (reads_again t s a.statement x),
          same_unit a.label a.kind Axiom a.pairs a.hyps (expressions (made a.label 0 a.hyps)) a.statement a.proof [] (sym e)
              (made_expressions a.label 0 a.hyps) (sym (u.fits.no_axiom_proof e)),
        ),
      )
  claim_of_unit k a Theorem same u p pass e =
      let x = u.fits.statement in
      let hyps = made a.label 0 a.hyps in
      let few : length a.hyps ≤ 1000 = u.fits.few_hyps in
      let found = λ (n : ℕ) (lt : n < length a.hyps). made_named a.label 0 n n a.hyps p.some (omega arith) lt (omega arith) in
      let dotted = made_dotted a.label 0 a.hyps p.some (omega arith) in
      let steps = steps_again t s a.label p.some p.label hyps (length a.hyps) few dotted found [] a.proof
      (recursion_from_All (IsNameable t (length a.hyps)) a.proof u.steps)
      (recursion_from_All (CitesApart a.label) a.proof u.fits.cites_apart) u.fits.few_steps in (
        p.label,
        pass,
        some_words t s a.statement x,
        some_map a.proof (u.some_steps e),
        (
          a.statement,
          a.proof,
          subst (λ y. ReadsAfter y [] (map (symbol_word t) a.statement) a.statement) (sym same) (reads_again t s a.statement x),
          subst (λ y. StepsAfter y a.label hyps [] (map (step_word t a.label) a.proof) a.proof) (sym same) steps,
          same_unit a.label a.kind Theorem a.pairs a.hyps (expressions hyps) a.statement a.proof a.proof (sym e)
              (made_expressions a.label 0 a.hyps) refl,
        ),
      )
    where
      some_map : (steps : List Step) → steps ≢ [] → map (step_word t a.label) steps ≢ []
      some_map [] h = absurd (h refl)
      some_map (x ∷ steps) h = λ n. absurd cc

  -- ---- units

  -- the labels known behind a unit
  pub record UnitDeclares (closed : Bool) (front : List Assertion) (hs : List Word) (a : Assertion) : Type 0 where
    pub behind : List Word
    pub numbered : AllByRecursion (IsNumbered (labels_of (front ++ a ∷ []))) behind
    pub declares : Declares (k3 closed front hs) (unit_statement t a) (k3 true (front ++ a ∷ []) behind)

  pub unit_declares : (closed : Bool) (front : List Assertion) (hs : List Word) (a : Assertion) → IsUnit t a
      → IsTrue (is_lawful_label t a.label) → list_any (λ l. clash l a.label) (labels_of front) ≡ false
      → list_any (bytes_eq a.label) (labels_of front) ≡ false → length front < 4096
      → AllByRecursion (IsNumbered (labels_of front)) hs → UnitDeclares closed front hs a
  unit_declares closed front hs a u lawful clear new room old =
      let k = k3 closed front hs in
      let p = plain_label a.label (is_some (meaning t a.label)) lawful in
      let few : length a.hyps ≤ 1000 = u.fits.few_hyps in
      let first = pairs_hold k [] a.pairs refl (recursion_from_All (IsPairOf (length t.floats)) a.pairs u.fits.pairs_within)
      u.fits.pairs_ascend u.fits.few_pairs in
      let earlier_all = all_weaker (IsNumbered (labels_of front)) (IsEarlier (labels_of front) a.label 0) hs
      (λ w x. earlier (labels_of front) a.label w new x) old in
      let second = hypotheses_hold closed front a.label p clear hs (record { pairs = a.pairs; hyps = [] }) 0 a.hyps refl
      (omega arith) earlier_all (recursion_from_All (IsExpression t) a.hyps u.fits.hyps) in
      let next = k3 closed front second.behind in
      let labels : labels_of (front ++ a ∷ []) ≡ labels_of front ++ a.label ∷ [] = map-append (λ x. x.label) front (a ∷ []) in
      let number = second.numbered in
      let absent : list_any (bytes_eq a.label) second.behind ≡ false =
      none_of (IsNumbered (labels_of front ++ a.label ∷ [])) a.label second.behind (not_numbered (labels_of front) a.label clear) number in
      let unused = not_used next a.label (record { not_named = p.new; not_label = new; not_hypothesis = absent }) in
      let apart : clashes front a.label ≡ false = sym (any-map (λ l. clash l a.label) (λ x. x.label) front) ∙ clear in
      let pass : Pass (assertion_label_tests next a.label) =
      none_cond _ _ _ (le-ltb 255 (length a.label) p.short)
      (none_cond _ _ _ unused (none_cond _ _ _ apart (none_cond _ _ _ (lt-leb 4096 (length front) room) refl))) in
      record {
        behind = second.behind;
        numbered = subst (λ ls. AllByRecursion (IsNumbered ls) second.behind) (sym labels) number;
        declares = unit_from k next (k3 true (front ++ a ∷ []) second.behind) (held a) a _ (claim_of t a)
            (hold_append k k next no_block (record { pairs = a.pairs; hyps = [] }) (held a) (distinct_pieces t a.pairs)
            (hypothesis_pieces t a.label 0 a.hyps) first second.hold)
            (claim_of_unit next a a.kind refl u p pass refl) refl;
      }

  -- the assertions known, and nothing else fixed
  pub record UnitsDeclare (closed : Bool) (front : List Assertion) (hs : List Word) (rest : List Assertion) : Type 0 where
    pub known : Known
    pub declares : DeclareAll (k3 closed front hs) (map (unit_statement t) rest) known
    pub whole : database_of known ≡ record { prelude = t; assertions = front ++ rest }

  pub units_declare : (closed : Bool) (front : List Assertion) (hs : List Word) (rest : List Assertion) → AllByRecursion (IsUnit t) rest
      → AllByRecursion (λ a. IsTrue (is_lawful_label t a.label)) rest → ClashNowhere (labels_of (front ++ rest))
      → Distinct bytes_eq (labels_of (front ++ rest)) → length (front ++ rest) ≤ 4096 → AllByRecursion (IsNumbered (labels_of front)) hs
      → UnitsDeclare closed front hs rest
  units_declare closed front hs [] u l apart d fit old = record {
    known = k3 closed front hs;
    declares = refl;
    whole = ap (λ x. record { prelude = t; assertions = x }) (sym (append-nil front));
  }
  units_declare closed front hs (a ∷ rest) u l apart d fit old =
      let all_labels : labels_of (front ++ a ∷ rest) ≡ labels_of front ++ a.label ∷ labels_of rest =
      map-append (λ x. x.label) front (a ∷ rest) in
      let new = distinct_front bytes_eq bytes_eq-sym (labels_of front) (labels_of rest) a.label (subst (Distinct bytes_eq) all_labels d) in
      let clear = apart_front (labels_of front) (labels_of rest) a.label (subst ClashNowhere all_labels apart) in
      let one = unit_declares closed front hs a u.0 l.0 clear new (omega (arith, length-append front (a ∷ rest))) old in
      let more : (front ++ a ∷ []) ++ rest ≡ front ++ a ∷ rest = append_assoc front (a ∷ []) rest in
      let all = units_declare true (front ++ a ∷ []) one.behind rest u.1 l.1
      (subst (λ xs. ClashNowhere (labels_of xs)) (sym more) apart)
      (subst (λ xs. Distinct bytes_eq (labels_of xs)) (sym more) d)
      (subst (λ (x : List Assertion). length x ≤ 4096) (sym more) fit) one.numbered in
      record {
        known = all.known;
        declares = (k3 true (front ++ a ∷ []) one.behind, one.declares, all.declares);
        whole =
            all.whole ∙ ap (λ x. record { prelude = t; assertions = x }) more;
      }
