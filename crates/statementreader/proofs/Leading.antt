-- What is spelled is read: expressions, proofs and $d, whose words pass their tests, lead through the rows.
use Rattle.std.proofs.Common.{◌≡◌, ◌≢◌, ℕ, ◌≤◌, Bool, true, false, List, [], ◌∷◌, ◌++◌, length, Result, Ok, refl, sym, ap, subst, ◌∙◌}
use Rattle.std.proofs.Common.{◌⊎◌, inl, inr, arith}
use Rattle.std.specs.Prelude.{codes, IsTrue}
use Rattle.std.proofs.lemmas.Bool.{cond-true}
use Rattle.mmsyntax.specs.declared.statement.Symbol.{Symbol}
use Rattle.mmsyntax.specs.declared.statement.Step.{Step}
use Rattle.mmtext.specs.declared.fault.FaultKind.TheVariants.{BadToken}
use Rattle.mmtext.specs.declared.fault.TextFault.{TextFault}
use Rattle.mmtext.specs.declared.mark.Mark.{Mark}
use Rattle.mmtext.specs.declared.mark.Mark.TheVariants as mark
use Rattle.mmtext.specs.Words.{Word, is_label}
use Rattle.mmtext.specs.Text.{Token, mark_of}
use Rattle.mmtext.specs.Comments.{words_of}
use Rattle.mmtext.specs.Languages.{Language, fault}
use Rattle.mmsyntax.specs.Rows.{Known, Tests, Pass, symbol_tests, symbol_of, with_constant, with_variable}
use Rattle.mmsyntax.specs.Blocks.{Block, distinct_of, with_distinct}
use Rattle.mmsyntax.specs.Steps.{step_of}
use Rattle.mmsyntax.specs.Faults.{Scope, outside, inside, block_of, Place, at_start, after_label, in_constants, in_variables}
use Rattle.mmsyntax.specs.Faults.{in_distinct, in_proof, Position, at, faulted, tested, given, labelled}
use Rattle.mmsyntax.specs.Faults.{next_variable, next_symbol, next_step, in_place, row}
use Rattle.mmsyntax.specs.Grammar.{DeclaresConstants, DeclaresVariables, ReadsAfter, Restricts, StepsAfter}
use Rattle.walks.proofs.Walks.{walk, walk_step}
use Rattle.statementreader.proofs.Keywords.{mark_plain, label_plain, declared_plain, symbol_plain, distinct_plain, step_plain, end_mark}

-- ---- positions

abbrev pub there : Known → Place → Position
there k p = record { known = k; place = p }

-- between statements
abbrev pub home : Known → Position
home k = there k (at_start outside)

-- a place in the middle of a statement
abbrev pub IsInner : Place → Type 0
IsInner (at_start outside) = ⊥
IsInner _ = Unit {0}

-- at a position a language goes on as databases do
abbrev pub GoesOn : {A : Type 0} → Language Position A → Position → Type 0
GoesOn l p = (t : Token) (q : Position) → row p t ≡ Ok q → l.row p t ≡ Ok q

-- in the middle of statements a language goes on as databases do
abbrev pub GoesOnInside : {A : Type 0} → Language Position A → Type 0
GoesOnInside l = (k : Known) (p : Place) → IsInner p → GoesOn l (there k p)

-- the row of a word of which the mark is known
pub row_at : (k : Known) (p : Place) (t : Token) (m : Mark) (r : Result Position TextFault) → mark_of t.text ≡ m → in_place k p t m ≡ r
    → row (there k p) t ≡ r
unfolding row
row_at k p t m r e h = ap (in_place k p t) e ∙ h

pub passed : (t : Token) (ts : Tests) (next : Result Position TextFault) → Pass ts → tested t ts next ≡ next
passed t ts next h = ap (λ o. faulted t o next) h

-- ---- rows of words

constant_at : (k : Known) (some : Bool) (t : Token) → Pass (symbol_tests k (length k.tables.constants) t.text)
    → in_place k (in_constants some) t mark.Plain ≡ at (with_constant k t.text) (in_constants true)
constant_at k true t pass = ap (λ o. faulted t o (at (with_constant k t.text) (in_constants true))) pass
constant_at k false t pass = ap (λ o. faulted t o (at (with_constant k t.text) (in_constants true))) pass

constant_row_is : (k : Known) (some : Bool) (w : Word) (t : Token) → Pass (symbol_tests k (length k.tables.constants) w) → t.text ≡ w
    → row (there k (in_constants some)) t ≡ Ok (there (with_constant k w) (in_constants true))
constant_row_is k some w t pass e =
    let pass' = subst (λ x. Pass (symbol_tests k (length k.tables.constants) x)) (sym e) pass in
    row_at k (in_constants some) t mark.Plain _ (mark_plain t.text (declared_plain k (length k.tables.constants) t.text pass'))
    (constant_at k some t pass')
    ∙ ap (λ x. Ok (there (with_constant k x) (in_constants true))) e

variable_at : (k : Known) (some : Bool) (t : Token) → Pass (symbol_tests k (length k.tables.variables) t.text)
    → in_place k (in_variables some) t mark.Plain ≡ at (with_variable k t.text) (in_variables true)
variable_at k true t pass = ap (λ o. faulted t o (at (with_variable k t.text) (in_variables true))) pass
variable_at k false t pass = ap (λ o. faulted t o (at (with_variable k t.text) (in_variables true))) pass

variable_row_is : (k : Known) (some : Bool) (w : Word) (t : Token) → Pass (symbol_tests k (length k.tables.variables) w) → t.text ≡ w
    → row (there k (in_variables some)) t ≡ Ok (there (with_variable k w) (in_variables true))
variable_row_is k some w t pass e =
    let pass' = subst (λ x. Pass (symbol_tests k (length k.tables.variables) x)) (sym e) pass in
    row_at k (in_variables some) t mark.Plain _ (mark_plain t.text (declared_plain k (length k.tables.variables) t.text pass'))
    (variable_at k some t pass')
    ∙ ap (λ x. Ok (there (with_variable k x) (in_variables true))) e

distinct_at : (k : Known) (b : Block) (vs : List ℕ) (t : Token) → in_place k (in_distinct b vs) t mark.Plain ≡ next_variable k b vs t
distinct_at k b [] t = refl
distinct_at k b (i ∷ []) t = refl
distinct_at k b (i ∷ j ∷ vs) t = refl

distinct_ends : (k : Known) (b : Block) (vs : List ℕ) (t : Token) → 2 ≤ length vs → t.text ≡ codes "$."
    → row (there k (in_distinct b vs)) t ≡ Ok (there k (at_start (inside b)))
distinct_ends k b [] t le e = absurd (omega arith)
distinct_ends k b (i ∷ []) t le e = absurd (omega arith)
distinct_ends k b (i ∷ j ∷ vs) t le e = row_at k (in_distinct b (i ∷ j ∷ vs)) t mark.End _ (ap mark_of e ∙ end_mark) refl

step_at : (k : Known) (s : Scope) (label : Word) (e : List Symbol) (front : List Step) (t : Token)
    → in_place k (in_proof s label e front) t mark.Plain ≡ next_step k s label e front t
step_at k s label e [] t = refl
step_at k s label e (x ∷ front) t = refl

start_at : (k : Known) (s : Scope) (t : Token) → in_place k (at_start s) t mark.Plain ≡ labelled k s t
start_at k outside t = refl
start_at k (inside b) t = refl

pub label_row_is : (k : Known) (s : Scope) (t : Token) (w : Word) → IsTrue (is_label w) → t.text ≡ w
    → row (there k (at_start s)) t ≡ Ok (there k (after_label s t))
label_row_is k s t w h e =
    let is_l : is_label t.text ≡ true = ap is_label e ∙ h in
    row_at k (at_start s) t mark.Plain _ (mark_plain t.text (label_plain t.text is_l))
    (start_at k s t ∙ cond-true (is_label t.text) (at k (after_label s t)) (fault t BadToken) is_l)

pub some_more : {A : Type 0} (xs : List A) (x : A) → (xs ++ x ∷ []) ≢ []
some_more [] x h = absurd cc
some_more (y ∷ xs) x h = absurd cc

-- ---- walks over words

module _ {A : Type 0} (l : Language Position A) where
  -- one word, then the others
  pub takes : (p q : Position) (w : Word) (ws : List Word) (ts : List Token) (final : Result Position TextFault)
      → words_of ts ≡ w ∷ ws → GoesOn l p → ((t : Token) → t.text ≡ w → row p t ≡ Ok q)
      → ((rest : List Token) → words_of rest ≡ ws → walk l q rest ≡ final) → walk l p ts ≡ final
  takes p q w ws [] final h on is next = absurd cc
  takes p q w ws (t ∷ ts) final h on is next =
      let text_is : t.text ≡ w = cc in
      let rest_is : words_of ts ≡ ws = cc in
      walk_step l p q t ts (on t q (is t text_is)) ∙ next ts rest_is

  -- a word of which the token is kept
  pub keeps : (p : Position) (q : Token → Position) (w : Word) (ws : List Word) (ts : List Token) (final : Result Position TextFault)
      → words_of ts ≡ w ∷ ws → GoesOn l p → ((t : Token) → t.text ≡ w → row p t ≡ Ok (q t))
      → ((t : Token) (rest : List Token) → t.text ≡ w → words_of rest ≡ ws → walk l (q t) rest ≡ final) → walk l p ts ≡ final
  keeps p q w ws [] final h on is next = absurd cc
  keeps p q w ws (t ∷ ts) final h on is next =
      let text_is : t.text ≡ w = cc in
      let rest_is : words_of ts ≡ ws = cc in
      walk_step l p (q t) t ts (on t (q t) (is t text_is)) ∙ next t ts text_is rest_is

-- ---- lists of words

module _ {A : Type 0} (l : Language Position A) (on : GoesOnInside l) where
  -- the symbols of a $c and its end
  pub constants_lead : (k : Known) (ws : List Word) (after : Known) (some : Bool) (ts : List Token) (more : List Word)
      (final : Result Position TextFault) → DeclaresConstants k ws after
      → (some ≡ true) ⊎ (ws ≢ []) → words_of ts ≡ ws ++ codes "$." ∷ more
      → ((rest : List Token) → words_of rest ≡ more → walk l (home after) rest ≡ final) → walk l (there k (in_constants some)) ts ≡ final
  constants_lead k [] after false ts more final d n h next = elim n [ inl y ↦ absurd cc | inr f ↦ absurd (f refl) ]
  constants_lead k [] after true ts more final d n h next =
      takes l (there k (in_constants true)) (home k) (codes "$.") more ts final h (on k (in_constants true) tt)
      (λ t e. row_at k (in_constants true) t mark.End _ (ap mark_of e ∙ end_mark) refl)
      (λ rest o. ap (λ x. walk l (home x) rest) d ∙ next rest o)
  constants_lead k (w ∷ ws) after some ts more final d n h next =
      takes l (there k (in_constants some)) (there (with_constant k w) (in_constants true)) w (ws ++ codes "$." ∷ more) ts final h
      (on k (in_constants some) tt) (λ t e. constant_row_is k some w t d.0 e)
      (λ rest o. constants_lead (with_constant k w) ws after true rest more final d.1 (inl refl) o next)

  -- the symbols of a $v and its end
  pub variables_lead : (k : Known) (ws : List Word) (after : Known) (some : Bool) (ts : List Token) (more : List Word)
      (final : Result Position TextFault) → DeclaresVariables k ws after
      → (some ≡ true) ⊎ (ws ≢ []) → words_of ts ≡ ws ++ codes "$." ∷ more
      → ((rest : List Token) → words_of rest ≡ more → walk l (home after) rest ≡ final) → walk l (there k (in_variables some)) ts ≡ final
  variables_lead k [] after false ts more final d n h next = elim n [ inl y ↦ absurd cc | inr f ↦ absurd (f refl) ]
  variables_lead k [] after true ts more final d n h next =
      takes l (there k (in_variables true)) (home k) (codes "$.") more ts final h (on k (in_variables true) tt)
      (λ t e. row_at k (in_variables true) t mark.End _ (ap mark_of e ∙ end_mark) refl)
      (λ rest o. ap (λ x. walk l (home x) rest) d ∙ next rest o)
  variables_lead k (w ∷ ws) after some ts more final d n h next =
      takes l (there k (in_variables some)) (there (with_variable k w) (in_variables true)) w (ws ++ codes "$." ∷ more) ts final h
      (on k (in_variables some) tt) (λ t e. variable_row_is k some w t d.0 e)
      (λ rest o. variables_lead (with_variable k w) ws after true rest more final d.1 (inl refl) o next)

  -- the symbols of a $e, $a or $p, and the word that ends them
  pub symbols_lead : (k : Known) (place : List Symbol → Place) → ((e : List Symbol) → IsInner (place e))
      → ((e : List Symbol) (t : Token) → in_place k (place e) t mark.Plain ≡ next_symbol k e t place)
      → (stop : Word) (q : List Symbol → Position)
      → ((e : List Symbol) (t : Token) → e ≢ [] → t.text ≡ stop → row (there k (place e)) t ≡ Ok (q e))
      → (front : List Symbol) (ws : List Word) (e : List Symbol) (ts : List Token) (more : List Word) (final : Result Position TextFault)
      → ReadsAfter k.tables front ws e → (front ≢ []) ⊎ (ws ≢ []) → words_of ts ≡ ws ++ stop ∷ more
      → ((rest : List Token) → words_of rest ≡ more → walk l (q e) rest ≡ final) → walk l (there k (place front)) ts ≡ final
  symbols_lead k place inner plain stop q last front [] e ts more final d n h next =
      let nonempty : front ≢ [] = elim n [ inl y ↦ y | inr f ↦ absurd (f refl) ] in
      takes l (there k (place front)) (q front) stop more ts final h (on k (place front) (inner front))
      (λ t g. last front t nonempty g)
      (λ rest o. ap (λ x. walk l (q x) rest) d ∙ next rest o)
  symbols_lead k place inner plain stop q last front (w ∷ ws) e ts more final d n h next =
      takes l (there k (place front)) (there k (place (front ++ d.0 ∷ []))) w (ws ++ stop ∷ more) ts final h
      (on k (place front) (inner front))
      (λ t g.
      let read : symbol_of k.tables (length front) t.text ≡ Ok d.0 = ap (symbol_of k.tables (length front)) g ∙ d.1 in
      row_at k (place front) t mark.Plain _ (mark_plain t.text (symbol_plain k.tables (length front) t.text d.0 read))
      (plain front t ∙ ap (λ r. given t r (λ s. at k (place (front ++ s ∷ [])))) read))
      (λ rest o.
      symbols_lead k place inner plain stop q last (front ++ d.0 ∷ []) ws e rest more final d.2 (inl (some_more front d.0)) o next)

  -- the steps of a proof, and the word that ends them
  pub steps_lead : (k : Known) (s : Scope) (label : Word) (e : List Symbol) (q : List Step → Position)
      → ((steps : List Step) (t : Token) → steps ≢ [] → t.text ≡ codes "$." → row (there k (in_proof s label e steps)) t ≡ Ok (q steps))
      → (front : List Step) (ws : List Word) (steps : List Step) (ts : List Token) (more : List Word) (final : Result Position TextFault)
      → StepsAfter k.tables label (block_of s).hyps front ws steps → (front ≢ []) ⊎ (ws ≢ []) → words_of ts ≡ ws ++ codes "$." ∷ more
      → ((rest : List Token) → words_of rest ≡ more → walk l (q steps) rest ≡ final)
      → walk l (there k (in_proof s label e front)) ts ≡ final
  steps_lead k s label e q last front [] steps ts more final d n h next =
      let nonempty : front ≢ [] = elim n [ inl y ↦ y | inr f ↦ absurd (f refl) ] in
      takes l (there k (in_proof s label e front)) (q front) (codes "$.") more ts final h (on k (in_proof s label e front) tt)
      (λ t g. last front t nonempty g)
      (λ rest o. ap (λ x. walk l (q x) rest) d ∙ next rest o)
  steps_lead k s label e q last front (w ∷ ws) steps ts more final d n h next =
      takes l (there k (in_proof s label e front)) (there k (in_proof s label e (front ++ d.0 ∷ []))) w (ws ++ codes "$." ∷ more) ts
      final h (on k (in_proof s label e front) tt)
      (λ t g.
      let hyps = (block_of s).hyps in
      let read : step_of k.tables label hyps (length front) t.text ≡ Ok d.0 = ap (step_of k.tables label hyps (length front)) g ∙ d.1 in
      row_at k (in_proof s label e front) t mark.Plain _ (mark_plain t.text (step_plain k.tables label hyps (length front) t.text d.0 read))
      (step_at k s label e front t ∙ ap (λ r. given t r (λ x. at k (in_proof s label e (front ++ x ∷ [])))) read))
      (λ rest o. steps_lead k s label e q last (front ++ d.0 ∷ []) ws steps rest more final d.2 (inl (some_more front d.0)) o next)

  -- the variables of a $d and its end
  pub restricted_lead : (k : Known) (b : Block) (vs : List ℕ) (ws : List Word) (held : Block) (ts : List Token) (more : List Word)
      (final : Result Position TextFault) → Restricts k.tables b vs ws held → words_of ts ≡ ws ++ codes "$." ∷ more
      → ((rest : List Token) → words_of rest ≡ more → walk l (there k (at_start (inside held))) rest ≡ final)
      → walk l (there k (in_distinct b vs)) ts ≡ final
  restricted_lead k b vs [] held ts more final d h next =
      takes l (there k (in_distinct b vs)) (there k (at_start (inside b))) (codes "$.") more ts final h (on k (in_distinct b vs) tt)
      (λ t e. distinct_ends k b vs t d.0 e)
      (λ rest o. ap (λ x. walk l (there k (at_start (inside x))) rest) d.1 ∙ next rest o)
  restricted_lead k b vs (w ∷ ws) held ts more final d h next =
      takes l (there k (in_distinct b vs)) (there k (in_distinct (with_distinct b vs d.0) (vs ++ d.0 ∷ []))) w
      (ws ++ codes "$." ∷ more) ts final h (on k (in_distinct b vs) tt)
      (λ t e.
      let read : distinct_of k.tables vs b.pairs t.text ≡ Ok d.0 = ap (distinct_of k.tables vs b.pairs) e ∙ d.1 in
      row_at k (in_distinct b vs) t mark.Plain _ (mark_plain t.text (distinct_plain k.tables vs b.pairs t.text d.0 read))
      (distinct_at k b vs t ∙ ap (λ r. given t r (λ j. at k (in_distinct (with_distinct b vs j) (vs ++ j ∷ [])))) read))
      (λ rest o. restricted_lead k (with_distinct b vs d.0) (vs ++ d.0 ∷ []) ws held rest more final d.2 o next)
