-- What stands in the middle of statements: the tests that a place has behind it stay passed.
use Rattle.std.proofs.Common.{◌≡◌, Bool, true, false, cond, List, [], ◌∷◌, ◌++◌, Option, Some, None, Result, Ok, Err}
use Rattle.std.proofs.Common.{refl, sym, ap, subst, append_assoc, arith, length}
use Rattle.std.specs.Prelude.{is_none, nat_le, IfOk, Bool}
use Rattle.std.specs.Str.{bytes_eq}
use Rattle.std.specs.Prelude.{codes}
use Rattle.std.proofs.lemmas.Bool.{and_parts, and_from, le-leb}
use Rattle.std.proofs.lemmas.List.{append-nil}
use Rattle.mmtext.specs.declared.fault.FaultKind.{FaultKind}
use Rattle.mmtext.specs.declared.fault.FaultKind.TheVariants.{BadToken}
use Rattle.mmtext.specs.declared.fault.Stop.{Stop}
use Rattle.mmtext.specs.declared.mark.Mark.{Mark}
use Rattle.mmtext.specs.declared.mark.Mark.TheVariants as mark
use Rattle.mmtext.specs.Words.{Word, is_label}
use Rattle.mmtext.specs.Text.{Token, mark_of}
use Rattle.mmtext.specs.Languages.{fault}
use Rattle.mmtext.proofs.Turns.{OnPlace}
use Rattle.mmsyntax.specs.Rows.{Tests, first_fault}
use Rattle.source.specs.Statements.{Proof, normal, compressed, proved}
use Rattle.source.specs.Scopes.{Scope, Stand, closed}
use Rattle.source.specs.Tests.{label_tests, constant_tests, variable_tests, type_tests, float_tests, distinct_tests, symbol_tests}
use Rattle.source.specs.Tests.{step_tests, cited_tests, letter_tests, a_constant, a_variable, is_whole, passes, all_pass}
use Rattle.source.specs.Tests.{is_new_label}
use Rattle.source.specs.Faults.{Place, at_start, after_label, in_constants, in_variables, in_distinct, float_type, float_variable}
use Rattle.source.specs.Faults.{float_end, in_hypothesis, in_axiom, in_theorem, in_steps, in_labels, in_letters, Position, Next, to, ends}
use Rattle.source.specs.Faults.{ends_proof, faulted, tested, closes, start_row, keyword_row, declares, constant_row, variable_row}
use Rattle.source.specs.Faults.{distinct_row, float_end_row, hypothesis_row, axiom_row, theorem_row, next_step, proof_row}
use Rattle.source.specs.Faults.{labels_row, letters_row, in_place, row}
use Rattle.sourcereader.specs.declared.place.Place.{Place as CodePlace}
use Rattle.sourcereader.specs.Standing.{has_begun, is_stated, HasPassed, IsCounted, IsReadySource}
use Rattle.sourcereader.specs.Views.{Leads}

-- ---- what a row keeps

ok_cond : (Q : Position → Type 0) (b : Bool) (x y : Next) → (b ≡ true → OnPlace Q x) → OnPlace Q y → OnPlace Q (cond b x y)
ok_cond Q true x y p q = p refl
ok_cond Q false x y p q = q

ok_faulted : (Q : Position → Type 0) (t : Token) (o : Option FaultKind) (next : Next) → (o ≡ None → OnPlace Q next)
    → OnPlace Q (faulted t o next)
ok_faulted Q t (Some kind) next h = tt
ok_faulted Q t None next h = h refl

ok_tested : (Q : Position → Type 0) (t : Token) (ts : Tests) (next : Next) → (passes ts ≡ true → OnPlace Q next)
    → OnPlace Q (tested t ts next)
ok_tested Q t ts next h = ok_faulted Q t (first_fault ts) next (λ e. h (ap is_none e))

-- a token at which a test fails
pub tested_fails : (t : Token) (ts : Tests) (next : Next) (kind : FaultKind) → first_fault ts ≡ Some kind → tested t ts next ≡ fault t kind
tested_fails t ts next kind h = ap (λ o. faulted t o next) h

-- a token whose tests pass
pub tested_passes : (t : Token) (ts : Tests) (next : Next) → first_fault ts ≡ None → tested t ts next ≡ next
tested_passes t ts next h = ap (λ o. faulted t o next) h

-- ---- tests of words

-- one more word that passes behind others
pub one_more_passes : (tests : List Word → Word → Tests) (front ws : List Word) (w : Word) → all_pass tests front ws ≡ true
    → passes (tests (front ++ ws) w) ≡ true → all_pass tests front (ws ++ w ∷ []) ≡ true
one_more_passes tests front [] w h p = and_from _ true (subst (λ f. passes (tests f w) ≡ true) (append-nil front) p) refl
one_more_passes tests front (v ∷ ws) w h p =
    let both = and_parts (passes (tests front v)) (all_pass tests (front ++ v ∷ []) ws) h in
    and_from _ _ both.0
    (one_more_passes tests (front ++ v ∷ []) ws w both.1
    (subst (λ f. passes (tests f w) ≡ true) (sym (append_assoc front (v ∷ []) ws)) p))

-- ---- what stands

abbrev pub StandsAt : Position → Type 0
StandsAt p = HasPassed p.stand.scope p.place

abbrev pub OkStands : Next → Type 0
OkStands r = OnPlace StandsAt r

closes_stands : (t : Token) (o : Option Stand) → OkStands (closes t o)
closes_stands t None = tt
closes_stands t (Some s) = refl

start_stands : (p : Position) (t : Token) (m : Mark) → OkStands (start_row p t m)
start_stands p t mark.Constants = ok_cond StandsAt p.stand.scope.outermost (to p (in_constants false)) (fault t BadToken) (λ h. h) tt
start_stands p t mark.Variables = refl
start_stands p t mark.Disjoint = refl
start_stands p t mark.Opening = refl
start_stands p t mark.Closing = closes_stands t (closed p.stand)
start_stands p t mark.Plain = ok_cond StandsAt (is_label t.text) (to p (after_label t)) (fault t BadToken) (λ h. h) tt
start_stands p t _ = tt

-- a label that passed its tests begins a statement
begun : (p : Position) (label : Token) (place : Place) → is_label label.text ≡ true
    → (is_new_label p.stand.scope label.text ≡ true → HasPassed p.stand.scope place)
    → OkStands (tested label (label_tests p.stand.scope label.text) (to p place))
begun p label place h next =
    ok_tested StandsAt label (label_tests p.stand.scope label.text) (to p place) (λ e. next (and_from _ _ h e))

keyword_stands : (p : Position) (label t : Token) (m : Mark) → is_label label.text ≡ true → OkStands (keyword_row p label t m)
keyword_stands p label t mark.Floating h = begun p label (float_type label.text) h (λ e. e)
keyword_stands p label t mark.Essential h = begun p label (in_hypothesis label.text []) h (λ e. and_from _ true e refl)
keyword_stands p label t mark.Axiom h = begun p label (in_axiom label.text []) h (λ e. and_from _ true e refl)
keyword_stands p label t mark.Provable h = begun p label (in_theorem label.text []) h (λ e. and_from _ true e refl)
keyword_stands p label t _ h = tt

constant_stands : (p : Position) (b : Bool) (t : Token) (m : Mark) → p.stand.scope.outermost ≡ true → OkStands (constant_row p b t m)
constant_stands p true t mark.End h = refl
constant_stands p b t m h =
    ok_tested StandsAt t (constant_tests p.stand.scope t.text) (declares p (a_constant t.text) (in_constants true)) (λ e. h)

variable_stands : (p : Position) (b : Bool) (t : Token) (m : Mark) → OkStands (variable_row p b t m)
variable_stands p true t mark.End = refl
variable_stands p b t m =
    ok_tested StandsAt t (variable_tests p.stand.scope t.text) (declares p (a_variable t.text) (in_variables true)) (λ e. refl)

distinct_stands : (p : Position) (vs : List Word) (t : Token) (m : Mark) → HasPassed p.stand.scope (in_distinct vs)
    → OkStands (distinct_row p vs t m)
distinct_stands p (v ∷ w ∷ vs) t mark.End h = refl
distinct_stands p vs t m h =
    ok_tested StandsAt t (distinct_tests p.stand.scope vs t.text) (to p (in_distinct (vs ++ t.text ∷ [])))
    (λ e. one_more_passes (distinct_tests p.stand.scope) [] vs t.text h e)

float_end_stands : (p : Position) (label c v : Word) (t : Token) (m : Mark) → OkStands (float_end_row p label c v t m)
float_end_stands p label c v t mark.End = refl
float_end_stands p label c v t _ = tt

-- one more symbol that passed
symbol_begun : (s : Scope) (label : Word) (e : List Word) (w : Word) → has_begun s label e ≡ true → passes (symbol_tests s e w) ≡ true
    → has_begun s label (e ++ w ∷ []) ≡ true
symbol_begun s label e w h p =
    let both = and_parts (is_new_label s label) (all_pass (symbol_tests s) [] e) h in
    and_from _ _ both.0 (one_more_passes (symbol_tests s) [] e w both.1 p)

hypothesis_stands : (p : Position) (label : Word) (e : List Word) (t : Token) (m : Mark) → has_begun p.stand.scope label e ≡ true
    → OkStands (hypothesis_row p label e t m)
hypothesis_stands p label (c ∷ e) t mark.End h = refl
hypothesis_stands p label e t m h =
    ok_tested StandsAt t (symbol_tests p.stand.scope e t.text) (to p (in_hypothesis label (e ++ t.text ∷ [])))
    (λ g. symbol_begun p.stand.scope label e t.text h g)

axiom_stands : (p : Position) (label : Word) (e : List Word) (t : Token) (m : Mark) → has_begun p.stand.scope label e ≡ true
    → OkStands (axiom_row p label e t m)
axiom_stands p label (c ∷ e) t mark.End h = refl
axiom_stands p label e t m h =
    ok_tested StandsAt t (symbol_tests p.stand.scope e t.text) (to p (in_axiom label (e ++ t.text ∷ [])))
    (λ g. symbol_begun p.stand.scope label e t.text h g)

some_symbol : (c : Word) (e : List Word) → nat_le 1 (length (c ∷ e)) ≡ true
some_symbol c e = le-leb 1 (length (c ∷ e)) (omega arith)

theorem_stands : (p : Position) (label : Word) (e : List Word) (t : Token) (m : Mark) → has_begun p.stand.scope label e ≡ true
    → OkStands (theorem_row p label e t m)
theorem_stands p label (c ∷ e) t mark.Proof h =
    let both = and_parts (is_new_label p.stand.scope label) (all_pass (symbol_tests p.stand.scope) [] (c ∷ e)) h in
    and_from _ _ both.0 (and_from (nat_le 1 (length (c ∷ e))) _ (some_symbol c e) both.1)
theorem_stands p label e t m h =
    ok_tested StandsAt t (symbol_tests p.stand.scope e t.text) (to p (in_theorem label (e ++ t.text ∷ [])))
    (λ g. symbol_begun p.stand.scope label e t.text h g)

-- ---- proofs

ends_proof_stands : (p : Position) (label : Word) (e : List Word) (proof : Proof) (t : Token) → OkStands (ends_proof p label e proof t)
ends_proof_stands p label e proof t =
    ok_cond StandsAt (is_whole p.stand.scope e proof) (ends p (proved label e proof)) (fault t BadToken) (λ h. refl) tt

next_step_stands : (p : Position) (label : Word) (e ws : List Word) (t : Token) → is_stated p.stand.scope label e ≡ true
    → OkStands (next_step p label e ws t)
next_step_stands p label e ws t h =
    ok_tested StandsAt t (step_tests p.stand.scope ws t.text) (to p (in_steps label e (ws ++ t.text ∷ []))) (λ g. h)

proof_stands : (p : Position) (label : Word) (e ws : List Word) (t : Token) (m : Mark) → is_stated p.stand.scope label e ≡ true
    → OkStands (proof_row p label e ws t m)
proof_stands p label e [] t m h =
    ok_cond StandsAt (bytes_eq t.text (codes "(")) (to p (in_labels label e [])) (next_step p label e [] t) (λ g. h)
    (next_step_stands p label e [] t h)
proof_stands p label e (w ∷ ws) t mark.End h = ends_proof_stands p label e (normal (w ∷ ws)) t
proof_stands p label e (w ∷ ws) t m h = next_step_stands p label e (w ∷ ws) t h

labels_stands : (p : Position) (label : Word) (e ws : List Word) (t : Token) → is_stated p.stand.scope label e ≡ true
    → OkStands (labels_row p label e ws t)
labels_stands p label e ws t h =
    let next = to p (in_labels label e (ws ++ t.text ∷ [])) in
    let ts = cited_tests p.stand.scope e t.text in
    ok_cond StandsAt (bytes_eq t.text (codes ")")) (to p (in_letters label e ws [])) (tested t ts next) (λ g. h)
    (ok_tested StandsAt t ts next (λ g. h))

letters_stands : (p : Position) (label : Word) (e ws ls : List Word) (t : Token) (m : Mark) → is_stated p.stand.scope label e ≡ true
    → OkStands (letters_row p label e ws ls t m)
letters_stands p label e ws (l ∷ ls) t mark.End h = ends_proof_stands p label e (compressed ws (l ∷ ls)) t
letters_stands p label e ws ls t m h =
    ok_tested StandsAt t (letter_tests p.stand.scope e ws ls t.text) (to p (in_letters label e ws (ls ++ t.text ∷ []))) (λ g. h)

-- ---- all places

place_stands : (p : Position) (place : Place) (t : Token) (m : Mark) → HasPassed p.stand.scope place → OkStands (in_place p place t m)
place_stands p at_start t m h = start_stands p t m
place_stands p (after_label label) t m h = keyword_stands p label t m h
place_stands p (in_constants some) t m h = constant_stands p some t m h
place_stands p (in_variables some) t m h = variable_stands p some t m
place_stands p (in_distinct vs) t m h = distinct_stands p vs t m h
place_stands p (float_type label) t m h =
    ok_tested StandsAt t (type_tests p.stand.scope t.text) (to p (float_variable label t.text)) (λ e. and_from _ _ h e)
place_stands p (float_variable label c) t m h =
    ok_tested StandsAt t (float_tests p.stand.scope t.text) (to p (float_end label c t.text)) (λ e. and_from _ _ h e)
place_stands p (float_end label c v) t m h = float_end_stands p label c v t m
place_stands p (in_hypothesis label e) t m h = hypothesis_stands p label e t m h
place_stands p (in_axiom label e) t m h = axiom_stands p label e t m h
place_stands p (in_theorem label e) t m h = theorem_stands p label e t m h
place_stands p (in_steps label e ws) t m h = proof_stands p label e ws t m h
place_stands p (in_labels label e ws) t m h = labels_stands p label e ws t h
place_stands p (in_letters label e ws ls) t m h = letters_stands p label e ws ls t m h

pub row_stands : (p : Position) (t : Token) → HasPassed p.stand.scope p.place → OkStands (row p t)
unfolding row
row_stands p t h = place_stands p p.place t (mark_of t.text) h

-- the row of a place, by the mark of the token
pub row_at : (p : Position) (t : Token) (m : Mark) → m ≡ mark_of t.text → row p t ≡ in_place p p.place t m
unfolding row
row_at p t m is = ap (in_place p p.place t) (sym is)

-- what is so at a place is so where its row leads
pub ready_on : (here : Position) (t : Token) (m : Mark) (s : Stand) (marks : List Bool) (r : Result CodePlace Stop) → StandsAt here
    → Leads s r (in_place here here.place t m) → IfOk r (λ q. IsCounted s.scope marks q) → IfOk r (λ q. IsReadySource s marks q)
ready_on here t m s marks (Ok q) h leads counted =
    record { stands = subst OkStands leads (place_stands here here.place t m h); counted = counted }
ready_on here t m s marks (Err e) h leads counted = tt
