-- What stands in the middle of statements, and that a single unit never comes to a $c, $v or $f.
use Rattle.std.proofs.Common.{◌≡◌, ℕ, ◌<◌, Bool, true, false, cond, List, [], ◌∷◌, ◌++◌, length, Option, Some, None, Result, Ok, Err}
use Rattle.std.proofs.Common.{refl, sym, ap, subst, ◌∙◌, arith, leb-false, length-append}
use Rattle.std.specs.Prelude.{is_some, nat_lt, nat_le, IfOk}
use mathlib.Core.Bool.{not}
use Rattle.std.proofs.lemmas.Bool.{cond-false, or_parts}
use Rattle.mmsyntax.specs.declared.statement.Symbol.{Symbol}
use Rattle.mmsyntax.specs.declared.statement.Step.{Step}
use Rattle.mmtext.specs.declared.fault.FaultKind.{FaultKind}
use Rattle.mmtext.specs.declared.fault.FaultKind.TheVariants.{OutOfProfile, BadToken, UnknownSymbol, RepeatedLabel, BadLabel, TooLong}
use Rattle.mmtext.specs.declared.fault.TextFault.{TextFault}
use Rattle.mmtext.specs.declared.mark.Mark.{Mark}
use Rattle.mmtext.specs.declared.mark.Mark.TheVariants as mark
use Rattle.statementreader.specs.Standing.{IsRoomy, SuitsPlace}
use Rattle.statementreader.specs.declared.place.Place.{Place as CodePlace}
use Rattle.statementreader.specs.declared.place.Place.TheVariants as code
use Rattle.statementreader.specs.declared.place.PreludePlace.TheVariants as prelude
use Rattle.mmtext.specs.Words.{Word, has_dollar, is_label}
use Rattle.mmtext.specs.Text.{Token, mark_of}
use Rattle.mmsyntax.specs.Tables.{Tables, meaning}
use Rattle.mmsyntax.specs.Rows.{Known, Units, in_prelude, is_used, first_fault, float_label_tests, assertion_label_tests}
use Rattle.mmsyntax.specs.Rows.{symbol_tests, symbol_of, type_of, variable_of, variable_named, with_constant, with_variable}
use Rattle.mmsyntax.specs.Rows.{with_assertion}
use Rattle.mmsyntax.specs.Blocks.{Block, hypothesis_label_tests, distinct_of, with_distinct, axiom_of, theorem_of}
use Rattle.mmsyntax.specs.Steps.{step_of}
use Rattle.mmtext.specs.Languages.{fault}
use Rattle.mmsyntax.specs.Faults.{Scope, outside, inside, block_of, Place, at_start, at_close, after_label, in_constants, in_variables}
use Rattle.mmsyntax.specs.Faults.{float_type, float_variable, float_end, in_distinct, in_hypothesis, in_axiom, in_theorem, in_proof}
use Rattle.mmsyntax.specs.Faults.{Position, at, faulted, tested, given, outermost_row, block_row, close_row, keyword_row, constant_row}
use Rattle.mmsyntax.specs.Faults.{variable_row, float_end_row, distinct_row, hypothesis_row, axiom_row, theorem_row, proof_row, behind}
use Rattle.mmsyntax.specs.Faults.{in_place, row, unit_at, unit_row}
use Rattle.mmtext.specs.declared.fault.Stop.{Stop}
use Rattle.mmunits.specs.Views.{known_of}
use Rattle.statementreader.specs.Views.{seen_place, IsUnitPlace, Leads}
use Rattle.mmtext.proofs.Turns.{OnPlace}
use Rattle.mmsyntax.proofs.Sound.{cond_none, if_ok, free_variable}
use Rattle.mmsyntax.proofs.Options.{none_is}

-- ---- what a row keeps

ok_cond : (Q : Position → Type 0) (b : Bool) (x y : Result Position TextFault) → OnPlace Q x → OnPlace Q y → OnPlace Q (cond b x y)
ok_cond Q true x y p q = p
ok_cond Q false x y p q = q

ok_faulted : (Q : Position → Type 0) (t : Token) (o : Option FaultKind) (next : Result Position TextFault) → (o ≡ None → OnPlace Q next)
    → OnPlace Q (faulted t o next)
ok_faulted Q t (Some kind) next h = tt
ok_faulted Q t None next h = h refl

ok_given : (Q : Position → Type 0) {A : Type 0} (t : Token) (r : Result A FaultKind) (next : A → Result Position TextFault)
    → ((x : A) → r ≡ Ok x → OnPlace Q (next x)) → OnPlace Q (given t r next)
ok_given Q t (Ok x) next h = h x refl
ok_given Q t (Err kind) next h = tt

-- ---- tests that passed

float_free : (k : Known) (w : Word) → first_fault (float_label_tests k w) ≡ None
    → (meaning k.tables w ≡ None) × (length k.tables.floats < 65535)
float_free k w h =
    let one = cond_none _ _ _ h in
    let two = cond_none _ _ _ one.1 in
    let three = cond_none _ _ _ two.1 in
    (none_is (meaning k.tables w) (or_parts _ _ two.0).0, leb-false 65535 (length k.tables.floats) three.0)

room_left : (k : Known) (b : Block) (w : Word) → first_fault (hypothesis_label_tests k b w) ≡ None → length b.hyps < 1000
room_left k b w h =
    let full = cond (nat_le 1000 (length b.hyps)) (Some TooLong) None in
    let two = (cond_none (nat_lt 260 (length w)) BadLabel (cond (is_used k w) (Some RepeatedLabel) full) h).1 in
    let three = (cond_none (is_used k w) RepeatedLabel full two).1 in
    leb-false 1000 (length b.hyps) (cond_none (nat_le 1000 (length b.hyps)) TooLong None three).0

-- a symbol of a $f has no $
pub variable_here : (t : Tables) (w : Word) (v : ℕ) → variable_of t w ≡ Ok v
    → (has_dollar w ≡ false) × (variable_named (meaning t w) ≡ Ok v)
unfolding variable_of
variable_here t w v h = if_ok (has_dollar w) UnknownSymbol (variable_named (meaning t w)) v h

-- ---- what stands

abbrev pub StandsAt : Position → Type 0
StandsAt p = SuitsPlace p.known p.place

abbrev pub OkStands : Result Position TextFault → Type 0
OkStands r = OnPlace StandsAt r

pub outside_roomy : IsRoomy outside
outside_roomy = omega arith

outermost_stands : (k : Known) (t : Token) (m : Mark) → OkStands (outermost_row k t m)
outermost_stands k t mark.Constants = ok_cond StandsAt (in_prelude k) (at k (in_constants false)) (fault t OutOfProfile) tt tt
outermost_stands k t mark.Variables = ok_cond StandsAt (in_prelude k) (at k (in_variables false)) (fault t OutOfProfile) tt tt
outermost_stands k t mark.Opening = omega arith
outermost_stands k t mark.Plain = ok_cond StandsAt (is_label t.text) (at k (after_label outside t)) (fault t BadToken) outside_roomy tt
outermost_stands k t _ = tt

block_stands : (k : Known) (b : Block) (t : Token) (m : Mark) → IsRoomy (inside b) → OkStands (block_row k b t m)
block_stands k b t mark.Disjoint h = h
block_stands k b t mark.Plain h = ok_cond StandsAt (is_label t.text) (at k (after_label (inside b) t)) (fault t BadToken) h tt
block_stands k b t _ h = tt

close_stands : (k : Known) (t : Token) (m : Mark) → OkStands (close_row k t m)
close_stands k t mark.Closing = outside_roomy
close_stands k t _ = tt

keyword_stands : (k : Known) (s : Scope) (label t : Token) (m : Mark) → IsRoomy s → OkStands (keyword_row k s label t m)
keyword_stands k outside label t mark.Floating h =
    ok_cond StandsAt (in_prelude k) (tested label (float_label_tests k label.text) (at k (float_type label.text))) (fault t OutOfProfile)
    (ok_faulted StandsAt label (first_fault (float_label_tests k label.text)) (at k (float_type label.text))
    (λ e. float_free k label.text e)) tt
keyword_stands k (inside b) label t mark.Floating h = tt
keyword_stands k outside label t mark.Essential h = tt
keyword_stands k (inside b) label t mark.Essential h =
    ok_faulted StandsAt label (first_fault (hypothesis_label_tests k b label.text)) (at k (in_hypothesis b label.text []))
    (λ e. room_left k b label.text e)
keyword_stands k outside label t mark.Axiom h =
    ok_faulted StandsAt label (first_fault (assertion_label_tests k label.text)) (at k (in_axiom outside label.text [])) (λ e. h)
keyword_stands k (inside b) label t mark.Axiom h =
    ok_faulted StandsAt label (first_fault (assertion_label_tests k label.text)) (at k (in_axiom (inside b) label.text [])) (λ e. h)
keyword_stands k outside label t mark.Provable h =
    ok_faulted StandsAt label (first_fault (assertion_label_tests k label.text)) (at k (in_theorem outside label.text [])) (λ e. h)
keyword_stands k (inside b) label t mark.Provable h =
    ok_faulted StandsAt label (first_fault (assertion_label_tests k label.text)) (at k (in_theorem (inside b) label.text [])) (λ e. h)
keyword_stands k s label t _ h = tt

constant_stands : (k : Known) (b : Bool) (t : Token) (m : Mark) → OkStands (constant_row k b t m)
constant_stands k true t mark.End = outside_roomy
constant_stands k b t m =
    ok_faulted StandsAt t (first_fault (symbol_tests k (length k.tables.constants) t.text))
    (at (with_constant k t.text) (in_constants true)) (λ h. tt)

variable_stands : (k : Known) (b : Bool) (t : Token) (m : Mark) → OkStands (variable_row k b t m)
variable_stands k true t mark.End = outside_roomy
variable_stands k b t m =
    ok_faulted StandsAt t (first_fault (symbol_tests k (length k.tables.variables) t.text))
    (at (with_variable k t.text) (in_variables true)) (λ h. tt)

float_end_stands : (k : Known) (label : Word) (i v : ℕ) (t : Token) (m : Mark) → OkStands (float_end_row k label i v t m)
float_end_stands k label i v t mark.End = outside_roomy
float_end_stands k label i v t _ = tt

distinct_stands : (k : Known) (b : Block) (vs : List ℕ) (t : Token) (m : Mark) → IsRoomy (inside b) → OkStands (distinct_row k b vs t m)
distinct_stands k b (i ∷ j ∷ vs) t mark.End h = h
distinct_stands k b vs t m h =
    ok_given StandsAt t (distinct_of k.tables vs b.pairs t.text) (λ j. at k (in_distinct (with_distinct b vs j) (vs ++ j ∷ []))) (λ j e. h)

hypothesis_stands : (k : Known) (b : Block) (label : Word) (e : List Symbol) (t : Token) (m : Mark) → length b.hyps < 1000
    → OkStands (hypothesis_row k b label e t m)
hypothesis_stands k b label (s ∷ e) t mark.End h =
    omega (arith, length-append b.hyps (record { label = label; expression = s ∷ e } ∷ []))
hypothesis_stands k b label e t m h =
    ok_given StandsAt t (symbol_of k.tables (length e) t.text) (λ s. at k (in_hypothesis b label (e ++ s ∷ []))) (λ s g. h)

behind_stands : (k : Known) (s : Scope) → OkStands (at k (behind s))
behind_stands k outside = outside_roomy
behind_stands k (inside b) = tt

axiom_stands : (k : Known) (s : Scope) (label : Word) (e : List Symbol) (t : Token) (m : Mark) → IsRoomy s
    → OkStands (axiom_row k s label e t m)
axiom_stands k s label (x ∷ e) t mark.End h = behind_stands (with_assertion k (axiom_of (block_of s) label (x ∷ e))) s
axiom_stands k s label e t m h =
    ok_given StandsAt t (symbol_of k.tables (length e) t.text) (λ x. at k (in_axiom s label (e ++ x ∷ []))) (λ x g. h)

theorem_stands : (k : Known) (s : Scope) (label : Word) (e : List Symbol) (t : Token) (m : Mark) → IsRoomy s
    → OkStands (theorem_row k s label e t m)
theorem_stands k s label (x ∷ e) t mark.Proof h = h
theorem_stands k s label e t m h =
    ok_given StandsAt t (symbol_of k.tables (length e) t.text) (λ x. at k (in_theorem s label (e ++ x ∷ []))) (λ x g. h)

proof_stands : (k : Known) (s : Scope) (label : Word) (e : List Symbol) (steps : List Step) (t : Token) (m : Mark) → IsRoomy s
    → OkStands (proof_row k s label e steps t m)
proof_stands k s label e (x ∷ steps) t mark.End h = behind_stands (with_assertion k (theorem_of (block_of s) label e (x ∷ steps))) s
proof_stands k s label e steps t m h =
    ok_given StandsAt t (step_of k.tables label (block_of s).hyps (length steps) t.text) (λ x. at k (in_proof s label e (steps ++ x ∷ [])))
    (λ x g. h)

place_stands : (k : Known) (p : Place) (t : Token) (m : Mark) → SuitsPlace k p → OkStands (in_place k p t m)
place_stands k (at_start outside) t m h = outermost_stands k t m
place_stands k (at_start (inside b)) t m h = block_stands k b t m h
place_stands k at_close t m h = close_stands k t m
place_stands k (after_label s label) t m h = keyword_stands k s label t m h
place_stands k (in_constants seen) t m h = constant_stands k seen t m
place_stands k (in_variables seen) t m h = variable_stands k seen t m
place_stands k (float_type label) t m h =
    ok_given StandsAt t (type_of k.tables t.text) (λ i. at k (float_variable label i)) (λ i e. h)
place_stands k (float_variable label i) t m h =
    ok_given StandsAt t (variable_of k.tables t.text) (λ v. at k (float_end label i t.text v))
    (λ v e. (h, free_variable (meaning k.tables t.text) v (variable_here k.tables t.text v e).1))
place_stands k (float_end label i w v) t m h = float_end_stands k label i v t m
place_stands k (in_distinct b vs) t m h = distinct_stands k b vs t m h
place_stands k (in_hypothesis b label e) t m h = hypothesis_stands k b label e t m h
place_stands k (in_axiom s label e) t m h = axiom_stands k s label e t m h
place_stands k (in_theorem s label e) t m h = theorem_stands k s label e t m h
place_stands k (in_proof s label e steps) t m h = proof_stands k s label e steps t m h

pub row_stands : (p : Position) (t : Token) → StandsAt p → OkStands (row p t)
unfolding row
row_stands p t h = place_stands p.known p.place t (mark_of t.text) h

-- the row of a place, by the mark of the token
pub row_at : (p : Position) (t : Token) (m : Mark) → m ≡ mark_of t.text → row p t ≡ in_place p.known p.place t m
unfolding row
row_at p t m is = ap (in_place p.known p.place t) (sym is)

-- what stands at a place stands where its row leads
pub stands_on : (here : Position) (w : Token) (m : Mark) (t : Tables) (u : Units) (r : Result CodePlace Stop) → m ≡ mark_of w.text
    → StandsAt here → Leads t u r (in_place here.known here.place w m) → IfOk r (λ q. SuitsPlace (known_of t u) (seen_place q))
stands_on here w m t u (Ok q) is h leads = subst OkStands (row_at here w m is ∙ leads) (row_stands here w h)
stands_on here w m t u (Err e) is h leads = tt

-- ---- single units

-- outside of $c, $v and $f
abbrev pub InUnit : Place → Type 0
InUnit (in_constants b) = ⊥
InUnit (in_variables b) = ⊥
InUnit (float_type label) = ⊥
InUnit (float_variable label i) = ⊥
InUnit (float_end label i w v) = ⊥
InUnit _ = Unit {0}

-- the prelude is closed, and the place is in no $c, $v or $f
abbrev pub UnitAt : Position → Type 0
UnitAt p = (p.known.units.prelude_closed ≡ true) × InUnit p.place

closed : (Q : Position → Type 0) (k : Known) (x y : Result Position TextFault) → k.units.prelude_closed ≡ true → OnPlace Q y
    → OnPlace Q (cond (in_prelude k) x y)
closed Q k x y c h = subst (OnPlace Q) (sym (cond-false (in_prelude k) x y (ap not c))) h

outermost_unit : (k : Known) (t : Token) (m : Mark) → k.units.prelude_closed ≡ true → OnPlace UnitAt (outermost_row k t m)
outermost_unit k t mark.Constants c = closed UnitAt k (at k (in_constants false)) (fault t OutOfProfile) c tt
outermost_unit k t mark.Variables c = closed UnitAt k (at k (in_variables false)) (fault t OutOfProfile) c tt
outermost_unit k t mark.Opening c = (c, tt)
outermost_unit k t mark.Plain c = ok_cond UnitAt (is_label t.text) (at k (after_label outside t)) (fault t BadToken) (c, tt) tt
outermost_unit k t _ c = tt

block_unit : (k : Known) (b : Block) (t : Token) (m : Mark) → k.units.prelude_closed ≡ true → OnPlace UnitAt (block_row k b t m)
block_unit k b t mark.Disjoint c = (c, tt)
block_unit k b t mark.Plain c = ok_cond UnitAt (is_label t.text) (at k (after_label (inside b) t)) (fault t BadToken) (c, tt) tt
block_unit k b t _ c = tt

close_unit : (k : Known) (t : Token) (m : Mark) → k.units.prelude_closed ≡ true → OnPlace UnitAt (close_row k t m)
close_unit k t mark.Closing c = (c, tt)
close_unit k t _ c = tt

keyword_unit : (k : Known) (s : Scope) (label t : Token) (m : Mark) → k.units.prelude_closed ≡ true
    → OnPlace UnitAt (keyword_row k s label t m)
keyword_unit k outside label t mark.Floating c =
    closed UnitAt k (tested label (float_label_tests k label.text) (at k (float_type label.text))) (fault t OutOfProfile) c tt
keyword_unit k (inside b) label t mark.Floating c = tt
keyword_unit k outside label t mark.Essential c = tt
keyword_unit k (inside b) label t mark.Essential c =
    ok_faulted UnitAt label (first_fault (hypothesis_label_tests k b label.text)) (at k (in_hypothesis b label.text [])) (λ e. (c, tt))
keyword_unit k outside label t mark.Axiom c =
    ok_faulted UnitAt label (first_fault (assertion_label_tests k label.text)) (at k (in_axiom outside label.text [])) (λ e. (c, tt))
keyword_unit k (inside b) label t mark.Axiom c =
    ok_faulted UnitAt label (first_fault (assertion_label_tests k label.text)) (at k (in_axiom (inside b) label.text [])) (λ e. (c, tt))
keyword_unit k outside label t mark.Provable c =
    ok_faulted UnitAt label (first_fault (assertion_label_tests k label.text)) (at k (in_theorem outside label.text [])) (λ e. (c, tt))
keyword_unit k (inside b) label t mark.Provable c =
    ok_faulted UnitAt label (first_fault (assertion_label_tests k label.text)) (at k (in_theorem (inside b) label.text [])) (λ e. (c, tt))
keyword_unit k s label t _ c = tt

distinct_unit : (k : Known) (b : Block) (vs : List ℕ) (t : Token) (m : Mark) → k.units.prelude_closed ≡ true
    → OnPlace UnitAt (distinct_row k b vs t m)
distinct_unit k b (i ∷ j ∷ vs) t mark.End c = (c, tt)
distinct_unit k b vs t m c =
    ok_given UnitAt t (distinct_of k.tables vs b.pairs t.text) (λ j. at k (in_distinct (with_distinct b vs j) (vs ++ j ∷ [])))
    (λ j e. (c, tt))

hypothesis_unit : (k : Known) (b : Block) (label : Word) (e : List Symbol) (t : Token) (m : Mark) → k.units.prelude_closed ≡ true
    → OnPlace UnitAt (hypothesis_row k b label e t m)
hypothesis_unit k b label (s ∷ e) t mark.End c = (c, tt)
hypothesis_unit k b label e t m c =
    ok_given UnitAt t (symbol_of k.tables (length e) t.text) (λ s. at k (in_hypothesis b label (e ++ s ∷ []))) (λ s g. (c, tt))

behind_unit : (k : Known) (s : Scope) → k.units.prelude_closed ≡ true → OnPlace UnitAt (at k (behind s))
behind_unit k outside c = (c, tt)
behind_unit k (inside b) c = (c, tt)

axiom_unit : (k : Known) (s : Scope) (label : Word) (e : List Symbol) (t : Token) (m : Mark) → k.units.prelude_closed ≡ true
    → OnPlace UnitAt (axiom_row k s label e t m)
axiom_unit k s label (x ∷ e) t mark.End c = behind_unit (with_assertion k (axiom_of (block_of s) label (x ∷ e))) s refl
axiom_unit k s label e t m c =
    ok_given UnitAt t (symbol_of k.tables (length e) t.text) (λ x. at k (in_axiom s label (e ++ x ∷ []))) (λ x g. (c, tt))

theorem_unit : (k : Known) (s : Scope) (label : Word) (e : List Symbol) (t : Token) (m : Mark) → k.units.prelude_closed ≡ true
    → OnPlace UnitAt (theorem_row k s label e t m)
theorem_unit k s label (x ∷ e) t mark.Proof c = (c, tt)
theorem_unit k s label e t m c =
    ok_given UnitAt t (symbol_of k.tables (length e) t.text) (λ x. at k (in_theorem s label (e ++ x ∷ []))) (λ x g. (c, tt))

proof_unit : (k : Known) (s : Scope) (label : Word) (e : List Symbol) (steps : List Step) (t : Token) (m : Mark)
    → k.units.prelude_closed ≡ true → OnPlace UnitAt (proof_row k s label e steps t m)
proof_unit k s label e (x ∷ steps) t mark.End c = behind_unit (with_assertion k (theorem_of (block_of s) label e (x ∷ steps))) s refl
proof_unit k s label e steps t m c =
    ok_given UnitAt t (step_of k.tables label (block_of s).hyps (length steps) t.text) (λ x. at k (in_proof s label e (steps ++ x ∷ [])))
    (λ x g. (c, tt))

place_unit : (k : Known) (p : Place) (t : Token) (m : Mark) → k.units.prelude_closed ≡ true → InUnit p → OnPlace UnitAt (in_place k p t m)
place_unit k (at_start outside) t m c h = outermost_unit k t m c
place_unit k (at_start (inside b)) t m c h = block_unit k b t m c
place_unit k at_close t m c h = close_unit k t m c
place_unit k (after_label s label) t m c h = keyword_unit k s label t m c
place_unit k (in_constants seen) t m c h = absurd h
place_unit k (in_variables seen) t m c h = absurd h
place_unit k (float_type label) t m c h = absurd h
place_unit k (float_variable label i) t m c h = absurd h
place_unit k (float_end label i w v) t m c h = absurd h
place_unit k (in_distinct b vs) t m c h = distinct_unit k b vs t m c
place_unit k (in_hypothesis b label e) t m c h = hypothesis_unit k b label e t m c
place_unit k (in_axiom s label e) t m c h = axiom_unit k s label e t m c
place_unit k (in_theorem s label e) t m c h = theorem_unit k s label e t m c
place_unit k (in_proof s label e steps) t m c h = proof_unit k s label e steps t m c

pub row_unit : (p : Position) (t : Token) → UnitAt p → OnPlace UnitAt (row p t)
unfolding row
row_unit p t h = place_unit p.known p.place t (mark_of t.text) h.0 h.1

-- the same of the rows of a unit
pub unit_row_stands : (p : Position) (t : Token) → StandsAt p → OkStands (unit_row p t)
unit_row_stands p t h = ok_cond StandsAt (is_some (unit_at p.known p.place)) (fault t BadToken) (row p t) tt (row_stands p t h)

-- a unit never comes to a $c, $v or $f
pub unit_row_unit : (p : Position) (t : Token) → UnitAt p → OnPlace UnitAt (unit_row p t)
unit_row_unit p t h = ok_cond UnitAt (is_some (unit_at p.known p.place)) (fault t BadToken) (row p t) tt (row_unit p t h)

-- the code's place is none in a $c, $v or $f where the place that is seen is none
pub unit_place : (p : CodePlace) → InUnit (seen_place p) → IsUnitPlace p
unit_place (code.Prelude (prelude.InConstants b)) h = h
unit_place (code.Prelude (prelude.InVariables b)) h = h
unit_place (code.Prelude (prelude.FloatType label)) h = h
unit_place (code.Prelude (prelude.FloatVariable label i)) h = h
unit_place (code.Prelude (prelude.FloatEnd f)) h = h
unit_place (code.Unit p) h = tt

-- the row of a unit before its end, by the mark of the token
pub unit_row_at : (p : Position) (t : Token) (m : Mark) → m ≡ mark_of t.text → is_some (unit_at p.known p.place) ≡ false
    → unit_row p t ≡ in_place p.known p.place t m
unit_row_at p t m is before =
    cond-false (is_some (unit_at p.known p.place)) (fault t BadToken) (row p t) before ∙ row_at p t m is
