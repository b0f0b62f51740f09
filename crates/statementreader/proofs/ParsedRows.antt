-- What is read is spelled: each row by what it leads to, where it breaks no test.
use Rattle.std.proofs.Common.{◌≡◌, ◌≢◌, ℕ, ◌≤◌, Bool, true, false, cond, List, [], ◌∷◌, ◌++◌, length, Option, Some, None, Result, Ok}
use Rattle.std.proofs.Common.{Err, refl, ◌⊎◌, inl, inr, arith}
use Rattle.std.specs.Prelude.{codes, IsTrue}
use Rattle.mmsyntax.specs.declared.statement.Symbol.{Symbol}
use Rattle.mmsyntax.specs.declared.statement.Step.{Step}
use Rattle.mmtext.specs.declared.fault.FaultKind.{FaultKind}
use Rattle.mmtext.specs.declared.fault.FaultKind.TheVariants.{BadToken, OutOfProfile}
use Rattle.mmtext.specs.declared.fault.TextFault.{TextFault}
use Rattle.mmtext.specs.declared.mark.Mark.{Mark}
use Rattle.mmtext.specs.declared.mark.Mark.TheVariants as mark
use Rattle.mmtext.specs.Words.{Word, is_label}
use Rattle.mmtext.specs.Text.{Token, mark_of}
use Rattle.mmtext.specs.Languages.{fault}
use Rattle.mmsyntax.specs.Rows.{Known, first_fault, Pass, in_prelude, symbol_tests, float_label_tests, assertion_label_tests}
use Rattle.mmsyntax.specs.Rows.{symbol_of, type_of, variable_of, with_constant, with_variable, with_float, with_hypothesis_label}
use Rattle.mmsyntax.specs.Rows.{with_assertion}
use Rattle.mmsyntax.specs.Blocks.{Block, no_block, distinct_of, with_distinct, hypothesis_label_tests, with_hypothesis, axiom_of}
use Rattle.mmsyntax.specs.Blocks.{theorem_of}
use Rattle.mmsyntax.specs.Steps.{step_of}
use Rattle.mmsyntax.specs.Faults.{Scope, outside, inside, block_of, Place, at_start, at_close, after_label, in_constants}
use Rattle.mmsyntax.specs.Faults.{in_variables}
use Rattle.mmsyntax.specs.Faults.{float_type, float_variable, float_end, in_distinct, in_hypothesis, in_axiom, in_theorem, in_proof}
use Rattle.mmsyntax.specs.Faults.{Position, at, faulted, given, behind, in_place, row}
use Rattle.statementreader.proofs.Keywords.{Says, says}
use Rattle.statementreader.proofs.Leading.{there, home}

-- ---- a row that doesn't fail

in_place_of : (k : Known) (p : Place) (t : Token) (q : Position) → row (there k p) t ≡ Ok q → in_place k p t (mark_of t.text) ≡ Ok q
unfolding row
in_place_of k p t q h = h

faulted_ok : (t : Token) (o : Option FaultKind) (p q : Position) → faulted t o (Ok p) ≡ Ok q → (o ≡ None) × (p ≡ q)
faulted_ok t (Some kind) p q h = absurd cc
faulted_ok t None p q h = (refl, cc)

given_ok : {A : Type 0} (t : Token) (r : Result A FaultKind) (next : A → Position) (q : Position) → given t r (λ x. Ok (next x)) ≡ Ok q
    → (x : A) × (r ≡ Ok x) × (next x ≡ q)
given_ok t (Ok x) next q h = (x, refl, cc)
given_ok t (Err kind) next q h = absurd cc

cond_ok : (b : Bool) (t : Token) (kind : FaultKind) (r : Result Position TextFault) (q : Position) → cond b r (fault t kind) ≡ Ok q
    → (b ≡ true) × (r ≡ Ok q)
cond_ok true t kind r q h = (refl, h)
cond_ok false t kind r q h = absurd cc

cond_leads : (b : Bool) (t : Token) (kind : FaultKind) (k : Known) (p : Place) (q : Position) → cond b (at k p) (fault t kind) ≡ Ok q
    → (b ≡ true) × (there k p ≡ q)
cond_leads true t kind k p q h = (refl, cc)
cond_leads false t kind k p q h = absurd cc

-- ---- $c and $v

constant_in : (k : Known) (some : Bool) (t : Token) (m : Mark) (q : Position) → Says m t.text → in_place k (in_constants some) t m ≡ Ok q
    → ((some ≡ true) × (t.text ≡ codes "$.") × (home k ≡ q))
    ⊎ (Pass (symbol_tests k (length k.tables.constants) t.text) × (there (with_constant k t.text) (in_constants true) ≡ q))
constant_in k true t mark.End q s h = inl (refl, s, cc)
constant_in k some t m q s h =
    inr
    (faulted_ok t (first_fault (symbol_tests k (length k.tables.constants) t.text))
    (there (with_constant k t.text) (in_constants true)) q h)

pub constant_leads : (k : Known) (some : Bool) (t : Token) (q : Position) → row (there k (in_constants some)) t ≡ Ok q
    → ((some ≡ true) × (t.text ≡ codes "$.") × (home k ≡ q))
    ⊎ (Pass (symbol_tests k (length k.tables.constants) t.text) × (there (with_constant k t.text) (in_constants true) ≡ q))
constant_leads k some t q h = constant_in k some t (mark_of t.text) q (says t.text) (in_place_of k (in_constants some) t q h)

variable_in : (k : Known) (some : Bool) (t : Token) (m : Mark) (q : Position) → Says m t.text → in_place k (in_variables some) t m ≡ Ok q
    → ((some ≡ true) × (t.text ≡ codes "$.") × (home k ≡ q))
    ⊎ (Pass (symbol_tests k (length k.tables.variables) t.text) × (there (with_variable k t.text) (in_variables true) ≡ q))
variable_in k true t mark.End q s h = inl (refl, s, cc)
variable_in k some t m q s h =
    inr
    (faulted_ok t (first_fault (symbol_tests k (length k.tables.variables) t.text))
    (there (with_variable k t.text) (in_variables true)) q h)

pub variable_leads : (k : Known) (some : Bool) (t : Token) (q : Position) → row (there k (in_variables some)) t ≡ Ok q
    → ((some ≡ true) × (t.text ≡ codes "$.") × (home k ≡ q))
    ⊎ (Pass (symbol_tests k (length k.tables.variables) t.text) × (there (with_variable k t.text) (in_variables true) ≡ q))
variable_leads k some t q h = variable_in k some t (mark_of t.text) q (says t.text) (in_place_of k (in_variables some) t q h)

-- ---- $f

pub type_leads : (k : Known) (label : Word) (t : Token) (q : Position) → row (there k (float_type label)) t ≡ Ok q
    → (i : ℕ) × (type_of k.tables t.text ≡ Ok i) × (there k (float_variable label i) ≡ q)
type_leads k label t q h =
    given_ok t (type_of k.tables t.text) (λ i. there k (float_variable label i)) q (in_place_of k (float_type label) t q h)

pub float_variable_leads : (k : Known) (label : Word) (i : ℕ) (t : Token) (q : Position) → row (there k (float_variable label i)) t ≡ Ok q
    → (j : ℕ) × (variable_of k.tables t.text ≡ Ok j) × (there k (float_end label i t.text j) ≡ q)
float_variable_leads k label i t q h =
    given_ok t (variable_of k.tables t.text) (λ j. there k (float_end label i t.text j)) q (in_place_of k (float_variable label i) t q h)

float_end_in : (k : Known) (label w : Word) (i j : ℕ) (t : Token) (m : Mark) (q : Position) → Says m t.text
    → in_place k (float_end label i w j) t m ≡ Ok q → (t.text ≡ codes "$.") × (home (with_float k label i j) ≡ q)
float_end_in k label w i j t mark.End q s h = (s, cc)
float_end_in k label w i j t m q s h = absurd cc

pub float_end_leads : (k : Known) (label w : Word) (i j : ℕ) (t : Token) (q : Position) → row (there k (float_end label i w j)) t ≡ Ok q
    → (t.text ≡ codes "$.") × (home (with_float k label i j) ≡ q)
float_end_leads k label w i j t q h =
    float_end_in k label w i j t (mark_of t.text) q (says t.text) (in_place_of k (float_end label i w j) t q h)

-- ---- $d

distinct_in : (k : Known) (b : Block) (vs : List ℕ) (t : Token) (m : Mark) (q : Position) → Says m t.text
    → in_place k (in_distinct b vs) t m ≡ Ok q
    → ((2 ≤ length vs) × (t.text ≡ codes "$.") × (there k (at_start (inside b)) ≡ q))
    ⊎ ((j : ℕ) × (distinct_of k.tables vs b.pairs t.text ≡ Ok j) × (there k (in_distinct (with_distinct b vs j) (vs ++ j ∷ [])) ≡ q))
distinct_in k b (i ∷ j ∷ vs) t mark.End q s h = inl ((omega arith), s, cc)
distinct_in k b vs t m q s h =
    inr (given_ok t (distinct_of k.tables vs b.pairs t.text) (λ j. there k (in_distinct (with_distinct b vs j) (vs ++ j ∷ []))) q h)

pub distinct_leads : (k : Known) (b : Block) (vs : List ℕ) (t : Token) (q : Position) → row (there k (in_distinct b vs)) t ≡ Ok q
    → ((2 ≤ length vs) × (t.text ≡ codes "$.") × (there k (at_start (inside b)) ≡ q))
    ⊎ ((j : ℕ) × (distinct_of k.tables vs b.pairs t.text ≡ Ok j) × (there k (in_distinct (with_distinct b vs j) (vs ++ j ∷ [])) ≡ q))
distinct_leads k b vs t q h = distinct_in k b vs t (mark_of t.text) q (says t.text) (in_place_of k (in_distinct b vs) t q h)

-- ---- $e, $a and $p

-- behind symbols e, the word that ends them, or one more symbol
abbrev pub EndsOrReads : Known → (List Symbol → Place) → Word → (List Symbol → Position) → List Symbol → Token → Position → Type 0
EndsOrReads k place stop ended e t q =
    ((e ≢ []) × (t.text ≡ stop) × (ended e ≡ q))
    ⊎ ((s : Symbol) × (symbol_of k.tables (length e) t.text ≡ Ok s) × (there k (place (e ++ s ∷ [])) ≡ q))

-- behind its last symbol
abbrev pub hypothesis_end : Known → Block → Word → List Symbol → Position
hypothesis_end k b label e = there (with_hypothesis_label k label) (at_start (inside (with_hypothesis b label e)))

abbrev pub axiom_end : Known → Scope → Word → List Symbol → Position
axiom_end k s label e = there (with_assertion k (axiom_of (block_of s) label e)) (behind s)

abbrev pub theorem_end : Known → Scope → Word → List Symbol → List Step → Position
theorem_end k s label e steps = there (with_assertion k (theorem_of (block_of s) label e steps)) (behind s)

hypothesis_in : (k : Known) (b : Block) (label : Word) (e : List Symbol) (t : Token) (m : Mark) (q : Position) → Says m t.text
    → in_place k (in_hypothesis b label e) t m ≡ Ok q
    → EndsOrReads k (λ x. in_hypothesis b label x) (codes "$.") (hypothesis_end k b label) e t q
hypothesis_in k b label (x ∷ e) t mark.End q s h = inl ((λ z. absurd cc), s, cc)
hypothesis_in k b label e t m q s h =
    inr (given_ok t (symbol_of k.tables (length e) t.text) (λ x. there k (in_hypothesis b label (e ++ x ∷ []))) q h)

pub hypothesis_leads : (k : Known) (b : Block) (label : Word) (e : List Symbol) (t : Token) (q : Position)
    → row (there k (in_hypothesis b label e)) t ≡ Ok q
    → EndsOrReads k (λ x. in_hypothesis b label x) (codes "$.") (hypothesis_end k b label) e t q
hypothesis_leads k b label e t q h =
    hypothesis_in k b label e t (mark_of t.text) q (says t.text) (in_place_of k (in_hypothesis b label e) t q h)

axiom_in : (k : Known) (s : Scope) (label : Word) (e : List Symbol) (t : Token) (m : Mark) (q : Position) → Says m t.text
    → in_place k (in_axiom s label e) t m ≡ Ok q → EndsOrReads k (λ x. in_axiom s label x) (codes "$.") (axiom_end k s label) e t q
axiom_in k s label (x ∷ e) t mark.End q w h = inl ((λ z. absurd cc), w, cc)
axiom_in k s label e t m q w h =
    inr (given_ok t (symbol_of k.tables (length e) t.text) (λ x. there k (in_axiom s label (e ++ x ∷ []))) q h)

pub axiom_leads : (k : Known) (s : Scope) (label : Word) (e : List Symbol) (t : Token) (q : Position)
    → row (there k (in_axiom s label e)) t ≡ Ok q → EndsOrReads k (λ x. in_axiom s label x) (codes "$.") (axiom_end k s label) e t q
axiom_leads k s label e t q h = axiom_in k s label e t (mark_of t.text) q (says t.text) (in_place_of k (in_axiom s label e) t q h)

theorem_in : (k : Known) (s : Scope) (label : Word) (e : List Symbol) (t : Token) (m : Mark) (q : Position) → Says m t.text
    → in_place k (in_theorem s label e) t m ≡ Ok q
    → EndsOrReads k (λ x. in_theorem s label x) (codes "$=") (λ x. there k (in_proof s label x [])) e t q
theorem_in k s label (x ∷ e) t mark.Proof q w h = inl ((λ z. absurd cc), w, cc)
theorem_in k s label e t m q w h =
    inr (given_ok t (symbol_of k.tables (length e) t.text) (λ x. there k (in_theorem s label (e ++ x ∷ []))) q h)

pub theorem_leads : (k : Known) (s : Scope) (label : Word) (e : List Symbol) (t : Token) (q : Position)
    → row (there k (in_theorem s label e)) t ≡ Ok q
    → EndsOrReads k (λ x. in_theorem s label x) (codes "$=") (λ x. there k (in_proof s label x [])) e t q
theorem_leads k s label e t q h = theorem_in k s label e t (mark_of t.text) q (says t.text) (in_place_of k (in_theorem s label e) t q h)

-- behind steps, the end of a proof or one more step
abbrev pub EndsOrSteps : Known → Scope → Word → List Symbol → List Step → Token → Position → Type 0
EndsOrSteps k s label e steps t q =
    ((steps ≢ []) × (t.text ≡ codes "$.") × (theorem_end k s label e steps ≡ q))
    ⊎ ((x : Step) × (step_of k.tables label (block_of s).hyps (length steps) t.text ≡ Ok x)
    × (there k (in_proof s label e (steps ++ x ∷ [])) ≡ q))

proof_in : (k : Known) (s : Scope) (label : Word) (e : List Symbol) (steps : List Step) (t : Token) (m : Mark) (q : Position)
    → Says m t.text → in_place k (in_proof s label e steps) t m ≡ Ok q → EndsOrSteps k s label e steps t q
proof_in k s label e (x ∷ steps) t mark.End q w h = inl ((λ z. absurd cc), w, cc)
proof_in k s label e steps t m q w h =
    inr
    (given_ok t (step_of k.tables label (block_of s).hyps (length steps) t.text) (λ x. there k (in_proof s label e (steps ++ x ∷ []))) q h)

pub proof_leads : (k : Known) (s : Scope) (label : Word) (e : List Symbol) (steps : List Step) (t : Token) (q : Position)
    → row (there k (in_proof s label e steps)) t ≡ Ok q → EndsOrSteps k s label e steps t q
proof_leads k s label e steps t q h =
    proof_in k s label e steps t (mark_of t.text) q (says t.text) (in_place_of k (in_proof s label e steps) t q h)

-- ---- labels and keywords

-- a label token at the start of a statement
abbrev pub Labels : Known → Scope → Token → Position → Type 0
Labels k s t q = IsTrue (is_label t.text) × (there k (after_label s t) ≡ q)

labelled_ok : (k : Known) (s : Scope) (t : Token) (q : Position)
    → cond (is_label t.text) (at k (after_label s t)) (fault t BadToken) ≡ Ok q
    → Labels k s t q
labelled_ok k s t q h = cond_leads (is_label t.text) t BadToken k (after_label s t) q h

-- what begins outermost
abbrev pub Begins : Known → Token → Position → Type 0
Begins k t q =
    ((t.text ≡ codes "$c") × IsTrue (in_prelude k) × (there k (in_constants false) ≡ q))
    ⊎ (((t.text ≡ codes "$v") × IsTrue (in_prelude k) × (there k (in_variables false) ≡ q))
    ⊎ (((t.text ≡ codes "${") × (there k (at_start (inside no_block)) ≡ q))
    ⊎ Labels k outside t q))

outermost_in : (k : Known) (t : Token) (m : Mark) (q : Position) → Says m t.text → in_place k (at_start outside) t m ≡ Ok q → Begins k t q
outermost_in k t mark.Constants q s h = let c = cond_leads (in_prelude k) t OutOfProfile k (in_constants false) q h in inl (s, c.0, c.1)
outermost_in k t mark.Variables q s h =
    let c = cond_leads (in_prelude k) t OutOfProfile k (in_variables false) q h in inr (inl (s, c.0, c.1))
outermost_in k t mark.Opening q s h = inr (inr (inl (s, cc)))
outermost_in k t mark.Plain q s h = inr (inr (inr (labelled_ok k outside t q h)))
outermost_in k t m q s h = absurd cc

pub outermost_leads : (k : Known) (t : Token) (q : Position) → row (home k) t ≡ Ok q → Begins k t q
outermost_leads k t q h = outermost_in k t (mark_of t.text) q (says t.text) (in_place_of k (at_start outside) t q h)

block_in : (k : Known) (b : Block) (t : Token) (m : Mark) (q : Position) → Says m t.text → in_place k (at_start (inside b)) t m ≡ Ok q
    → ((t.text ≡ codes "$d") × (there k (in_distinct b []) ≡ q)) ⊎ Labels k (inside b) t q
block_in k b t mark.Disjoint q s h = inl (s, cc)
block_in k b t mark.Plain q s h = inr (labelled_ok k (inside b) t q h)
block_in k b t m q s h = absurd cc

pub block_leads : (k : Known) (b : Block) (t : Token) (q : Position) → row (there k (at_start (inside b))) t ≡ Ok q
    → ((t.text ≡ codes "$d") × (there k (in_distinct b []) ≡ q)) ⊎ Labels k (inside b) t q
block_leads k b t q h = block_in k b t (mark_of t.text) q (says t.text) (in_place_of k (at_start (inside b)) t q h)

close_in : (k : Known) (t : Token) (m : Mark) (q : Position) → Says m t.text → in_place k at_close t m ≡ Ok q
    → (t.text ≡ codes "$}") × (home k ≡ q)
close_in k t mark.Closing q s h = (s, cc)
close_in k t m q s h = absurd cc

pub close_leads : (k : Known) (t : Token) (q : Position) → row (there k at_close) t ≡ Ok q → (t.text ≡ codes "$}") × (home k ≡ q)
close_leads k t q h = close_in k t (mark_of t.text) q (says t.text) (in_place_of k at_close t q h)

-- the keyword of an assertion
abbrev pub Asserts : Known → Scope → Token → Token → Position → Type 0
Asserts k s label t q =
    ((t.text ≡ codes "$a") × Pass (assertion_label_tests k label.text) × (there k (in_axiom s label.text []) ≡ q))
    ⊎ ((t.text ≡ codes "$p") × Pass (assertion_label_tests k label.text) × (there k (in_theorem s label.text []) ≡ q))

axiom_asserts : (k : Known) (s : Scope) (label t : Token) (q : Position) → t.text ≡ codes "$a"
    → faulted label (first_fault (assertion_label_tests k label.text)) (at k (in_axiom s label.text [])) ≡ Ok q → Asserts k s label t q
axiom_asserts k s label t q w h =
    let f = faulted_ok label (first_fault (assertion_label_tests k label.text)) (there k (in_axiom s label.text [])) q h in
    inl (w, f.0, f.1)

theorem_asserts : (k : Known) (s : Scope) (label t : Token) (q : Position) → t.text ≡ codes "$p"
    → faulted label (first_fault (assertion_label_tests k label.text)) (at k (in_theorem s label.text [])) ≡ Ok q → Asserts k s label t q
theorem_asserts k s label t q w h =
    let f = faulted_ok label (first_fault (assertion_label_tests k label.text)) (there k (in_theorem s label.text [])) q h in
    inr (w, f.0, f.1)

-- outermost, $f or the keyword of an assertion
abbrev pub FollowsOutside : Known → Token → Token → Position → Type 0
FollowsOutside k label t q =
    ((t.text ≡ codes "$f") × IsTrue (in_prelude k) × Pass (float_label_tests k label.text) × (there k (float_type label.text) ≡ q))
    ⊎ Asserts k outside label t q

outside_in : (k : Known) (label t : Token) (m : Mark) (q : Position) → Says m t.text → in_place k (after_label outside label) t m ≡ Ok q
    → FollowsOutside k label t q
outside_in k label t mark.Floating q s h =
    let c = cond_ok (in_prelude k) t OutOfProfile _ q h in
    let f = faulted_ok label (first_fault (float_label_tests k label.text)) (there k (float_type label.text)) q c.1 in
    inl (s, c.0, f.0, f.1)
outside_in k label t mark.Axiom q s h = inr (axiom_asserts k outside label t q s h)
outside_in k label t mark.Provable q s h = inr (theorem_asserts k outside label t q s h)
outside_in k label t m q s h = absurd cc

pub keyword_leads : (k : Known) (label t : Token) (q : Position) → row (there k (after_label outside label)) t ≡ Ok q
    → FollowsOutside k label t q
keyword_leads k label t q h = outside_in k label t (mark_of t.text) q (says t.text) (in_place_of k (after_label outside label) t q h)

-- in a block, $e or the keyword of an assertion
abbrev pub FollowsInside : Known → Block → Token → Token → Position → Type 0
FollowsInside k b label t q =
    ((t.text ≡ codes "$e") × Pass (hypothesis_label_tests k b label.text) × (there k (in_hypothesis b label.text []) ≡ q))
    ⊎ Asserts k (inside b) label t q

inside_in : (k : Known) (b : Block) (label t : Token) (m : Mark) (q : Position) → Says m t.text
    → in_place k (after_label (inside b) label) t m ≡ Ok q → FollowsInside k b label t q
inside_in k b label t mark.Essential q s h =
    let f = faulted_ok label (first_fault (hypothesis_label_tests k b label.text)) (there k (in_hypothesis b label.text [])) q h in
    inl (s, f.0, f.1)
inside_in k b label t mark.Axiom q s h = inr (axiom_asserts k (inside b) label t q s h)
inside_in k b label t mark.Provable q s h = inr (theorem_asserts k (inside b) label t q s h)
inside_in k b label t m q s h = absurd cc

pub block_keyword_leads : (k : Known) (b : Block) (label t : Token) (q : Position) → row (there k (after_label (inside b) label)) t ≡ Ok q
    → FollowsInside k b label t q
block_keyword_leads k b label t q h =
    inside_in k b label t (mark_of t.text) q (says t.text) (in_place_of k (after_label (inside b) label) t q h)
