-- What leads through the rows of the table passed its tests: each row, by where it leads.
use Rattle.std.proofs.Common.{◌≡◌, Bool, true, false, cond, List, [], ◌∷◌, ◌++◌, length, Option, Some, None, Ok, refl, sym, ap, ◌∙◌}
use Rattle.std.proofs.Common.{◌⊎◌, inl, inr}
use Rattle.std.specs.Prelude.{◌&&◌, codes, nat_le, is_none}
use Rattle.std.specs.Str.{bytes_eq}
use Rattle.mmtext.specs.declared.fault.FaultKind.{FaultKind}
use Rattle.mmtext.specs.declared.fault.FaultKind.TheVariants.{BadToken}
use Rattle.mmtext.specs.declared.mark.Mark.{Mark}
use Rattle.mmtext.specs.declared.mark.Mark.TheVariants as mark
use Rattle.mmtext.specs.Words.{Word, is_label}
use Rattle.mmtext.specs.Text.{Token, mark_of}
use Rattle.mmtext.specs.Languages.{fault}
use Rattle.mmtext.proofs.Marks.{same_word, Says, says}
use Rattle.mmsyntax.specs.Rows.{Tests, first_fault}
use Rattle.source.specs.Statements.{normal, compressed, constants, variables, float, hypothesis, distinct, asserted, proved}
use Rattle.source.specs.Scopes.{Scope, closed_in, enter, leave, behind}
use Rattle.source.specs.Tests.{passes, label_tests, type_tests, float_tests, distinct_tests, symbol_tests, step_tests, cited_tests}
use Rattle.source.specs.Tests.{letter_tests}
use Rattle.source.specs.Tests.{a_constant, a_variable, is_whole}
use Rattle.source.specs.Faults.{after_label, in_constants, in_variables, in_distinct, float_type, float_variable, float_end}
use Rattle.source.specs.Faults.{in_hypothesis, in_axiom, in_theorem, in_steps, in_labels, in_letters, Position, tested, faulted}
use Rattle.source.specs.Faults.{closes, start_row, keyword_row, constant_row, variable_row, in_place, row}
use Rattle.source.proofs.InOrder.{constants_at, variables_at, constant_tests_at, variable_tests_at, one_at_least, two_at_least}
use Rattle.source.proofs.Leading.{there, home}
use Rattle.source.proofs.LeadingRows.{constant_place, constant_next, variable_place, variable_next}

-- ---- a row that doesn't fail

in_place_of : (p : Position) (t : Token) (q : Position) → row p t ≡ Ok q → in_place p p.place t (mark_of t.text) ≡ Ok q
unfolding row
in_place_of p t q h = h

faulted_ok : (t : Token) (o : Option FaultKind) (p q : Position) → faulted t o (Ok p) ≡ Ok q → (is_none o ≡ true) × (p ≡ q)
faulted_ok t (Some kind) p q h = absurd cc
faulted_ok t None p q h = (refl, cc)

tested_ok : (t : Token) (ts : Tests) (p q : Position) → tested t ts (Ok p) ≡ Ok q → (passes ts ≡ true) × (p ≡ q)
tested_ok t ts p q h = faulted_ok t (first_fault ts) p q h

cond_ok : (b : Bool) (t : Token) (p q : Position) → cond b (Ok p) (fault t BadToken) ≡ Ok q → (b ≡ true) × (p ≡ q)
cond_ok true t p q h = (refl, cc)
cond_ok false t p q h = absurd cc

-- ---- lists of words: a word ends the list, where enough stand, or passes its tests behind the earlier ones

abbrev pub Goes : (List Word → Position) → (List Word → Word → Tests) → Word → (List Word → Bool) → (List Word → Position) → Type 0
Goes at tests stop enough after =
    (front : List Word) (t : Token) (q : Position) → row (at front) t ≡ Ok q
    → ((t.text ≡ stop) × (enough front ≡ true) × (after front ≡ q))
    ⊎ ((passes (tests front t.text) ≡ true) × (at (front ++ t.text ∷ []) ≡ q))

abbrev pub one_or_more : List Word → Bool
one_or_more ws = nat_le 1 (length ws)

-- ---- $c and $v

constant_in : (s : Scope) (around : List Scope) (front : List Word) (b : Bool) (t : Token) (m : Mark) (q : Position) → Says m t.text
    → one_or_more front ≡ b → constant_row (constant_place s around front) b t m ≡ Ok q
    → ((t.text ≡ codes "$.") × (one_or_more front ≡ true) × (home (constants_at s front) around ≡ q))
    ⊎ ((passes (constant_tests_at s front t.text) ≡ true) × (constant_place s around (front ++ t.text ∷ []) ≡ q))
constant_in s around front true t mark.End q is n h = inl (is, n, cc)
constant_in s around front b t m q is n h =
    let next = there (behind (constants_at s front) (a_constant t.text)) around (in_constants true) in
    let o = tested_ok t (constant_tests_at s front t.text) next q h in
    inr (o.0, sym (constant_next s around front t.text) ∙ o.1)

pub constants_go : (s : Scope) (around : List Scope)
    → Goes (constant_place s around) (constant_tests_at s) (codes "$.") one_or_more (λ ws. home (behind s (constants ws)) around)
constants_go s around front t q h =
    constant_in s around front (one_or_more front) t (mark_of t.text) q (says t.text) refl
    (in_place_of (constant_place s around front) t q h)

variable_in : (s : Scope) (around : List Scope) (front : List Word) (b : Bool) (t : Token) (m : Mark) (q : Position) → Says m t.text
    → one_or_more front ≡ b → variable_row (variable_place s around front) b t m ≡ Ok q
    → ((t.text ≡ codes "$.") × (one_or_more front ≡ true) × (home (variables_at s front) around ≡ q))
    ⊎ ((passes (variable_tests_at s front t.text) ≡ true) × (variable_place s around (front ++ t.text ∷ []) ≡ q))
variable_in s around front true t mark.End q is n h = inl (is, n, cc)
variable_in s around front b t m q is n h =
    let next = there (behind (variables_at s front) (a_variable t.text)) around (in_variables true) in
    let o = tested_ok t (variable_tests_at s front t.text) next q h in
    inr (o.0, sym (variable_next s around front t.text) ∙ o.1)

pub variables_go : (s : Scope) (around : List Scope)
    → Goes (variable_place s around) (variable_tests_at s) (codes "$.") one_or_more (λ ws. home (behind s (variables ws)) around)
variables_go s around front t q h =
    variable_in s around front (one_or_more front) t (mark_of t.text) q (says t.text) refl
    (in_place_of (variable_place s around front) t q h)

-- ---- $d

abbrev pub two_or_more : List Word → Bool
two_or_more ws = nat_le 2 (length ws)

distinct_in : (s : Scope) (around : List Scope) (vs : List Word) (t : Token) (m : Mark) (q : Position) → Says m t.text
    → in_place (there s around (in_distinct vs)) (in_distinct vs) t m ≡ Ok q
    → ((t.text ≡ codes "$.") × (two_or_more vs ≡ true) × (home (behind s (distinct vs)) around ≡ q))
    ⊎ ((passes (distinct_tests s vs t.text) ≡ true) × (there s around (in_distinct (vs ++ t.text ∷ [])) ≡ q))
distinct_in s around (v ∷ w ∷ vs) t mark.End q is h = inl (is, two_at_least (length vs), cc)
distinct_in s around vs t m q is h =
    inr (tested_ok t (distinct_tests s vs t.text) (there s around (in_distinct (vs ++ t.text ∷ []))) q h)

pub distinct_go : (s : Scope) (around : List Scope)
    → Goes (λ vs. there s around (in_distinct vs)) (distinct_tests s) (codes "$.") two_or_more (λ vs. home (behind s (distinct vs)) around)
distinct_go s around vs t q h =
    distinct_in s around vs t (mark_of t.text) q (says t.text) (in_place_of (there s around (in_distinct vs)) t q h)

-- ---- the symbols of $e, $a and $p

hypothesis_in : (s : Scope) (around : List Scope) (label : Word) (e : List Word) (t : Token) (m : Mark) (q : Position) → Says m t.text
    → in_place (there s around (in_hypothesis label e)) (in_hypothesis label e) t m ≡ Ok q
    → ((t.text ≡ codes "$.") × (one_or_more e ≡ true) × (home (behind s (hypothesis label e)) around ≡ q))
    ⊎ ((passes (symbol_tests s e t.text) ≡ true) × (there s around (in_hypothesis label (e ++ t.text ∷ [])) ≡ q))
hypothesis_in s around label (c ∷ e) t mark.End q is h = inl (is, one_at_least (length e), cc)
hypothesis_in s around label e t m q is h =
    inr (tested_ok t (symbol_tests s e t.text) (there s around (in_hypothesis label (e ++ t.text ∷ []))) q h)

pub hypothesis_go : (s : Scope) (around : List Scope) (label : Word)
    → Goes (λ e. there s around (in_hypothesis label e)) (symbol_tests s) (codes "$.") one_or_more
    (λ e. home (behind s (hypothesis label e)) around)
hypothesis_go s around label e t q h =
    hypothesis_in s around label e t (mark_of t.text) q (says t.text) (in_place_of (there s around (in_hypothesis label e)) t q h)

axiom_in : (s : Scope) (around : List Scope) (label : Word) (e : List Word) (t : Token) (m : Mark) (q : Position) → Says m t.text
    → in_place (there s around (in_axiom label e)) (in_axiom label e) t m ≡ Ok q
    → ((t.text ≡ codes "$.") × (one_or_more e ≡ true) × (home (behind s (asserted label e)) around ≡ q))
    ⊎ ((passes (symbol_tests s e t.text) ≡ true) × (there s around (in_axiom label (e ++ t.text ∷ [])) ≡ q))
axiom_in s around label (c ∷ e) t mark.End q is h = inl (is, one_at_least (length e), cc)
axiom_in s around label e t m q is h =
    inr (tested_ok t (symbol_tests s e t.text) (there s around (in_axiom label (e ++ t.text ∷ []))) q h)

pub axiom_go : (s : Scope) (around : List Scope) (label : Word)
    → Goes (λ e. there s around (in_axiom label e)) (symbol_tests s) (codes "$.") one_or_more
    (λ e. home (behind s (asserted label e)) around)
axiom_go s around label e t q h =
    axiom_in s around label e t (mark_of t.text) q (says t.text) (in_place_of (there s around (in_axiom label e)) t q h)

theorem_in : (s : Scope) (around : List Scope) (label : Word) (e : List Word) (t : Token) (m : Mark) (q : Position) → Says m t.text
    → in_place (there s around (in_theorem label e)) (in_theorem label e) t m ≡ Ok q
    → ((t.text ≡ codes "$=") × (one_or_more e ≡ true) × (there s around (in_steps label e []) ≡ q))
    ⊎ ((passes (symbol_tests s e t.text) ≡ true) × (there s around (in_theorem label (e ++ t.text ∷ [])) ≡ q))
theorem_in s around label (c ∷ e) t mark.Proof q is h = inl (is, one_at_least (length e), cc)
theorem_in s around label e t m q is h =
    inr (tested_ok t (symbol_tests s e t.text) (there s around (in_theorem label (e ++ t.text ∷ []))) q h)

pub theorem_go : (s : Scope) (around : List Scope) (label : Word)
    → Goes (λ e. there s around (in_theorem label e)) (symbol_tests s) (codes "$=") one_or_more (λ e. there s around (in_steps label e []))
theorem_go s around label e t q h =
    theorem_in s around label e t (mark_of t.text) q (says t.text) (in_place_of (there s around (in_theorem label e)) t q h)

-- ---- normal proofs

first_in : (b : Bool) (t : Token) (ts : Tests) (p r q : Position) → cond b (Ok p) (tested t ts (Ok r)) ≡ Ok q
    → ((b ≡ true) × (p ≡ q)) ⊎ ((b ≡ false) × (passes ts ≡ true) × (r ≡ q))
first_in true t ts p r q h = inl (refl, cc)
first_in false t ts p r q h = let o = tested_ok t ts r q h in inr (refl, o.0, o.1)

-- the first word of a proof: ( or a step
pub first_goes : (s : Scope) (around : List Scope) (label : Word) (e : List Word) (t : Token) (q : Position)
    → row (there s around (in_steps label e [])) t ≡ Ok q
    → ((t.text ≡ codes "(") × (there s around (in_labels label e []) ≡ q))
    ⊎ ((passes (step_tests s [] t.text) ≡ true) × (there s around (in_steps label e (t.text ∷ [])) ≡ q))
first_goes s around label e t q h =
    let p = there s around (in_steps label e []) in
    let m = there s around (in_labels label e []) in
    let n = there s around (in_steps label e (t.text ∷ [])) in
    elim (first_in (bytes_eq t.text (codes "(")) t (step_tests s [] t.text) m n q (in_place_of p t q h)) [
      | inl y ↦ inl (same_word t.text (codes "(") y.0, y.1)
      | inr x ↦ inr (x.1, x.2)
    ]

-- steps behind a first one
abbrev pub steps_enough : Scope → List Word → Word → List Word → Bool
steps_enough s e first ws = is_whole s e (normal (first ∷ ws))

step_in : (s : Scope) (around : List Scope) (label : Word) (e : List Word) (first : Word) (ws : List Word) (t : Token) (m : Mark)
    (q : Position) → Says m t.text
    → in_place (there s around (in_steps label e (first ∷ ws))) (in_steps label e (first ∷ ws)) t m ≡ Ok q
    → ((t.text ≡ codes "$.") × (steps_enough s e first ws ≡ true) × (home (behind s (proved label e (normal (first ∷ ws)))) around ≡ q))
    ⊎ ((passes (step_tests s (first ∷ ws) t.text) ≡ true) × (there s around (in_steps label e (first ∷ (ws ++ t.text ∷ []))) ≡ q))
step_in s around label e first ws t mark.End q is h =
    let after = home (behind s (proved label e (normal (first ∷ ws)))) around in
    let o = cond_ok (is_whole s e (normal (first ∷ ws))) t after q h in
    inl (is, o.0, o.1)
step_in s around label e first ws t m q is h =
    inr (tested_ok t (step_tests s (first ∷ ws) t.text) (there s around (in_steps label e (first ∷ (ws ++ t.text ∷ [])))) q h)

pub steps_go : (s : Scope) (around : List Scope) (label : Word) (e : List Word) (first : Word)
    → Goes (λ ws. there s around (in_steps label e (first ∷ ws))) (λ ws w. step_tests s (first ∷ ws) w) (codes "$.")
    (steps_enough s e first) (λ ws. home (behind s (proved label e (normal (first ∷ ws)))) around)
steps_go s around label e first ws t q h =
    step_in s around label e first ws t (mark_of t.text) q (says t.text)
    (in_place_of (there s around (in_steps label e (first ∷ ws))) t q h)

-- ---- compressed proofs

pub cited_go : (s : Scope) (around : List Scope) (label : Word) (e : List Word)
    → Goes (λ ws. there s around (in_labels label e ws)) (λ ws w. cited_tests s e w) (codes ")") (λ ws. true)
    (λ ws. there s around (in_letters label e ws []))
cited_go s around label e ws t q h =
    let p = there s around (in_labels label e ws) in
    let m = there s around (in_letters label e ws []) in
    let n = there s around (in_labels label e (ws ++ t.text ∷ [])) in
    elim (first_in (bytes_eq t.text (codes ")")) t (cited_tests s e t.text) m n q (in_place_of p t q h)) [
      | inl y ↦ inl (same_word t.text (codes ")") y.0, refl, y.1)
      | inr x ↦ inr (x.1, x.2)
    ]

abbrev pub letters_enough : Scope → List Word → List Word → List Word → Bool
letters_enough s e ws ls = one_or_more ls && is_whole s e (compressed ws ls)

letter_in : (s : Scope) (around : List Scope) (label : Word) (e ws ls : List Word) (t : Token) (m : Mark) (q : Position) → Says m t.text
    → in_place (there s around (in_letters label e ws ls)) (in_letters label e ws ls) t m ≡ Ok q
    → ((t.text ≡ codes "$.") × (letters_enough s e ws ls ≡ true) × (home (behind s (proved label e (compressed ws ls))) around ≡ q))
    ⊎ ((passes (letter_tests s e ws ls t.text) ≡ true) × (there s around (in_letters label e ws (ls ++ t.text ∷ [])) ≡ q))
letter_in s around label e ws (l ∷ ls) t mark.End q is h =
    let proof = compressed ws (l ∷ ls) in
    let o = cond_ok (is_whole s e proof) t (home (behind s (proved label e proof)) around) q h in
    inl (is, ap (λ b. b && is_whole s e proof) (one_at_least (length ls)) ∙ o.0, o.1)
letter_in s around label e ws ls t m q is h =
    inr (tested_ok t (letter_tests s e ws ls t.text) (there s around (in_letters label e ws (ls ++ t.text ∷ []))) q h)

pub letters_go : (s : Scope) (around : List Scope) (label : Word) (e ws : List Word)
    → Goes (λ ls. there s around (in_letters label e ws ls)) (letter_tests s e ws) (codes "$.") (letters_enough s e ws)
    (λ ls. home (behind s (proved label e (compressed ws ls))) around)
letters_go s around label e ws ls t q h =
    letter_in s around label e ws ls t (mark_of t.text) q (says t.text) (in_place_of (there s around (in_letters label e ws ls)) t q h)

-- ---- $f

pub type_goes : (s : Scope) (around : List Scope) (label : Word) (t : Token) (q : Position)
    → row (there s around (float_type label)) t ≡ Ok q
    → (passes (type_tests s t.text) ≡ true) × (there s around (float_variable label t.text) ≡ q)
type_goes s around label t q h =
    tested_ok t (type_tests s t.text) (there s around (float_variable label t.text)) q
    (in_place_of (there s around (float_type label)) t q h)

pub float_variable_goes : (s : Scope) (around : List Scope) (label c : Word) (t : Token) (q : Position)
    → row (there s around (float_variable label c)) t ≡ Ok q
    → (passes (float_tests s t.text) ≡ true) × (there s around (float_end label c t.text) ≡ q)
float_variable_goes s around label c t q h =
    tested_ok t (float_tests s t.text) (there s around (float_end label c t.text)) q
    (in_place_of (there s around (float_variable label c)) t q h)

float_end_in : (s : Scope) (around : List Scope) (label c v : Word) (t : Token) (m : Mark) (q : Position) → Says m t.text
    → in_place (there s around (float_end label c v)) (float_end label c v) t m ≡ Ok q
    → (t.text ≡ codes "$.") × (home (behind s (float label c v)) around ≡ q)
float_end_in s around label c v t mark.End q is h = (is, cc)
float_end_in s around label c v t m q is h = absurd cc

pub float_end_goes : (s : Scope) (around : List Scope) (label c v : Word) (t : Token) (q : Position)
    → row (there s around (float_end label c v)) t ≡ Ok q → (t.text ≡ codes "$.") × (home (behind s (float label c v)) around ≡ q)
float_end_goes s around label c v t q h =
    float_end_in s around label c v t (mark_of t.text) q (says t.text) (in_place_of (there s around (float_end label c v)) t q h)

-- ---- the keyword behind a label

pub data Labelled (s : Scope) (around : List Scope) (label t : Token) (q : Position) : Type 0 where
  of_float : t.text ≡ codes "$f" → passes (label_tests s label.text) ≡ true → there s around (float_type label.text) ≡ q
      → Labelled s around label t q
  of_hypothesis : t.text ≡ codes "$e" → passes (label_tests s label.text) ≡ true → there s around (in_hypothesis label.text []) ≡ q
      → Labelled s around label t q
  of_axiom : t.text ≡ codes "$a" → passes (label_tests s label.text) ≡ true → there s around (in_axiom label.text []) ≡ q
      → Labelled s around label t q
  of_theorem : t.text ≡ codes "$p" → passes (label_tests s label.text) ≡ true → there s around (in_theorem label.text []) ≡ q
      → Labelled s around label t q

keyword_in : (s : Scope) (around : List Scope) (label t : Token) (m : Mark) (q : Position) → Says m t.text
    → keyword_row (there s around (after_label label)) label t m ≡ Ok q → Labelled s around label t q
keyword_in s around label t mark.Floating q is h =
    let o = tested_ok label (label_tests s label.text) (there s around (float_type label.text)) q h in of_float is o.0 o.1
keyword_in s around label t mark.Essential q is h =
    let o = tested_ok label (label_tests s label.text) (there s around (in_hypothesis label.text [])) q h in of_hypothesis is o.0 o.1
keyword_in s around label t mark.Axiom q is h =
    let o = tested_ok label (label_tests s label.text) (there s around (in_axiom label.text [])) q h in of_axiom is o.0 o.1
keyword_in s around label t mark.Provable q is h =
    let o = tested_ok label (label_tests s label.text) (there s around (in_theorem label.text [])) q h in of_theorem is o.0 o.1
keyword_in s around label t m q is h = absurd cc

pub keyword_goes : (s : Scope) (around : List Scope) (label t : Token) (q : Position) → row (there s around (after_label label)) t ≡ Ok q
    → Labelled s around label t q
keyword_goes s around label t q h =
    keyword_in s around label t (mark_of t.text) q (says t.text) (in_place_of (there s around (after_label label)) t q h)

-- ---- the first word between statements

pub data Starts (s : Scope) (around : List Scope) (t : Token) (q : Position) : Type 0 where
  of_constants : t.text ≡ codes "$c" → s.outermost ≡ true → there s around (in_constants false) ≡ q → Starts s around t q
  of_variables : t.text ≡ codes "$v" → there s around (in_variables false) ≡ q → Starts s around t q
  of_distinct : t.text ≡ codes "$d" → there s around (in_distinct []) ≡ q → Starts s around t q
  of_block : t.text ≡ codes "${" → home (enter s) (s ∷ around) ≡ q → Starts s around t q
  of_end : (before : Scope) (outer : List Scope) → t.text ≡ codes "$}" → around ≡ before ∷ outer → home (leave before s) outer ≡ q
      → Starts s around t q
  of_label : is_label t.text ≡ true → there s around (after_label t) ≡ q → Starts s around t q

closing_in : (s : Scope) (around : List Scope) (t : Token) (q : Position) → t.text ≡ codes "$}" → closes t (closed_in s around) ≡ Ok q
    → Starts s around t q
closing_in s [] t q is h = absurd cc
closing_in s (before ∷ outer) t q is h = of_end before outer is refl cc

start_in : (s : Scope) (around : List Scope) (t : Token) (m : Mark) (q : Position) → Says m t.text → start_row (home s around) t m ≡ Ok q
    → Starts s around t q
start_in s around t mark.Constants q is h =
    let o = cond_ok s.outermost t (there s around (in_constants false)) q h in of_constants is o.0 o.1
start_in s around t mark.Variables q is h = of_variables is cc
start_in s around t mark.Disjoint q is h = of_distinct is cc
start_in s around t mark.Opening q is h = of_block is cc
start_in s around t mark.Closing q is h = closing_in s around t q is h
start_in s around t mark.Plain q is h = let o = cond_ok (is_label t.text) t (there s around (after_label t)) q h in of_label o.0 o.1
start_in s around t m q is h = absurd cc

pub start_goes : (s : Scope) (around : List Scope) (t : Token) (q : Position) → row (home s around) t ≡ Ok q → Starts s around t q
start_goes s around t q h = start_in s around t (mark_of t.text) q (says t.text) (in_place_of (home s around) t q h)
