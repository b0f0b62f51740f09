-- What passes its tests leads through the rows of the table: words of each list, labels, and the keywords that begin and end statements.
use Rattle.std.proofs.Common.{◌≡◌, ℕ, Bool, true, false, List, [], ◌∷◌, ◌++◌, length, Ok, refl, sym, ap, ◌∙◌}
use Rattle.std.specs.Prelude.{codes, nat_le}
use Rattle.std.specs.Str.{bytes_eq}
use Rattle.std.proofs.lemmas.Bool.{cond-true, cond-false}
use Rattle.mmtext.specs.declared.fault.FaultKind.TheVariants.{BadToken}
use Rattle.mmtext.specs.declared.mark.Mark.TheVariants as mark
use Rattle.mmtext.specs.Words.{Word, has_dollar, is_label}
use Rattle.mmtext.specs.Text.{Token, mark_of}
use Rattle.mmtext.specs.Languages.{fault}
use Rattle.mmtext.proofs.Marks.{mark_plain, label_plain}
use Rattle.mmsyntax.specs.Rows.{Tests}
use Rattle.source.specs.Statements.{normal, compressed, constants, variables, float, hypothesis, distinct, asserted, proved}
use Rattle.source.specs.Scopes.{Scope, enter, leave, behind}
use Rattle.source.specs.Tests.{passes, label_tests, type_tests, float_tests, distinct_tests, symbol_tests, step_tests, cited_tests}
use Rattle.source.specs.Tests.{letter_tests}
use Rattle.source.specs.Tests.{constant_tests, variable_tests, a_constant, a_variable, is_whole}
use Rattle.source.specs.Faults.{Place, after_label, in_constants, in_variables, in_distinct, float_type, float_variable, float_end}
use Rattle.source.specs.Faults.{in_hypothesis, in_axiom, in_theorem, in_steps, in_labels, in_letters, Position, Next, to, tested, faulted}
use Rattle.source.specs.Faults.{declares}
use Rattle.source.specs.Faults.{constant_row, variable_row, distinct_row, next_step, letters_row, in_place, row}
use Rattle.source.proofs.Passing.{no_fault, constant_plain, variable_plain, distinct_plain, symbol_plain}
use Rattle.source.proofs.Passing.{step_plain, letter_plain}
use Rattle.source.proofs.InOrder.{constants_at, variables_at, constant_tests_at, variable_tests_at, one_constant, one_variable, one_stands}
use Rattle.source.proofs.Labels.{HasLabels, step_apart, cited_apart}
use Rattle.source.proofs.Leading.{there, home}

-- ---- rows of words

-- a word without a $
plain_row : (p : Position) (t : Token) (r : Next) → has_dollar t.text ≡ false → in_place p p.place t mark.Plain ≡ r → row p t ≡ r
unfolding row
plain_row p t r h e = ap (in_place p p.place t) (mark_plain t.text h) ∙ e

-- a word that is known
word_row : (p : Position) (w : Word) (r : Next) (t : Token) → ((place : ℕ) → row p (record { place = place; text = w }) ≡ r) → t.text ≡ w
    → row p t ≡ r
word_row p w r t at e = ap (λ x. row p (record { place = t.place; text = x })) e ∙ at t.place

passed : (t : Token) (ts : Tests) (next : Next) → passes ts ≡ true → tested t ts next ≡ next
passed t ts next h = ap (λ o. faulted t o next) (no_fault ts h)

-- ---- $c and $v

abbrev pub constant_place : Scope → List Scope → List Word → Position
constant_place s around front = there (constants_at s front) around (in_constants (nat_le 1 (length front)))

constant_read : (p : Position) (b : Bool) (t : Token)
    → constant_row p b t mark.Plain
    ≡ tested t (constant_tests p.stand.scope t.text) (declares p (a_constant t.text) (in_constants true))
constant_read p true t = refl
constant_read p false t = refl

-- a symbol more
pub constant_next : (s : Scope) (around : List Scope) (front : List Word) (w : Word)
    → there (behind (constants_at s front) (a_constant w)) around (in_constants true) ≡ constant_place s around (front ++ w ∷ [])
constant_next s around front w =
    ap (λ x. there x around (in_constants true)) (one_constant s front w)
    ∙ ap (λ b. there (constants_at s (front ++ w ∷ [])) around (in_constants b)) (sym (one_stands front w))

pub constant_leads : (s : Scope) (around : List Scope) (front : List Word) (t : Token) → passes (constant_tests_at s front t.text) ≡ true
    → row (constant_place s around front) t ≡ Ok (constant_place s around (front ++ t.text ∷ []))
constant_leads s around front t h =
    let p = constant_place s around front in
    let w = t.text in
    plain_row p t (Ok (constant_place s around (front ++ w ∷ []))) (constant_plain (constants_at s front) w h)
    (constant_read p (nat_le 1 (length front)) t
    ∙ passed t (constant_tests_at s front w) (declares p (a_constant w) (in_constants true)) h
    ∙ ap (λ x. Ok x) (constant_next s around front w))

abbrev pub variable_place : Scope → List Scope → List Word → Position
variable_place s around front = there (variables_at s front) around (in_variables (nat_le 1 (length front)))

variable_read : (p : Position) (b : Bool) (t : Token)
    → variable_row p b t mark.Plain
    ≡ tested t (variable_tests p.stand.scope t.text) (declares p (a_variable t.text) (in_variables true))
variable_read p true t = refl
variable_read p false t = refl

-- a symbol more
pub variable_next : (s : Scope) (around : List Scope) (front : List Word) (w : Word)
    → there (behind (variables_at s front) (a_variable w)) around (in_variables true) ≡ variable_place s around (front ++ w ∷ [])
variable_next s around front w =
    ap (λ x. there x around (in_variables true)) (one_variable s front w)
    ∙ ap (λ b. there (variables_at s (front ++ w ∷ [])) around (in_variables b)) (sym (one_stands front w))

pub variable_leads : (s : Scope) (around : List Scope) (front : List Word) (t : Token) → passes (variable_tests_at s front t.text) ≡ true
    → row (variable_place s around front) t ≡ Ok (variable_place s around (front ++ t.text ∷ []))
variable_leads s around front t h =
    let p = variable_place s around front in
    let w = t.text in
    plain_row p t (Ok (variable_place s around (front ++ w ∷ []))) (variable_plain (variables_at s front) w h)
    (variable_read p (nat_le 1 (length front)) t
    ∙ passed t (variable_tests_at s front w) (declares p (a_variable w) (in_variables true)) h
    ∙ ap (λ x. Ok x) (variable_next s around front w))

pub constants_end : (s : Scope) (around : List Scope) (ws : List Word) (t : Token) → nat_le 1 (length ws) ≡ true → t.text ≡ codes "$."
    → row (constant_place s around ws) t ≡ Ok (home (behind s (constants ws)) around)
unfolding row mark_of
constants_end s around ws t some e =
    let scope = constants_at s ws in
    ap (λ b. row (there scope around (in_constants b)) t) some
    ∙ word_row (there scope around (in_constants true)) (codes "$.") (Ok (home scope around)) t (λ place. refl) e

pub variables_end : (s : Scope) (around : List Scope) (ws : List Word) (t : Token) → nat_le 1 (length ws) ≡ true → t.text ≡ codes "$."
    → row (variable_place s around ws) t ≡ Ok (home (behind s (variables ws)) around)
unfolding row mark_of
variables_end s around ws t some e =
    let scope = variables_at s ws in
    ap (λ b. row (there scope around (in_variables b)) t) some
    ∙ word_row (there scope around (in_variables true)) (codes "$.") (Ok (home scope around)) t (λ place. refl) e

-- ---- $d

distinct_read : (p : Position) (vs : List Word) (t : Token)
    → distinct_row p vs t mark.Plain ≡ tested t (distinct_tests p.stand.scope vs t.text) (to p (in_distinct (vs ++ t.text ∷ [])))
distinct_read p [] t = refl
distinct_read p (v ∷ []) t = refl
distinct_read p (v ∷ w ∷ vs) t = refl

pub distinct_leads : (s : Scope) (around : List Scope) (front : List Word) (t : Token) → passes (distinct_tests s front t.text) ≡ true
    → row (there s around (in_distinct front)) t ≡ Ok (there s around (in_distinct (front ++ t.text ∷ [])))
distinct_leads s around front t h =
    let p = there s around (in_distinct front) in
    let next = there s around (in_distinct (front ++ t.text ∷ [])) in
    plain_row p t (Ok next) (distinct_plain s front t.text h)
    (distinct_read p front t ∙ passed t (distinct_tests s front t.text) (Ok next) h)

pub distinct_end : (s : Scope) (around : List Scope) (vs : List Word) (t : Token) → nat_le 2 (length vs) ≡ true → t.text ≡ codes "$."
    → row (there s around (in_distinct vs)) t ≡ Ok (home (behind s (distinct vs)) around)
unfolding row mark_of
distinct_end s around [] t some e = absurd (let x : false ≡ true = some in cc)
distinct_end s around (v ∷ []) t some e = absurd (let x : false ≡ true = some in cc)
distinct_end s around (v ∷ w ∷ vs) t some e =
    word_row (there s around (in_distinct (v ∷ w ∷ vs))) (codes "$.") (Ok (home (behind s (distinct (v ∷ w ∷ vs))) around)) t
    (λ place. refl) e

-- ---- the symbols of $e, $a and $p

-- at these places a word without a $ is a symbol
abbrev pub ReadsSymbols : (List Word → Place) → Type 0
ReadsSymbols place =
    (p : Position) (e : List Word) (t : Token)
    → in_place p (place e) t mark.Plain ≡ tested t (symbol_tests p.stand.scope e t.text) (to p (place (e ++ t.text ∷ [])))

pub hypothesis_symbols : (label : Word) → ReadsSymbols (λ e. in_hypothesis label e)
hypothesis_symbols label p [] t = refl
hypothesis_symbols label p (c ∷ e) t = refl

pub axiom_symbols : (label : Word) → ReadsSymbols (λ e. in_axiom label e)
axiom_symbols label p [] t = refl
axiom_symbols label p (c ∷ e) t = refl

pub theorem_symbols : (label : Word) → ReadsSymbols (λ e. in_theorem label e)
theorem_symbols label p [] t = refl
theorem_symbols label p (c ∷ e) t = refl

pub symbol_leads : (place : List Word → Place) → ReadsSymbols place → (s : Scope) (around : List Scope) (front : List Word) (t : Token)
    → passes (symbol_tests s front t.text) ≡ true
    → row (there s around (place front)) t ≡ Ok (there s around (place (front ++ t.text ∷ [])))
symbol_leads place reads s around front t h =
    let p = there s around (place front) in
    let next = there s around (place (front ++ t.text ∷ [])) in
    plain_row p t (Ok next) (symbol_plain s front t.text h) (reads p front t ∙ passed t (symbol_tests s front t.text) (Ok next) h)

pub hypothesis_end : (s : Scope) (around : List Scope) (label : Word) (ws : List Word) (t : Token) → nat_le 1 (length ws) ≡ true
    → t.text ≡ codes "$." → row (there s around (in_hypothesis label ws)) t ≡ Ok (home (behind s (hypothesis label ws)) around)
unfolding row mark_of
hypothesis_end s around label [] t some e = absurd (let x : false ≡ true = some in cc)
hypothesis_end s around label (c ∷ ws) t some e =
    word_row (there s around (in_hypothesis label (c ∷ ws))) (codes "$.") (Ok (home (behind s (hypothesis label (c ∷ ws))) around)) t
    (λ place. refl) e

pub axiom_end : (s : Scope) (around : List Scope) (label : Word) (ws : List Word) (t : Token) → nat_le 1 (length ws) ≡ true
    → t.text ≡ codes "$." → row (there s around (in_axiom label ws)) t ≡ Ok (home (behind s (asserted label ws)) around)
unfolding row mark_of
axiom_end s around label [] t some e = absurd (let x : false ≡ true = some in cc)
axiom_end s around label (c ∷ ws) t some e =
    word_row (there s around (in_axiom label (c ∷ ws))) (codes "$.") (Ok (home (behind s (asserted label (c ∷ ws))) around)) t
    (λ place. refl) e

pub theorem_end : (s : Scope) (around : List Scope) (label : Word) (ws : List Word) (t : Token) → nat_le 1 (length ws) ≡ true
    → t.text ≡ codes "$=" → row (there s around (in_theorem label ws)) t ≡ Ok (there s around (in_steps label ws []))
unfolding row mark_of
theorem_end s around label [] t some e = absurd (let x : false ≡ true = some in cc)
theorem_end s around label (c ∷ ws) t some e =
    word_row (there s around (in_theorem label (c ∷ ws))) (codes "$=") (Ok (there s around (in_steps label (c ∷ ws) []))) t
    (λ place. refl) e

-- ---- normal proofs

step_read : (s : Scope) (around : List Scope) (label : Word) (e front : List Word) (t : Token) → bytes_eq t.text (codes "(") ≡ false
    → in_place (there s around (in_steps label e front)) (in_steps label e front) t mark.Plain
    ≡ next_step (there s around (in_steps label e front)) label e front t
step_read s around label e [] t apart =
    let p = there s around (in_steps label e []) in
    cond-false (bytes_eq t.text (codes "(")) (to p (in_labels label e [])) (next_step p label e [] t) apart
step_read s around label e (w ∷ ws) t apart = refl

pub step_leads : (s : Scope) → HasLabels s → (around : List Scope) (label : Word) (e front : List Word) (t : Token)
    → passes (step_tests s front t.text) ≡ true
    → row (there s around (in_steps label e front)) t ≡ Ok (there s around (in_steps label e (front ++ t.text ∷ [])))
step_leads s labels around label e front t h =
    let p = there s around (in_steps label e front) in
    let next = there s around (in_steps label e (front ++ t.text ∷ [])) in
    plain_row p t (Ok next) (step_plain s front t.text h)
    (step_read s around label e front t (step_apart s front t.text labels h) ∙ passed t (step_tests s front t.text) (Ok next) h)

pub steps_end : (s : Scope) (around : List Scope) (label : Word) (e ws : List Word) (t : Token) → nat_le 1 (length ws) ≡ true
    → is_whole s e (normal ws) ≡ true → t.text ≡ codes "$."
    → row (there s around (in_steps label e ws)) t ≡ Ok (home (behind s (proved label e (normal ws))) around)
unfolding row mark_of
steps_end s around label e [] t some finished is = absurd (let x : false ≡ true = some in cc)
steps_end s around label e (w ∷ ws) t some finished is =
    let after = home (behind s (proved label e (normal (w ∷ ws)))) around in
    let proof = normal (w ∷ ws) in
    word_row (there s around (in_steps label e (w ∷ ws))) (codes "$.") (Ok after) t
    (λ place. cond-true (is_whole s e proof) (Ok after) (fault (record { place = place; text = codes "$." }) BadToken) finished) is

-- ---- compressed proofs

pub labels_begin : (s : Scope) (around : List Scope) (label : Word) (e : List Word) (t : Token) → t.text ≡ codes "("
    → row (there s around (in_steps label e [])) t ≡ Ok (there s around (in_labels label e []))
unfolding row mark_of
labels_begin s around label e t is =
    word_row (there s around (in_steps label e [])) (codes "(") (Ok (there s around (in_labels label e []))) t (λ place. refl) is

pub cited_leads : (s : Scope) → HasLabels s → (around : List Scope) (label : Word) (e front : List Word) (t : Token)
    → passes (cited_tests s e t.text) ≡ true
    → row (there s around (in_labels label e front)) t ≡ Ok (there s around (in_labels label e (front ++ t.text ∷ [])))
unfolding row
cited_leads s labels around label e front t h =
    let p = there s around (in_labels label e front) in
    let next = Ok (there s around (in_labels label e (front ++ t.text ∷ []))) in
    cond-false (bytes_eq t.text (codes ")")) (to p (in_letters label e front [])) (tested t (cited_tests s e t.text) next)
    (cited_apart s e t.text labels h)
    ∙ passed t (cited_tests s e t.text) next h

pub labels_end : (s : Scope) (around : List Scope) (label : Word) (e ws : List Word) (t : Token) → t.text ≡ codes ")"
    → row (there s around (in_labels label e ws)) t ≡ Ok (there s around (in_letters label e ws []))
unfolding row mark_of
labels_end s around label e ws t is =
    word_row (there s around (in_labels label e ws)) (codes ")") (Ok (there s around (in_letters label e ws []))) t (λ place. refl) is

letters_read : (p : Position) (label : Word) (e ws front : List Word) (t : Token)
    → letters_row p label e ws front t mark.Plain
    ≡ tested t (letter_tests p.stand.scope e ws front t.text) (to p (in_letters label e ws (front ++ t.text ∷ [])))
letters_read p label e ws [] t = refl
letters_read p label e ws (l ∷ ls) t = refl

pub letters_lead : (s : Scope) (around : List Scope) (label : Word) (e ws front : List Word) (t : Token)
    → passes (letter_tests s e ws front t.text) ≡ true
    → row (there s around (in_letters label e ws front)) t ≡ Ok (there s around (in_letters label e ws (front ++ t.text ∷ [])))
letters_lead s around label e ws front t h =
    let p = there s around (in_letters label e ws front) in
    let next = there s around (in_letters label e ws (front ++ t.text ∷ [])) in
    plain_row p t (Ok next) (letter_plain s e ws front t.text h)
    (letters_read p label e ws front t ∙ passed t (letter_tests s e ws front t.text) (Ok next) h)

pub letters_end : (s : Scope) (around : List Scope) (label : Word) (e ws ls : List Word) (t : Token) → nat_le 1 (length ls) ≡ true
    → is_whole s e (compressed ws ls) ≡ true → t.text ≡ codes "$."
    → row (there s around (in_letters label e ws ls)) t ≡ Ok (home (behind s (proved label e (compressed ws ls))) around)
unfolding row mark_of
letters_end s around label e ws [] t some finished is = absurd (let x : false ≡ true = some in cc)
letters_end s around label e ws (l ∷ ls) t some finished is =
    let after = home (behind s (proved label e (compressed ws (l ∷ ls)))) around in
    let proof = compressed ws (l ∷ ls) in
    word_row (there s around (in_letters label e ws (l ∷ ls))) (codes "$.") (Ok after) t
    (λ place. cond-true (is_whole s e proof) (Ok after) (fault (record { place = place; text = codes "$." }) BadToken) finished) is

-- ---- $f

pub type_leads : (s : Scope) (around : List Scope) (label w : Word) (t : Token) → passes (type_tests s w) ≡ true → t.text ≡ w
    → row (there s around (float_type label)) t ≡ Ok (there s around (float_variable label w))
unfolding row
type_leads s around label w t h is =
    passed t (type_tests s t.text) (Ok (there s around (float_variable label t.text))) (ap (λ x. passes (type_tests s x)) is ∙ h)
    ∙ ap (λ x. Ok (there s around (float_variable label x))) is

pub float_variable_leads : (s : Scope) (around : List Scope) (label c w : Word) (t : Token) → passes (float_tests s w) ≡ true → t.text ≡ w
    → row (there s around (float_variable label c)) t ≡ Ok (there s around (float_end label c w))
unfolding row
float_variable_leads s around label c w t h is =
    passed t (float_tests s t.text) (Ok (there s around (float_end label c t.text))) (ap (λ x. passes (float_tests s x)) is ∙ h)
    ∙ ap (λ x. Ok (there s around (float_end label c x))) is

pub float_ends : (s : Scope) (around : List Scope) (label c v : Word) (t : Token) → t.text ≡ codes "$."
    → row (there s around (float_end label c v)) t ≡ Ok (home (behind s (float label c v)) around)
unfolding row mark_of
float_ends s around label c v t is =
    word_row (there s around (float_end label c v)) (codes "$.") (Ok (home (behind s (float label c v)) around)) t (λ place. refl) is

-- ---- labels and their keywords

pub label_leads : (s : Scope) (around : List Scope) (w : Word) (t : Token) → is_label w ≡ true → t.text ≡ w
    → row (home s around) t ≡ Ok (there s around (after_label t))
label_leads s around w t h is =
    let y : is_label t.text ≡ true = ap is_label is ∙ h in
    plain_row (home s around) t (Ok (there s around (after_label t))) (label_plain t.text y)
    (cond-true (is_label t.text) (Ok (there s around (after_label t))) (fault t BadToken) y)

-- behind a label these keywords lead to such a place, where the label may be declared
abbrev pub IsKeyword : Word → (Word → Place) → Type 0
IsKeyword keyword place =
    (s : Scope) (around : List Scope) (label t : Token) → t.text ≡ keyword
    → row (there s around (after_label label)) t ≡ tested label (label_tests s label.text) (Ok (there s around (place label.text)))

pub float_keyword : IsKeyword (codes "$f") (λ w. float_type w)
unfolding row mark_of
float_keyword s around label t is =
    word_row (there s around (after_label label)) (codes "$f")
    (tested label (label_tests s label.text) (Ok (there s around (float_type label.text)))) t (λ place. refl) is

pub hypothesis_keyword : IsKeyword (codes "$e") (λ w. in_hypothesis w [])
unfolding row mark_of
hypothesis_keyword s around label t is =
    word_row (there s around (after_label label)) (codes "$e")
    (tested label (label_tests s label.text) (Ok (there s around (in_hypothesis label.text [])))) t (λ place. refl) is

pub axiom_keyword : IsKeyword (codes "$a") (λ w. in_axiom w [])
unfolding row mark_of
axiom_keyword s around label t is =
    word_row (there s around (after_label label)) (codes "$a")
    (tested label (label_tests s label.text) (Ok (there s around (in_axiom label.text [])))) t (λ place. refl) is

pub theorem_keyword : IsKeyword (codes "$p") (λ w. in_theorem w [])
unfolding row mark_of
theorem_keyword s around label t is =
    word_row (there s around (after_label label)) (codes "$p")
    (tested label (label_tests s label.text) (Ok (there s around (in_theorem label.text [])))) t (λ place. refl) is

pub keyword_leads : (keyword : Word) (place : Word → Place) → IsKeyword keyword place → (s : Scope) (around : List Scope) (w : Word)
    → passes (label_tests s w) ≡ true → (label t : Token) → label.text ≡ w → t.text ≡ keyword
    → row (there s around (after_label label)) t ≡ Ok (there s around (place w))
keyword_leads keyword place leads s around w h label t el is =
    leads s around label t is
    ∙ passed label (label_tests s label.text) (Ok (there s around (place label.text))) (ap (λ x. passes (label_tests s x)) el ∙ h)
    ∙ ap (λ x. Ok (there s around (place x))) el

-- ---- keywords between statements

pub constants_begin : (s : Scope) (around : List Scope) (t : Token) → s.outermost ≡ true → t.text ≡ codes "$c"
    → row (home s around) t ≡ Ok (there s around (in_constants false))
unfolding row mark_of
constants_begin s around t outer is =
    let next = Ok (there s around (in_constants false)) in
    word_row (home s around) (codes "$c") next t
    (λ place. cond-true s.outermost next (fault (record { place = place; text = codes "$c" }) BadToken) outer) is

pub variables_begin : (s : Scope) (around : List Scope) (t : Token) → t.text ≡ codes "$v"
    → row (home s around) t ≡ Ok (there s around (in_variables false))
unfolding row mark_of
variables_begin s around t is = word_row (home s around) (codes "$v") (Ok (there s around (in_variables false))) t (λ place. refl) is

pub distinct_begin : (s : Scope) (around : List Scope) (t : Token) → t.text ≡ codes "$d"
    → row (home s around) t ≡ Ok (there s around (in_distinct []))
unfolding row mark_of
distinct_begin s around t is = word_row (home s around) (codes "$d") (Ok (there s around (in_distinct []))) t (λ place. refl) is

pub opens : (s : Scope) (around : List Scope) (t : Token) → t.text ≡ codes "${"
    → row (home s around) t ≡ Ok (home (enter s) (s ∷ around))
unfolding row mark_of
opens s around t is = word_row (home s around) (codes "${") (Ok (home (enter s) (s ∷ around))) t (λ place. refl) is

pub closes : (s before : Scope) (around : List Scope) (t : Token) → t.text ≡ codes "$}"
    → row (home s (before ∷ around)) t ≡ Ok (home (leave before s) around)
unfolding row mark_of
closes s before around t is = word_row (home s (before ∷ around)) (codes "$}") (Ok (home (leave before s) around)) t (λ place. refl) is
