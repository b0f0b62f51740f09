-- The rows of a script at its words, in both directions.
use Rattle.std.proofs.Common.{◌≡◌, ◌≢◌, ℕ, ◌^◌, ◌<◌, ◌≤◌, Bool, true, false, cond, ltb, leb, List, [], ◌∷◌, ◌++◌, length, Option, Some}
use Rattle.std.proofs.Common.{None, Result, Ok, Err, refl, sym, ap, subst, ◌∙◌, arith}
use Rattle.std.specs.Prelude.{codes}
use Rattle.std.specs.Str.{bytes_eq}
use Rattle.std.specs.Str.Parse.{digits_value}
use Rattle.std.proofs.lemmas.Bool.{cond-true, cond-false}
use Rattle.std.proofs.lemmas.Bool.Decides.{nat_tests}
use Rattle.mmtext.specs.declared.fault.FaultKind.{FaultKind}
use Rattle.mmtext.specs.declared.fault.FaultKind.TheVariants.{BadToken, BadLabel, LabelClashes, TooLong, OutOfProfile}
use Rattle.mmtext.specs.declared.fault.TextFault.{TextFault}
use Rattle.mmtext.specs.declared.mark.Mark.{Mark}
use Rattle.mmtext.specs.declared.mark.Mark.TheVariants as mark
use Rattle.mmtext.specs.Text.{Token, mark_of}
use Rattle.mmtext.specs.Words.{Word, has_dollar}
use Rattle.mmtext.specs.Languages.{fault}
use Rattle.walks.proofs.Walks.{same_word}
use Rattle.mmsyntax.specs.declared.statement.Step.{Step}
use Rattle.mmsyntax.specs.declared.statement.Step.TheVariants.{Float, Hyp, Cite}
use Rattle.mmsyntax.specs.declared.statement.Assertion.{Assertion}
use Rattle.mmsyntax.specs.Assertions.{CitesApart}
use Rattle.mmsyntax.specs.Dotted.{is_dotted}
use Rattle.mmsyntax.specs.Tables.{Tables, meaning}
use Rattle.mmsyntax.specs.Rows.{first_fault}
use Rattle.mmsyntax.specs.Faults.{Position}
use Rattle.mmsyntax.specs.Steps.{step_tests, float_named, step_named, unless_faulty}
use Rattle.mmsyntax.proofs.Found.{no_fault}
use Rattle.mmsyntax.proofs.Sound.{cond_none, if_ok}
use Rattle.statementreader.proofs.Keywords.{Says, says}
use Rattle.library.specs.declared.command.Command.{Command}
use Rattle.library.specs.declared.command.Command.TheVariants as command
use Rattle.library.specs.Fitting.{highest_rank}
use Rattle.scripts.specs.declared.script.place.Verb.{Verb}
use Rattle.scripts.specs.declared.script.place.Verb.TheVariants as verb
use Rattle.scripts.specs.Scripts.{IsRank, other_step_of, Part, a_word, a_rank, a_unit, a_proof, parts}
use Rattle.scripts.specs.ScriptFaults.{CommandPlace, at_end, at_label, at_rank, in_unit, at_proof, in_proof, Place, outermost, Progress}
use Rattle.scripts.specs.ScriptFaults.{Led, inside, whole_command, bad, to}
use Rattle.scripts.specs.ScriptFaults.{label_row, is_numeral, rank_row, unit_start, proof_start, step_led}
use Rattle.scripts.specs.ScriptFaults.{unit_led, unit_row, step_row, behind_verb, verb_of, verb_row, command_word, at, led, command_row}
use Rattle.mmtext.specs.declared.fault.Stop.{Stop}
use Rattle.mmtext.specs.declared.fault.Stop.TheVariants as stop
use Rattle.mmtext.specs.Views.{Fails}
use Rattle.scripts.specs.ScriptViews.{rank_at, decided, place_numbered, TakesInCommand}
use Rattle.statementreader.specs.Takings.{TakesItem, pushed}
use Rattle.statementreader.specs.UnitReadings.{UnitReading, position_of}
use Rattle.statementreader.specs.UnitViews.{TakesInUnit}
use Rattle.mmtext.proofs.Marks.{mark_plain}
use Rattle.mmsyntax.proofs.Numerals.{decimal_value, digits_lack}
use Rattle.scripts.proofs.Numerals.{numeral_decimal, decimal_numeral, numeral_digits}

abbrev pub Script : Type 0
Script = List (List Command)

abbrev pub progress : Script → Place → Progress
progress script place = record { script = script; place = place }

-- ---- words

below_64 : (n : ℕ) → n ≤ 4294967295 → n < 2 ^ 64
below_64 n h = omega arith

pub rank_numeral : (w : Word) (rank : ℕ) → IsRank w rank → is_numeral w ≡ true
rank_numeral w rank r = ap is_numeral r.digits ∙ decimal_numeral rank (below_64 rank r.small)

pub rank_value : (w : Word) (rank : ℕ) → IsRank w rank → digits_value 10 w ≡ rank
rank_value w rank r = ap (digits_value 10) r.digits ∙ decimal_value rank (below_64 rank r.small)

pub rank_plain : (w : Word) (rank : ℕ) → IsRank w rank → has_dollar w ≡ false
rank_plain w rank r = digits_lack 36 w (omega arith) (numeral_digits w (rank_numeral w rank r))

-- the tests of a step that passed
pub record StepPasses (count : ℕ) (w : Word) : Type 0 where
  pub plain : has_dollar w ≡ false
  pub room : leb 16384 count ≡ false

pub step_passes : (t : Tables) (label w : Word) (count : ℕ) (s : Step) → other_step_of t label count w ≡ Ok s → StepPasses count w
unfolding other_step_of
step_passes t label w count s h =
    let none = (no_fault (first_fault (step_tests count w)) _ s h).0 in
    let one = cond_none _ OutOfProfile _ none in
    let two = cond_none (has_dollar w) BadToken _ one.1 in
    let three = cond_none _ BadToken _ two.1 in
    record { plain = two.0; room = (cond_none (leb 16384 count) TooLong None three.1).0 }

named_apart : (label w : Word) (f h : Option ℕ) (s : Step) → step_named label w f h ≡ Ok s → CitesApart label s
named_apart label w (Some j) h s n = subst (CitesApart label) (let e : Float j ≡ s = cc in e) tt
named_apart label w None (Some i) s n = subst (CitesApart label) (let e : Hyp i ≡ s = cc in e) tt
named_apart label w None None s n =
    let short = if_ok (ltb 255 (length w)) BadLabel _ s n in
    let apart = if_ok (is_dotted label w) LabelClashes (Ok (Cite w)) s short.1 in
    let same : Cite w ≡ s = let e : Ok (Cite w) ≡ Ok s = apart.1 in cc in
    subst (CitesApart label) same apart.0

-- a step of another proof of L cites no L.k
pub step_apart : (t : Tables) (label w : Word) (count : ℕ) (s : Step) → other_step_of t label count w ≡ Ok s → CitesApart label s
unfolding other_step_of
step_apart t label w count s h = named_apart label w _ _ s (no_fault (first_fault (step_tests count w)) _ s h).1

-- ---- what a row says, where what it leads to has a property

pub cond_case : {A : Type 0} (Q : A → Type 0) (b : Bool) (x y : A) → (b ≡ true → Q x) → (b ≡ false → Q y) → Q (cond b x y)
cond_case Q true x y p q = p refl
cond_case Q false x y p q = q refl

pub label_case : (Q : Led → Type 0) (u : Token) (behind : Word → CommandPlace) → (has_dollar u.text ≡ false → Q (to (behind u.text)))
    → Q (bad BadToken) → Q (label_row u behind)
label_case Q u behind p q = cond_case Q (has_dollar u.text) (bad BadToken) (to (behind u.text)) (λ _. q) p

low_rank : (n : ℕ) → ltb highest_rank n ≡ false → n ≤ highest_rank
low_rank n h = grind (arith, nat_tests)

pub rank_case : (Q : Led → Type 0) (u : Token) (behind : ℕ → CommandPlace)
    → ((rank : ℕ) → IsRank u.text rank → Q (to (behind rank))) → ((kind : FaultKind) → Q (bad kind)) → Q (rank_row u behind)
rank_case Q u behind p q =
    let n = digits_value 10 u.text in
    cond_case Q (is_numeral u.text) (cond (ltb highest_rank n) (bad TooLong) (to (behind n))) (bad BadToken)
    (λ is. cond_case Q (ltb highest_rank n) (bad TooLong) (to (behind n)) (λ _. q TooLong)
    (λ low. let small = low_rank n low in
    p n (record { digits = sym (numeral_decimal u.text is (below_64 n small)); small = small })))
    (λ _. q BadToken)

pub proof_case : (Q : Led → Type 0) (label : Word) (made : List Step → Command) (w : Word)
    → (w ≡ codes "$=" → Q (inside (in_proof label made []))) → Q (bad BadToken) → Q (proof_start label made (mark_of w))
proof_case Q label made w p q = go (mark_of w) refl
  where
    go : (m : Mark) → mark_of w ≡ m → Q (proof_start label made m)
    go mark.Proof e = p (subst (λ m. Says m w) e (says w))
    go m e = q

pub step_case : (Q : Led → Type 0) (t : Tables) (label : Word) (made : List Step → Command) (front : List Step) (u : Token)
    → (front ≢ [] → u.text ≡ codes "$." → Q (whole_command (made front)))
    → Q (step_led label made front (other_step_of t label (length front) u.text)) → Q (step_row t label made front u (mark_of u.text))
step_case Q t label made front u p q = go front refl (mark_of u.text) refl
  where
    go : (f : List Step) → front ≡ f → (m : Mark) → mark_of u.text ≡ m → Q (step_row t label made f u m)
    go [] e m g = subst (λ f. Q (step_led label made f (other_step_of t label (length f) u.text))) e q
    go (s ∷ f) e mark.End g =
        subst (λ x. Q (whole_command (made x))) e
        (p (λ none. let z : s ∷ f ≡ [] = sym e ∙ none in absurd cc) (subst (λ m. Says m u.text) g (says u.text)))
    go (s ∷ f) e m g = subst (λ x. Q (step_led label made x (other_step_of t label (length x) u.text))) e q

-- ---- commands

-- a command that is whole behind parts and what is wanted at a place has these parts in this order
abbrev pub Tells : Tables → List Part → CommandPlace → Type 0
Tells t front (at_end c) = parts c ≡ front
Tells t front (at_label behind) = (label : Word) → Tells t (front ++ a_word label ∷ []) (behind label)
Tells t front (at_rank behind) = (rank : ℕ) → Tells t (front ++ a_rank rank ∷ []) (behind rank)
Tells t front (in_unit made p) = (p ≡ unit_start t) × ((a : Assertion) → parts (made a) ≡ front ++ a_unit a ∷ [])
Tells t front (at_proof label made) = (steps : List Step) → parts (made steps) ≡ front ++ a_proof label steps ∷ []
Tells t front (in_proof label made steps) = ⊥

-- so does one whose word is read
pub verb_case : (Q : Led → Type 0) (t : Tables) (w : Word)
    → ((p : CommandPlace) → has_dollar w ≡ false → Tells t (a_word w ∷ []) p → Q (to p)) → Q (bad BadToken) → Q (command_word t w)
verb_case Q t w p q =
    among (codes "add") refl verb.Add (λ n. (refl, λ a. refl)) _
    (among (codes "reprove") refl verb.Reprove (λ label steps. refl) _
    (among (codes "replace") refl verb.Replace (λ label old new. refl) _
    (among (codes "rename") refl verb.Rename (λ old new. refl) _
    (among (codes "move") refl verb.Move (λ label n. refl) _
    (among (codes "delete") refl verb.Delete (λ label. refl) _
    (among (codes "show") refl verb.Show (λ label. refl) _
    (among (codes "list") refl verb.List refl None q)))))))
  where
    among : (name : Word) → has_dollar name ≡ false → (v : Verb) → Tells t (a_word name ∷ []) (behind_verb t v) → (o : Option Verb)
        → Q (verb_row t o) → Q (verb_row t (cond (bytes_eq w name) (Some v) o))
    among name plain v tells o other =
        cond_case (λ x. Q (verb_row t x)) (bytes_eq w name) (Some v) o
        (λ y.
        let e = sym (same_word w name y) in
        p (behind_verb t v) (subst (λ x. has_dollar x ≡ false) e plain) (subst (λ x. Tells t (a_word x ∷ []) (behind_verb t v)) e tells))
        (λ _. other)

-- a place leads by parts to a command
abbrev pub Makes : Tables → CommandPlace → List Part → Command → Type 0
Makes t (at_end x) [] c = x ≡ c
Makes t (at_label behind) (a_word w ∷ ps) c = Makes t (behind w) ps c
Makes t (at_rank behind) (a_rank n ∷ ps) c = Makes t (behind n) ps c
Makes t (in_unit made p) (a_unit a ∷ []) c = (p ≡ unit_start t) × (made a ≡ c)
Makes t (at_proof label made) (a_proof l steps ∷ []) c = (l ≡ label) × (made steps ≡ c)
Makes _ _ _ _ = ⊥

-- the word of a command and its other parts, by which it leads to the command
abbrev pub Begins : Tables → Command → Type 0
Begins t c =
    (w : Word) × (ps : List Part) × (v : Verb) × (parts c ≡ a_word w ∷ ps) × (verb_of w ≡ Some v) × (bytes_eq w (codes "commit") ≡ false)
    × Makes t (behind_verb t v) ps c

pub begins : (t : Tables) (c : Command) → Begins t c
begins t (command.Add rank a) = (_, _, _, refl, refl, refl, (refl, refl))
begins t (command.Reprove label steps) = (_, _, _, refl, refl, refl, (refl, refl))
begins t c = (_, _, _, refl, refl, refl, refl)

-- ---- where a row leads at a word

pub label_led : (u : Token) (w : Word) (behind : Word → CommandPlace) → has_dollar w ≡ false → u.text ≡ w
    → label_row u behind ≡ to (behind w)
label_led u w behind plain e =
    cond-false (has_dollar u.text) (bad BadToken) (to (behind u.text)) (ap has_dollar e ∙ plain) ∙ ap (λ x. to (behind x)) e

high_rank : (n : ℕ) → n ≤ highest_rank → ltb highest_rank n ≡ false
high_rank n h = grind (arith, nat_tests)

pub rank_led : (u : Token) (w : Word) (rank : ℕ) (behind : ℕ → CommandPlace) → IsRank w rank → u.text ≡ w
    → rank_row u behind ≡ to (behind rank)
rank_led u w rank behind r e =
    let n = digits_value 10 u.text in
    let value : n ≡ rank = ap (digits_value 10) e ∙ rank_value w rank r in
    let small : n ≤ highest_rank = let le : rank ≤ highest_rank = r.small in omega arith in
    cond-true (is_numeral u.text) (cond (ltb highest_rank n) (bad TooLong) (to (behind n))) (bad BadToken)
    (ap is_numeral e ∙ rank_numeral w rank r)
    ∙ cond-false (ltb highest_rank n) (bad TooLong) (to (behind n)) (high_rank n small) ∙ ap (λ x. to (behind x)) value

pub step_end : (t : Tables) (label : Word) (made : List Step → Command) (front : List Step) (u : Token) → front ≢ []
    → step_row t label made front u mark.End ≡ whole_command (made front)
step_end t label made [] u n = absurd (n refl)
step_end t label made (s ∷ front) u n = refl

pub step_plain : (t : Tables) (label : Word) (made : List Step → Command) (front : List Step) (u : Token)
    → step_row t label made front u mark.Plain ≡ step_led label made front (other_step_of t label (length front) u.text)
step_plain t label made [] u = refl
step_plain t label made (s ∷ front) u = refl

-- ---- what the code gives, against the rows

pub rank_fails : (u : Token) (behind : ℕ → CommandPlace) (e : Stop) → Fails e (rank_at u) → Fails e (decided u (rank_row u behind))
rank_fails u behind stop.Memory h = tt
rank_fails u behind (stop.Fault f) h = go (is_numeral u.text) (ltb highest_rank (digits_value 10 u.text)) h
  where
    go : (a b : Bool) → cond a (cond b (fault u TooLong) (Ok (digits_value 10 u.text))) (fault u BadToken) ≡ Err f
        → decided u (cond a (cond b (bad TooLong) (to (behind (digits_value 10 u.text)))) (bad BadToken)) ≡ Err f
    go true true e = cc
    go true false e = absurd cc
    go false b e = cc

-- behind whole commands, a word other than commit
pub word_row : (t : Tables) (s : Script) (cs : List Command) (u : Token) (commit : Word) (b : Bool) → commit ≡ codes "commit"
    → b ≡ bytes_eq u.text commit → b ≡ false → command_row t s cs u ≡ led s cs u (command_word t u.text)
word_row t s cs u commit b is e n =
    cond-false (bytes_eq u.text (codes "commit")) (at (s ++ cs ∷ []) outermost) (led s cs u (command_word t u.text))
    (ap (bytes_eq u.text) (sym is) ∙ sym e ∙ n)

-- a step of another proof, as the code finds it
pub other_step_is : (t s : Tables) (label w : Word) (n : ℕ) (h : Option ℕ) → s ≡ t → h ≡ place_numbered label w
    → unless_faulty (first_fault (step_tests n w)) (step_named label w (float_named (meaning s w)) h) ≡ other_step_of t label n w
unfolding other_step_of place_numbered
other_step_is t s label w n h same is =
    ap (λ (x : Tables). unless_faulty (first_fault (step_tests n w)) (step_named label w (float_named (meaning x w)) h)) same
    ∙ ap (λ x. unless_faulty (first_fault (step_tests n w)) (step_named label w (float_named (meaning t w)) x)) is

-- a word that is taken behind the steps of another proof
plain_step : (t : Tables) (label : Word) (made : List Step → Command) (steps : List Step) (u : Token) → has_dollar u.text ≡ false
    → step_row t label made steps u (mark_of u.text) ≡ step_led label made steps (other_step_of t label (length steps) u.text)
plain_step t label made steps u h = ap (step_row t label made steps u) (mark_plain u.text h) ∙ step_plain t label made steps u

pub step_taken : (t : Tables) (label given : Word) (made : List Step → Command) (old new : List Step) (u : Token) (r : Result Bool Stop)
    → given ≡ label → TakesItem u old new (other_step_of t given (length old) u.text) r
    → TakesInCommand t (in_proof label made old) u (in_proof label made new) r
step_taken t label given made old new u r same h =
    go r (subst (λ (x : Word). TakesItem u old new (other_step_of t x (length old) u.text) r) same h)
  where
    led_by : (x : Result Step FaultKind) → pushed u old x ≡ Ok new → step_led label made old x ≡ inside (in_proof label made new)
    led_by (Ok s) e = ap (λ y. inside (in_proof label made y)) (let k : old ++ s ∷ [] ≡ new = cc in k)
    led_by (Err kind) e = absurd cc

    bad_by : (x : Result Step FaultKind) (f : TextFault) → pushed u old x ≡ Err f → decided u (step_led label made old x) ≡ Err f
    bad_by (Ok s) f e = absurd cc
    bad_by (Err kind) f e = cc

    go : (r : Result Bool Stop) → TakesItem u old new (other_step_of t label (length old) u.text) r
        → TakesInCommand t (in_proof label made old) u (in_proof label made new) r
    go (Ok true) h = (h.0, plain_step t label made old u h.0 ∙ led_by (other_step_of t label (length old) u.text) h.1)
    go (Ok false) h = ap (in_proof label made) h
    go (Err stop.Memory) h = tt
    go (Err (stop.Fault f)) h =
        (h.0, ap (decided u) (plain_step t label made old u h.0) ∙ bad_by (other_step_of t label (length old) u.text) f h.1)

-- what is taken of an assertion is taken in the command that adds it
pub unit_taken : (t : Tables) (made : Assertion → Command) (old new : UnitReading) (u : Token) (r : Result Bool Stop)
    → TakesInUnit t old u new r → TakesInCommand t (in_unit made (position_of t old)) u (in_unit made (position_of t new)) r
unit_taken t made old new u (Ok true) h = (h.0, ap (unit_row made) h.1 ∙ ap (unit_led made (position_of t new)) h.2)
unit_taken t made old new u (Ok false) h = ap (λ (x : UnitReading). in_unit made (position_of t x)) h
unit_taken t made old new u (Err stop.Memory) h = tt
unit_taken t made old new u (Err (stop.Fault f)) h = (h.0, ap (λ (x : Result Position TextFault). decided u (unit_row made x)) h.1)
