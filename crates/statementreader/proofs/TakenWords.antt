-- Words without a $: the symbols and steps that they are by what is kept of them, and where they lead in an expression or a proof.
use Rattle.std.proofs.Common.{◌≡◌, ℕ, ◌<◌, Bool, true, false, cond, List, length, Option, None, Some, Result, Ok, Err}
use Rattle.std.proofs.Common.{refl, sym, ap, subst, ◌∙◌, inl, inr, arith}
use Rattle.std.specs.Prelude.{◌||◌, ◌==◌, ◌++◌, ◌∷◌, [], nat_le, codes, OnOk}
use Rattle.std.specs.Str.{bytes_eq}
use mathlib.Core.Bool.{not}
use Rattle.std.proofs.lemmas.Bool.{cases_Bool, cond-false, lt-leb}
use Rattle.mmtext.specs.declared.fault.Stop.{Stop}
use Rattle.mmtext.specs.declared.fault.Stop.TheVariants as stop
use Rattle.mmtext.specs.declared.fault.FaultKind.{FaultKind}
use Rattle.mmtext.specs.declared.fault.FaultKind.TheVariants.{BadToken, OutOfProfile, TooLong}
use Rattle.mmtext.specs.declared.mark.Mark.TheVariants as mark
use Rattle.mmtext.specs.Words.{Word, has_dollar, is_label}
use Rattle.mmtext.specs.Text.{Token}
use Rattle.mmtext.specs.Takings.{TakesWord as Takes}
use Rattle.mmtext.proofs.Turns.{OnPlace}
use Rattle.mmtext.proofs.Marks.{same_word, label_plain, mark_plain}
use Rattle.mmsyntax.specs.Tables.{Tables, meaning}
use Rattle.mmsyntax.specs.Rows.{Known, first_fault, symbol_named, unless_full, symbol_of}
use Rattle.mmsyntax.specs.Blocks.{Hypothesis}
use Rattle.mmsyntax.specs.Steps.{step_tests, float_named, hypothesis_named, step_named, unless_faulty, step_of}
use Rattle.mmsyntax.specs.Faults.{Place, in_place, row, database_language}
use Rattle.statementreader.specs.declared.recent.Recalled.{Recalled}
use Rattle.statementreader.specs.declared.recent.Recent.{Recent}
use Rattle.statementreader.specs.declared.place.Place.{Place as CodePlace}
use Rattle.statementreader.specs.declared.place.Place.TheVariants as code
use Rattle.statementreader.specs.Recalls.{IsTrueOf, RecallsTrue, IsKept}
use Rattle.statementreader.specs.Standing.{SuitsPlace}
use Rattle.statementreader.specs.Takings.{TakesItem, TakesWordAt, pushed}
use Rattle.statementreader.specs.Views.{IsUnitPlace}
use Rattle.statementreader.proofs.Runs.{StandsAt, row_at, row_stands}

-- ---- steps

no_label : (w v : Word) → is_label v ≡ false → is_label w ≡ true → bytes_eq w v ≡ false
no_label w v n l = elim (cases_Bool (bytes_eq w v)) [
  | inl y ↦ absurd (let e : is_label w ≡ false = subst (λ x. is_label x ≡ false) (sym (same_word w v y)) n in cc)
  | inr e ↦ e
]

-- a label passes the tests of steps where there is room
step_passes : (count : ℕ) (w : Word) → is_label w ≡ true → count < 16384 → first_fault (step_tests count w) ≡ None
step_passes count w l lt =
    let full = cond (nat_le 16384 count) (Some TooLong) None in
    let bad = cond (not (is_label w)) (Some BadToken) full in
    let dollar = cond (has_dollar w) (Some BadToken) bad in
    cond-false (bytes_eq w (codes "?") || bytes_eq w (codes "(")) (Some OutOfProfile) dollar
    (ap (λ b. b || bytes_eq w (codes "(")) (no_label w (codes "?") refl l) ∙ no_label w (codes "(") refl l)
    ∙ cond-false (has_dollar w) (Some BadToken) bad (label_plain w l)
    ∙ cond-false (not (is_label w)) (Some BadToken) full (ap not l)
    ∙ cond-false (nat_le 16384 count) (Some TooLong) None (lt-leb 16384 count lt)

-- what a label names by what is kept of it
pub recalled_named : (t : Tables) (l : Word) (h : Option ℕ) (count : ℕ) (r : Recalled) → IsTrueOf t r → r.is_label ≡ true → count < 16384
    → step_named l r.word.now (float_named r.name) h
    ≡ unless_faulty (first_fault (step_tests count r.word.now)) (step_named l r.word.now (float_named (meaning t r.word.now)) h)
recalled_named t l h count r kept label lt =
    let w = r.word.now in
    ap (λ n. step_named l w (float_named n) h) kept.names
    ∙ sym (ap (λ o. unless_faulty o (step_named l w (float_named (meaning t w)) h)) (step_passes count w (sym kept.label ∙ label) lt))

-- and so the step that it is
pub recalled : (t : Tables) (l : Word) (hyps : List Hypothesis) (count : ℕ) (r : Recalled) → IsTrueOf t r → r.is_label ≡ true
    → count < 16384 → step_named l r.word.now (float_named r.name) (hypothesis_named hyps r.word.now) ≡ step_of t l hyps count r.word.now
unfolding step_of
recalled t l hyps count r kept label lt = recalled_named t l (hypothesis_named hyps r.word.now) count r kept label lt

-- ---- items

-- what is kept of a word tells whether it has a $
pub kept_plain : (t : Tables) (w : Word) (r : Recalled) → (r.word.now ≡ w) × IsTrueOf t r → r.with_dollar ≡ false → has_dollar w ≡ false
kept_plain t w r kept none = sym (ap has_dollar kept.0) ∙ sym kept.1.dollar ∙ none

-- and the symbol that it is
pub kept_symbol : (t : Tables) (w : Word) (r : Recalled) (n : ℕ) → (r.word.now ≡ w) × IsTrueOf t r → r.with_dollar ≡ false
    → symbol_of t n w ≡ unless_full n (symbol_named (n == 0) r.name)
unfolding symbol_of
kept_symbol t w r n kept none =
    let named = unless_full n (symbol_named (n == 0) (meaning t w)) in
    cond-false (has_dollar w) (Err BadToken) named (kept_plain t w r kept none)
    ∙ ap (λ m. unless_full n (symbol_named (n == 0) m)) (ap (meaning t) (sym kept.0) ∙ sym kept.1.names)

-- what is put behind others, or the fault
pub taken_item : {A : Type 0} (t : Token) (old new : List A) (given : Result A FaultKind) (x : A) → has_dollar t.text ≡ false
    → given ≡ Ok x → new ≡ old ++ x ∷ [] → TakesItem t old new given (Ok true)
taken_item t old new given x plain is put = (plain, ap (pushed t old) is ∙ ap Ok (sym put))

pub refused_item : {A : Type 0} (t : Token) (old new : List A) (given : Result A FaultKind) (kind : FaultKind) (s : Stop)
    → has_dollar t.text ≡ false → given ≡ Err kind → s ≡ stop.Fault (record { place = t.place; kind = kind })
    → TakesItem t old new given (Err s)
refused_item t old new given kind s plain is told =
    subst (λ e. TakesItem t old new given (Err e)) (sym told) (plain, ap (pushed t old) is)

-- ---- places

-- the row of a place at a word without $
pub plain_row : (k : Known) (p : Place) (t : Token) → has_dollar t.text ≡ false
    → row (record { known = k; place = p }) t ≡ in_place k p t mark.Plain
plain_row k p t h = row_at (record { known = k; place = p }) t mark.Plain (sym (mark_plain t.text h))

-- what is taken in a place is what the language leads to
pub taken : (k : Known) (p q : Place) (t : Token) (r : Result Bool Stop) → TakesWordAt k p t q r
    → Takes database_language (record { known = k; place = p }) t (record { known = k; place = q }) r
taken k p q t (Ok true) h = (h.0, plain_row k p t h.0 ∙ h.1)
taken k p q t (Ok false) h = ap (λ x. record { known = k; place = x }) h
taken k p q t (Err stop.Memory) h = tt
taken k p q t (Err (stop.Fault f)) h = (h.0, plain_row k p t h.0 ∙ h.1)

-- and what stands there stands then
pub still_stands : (k : Known) (p q : Place) (t : Token) (b : Bool) → TakesWordAt k p t q (Ok b) → SuitsPlace k p → SuitsPlace k q
still_stands k p q t true h stands =
    subst (OnPlace StandsAt) (plain_row k p t h.0 ∙ h.1) (row_stands (record { known = k; place = p }) t stands)
still_stands k p q t false h stands = subst (SuitsPlace k) (sym h) stands

pub ready_after : (s : Tables) (k : Known) (p q : Place) (c : Recent) (t : Token) (r : Result Bool Stop) → TakesWordAt k p t q r
    → SuitsPlace k p
    → RecallsTrue s c → OnOk r (SuitsPlace k q × RecallsTrue s c)
ready_after s k p q c t (Ok b) h stands knows = (still_stands k p q t b h stands, knows)
ready_after s k p q c t (Err e) h stands knows = tt

-- what is kept of words stays true where the symbols don't change, or nothing is kept
pub still_known : (p : CodePlace) (t u : Tables) (old new : Recent) → RecallsTrue t old → IsKept p old new → (IsUnitPlace p → u ≡ t)
    → RecallsTrue u new
still_known (code.Prelude p) t u old new knows kept same = λ k d lt.
    absurd (let none : length new.entries.items ≡ 0 = ap (λ xs. length xs) kept in omega arith)
still_known (code.Unit p) t u old new knows kept same =
    subst (λ r. RecallsTrue u r) (sym kept) (subst (λ x. RecallsTrue x old) (sym (same tt)) knows)
