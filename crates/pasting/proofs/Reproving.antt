-- A command that gives a theorem a proof, word by word.
use Rattle.std.proofs.Common.{◌≡◌, ◌∙◌, ℕ, suc, Bool, true, false, cond, List, [], ◌∷◌, map, Option, Some, None, refl, sym, ap, subst}
use Rattle.std.specs.Prelude.{slice_get, is_some}
use Rattle.std.specs.Option.{option_map, option_and_then, option_or}
use Rattle.std.specs.Str.{bytes_eq}
use Rattle.std.proofs.lemmas.Option.{slice_get-map}
use Rattle.mmtext.specs.Text.{Token}
use Rattle.mmtext.specs.Views.{seen}
use Rattle.mmtext.specs.declared.token.Token.{Token as CodeToken}
use Rattle.mmsyntax.specs.Layout.{step_word}
use Rattle.mmsyntax.specs.Tables.{Tables, place_of}
use Rattle.source.specs.Scopes.{Assertion, Scope}
use Rattle.taking.specs.Names.{Map}
use Rattle.expanding.specs.Cuts.{Cut, cut_of}
use Rattle.spreading.specs.Forms.{Part}
use Rattle.prooftrees.specs.Names.{labelled}
use Rattle.pasting.specs.Additions.{Addition, addition_of, theorem_of}
use Rattle.pasting.specs.Pasted.{Proving, reproved, reproving, adding, added_word, proving, proving_in, proving_of, theorem_at}
use Rattle.pasting.specs.Views.{IsProvingIf}
use Rattle.pasting.specs.declared.proving.Proving.{Proving as CodeProving}

-- ---- the first item that passes is there

module _ {A : Type 0} where
  there_behind : (x : A) (xs : List A) (b : Bool) (o : Option ℕ) (k : ℕ) → cond b (Some 0) (option_map (λ n. suc n) o) ≡ Some k
      → ((j : ℕ) → o ≡ Some j → (y : A) × (slice_get xs j ≡ Some y)) → (y : A) × (slice_get (x ∷ xs) k ≡ Some y)
  there_behind x xs true o k e later = let same : 0 ≡ k = cc in (x, ap (slice_get (x ∷ xs)) (sym same))
  there_behind x xs false None k e later = absurd cc
  there_behind x xs false (Some j) k e later =
      let same : suc j ≡ k = cc in
      let rest = later j refl in
      (rest.0, ap (slice_get (x ∷ xs)) (sym same) ∙ rest.1)

  first_there : (test : A → Bool) (xs : List A) (k : ℕ) → place_of test xs ≡ Some k → (y : A) × (slice_get xs k ≡ Some y)
  first_there test [] k e = absurd cc
  first_there test (x ∷ xs) k e = there_behind x xs (test x) (place_of test xs) k e (λ j f. first_there test xs j f)

pub theorem_there : (s : Scope) (label : Token) (k : ℕ) → Some k ≡ place_of (λ (a : Assertion). bytes_eq label.text a.label) s.assertions
    → (x : Assertion) × (slice_get s.assertions k ≡ Some x)
theorem_there s label k e = first_there (λ (a : Assertion). bytes_eq label.text a.label) s.assertions k (sym e)

-- ---- all of it is there

pub ended_by : (ws : List CodeToken) (w : CodeToken) → Some w ≡ slice_get ws 0 → slice_get (map seen ws) 0 ≡ Some (seen w)
ended_by ws w e = slice_get-map seen ws 0 ∙ ap (option_map seen) (sym e)

pub no_first : (ws : List CodeToken) → None ≡ slice_get ws 0 → slice_get (map seen ws) 0 ≡ None
no_first ws e = slice_get-map seen ws 0 ∙ ap (option_map seen) (sym e)

-- one of the source, or else one that scripts add
pub theorem_standing : (s : Scope) (added : List Assertion) (label : Token) (k : ℕ) (x : Assertion)
    → Some k ≡ place_of (λ (a : Assertion). bytes_eq label.text a.label) s.assertions → slice_get s.assertions k ≡ Some x
    → theorem_at s added label ≡ Some x
theorem_standing s added label k x placed at =
    ap (λ o. option_or (option_and_then (slice_get s.assertions) o) (labelled added label.text)) (sym placed)
    ∙ ap (λ o. option_or o (labelled added label.text)) at

pub theorem_added : (s : Scope) (added : List Assertion) (label : Token)
    → None ≡ place_of (λ (a : Assertion). bytes_eq label.text a.label) s.assertions → theorem_at s added label ≡ labelled added label.text
theorem_added s added label none =
    ap (λ o. option_or (option_and_then (slice_get s.assertions) o) (labelled added label.text)) (sym none)

module _ (t : Tables) (s : Scope) (added : List Assertion) (c : Cut) (ends : Token) (ended : slice_get c.back 0 ≡ Some ends) where
  pub reproved_there : (label : Token) (o : Option Assertion) → Some label ≡ reproved c.front → theorem_at s added label ≡ o
      → (m : Map) (f : Option CodeProving) → IsProvingIf m t s f (proving_of c (Some ends) label o (step_word t label.text))
      → IsProvingIf m t s f (option_and_then (reproving t s added c) (reproved c.front))
  reproved_there label o named there m f is =
      let whole : option_and_then (reproving t s added c) (reproved c.front)
      ≡ proving_of c (Some ends) label o (step_word t label.text) =
      ap (option_and_then (reproving t s added c)) (sym named)
      ∙ ap (λ e. proving_of c e label (theorem_at s added label) (step_word t label.text)) ended
      ∙ ap (λ x. proving_of c (Some ends) label x (step_word t label.text)) there in
      subst (IsProvingIf m t s f) (sym whole) is

-- ---- the proof of a command, if it has one

-- no word behind it
none_of : (m : Map) (t : Tables) (s : Scope) (added : List Assertion) (c : Cut) (o : Option Token) (a : Option Addition)
    → slice_get c.back 0 ≡ None → option_or (option_and_then (reproving t s added c) o) (option_and_then (adding m t c) a) ≡ None
none_of m t s added c None None e = refl
none_of m t s added c None (Some a) e = ap (λ o. proving_of c o a.label (Some (theorem_of m t a)) (added_word t a)) e
none_of m t s added c (Some l) None e =
    ap (λ o. option_or (proving_of c o l (theorem_at s added l) (step_word t l.text)) None) e
none_of m t s added c (Some l) (Some a) e =
    ap (λ o. option_or (proving_of c o l (theorem_at s added l) (step_word t l.text)) (adding m t c a)) e
    ∙ ap (λ o. proving_of c o a.label (Some (theorem_of m t a)) (added_word t a)) e

module _ (m : Map) (t : Tables) (s : Scope) (added : List Assertion) (p : Part) (c : Cut) (cut : cut_of p ≡ Some c) where
  pub never_ended : slice_get c.back 0 ≡ None → proving m t s added p ≡ None
  never_ended e = ap (option_and_then (proving_in m t s added p)) cut ∙ none_of m t s added c (reproved c.front) (addition_of p) e

  first_of : (o q : Option Proving) (f : Option CodeProving) → IsProvingIf m t s f o → is_some f ≡ true
      → IsProvingIf m t s f (option_or o q)
  first_of None q None is some = absurd cc
  first_of None q (Some f) is some = absurd is
  first_of (Some r) q f is some = is

  pub is_reproving : (f : Option CodeProving) → IsProvingIf m t s f (option_and_then (reproving t s added c) (reproved c.front))
      → is_some f ≡ true → IsProvingIf m t s f (proving m t s added p)
  is_reproving f is some =
      subst (IsProvingIf m t s f) (sym (ap (option_and_then (proving_in m t s added p)) cut))
      (first_of (option_and_then (reproving t s added c) (reproved c.front)) (option_and_then (adding m t c) (addition_of p)) f is some)

  none_is : (f : Option CodeProving) (o : Option Proving) → IsProvingIf m t s f o → is_some f ≡ false → o ≡ None
  none_is None o is none = is
  none_is (Some f) o is none = absurd cc

  -- by `add`, where it isn't by `reprove`
  pub is_adding : (f : Option CodeProving) → IsProvingIf m t s f (option_and_then (reproving t s added c) (reproved c.front))
      → is_some f ≡ false → proving m t s added p ≡ option_and_then (adding m t c) (addition_of p)
  is_adding f is none =
      ap (option_and_then (proving_in m t s added p)) cut
      ∙ ap (λ o. option_or o (option_and_then (adding m t c) (addition_of p)))
      (none_is f (option_and_then (reproving t s added c) (reproved c.front)) is none)

  pub added_there : (a : Addition) (ends : Token) → addition_of p ≡ Some a → slice_get c.back 0 ≡ Some ends
      → option_and_then (adding m t c) (addition_of p)
      ≡ Some (record { cut = c; ends = ends; label = a.label; theorem = theorem_of m t a; word = added_word t a })
  added_there a ends there ended =
      ap (option_and_then (adding m t c)) there
      ∙ ap (λ o. proving_of c o a.label (Some (theorem_of m t a)) (added_word t a)) ended
