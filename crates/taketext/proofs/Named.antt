-- The names that are told of a library are quiet: those of the source are tokens of its text, and those of the library tokens of its own.
use Rattle.std.proofs.Common.{◌≡◌, ◌∙◌, ℕ, ◌<◌, Bool, true, false, cond, List, [], ◌∷◌, ◌++◌, length, map, get_or, IsTrue}
use Rattle.std.proofs.Common.{refl, sym, ap, subst, inl, inr, arith}
use Rattle.std.specs.Prelude.{◌||◌, All, Option, Some, None, filter, find, slice_get, nat_le, is_some}
use Rattle.std.specs.Option.{option_map}
use Rattle.std.specs.List.{list_any, AllByRecursion, zip}
use Rattle.std.specs.Str.{bytes_eq}
use mathlib.Core.Bool.{not}
use Rattle.std.proofs.lemmas.Bool.{cases_Bool, cond-true, cond-false, or_parts, or_from, and_parts}
use Rattle.std.proofs.lemmas.List.{length-map}
use Rattle.std.proofs.lemmas.List.Elements.{All-filter, recursion_from_All, All-from_get_or, All-get_or, All-weaker}
use Rattle.std.proofs.lemmas.List.Elements.{filter_passes}
use Rattle.std.proofs.lemmas.List.FromFn.{length-range_with_len}
use Rattle.std.proofs.lemmas.Option.{get_or_from_slice_get}
use Rattle.mmtext.specs.Words.{Word, is_label}
use Rattle.mmtext.proofs.Marks.{same_word}
use Rattle.mmsyntax.specs.declared.statement.Float.{Float}
use Rattle.mmsyntax.specs.declared.statement.Assertion.{Assertion as Unit'}
use Rattle.mmsyntax.specs.Tables.{Tables, Contents, meaning}
use Rattle.mmsyntax.specs.Assertions.{Distinct, is_lawful_label, is_plain_label, IsDeclarable}
use Rattle.mmsyntax.specs.Layout.{HasSpelling}
use Rattle.mmsyntax.specs.Preludes.{IsSymbolWord, IsFloatSound, AreSound, float_labels}
use Rattle.mmsyntax.proofs.Names.{bytes_eq-same, bytes_eq-sym}
use Rattle.mmsyntax.proofs.Distinct.{all_weaker, all_append, all_map, place_of-item}
use Rattle.mmsyntax.proofs.Declarable.{declarable, sound_where_apart}
use Rattle.source.specs.Scopes.{Hypothesis, typing, premise, Assertion, Scope, is_in}
use Rattle.source.proofs.Wholes.{sources_whole}
use Rattle.source.proofs.Passing.{three_parts}
use Rattle.taketext.specs.Names.{IsMathSymbol, IsLabelToken, IsHypothesisWorded, IsAssertionWorded, IsWorded}
use Rattle.taketext.proofs.Worded.{sources_worded}
use Rattle.taking.specs.declared.reason.Reason.{Reason}
use Rattle.taking.specs.Names.{Map, Naming, label_in, is_symbol_of, is_float_labelled, has_float_labelled}
use Rattle.taking.specs.Names.{constant_namings, variable_namings, float_namings}
use Rattle.taking.specs.Says.{SaysSame, IsFloatTaken}
use Rattle.taking.specs.Reasons.{Choice, reason}
use Rattle.taking.specs.Taken.{IsTaken, AreTakenFrom, AreTaken, told_of, taken_as_axioms, chosen_of, Takes}
use Rattle.choosing.specs.Choices.{labels_of, labels_wished}
use Rattle.choosing.specs.declared.wish.Wish.{Wish}
use Rattle.choosing.proofs.Apart.{filter_hold}
use Rattle.intake.specs.declared.taken.Taken.{Taken}
use Rattle.intake.specs.Intakes.{axioms_of, names_of, IsTakenByWish}
use Rattle.taketext.proofs.Quiet.{AreQuiet, quiet_word, quiet_label}
use Rattle.taketext.proofs.Commented.{IsQuietNaming, IsQuietAxiom}

-- ---- tokens

symbol_quiet : (w : Word) → IsMathSymbol w → AreQuiet w
symbol_quiet w h = quiet_word w h.word h.no_dollar

label_quiet : (w : Word) → IsLabelToken w → AreQuiet w
label_quiet w h = quiet_label w h.label

symbols_quiet : (ws : List Word) → All IsMathSymbol ws → AllByRecursion AreQuiet ws
symbols_quiet ws h = recursion_from_All AreQuiet ws (All-weaker IsMathSymbol AreQuiet symbol_quiet ws h)

labels_quiet : (ws : List Word) → All IsLabelToken ws → AllByRecursion AreQuiet ws
labels_quiet ws h = recursion_from_All AreQuiet ws (All-weaker IsLabelToken AreQuiet label_quiet ws h)

-- ---- lists

zip_quiet : (ws vs : List Word) → AllByRecursion AreQuiet ws → AllByRecursion AreQuiet vs → AllByRecursion IsQuietNaming (zip ws vs)
zip_quiet [] vs h g = tt
zip_quiet (w ∷ ws) [] h g = tt
zip_quiet (w ∷ ws) (v ∷ vs) h g = ((h.0, g.0), zip_quiet ws vs h.1 g.1)

module _ {A : Type 0} (p : A → Bool) (label : A → Word) where
  any_filtered : (w : Word) (xs : List A) → list_any (bytes_eq w) (map label xs) ≡ false
      → list_any (bytes_eq w) (map label (filter p xs)) ≡ false
  any_filtered w [] h = refl
  any_filtered w (x ∷ xs) h =
      let both = or_parts (bytes_eq w (label x)) (list_any (bytes_eq w) (map label xs)) h in
      let later = any_filtered w xs both.1 in
      elim (p x) as (λ b. list_any (bytes_eq w) (map label (cond b (x ∷ filter p xs) (filter p xs))) ≡ false) [
        | true ↦ or_from (bytes_eq w (label x)) (list_any (bytes_eq w) (map label (filter p xs))) both.0 later
        | false ↦ later
      ]

  -- what differs still does where some are left out
  distinct_filtered : (xs : List A) → Distinct bytes_eq (map label xs) → Distinct bytes_eq (map label (filter p xs))
  distinct_filtered [] d = tt
  distinct_filtered (x ∷ xs) d =
      let later = distinct_filtered xs d.1 in
      elim (p x) as (λ b. Distinct bytes_eq (map label (cond b (x ∷ filter p xs) (filter p xs)))) [
        | true ↦ (any_filtered (label x) xs d.0, later)
        | false ↦ later
      ]

map_itself : (ws : List Word) → map (λ w. w) ws ≡ ws
map_itself [] = refl
map_itself (w ∷ ws) = ap (λ vs. w ∷ vs) (map_itself ws)

distinct_words : (p : Word → Bool) (ws : List Word) → Distinct bytes_eq ws → Distinct bytes_eq (filter p ws)
distinct_words p ws d =
    subst (Distinct bytes_eq) (map_itself (filter p ws))
    (distinct_filtered p (λ w. w) ws (subst (Distinct bytes_eq) (sym (map_itself ws)) d))

-- ---- the library's own names

abbrev HasQuietLabel : Unit' → Type 0
HasQuietLabel a = AreQuiet a.label

module _ (db : Contents) (spelling : HasSpelling db) where
  is_declarable : IsDeclarable db.prelude db.assertions
  is_declarable = declarable db spelling

  is_sound : AreSound db.prelude
  is_sound = (sound_where_apart db.prelude).0 is_declarable.prelude

  constants_quiet : AllByRecursion AreQuiet db.prelude.constants
  constants_quiet =
      all_weaker IsSymbolWord AreQuiet db.prelude.constants (λ w h. quiet_word w h.word h.no_dollar) is_sound.constants_sound

  variables_quiet : AllByRecursion AreQuiet db.prelude.variables
  variables_quiet =
      all_weaker IsSymbolWord AreQuiet db.prelude.variables (λ w h. quiet_word w h.word h.no_dollar) is_sound.variables_sound

  floats_quiet : AllByRecursion AreQuiet (float_labels db.prelude.floats)
  floats_quiet =
      all_map (IsFloatSound db.prelude) AreQuiet (λ f. f.label) db.prelude.floats (λ f h. quiet_label f.label h.label.label)
      is_sound.floats_sound

  lawful_quiet : (w : Word) → is_lawful_label db.prelude w ≡ true → AreQuiet w
  lawful_quiet w h =
      let plain = (and_parts (is_plain_label w) (not (is_some (meaning db.prelude w))) h).0 in
      quiet_label w (three_parts (nat_le 1 (length w)) (nat_le (length w) 255) (is_label w) plain).2

  units_quiet : AllByRecursion HasQuietLabel db.assertions
  units_quiet =
      recursion_from_All HasQuietLabel db.assertions
      (All-weaker (λ (a : Unit'). IsTrue (is_lawful_label db.prelude a.label)) HasQuietLabel
      (λ a h. lawful_quiet a.label h) db.assertions is_declarable.lawful)

-- ---- what is taken of each chosen assertion

-- an assertion of the library says the same, and its label is quiet
record IsSaid (m : Map) (t : Tables) (x : Assertion) : Type 0 where
  unit : Unit'
  same : SaysSame m t x unit
  label : AreQuiet unit.label

module _ (m : Map) (t : Tables) where
  first_said : (b : Bool) (x : Assertion) (xs : List Assertion) (takes : Unit' → Type 0) (rest : List Unit' → Type 0) (as' : List Unit')
      → ((a : Unit') → takes a → SaysSame m t x a)
      → ((later : List Unit') → AllByRecursion HasQuietLabel later → rest later → AllByRecursion (IsSaid m t) xs)
      → AllByRecursion HasQuietLabel as' → AreTakenFrom b takes rest as' → AllByRecursion (IsSaid m t) (cond b (x ∷ xs) xs)
  first_said true x xs takes rest as' same others q h =
      let all = subst (AllByRecursion HasQuietLabel) h.2 q in
      (record { unit = h.0; same = same h.0 h.3; label = all.0 }, others h.1 all.1 h.4)
  first_said false x xs takes rest as' same others q h = others as' q h

  chosen_said : (choice : Choice) (earlier xs : List Assertion) (as' : List Unit') → AllByRecursion HasQuietLabel as'
      → AreTaken m t choice earlier xs as' → AllByRecursion (IsSaid m t) (filter (λ x. is_in choice.chosen x.label) xs)
  chosen_said choice earlier [] as' q h = tt
  chosen_said choice earlier (x ∷ xs) as' q h =
      first_said (is_in choice.chosen x.label) x (filter (λ y. is_in choice.chosen y.label) xs) (IsTaken m t choice earlier x)
      (AreTaken m t choice (earlier ++ x ∷ []) xs) as' (λ a k. k.0) (λ later p r. chosen_said choice (earlier ++ x ∷ []) xs later p r) q h

-- ---- the variables of the source

-- a $f with this label is taken, and its variable is quiet
record IsSited (m : Map) (t : Tables) (label : Word) : Type 0 where
  type_of : Word
  variable : Word
  taken : IsFloatTaken m t (typing label type_of variable)
  quiet : AreQuiet variable

module _ (m : Map) (t : Tables) (label : Word) where
  in_hypotheses : (hs : List Hypothesis) → AllByRecursion (IsFloatTaken m t) hs → AllByRecursion IsHypothesisWorded hs
      → list_any (is_float_labelled label) hs ≡ true → IsSited m t label
  in_hypotheses [] taken worded h = absurd cc
  in_hypotheses (premise l ws ∷ hs) taken worded h = in_hypotheses hs taken.1 worded.1 h
  in_hypotheses (typing l c v ∷ hs) taken worded h = elim (cases_Bool (bytes_eq label l)) [
    | inl y ↦ record {
      type_of = c;
      variable = v;
      taken = subst (λ w. IsFloatTaken m t (typing w c v)) (sym (same_word label l y)) taken.0;
      quiet = symbol_quiet v worded.0.2;
    }
    | inr n ↦ in_hypotheses hs taken.1 worded.1 (sym (ap (λ b. b || list_any (is_float_labelled label) hs) n) ∙ h)
  ]

  in_assertions : (xs : List Assertion) → AllByRecursion (IsSaid m t) xs → AllByRecursion IsAssertionWorded xs
      → list_any (has_float_labelled label) xs ≡ true → IsSited m t label
  in_assertions [] said worded h = absurd cc
  in_assertions (x ∷ xs) said worded h = elim (cases_Bool (has_float_labelled label x)) [
    | inl y ↦ in_hypotheses x.active (recursion_from_All (IsFloatTaken m t) x.active said.0.same.floats)
        (recursion_from_All IsHypothesisWorded x.active worded.0.active) y
    | inr n ↦ in_assertions xs said.1 worded.1 (sym (ap (λ b. b || list_any (has_float_labelled label) xs) n) ∙ h)
  ]

-- ---- labels, each with that in the library

-- a pair is the first with its word
abbrev FindsItself : List Naming → Naming → Type 0
FindsItself all p = find (λ q. bytes_eq p.0 q.0) all ≡ Some p

others_apart : (w : Word) (ps : List Naming) → list_any (bytes_eq w) (map (λ p. p.0) ps) ≡ false
    → AllByRecursion (λ (p : Naming). bytes_eq p.0 w ≡ false) ps
others_apart w [] h = tt
others_apart w (p ∷ ps) h =
    let both = or_parts (bytes_eq w p.0) (list_any (bytes_eq w) (map (λ p. p.0) ps)) h in
    (bytes_eq-sym p.0 w ∙ both.0, others_apart w ps both.1)

each_later : (p : Naming) (all ps : List Naming) → AllByRecursion (λ (q : Naming). bytes_eq q.0 p.0 ≡ false) ps
    → AllByRecursion (FindsItself all) ps → AllByRecursion (FindsItself (p ∷ all)) ps
each_later p all [] h g = tt
each_later p all (q ∷ qs) h g =
    (cond-false (bytes_eq q.0 p.0) (Some p) (find (λ r. bytes_eq q.0 r.0) all) h.0 ∙ g.0, each_later p all qs h.1 g.1)

each_found : (ps : List Naming) → Distinct bytes_eq (map (λ p. p.0) ps) → AllByRecursion (FindsItself ps) ps
each_found [] d = tt
each_found (p ∷ ps) d = (
  cond-true (bytes_eq p.0 p.0) (Some p) (find (λ q. bytes_eq p.0 q.0) ps) (bytes_eq-same p.0),
  each_later p ps ps (others_apart p.0 ps d.0) (each_found ps d.1),
)

-- a label of the source, with a quiet one of the library
record IsLabelled (m : Map) (w : Word) : Type 0 where
  quiet : AreQuiet w
  name : Word
  is : label_in m w ≡ Some name
  name_quiet : AreQuiet name

labelled : (m : Map) (t : Tables) (xs : List Assertion) → AllByRecursion (IsSaid m t) xs → AllByRecursion IsAssertionWorded xs
    → AllByRecursion (IsLabelled m) (map (λ x. x.label) xs)
labelled m t [] said worded = tt
labelled m t (x ∷ xs) said worded = (
  record {
    quiet = label_quiet x.label worded.0.label;
    name = said.0.unit.label;
    is = said.0.same.label;
    name_quiet = said.0.label;
  },
  labelled m t xs said.1 worded.1,
)

own_name : (m : Map) (p : Naming) → FindsItself m.labels p → IsLabelled m p.0 → IsQuietNaming p
own_name m p found l =
    let e : Some p.1 ≡ Some l.name = sym (ap (option_map (λ (q : Naming). q.1)) found) ∙ l.is in
    let same : l.name ≡ p.1 = cc in
    (l.quiet, subst AreQuiet same l.name_quiet)

own_names : (m : Map) (ps : List Naming) → AllByRecursion (FindsItself m.labels) ps → AllByRecursion (IsLabelled m) (map (λ p. p.0) ps)
    → AllByRecursion IsQuietNaming ps
own_names m [] found l = tt
own_names m (p ∷ ps) found l = (own_name m p found.0 l.0, own_names m ps found.1 l.1)

-- ---- the names that were changed

module _ (s : Scope) (choice : Choice) (db : Contents) (axioms : List (Word × Reason)) (names : List Naming)
    (takes : Takes s choice db axioms names) (worded : IsWorded s) (differ : Distinct bytes_eq (map (λ x. x.label) s.assertions))
    (spelling : HasSpelling db) where
  said : AllByRecursion (IsSaid takes.places db.prelude) (chosen_of choice s)
  said = chosen_said takes.places db.prelude choice [] s.assertions db.assertions (units_quiet db spelling) takes.taken

  chosen_worded : AllByRecursion IsAssertionWorded (chosen_of choice s)
  chosen_worded =
      recursion_from_All IsAssertionWorded (chosen_of choice s)
      (All-filter (λ (x : Assertion). is_in choice.chosen x.label) IsAssertionWorded s.assertions worded.assertions)

  constants_told : AllByRecursion IsQuietNaming (constant_namings takes.places db.prelude)
  constants_told =
      let used = λ (w : Word). list_any (is_symbol_of w) (chosen_of choice s) in
      let own = subst (All IsMathSymbol) (sym takes.has_places.constants) (All-filter used IsMathSymbol s.constants worded.constants) in
      zip_quiet takes.places.constants db.prelude.constants (symbols_quiet takes.places.constants own) (constants_quiet db spelling)

  own_floats : All IsLabelToken takes.places.floats
  own_floats =
      let used = λ (w : Word). list_any (has_float_labelled w) (chosen_of choice s) in
      subst (All IsLabelToken) (sym takes.has_places.floats) (All-filter used IsLabelToken s.labels worded.labels)

  floats_told : AllByRecursion IsQuietNaming (float_namings takes.places db.prelude)
  floats_told =
      zip_quiet takes.places.floats (float_labels db.prelude.floats) (labels_quiet takes.places.floats own_floats)
      (floats_quiet db spelling)

  -- each $f that has a place has a quiet variable
  sited : (i : ℕ) → i < length takes.places.floats → IsSited takes.places db.prelude (get_or takes.places.floats i [])
  sited i lt =
      let used = λ (w : Word). list_any (has_float_labelled w) (chosen_of choice s) in
      let all : All (λ w. used w ≡ true) takes.places.floats =
      subst (All (λ w. used w ≡ true)) (sym takes.has_places.floats) (filter_passes used s.labels) in
      in_assertions takes.places db.prelude (get_or takes.places.floats i []) (chosen_of choice s) said chosen_worded
      (All-get_or (λ w. used w ≡ true) takes.places.floats i [] lt all)

  floats_differ : Distinct bytes_eq takes.places.floats
  floats_differ =
      let used = λ (w : Word). list_any (has_float_labelled w) (chosen_of choice s) in
      subst (Distinct bytes_eq) (sym takes.has_places.floats) (distinct_words used s.labels worded.distinct)

  as_many : length takes.places.floats ≡ length takes.places.variables
  as_many =
      sym takes.has_places.as_many_floats ∙ sym (length-map db.prelude.floats (λ (f : Float). f.variable))
      ∙ ap length takes.has_places.variables ∙ length-range_with_len 0 (length takes.places.variables)

  variable_at : (i : ℕ) → i < length takes.places.variables → AreQuiet (get_or takes.places.variables i [])
  variable_at i lt =
      let within : i < length takes.places.floats = omega (arith, as_many) in
      let f = sited i within in
      let j = f.taken.0 in
      let here : Some i ≡ Some j = sym (place_of-item takes.places.floats i floats_differ within) ∙ f.taken.2 in
      let same : j ≡ i = cc in
      let item : slice_get takes.places.variables i ≡ Some f.variable =
      subst (λ (k : ℕ). slice_get takes.places.variables k ≡ Some f.variable) same f.taken.5 in
      subst AreQuiet (sym (get_or_from_slice_get takes.places.variables i f.variable [] item)) f.quiet

  variables_told : AllByRecursion IsQuietNaming (variable_namings takes.places db.prelude)
  variables_told =
      let own = All-from_get_or AreQuiet takes.places.variables [] variable_at in
      zip_quiet takes.places.variables db.prelude.variables (recursion_from_All AreQuiet takes.places.variables own)
      (variables_quiet db spelling)

  labels_told : AllByRecursion IsQuietNaming takes.places.labels
  labels_told =
      let names_are = takes.has_places.labels in
      let apart = distinct_filtered (λ (x : Assertion). is_in choice.chosen x.label) (λ x. x.label) s.assertions differ in
      own_names takes.places takes.places.labels
      (each_found takes.places.labels (subst (Distinct bytes_eq) (sym names_are) apart))
      (subst (AllByRecursion (IsLabelled takes.places)) (sym names_are)
      (labelled takes.places db.prelude (chosen_of choice s) said chosen_worded))

  changed_quiet : AllByRecursion IsQuietNaming names
  changed_quiet =
      let m = takes.places in
      let t = db.prelude in
      let cs = constant_namings m t in
      let vs = variable_namings m t in
      let fs = float_namings m t in
      let two = all_append IsQuietNaming cs vs constants_told variables_told in
      let all = all_append IsQuietNaming (cs ++ vs ++ fs) m.labels (all_append IsQuietNaming (cs ++ vs) fs two floats_told) labels_told in
      subst (AllByRecursion IsQuietNaming) takes.names_told
      (filter_hold IsQuietNaming (λ p. not (bytes_eq p.0 p.1)) (cs ++ vs ++ fs ++ m.labels) all)

-- ---- the theorems that are taken as axioms

told_one : (label : Word) (b : Bool) (o : Option Reason) → AreQuiet label → AllByRecursion IsQuietAxiom (told_of label b o)
told_one label true (Some why) h = (h, tt)
told_one label true None h = tt
told_one label false (Some why) h = tt
told_one label false None h = tt

told_quiet : (choice : Choice) (earlier xs : List Assertion) → AllByRecursion IsAssertionWorded xs
    → AllByRecursion IsQuietAxiom (taken_as_axioms choice earlier xs)
told_quiet choice earlier [] h = tt
told_quiet choice earlier (x ∷ xs) h =
    all_append IsQuietAxiom (told_of x.label (is_in choice.chosen x.label) (reason choice earlier x))
    (taken_as_axioms choice (earlier ++ x ∷ []) xs)
    (told_one x.label (is_in choice.chosen x.label) (reason choice earlier x) (label_quiet x.label h.0.label))
    (told_quiet choice (earlier ++ x ∷ []) xs h.1)

-- ---- the labels of the wish

known_has : (P : Word → Type 0) (ls : List Word) (w : Word) → AllByRecursion P ls → is_in ls w ≡ true → P w
known_has P [] w q h = absurd cc
known_has P (l ∷ ls) w q h = elim (cases_Bool (bytes_eq w l)) [
  | inl y ↦ subst P (sym (same_word w l y)) q.0
  | inr n ↦ known_has P ls w q.1 (sym (ap (λ b. b || is_in ls w) n) ∙ h)
]

all_known : (P : Word → Type 0) (ls ws : List Word) → AllByRecursion P ls → find (λ w. not (is_in ls w)) ws ≡ None → AllByRecursion P ws
all_known P ls [] q h = tt
all_known P ls (w ∷ ws) q h =
    let rest = find (λ v. not (is_in ls v)) ws in
    elim (cases_Bool (is_in ls w)) [
      | inl y ↦ (known_has P ls w q y, all_known P ls ws q (sym (cond-false (not (is_in ls w)) (Some w) rest (ap not y)) ∙ h))
      | inr n ↦ absurd (let e : Some w ≡ None = sym (cond-true (not (is_in ls w)) (Some w) rest (ap not n)) ∙ h in cc)
    ]

-- ---- what is told of a library

module _ (text : List ℕ) (w : Wish) (t : Taken) (h : IsTakenByWish text w t) where
  worded_source : IsWorded h.source
  worded_source = sources_worded text h.source h.declares

  -- its labels are tokens
  pub wish_labels : AllByRecursion IsLabelToken (labels_wished w)
  wish_labels =
      let xs = h.source.assertions in
      let labels = all_map IsAssertionWorded IsLabelToken (λ x. x.label) xs (λ x worded. worded.label)
      (recursion_from_All IsAssertionWorded xs worded_source.assertions) in
      all_known IsLabelToken (labels_of xs) (labels_wished w) labels h.known

  pub wish_quiet : AllByRecursion AreQuiet (labels_wished w)
  wish_quiet = all_weaker IsLabelToken AreQuiet (labels_wished w) label_quiet wish_labels

  pub names_quiet : HasSpelling t.database → AllByRecursion IsQuietNaming (names_of t)
  names_quiet spelling =
      let whole = sources_whole h.declares.statements h.source h.declares.declared in
      changed_quiet h.source h.choice t.database (axioms_of t) (names_of t) h.takes worded_source whole.distinct spelling

  pub axioms_quiet : AllByRecursion IsQuietAxiom (axioms_of t)
  axioms_quiet =
      subst (AllByRecursion IsQuietAxiom) h.takes.axioms_told
      (told_quiet h.choice [] h.source.assertions (recursion_from_All IsAssertionWorded h.source.assertions worded_source.assertions))
