-- A sound prelude is declared again item by item: each name is new behind those before it.
use Rattle.std.proofs.Common.{◌≡◌, ℕ, zero, suc, ◌<◌, ◌≤◌, Bool, false, eqb, List, [], ◌∷◌, ◌++◌, length, get_or, take, Some, None, refl}
use Rattle.std.proofs.Common.{sym, ap, subst, ◌∙◌, arith, append_assoc}
use Rattle.std.specs.List.{list_any}
use Rattle.std.specs.Str.{bytes_eq}
use Rattle.std.proofs.lemmas.List.{append-nil, get_or-map, get_or_default, take-map, length-map}
use Rattle.std.proofs.lemmas.List.Folds.{list_any-append}
use Rattle.std.proofs.lemmas.Bool.{or_from}
use Rattle.mmsyntax.specs.declared.statement.Float.{Float}
use Rattle.mmsyntax.specs.declared.symbols.Name.TheVariants.{Variable}
use Rattle.mmsyntax.specs.Tables.{Tables, place_of, named, meaning}
use Rattle.mmtext.specs.Words.{Word}
use Rattle.mmsyntax.specs.Layout.{IsSoundPrelude, word_at, float_at, no_float}
use Rattle.mmsyntax.specs.Assertions.{Distinct}
use Rattle.mmsyntax.proofs.Names.{bytes_eq-sym}
use Rattle.mmsyntax.proofs.Distinct.{cross, distinct_left, distinct_right, any_at, place_of-item, place_of-absent, float_labels}
use Rattle.mmsyntax.proofs.Distinct.{is_some-meaning}
use Rattle.mmsyntax.proofs.Sound.{AreSound, variables_used, any_swap, eqb-sym}
use Rattle.mmsyntax.proofs.Canonical.{sound_tables, floats_sound}
use Rattle.mmsyntax.proofs.Options.{none_is}

-- the tables of a prelude up to a constant, a variable, a $f
abbrev pub constants_before : Tables → ℕ → Tables
constants_before t i = record { constants = take i t.constants; variables = []; floats = [] }

abbrev pub variables_before : Tables → ℕ → Tables
variables_before t i = record { constants = t.constants; variables = take i t.variables; floats = [] }

abbrev pub floats_before : Tables → ℕ → Tables
floats_before t i = record t { floats = take i t.floats }

-- an item of different ones is none of those before it
module _ {A : Type 0} (eq : A → A → Bool) (eq-sym : (a b : A) → eq a b ≡ eq b a) where
  absent_before : (xs : List A) (i : ℕ) (d : A) → Distinct eq xs → i < length xs → list_any (eq (get_or xs i d)) (take i xs) ≡ false
  absent_before [] i d h lt = absurd (omega arith)
  absent_before (x ∷ xs) zero d h lt = refl
  absent_before (x ∷ xs) (suc i) d h lt =
      let y = get_or xs i d in
      or_from (eq y x) (list_any (eq y) (take i xs)) (eq-sym y x ∙ any_at (eq x) xs i d h.0 (omega arith))
      (absent_before xs i d h.1 (omega arith))

-- an item as the code reads it, at a default of its own
pub item_at : {A : Type 0} (xs items : List A) (i : ℕ) (x d : A) → items ≡ xs → x ≡ get_or items i x → i < length items
    → (x ≡ get_or xs i d) × (i < length xs)
item_at {A} xs items i x d e h lt =
    let within : i < length xs = subst (λ (ys : List A). i < length ys) e lt in
    (h ∙ ap (λ ys. get_or ys i x) e ∙ get_or_default xs i x d within, within)

module _ (t : Tables) (sound : IsSoundPrelude t) where
  it_is_sound : AreSound t
  it_is_sound = sound_tables t sound

  all_distinct : Distinct bytes_eq (t.constants ++ (t.variables ++ float_labels t.floats))
  all_distinct = it_is_sound.distinct

  pub few_constants : length t.constants ≤ 65535
  few_constants = it_is_sound.constants_fit

  pub few_variables : length t.variables ≤ 65535
  few_variables = it_is_sound.variables_fit

  pub few_floats : length t.floats ≤ 65535
  few_floats = it_is_sound.floats_fit

  pub constant_is_new : (i : ℕ) → i < length t.constants → meaning (constants_before t i) (word_at t.constants i) ≡ None
  constant_is_new i lt =
      let w = word_at t.constants i in
      none_is _ (
      is_some-meaning (constants_before t i) w ∙ ap (list_any (bytes_eq w)) (append-nil (take i t.constants))
      ∙ absent_before bytes_eq bytes_eq-sym t.constants i [] (distinct_left bytes_eq t.constants _ all_distinct) lt
      )

  pub variable_is_new : (i : ℕ) → i < length t.variables → meaning (variables_before t i) (word_at t.variables i) ≡ None
  variable_is_new i lt =
      let w = word_at t.variables i in
      let both : Distinct bytes_eq (t.constants ++ t.variables) =
      distinct_left bytes_eq (t.constants ++ t.variables) (float_labels t.floats)
      (subst (Distinct bytes_eq) (sym (append_assoc t.constants t.variables (float_labels t.floats))) all_distinct) in
      none_is _ (
      is_some-meaning (variables_before t i) w ∙ ap (λ x. list_any (bytes_eq w) (t.constants ++ x)) (append-nil (take i t.variables))
      ∙ list_any-append (bytes_eq w) t.constants (take i t.variables)
      ∙ or_from _ _ (cross t.constants t.variables i both lt)
      (absent_before bytes_eq bytes_eq-sym t.variables i [] (distinct_right bytes_eq t.constants t.variables both) lt)
      )

  label_is_new : (i : ℕ) → i < length t.floats → meaning (floats_before t i) (float_at t.floats i).label ≡ None
  label_is_new i lt =
      let ls = float_labels t.floats in
      let symbols = t.constants ++ t.variables in
      let d : Distinct bytes_eq (symbols ++ ls) = subst (Distinct bytes_eq) (sym (append_assoc t.constants t.variables ls)) all_distinct in
      let within : i < length ls = omega (arith, length-map t.floats (λ (f : Float). f.label)) in
      let absent : list_any (bytes_eq (get_or ls i [])) (symbols ++ take i ls) ≡ false =
      list_any-append (bytes_eq (get_or ls i [])) symbols (take i ls)
      ∙ or_from _ _ (cross symbols ls i d within) (absent_before bytes_eq bytes_eq-sym ls i []
      (distinct_right bytes_eq symbols ls d) within) in
      let it : get_or ls i [] ≡ (float_at t.floats i).label = get_or-map (λ f. f.label) t.floats i no_float [] lt in
      let w = (float_at t.floats i).label in
      none_is _ (
      is_some-meaning (floats_before t i) w
      ∙ ap (λ x. list_any (bytes_eq w) (t.constants ++ (t.variables ++ x))) (sym (take-map (λ f. f.label) i t.floats))
      ∙ ap (list_any (bytes_eq w)) (sym (append_assoc t.constants t.variables (take i ls)))
      ∙ subst (λ (x : Word). list_any (bytes_eq x) (symbols ++ take i ls) ≡ false) it absent
      )

  variable_is_free : (i : ℕ) → i < length t.floats → meaning (floats_before t i) (word_at t.variables (float_at t.floats i).variable)
      ≡ Some (Variable (float_at t.floats i).variable None)
  unfolding meaning
  variable_is_free i lt =
      let v = (float_at t.floats i).variable in
      let w = word_at t.variables v in
      let fs = take i t.floats in
      let p = place_of (bytes_eq w) t.variables in
      let l = place_of (λ f. bytes_eq w f.label) fs in
      let both : Distinct bytes_eq (t.constants ++ t.variables) =
      distinct_left bytes_eq (t.constants ++ t.variables) (float_labels t.floats)
      (subst (Distinct bytes_eq) (sym (append_assoc t.constants t.variables (float_labels t.floats))) all_distinct) in
      let within : v < length t.variables = (floats_sound t sound i no_float lt).variable_within in
      let used : i < length (variables_used t.floats) = omega (arith, length-map t.floats (λ (f : Float). f.variable)) in
      let it : get_or (variables_used t.floats) i 0 ≡ v = get_or-map (λ f. f.variable) t.floats i no_float 0 lt in
      let absent : list_any (eqb v) (variables_used fs) ≡ false =
      ap (list_any (eqb v)) (sym (take-map (λ f. f.variable) i t.floats))
      ∙ subst (λ (x : ℕ). list_any (eqb x) (take i (variables_used t.floats)) ≡ false) it
      (absent_before eqb eqb-sym (variables_used t.floats) i 0 it_is_sound.apart used) in
      ap (λ c. named fs c p l) (place_of-absent (bytes_eq w) t.constants (cross t.constants t.variables v both within))
      ∙ ap (λ p. named fs None p l) (place_of-item t.variables v (distinct_right bytes_eq t.constants t.variables both) within)
      ∙ ap (λ o. Some (Variable v o)) (place_of-absent (λ f. eqb f.variable v) fs (any_swap fs v ∙ absent))

  -- the $f at a place, as the code reads it: its label and its variable are declared next
  pub float_label_is_new : (i : ℕ) (f : Float) → i < length t.floats → f ≡ float_at t.floats i → meaning (floats_before t i) f.label ≡ None
  float_label_is_new i f lt e = subst (λ (g : Float). meaning (floats_before t i) g.label ≡ None) (sym e) (label_is_new i lt)

  pub float_variable_within : (i : ℕ) (f : Float) → i < length t.floats → f ≡ float_at t.floats i → f.variable < length t.variables
  float_variable_within i f lt e = subst (λ (g : Float). g.variable < length t.variables) (sym e)
      (floats_sound t sound i no_float lt).variable_within

  pub float_variable_is_free : (i : ℕ) (f : Float) → i < length t.floats → f ≡ float_at t.floats i
      → meaning (floats_before t i) (word_at t.variables f.variable) ≡ Some (Variable f.variable None)
  float_variable_is_free i f lt e = subst (λ (g : Float). meaning (floats_before t i) (word_at t.variables g.variable)
      ≡ Some (Variable g.variable None)) (sym e) (variable_is_free i lt)
