-- A sound prelude stays sound with one more name that is new, and each name of a sound prelude is new behind those before it.
use Rattle.std.proofs.Common.{◌≡◌, ℕ, ◌+◌, ◌<◌, ◌≤◌, false, List, [], ◌∷◌, ◌++◌, length, take, Ok, Err, None, refl, sym, ap, subst, ◌∙◌}
use Rattle.std.proofs.Common.{arith}
use Rattle.std.specs.Option.{is_some}
use Rattle.std.specs.Str.{bytes_eq}
use Rattle.std.proofs.lemmas.Bool.{cond-false, lt-leb}
use Rattle.std.proofs.lemmas.List.{length-take-le, take_more}
use Rattle.mmsyntax.specs.declared.statement.Float.{Float}
use Rattle.mmtext.specs.declared.fault.FaultKind.TheVariants.{UnknownSymbol}
use Rattle.mmtext.specs.Words.{Word, has_dollar}
use Rattle.mmsyntax.specs.Tables.{Tables, place_of, named, meaning}
use Rattle.mmsyntax.specs.Rows.{is_used, Pass, symbol_tests, float_label_tests, type_named, type_of, variable_named, variable_of}
use Rattle.mmsyntax.specs.Rows.{with_constant, with_variable, with_float}
use Rattle.mmsyntax.specs.Layout.{IsSoundPrelude, word_at, float_at, no_float}
use Rattle.mmsyntax.specs.Preludes.{AreSound}
use Rattle.mmsyntax.proofs.Distinct.{not_used, distinct_left, place_of-item}
use Rattle.mmsyntax.proofs.Sound.{bare, alone_sound, constants_all, variables_all, float_sound}
use Rattle.mmsyntax.proofs.Again.{none_cond, plain_at}
use Rattle.mmsyntax.proofs.Canonical.{sound_tables, floats_sound}
use Rattle.mmsyntax.proofs.Copies.{constants_before, variables_before, floats_before, constant_is_new, variable_is_new, float_label_is_new}
use Rattle.mmsyntax.proofs.Copies.{float_variable_is_free}
use Rattle.drafts.specs.News.{IsNewSymbol, IsFreeVariable, IsNewFloat}

-- ---- one more name

unused : (t : Tables) (w : Word) → meaning t w ≡ None → is_used (bare t) w ≡ false
unused t w h = not_used (bare t) w (record { not_named = ap is_some h; not_label = refl; not_hypothesis = refl })

symbol_pass : (t : Tables) (n : ℕ) (w : Word) → IsNewSymbol t w → n < 65535 → Pass (symbol_tests (bare t) n w)
symbol_pass t n w s room =
    none_cond _ _ _ s.word.no_dollar (none_cond _ _ _ s.word.short (none_cond _ _ _ s.word.form
    (none_cond _ _ _ (unused t w s.new) (none_cond _ _ _ (lt-leb 65535 n room) refl))))

pub with_one_constant : (t : Tables) (w : Word) → AreSound t → length t.constants < 65535 → IsNewSymbol t w
    → AreSound (record t { constants = t.constants ++ w ∷ [] })
with_one_constant t w s room n =
    (constants_all (bare t) (w ∷ []) (with_constant (bare t) w) refl (alone_sound t _ s) (n.word.word, tt)
    (symbol_pass t (length t.constants) w n room, refl)).tables

pub with_one_variable : (t : Tables) (w : Word) → AreSound t → length t.variables < 65535 → IsNewSymbol t w
    → AreSound (record t { variables = t.variables ++ w ∷ [] })
with_one_variable t w s room n =
    (variables_all (bare t) (w ∷ []) (with_variable (bare t) w) refl (alone_sound t _ s) (n.word.word, tt)
    (symbol_pass t (length t.variables) w n room, refl)).tables

float_label_pass : (t : Tables) (f : Float) → IsNewFloat t f → length t.floats < 65535 → Pass (float_label_tests (bare t) f.label)
float_label_pass t f n room =
    none_cond _ _ _ n.sound.label.plain
    (none_cond _ _ _ (unused t f.label n.new) (none_cond _ _ _ (lt-leb 65535 (length t.floats) room) refl))

type_is : (t : Tables) (i : ℕ) → AreSound t → i < length t.constants → type_of t (word_at t.constants i) ≡ Ok i
unfolding type_of meaning
type_is t i s lt =
    let w = word_at t.constants i in
    cond-false (has_dollar w) (Err UnknownSymbol) _ (plain_at t.constants i s.constants_sound lt).no_dollar
    ∙ ap (λ c. type_named (named t.floats c (place_of (bytes_eq w) t.variables) (place_of (λ f. bytes_eq w f.label) t.floats)))
    (place_of-item t.constants i (distinct_left bytes_eq t.constants _ s.distinct) lt)

variable_is : (t : Tables) (v : ℕ) → AreSound t → IsFreeVariable t v → variable_of t (word_at t.variables v) ≡ Ok v
unfolding variable_of
variable_is t v s free =
    let w = word_at t.variables v in
    cond-false (has_dollar w) (Err UnknownSymbol) _ (plain_at t.variables v s.variables_sound free.within).no_dollar
    ∙ ap variable_named free.free

pub with_one_float : (t : Tables) (f : Float) → AreSound t → length t.floats < 65535 → IsNewFloat t f
    → AreSound (record t { floats = t.floats ++ f ∷ [] })
with_one_float t f s room n =
    (float_sound (bare t) (with_float (bare t) f.label f.type_code f.variable) f.label (word_at t.constants f.type_code)
    (word_at t.variables f.variable) f.type_code f.variable refl (alone_sound t _ s) n.sound.label.word n.sound.label.label
    (float_label_pass t f n room) (type_is t f.type_code s n.sound.type_within) (variable_is t f.variable s n.variable) refl).tables

-- ---- the tables so far, with the name at the next place

pub constants_so_far : (t s new : Tables) (w : Word) (i : ℕ) → s ≡ constants_before t i → w ≡ word_at t.constants i → i < length t.constants
    → new ≡ record s { constants = s.constants ++ w ∷ [] } → new ≡ constants_before t (i + 1)
constants_so_far t s new w i e f lt made =
    let here = constants_before t i in
    made
    ∙ ap (λ (x : Tables). record x { constants = x.constants ++ w ∷ [] }) e
    ∙ ap (λ (v : Word). record here { constants = here.constants ++ v ∷ [] }) f
    ∙ ap (λ (ws : List Word). record here { constants = ws }) (sym (take_more t.constants i [] lt))

pub variables_so_far : (t s new : Tables) (w : Word) (i : ℕ) → s ≡ variables_before t i → w ≡ word_at t.variables i → i < length t.variables
    → new ≡ record s { variables = s.variables ++ w ∷ [] } → new ≡ variables_before t (i + 1)
variables_so_far t s new w i e f lt made =
    let here = variables_before t i in
    made
    ∙ ap (λ (x : Tables). record x { variables = x.variables ++ w ∷ [] }) e
    ∙ ap (λ (v : Word). record here { variables = here.variables ++ v ∷ [] }) f
    ∙ ap (λ (ws : List Word). record here { variables = ws }) (sym (take_more t.variables i [] lt))

pub floats_so_far : (t s new : Tables) (f : Float) (i : ℕ) → s ≡ floats_before t i → f ≡ float_at t.floats i → i < length t.floats
    → new ≡ record s { floats = s.floats ++ f ∷ [] } → new ≡ floats_before t (i + 1)
floats_so_far t s new f i e is lt made =
    let here = floats_before t i in
    made
    ∙ ap (λ (x : Tables). record x { floats = x.floats ++ f ∷ [] }) e
    ∙ ap (λ (g : Float). record here { floats = here.floats ++ g ∷ [] }) is
    ∙ ap (λ (fs : List Float). record here { floats = fs }) (sym (take_more t.floats i no_float lt))

-- ---- names behind those before them

-- there is room for the name at a place
pub room_at : (ws before : List Word) (i : ℕ) → before ≡ take i ws → i < length ws → length ws ≤ 65535 → length before < 65535
room_at ws before i e lt few =
    let long : length before ≡ i = ap (λ (vs : List Word). length vs) e ∙ length-take-le i ws (omega arith) in
    omega arith

pub float_room_at : (fs before : List Float) (i : ℕ) → before ≡ take i fs → i < length fs → length fs ≤ 65535 → length before < 65535
float_room_at fs before i e lt few =
    let long : length before ≡ i = ap (λ (gs : List Float). length gs) e ∙ length-take-le i fs (omega arith) in
    omega arith

new_symbol : (s t : Tables) (w v : Word) → s ≡ t → w ≡ v → IsNewSymbol t v → IsNewSymbol s w
new_symbol s t w v e f h = subst (λ (x : Tables). IsNewSymbol x w) (sym e) (subst (λ (x : Word). IsNewSymbol t x) (sym f) h)

module _ (t : Tables) (sound : IsSoundPrelude t) where
  pub constant_is_next : (s : Tables) (w : Word) (i : ℕ) → s ≡ constants_before t i → w ≡ word_at t.constants i → i < length t.constants
      → IsNewSymbol s w
  constant_is_next s w i e f lt =
      new_symbol s (constants_before t i) w (word_at t.constants i) e f
      (record { word = plain_at t.constants i (sound_tables t sound).constants_sound lt; new = constant_is_new t sound i lt })

  pub variable_is_next : (s : Tables) (w : Word) (i : ℕ) → s ≡ variables_before t i → w ≡ word_at t.variables i → i < length t.variables
      → IsNewSymbol s w
  variable_is_next s w i e f lt =
      new_symbol s (variables_before t i) w (word_at t.variables i) e f
      (record { word = plain_at t.variables i (sound_tables t sound).variables_sound lt; new = variable_is_new t sound i lt })

  float_at_place : (i : ℕ) → i < length t.floats → IsNewFloat (floats_before t i) (float_at t.floats i)
  float_at_place i lt =
      let f = floats_sound t sound i no_float lt in
      record {
        sound = record { label = f.label; type_within = f.type_within; variable_within = f.variable_within };
        new = float_label_is_new t sound i (float_at t.floats i) lt refl;
        variable = record {
          within = f.variable_within;
          free = float_variable_is_free t sound i (float_at t.floats i) lt refl;
        };
      }

  pub float_is_next : (s : Tables) (f : Float) (i : ℕ) → s ≡ floats_before t i → f ≡ float_at t.floats i → i < length t.floats
      → IsNewFloat s f
  float_is_next s f i e is lt =
      subst (λ (x : Tables). IsNewFloat x f) (sym e)
      (subst (λ (x : Float). IsNewFloat (floats_before t i) x) (sym is) (float_at_place i lt))
