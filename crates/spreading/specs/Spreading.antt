-- The forms of a script that speak of a source, done away with by the source: `replace * OLD NEW` is one transaction for each theorem
-- that cites OLD, and `before M` is `behind` the assertion in front of M.
use Rattle.std.specs.Prelude.{◌≡◌, ℕ, zero, suc, Bool, false, ◌&&◌, List, [], ◌∷◌, ◌++◌, drop, filter, map, Option, Some, None, is_some, slice_get}
use Rattle.std.specs.Prelude.{if◌then◌else◌, codes}
use Rattle.std.specs.List.{flat_map}
use Rattle.std.specs.Option.{option_map}
use Rattle.std.specs.Str.{bytes_eq}
use Rattle.mmtext.specs.Words.{Word, all_digits}
use Rattle.mmtext.specs.Text.{Token}
use Rattle.mmsyntax.specs.Tables.{place_of}
use Rattle.source.specs.Statements.{Proof}
use Rattle.source.specs.Scopes.{Scope, is_in}
use Rattle.source.specs.Whole.{labels_in}
use Rattle.spreading.specs.Words.{says, word_at}
use Rattle.spreading.specs.Forms.{is_beside, Part, AreParts, begins_with, words_before_place, placed_at}

-- the place of the assertion with a label in a source, from 0
abbrev pub assertion_at : Scope → Word → Option ℕ
assertion_at s w = place_of (λ a. bytes_eq w a.label) s.assertions

-- ---- replace * OLD NEW

pub record Star : Type 0 where
  pub verb : Token
  pub star : Token
  pub old : Token
  pub new : Token

abbrev pub star_of : Part → Option Star
star_of (verb ∷ star ∷ old ∷ new ∷ []) =
    if says verb (codes "replace") && says star (codes "*")
    then Some (record { verb = verb; star = star; old = old; new = new }) else None
star_of _ = None

-- a proof, if there is one, names a label
abbrev pub cites : Word → Option Proof → Bool
cites w None = false
cites w (Some p) = is_in (labels_in p) w

-- the theorems of a source that cite an assertion, in its order
abbrev pub citing : Scope → Word → List Word
citing s w = map (λ a. a.label) (filter (λ a. cites w a.proof) s.assertions)

abbrev pub replaced_in : Star → Word → List Token
replaced_in x w = x.verb ∷ word_at x.star.place w ∷ x.old ∷ x.new ∷ []

-- each in a transaction of its own: between two of them one ends and the next begins
abbrev pub replaced_in_each : Star → List Word → List Token
replaced_in_each x [] = []
replaced_in_each x (w ∷ []) = replaced_in x w
replaced_in_each x (w ∷ v ∷ ws) =
    replaced_in x w ++ word_at x.verb.place (codes "commit") ∷ word_at x.verb.place (codes "begin") ∷ replaced_in_each x (v ∷ ws)

-- ---- before M

-- the label of the assertion in front of one, if one stands there
abbrev pub label_in_front : Scope → Option ℕ → Option Word
label_in_front s None = None
label_in_front s (Some zero) = None
label_in_front s (Some (suc n)) = option_map (λ a. a.label) (slice_get s.assertions n)

abbrev pub behind_that : Token → Token → List Token → Option Word → List Token
behind_that how label rest None = how ∷ label ∷ rest
behind_that how label rest (Some w) = word_at how.place (codes "behind") ∷ word_at label.place w ∷ rest

-- words that say where something is put, and those behind them
abbrev pub spread_place : Scope → List Token → List Token
spread_place s (how ∷ label ∷ rest) =
    if says how (codes "before") then behind_that how label rest (label_in_front s (assertion_at s label.text)) else how ∷ label ∷ rest
spread_place s ts = ts

-- ---- all parts

abbrev pub spread_other : Scope → Part → Option Star → List Token
spread_other s p None = placed_at (words_before_place p) (spread_place s) p
spread_other s p (Some x) = replaced_in_each x (citing s x.old.text)

abbrev pub spread_part : Scope → Part → List Token
spread_part s p = spread_other s p (star_of p)

-- ---- what can't be

-- a label is that of no assertion of the source; a number says where something is put, and a source has no ranks; `replace *` stands beside
-- another command in its transaction
pub data Misfit : Type 0 where
  unknown : Token → Misfit
  numbered : Token → Misfit
  not_alone : Token → Misfit

abbrev pub unknown_label : Scope → Token → Option Misfit
unknown_label s t = if is_some (assertion_at s t.text) then None else Some (unknown t)

abbrev pub misfit_place : Scope → List Token → Option Misfit
misfit_place s [] = None
misfit_place s (how ∷ []) = if all_digits how.text then Some (numbered how) else None
misfit_place s (how ∷ label ∷ rest) =
    if is_beside how then unknown_label s label else (if all_digits how.text then Some (numbered how) else None)

abbrev pub misfit_behind : Scope → Part → Option ℕ → Option Misfit
misfit_behind s p None = None
misfit_behind s p (Some n) = misfit_place s (drop n p)

abbrev pub misfit_other : Scope → Bool → Part → Option Star → Option Misfit
misfit_other s alone p None = misfit_behind s p (words_before_place p)
misfit_other s alone p (Some x) = if alone then unknown_label s x.old else Some (not_alone x.star)

-- of a command that stands alone in its transaction or not
abbrev pub misfit_of : Scope → Bool → Part → Option Misfit
misfit_of s alone p = misfit_other s alone p (star_of p)

abbrev pub next_begins_with : Word → List Part → Bool
next_begins_with w [] = false
next_begins_with w (p ∷ ps) = begins_with w p

abbrev pub with_misfit : Option Misfit → List Misfit → List Misfit
with_misfit None later = later
with_misfit (Some m) later = m ∷ later

-- all of them, in order; whether `begin` stands right in front of these parts is said
abbrev pub misfits_in : Scope → Bool → List Part → List Misfit
misfits_in s begun [] = []
misfits_in s begun (p ∷ ps) =
    with_misfit (misfit_of s (begun && next_begins_with (codes "commit") ps) p) (misfits_in s (begins_with (codes "begin") p) ps)

-- ---- a script

-- the words of a script by the source, in which no such form is left but `behind`, and `before` the first assertion of all; and all that
-- can't be in it
pub record IsSpreadWith (s : Scope) (ts out : List Token) (ms : List Misfit) : Type 0 where
  pub parts : List Part
  pub are_parts : AreParts ts parts
  pub spread : out ≡ flat_map (spread_part s) parts
  pub misfits : ms ≡ misfits_in s false parts

-- a script in which all can be
abbrev pub IsSpread : Scope → List Token → List Token → Type 0
IsSpread s ts out = IsSpreadWith s ts out []
