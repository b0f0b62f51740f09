-- The letters of a compressed proof as numbers, marks and steps that aren't there (Metamath book, appendix B).
use Rattle.std.specs.Prelude.{ℕ, ◌+◌, ◌-◌, ◌*◌, Bool, true, false, ◌&&◌, ◌==◌, nat_lt, nat_le, List, [], ◌∷◌, Option, Some, None}
use Rattle.std.specs.Prelude.{if◌then◌else◌}
use Rattle.source.specs.declared.letters.Code.{Code}
use Rattle.source.specs.declared.letters.Code.TheVariants.{Number, Mark, Unknown}
use Rattle.source.specs.declared.letters.Turn.{Turn}

-- A to T end a number and count 1 to 20
abbrev pub is_last : ℕ → Bool
is_last b = nat_le 65 b && nat_le b 84

-- U to Y stand before it and count 1 to 5
abbrev pub is_front : ℕ → Bool
is_front b = nat_le 85 b && nat_le b 89

-- then the number is over 268,435,460; no source, of at most 268,435,456 bytes, has so many hypotheses, labels and marks
abbrev pub is_too_large : ℕ → Bool
is_too_large front = nat_lt 13421772 front

-- u1 .. uj a is the number 20 * (5 * (.. 5 * u1 ..) + uj) + a: what a letter does behind a front that counts as much (0: none). Z and ?
-- stand where no number is cut
abbrev pub turn_at : ℕ → ℕ → Option Turn
turn_at front b =
    if is_too_large front then None else (
    if is_last b then Some (record { said = Some (Number (20 * front + (b - 64))); front = 0 }) else (
    if is_front b then Some (record { said = None; front = 5 * front + (b - 84) }) else (
    if (b == 90) && (front == 0) then Some (record { said = Some Mark; front = 0 }) else (
    if (b == 63) && (front == 0) then Some (record { said = Some Unknown; front = 0 }) else None))))

-- a code is ?
abbrev pub is_absent : Code → Bool
is_absent Unknown = true
is_absent _ = false

-- codes, and what counts in front of the letters that follow
pub record Decoded : Type 0 where
  pub codes : List Code
  pub front : ℕ

-- a code that ends with a letter, before what the rest says
abbrev pub before : Option Code → Option Decoded → Option Decoded
before None rest = rest
before (Some c) None = None
before (Some c) (Some d) = Some (record d { codes = c ∷ d.codes })

-- what a letter does, before what the rest says
abbrev pub turned : Option Turn → (ℕ → Option Decoded) → Option Decoded
turned None rest = None
turned (Some t) rest = before t.said (rest t.front)

-- the codes that end with letters behind such a front, if each letter may stand there
unfoldable pub decoded : ℕ → List ℕ → Option Decoded
decoded front [] = Some (record { codes = []; front = front })
decoded front (b ∷ bs) = turned (turn_at front b) (λ f. decoded f bs)

-- no number is cut
abbrev pub uncut : Option Decoded → Option (List Code)
uncut None = None
uncut (Some d) = if d.front == 0 then Some d.codes else None

-- the codes of all letters
abbrev pub codes_of : List ℕ → Option (List Code)
codes_of letters = uncut (decoded 0 letters)
