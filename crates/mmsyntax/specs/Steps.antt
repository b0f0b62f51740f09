-- The steps of a proof: labels in reverse Polish order (Metamath book, section 4.1.4), with their tests in order.
use Rattle.std.specs.Prelude.{ℕ, ◌||◌, nat_lt, nat_le, List, [], ◌∷◌, length, Option, Some, None, Result, Ok, Err, if◌then◌else◌, codes}
use Rattle.std.specs.Str.{bytes_eq}
use mathlib.Core.Bool.{not}
use Rattle.mmsyntax.specs.declared.statement.Step.{Step}
use Rattle.mmsyntax.specs.declared.statement.Step.TheVariants.{Float, Hyp, Cite}
use Rattle.mmsyntax.specs.declared.symbols.Name.{Name}
use Rattle.mmsyntax.specs.declared.symbols.Name.TheVariants.{Label}
use Rattle.mmtext.specs.declared.fault.FaultKind.{FaultKind}
use Rattle.mmtext.specs.declared.fault.FaultKind.TheVariants.{BadToken, OutOfProfile, BadLabel, TooLong, LabelClashes}
use Rattle.mmtext.specs.Words.{Word, has_dollar, is_label}
use Rattle.mmsyntax.specs.Tables.{Tables, meaning, place_of}
use Rattle.mmsyntax.specs.Dotted.{is_dotted}
use Rattle.mmsyntax.specs.Rows.{Tests, first_fault}
use Rattle.mmsyntax.specs.Blocks.{Hypothesis}
use Rattle.mmsyntax.specs.declared.limits.TheConstants.{MOST_NAME_BYTES, MOST_STEPS}

-- an unknown step ? and a compressed proof are out of the profile; a step is a label, and a proof has at most 16,384
abbrev pub step_tests : ℕ → Word → Tests
step_tests count w =
    (bytes_eq w (codes "?") || bytes_eq w (codes "("), OutOfProfile)
    ∷ (has_dollar w, BadToken)
    ∷ (not (is_label w), BadToken)
    ∷ (nat_le MOST_STEPS count, TooLong)
    ∷ []

-- the $f of which a word is the label
abbrev pub float_named : Option Name → Option ℕ
float_named (Some (Label j)) = Some j
float_named _ = None

-- the place of the hypothesis with a label
abbrev pub hypothesis_named : List Hypothesis → Word → Option ℕ
hypothesis_named hyps w = place_of (λ h. bytes_eq w h.label) hyps

-- what a word names in the proof of L: a hypothesis is active in its block alone (section 4.1.3). Any other label is that of an assertion,
-- which no reader looks up; L.k is that of none (a rule of the profile)
abbrev pub step_named : Word → Word → Option ℕ → Option ℕ → Result Step FaultKind
step_named label w (Some j) h = Ok (Float j)
step_named label w None (Some n) = Ok (Hyp n)
step_named label w None None =
    if nat_lt MOST_NAME_BYTES (length w) then Err BadLabel else (if is_dotted label w then Err LabelClashes else Ok (Cite w))

-- the fault of a test, and else what the word names
abbrev pub unless_faulty : Option FaultKind → Result Step FaultKind → Result Step FaultKind
unless_faulty (Some kind) named = Err kind
unless_faulty None named = named

-- a word behind `count` steps of the proof of L, in a block with these hypotheses
unfoldable pub step_of : Tables → Word → List Hypothesis → ℕ → Word → Result Step FaultKind
step_of t label hyps count w =
    unless_faulty (first_fault (step_tests count w)) (step_named label w (float_named (meaning t w)) (hypothesis_named hyps w))
