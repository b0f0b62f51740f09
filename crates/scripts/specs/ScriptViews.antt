-- Of the code's inside, apart from the rules: how the values of the reader of scripts are seen.
use Rattle.std.specs.Prelude.{◌≡◌, ℕ, nat_lt, Bool, true, false, List, [], ◌∷◌, Option, Result, Ok, Err, if◌then◌else◌}
use Rattle.std.specs.Str.Parse.{digits_value}
use Rattle.mmtext.specs.declared.fault.FaultKind.TheVariants.{BadToken, TooLong}
use Rattle.mmtext.specs.declared.fault.Stop.{Stop}
use Rattle.mmtext.specs.declared.fault.Stop.TheVariants as stop
use Rattle.mmtext.specs.declared.fault.TextFault.{TextFault}
use Rattle.mmtext.specs.Text.{Token}
use Rattle.mmtext.specs.Words.{Word, has_dollar}
use Rattle.mmtext.specs.Languages.{fault}
use Rattle.mmsyntax.specs.Dotted.{hypothesis_numbered}
use Rattle.mmsyntax.specs.Tables.{Tables}
use Rattle.statementreader.specs.UnitReadings.{position_of}
use Rattle.scripts.specs.declared.script.place.CommandPlace.{CommandPlace as CodeCommandPlace}
use Rattle.scripts.specs.declared.script.place.CommandPlace.TheVariants as code
use Rattle.scripts.specs.declared.script.place.Verb.{Verb}
use Rattle.scripts.specs.declared.script.place.Verb.TheVariants as verb
use Rattle.scripts.specs.declared.script.place.Labels.{Labels}
use Rattle.scripts.specs.declared.script.place.Labels.TheVariants as labels
use Rattle.scripts.specs.declared.script.place.Place.{Place as CodePlace}
use Rattle.scripts.specs.declared.script.place.Place.TheVariants as outer
use Rattle.scripts.specs.declared.script.place.Led.{Led as CodeLed}
use Rattle.scripts.specs.declared.script.place.Led.TheVariants as led
use Rattle.scripts.specs.declared.script.place.ScriptReader.{ScriptReader}
use Rattle.library.specs.declared.command.Command.{Command}
use Rattle.library.specs.declared.command.Command.TheVariants as command
use Rattle.library.specs.Fitting.{highest_rank}
use Rattle.scripts.specs.Scripts.{counted_from_0}
use Rattle.scripts.specs.ScriptFaults.{CommandPlace, at_end, at_label, in_unit, in_proof, Place, outermost, at_command, within, Progress}
use Rattle.scripts.specs.ScriptFaults.{Led, inside, whole_command, bad, bad_text, is_numeral, behind_verb, in_command}

-- ---- words

-- the place of the hypothesis that a word names in another proof of L
unfoldable pub place_numbered : Word → Word → Option ℕ
place_numbered label w = counted_from_0 (hypothesis_numbered label w)

-- a label, or the fault of a token that isn't one
abbrev pub label_at : Token → Result Word TextFault
label_at t = if has_dollar t.text then fault t BadToken else Ok t.text

-- a number up to a highest, or the fault of a token that isn't one
abbrev pub number_at : ℕ → Token → Result ℕ TextFault
number_at highest t =
    if is_numeral t.text then (if nat_lt highest (digits_value 10 t.text) then fault t TooLong else Ok (digits_value 10 t.text))
    else fault t BadToken

-- a rank, or the fault of a token that isn't one
abbrev pub rank_at : Token → Result ℕ TextFault
rank_at t = number_at highest_rank t

-- ---- places

-- labels of the code
abbrev pub seen_labels : Labels → List Word
seen_labels labels.NoLabel = []
seen_labels (labels.One label) = label ∷ []
seen_labels (labels.Two label second) = label ∷ second ∷ []

-- where labels lead: nowhere on, if there are more than are wanted, which is at no place of a text
abbrev pub behind_labels : CommandPlace → List Word → CommandPlace
behind_labels p [] = p
behind_labels (at_label behind) (label ∷ more) = behind_labels (behind label) more
behind_labels p (label ∷ more) = at_end command.List

-- a place of the code in a command
abbrev pub seen_command_place : Tables → CodeCommandPlace → CommandPlace
seen_command_place t (code.Behind v given) = behind_labels (behind_verb t v) (seen_labels given)
seen_command_place t (code.InUnit rank r) = in_unit (λ a. command.Add rank a) (position_of t r.value)
seen_command_place t (code.InProof label steps) = in_proof label (λ given. command.Reprove label given) steps

-- behind labels of a command no rank and no proof is wanted
abbrev pub AsksLabel : Verb → Labels → Type 0
AsksLabel verb.Add labels.NoLabel = ⊥
AsksLabel verb.Reprove (labels.One label) = ⊥
AsksLabel verb.Move (labels.One label) = ⊥
AsksLabel _ _ = Unit {0}

-- a place of the code
abbrev pub seen_place : Tables → CodePlace → Place
seen_place t outer.Outermost = outermost
seen_place t (outer.AtCommand commands) = at_command commands.items
seen_place t (outer.Within commands p) = within commands.items (seen_command_place t p)

-- where a token of a command led
abbrev pub seen_led : Tables → CodeLed → Led
seen_led t (led.Inside p) = inside (seen_command_place t p)
seen_led t (led.Whole c) = whole_command c

-- where a token of a command leads, or its fault
abbrev pub decided : Token → Led → Result Led TextFault
decided t (inside p) = Ok (inside p)
decided t (whole_command c) = Ok (whole_command c)
decided t (bad kind) = fault t kind
decided t (bad_text f) = Err f

-- a place of the code behind whole transactions
abbrev pub seen_at : Tables → List (List Command) → CodePlace → Progress
seen_at t script p = record { script = script; place = seen_place t p }

-- how far a script was read, as the code keeps it
abbrev pub seen_progress : ScriptReader → Progress
seen_progress r = seen_at r.prelude.now r.script.items r.place

-- whether a function took a word without $ in a command, and the place then
abbrev pub TakesInCommand : Tables → CommandPlace → Token → CommandPlace → Result Bool Stop → Type 0
TakesInCommand t p token q (Ok true) = (has_dollar token.text ≡ false) × (in_command t p token ≡ inside q)
TakesInCommand t p token q (Ok false) = q ≡ p
TakesInCommand t p token q (Err stop.Memory) = Unit {0}
TakesInCommand t p token q (Err (stop.Fault f)) = (has_dollar token.text ≡ false) × (decided token (in_command t p token) ≡ Err f)
