-- The fault of a script: each token outside of comments in its place, one function a place.
use Rattle.std.specs.Prelude.{ℕ, Bool, ◌||◌, nat_lt, List, [], ◌∷◌, ◌++◌, length, Option, Some, None}
use Rattle.std.specs.Prelude.{Result, Ok, Err, if◌then◌else◌, codes}
use Rattle.std.specs.Str.{bytes_eq}
use Rattle.std.specs.Str.Parse.{digits_value}
use Rattle.mmtext.specs.declared.fault.FaultKind.{FaultKind}
use Rattle.mmtext.specs.declared.fault.FaultKind.TheVariants.{BadToken, TooLong}
use Rattle.mmtext.specs.declared.fault.TextFault.{TextFault}
use Rattle.mmtext.specs.declared.mark.Mark.{Mark}
use Rattle.mmtext.specs.declared.mark.Mark.TheVariants as mark
use Rattle.mmtext.specs.Text.{Token, mark_of}
use Rattle.mmtext.specs.Words.{Word, has_dollar, is_count}
use Rattle.mmtext.specs.Languages.{Language, fault, Faulty}
use Rattle.mmsyntax.specs.declared.statement.Step.{Step}
use Rattle.mmsyntax.specs.declared.statement.Assertion.{Assertion}
use Rattle.mmsyntax.specs.Tables.{Tables}
use Rattle.mmsyntax.specs.Rows.{prelude_alone}
use Rattle.mmsyntax.specs.Faults.{Position, at_start, outside, row, unit_at}
use Rattle.library.specs.declared.command.Command.{Command}
use Rattle.library.specs.declared.command.Command.TheVariants as command
use Rattle.library.specs.Fitting.{highest_rank}
use Rattle.scripts.specs.declared.script.place.Verb.{Verb}
use Rattle.scripts.specs.declared.script.place.Verb.TheVariants as verb
use Rattle.scripts.specs.Scripts.{other_step_of}
use Rattle.mmsyntax.specs.declared.limits.TheConstants.{MOST_BYTES}

-- ---- places

-- a place in a command or behind it: what is wanted there, and where that leads
pub data CommandPlace : Type 0 where
  -- behind the whole command: nothing
  at_end : Command → CommandPlace
  -- a label; a rank
  at_label : (Word → CommandPlace) → CommandPlace
  at_rank : (ℕ → CommandPlace) → CommandPlace
  -- the assertion with which the command is whole, or the rest of it
  in_unit : (Assertion → Command) → Position → CommandPlace
  -- another proof of an assertion with a label: $=, and behind it and steps one more, or $.
  at_proof : Word → (List Step → Command) → CommandPlace
  in_proof : Word → (List Step → Command) → List Step → CommandPlace

-- a place in a script: between transactions; behind begin and whole commands; and in a command behind those
pub data Place : Type 0 where
  outermost : Place
  at_command : List Command → Place
  within : List Command → CommandPlace → Place

-- the transactions that were committed, and the place behind them
pub record Progress : Type 0 where
  pub script : List (List Command)
  pub place : Place

-- ---- one token

-- a token leads to a place in the command, or ends it, or has a fault
pub data Led : Type 0 where
  inside : CommandPlace → Led
  whole_command : Command → Led
  bad : FaultKind → Led
  bad_text : TextFault → Led

-- a token leads to a place in the command or behind it
abbrev pub to : CommandPlace → Led
to (at_end c) = whole_command c
to place = inside place

-- where a label is wanted: any token without $
abbrev pub label_row : Token → (Word → CommandPlace) → Led
label_row t behind = if has_dollar t.text then bad BadToken else to (behind t.text)

-- decimal digits without leading zero, or 0
abbrev pub is_numeral : Word → Bool
is_numeral w = bytes_eq w (codes "0") || is_count w

-- where a rank is wanted: a numeral, up to the highest
abbrev pub rank_row : Token → (ℕ → CommandPlace) → Led
rank_row t behind =
    if is_numeral t.text then (if nat_lt highest_rank (digits_value 10 t.text) then bad TooLong else to (behind (digits_value 10 t.text)))
    else bad BadToken

-- the assertion stands over the prelude alone
abbrev pub unit_start : Tables → Position
unit_start t = record { known = prelude_alone t; place = at_start outside }

-- the assertion is whole, or not yet
abbrev pub unit_led : (Assertion → Command) → Position → Option Assertion → Led
unit_led made p None = inside (in_unit made p)
unit_led made p (Some a) = whole_command (made a)

-- a token of the assertion
abbrev pub unit_row : (Assertion → Command) → Result Position TextFault → Led
unit_row made (Ok p) = unit_led made p (unit_at p.known p.place)
unit_row made (Err f) = bad_text f

-- where a proof is wanted: $=
abbrev pub proof_start : Word → (List Step → Command) → Mark → Led
proof_start label made mark.Proof = inside (in_proof label made [])
proof_start label made _ = bad BadToken

-- one more step
abbrev pub step_led : Word → (List Step → Command) → List Step → Result Step FaultKind → Led
step_led label made steps (Ok s) = inside (in_proof label made (steps ++ s ∷ []))
step_led label made steps (Err kind) = bad kind

-- a step, or the $. behind one
abbrev pub step_row : Tables → Word → (List Step → Command) → List Step → Token → Mark → Led
step_row t label made (s ∷ steps) token mark.End = whole_command (made (s ∷ steps))
step_row t label made steps token m = step_led label made steps (other_step_of t label (length steps) token.text)

-- the row of each place in a command
abbrev pub in_command : Tables → CommandPlace → Token → Led
in_command t (at_end c) token = bad BadToken
in_command t (at_label behind) token = label_row token behind
in_command t (at_rank behind) token = rank_row token behind
in_command t (in_unit made p) token = unit_row made (row p token)
in_command t (at_proof label made) token = proof_start label made (mark_of token.text)
in_command t (in_proof label made steps) token = step_row t label made steps token (mark_of token.text)

-- which command a word begins
abbrev pub verb_of : Word → Option Verb
verb_of w =
    if bytes_eq w (codes "add") then Some verb.Add else (
    if bytes_eq w (codes "reprove") then Some verb.Reprove else (
    if bytes_eq w (codes "replace") then Some verb.Replace else (
    if bytes_eq w (codes "rename") then Some verb.Rename else (
    if bytes_eq w (codes "move") then Some verb.Move else (
    if bytes_eq w (codes "delete") then Some verb.Delete else (
    if bytes_eq w (codes "show") then Some verb.Show else (
    if bytes_eq w (codes "list") then Some verb.List else None)))))))

-- what each command wants behind its word, in order, and which it is with that
abbrev pub behind_verb : Tables → Verb → CommandPlace
behind_verb t verb.Add = at_rank (λ rank. in_unit (λ a. command.Add rank a) (unit_start t))
behind_verb t verb.Reprove = at_label (λ label. at_proof label (λ steps. command.Reprove label steps))
behind_verb t verb.Replace = at_label (λ label. at_label (λ old. at_label (λ new. at_end (command.Replace label old new))))
behind_verb t verb.Rename = at_label (λ old. at_label (λ new. at_end (command.Rename old new)))
behind_verb t verb.Move = at_label (λ label. at_rank (λ rank. at_end (command.Move label rank)))
behind_verb t verb.Delete = at_label (λ label. at_end (command.Delete label))
behind_verb t verb.Show = at_label (λ label. at_end (command.Show label))
behind_verb t verb.List = at_end command.List

-- the word of a command
abbrev pub verb_row : Tables → Option Verb → Led
verb_row t None = bad BadToken
verb_row t (Some v) = to (behind_verb t v)

abbrev pub command_word : Tables → Word → Led
command_word t w = verb_row t (verb_of w)

-- ---- in a script

-- a place behind whole transactions
abbrev pub at : List (List Command) → Place → Result Progress TextFault
at script place = Ok (record { script = script; place = place })

-- where a token leads that stands behind whole commands, or in a command behind those
abbrev pub led : List (List Command) → List Command → Token → Led → Result Progress TextFault
led script commands t (inside place) = at script (within commands place)
led script commands t (whole_command c) = at script (at_command (commands ++ c ∷ []))
led script commands t (bad kind) = fault t kind
led script commands t (bad_text f) = Err f

-- between transactions: begin
abbrev pub begin_row : List (List Command) → Token → Result Progress TextFault
begin_row script t = if bytes_eq t.text (codes "begin") then at script (at_command []) else fault t BadToken

-- behind begin and whole commands: commit, or the word of a command
abbrev pub command_row : Tables → List (List Command) → List Command → Token → Result Progress TextFault
command_row t script commands token =
    if bytes_eq token.text (codes "commit") then at (script ++ commands ∷ []) outermost
    else led script commands token (command_word t token.text)

-- the row of each place
abbrev pub in_place : Tables → List (List Command) → Place → Token → Result Progress TextFault
in_place t script outermost token = begin_row script token
in_place t script (at_command commands) token = command_row t script commands token
in_place t script (within commands place) token = led script commands token (in_command t place token)

-- a script may end between transactions
abbrev pub whole : List (List Command) → Place → Option (List (List Command))
whole script outermost = Some script
whole script _ = None

-- the language of scripts over a prelude: no transaction at the start
abbrev pub script_language : Tables → Language Progress (List (List Command))
script_language t = record {
  most_bytes = MOST_BYTES;
  start = record { script = []; place = outermost };
  row = λ p token. in_place t p.script p.place token;
  said = λ p. whole p.script p.place;
}

-- the fault of a script
abbrev pub FaultyScript : Tables → List ℕ → TextFault → Type 0
FaultyScript t bytes f = Faulty (script_language t) bytes f
