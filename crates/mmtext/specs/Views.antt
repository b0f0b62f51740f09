-- Of the code's inside, apart from the rules: how readers of any text see the code's values, and what their functions give for a token.
use Rattle.std.specs.Prelude.{◌≡◌, ℕ, nat_lt, Bool, true, false, List, length, Option, Some, Result, Ok, Err, if◌then◌else◌}
use Rattle.std.specs.Option.{option_map}
use Rattle.mmtext.specs.declared.token.Token.{Token as CodeToken}
use Rattle.mmtext.specs.declared.mark.Mark.{Mark}
use Rattle.mmtext.specs.declared.mark.Mark.TheVariants as mark
use Rattle.mmtext.specs.declared.comments.Turn.{Turn}
use Rattle.mmtext.specs.declared.comments.Turn.TheVariants as turn
use Rattle.mmtext.specs.declared.fault.FaultKind.TheVariants.{BadByte, BadToken, OutOfProfile, TooLong}
use Rattle.mmtext.specs.declared.fault.Stop.{Stop}
use Rattle.mmtext.specs.declared.fault.Stop.TheVariants as stop
use Rattle.mmtext.specs.declared.fault.TextFault.{TextFault}
use Rattle.mmtext.specs.Text.{Token, bad_byte, has_comment_mark}
use Rattle.mmtext.specs.Languages.{Language, State, fault}
use Rattle.mmtext.specs.Laws.{Says, IsRead}

-- a token of the code
abbrev pub seen : CodeToken → Token
seen t = record { place = t.place; text = t.text.now }

-- a place, and whether a comment is open there
abbrev pub state_at : {P : Type 0} → P → Bool → State P
state_at p b = record { place = p; in_comment = b }

-- the fault of a text before its tokens, where a text may have so many bytes
abbrev pub fault_of_bytes : ℕ → List ℕ → Option TextFault
fault_of_bytes most bytes =
    if nat_lt most (length bytes) then Some (record { place = most; kind = TooLong })
    else option_map (λ place. record { place = place; kind = BadByte }) (bad_byte bytes)

-- ---- comments

-- what a token is to comments by its mark, where one is open or not
abbrev pub turn_at : Bool → Token → Mark → Result Turn TextFault
turn_at true t mark.Uncomment = Ok (turn.Skipped false)
turn_at true t _ = if has_comment_mark t.text then fault t BadToken else Ok (turn.Skipped true)
turn_at false t mark.Comment = Ok (turn.Skipped true)
turn_at false t mark.Include = fault t OutOfProfile
turn_at false t mark.Included = fault t OutOfProfile
turn_at false t mark.Uncomment = fault t BadToken
turn_at false t _ = Ok turn.Read

-- ---- results

-- why a function failed is why reading does, unless memory ran out
abbrev pub Fails : {Y : Type 0} → Stop → Result Y TextFault → Type 0
Fails stop.Memory read = Unit {0}
Fails (stop.Fault f) read = read ≡ Err f

-- what a function returned, seen by view, is what reading gives
abbrev pub Gives : {X Y : Type 0} → (X → Y) → Result X Stop → Result Y TextFault → Type 0
Gives view (Ok x) read = read ≡ Ok (view x)
Gives view (Err e) read = Fails e read

-- what is answered, seen by view
abbrev pub seen_by : {X Y : Type 0} → (X → Y) → Result X TextFault → Result Y TextFault
seen_by view (Ok x) = Ok (view x)
seen_by view (Err f) = Err f

-- what is answered to a text, seen by view, is what the language says
abbrev pub IsReadAs : {P X Y : Type 0} → (X → Y) → Language P Y → List ℕ → Result X TextFault → Type 0
IsReadAs view l bytes result = IsRead l (Says l) bytes (seen_by view result)
