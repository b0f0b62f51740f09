-- Texts of a language with comments: where each token leads, or its fault. The first fault, from the front, is that of the text.
use Rattle.std.specs.Prelude.{
  ◌≡◌,
  ◌<◌,
  ◌≤◌,
  ◌⊎◌,
  ℕ,
  Bool,
  true,
  false,
  nat_lt,
  List,
  [],
  ◌∷◌,
  ◌++◌,
  length,
  Option,
  Some,
  None,
  Result,
  Ok,
  Err,
  slice_index,
  if◌then◌else◌,
}
use Rattle.mmtext.specs.declared.fault.FaultKind.{FaultKind}
use Rattle.mmtext.specs.declared.fault.FaultKind.TheVariants.{BadByte, BadToken, Unfinished, OutOfProfile, TooLong, NoMemory}
use Rattle.mmtext.specs.declared.fault.TextFault.{TextFault}
use Rattle.mmtext.specs.declared.mark.Mark.{Mark}
use Rattle.mmtext.specs.declared.mark.Mark.TheVariants as mark
use Rattle.mmtext.specs.Text.{Token, tokens, is_lawful, IsCleanBefore, IsClean, bad_byte, mark_of, has_comment_mark}

-- a language whose places are P and whose texts say an A: the most bytes that a text may have; the place where it starts; the place to
-- which a token outside of comments leads, or the fault of that token; and what a text says that ends at a place, if it may end there
pub record Language (P A : Type 0) : Type 0 where
  pub most_bytes : ℕ
  pub start : P
  pub row : P → Token → Result P TextFault
  pub said : P → Option A

-- a place, and whether a comment is open there
pub record State (P : Type 0) : Type 0 where
  pub place : P
  pub in_comment : Bool

-- the fault of a kind, at a token
abbrev pub fault : {X : Type 0} → Token → FaultKind → Result X TextFault
fault t kind = Err (record { place = t.place; kind = kind })

-- ---- one token

-- the place to which the language leads, in no comment
abbrev pub led : {P : Type 0} → Result P TextFault → Result (State P) TextFault
led (Ok p) = Ok (record { place = p; in_comment = false })
led (Err f) = Err f

-- outside of comments $( opens one, and $) is bad (Metamath book, section 4.1.2). $[ and $] include files, which the profile leaves out. Of
-- any other token the language decides
abbrev pub outside_comment : {P : Type 0} → P → Token → Mark → Result P TextFault → Result (State P) TextFault
outside_comment p t mark.Comment decided = Ok (record { place = p; in_comment = true })
outside_comment p t mark.Include decided = fault t OutOfProfile
outside_comment p t mark.Included decided = fault t OutOfProfile
outside_comment p t mark.Uncomment decided = fault t BadToken
outside_comment p t _ decided = led decided

-- in a comment $) closes it, and any other token with $( or $) in it is bad (section 4.1.2)
abbrev pub inside_comment : {P : Type 0} → P → Token → Mark → Result (State P) TextFault
inside_comment p t mark.Uncomment = Ok (record { place = p; in_comment = false })
inside_comment p t _ = if has_comment_mark t.text then fault t BadToken else Ok (record { place = p; in_comment = true })

-- where a token leads by its mark
abbrev pub marked : {P A : Type 0} → Language P A → State P → Token → Mark → Result (State P) TextFault
marked l s t m = if s.in_comment then inside_comment s.place t m else outside_comment s.place t m (l.row s.place t)

-- where a token leads, or its fault
unfoldable pub step : {P A : Type 0} → Language P A → State P → Token → Result (State P) TextFault
step l s t = marked l s t (mark_of t.text)

-- ---- all tokens

-- what follows a state, or the fault before it
abbrev pub then_run : {S : Type 0} → Result S TextFault → (S → Result S TextFault) → Result S TextFault
then_run (Ok s) next = next s
then_run (Err f) next = Err f

-- the state behind tokens, or the fault of the first that breaks a test
unfoldable pub run : {P A : Type 0} → Language P A → State P → List Token → Result (State P) TextFault
run l s [] = Ok s
run l s (t ∷ ts) = then_run (step l s t) (λ q. run l q ts)

-- a text starts outside of comments
abbrev pub start_of : {P A : Type 0} → Language P A → State P
start_of l = record { place = l.start; in_comment = false }

-- what a text says that ends in a state, if it may end there
abbrev pub said_at : {P A : Type 0} → Language P A → State P → Option A
said_at l s = if s.in_comment then None else l.said s.place

-- a text that may not end where it ends is unfinished, at its length
abbrev pub finished : {A : Type 0} → ℕ → Option A → Result A TextFault
finished len (Some a) = Ok a
finished len None = Err (record { place = len; kind = Unfinished })

-- what a text says whose tokens lead to a state
abbrev pub ended : {P A : Type 0} → Language P A → ℕ → Result (State P) TextFault → Result A TextFault
ended l len (Ok s) = finished len (said_at l s)
ended l len (Err f) = Err f

-- what the tokens of a text say, or the fault of the first that breaks a test
unfoldable pub token_reading : {P A : Type 0} → Language P A → List ℕ → Result A TextFault
token_reading l bytes = ended l (length bytes) (run l (start_of l) (tokens bytes))

-- ---- texts

-- the fault of the first byte that may not stand in a text, and else what follows
abbrev pub without_bad_byte : {A : Type 0} → Option ℕ → Result A TextFault → Result A TextFault
without_bad_byte (Some place) next = Err (record { place = place; kind = BadByte })
without_bad_byte None next = next

-- what a text says, or its fault: its length, its bytes, its tokens
unfoldable pub reading : {P A : Type 0} → Language P A → List ℕ → Result A TextFault
reading l bytes =
    if nat_lt l.most_bytes (length bytes) then Err (record { place = l.most_bytes; kind = TooLong })
    else without_bad_byte (bad_byte bytes) (token_reading l bytes)

-- the tokens of front break no test and lead to s
abbrev pub Reaches : {P A : Type 0} → Language P A → List Token → State P → Type 0
Reaches l front s = run l (start_of l) front ≡ Ok s

-- the fault of a text: in its length, else in its bytes, else at a token, else at its end
pub data Faulty {P A : Type 0} (l : Language P A) (bytes : List ℕ) (f : TextFault) : Type 0 where
  -- more bytes than are read
  too_long : l.most_bytes < length bytes → f ≡ record { place = l.most_bytes; kind = TooLong } → Faulty l bytes f
  -- the first byte that may not stand in a text
  bad : (place : ℕ) → length bytes ≤ l.most_bytes → place < length bytes → IsCleanBefore place bytes
      → is_lawful (slice_index bytes place) ≡ false → f ≡ record { place = place; kind = BadByte } → Faulty l bytes f
  -- a front of the tokens that breaks no test, and the fault of the token behind it, which breaks one
  at_token : (front rest : List Token) (t : Token) (s : State P) → length bytes ≤ l.most_bytes → IsClean bytes
      → tokens bytes ≡ front ++ t ∷ rest → Reaches l front s → step l s t ≡ Err f → Faulty l bytes f
  -- no token breaks a test, and the text may not end there
  unfinished : (s : State P) → length bytes ≤ l.most_bytes → IsClean bytes → Reaches l (tokens bytes) s → said_at l s ≡ None
      → f ≡ record { place = length bytes; kind = Unfinished } → Faulty l bytes f

-- ---- what a reader answers

-- the answer is what is spelled, unless memory ran out
abbrev pub Reads : {A : Type 0} → Result A TextFault → A → Type 0
Reads (Ok found) a = found ≡ a
Reads (Err f) a = f.kind ≡ NoMemory

-- the answer is the fault, unless memory ran out
abbrev pub Refuses : {A : Type 0} → Result A TextFault → TextFault → Type 0
Refuses (Ok found) f = ⊥
Refuses (Err g) f = (g ≡ f) ⊎ (g.kind ≡ NoMemory)
