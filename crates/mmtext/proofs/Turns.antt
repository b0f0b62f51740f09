-- A token outside or inside of comments, as the code takes it, against the step of any language; and what a language keeps at each step.
use Rattle.std.proofs.Common.{◌≡◌, ℕ, ltb, Bool, true, false, cond, List, [], ◌∷◌, length, Option, Some, None, Result, Ok, Err}
use Rattle.std.proofs.Common.{refl, sym, ap, subst, ◌∙◌}
use Rattle.std.specs.Option.{option_map}
use denote.Enum.Bare.{sameb}
use Rattle.mmtext.specs.contracts.mark.Mark.{the_type as mark_type}
use Rattle.mmtext.specs.declared.fault.FaultKind.TheVariants.{BadToken, BadByte, TooLong, Unfinished}
use Rattle.mmtext.specs.declared.fault.Stop.{Stop}
use Rattle.mmtext.specs.declared.fault.Stop.TheVariants as stop
use Rattle.mmtext.specs.declared.fault.TextFault.{TextFault}
use Rattle.mmtext.specs.declared.mark.Mark.{Mark}
use Rattle.mmtext.specs.declared.mark.Mark.TheVariants as mark
use Rattle.mmtext.specs.declared.comments.Turn.{Turn}
use Rattle.mmtext.specs.declared.comments.Turn.TheVariants as turn
use Rattle.mmtext.specs.Text.{Token, tokens, mark_of, has_comment_mark, bad_byte}
use Rattle.mmtext.specs.Words.{has_dollar}
use Rattle.mmtext.specs.Languages.{Language, State, fault, led, outside_comment, inside_comment, marked, step, run, start_of}
use Rattle.mmtext.specs.Languages.{said_at, finished, token_reading, without_bad_byte, reading}
use Rattle.mmtext.specs.Takings.{TakesWord}
use Rattle.mmtext.specs.Views.{turn_at, state_at, fault_of_bytes, Fails, Gives}
use Rattle.mmtext.proofs.Marks.{mark_plain}
use Rattle.mmtext.proofs.Readings.{ends_here, stops_here}

-- ---- one token

-- where a token leads by its turn
abbrev after_turn : {P : Type 0} → P → Result P TextFault → Result Turn TextFault → Result (State P) TextFault
after_turn p decided (Ok (turn.Skipped b)) = Ok (record { place = p; in_comment = b })
after_turn p decided (Ok turn.Read) = led decided
after_turn p decided (Err f) = Err f

after_cond : {P : Type 0} (b : Bool) (p : P) (t : Token) (decided : Result P TextFault)
    → cond b (fault t BadToken) (Ok (record { place = p; in_comment = true }))
    ≡ after_turn p decided (cond b (fault t BadToken) (Ok (turn.Skipped true)))
after_cond true p t decided = refl
after_cond false p t decided = refl

by_mark : {P : Type 0} (b : Bool) (p : P) (t : Token) (m : Mark) (decided : Result P TextFault)
    → cond b (inside_comment p t m) (outside_comment p t m decided) ≡ after_turn p decided (turn_at b t m)
by_mark true p t mark.Uncomment decided = refl
by_mark true p t m decided = after_cond (has_comment_mark t.text) p t decided
by_mark false p t mark.Comment decided = refl
by_mark false p t mark.Include decided = refl
by_mark false p t mark.Included decided = refl
by_mark false p t mark.Uncomment decided = refl
by_mark false p t m decided = refl

-- within a comment all else than $) is part of it, where neither $( nor $) stands in it
pub part_of_comment : (t : Token) (m : Mark) → sameb mark_type m mark.Uncomment ≡ false → has_comment_mark t.text ≡ false
    → turn_at true t m ≡ Ok (turn.Skipped true)
part_of_comment t mark.Uncomment n h = absurd cc
part_of_comment t m n h = ap (λ b. cond b (fault t BadToken) (Ok (turn.Skipped true))) h

step_turned : {P A : Type 0} (l : Language P A) (s : State P) (t : Token)
    → step l s t ≡ after_turn s.place (l.row s.place t) (turn_at s.in_comment t (mark_of t.text))
unfolding step
step_turned l s t = by_mark s.in_comment s.place t (mark_of t.text) (l.row s.place t)

step_by : {P A : Type 0} (l : Language P A) (s : State P) (t : Token) (m : Mark) (r : Result Turn TextFault) → m ≡ mark_of t.text
    → turn_at s.in_comment t m ≡ r → step l s t ≡ after_turn s.place (l.row s.place t) r
step_by l s t m r is h =
    step_turned l s t
    ∙ ap (after_turn s.place (l.row s.place t)) (ap (turn_at s.in_comment t) (sym is) ∙ h)

-- a token of a comment
pub skipped : {P A : Type 0} (l : Language P A) (s : State P) (t : Token) (m : Mark) (r : Turn) (b : Bool) → m ≡ mark_of t.text
    → turn_at s.in_comment t m ≡ Ok r → r ≡ turn.Skipped b → step l s t ≡ Ok (record { place = s.place; in_comment = b })
skipped l s t m r b is h e =
    step_by l s t m (Ok r) is h ∙ ap (λ x. after_turn s.place (l.row s.place t) (Ok x)) e

read_by : {P A : Type 0} (l : Language P A) (s : State P) (t : Token) (m : Mark) (r : Turn) → m ≡ mark_of t.text
    → turn_at s.in_comment t m ≡ Ok r → r ≡ turn.Read → step l s t ≡ led (l.row s.place t)
read_by l s t m r is h e = step_by l s t m (Ok r) is h ∙ ap (λ x. after_turn s.place (l.row s.place t) (Ok x)) e

-- a token of which the language decides
pub read_on : {P A : Type 0} (l : Language P A) (s : State P) (t : Token) (m : Mark) (r : Turn) (q : P) → m ≡ mark_of t.text
    → turn_at s.in_comment t m ≡ Ok r → r ≡ turn.Read → l.row s.place t ≡ Ok q
    → step l s t ≡ Ok (record { place = q; in_comment = false })
read_on l s t m r q is h e g = read_by l s t m r is h e ∙ ap led g

-- a bad token in a comment, or at the edge of one
pub turn_stops : {P A : Type 0} (l : Language P A) (s : State P) (t : Token) (m : Mark) (e : Stop) → m ≡ mark_of t.text
    → Fails e (turn_at s.in_comment t m) → Fails e (step l s t)
turn_stops l s t m stop.Memory is h = tt
turn_stops l s t m (stop.Fault f) is h = step_by l s t m (Err f) is h

-- a fault of the language
pub row_stops : {P A : Type 0} (l : Language P A) (s : State P) (t : Token) (m : Mark) (r : Turn) (e : Stop) → m ≡ mark_of t.text
    → turn_at s.in_comment t m ≡ Ok r → r ≡ turn.Read → Fails e (l.row s.place t) → Fails e (step l s t)
row_stops l s t m r stop.Memory is h g fails = tt
row_stops l s t m r (stop.Fault f) is h g fails = read_by l s t m r is h g ∙ ap led fails

-- ---- what a language keeps

-- a place to which a row leads
abbrev pub OnPlace : {P : Type 0} → (P → Type 0) → Result P TextFault → Type 0
OnPlace Q (Ok p) = Q p
OnPlace Q (Err f) = Unit {0}

-- ---- texts

-- a token at which reading stops
pub stopped : {P A : Type 0} (l : Language P A) (e : Stop) (text : List ℕ) (s : State P) (t : Token) (ts us : List Token) → us ≡ t ∷ ts
    → Fails e (step l s t) → run l s us ≡ run l (start_of l) (tokens text) → Fails e (token_reading l text)
stopped l stop.Memory text s t ts us is h same = tt
stopped l (stop.Fault f) text s t ts us is h same = stops_here l text s t ts us f is h same

-- what a function gives stays so for an equal reading
pub same_reading : {X Y : Type 0} (view : X → Y) (r : Result X Stop) (a b : Result Y TextFault) → a ≡ b → Gives view r a → Gives view r b
same_reading view (Ok x) a b e h = sym e ∙ h
same_reading view (Err stop.Memory) a b e h = tt
same_reading view (Err (stop.Fault f)) a b e h = sym e ∙ h

-- where a function failed with a fault, so does reading
pub fault_given : {Y : Type 0} (e : Stop) (f : TextFault) (read : Result Y TextFault) → e ≡ stop.Fault f → Fails e read → read ≡ Err f
fault_given e f read is h = subst (λ (x : Stop). Fails x read) is h

-- the fault of a bad byte
abbrev bad_at : Option ℕ → Option TextFault
bad_at o = option_map (λ place. record { place = place; kind = BadByte }) o

unless_bad : {A : Type 0} (o : Option ℕ) (next : Result A TextFault) (f : TextFault)
    → bad_at o ≡ Some f → without_bad_byte o next ≡ Err f
unless_bad (Some place) next f h = cc
unless_bad None next f h = absurd cc

unless_good : {A : Type 0} (o : Option ℕ) (next : Result A TextFault)
    → bad_at o ≡ None → without_bad_byte o next ≡ next
unless_good (Some place) next h = absurd cc
unless_good None next h = refl

cond_fault : {A : Type 0} (b : Bool) (g f : TextFault) (o : Option ℕ) (next : Result A TextFault)
    → cond b (Some g) (bad_at o) ≡ Some f
    → cond b (Err g) (without_bad_byte o next) ≡ Err f
cond_fault true g f o next h = cc
cond_fault false g f o next h = unless_bad o next f h

cond_clean : {A : Type 0} (b : Bool) (g : TextFault) (o : Option ℕ) (next : Result A TextFault)
    → cond b (Some g) (bad_at o) ≡ None
    → cond b (Err g) (without_bad_byte o next) ≡ next
cond_clean true g o next h = absurd cc
cond_clean false g o next h = unless_good o next h

-- a fault before the tokens is that of the text
pub faulty_bytes : {P A : Type 0} (l : Language P A) (bytes : List ℕ) (f : TextFault) → fault_of_bytes l.most_bytes bytes ≡ Some f
    → reading l bytes ≡ Err f
unfolding reading
faulty_bytes l bytes f h =
    cond_fault (ltb l.most_bytes (length bytes)) (record { place = l.most_bytes; kind = TooLong }) f (bad_byte bytes)
    (token_reading l bytes) h

-- where there is none the tokens decide
pub clean_bytes : {P A : Type 0} (l : Language P A) (bytes : List ℕ) → fault_of_bytes l.most_bytes bytes ≡ None
    → token_reading l bytes ≡ reading l bytes
unfolding reading
clean_bytes l bytes h =
    sym
    (cond_clean (ltb l.most_bytes (length bytes)) (record { place = l.most_bytes; kind = TooLong }) (bad_byte bytes)
    (token_reading l bytes) h)

-- ---- words

word_steps : {P A : Type 0} (l : Language P A) (p : P) (t : Token) → has_dollar t.text ≡ false
    → step l (state_at p false) t ≡ led (l.row p t)
unfolding step
word_steps l p t h = ap (marked l (state_at p false) t) (mark_plain t.text h)

-- a word that is taken outside of comments
pub word_leads : {P A : Type 0} (l : Language P A) (p q : P) (b : Bool) (t : Token) → b ≡ false → TakesWord l p t q (Ok true)
    → step l (state_at p b) t ≡ Ok (state_at q b)
word_leads l p q true t out h = absurd cc
word_leads l p q false t out h = word_steps l p t h.0 ∙ ap led h.1

-- a word at which reading stops
pub word_stops : {P A : Type 0} (l : Language P A) (p q : P) (b : Bool) (t : Token) (e : Stop) → b ≡ false → TakesWord l p t q (Err e)
    → Fails e (step l (state_at p b) t)
word_stops l p q true t e out h = absurd cc
word_stops l p q false t stop.Memory out h = tt
word_stops l p q false t (stop.Fault f) out h = word_steps l p t h.0 ∙ ap led h.1

-- ---- the end of a text

-- a text that ends in a comment
pub ends_open : {P A : Type 0} (l : Language P A) (text : List ℕ) (p : P) (b : Bool) (ts : List Token) → b ≡ true → ts ≡ []
    → run l (state_at p b) ts ≡ run l (start_of l) (tokens text)
    → token_reading l text ≡ Err (record { place = length text; kind = Unfinished })
ends_open l text p b ts is none same =
    ends_here l text (state_at p b) ts none same ∙ ap (λ x. finished (length text) (said_at l (state_at p x))) is

-- a text that ends outside of one
pub ends_at : {P A : Type 0} (l : Language P A) (text : List ℕ) (p : P) (b : Bool) (ts : List Token) → b ≡ false → ts ≡ []
    → run l (state_at p b) ts ≡ run l (start_of l) (tokens text)
    → token_reading l text ≡ finished (length text) (l.said p)
ends_at l text p b ts is none same =
    ends_here l text (state_at p b) ts none same ∙ ap (λ x. finished (length text) (said_at l (state_at p x))) is
