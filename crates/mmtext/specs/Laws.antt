-- Laws of texts, in any language with comments: what a text says, and its fault.
use Rattle.std.specs.Prelude.{◌≡◌, ◌≢◌, ◌<◌, ◌≤◌, ◌⊎◌, ◌↔◌, ℕ, List, length, Result, Ok, IfOk, IfErr}
use Rattle.mmtext.specs.declared.fault.FaultKind.TheVariants.{TooLong, NoMemory}
use Rattle.mmtext.specs.declared.fault.TextFault.{TextFault}
use Rattle.mmtext.specs.Text.{IsClean}
use Rattle.mmtext.specs.Languages.{Language, token_reading, Faulty, Reads, Refuses}

-- every byte of a text may stand in one, and its tokens say a value. Nothing is asked of its length
abbrev pub Says : {P A : Type 0} → Language P A → List ℕ → A → Type 0
Says l bytes a = IsClean bytes × (token_reading l bytes ≡ Ok a)

-- a grammar says which values a text spells. It is that of a language where a text spells just what the language says
abbrev pub IsGrammarOf : {P A : Type 0} → Language P A → (List ℕ → A → Type 0) → Type 0
IsGrammarOf {P} {A} l spells = (bytes : List ℕ) (a : A) → spells bytes a ↔ Says l bytes a

-- a text spells at most one value
abbrev pub SpellsOne : {A : Type 0} → (List ℕ → A → Type 0) → Type 0
SpellsOne {A} spells = (bytes : List ℕ) (a b : A) → spells bytes a → spells bytes b → a ≡ b

-- a text has at most one fault
abbrev pub HasOneFault : {P A : Type 0} → Language P A → Type 0
HasOneFault l = (bytes : List ℕ) (f g : TextFault) → Faulty l bytes f → Faulty l bytes g → f ≡ g

-- a text that isn't too long and spells a value has no fault
abbrev pub SpellsWithoutFault : {P A : Type 0} → Language P A → (List ℕ → A → Type 0) → Type 0
SpellsWithoutFault {P} {A} l spells =
    (bytes : List ℕ) (a : A) (f : TextFault) → length bytes ≤ l.most_bytes → spells bytes a → Faulty l bytes f → ⊥

-- a text that spells a value and has a fault is too long, and that is its fault
abbrev pub FailsByLength : {P A : Type 0} → Language P A → (List ℕ → A → Type 0) → Type 0
FailsByLength {P} {A} l spells =
    (bytes : List ℕ) (a : A) (f : TextFault) → spells bytes a → Faulty l bytes f
    → (l.most_bytes < length bytes) × (f ≡ record { place = l.most_bytes; kind = TooLong })

-- every text spells a value or has a fault
abbrev pub SpellsOrFails : {P A : Type 0} → Language P A → (List ℕ → A → Type 0) → Type 0
SpellsOrFails {P} {A} l spells = (bytes : List ℕ) → ((a : A) × spells bytes a) ⊎ ((f : TextFault) × Faulty l bytes f)

-- what is answered to a text of a language, by a grammar that says what texts spell
pub record IsRead {P A : Type 0} (l : Language P A) (spells : List ℕ → A
    → Type 0) (bytes : List ℕ) (result : Result A TextFault) : Type 0 where
  -- what is read is spelled so
  pub found : IfOk result (spells bytes)
  -- what is spelled so is read, if the text isn't too long, unless memory runs out
  pub only : (a : A) → length bytes ≤ l.most_bytes → spells bytes a → Reads result a
  -- any other fault than want of memory is the text's
  pub fault : IfErr result (λ f. f.kind ≢ NoMemory → Faulty l bytes f)
  -- a fault is the text's, or want of memory, whose place is 0
  pub place : IfErr result (λ f. (f ≡ record { place = 0; kind = NoMemory }) ⊎ Faulty l bytes f)
  -- a text with a fault is refused with it, unless memory runs out
  pub refused : (f : TextFault) → Faulty l bytes f → Refuses result f
