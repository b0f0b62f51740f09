-- A text spells one value or has one fault, its length aside, by any grammar of a language.
use Rattle.std.proofs.Common.{◌≡◌, ◌≤◌, ℕ, List, length, Result, Ok, Err, refl, sym, ap, ◌∙◌, ◌⊎◌, inl, inr}
use Rattle.std.proofs.lemmas.Bool.{cases_lt}
use Rattle.mmtext.specs.declared.fault.FaultKind.TheVariants.{TooLong, NoMemory}
use Rattle.mmtext.specs.declared.fault.TextFault.{TextFault}
use Rattle.mmtext.specs.Languages.{Language, reading, Faulty, too_long}
use Rattle.mmtext.specs.Laws.{Says, IsGrammarOf, SpellsOne, HasOneFault, SpellsWithoutFault, FailsByLength, SpellsOrFails, IsRead}
use Rattle.mmtext.specs.Views.{IsReadAs}
use Rattle.mmtext.proofs.Readings.{clean_reading, reading_ok, reading_fault, fault_only, not_both, same_fault}

-- what is said within the length is read
said_read : {P A : Type 0} (l : Language P A) (bytes : List ℕ) (a : A) → length bytes ≤ l.most_bytes → Says l bytes a
    → reading l bytes ≡ Ok a
said_read l bytes a short h = clean_reading l bytes short h.0 ∙ h.1

pub has_one_fault : {P A : Type 0} (l : Language P A) → HasOneFault l
has_one_fault l bytes f g h k = same_fault l bytes g f k (fault_only l bytes f h)

-- what a language says is its own grammar
pub own_grammar : {P A : Type 0} (l : Language P A) → IsGrammarOf l (Says l)
own_grammar l bytes a = (λ h. h, λ h. h)

module _ {P A : Type 0} (l : Language P A) (spells : List ℕ → A → Type 0) (of : IsGrammarOf l spells) where
  pub spells_one : SpellsOne spells
  spells_one bytes a b h g =
      let e : Ok a ≡ Ok b = sym ((of bytes a).0 h).1 ∙ ((of bytes b).0 g).1 in
      cc

  -- what is spelled within the length is read
  pub spelled_read : (bytes : List ℕ) (a : A) → length bytes ≤ l.most_bytes → spells bytes a → reading l bytes ≡ Ok a
  spelled_read bytes a short h = said_read l bytes a short ((of bytes a).0 h)

  -- and what is read is spelled
  pub read_spelled : (bytes : List ℕ) (a : A) → reading l bytes ≡ Ok a → spells bytes a
  read_spelled bytes a h = (of bytes a).1 (reading_ok l bytes a h)

  -- what is read of a spelled text is what it spells
  pub spelled_answered : (bytes : List ℕ) (a found : A) → length bytes ≤ l.most_bytes → spells bytes a → reading l bytes ≡ Ok found
      → found ≡ a
  spelled_answered bytes a found short s h = let e : Ok found ≡ Ok a = sym h ∙ spelled_read bytes a short s in cc

  -- a spelled text isn't refused
  pub spelled_faultless : (bytes : List ℕ) (a : A) (f : TextFault) → length bytes ≤ l.most_bytes → spells bytes a → reading l bytes ≡ Err f
      → ⊥
  spelled_faultless bytes a f short s h = let e : Err f ≡ Ok a = sym h ∙ spelled_read bytes a short s in absurd cc

  pub spells_without_fault : SpellsWithoutFault l spells
  spells_without_fault bytes a f short h faulty = not_both l bytes f a faulty (spelled_read bytes a short h)

  pub fails_by_length : FailsByLength l spells
  fails_by_length bytes a f h faulty = elim (cases_lt l.most_bytes (length bytes)) [
    | inl long ↦ (long, has_one_fault l bytes f (record { place = l.most_bytes; kind = TooLong }) faulty (too_long long refl))
    | inr short ↦ absurd (spells_without_fault bytes a f short h faulty)
  ]

  pub spells_or_fails : SpellsOrFails l spells
  spells_or_fails bytes = go (reading l bytes) refl
    where
      go : (r : Result A TextFault) → reading l bytes ≡ r → ((a : A) × spells bytes a) ⊎ ((f : TextFault) × Faulty l bytes f)
      go (Ok a) e = inl (a, read_spelled bytes a e)
      go (Err f) e = inr (f, reading_fault l bytes f e)

  -- what is answered by the language is answered by the grammar
  pub by_grammar : (bytes : List ℕ) (r : Result A TextFault) → IsRead l (Says l) bytes r → IsRead l spells bytes r
  by_grammar bytes (Ok a) h = record {
    found = (of bytes a).1 h.found;
    only = λ b short s. h.only b short ((of bytes b).0 s);
    fault = h.fault;
    place = h.place;
    refused = h.refused;
  }
  by_grammar bytes (Err f) h = record {
    found = h.found;
    only = λ b short s. h.only b short ((of bytes b).0 s);
    fault = h.fault;
    place = h.place;
    refused = h.refused;
  }

  -- what is seen as it is
  pub itself_by_grammar : (bytes : List ℕ) (r : Result A TextFault) → IsReadAs (λ x. x) l bytes r → IsRead l spells bytes r
  itself_by_grammar bytes (Ok a) h = by_grammar bytes (Ok a) h
  itself_by_grammar bytes (Err f) h = by_grammar bytes (Err f) h

-- ---- what is answered by what reading gives

module _ {P X Y : Type 0} (view : X → Y) (l : Language P Y) (bytes : List ℕ) where
  pub answers_said : (x : X) → reading l bytes ≡ Ok (view x) → IsReadAs view l bytes (Ok x)
  answers_said x h = record {
    found = reading_ok l bytes (view x) h;
    only = λ a short s. spelled_answered l (Says l) (own_grammar l) bytes a (view x) short s h;
    fault = tt;
    place = tt;
    refused = λ f faulty. not_both l bytes f (view x) faulty h;
  }

  pub answers_fault : (f : TextFault) → reading l bytes ≡ Err f → IsReadAs view l bytes (Err f)
  answers_fault f h = record {
    found = tt;
    only = λ a short s. absurd (spelled_faultless l (Says l) (own_grammar l) bytes a f short s h);
    fault = λ _. reading_fault l bytes f h;
    place = inr (reading_fault l bytes f h);
    refused = λ g faulty. inl (same_fault l bytes g f faulty h);
  }

  pub answers_no_memory : (f : TextFault) → f ≡ record { place = 0; kind = NoMemory } → IsReadAs view l bytes (Err f)
  answers_no_memory f is = record {
    found = tt;
    only = λ a short s. ap (λ (g : TextFault). g.kind) is;
    fault = λ other. absurd (other (ap (λ (g : TextFault). g.kind) is));
    place = inl is;
    refused = λ g faulty. inr (ap (λ (h : TextFault). h.kind) is);
  }
