-- What is counted of the letters of a compressed proof, with one more of them.
use Rattle.std.proofs.Common.{◌≡◌, ℕ, Bool, true, false, List, [], ◌∷◌, ◌++◌, map, refl, sym, ap, subst, ◌∙◌, inl, inr, ne_eqb, arith}
use Rattle.std.specs.Prelude.{Option, Some, None, ◌&&◌, ◌==◌, ◌<◌, ◌⊎◌, nat_le}
use Rattle.std.proofs.lemmas.Bool.{cases_Bool, leb-false, lt-leb, or_parts, and_cases, and_left, and_right, cond-true, cond-false}
use Rattle.std.proofs.lemmas.List.{map-append, append-nil}
use Rattle.mmtext.specs.Words.{Word}
use Rattle.source.specs.declared.letters.Code.{Code}
use Rattle.source.specs.declared.letters.Turn.{Turn}
use Rattle.source.specs.declared.entries.Entries.{Entries}
use Rattle.source.specs.Scopes.{Hypothesis, Assertion}
use Rattle.source.specs.Letters.{is_last, is_front, is_too_large, turn_at, Decoded, before, turned, decoded}
use Rattle.source.specs.Proofs.{step_of, go_on, steps_in, letters_go_on}
use Rattle.source.specs.Tests.{is_letter}
use Rattle.source.specs.Counts.{StepsAreCounted, LettersAreCounted, IsStep}
use Rattle.source.proofs.Decoded.{following}
use Rattle.source.proofs.CountedSteps.{one_more, counted_go, stuck}

-- ---- letters behind others

-- what was said stands before what the rest says
abbrev joined : Option Decoded → (ℕ → Option Decoded) → Option Decoded
joined None rest = None
joined (Some d) rest = following d.codes (rest d.front)

following-none : (d : Option Decoded) → following [] d ≡ d
following-none None = refl
following-none (Some d) = refl

said_first : (c : Option Code) (d : Option Decoded) (rest : ℕ → Option Decoded) → before c (joined d rest) ≡ joined (before c d) rest
said_first None d rest = refl
said_first (Some c) None rest = refl
said_first (Some c) (Some d) rest = later (rest d.front)
  where
    later : (e : Option Decoded) → before (Some c) (following d.codes e) ≡ following (c ∷ d.codes) e
    later None = refl
    later (Some e) = refl

turned_on : (t : Option Turn) (xs ys : List ℕ) → ((f : ℕ) → decoded f (xs ++ ys) ≡ joined (decoded f xs) (λ f. decoded f ys))
    → turned t (λ f. decoded f (xs ++ ys)) ≡ joined (turned t (λ f. decoded f xs)) (λ f. decoded f ys)
turned_on None xs ys later = refl
turned_on (Some t) xs ys later = ap (before t.said) (later t.front) ∙ said_first t.said (decoded t.front xs) (λ f. decoded f ys)

decoded-append : (xs ys : List ℕ) (front : ℕ) → decoded front (xs ++ ys) ≡ joined (decoded front xs) (λ f. decoded f ys)
unfolding decoded
decoded-append [] ys front = sym (following-none (decoded front ys))
decoded-append (b ∷ xs) ys front = turned_on (turn_at front b) xs ys (λ f. decoded-append xs ys f)

-- one more, behind codes and a front
one_letter : (xs : List ℕ) (b : ℕ) (codes : List Code) (front : ℕ) → decoded 0 xs ≡ Some (record { codes = codes; front = front })
    → decoded 0 (xs ++ b ∷ []) ≡ following codes (turned (turn_at front b) (λ f. Some (record { codes = []; front = f })))
unfolding decoded
one_letter xs b codes front e =
    decoded-append xs (b ∷ []) 0 ∙ ap (λ d. joined d (λ f. decoded f (b ∷ []))) e

-- no other byte than a letter does something
no_turn : (front b : ℕ) → is_letter b ≡ false → turn_at front b ≡ None
no_turn front b other =
    let parts = or_parts (nat_le 65 b && nat_le b 90) (b == 63) other in
    let out : (b < 65) ⊎ (90 < b) = elim (and_cases (nat_le 65 b) (nat_le b 90) parts.0) [
      | inl low ↦ inl (leb-false 65 b low)
      | inr high ↦ inr (leb-false b 90 high)
    ] in
    let last : is_last b ≡ false = elim out [
      | inl low ↦ and_left (nat_le 65 b) (nat_le b 84) (lt-leb 65 b low)
      | inr high ↦ and_right (nat_le 65 b) (nat_le b 84) (lt-leb b 84 (omega arith))
    ] in
    let fronts : is_front b ≡ false = elim out [
      | inl low ↦ and_left (nat_le 85 b) (nat_le b 89) (lt-leb 85 b (omega arith))
      | inr high ↦ and_right (nat_le 85 b) (nat_le b 89) (lt-leb b 89 (omega arith))
    ] in
    let mark : (b == 90) ≡ false = ne_eqb b 90 (λ e. elim out [ inl low ↦ absurd (omega arith) | inr high ↦ absurd (omega arith) ]) in
    elim (cases_Bool (is_too_large front)) [
      | inl large ↦ cond-true (is_too_large front) None _ large
      | inr fits ↦
          cond-false (is_too_large front) None _ fits
          ∙ cond-false (is_last b) _ _ last
          ∙ cond-false (is_front b) _ _ fronts
          ∙ cond-false ((b == 90) && (front == 0)) _ _ (and_left (b == 90) (front == 0) mark)
          ∙ cond-false ((b == 63) && (front == 0)) _ None (and_left (b == 63) (front == 0) parts.1)
    ]

-- a byte that does something is a letter
letter_turns : (front b : ℕ) (t : Turn) → Some t ≡ turn_at front b → is_letter b ≡ true
letter_turns front b t is = elim (cases_Bool (is_letter b)) [
  | inl letter ↦ letter
  | inr other ↦ let none : Some t ≡ None = is ∙ no_turn front b other in absurd cc
]

module _ (earlier : List Assertion) (active : List Hypothesis) (labels : List Word) where
  -- letters go on where the steps of their codes do
  said_go : (letters : List ℕ) (codes : List Code) (front : ℕ) → decoded 0 letters ≡ Some (record { codes = codes; front = front })
      → go_on earlier active (Some (map (step_of labels) codes)) ≡ letters_go_on earlier active labels letters
  said_go letters codes front said = ap (λ d. go_on earlier active (steps_in labels d)) (sym said)

  -- what is counted goes on
  pub letters_go : (letters : List ℕ) (c : Entries) → LettersAreCounted earlier active labels letters c
      → true ≡ letters_go_on earlier active labels letters
  letters_go letters c counted =
      counted_go earlier active (map (step_of labels) counted.codes) c counted.steps
      ∙ said_go letters counted.codes c.front counted.said

  -- one more letter
  module _ (letters : List ℕ) (b : ℕ) (old : Entries) (counted : LettersAreCounted earlier active labels letters old) where
    said_more : (t : Option Turn) → t ≡ turn_at old.front b
        → decoded 0 (letters ++ b ∷ []) ≡ following counted.codes (turned t (λ f. Some (record { codes = []; front = f })))
    said_more t is =
        one_letter letters b counted.codes old.front counted.said
        ∙ ap (λ u. following counted.codes (turned u (λ f. Some (record { codes = []; front = f })))) (sym is)

    -- that may not stand there
    pub letter_refused : None ≡ turn_at old.front b → false ≡ (is_letter b && letters_go_on earlier active labels (letters ++ b ∷ []))
    letter_refused is =
        sym (and_right (is_letter b) (letters_go_on earlier active labels (letters ++ b ∷ []))
        (ap (λ d. go_on earlier active (steps_in labels d)) (said_more None is)))

    -- a letter that does something is one
    as_letter : (t : Turn) (goes : Bool) → Some t ≡ turn_at old.front b → goes ≡ letters_go_on earlier active labels (letters ++ b ∷ [])
        → goes ≡ (is_letter b && letters_go_on earlier active labels (letters ++ b ∷ []))
    as_letter t goes is e =
        e ∙ ap (λ a. a && letters_go_on earlier active labels (letters ++ b ∷ [])) (sym (letter_turns old.front b t is))

    -- that stands in front of others
    pub letter_fronted : (t : Turn) (new : Entries) → Some t ≡ turn_at old.front b → t.said ≡ None → new ≡ record old { front = t.front }
        → (true ≡ (is_letter b && letters_go_on earlier active labels (letters ++ b ∷ [])))
        × LettersAreCounted earlier active labels (letters ++ b ∷ []) new
    letter_fronted t new is silent new-is = (as_letter t true is (letters_go (letters ++ b ∷ []) new now), now)
      where
        said : decoded 0 (letters ++ b ∷ []) ≡ Some (record { codes = counted.codes ++ []; front = t.front })
        said =
            said_more (Some t) is
            ∙ ap (λ c. following counted.codes (before c (Some (record { codes = []; front = t.front })))) silent

        now : LettersAreCounted earlier active labels (letters ++ b ∷ []) new
        now =
            subst (λ c. LettersAreCounted earlier active labels (letters ++ b ∷ []) c) (sym new-is) (record {
              codes = counted.codes;
              said = said ∙ ap (λ cs. Some (record { codes = cs; front = t.front })) (append-nil counted.codes);
              steps = record { left = counted.steps.left; placed = counted.steps.placed; markable = counted.steps.markable };
            })

    -- that ends a code
    pub letter_ended : (t : Turn) (code : Code) (mid new : Entries) (goes : Bool) → Some t ≡ turn_at old.front b → t.said ≡ Some code
        → mid ≡ record old { front = t.front } → IsStep earlier active (step_of labels code) mid new goes
        → (goes ≡ (is_letter b && letters_go_on earlier active labels (letters ++ b ∷ [])))
        × (goes ≡ true → LettersAreCounted earlier active labels (letters ++ b ∷ []) new)
    letter_ended t code mid new goes is says mid-is step = (
      as_letter t goes is (more.0 ∙ ap (λ xs. go_on earlier active (Some xs)) same
          ∙ said_go (letters ++ b ∷ []) (counted.codes ++ code ∷ []) t.front said),
      λ go. record {
        codes = counted.codes ++ code ∷ [];
        said = said ∙ ap (λ f. Some (record { codes = counted.codes ++ code ∷ []; front = f }))
            (sym (step.front ∙ ap (λ (c : Entries). c.front) mid-is));
        steps = subst (λ xs. StepsAreCounted earlier active xs new) same (more.1 go);
      },
    )
      where
        said : decoded 0 (letters ++ b ∷ []) ≡ Some (record { codes = counted.codes ++ code ∷ []; front = t.front })
        said =
            said_more (Some t) is
            ∙ ap (λ c. following counted.codes (before c (Some (record { codes = []; front = t.front })))) says

        same : map (step_of labels) counted.codes ++ step_of labels code ∷ [] ≡ map (step_of labels) (counted.codes ++ code ∷ [])
        same = sym (map-append (step_of labels) counted.codes (code ∷ []))

        more : (goes ≡ go_on earlier active (Some (map (step_of labels) counted.codes ++ step_of labels code ∷ [])))
            × (goes ≡ true → StepsAreCounted earlier active (map (step_of labels) counted.codes ++ step_of labels code ∷ []) new)
        more =
            one_more earlier active (map (step_of labels) counted.codes) (step_of labels code) mid new goes
            (subst (λ c. StepsAreCounted earlier active (map (step_of labels) counted.codes) c) (sym mid-is)
            (record { left = counted.steps.left; placed = counted.steps.placed; markable = counted.steps.markable })) step

  -- ---- what doesn't go on doesn't with more letters either

  stuck_on : (d : Option Decoded) (rest : ℕ → Option Decoded) → go_on earlier active (steps_in labels d) ≡ false
      → go_on earlier active (steps_in labels (joined d rest)) ≡ false
  stuck_on None rest h = refl
  stuck_on (Some d) rest h = with_rest (rest d.front)
    where
      with_rest : (e : Option Decoded) → go_on earlier active (steps_in labels (following d.codes e)) ≡ false
      with_rest None = refl
      with_rest (Some e) =
          ap (λ xs. go_on earlier active (Some xs)) (map-append (step_of labels) d.codes e.codes)
          ∙ stuck earlier active (map (step_of labels) d.codes) (map (step_of labels) e.codes) h

  pub letters_stuck : (xs ys : List ℕ) → letters_go_on earlier active labels xs ≡ false
      → letters_go_on earlier active labels (xs ++ ys) ≡ false
  letters_stuck xs ys h =
      ap (λ d. go_on earlier active (steps_in labels d)) (decoded-append xs ys 0)
      ∙ stuck_on (decoded 0 xs) (λ f. decoded f ys) h
