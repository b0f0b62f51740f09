-- The chosen assertions of a source, taken one after the other.
use Rattle.std.proofs.Common.{◌≡◌, ◌∙◌, ◌≤◌, ℕ, ◌+◌, Bool, true, false, List, [], ◌∷◌, ◌++◌, length, take, drop, refl, sym, ap}
use Rattle.std.proofs.Common.{subst, append_assoc, append-nil}
use Rattle.std.specs.Prelude.{Some, None, Option, slice_get}
use Rattle.std.proofs.Math.ListN.{drop_of_length-le}
use Rattle.std.proofs.lemmas.List.{drop_more, take_more}
use Rattle.std.proofs.lemmas.Option.{get_or_from_slice_get, slice_get_within}
use Rattle.mmtext.specs.Words.{Word}
use Rattle.mmsyntax.specs.Tables.{Tables}
use Rattle.mmsyntax.specs.declared.statement.Assertion.{Assertion as Unit'}
use Rattle.source.specs.Scopes.{Assertion, is_in}
use Rattle.taking.specs.declared.reason.Reason.{Reason}
use Rattle.taking.specs.Names.{Map}
use Rattle.taking.specs.Reasons.{Choice, reason}
use Rattle.taking.specs.Taken.{IsTaken, AreTakenFrom, AreTaken, told_of, taken_as_axioms}
use Rattle.gathering.specs.Assembled.{told_with}

told_same : (label : Word) (r : Option Reason) → told_with (Some label) r ≡ told_of label true r
told_same label None = refl
told_same label (Some why) = refl

untold : (label : Word) (r : Option Reason) → told_of label false r ≡ []
untold label None = refl
untold label (Some why) = refl

module _ (m : Map) (t : Tables) (choice : Choice) (xs : List Assertion) (place : ℕ) (x : Assertion) (at : slice_get xs place ≡ Some x) where
  behind : drop place xs ≡ x ∷ drop (place + 1) xs
  behind =
      drop_more xs place x (slice_get_within xs place x at)
      ∙ ap (λ (y : Assertion). y ∷ drop (place + 1) xs) (get_or_from_slice_get xs place x x at)

  front : take place xs ++ x ∷ [] ≡ take (place + 1) xs
  front =
      sym (take_more xs place x (slice_get_within xs place x at)
      ∙ ap (λ (y : Assertion). take place xs ++ y ∷ []) (get_or_from_slice_get xs place x x at))

  from_here : (as' : List Unit') → AreTaken m t choice (take place xs) (x ∷ drop (place + 1) xs) as'
      → AreTaken m t choice (take place xs) (drop place xs) as'
  from_here as' = subst (λ (ys : List Assertion). AreTaken m t choice (take place xs) ys as') (sym behind)

  module _ (later : List Unit') (rest : AreTaken m t choice (take (place + 1) xs) (drop (place + 1) xs) later) where
    rest_here : AreTaken m t choice (take place xs ++ x ∷ []) (drop (place + 1) xs) later
    rest_here = subst (λ (es : List Assertion). AreTaken m t choice es (drop (place + 1) xs) later) (sym front) rest

    pub one_taken : (a : Unit') → is_in choice.chosen x.label ≡ true → IsTaken m t choice (take place xs) x a
        → AreTaken m t choice (take place xs) (drop place xs) (a ∷ later)
    one_taken a chosen taken =
        from_here (a ∷ later) (subst (λ (b : Bool). AreTakenFrom b (IsTaken m t choice (take place xs) x) (AreTaken m t choice (take place
        xs ++ x ∷ []) (drop (place + 1) xs)) (a ∷ later)) (sym chosen) (a, later, refl, taken, rest_here))

    pub one_passed : is_in choice.chosen x.label ≡ false → AreTaken m t choice (take place xs) (drop place xs) later
    one_passed left =
        from_here later (subst (λ (b : Bool). AreTakenFrom b (IsTaken m t choice (take place xs) x) (AreTaken m t choice (take place
        xs ++ x ∷ []) (drop (place + 1) xs)) later) (sym left) rest_here)

  pub one_told : taken_as_axioms choice (take place xs) (drop place xs)
      ≡ told_of x.label (is_in choice.chosen x.label) (reason choice (take place xs) x)
      ++ taken_as_axioms choice (take (place + 1) xs) (drop (place + 1) xs)
  one_told =
      ap (taken_as_axioms choice (take place xs)) behind
      ∙ ap (λ (es : List Assertion). told_of x.label (is_in choice.chosen x.label) (reason choice (take place xs) x)
      ++ taken_as_axioms choice es (drop (place + 1) xs)) front

  -- all is taken of which this much was, with what is taken next, or passed
  module _ (old now : List Unit')
      (all : (later : List Unit') → AreTaken m t choice (take place xs) (drop place xs) later
      → AreTaken m t choice [] xs (old ++ later)) where
    pub taken_more : (a : Unit') → now ≡ old ++ a ∷ [] → is_in choice.chosen x.label ≡ true → IsTaken m t choice (take place xs) x a
        → (later : List Unit') → AreTaken m t choice (take (place + 1) xs) (drop (place + 1) xs) later
        → AreTaken m t choice [] xs (now ++ later)
    taken_more a grown chosen taken later rest =
        subst (AreTaken m t choice [] xs) (sym (ap (λ (us : List Unit'). us ++ later) grown ∙ append_assoc old (a ∷ []) later))
        (all (a ∷ later) (one_taken later rest a chosen taken))

    pub taken_passed : now ≡ old → is_in choice.chosen x.label ≡ false → (later : List Unit')
        → AreTaken m t choice (take (place + 1) xs) (drop (place + 1) xs) later → AreTaken m t choice [] xs (now ++ later)
    taken_passed same left later rest =
        subst (AreTaken m t choice [] xs) (sym (ap (λ (us : List Unit'). us ++ later) same)) (all later (one_passed later rest left))

  -- and so is it told
  module _ (old now : List (Word × Reason))
      (all : taken_as_axioms choice [] xs ≡ old ++ taken_as_axioms choice (take place xs) (drop place xs)) where
    abbrev pub rest_told : List (Word × Reason)
    rest_told = taken_as_axioms choice (take (place + 1) xs) (drop (place + 1) xs)

    pub told_more : (r : Option Reason) → now ≡ old ++ told_with (Some x.label) r → is_in choice.chosen x.label ≡ true
        → reason choice (take place xs) x ≡ r → taken_as_axioms choice [] xs ≡ now ++ rest_told
    told_more r grown chosen is =
        all
        ∙ ap (λ (ps : List (Word × Reason)). old ++ ps) one_told
        ∙ ap (λ (b : Bool). old ++ (told_of x.label b (reason choice (take place xs) x) ++ rest_told)) chosen
        ∙ ap (λ (q : Option Reason). old ++ (told_of x.label true q ++ rest_told)) is
        ∙ sym (ap (λ (ps : List (Word × Reason)). ps ++ rest_told) (grown
        ∙ ap (λ (ps : List (Word × Reason)). old ++ ps) (told_same x.label r))
        ∙ append_assoc old (told_of x.label true r) rest_told)

    pub told_passed : now ≡ old → is_in choice.chosen x.label ≡ false → taken_as_axioms choice [] xs ≡ now ++ rest_told
    told_passed same left =
        all
        ∙ ap (λ (ps : List (Word × Reason)). old ++ ps) one_told
        ∙ ap (λ (b : Bool). old ++ (told_of x.label b (reason choice (take place xs) x) ++ rest_told)) left
        ∙ ap (λ (ps : List (Word × Reason)). old ++ (ps ++ rest_told)) (untold x.label (reason choice (take place xs) x))
        ∙ sym (ap (λ (ps : List (Word × Reason)). ps ++ rest_told) same)

-- at the end nothing is left
pub taken_all : (m : Map) (t : Tables) (choice : Choice) (xs : List Assertion) (k : ℕ) (items : List Unit') → length xs ≤ k
    → ((later : List Unit') → AreTaken m t choice (take k xs) (drop k xs) later → AreTaken m t choice [] xs (items ++ later))
    → AreTaken m t choice [] xs items
taken_all m t choice xs k items past all =
    subst (AreTaken m t choice [] xs) (append-nil items)
    (all [] (subst (λ (ys : List Assertion). AreTaken m t choice (take k xs) ys []) (sym (drop_of_length-le xs past)) refl))
