-- The symbols of each $e of hypotheses, one after the other.
use Rattle.std.proofs.Common.{◌≡◌, ◌∙◌, ◌<◌, ◌≤◌, ℕ, ◌+◌, List, [], ◌∷◌, ◌++◌, length, drop, get_or, refl, sym, ap, append_assoc, append-nil}
use Rattle.std.specs.Prelude.{Option, Some, None}
use Rattle.std.proofs.lemmas.List.{at_drop_more, at_drop_all}
use Rattle.mmsyntax.specs.declared.statement.Symbol.{Symbol}
use Rattle.mmtext.specs.Words.{Word}
use Rattle.source.specs.Scopes.{Hypothesis, typing, premise}
use Rattle.source.specs.Views.{seen_hypothesis}
use Rattle.source.specs.declared.contents.HypothesisWords.{HypothesisWords}
use Rattle.taking.specs.Says.{both, each, premises}
use Rattle.taking.proofs.Symbols.{following}
use Rattle.sites.specs.Given.{given_hypotheses}

-- the symbols so far, before those of the $e of the hypotheses that are left
abbrev pub left : (Word → Option Symbol) → List (List Symbol) → List HypothesisWords → Option (List (List Symbol))
left f done hs = following done (each (each f) (premises (given_hypotheses hs)))

one_more : (done : List (List Symbol)) (x : List Symbol) (r : Option (List (List Symbol)))
    → following done (both (Some x) r) ≡ following (done ++ x ∷ []) r
one_more done x None = refl
one_more done x (Some ys) = ap (λ zs. Some zs) (sym (append_assoc done (x ∷ []) ys))

abbrev head : (Word → Option Symbol) → List (List Symbol) → List Hypothesis → Hypothesis → Option (List (List Symbol))
head f done rest (typing label c v) = following done (each (each f) (premises rest))
head f done rest (premise label ws) = following done (both (each f ws) (each (each f) (premises rest)))

head_is : (f : Word → Option Symbol) (done : List (List Symbol)) (rest : List Hypothesis) (h : Hypothesis)
    → following done (each (each f) (premises (h ∷ rest))) ≡ head f done rest h
head_is f done rest (typing label c v) = refl
head_is f done rest (premise label ws) = refl

module _ (f : Word → Option Symbol) (hs : List HypothesisWords) (done : List (List Symbol)) (i : ℕ) (d : HypothesisWords)
    (h : i < length hs) where
  next : left f done (drop i hs) ≡ head f done (given_hypotheses (drop (i + 1) hs)) (seen_hypothesis (get_or hs i d))
  next =
      at_drop_more (left f done) hs i d h ∙ head_is f done (given_hypotheses (drop (i + 1) hs)) (seen_hypothesis (get_or hs i d))

  -- a $e whose words have symbols
  pub one_premise : (label : Word) (ws : List Word) (x : List Symbol) → seen_hypothesis (get_or hs i d) ≡ premise label ws
      → each f ws ≡ Some x → left f done (drop i hs) ≡ left f (done ++ x ∷ []) (drop (i + 1) hs)
  one_premise label ws x is has =
      next
      ∙ ap (head f done (given_hypotheses (drop (i + 1) hs))) is
      ∙ ap (λ o. following done (both o (each (each f) (premises (given_hypotheses (drop (i + 1) hs)))))) has
      ∙ one_more done x (each (each f) (premises (given_hypotheses (drop (i + 1) hs))))

  -- a $f
  pub passes_float : (label constant variable : Word) → seen_hypothesis (get_or hs i d) ≡ typing label constant variable
      → left f done (drop i hs) ≡ left f done (drop (i + 1) hs)
  passes_float label constant variable is = next ∙ ap (head f done (given_hypotheses (drop (i + 1) hs))) is

  -- a $e with a word that has none
  pub no_premise : (label : Word) (ws : List Word) → seen_hypothesis (get_or hs i d) ≡ premise label ws → each f ws ≡ None
      → left f done (drop i hs) ≡ None
  no_premise label ws is none =
      next
      ∙ ap (head f done (given_hypotheses (drop (i + 1) hs))) is
      ∙ ap (λ o. following done (both o (each (each f) (premises (given_hypotheses (drop (i + 1) hs)))))) none

-- all are gone through
pub all_premises : (f : Word → Option Symbol) (hs : List HypothesisWords) (done : List (List Symbol)) (i : ℕ) → length hs ≤ i
    → left f done (drop i hs) ≡ Some done
all_premises f hs done i h = at_drop_all (left f done) hs i h ∙ ap (λ xs. Some xs) (append-nil done)
