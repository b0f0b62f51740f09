-- The labels and the hypotheses of what is put into a source.
use Rattle.std.proofs.Common.{zero, suc, cond, get_or, ◌-◌, ◌≡◌, ◌∙◌, ◌<◌, ◌≤◌, ◌+◌, ◌^◌, ◌==◌, ℕ, Bool, true, List, [], ◌∷◌, ◌++◌, length, map, refl, sym, ap, subst, IsTrue, arith, codes, append_assoc}
use Rattle.std.specs.Prelude.{All, Option, Some, None, IfSome, Vec, slice_get, slice_index_or, filter, take}
use Rattle.std.specs.declared.alloc.Global.{Global}
use Rattle.std.specs.Option.{option_map, option_and_then, unwrap_or}
use Rattle.std.specs.List.{list_all, range_with_len, AllByRecursion}
use mathlib.Core.Bool.{not}
use Rattle.std.proofs.lemmas.Bool.{and_from}
use Rattle.std.proofs.lemmas.Bool.Decides.{nat_tests}
use Rattle.std.proofs.lemmas.List.Elements.{All-take, All-filter, All-map, All-get_or}
use Rattle.std.proofs.lemmas.List.FromFn.{get_or-range_with_len, length-range_with_len, filter_of_map_range_with_len_more}
use Rattle.std.specs.Borrow.{Bor}
use Rattle.std.proofs.lemmas.List.{append-nil, take_all, take-append-le, get_or-map, length-map}
use Rattle.std.proofs.lemmas.Option.{slice_get-map, unwrap_or-slice_get}
use Rattle.mmtext.specs.Text.{is_printable}
use Rattle.mmtext.specs.Words.{Word}
use Rattle.mmsyntax.specs.Dotted.{hypothesis_label}
use Rattle.mmsyntax.proofs.Lines.{IsPrintable}
use Rattle.mmsyntax.proofs.Numbered.{number_label, label_bytes}
use Rattle.source.specs.Scopes.{label_of, premise}
use Rattle.taking.specs.Listings.{premise_labels}
use Rattle.items.specs.Layout.{is_word}
use Rattle.source.specs.Views.{seen_words}
use Rattle.mmsyntax.specs.Tables.{Tables}
use Rattle.mmsyntax.specs.declared.statement.Float.{Float}
use Rattle.mmsyntax.specs.declared.statement.Symbol.{Symbol}
use Rattle.mmsyntax.specs.declared.statement.Symbol.TheVariants.{Const, Var}
use Rattle.sourcewriting.specs.declared.adding.SymbolWords.{SymbolWords}
use Rattle.sourcewriting.specs.Added.{first_free, hypotheses_put, mandatory_labels, variable_word, IsSpelled, IsSpelledThen}
use Rattle.sourcewriting.specs.Named.{IsName}

-- ---- hypotheses

bare : (ws : List Word) → ws ≡ map label_of (map (λ w. premise w []) ws)
bare [] = refl
bare (w ∷ ws) = ap (λ xs. w ∷ xs) (bare ws)

-- their labels
pub put_labels : (floats : List Word) (places : List ℕ) (premises : List Word)
    → mandatory_labels floats places premises ≡ map label_of (hypotheses_put floats places premises)
put_labels floats [] premises = bare premises
put_labels floats (i ∷ is) premises = ap (λ ws. slice_index_or floats i (codes "?") ∷ ws) (put_labels floats is premises)

kept : (ws : List Word) → ws ≡ premise_labels (map (λ w. premise w []) ws)
kept [] = refl
kept (w ∷ ws) = ap (λ xs. w ∷ xs) (kept ws)

-- those of $e
pub put_premises : (floats : List Word) (places : List ℕ) (premises : List Word)
    → premises ≡ premise_labels (hypotheses_put floats places premises)
put_premises floats [] premises = kept premises
put_premises floats (i ∷ is) premises = put_premises floats is premises

-- ---- labels that are given are names

printable : (w : List ℕ) → AllByRecursion IsPrintable w → list_all is_printable w ≡ true
printable [] h = refl
printable (b ∷ bs) h =
    let one : IsPrintable b = h.0 in
    let is : is_printable b ≡ true = grind (arith, nat_tests) in
    and_from (is_printable b) (list_all is_printable bs) is (printable bs h.1)

some : (label : Word) (b : ℕ) (ds : List ℕ) → not (length (label ++ b ∷ ds) == 0) ≡ true
some [] b ds = grind (arith, nat_tests)
some (x ∷ label) b ds = grind (arith, nat_tests)

pub number_name : (label : Word) (k : ℕ) → k < 2 ^ 64 → IsName label → IsName (hypothesis_label label k)
number_name label k small name =
    let w = hypothesis_label label k in
    let is = number_label label k name.label small in record {
      label = is;
      some = and_from (not (length w == 0)) (list_all is_printable w) (some label 46 _) (printable w (label_bytes w is));
    }

pub free_names : (is_taken : Word → Bool) (label : Word) (most count : ℕ) → most < 2 ^ 32 → IsName label
    → All IsName (first_free is_taken label most count)
unfolding first_free
free_names is_taken label most count small name =
    let all : All (λ k. IsName (hypothesis_label label k)) (range_with_len 1 most) = λ k d low.
    let below : k < most = subst (λ n. k < n) (length-range_with_len 1 most) low in
    subst (λ j. IsName (hypothesis_label label j)) (sym (get_or-range_with_len 1 most k d below))
    (number_name label (1 + k) (omega arith) name) in
    let names = All-map IsName (hypothesis_label label) (range_with_len 1 most) all in
    All-take IsName count _ (All-filter (λ w. not (is_taken w)) IsName _ names)

-- so they can be written
pub words_given : (is_taken : Word → Bool) (label : Word) (most count : ℕ) (labels : List (Vec ℕ Global)) → most < 2 ^ 32 → IsName label
    → map (λ w. w.items) labels ≡ first_free is_taken label most count → All (λ w. IsTrue (is_word w.items)) labels
words_given is_taken label most count labels small name e = λ k d low.
    let items = λ (w : Vec ℕ Global). w.items in
    let long = length-map labels items in
    let at = subst (All IsName) (sym e) (free_names is_taken label most count small name) k d.items (omega (arith, long, low)) in
    (subst IsName (get_or-map items labels k d d.items low) at).some

-- ---- the first that are free

module _ (is_taken : Word → Bool) (label : Word) where
  abbrev pub free_of : ℕ → List Word
  free_of most = filter (λ w. not (is_taken w)) (map (hypothesis_label label) (range_with_len 1 most))

  -- one more number
  pub free_more : (n number : ℕ) (old : List Word) → 1 + n ≡ number → old ≡ free_of n
      → old ++ cond (not (is_taken (hypothesis_label label number))) (hypothesis_label label number ∷ []) [] ≡ free_of (n + 1)
  free_more n number old is e =
      ap (λ ws. ws ++ cond (not (is_taken (hypothesis_label label number))) (hypothesis_label label number ∷ []) []) e
      ∙ sym (filter_of_map_range_with_len_more (λ w. not (is_taken w)) (hypothesis_label label) 1 n number is)

  -- none is left out
  pub free_all : (most count : ℕ) (made : List Word) → made ≡ free_of most → length made ≤ count
      → made ≡ first_free is_taken label most count
  unfolding first_free
  free_all most count made e few = sym (ap (take count) (sym e) ∙ take_all count made few)

  behind : (n k : ℕ) → (rest : List Word) × (free_of (n + k) ≡ free_of n ++ rest)
  behind n zero = ([], ap free_of (omega arith) ∙ sym (append-nil (free_of n)))
  behind n (suc k) =
      let was = behind n k in
      let j = 1 + (n + k) in
      let one = cond (not (is_taken (hypothesis_label label j))) (hypothesis_label label j ∷ []) [] in
      let next : n + suc k ≡ (n + k) + 1 = omega arith in (
        was.0 ++ one,
        ap free_of next
            ∙ sym (free_more (n + k) j (free_of (n + k)) refl refl)
            ∙ ap (λ ws. ws ++ one) was.1
            ∙ append_assoc (free_of n) was.0 one,
      )

  -- or there are enough
  pub free_enough : (n most count : ℕ) (made : List Word) → n ≤ most → made ≡ free_of n → length made ≡ count
      → made ≡ first_free is_taken label most count
  unfolding first_free
  free_enough n most count made low e many =
      let more = behind n (most - n) in
      let whole : n + (most - n) ≡ most = omega arith in
      let all : free_of most ≡ made ++ more.0 = ap free_of (sym whole) ∙ more.1 ∙ ap (λ ws. ws ++ more.0) (sym e) in
      sym (ap (take count) all ∙ take-append-le count made more.0 (omega (arith, many)) ∙ take_all count made (omega (arith, many)))

-- ---- words of symbols

abbrev IsSpelledWord : Word → Type 0
IsSpelledWord w = IsTrue (is_word w)

or_unknown : (o : Option Word) → IfSome o IsSpelledWord → IsSpelledWord (unwrap_or o (codes "?"))
or_unknown None h = refl
or_unknown (Some w) h = h

-- what stands at a place is spelled, if there is something
pub spelled_at : (ws : List Word) (i : ℕ) → IfSome (slice_get ws i) (λ w. IsTrue (is_word w)) → IsTrue (is_word (slice_index_or ws i (codes "?")))
spelled_at ws i h = subst IsSpelledWord (unwrap_or-slice_get ws i (codes "?")) (or_unknown (slice_get ws i) h)

variable_at : (reads : Word → Word) (variables : List Word) (o : Option Float)
    → IfSome (option_map reads (option_and_then (λ f. slice_get variables f.variable) o)) IsSpelledWord
    → IfSome (option_map (λ f. variable_word reads variables f.variable) o) IsSpelledWord
variable_at reads variables None h = tt
variable_at reads variables (Some f) h = or_unknown (option_map reads (slice_get variables f.variable)) h

-- the symbols of a library are spelled by the words that they have in the source
pub all_spelled : (reads : Word → Word) (t : Tables) (ws : SymbolWords) → seen_words ws.constants.items ≡ map reads t.constants
    → seen_words ws.variables.items ≡ map (λ f. variable_word reads t.variables f.variable) t.floats
    → (x : Symbol) → IsSpelledThen reads t x → IsSpelled ws x
all_spelled reads t ws constants variables (Const i) h =
    subst (λ o. IfSome o IsSpelledWord) (sym (ap (λ xs. slice_get xs i) constants ∙ slice_get-map reads t.constants i)) h
all_spelled reads t ws constants variables (Var j) h =
    subst (λ o. IfSome o IsSpelledWord)
    (sym (ap (λ xs. slice_get xs j) variables
    ∙ slice_get-map (λ (f : Float). variable_word reads t.variables f.variable) t.floats j))
    (variable_at reads t.variables (slice_get t.floats j) h)

-- one of some words is spelled
pub word_is_spelled : (ws : List (Bor (List ℕ))) (k : ℕ) (d : Bor (List ℕ)) → k < length ws → All (λ w. IsTrue (is_word w)) (seen_words ws)
    → IsTrue (is_word (get_or ws k d).now)
word_is_spelled ws k d low all =
    let long = length-map ws (λ (w : Bor (List ℕ)). w.now) in
    let at = All-get_or IsSpelledWord (seen_words ws) k d.now (omega (arith, long, low)) all in
    subst IsSpelledWord (get_or-map (λ (w : Bor (List ℕ)). w.now) ws k d d.now low) at
