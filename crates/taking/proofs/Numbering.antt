-- Numbers that count the words of a normal proof, and their codes.
use Rattle.std.proofs.Common.{◌≡◌, ℕ, zero, suc, refl, ◌+◌, ◌<◌, List, [], ◌∷◌, ◌++◌, length, map, take}
use Rattle.std.proofs.Common.{sym, ap, ◌∙◌, arith, inl, inr}
use Rattle.std.specs.Prelude.{Some, false, pred, slice_index_or, if◌then◌else◌}
use Rattle.std.specs.List.{list_any}
use Rattle.std.proofs.lemmas.Bool.{cases_Bool, cond-true, cond-false}
use Rattle.std.proofs.lemmas.List.{map-append, take_more}
use Rattle.mmtext.specs.Words.{Word}
use Rattle.source.specs.declared.letters.Code.{Code}
use Rattle.source.specs.declared.letters.Code.TheVariants.{Number, Unknown}
use Rattle.source.specs.Statements.{Proof}
use Rattle.source.specs.Scopes.{Hypothesis, is_unknown}
use Rattle.source.specs.Letters.{is_absent}
use Rattle.source.specs.Proofs.{names, unknown, numbered, step_of_word, step_of, steps_of, is_unfinished}
use Rattle.source.proofs.Finished.{absent_codes, finished_steps}

-- a number within the list counts the label there
pub names_label : (ws : List Word) (n : ℕ) → n < length ws → numbered ws n ≡ names (slice_index_or ws n [])
names_label [] n h = absurd (omega arith)
names_label (w ∷ ws) zero h = refl
names_label (w ∷ ws) (suc n) h = names_label ws n (omega arith)

pred_more : (i : ℕ) → pred (i + 1) ≡ i
pred_more i = omega arith

-- a number counts the label at the place before it
number_names : (ws : List Word) (i : ℕ) → i < length ws → step_of ws (Number (i + 1)) ≡ names (slice_index_or ws i [])
number_names ws i h =
    let e : pred (i + 1) ≡ i = pred_more i in
    names_label ws (pred (i + 1)) (omega arith) ∙ ap (λ k. names (slice_index_or ws k [])) e

-- a word counts as itself
word_counts : (ws : List Word) (i : ℕ) → i < length ws
    → step_of ws (if is_unknown (slice_index_or ws i []) then Unknown else Number (i + 1)) ≡ step_of_word (slice_index_or ws i [])
word_counts ws i h =
    let w = slice_index_or ws i [] in
    elim (cases_Bool (is_unknown w)) [
      | inl is ↦
          ap (step_of ws) (cond-true (is_unknown w) Unknown (Number (i + 1)) is) ∙ sym (cond-true (is_unknown w) unknown (names w) is)
      | inr other ↦
          ap (step_of ws) (cond-false (is_unknown w) Unknown (Number (i + 1)) other)
          ∙ number_names ws i h
          ∙ sym (cond-false (is_unknown w) unknown (names w) other)
    ]

pub one_counted : (ws : List Word) (codes : List Code) (i : ℕ) → i < length ws → map (step_of ws) codes ≡ map step_of_word (take i ws)
    → map (step_of ws) (codes ++ (if is_unknown (slice_index_or ws i []) then Unknown else Number (i + 1)) ∷ [])
    ≡ map step_of_word (take (i + 1) ws)
one_counted ws codes i h is =
    let code = if is_unknown (slice_index_or ws i []) then Unknown else Number (i + 1) in
    map-append (step_of ws) codes (code ∷ [])
    ∙ ap (λ ss. ss ++ step_of ws code ∷ []) is
    ∙ ap (λ x. map step_of_word (take i ws) ++ x ∷ []) (word_counts ws i h)
    ∙ sym (map-append step_of_word (take i ws) (slice_index_or ws i [] ∷ []))
    ∙ ap (map step_of_word) (sym (take_more ws i [] h))

-- the codes of a finished proof are all there
pub codes_there : (hypotheses : List Hypothesis) (proof : Proof) (labels : List Word) (codes : List Code) → is_unfinished proof ≡ false
    → steps_of hypotheses proof ≡ Some (map (step_of labels) codes) → list_any is_absent codes ≡ false
codes_there hypotheses proof labels codes finished is =
    sym (absent_codes labels codes) ∙ finished_steps hypotheses proof (map (step_of labels) codes) finished is
