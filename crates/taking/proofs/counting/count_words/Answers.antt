-- What is left to show of `count_words`.
use Rattle.std.proofs.Common.{◌≡◌, ◌<◌, ◌+◌, ◌∙◌, ◌++◌, ◌∷◌, [], ℕ, List, length, map, sym, ap, subst}
use Rattle.std.proofs.lemmas.List.{length-map, get_or-map}
use Rattle.std.specs.Prelude.{slice_index_or, if◌then◌else◌}
use Rattle.std.specs.Borrow.{Bor}
use Rattle.source.specs.declared.letters.Code.TheVariants.{Number, Unknown}
use Rattle.source.specs.Scopes.{is_unknown}
use Rattle.source.specs.Proofs.{step_of}
use Rattle.source.specs.Views.{seen_words}
use Rattle.taking.proofs.Numbering.{one_counted}
use Rattle.taking.proofs.counting.count_words.Goals as goal

pub loop-word-preserved : goal.loop-word-preserved
loop-word-preserved c =
    let words = c.args.words.now in
    let ws = seen_words words in
    let codes = c.loop-word.codes.items in
    let i = c.loop-word.word-index in
    let long : i < length ws = subst (λ (n : ℕ). i < n) (sym (length-map words (λ (w : Bor (List ℕ)). w.now))) c.loop-word-test.true in
    let code = if is_unknown (slice_index_or ws i []) then Unknown else Number (i + 1) in
    let number : c.in_ok-number.number ≡ i + 1 = c.in_ok-number.ensures ∙ ap (λ k. k + 1) c.loop-word.invariant.0 in
    let code-is : c.code_of.result ≡ code =
    c.code_of.ensures
    ∙ ap (λ w. if is_unknown w then Unknown else Number c.in_ok-number.number)
    (sym (get_or-map (λ (w : Bor (List ℕ)). w.now) words i _ [] c.loop-word-test.true))
    ∙ ap (λ n. if is_unknown (slice_index_or ws i []) then Unknown else Number n) number in (
      number,
      ap (map (step_of ws)) c.in_ok-push.ensures.items
          ∙ ap (λ x. map (step_of ws) (codes ++ x ∷ [])) code-is
          ∙ one_counted ws codes i long c.loop-word.invariant.1,
    )
