-- What is left to show of `addition_in`.
use Rattle.std.proofs.Common.{◌≡◌, ◌∙◌, ◌≤◌, ◌+◌, ◌-◌, ℕ, length, ◌++◌, ◌∷◌, [], map, drop, sym, ap, subst, arith, inl, inr}
use Rattle.std.proofs.lemmas.List.{drop_more, map-append, length-drop, take_all}
use Rattle.std.specs.Prelude.{slice_index_or}
use Rattle.mmtext.specs.Views.{seen}
use Rattle.source.specs.Scopes.{premise}
use Rattle.source.specs.Views.{seen_hypothesis}
use Rattle.pasting.specs.Additions.{addition_in, symbols_in}
use Rattle.pasting.proofs.Adding.{with_premises, goes_on}
use Rattle.pasting.proofs.Unnamed.{no_word}
use Rattle.pasting.proofs.addition.addition_in.Goals as goal
use Rattle.pasting.proofs.addition.addition_in.Goals.{then-is_premise+in_ok-symbols+in_ok-push, else-is_premise}

pub loop-at-preserved : goal.loop-at-preserved
loop-at-preserved c =
    let rest = c.in-Some.rest.now in
    let i = c.loop-at.at in
    let label = c.loop-at.label in
    let mark = slice_index_or rest i no_word in
    let ps = map seen_hypothesis c.loop-at.premises.items in
    let ts = map seen (drop (i + 1) rest) in
    let whole = addition_in (map seen c.args.words.now) in
    let is : whole ≡ with_premises ps (addition_in (seen label ∷ seen mark ∷ ts)) =
    c.loop-at.invariant
    ∙ ap (λ us. with_premises ps (addition_in (seen label ∷ map seen us))) (drop_more rest i no_word c.loop-at-test.true) in
    goes_on whole ps (map seen_hypothesis c.if-is_premise.premises.items) (seen label) (seen mark) ts is
    (sym c.claims.ensures ∙ c.if-claims.false)
    (elim c.if-is_premise.branch [
      | then-is_premise+in_ok-symbols+in_ok-push w ↦ inl (
        sym c.is_premise.ensures ∙ w.if-is_premise.true,
        ap (λ v. map seen_hypothesis v.items) w.premises-is ∙ ap (map seen_hypothesis) w.in_ok-push.ensures.items
            ∙ map-append seen_hypothesis c.loop-at.premises.items _
            ∙ ap (λ ws. ps ++ premise label.text.now ws ∷ []) (w.in_ok-symbols.ensures
            ∙ ap (λ us. symbols_in (map seen us)) (take_all _ (drop (i + 1) rest)
            (subst (λ (n : ℕ). n ≤ length rest - (i + 1)) (sym (length-drop (i + 1) rest)) (omega arith)))),
      )
      | else-is_premise w ↦ inr (sym c.is_premise.ensures ∙ w.if-is_premise.false, ap (λ v. map seen_hypothesis v.items) w.premises-is)
    ])
