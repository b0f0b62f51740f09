use Rattle.std.proofs.Common.{◌≡◌, ◌+◌, length, map, take, get_or, [], ◌∷◌, ◌++◌, refl, sym, ap, ◌∙◌}
use Rattle.std.specs.Option.{option_copied}
use Rattle.std.proofs.lemmas.List.{take_more, take_all, length-map}
use Rattle.std.proofs.lemmas.Option.{slice_get_read}
use Rattle.std.proofs.lemmas.Result.{on_ok_weaker, IfErr-weaker}
use Rattle.mmsyntax.specs.ProofWords.{step_of, step_in}
use Rattle.derivation.proofs.Forests.{Runs-more}
use Rattle.derivation.proofs.Stuck.{step-fault, end-fault, proved}
use Rattle.stepcheck.proofs.checking.check_steps.Goals as goal

pub returns-in-Err-clause-fault : goal.returns-in-Err-clause-fault
returns-in-Err-clause-fault g c = λ n.
    let lib = g.F.Frames.frames c.args.frames.now in
    let labels = c.word_steps-steps.result.cited.now in
    let words = c.word_steps-steps.result.words.now in
    let xs = c.args.assertion.now.proof in
    let step = step_in labels c.step-step.result in
    let long : length words ≡ length xs = sym (length-map words (step_of labels)) ∙ ap length c.word_steps-steps.ensures in
    let here : step ≡ get_or xs c.loop-done.done step = rw c.word_steps-steps.ensures at c.step-step.ensures.step in
    let at = slice_get_read xs _ c.loop-done.done step long c.loop-done-test.true here in
    let same = ap (map option_copied) c.as_slice-cited.ensures.value ∙ c.in-Ok.ensures in
    step-fault lib c.args.prelude.now c.args.assertion.now c.loop-done.done c.loop-done.stack step
    (record { step = c.loop-done.done + 1; kind = c.in-Err.kind })
    c.loop-done.invariant at refl (rw c.new-thesis.ensures at (c.in-Err.ensures.err n lib labels same))

pub loop-done-preserved : goal.loop-done-preserved
loop-done-preserved g c =
    let lib = g.F.Frames.frames c.args.frames.now in
    let labels = c.word_steps-steps.result.cited.now in
    let words = c.word_steps-steps.result.words.now in
    let xs = c.args.assertion.now.proof in
    let step = step_in labels c.step-step.result in
    let long : length words ≡ length xs = sym (length-map words (step_of labels)) ∙ ap length c.word_steps-steps.ensures in
    let here : step ≡ get_or xs c.loop-done.done step = rw c.word_steps-steps.ensures at c.step-step.ensures.step in
    let same = ap (map option_copied) c.as_slice-cited.ensures.value ∙ c.in-Ok.ensures in
    let lt = rw long at c.loop-done-test.true in
    let front : take (c.loop-done.done + 1) xs ≡ take c.loop-done.done xs ++ step ∷ [] =
    take_more xs c.loop-done.done step lt ∙ ap (λ x. take c.loop-done.done xs ++ x ∷ []) (sym here) in
    rw front (Runs-more lib c.args.prelude.now c.args.assertion.now _ (step ∷ []) [] c.loop-done.stack c.take_step.new.stack
    c.loop-done.invariant (c.take_step.new.stack, rw c.new-thesis.ensures at (c.in-Ok-take_step.ensures.ok lib labels same), refl))

pub returns-clause-yes : goal.returns-clause-yes
returns-clause-yes g c =
    let labels = c.word_steps-steps.result.cited.now in
    let words = c.word_steps-steps.result.words.now in
    let xs = c.args.assertion.now.proof in
    let long : length words ≡ length xs = sym (length-map words (step_of labels)) ∙ ap length c.word_steps-steps.ensures in
    let whole = take_all c.loop-done.done xs (rw long at c.loop-done-test.false) in
    on_ok_weaker c.check_end.result (λ (left : c.loop-done.stack ≡ c.args.assertion.now.statement ∷ []).
    proved (g.F.Frames.frames c.args.frames.now) c.args.prelude.now c.args.assertion.now c.args.assertion.now.statement
    (rw (whole, left) at c.loop-done.invariant)) c.check_end.ensures.yes

pub returns-clause-fault : goal.returns-clause-fault
returns-clause-fault g c =
    let labels = c.word_steps-steps.result.cited.now in
    let words = c.word_steps-steps.result.words.now in
    let xs = c.args.assertion.now.proof in
    let long : length words ≡ length xs = sym (length-map words (step_of labels)) ∙ ap length c.word_steps-steps.ensures in
    let whole = take_all c.loop-done.done xs (rw long at c.loop-done-test.false) in
    IfErr-weaker c.check_end.result _ _ (λ fault h n.
    end-fault (g.F.Frames.frames c.args.frames.now) c.args.prelude.now c.args.assertion.now c.loop-done.stack fault
    (rw whole at c.loop-done.invariant) (h.0 ∙ long) h.1) c.check_end.ensures.fault
