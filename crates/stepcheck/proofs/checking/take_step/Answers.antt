use Rattle.std.proofs.Common.{None, Some, ◌≡◌, ◌∙◌, ◌++◌, ◌∷◌, [], Bor, List, length, ℕ, ap, refl, subst, sym}
use Rattle.std.proofs.lemmas.Result.{on_ok_weaker, IfErr-weaker}
use Rattle.std.proofs.lemmas.Bool.{ltb-true}
use Rattle.std.proofs.lemmas.Option.{slice_get_read}
use Rattle.std.specs.Prelude.{slice_get}
use Rattle.std.specs.Slice.{IsItemAt}
use Rattle.stepcheck.proofs.FewPlaces.{places_are_small}
use Rattle.stepcheck.proofs.LookedUp.{looked_up, cite_fails}
use Rattle.stepcheck.proofs.checking.take_step.Goals as goal

item_at : {X : Type 0} (xs ys : List X) (i : ℕ) (x : Bor X) → xs ≡ ys → IsItemAt xs i (Some x) → slice_get ys i ≡ Some x.now
item_at {X} xs ys i x same at =
    subst (λ (zs : List X). slice_get zs i ≡ Some x.now) same
    (slice_get_read xs (length xs) i x.now refl (ltb-true i (length xs) (sym at.0)) at.1)

pub new-requires : goal.new-requires
new-requires c =
    (places_are_small c.args.proving.prelude.now _ c.in-Float.i c.in-Some.float c.floats.ensures.sound c.floats.ensures.value
    c.in-Some.ensures.lookup).0

pub new-requires-in-Some : goal.new-requires-in-Some
new-requires-in-Some c =
    (places_are_small c.args.proving.prelude.now _ c.in-Float.i c.in-Some.float c.floats.ensures.sound c.floats.ensures.value
    c.in-Some.ensures.lookup).1

pub returns-in-None-frames-clause-err : goal.returns-in-None-frames-clause-err
returns-in-None-frames-clause-err c = λ _ lib labels same.
    let within = rw c.in-Cite.is at c.requires in
    rw c.in-Cite.is (looked_up lib labels c.args.frames.now c.in-Cite.n _ None same within c.in-None-frames.is)

pub returns-in-Some-frames-clause-ok : goal.returns-in-Some-frames-clause-ok
returns-in-Some-frames-clause-ok c =
    let within = rw c.in-Cite.is at c.requires in
    on_ok_weaker c.cite.result (λ gives lib labels same.
    let is = looked_up lib labels c.args.frames.now c.in-Cite.n _ (Some c.in-Some-frames.frame) same within c.in-Some-frames.is in
    rw c.in-Cite.is (c.in-Some-frames.frame.now, is, gives)) c.cite.ensures.ok

pub returns-in-Some-frames-clause-err : goal.returns-in-Some-frames-clause-err
returns-in-Some-frames-clause-err c =
    let within = rw c.in-Cite.is at c.requires in
    IfErr-weaker c.cite.result _ _ (λ kind fails n lib labels same.
    let is = looked_up lib labels c.args.frames.now c.in-Cite.n _ (Some c.in-Some-frames.frame) same within c.in-Some-frames.is in
    let frame = c.in-Some-frames.frame.now in
    rw c.in-Cite.is (cite_fails lib c.args.proving.prelude.now c.args.proving.thesis.now c.args.stack.now _ frame kind is (fails n)))
    c.cite.ensures.err

pub returns-in-Some-get-clause-ok : goal.returns-in-Some-get-clause-ok
returns-in-Some-get-clause-ok c =
    on_ok_weaker c.lend.result (λ pushed lib labels same.
    rw c.in-Hyp.is (
      c.in-Some-get.hyp.now,
      item_at _ _ _ c.in-Some-get.hyp (c.as_slice.ensures ∙ ap (λ a. a.hyps) c.assertion.ensures) c.in-Some-get.ensures.lookup,
      pushed ∙ ap (λ e. c.args.stack.now ++ e ∷ []) c.as_slice-in-Some-get.ensures,
    )) c.lend.ensures.value

pub returns-in-Some-get-clause-err : goal.returns-in-Some-get-clause-err
returns-in-Some-get-clause-err c = IfErr-weaker c.lend.result _ _ (λ kind is n. absurd (n is)) c.lend.ensures.kinds

pub returns-in_ok-push_two-in-Some-clause-ok : goal.returns-in_ok-push_two-in-Some-clause-ok
returns-in_ok-push_two-in-Some-clause-ok c = λ lib labels same.
    rw c.in-Float.is (
      c.new.result ∷ c.new-in-Some.result ∷ [],
      (
        c.in-Some.float.now,
        item_at _ _ _ c.in-Some.float c.floats.ensures.value c.in-Some.ensures.lookup,
        rw (c.new.ensures, c.new-in-Some.ensures) refl,
      ),
      c.in_ok-push_two-in-Some.ensures,
    )
