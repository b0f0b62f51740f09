-- What is left to show of `proving_of`.
use Rattle.std.proofs.Common.{◌∙◌, refl, sym, ap, subst, map, Some}
use Rattle.std.specs.Option.{option_copied, option_map, option_and_then}
use Rattle.mmtext.specs.Views.{seen}
use Rattle.expanding.specs.Views.{seen_cut}
use Rattle.pasting.specs.declared.proving.Theorem.TheVariants.{Added}
use Rattle.pasting.specs.Pasted.{adding}
use Rattle.pasting.specs.Views.{IsProvingIf, seen_addition}
use Rattle.pasting.proofs.Reproving.{ended_by, no_first, never_ended, is_reproving, is_adding, added_there}
use Rattle.pasting.proofs.proving.proving_of.Goals as goal

pub returns-in_default-first-clause-proving : goal.returns-in_default-first-clause-proving
returns-in_default-first-clause-proving g c = λ m t xs known.
    let s = g.D.Declared.scope c.args.declared.now in
    let p = map seen c.args.part.now in
    let cut = sym c.cut_of.ensures ∙ ap (option_map seen_cut) c.in-Some.is in
    never_ended m t s xs p (seen_cut c.in-Some.cut) cut
    (no_first c.in-Some.cut.back.now (ap option_copied (sym c.in_default-first.is) ∙ c.first.ensures.value))

pub returns-then-is_some-clause-proving : goal.returns-then-is_some-clause-proving
returns-then-is_some-clause-proving g c = λ m t xs known.
    let s = g.D.Declared.scope c.args.declared.now in
    let p = map seen c.args.part.now in
    let cut = sym c.cut_of.ensures ∙ ap (option_map seen_cut) c.in-Some.is in
    let ended = ended_by c.in-Some.cut.back.now c.in-Some-first.ends.now
    (ap option_copied (sym c.in-Some-first.is) ∙ c.first.ensures.value) in
    is_reproving m t s xs p (seen_cut c.in-Some.cut) cut c.reproving-found.result (c.reproving-found.ensures.proving m t xs known ended)
    (sym c.is_some.ensures ∙ c.if-is_some.true)

pub returns-in-None-clause-proving : goal.returns-in-None-clause-proving
returns-in-None-clause-proving g c = λ m t xs known.
    let s = g.D.Declared.scope c.args.declared.now in
    let p = map seen c.args.part.now in
    let cut = sym c.cut_of.ensures ∙ ap (option_map seen_cut) c.in-Some.is in
    let ended = ended_by c.in-Some.cut.back.now c.in-Some-first.ends.now
    (ap option_copied (sym c.in-Some-first.is) ∙ c.first.ensures.value) in
    is_adding m t s xs p (seen_cut c.in-Some.cut) cut c.reproving-found.result (c.reproving-found.ensures.proving m t xs known ended)
    (sym c.is_some.ensures ∙ c.if-is_some.false)
    ∙ ap (option_and_then (adding m t (seen_cut c.in-Some.cut)))
    (sym c.in_ok-addition_of.ensures ∙ ap (option_map seen_addition) c.in-None.is)

pub returns-clause-proving : goal.returns-clause-proving
returns-clause-proving g c = λ m t xs known.
    let s = g.D.Declared.scope c.args.declared.now in
    let p = map seen c.args.part.now in
    let k = c.in-Some.cut in
    let a = c.in-Some-2.addition in
    let cut = sym c.cut_of.ensures ∙ ap (option_map seen_cut) c.in-Some.is in
    let ended = ended_by k.back.now c.in-Some-first.ends.now
    (ap option_copied (sym c.in-Some-first.is) ∙ c.first.ensures.value) in
    let there = sym c.in_ok-addition_of.ensures ∙ ap (option_map seen_addition) c.in-Some-2.is in
    subst (IsProvingIf m t s (Some (record { cut = k; ends = c.in-Some-first.ends.now; label = a.label; theorem = Added a })))
    (sym (is_adding m t s xs p (seen_cut k) cut c.reproving-found.result (c.reproving-found.ensures.proving m t xs known ended)
    (sym c.is_some.ensures ∙ c.if-is_some.false)
    ∙ added_there m t s xs p (seen_cut k) cut (seen_addition a) (seen c.in-Some-first.ends.now) there ended))
    (record { cut = refl; ends = refl; label = refl; theorem = refl; word = refl })
