-- What is left to show of `check_counted`.
use Rattle.std.proofs.Common.{◌≡◌, ℕ, List, false, map, take, sym, ap, subst, ◌∙◌}
use Rattle.std.specs.Option.{option_map}
use Rattle.std.specs.Borrow.{Bor}
use Rattle.std.specs.List.{list_any}
use Rattle.source.specs.Letters.{is_absent}
use Rattle.source.specs.Proofs.{step_of}
use Rattle.source.specs.Views.{seen_words}
use Rattle.source.proofs.Asked.{statement_is}
use Rattle.mmsyntax.proofs.Options.{at_any_result}
use Rattle.sourceframes.specs.Names.{looks_up, words_of, name_in}
use Rattle.sourceframes.specs.Frames.{AreFrames}
use Rattle.sourceframes.specs.Theses.{IsThesisOf}
use Rattle.sourcecheck.specs.Shown.{Stands, AreNamed, Tells, IsFaultOfKind}
use Rattle.sourceframes.proofs.Numbered.{grows_on, lasts_on, lasts_now, unique_by, injective}
use Rattle.sourcecheck.proofs.theorem.check_counted.Goals as goal

pub returns-clause-tells : goal.returns-clause-tells
returns-clause-tells g c = λ x at there.
    let xs = (g.D.Declared.scope c.args.declared.now).assertions in
    let earlier = take c.args.place xs in
    let start = words_of c.args.table.now in
    let first = words_of c.numbers.new.self in
    let second = words_of c.name_labels.new.table in
    let end = words_of c.thesis_of.new.table in
    let name = name_in end in
    let near = c.in-Ok-thesis_of.ensures.keeps.grows in
    let mid = grows_on first second end c.in-Ok-name_labels.ensures.keeps.grows near in
    let far = grows_on start first end c.in-Ok.ensures.keeps.grows mid in
    let labels = seen_words c.args.counted.labels.items in
    let fs = c.args.frames.now in
    let thesis = c.in-Ok-thesis_of.thesis in
    let stands : Stands name earlier x fs thesis = record {
      injective = injective end (unique_by (looks_up c.thesis_of.new.table.numbers) end c.in-Ok-thesis_of.ensures.keeps.sound);
      frames = lasts_now end (λ name. AreFrames name earlier fs)
          (lasts_on start end (λ name. AreFrames name earlier fs) far c.requires.frames);
      thesis = lasts_now end (λ name. IsThesisOf name thesis x) (c.in-Ok-thesis_of.ensures.made x at);
    } in
    let told : AreNamed name earlier x (seen_words c.as_slice-labels.result.now) c.in-Ok-name_labels.named.items =
    lasts_now end (λ name. AreNamed name earlier x (seen_words c.as_slice-labels.result.now) c.in-Ok-name_labels.named.items)
    (lasts_on second end (λ name. AreNamed name earlier x (seen_words c.as_slice-labels.result.now) c.in-Ok-name_labels.named.items) near
    (c.in-Ok-name_labels.ensures.named x at)) in
    let named : AreNamed name earlier x labels c.as_slice.result.now =
    subst (λ ns. AreNamed name earlier x labels ns) (sym c.as_slice.ensures.value)
    (subst (λ ls. AreNamed name earlier x (seen_words ls) c.in-Ok-name_labels.named.items) c.as_slice-labels.ensures.value told) in
    let there_is = sym c.statement.ensures ∙ ap (option_map (λ (ws : Bor (List (Bor (List ℕ)))). seen_words ws.now)) c.in-Some.is in
    let statement : map name c.as_slice-2.result.now ≡ x.statement =
    ap (map name) c.as_slice-2.ensures.value
    ∙ lasts_now end (λ name. map name c.in-Ok.wanted.items ≡ seen_words c.in-Some.statement.now)
    (lasts_on first end (λ name. map name c.in-Ok.wanted.items ≡ seen_words c.in-Some.statement.now) mid c.in-Ok.ensures.named)
    ∙ statement_is xs c.args.place x at (seen_words c.in-Some.statement.now) there_is in
    subst (λ cs. Tells earlier x (map (step_of labels) cs) c.take_codes.result) c.as_slice-3.ensures
    (c.take_codes.ensures name earlier x labels stands named statement
    (subst (λ cs. list_any is_absent cs ≡ false) (sym c.as_slice-3.ensures) there))

pub returns-clause-keeps : goal.returns-clause-keeps
returns-clause-keeps g c =
    let first = words_of c.numbers.new.self in
    let end = words_of c.thesis_of.new.table in
    let near = c.in-Ok-thesis_of.ensures.keeps.grows in
    let mid = grows_on first (words_of c.name_labels.new.table) end c.in-Ok-name_labels.ensures.keeps.grows near in
    at_any_result c.take_codes.result (record {
      sound = c.in-Ok-thesis_of.ensures.keeps.sound;
      grows = grows_on (words_of c.args.table.now) first end c.in-Ok.ensures.keeps.grows mid;
    })

-- of want of memory nothing is said
pub returns-in_default-numbers-clause-tells : goal.returns-in_default-numbers-clause-tells
returns-in_default-numbers-clause-tells g c = λ x at there.
    let earlier = take c.args.place (g.D.Declared.scope c.args.declared.now).assertions in
    let steps = map (step_of (seen_words c.args.counted.labels.items)) c.args.counted.codes in
    subst (IsFaultOfKind earlier x steps c.fault.result.step) (sym c.fault.ensures) tt

pub returns-in_default-numbers-clause-keeps : goal.returns-in_default-numbers-clause-keeps
returns-in_default-numbers-clause-keeps g c = tt

pub returns-in_default-active-clause-tells : goal.returns-in_default-active-clause-tells
returns-in_default-active-clause-tells g c = λ x at there.
    let earlier = take c.args.place (g.D.Declared.scope c.args.declared.now).assertions in
    let steps = map (step_of (seen_words c.args.counted.labels.items)) c.args.counted.codes in
    subst (IsFaultOfKind earlier x steps c.fault-in_default-active.result.step) (sym c.fault-in_default-active.ensures) tt

pub returns-in_default-active-clause-keeps : goal.returns-in_default-active-clause-keeps
returns-in_default-active-clause-keeps g c = tt

pub returns-in_default-name_labels-clause-tells : goal.returns-in_default-name_labels-clause-tells
returns-in_default-name_labels-clause-tells g c = λ x at there.
    let earlier = take c.args.place (g.D.Declared.scope c.args.declared.now).assertions in
    let steps = map (step_of (seen_words c.args.counted.labels.items)) c.args.counted.codes in
    subst (IsFaultOfKind earlier x steps c.fault-in_default-name_labels.result.step) (sym c.fault-in_default-name_labels.ensures) tt

pub returns-in_default-name_labels-clause-keeps : goal.returns-in_default-name_labels-clause-keeps
returns-in_default-name_labels-clause-keeps g c = tt

pub returns-in_default-thesis_of-clause-tells : goal.returns-in_default-thesis_of-clause-tells
returns-in_default-thesis_of-clause-tells g c = λ x at there.
    let earlier = take c.args.place (g.D.Declared.scope c.args.declared.now).assertions in
    let steps = map (step_of (seen_words c.args.counted.labels.items)) c.args.counted.codes in
    subst (IsFaultOfKind earlier x steps c.fault-in_default-thesis_of.result.step) (sym c.fault-in_default-thesis_of.ensures) tt

pub returns-in_default-thesis_of-clause-keeps : goal.returns-in_default-thesis_of-clause-keeps
returns-in_default-thesis_of-clause-keeps g c = tt
