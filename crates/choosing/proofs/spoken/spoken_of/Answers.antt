-- What is left to show of `spoken_of`.
use Rattle.std.proofs.Common.{◌∙◌, false, sym, ap, length, refl}
use Rattle.std.specs.Prelude.{◌||◌}
use Rattle.std.proofs.lemmas.List.{with_items_is, length-replicate}
use Rattle.source.specs.Scopes.{is_in}
use Rattle.source.specs.Views.{seen_words}
use Rattle.choosing.specs.Marks.{AreMarked}
use Rattle.choosing.proofs.Marked.{marks_agree}
use Rattle.choosing.proofs.Going.{unmarked_all}
use Rattle.choosing.proofs.Speaking.{or_nothing}
use Rattle.choosing.proofs.spoken.spoken_of.Goals as goal

pub mark_spoken-requires : goal.mark_spoken-requires
mark_spoken-requires g c =
    let made = c.in_ok-marks.ensures.items_if_clones_equal (λ y e. e) in
    λ k. (
      (refl, tt),
      (
        c.requires,
        ap length (c.deref_mut.ensures.value ∙ made) ∙ length-replicate c.assertions.result _ ∙ c.assertions.ensures,
      ),
    )

pub returns : goal.returns
returns g c =
    let xs = (g.D.Declared.scope c.args.declared.now).assertions in
    let ws = seen_words c.args.words.now in
    let made = c.in_ok-marks.ensures.items_if_clones_equal (λ y e. e) in
    let none : AreMarked xs (λ w. false) c.deref_mut.result.now =
    unmarked_all xs c.assertions.result c.assertions.ensures ∙ sym (c.deref_mut.ensures.value ∙ made) in
    marks_agree xs (λ v. is_in ws v || false) (is_in ws) c.mark_spoken.new.marks (λ v. or_nothing (is_in ws v))
    (c.mark_spoken.ensures (λ w. false) none)
    ∙ sym (with_items_is c.in_ok-marks.marks c.mark_spoken.new.marks (c.mark_spoken.auto.marks ∙ c.deref_mut.ensures.len))
