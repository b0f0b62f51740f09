-- What is left to show of `take_label`.
use Rattle.std.proofs.Common.{List, map, take, Some, sym, ap, ◌∙◌}
use Rattle.std.specs.Prelude.{find}
use Rattle.std.specs.Str.{bytes_eq}
use Rattle.source.specs.declared.contents.HypothesisWords.{HypothesisWords}
use Rattle.source.specs.Scopes.{label_of}
use Rattle.source.specs.Views.{seen_words, seen_hypothesis}
use Rattle.explaining.specs.Shown.{seen_assertion, seen_stack}
use Rattle.explaining.proofs.Stepped.{says}
use Rattle.explaining.proofs.stepping.take_label.Goals as goal

pub returns-in_ok-push-in-Some : goal.returns-in_ok-push-in-Some
returns-in_ok-push-in-Some g c =
    let w = c.args.label.now in
    let said = rw c.in-Some.is at c.in_ok-said_under.ensures in
    let under = λ (hs : List HypothesisWords). find (λ h. bytes_eq w (label_of h)) (map seen_hypothesis hs) in
    says (take c.args.place (g.D.Declared.scope c.args.declared.now).assertions) (seen_assertion c.args.theorem.now) w
    (seen_stack c.args.stack.now) said.0 (seen_words c.in-Some.said.items) (ap under (sym c.as_slice.ensures.value) ∙ said.1) said.2
    ∙ ap (λ s. Some s) (sym c.in_ok-push-in-Some.ensures)
