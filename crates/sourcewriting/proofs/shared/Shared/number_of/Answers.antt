-- What is left to show of `number_of`.
use Rattle.std.proofs.Common.{◌≡◌, ◌∙◌, ℕ, Some, length, refl, sym, subst}
use Rattle.std.specs.Str.{bytes_eq}
use Rattle.std.specs.HashMap as hash
use Rattle.sourcewriting.specs.declared.shared.CountedLabel.{CountedLabel}
use Rattle.sourcewriting.specs.declared.shared.Shared.{Shared}
use Rattle.sourcewriting.specs.Nodes.{IsNumbered}
use Rattle.sourcewriting.proofs.Nodes.{number_there, number_more, number_put}
use Rattle.sourcewriting.proofs.shared.Shared.number_of.Goals as goal

pub returns-in-Some-clause-numbered : goal.returns-in-Some-clause-numbered
returns-in-Some-clause-numbered c = λ alike sound.
    (sound, number_there c.args.self.now c.args.label.now c.args.takes c.in-Some.number.now alike sound (sym c.in-Some.ensures.value))

pub returns-clause-numbered : goal.returns-clause-numbered
returns-clause-numbered c = λ alike sound.
    let s = c.args.self.now in
    let t : Shared = record {
      words = c.push.new.self;
      numbers = c.insert.new.self;
      nodes = s.nodes;
      arguments = s.arguments;
      places = s.places;
    } in
    let label : CountedLabel = record { label = c.args.label; takes = c.args.takes } in
    let many : c.len-number.result ≡ length s.words.items = c.len-number.ensures ∙ s.words.ok.0 in
    let updates = subst
    (λ (n : ℕ). hash.UpdatesBy (λ x y. bytes_eq x.now y.now) (λ k. bytes_eq c.args.label.now k.now) s.numbers c.insert.new.self (Some n))
    many c.in_ok-insert.ensures.updates in
    let words = c.in_ok-push.ensures.items in
    let absent = sym c.in_default.ensures.value in (
      number_more s t label sound refl refl refl words absent updates,
      subst (λ (n : ℕ). IsNumbered t c.args.label.now c.args.takes n) (sym many)
          (number_put s t label sound refl refl refl words absent updates),
    )
