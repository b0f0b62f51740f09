-- What is left to show of `take_byte`.
use Rattle.std.proofs.Common.{refl, sym, ◌∙◌}
use Rattle.std.proofs.lemmas.Result.{MatchResult-weaker}
use Rattle.source.proofs.CountedLetters.{letter_refused, letter_fronted, letter_ended}
use Rattle.source.proofs.entries.Entries.take_byte.Goals as goal

pub returns-in_default : goal.returns-in_default
returns-in_default c =
    λ earlier active labels letters counted e. (
      letter_refused earlier active labels letters c.args.byte c.args.self.now counted
          (sym c.in_default.is ∙ c.take_letter.ensures),
      λ w. absurd cc,
    )

pub returns-in-Some-said : goal.returns-in-Some-said
returns-in-Some-said c =
    MatchResult-weaker c.take_code.result c.take_code.ensures
    (λ goes step earlier active labels letters counted e.
    letter_ended earlier active labels letters c.args.byte c.args.self.now counted c.in-Some.turn c.in-Some-said.code _
    c.take_code.new.self goes (sym c.in-Some.is ∙ c.take_letter.ensures) c.in-Some-said.is refl (step earlier active labels e))
    (λ _ full. full)

pub returns-in-None : goal.returns-in-None
returns-in-None c =
    λ earlier active labels letters counted e.
    let after = letter_fronted earlier active labels letters c.args.byte c.args.self.now counted c.in-Some.turn _
    (sym c.in-Some.is ∙ c.take_letter.ensures) c.in-None.is refl in
    (after.0, λ _. after.1)
