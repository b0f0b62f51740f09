-- What is left to show of `take_old`.
use Rattle.std.proofs.Common.{◌≡◌, ◌∙◌, false, List, ℕ, Option, Some, inr, sym, subst, rules}
use Rattle.std.specs.Prelude.{MatchOption}
use Rattle.std.specs.Str.{bytes_eq}
use Rattle.std.proofs.lemmas.Slice.Eq.{bytes_eq-Decides}
use Rattle.choosing.specs.declared.wish.Wish.{Wish}
use Rattle.source.specs.Views.{seen_words}
use Rattle.taketext.specs.Origins.{Tells, TellsNothing}
use Rattle.taketext.specs.Reading.{IsOrigin}
use Rattle.givetext.proofs.call.take_old.Goals as goal

-- what is told where a wish is
told_of : (text path : List ℕ) (r : Option Wish) (w : Wish) → r ≡ Some w → MatchOption r (TellsNothing text) (Tells text path)
    → Tells text path w
told_of text path r w e h = subst (λ (o : Option Wish). MatchOption o (TellsNothing text) (Tells text path)) e h

pub returns-clause-taken : goal.returns-clause-taken
returns-clause-taken g c =
    let same : c.as_slice.result.now ≡ c.args.library.now = search rules in
    record {
      path = c.in-Some.origin.path.now;
      wish = c.in-Some-wish.wish;
      taken = c.in-Ok.ensures.taken;
      text = sym same ∙ c.as_slice.ensures.value ∙ c.in_ok-text.ensures;
    }

pub returns-then-ne-clause-refused : goal.returns-then-ne-clause-refused
returns-then-ne-clause-refused g c =
    let library = c.args.library.now in
    let path = c.in-Some.origin.path.now in
    let w = c.in-Some-wish.wish in
    let origin : IsOrigin library path (seen_words c.in-Some.origin.words.items) = search rules in
    let test : bytes_eq c.as_slice.result.now library ≡ false = search rules in
    inr (
      path,
      w,
      told_of library path c.wish.result w c.in-Some-wish.is (c.wish.ensures library origin),
      inr (record {
        taken = c.in-Ok.taken;
        is_taken = c.in-Ok.ensures.taken;
        other = λ e.
            let is = (bytes_eq-Decides c.as_slice.result.now library).1 (c.as_slice.ensures.value ∙ c.in_ok-text.ensures ∙ sym e) in
            absurd cc;
      }),
    )
