-- What is left to show of `variables_changing`.
use Rattle.std.proofs.Common.{◌≡◌, ◌∙◌, ◌<◌, ◌-◌, [], List, ℕ, suc, get_or, length, refl, ap, arith}
use Rattle.std.specs.Prelude.{◌||◌, reverse}
use Rattle.std.specs.Borrow.{Bor}
use Rattle.mmtext.specs.Words.{Word, has_hypothesis_form}
use Rattle.sites.proofs.Flags.{variable_more, later_more}
use Rattle.sites.proofs.changes.variables_changing.Goals as goal

pub loop-place-preserved : goal.loop-place-preserved
loop-place-preserved c =
    let words = c.args.words.now in
    let left : ℕ = c.loop-place.place - 1 in
    let d : Bor (List ℕ) = record { ref_ptr = (0, 0); now = [] } in
    let x : Word = (get_or words left d).now in
    let within : left < length words = omega arith in
    let next : c.loop-place.place ≡ suc left = omega arith in
    let flag = c.is_variable_changing.result in
    record {
      flags =
          ap reverse c.in_ok-push.ensures.items
          ∙ variable_more words left c.loop-place.place d within next c.loop-place.changes.items c.loop-place.invariant.flags flag
          (c.is_variable_changing.ensures ∙ ap (λ b. has_hypothesis_form x || b) (c.loop-place.invariant.words_are x));
      words_are = later_more words left c.loop-place.place d within next c.loop-place.later c.insert.new.self x refl
          c.in_ok-insert.ensures.updates c.loop-place.invariant.words_are;
    }
