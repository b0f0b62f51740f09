-- What is left to show of `take`.
use Rattle.std.proofs.Common.{◌≡◌, true, refl, rules}
use Rattle.std.specs.Prelude.{◌||◌}
use Rattle.comments.specs.Insides.{labels_in, IsGoneLabel}
use Rattle.comments.proofs.Asserted.{leads_inside}
use Rattle.comments.proofs.inside.Inside.take.Goals as goal
use Rattle.comments.proofs.inside.Inside.take.Goals.{
  else-is_mark-via-then-is_mark+else-not-is_gone,
  else-is_mark-via-else-is_mark,
  then-self,
  else-self,
}

pub returns : goal.returns
returns c = λ yes.
    let gone = labels_in c.args.gone.now in
    let old = c.args.self.now in
    let is_mark = c.asserts-is_mark.result in
    let goes : is_mark ≡ true → IsGoneLabel gone old.last = λ is. elim c.else-is_mark.branch [
      | else-is_mark-via-then-is_mark+else-not-is_gone w ↦ w.is_gone.ensures (search rules)
      | else-is_mark-via-else-is_mark w ↦ absurd (cc)
    ] in
    let found : c.if-self.self ≡ (old.found || is_mark) = elim c.if-self.branch [
      | then-self w ↦ search rules
      | else-self w ↦ search rules
    ] in
    leads_inside gone old _ c.args.word is_mark c.in-Some.ensures c.asserts-is_mark.ensures goes refl found
