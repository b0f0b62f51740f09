use Rattle.std.proofs.Common.{◌≡◌, ◌++◌, ◌∷◌, suc, min, length, Bool, true, false, not, IsFalse, refl, sym, ◌∙◌, codes, if◌then◌else◌}
use Rattle.std.specs.Prelude.{IfSome}
use Rattle.std.specs.Bool.{then_some}
use Rattle.std.proofs.lemmas.Result.{IfOk-weaker}
use Rattle.sourcewriting.specs.Laid.{IsWhole, IsLaidOutAs}
use Rattle.sourcewriting.proofs.Laying.{finished}
use Rattle.sourcewriting.proofs.layout.Layout.finish.Goals as goal

at_some : {A : Type 0} (b : Bool) (v : A) (P : A → Type 0) → (b ≡ false → P v) → IfSome (then_some (not b) v) P
at_some true v P h = tt
at_some false v P h = h refl

pub returns-clause-laid : goal.returns-clause-laid
returns-clause-laid c = λ i ws has.
    let l = c.args.self in
    let m = c.put_space.new.self in
    let fits = c.has_room-begins_line.result in
    let told : IsFalse m.is_cut_off → IsFalse m.is_refused → IsWhole l × IsLaidOutAs i ws m.text.items = λ whole right.
    let spaced = c.put_space.ensures.whole whole in
    let sound = sym c.put_space.ensures.refused ∙ right in
    let was = has spaced.0 sound in
    let said : m.text.items ≡ l.text.items ++ (if not fits then 10 ∷ i else codes " ") = cc (spaced.1, was.0) in
    let begins : min m.column 79 ≡ min (if not fits then length i else suc l.column) 79 = cc (c.put_space.ensures.column, was.0) in (
      (spaced.0, sound),
      finished i ws l.text.items m.text.items l.column m.column fits was.1 c.has_room-begins_line.ensures said begins,
    ) in
    IfOk-weaker
    c.into_text.result
    (λ made. IsFalse m.is_cut_off × (made ≡ then_some (not m.is_refused) m.text))
    (λ made. IfSome made (λ text. IsWhole l × IsLaidOutAs i ws text.items))
    (λ made is. rw is.1 (at_some m.is_refused m.text (λ text. IsWhole l × IsLaidOutAs i ws text.items) (told is.0)))
    c.into_text.ensures
