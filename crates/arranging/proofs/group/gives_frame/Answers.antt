-- What is left to show of `gives_frame`.
use Rattle.std.proofs.Common.{◌≡◌, ◌∙◌, true, false, codes, sym, ap}
use Rattle.std.specs.Prelude.{◌||◌}
use Rattle.std.specs.Str.{bytes_eq}
use Rattle.mmtext.specs.Views.{seen}
use Rattle.arranging.proofs.Anew.{gives_here}
use Rattle.arranging.proofs.group.gives_frame.Goals as goal

pub returns-then-eq : goal.returns-then-eq
returns-then-eq c = λ x stands holds.
    let one = c.in-Some.ensures in
    let two = c.in-Some-next_token.ensures in
    let first : bytes_eq c.in-Some.first.text.now (codes "$d") ≡ true =
    ap (bytes_eq c.in-Some.first.text.now) (sym c.as_slice.ensures) ∙ (sym c.eq.ensures ∙ c.if-eq.true) in
    gives_here c.args.text.now c.args.from c.args.end x (seen c.in-Some.first) (seen c.in-Some-next_token.second) stands
    (record { next = one.some; later = one.later; within = one.within })
    (record { next = two.some; later = two.later; within = two.within }) c.if-second-end.false
    (ap (λ b. b || bytes_eq c.in-Some-next_token.second.text.now (codes "$e")) first)

pub returns-else-eq : goal.returns-else-eq
returns-else-eq c = λ x stands holds.
    let one = c.in-Some.ensures in
    let two = c.in-Some-next_token.ensures in
    let first : bytes_eq c.in-Some.first.text.now (codes "$d") ≡ false =
    ap (bytes_eq c.in-Some.first.text.now) (sym c.as_slice.ensures) ∙ (sym c.eq.ensures ∙ c.if-eq.false) in
    let second : bytes_eq c.in-Some-next_token.second.text.now (codes "$e") ≡ true =
    ap (bytes_eq c.in-Some-next_token.second.text.now) (sym c.as_slice-else-eq.ensures) ∙ (sym c.eq-else-eq.ensures ∙ holds) in
    gives_here c.args.text.now c.args.from c.args.end x (seen c.in-Some.first) (seen c.in-Some-next_token.second) stands
    (record { next = one.some; later = one.later; within = one.within })
    (record { next = two.some; later = two.later; within = two.within }) c.if-second-end.false
    (ap (λ b. b || bytes_eq c.in-Some-next_token.second.text.now (codes "$e")) first ∙ second)
