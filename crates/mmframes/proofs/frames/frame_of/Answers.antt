use Rattle.std.proofs.Common.{◌≡◌, ℕ, Bool, ◌&&◌, refl, ap, ◌∙◌, length, arith}
use Rattle.std.specs.Prelude.{filter}
use Rattle.std.specs.List.{range_with_len}
use Rattle.mmframes.specs.Frames.{is_mandatory}
use Rattle.mmframes.proofs.Mandatory.{has, Rises-from, Rises-filter, below-count}
use Rattle.mmframes.proofs.frames.frame_of.Goals as goal

pub returns : goal.returns
returns c =
    let t = c.args.prelude.now in
    let a = c.args.assertion.now in
    let found = c.in_ok-floats.floats.items in
    let each = c.in_ok-floats.ensures.each in
    let up = Rises-from 0 found (λ lt. omega arith) c.in_ok-floats.ensures.ascend in
    let floats : found ≡ filter (is_mandatory t a) (range_with_len 0 (length t.floats)) =
    Rises-filter (is_mandatory t a) 0 (length t.floats) found up (λ j le. each j)
    (λ j h. let low = below-count j (length t.floats) _ h in omega arith) in
    let same : (λ (j : ℕ). has j found) ≡ is_mandatory t a = λ i. λ j. each j i in
    let pairs = ap (λ (m : ℕ → Bool). filter (λ q. m q.0 && m q.1) a.pairs) same in
    let asked = rw (c.as_slice.ensures.value, c.as_slice-2.ensures) at c.in_ok-pairs.ensures in
    let kept : c.in_ok-pairs.pairs ≡ filter (λ q. is_mandatory t a q.0 && is_mandatory t a q.1) a.pairs = asked ∙ pairs in
    let hyps : c.in_ok-copy_hypotheses.field-0 ≡ a.hyps = c.in_ok-copy_hypotheses.ensures ∙ c.as_slice-3.ensures in
    rw (c.from_vec.ensures, floats, hyps, kept, c.in_ok-copy.ensures) refl
