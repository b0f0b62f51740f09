use Rattle.std.proofs.Common.{◌≡◌, ℕ, length, take, ap, sym, ◌∙◌, arith}
use Rattle.std.proofs.Math.Seq.{take-length}
use Rattle.cells.proofs.words.has_words.Goals as goal

pub returns-clause-same : goal.returns-clause-same
returns-clause-same g c = λ words k.
    let len = k.len in
    let text = c.args.text.now in
    let same : length text ≡ length words = omega arith in
    let whole : take (length text) words ≡ words = ap (λ (n : ℕ). take n words) same ∙ take-length words in
    let iff = c.begins_with.ensures.same words k in
    (λ yes. sym whole ∙ iff.0 yes, λ e. iff.1 (whole ∙ e))
