-- What is left to show of `decode_label`.
use Rattle.std.proofs.Common.{map, ap, ◌∙◌, sym}
use Rattle.std.specs.Prelude.{bit_and}
use Rattle.std.proofs.lemmas.List.{take_all}
use Rattle.bodystore.proofs.Reading.{low_bytes}
use Rattle.bodystore.proofs.decode.decode_label.Goals as goal

pub returns : goal.returns
returns c label all is =
    let i = c.loop-word.word-index in
    let ws = c.args.words.now in
    c.loop-word.invariant ∙ ap (λ xs. map (λ w. bit_and w 255) xs) (take_all i ws c.loop-word-test.false ∙ sym is)
    ∙ low_bytes label all
