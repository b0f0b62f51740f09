-- What is left to show of `numbers`.
use Rattle.std.proofs.Common.{ℕ, List, take}
use Rattle.std.specs.Borrow.{Bor}
use Rattle.std.proofs.lemmas.List.{map_more}
use Rattle.source.specs.Views.{seen_words}
use Rattle.sourceframes.specs.Names.{words_of}
use Rattle.sourceframes.proofs.Numbered.{grows_on, lasts_next}
use Rattle.sourceframes.proofs.table.Table.numbers.Goals as goal

pub loop-word-preserved : goal.loop-word-preserved
loop-word-preserved c =
    let i = c.loop-word.word-index in
    let words = c.args.words.now in
    record {
      sound = c.in_ok-number.ensures.keeps.sound;
      grows = grows_on _ _ _ c.loop-word.invariant.grows c.in_ok-number.ensures.keeps.grows;
      named = lasts_next (λ name. name) (words_of c.loop-word.self) (words_of c.number.new.self) c.loop-word.numbers.items _
          c.in_ok-number.field-0 (seen_words (take i words)) _ _ c.in_ok-number.ensures.keeps.grows c.in_ok-push.ensures.items
          (map_more (λ (w : Bor (List ℕ)). w.now) words i _ c.loop-word-test.true) c.loop-word.invariant.named
          c.in_ok-number.ensures.named;
    }
