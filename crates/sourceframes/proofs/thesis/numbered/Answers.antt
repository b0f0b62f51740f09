-- What is left to show of `numbered`.
use Rattle.std.proofs.Common.{ℕ, List, [], ◌∷◌}
use Rattle.std.specs.Borrow.{Bor}
use Rattle.std.proofs.lemmas.List.{map-append}
use Rattle.source.specs.Scopes.{Pair}
use Rattle.source.specs.Views.{seen_pairs}
use Rattle.sourceframes.specs.Names.{words_of}
use Rattle.sourceframes.specs.Frames.{names_of}
use Rattle.sourceframes.proofs.Numbered.{grows_on, lasts_next}
use Rattle.sourceframes.proofs.thesis.numbered.Goals as goal

pub loop-pair-preserved : goal.loop-pair-preserved
loop-pair-preserved c =
    let done = c.loop-pair.yielded in
    let pair = c.in-Some.pair in
    record {
      sound = c.in_ok-numbers_of.ensures.keeps.sound;
      grows = grows_on _ _ _ c.loop-pair.invariant.grows c.in_ok-numbers_of.ensures.keeps.grows;
      made = lasts_next names_of (words_of c.loop-pair.table) (words_of c.numbers_of.new.table) c.loop-pair.numbered.items _
          c.in_ok-numbers_of.field-0 (seen_pairs done) _ (pair.0.now, pair.1.now) c.in_ok-numbers_of.ensures.keeps.grows
          c.in_ok-push.ensures.items
          (map-append {B = Pair} (λ (p : Bor (List ℕ) × Bor (List ℕ)). (p.0.now, p.1.now)) done (pair ∷ []))
          c.loop-pair.invariant.made c.in_ok-numbers_of.ensures.made;
    }
