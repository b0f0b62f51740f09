-- What is left to show of `pieces_of`.
use Rattle.std.proofs.Common.{◌≡◌, ℕ, List, [], ◌∷◌, map, take, ap, subst, ◌∙◌}
use Rattle.std.specs.Borrow.{Bor}
use Rattle.std.proofs.lemmas.List.{map_more, map-append, take_all}
use Rattle.source.specs.Views.{seen_words}
use Rattle.sourceframes.specs.Names.{words_of, Lasts}
use Rattle.sourceframes.specs.Frames.{part_in, part_of}
use Rattle.sourceframes.proofs.Numbered.{grows_on, lasts_next}
use Rattle.sourceframes.proofs.framing.pieces_of.Goals as goal

pub loop-word-preserved : goal.loop-word-preserved
loop-word-preserved c = record {
  sound = c.in_ok-piece_of.ensures.keeps.sound;
  grows = grows_on _ _ _ c.loop-word.invariant.grows c.in_ok-piece_of.ensures.keeps.grows;
  made = λ hs is.
      let words = c.args.words.now in
      let i = c.loop-word.word-index in
      lasts_next part_of (words_of c.loop-word.table) (words_of c.piece_of.new.table) c.loop-word.pieces.items _ c.in_ok-piece_of.field-0
      (map (part_in hs) (seen_words (take i words))) _ _ c.in_ok-piece_of.ensures.keeps.grows c.in_ok-push.ensures.items
      (ap (map (part_in hs)) (map_more (λ (w : Bor (List ℕ)). w.now) words i _ c.loop-word-test.true)
      ∙ map-append (part_in hs) (seen_words (take i words)) (_ ∷ []))
      (c.loop-word.invariant.made hs is) (c.in_ok-piece_of.ensures.made hs is);
}

pub returns-clause-made : goal.returns-clause-made
returns-clause-made c = λ hs is.
    subst (λ ws. Lasts (words_of c.loop-word.table) (λ name. map (part_of name) c.loop-word.pieces.items ≡ map (part_in hs)
    (seen_words ws)))
    (take_all c.loop-word.word-index c.args.words.now c.loop-word-test.false) (c.loop-word.invariant.made hs is)
