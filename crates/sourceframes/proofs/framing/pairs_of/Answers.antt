-- What is left to show of `pairs_of`.
use Rattle.std.proofs.Common.{◌≡◌, ℕ, List, [], ◌∷◌, map, filter, ap, sym, ◌∙◌}
use Rattle.std.specs.Borrow.{Bor}
use Rattle.std.proofs.lemmas.List.{map-append}
use Rattle.source.specs.Scopes.{Pair}
use Rattle.source.specs.Views.{seen_words, seen_pairs}
use Rattle.sourceframes.specs.Names.{words_of}
use Rattle.sourceframes.specs.Frames.{is_kept, parts_in, parts_of}
use Rattle.sourceframes.proofs.Numbered.{grows_on, lasts_on, lasts_next}
use Rattle.sourceframes.proofs.Framed.{kept_push, passed_push}
use Rattle.sourceframes.proofs.framing.pairs_of.Goals as goal

pub loop-pair-preserved-in_ok-push : goal.loop-pair-preserved-in_ok-push
loop-pair-preserved-in_ok-push c =
    let now = words_of c.loop-pair.table in
    let then = words_of c.is_kept.new.table in
    let near = c.in_ok-is_kept.ensures.keeps.grows in
    record {
      sound = c.in_ok-pair_of.ensures.keeps.sound;
      grows = grows_on _ _ _ (grows_on _ _ _ c.loop-pair.invariant.grows near) c.in_ok-pair_of.ensures.keeps.grows;
      made = λ hs is.
          let done = c.loop-pair.yielded in
          let test = is_kept (seen_words c.args.mentioned.now) in
          let pair = c.in-Some.pair in
          let seen : Pair = (pair.0.now, pair.1.now) in
          let before = map (parts_in hs) (filter test (seen_pairs done)) in
          lasts_next parts_of then (words_of c.pair_of.new.table) c.loop-pair.kept.items _ c.in_ok-pair_of.field-0 before _ _
          c.in_ok-pair_of.ensures.keeps.grows c.in_ok-push.ensures.items
          (ap (λ ps. map (parts_in hs) (filter test ps)) (map-append {B = Pair} (λ (p : Bor (List ℕ) × Bor (List ℕ)). (p.0.now, p.1.now))
          done (pair ∷ []))
          ∙ ap (map (parts_in hs)) (kept_push test (seen_pairs done) seen (sym c.in_ok-is_kept.ensures.kept ∙ c.if-branch.true))
          ∙ map-append (parts_in hs) (filter test (seen_pairs done)) (seen ∷ []))
          (lasts_on now then (λ name. map (parts_of name) c.loop-pair.kept.items ≡ before) near (c.loop-pair.invariant.made hs is))
          (c.in_ok-pair_of.ensures.made hs is);
    }

pub loop-pair-preserved : goal.loop-pair-preserved
loop-pair-preserved c =
    let near = c.in_ok-is_kept.ensures.keeps.grows in
    record {
      sound = c.in_ok-is_kept.ensures.keeps.sound;
      grows = grows_on _ _ _ c.loop-pair.invariant.grows near;
      made = λ hs is more.
          let done = c.loop-pair.yielded in
          let test = is_kept (seen_words c.args.mentioned.now) in
          let pair = c.in-Some.pair in
          let seen : Pair = (pair.0.now, pair.1.now) in
          lasts_on (words_of c.loop-pair.table) (words_of c.is_kept.new.table)
          (λ name. map (parts_of name) c.loop-pair.kept.items ≡ map (parts_in hs) (filter test (seen_pairs done))) near
          (c.loop-pair.invariant.made hs is) more
          ∙ sym (ap (λ ps. map (parts_in hs) (filter test ps))
          (map-append {B = Pair} (λ (p : Bor (List ℕ) × Bor (List ℕ)). (p.0.now, p.1.now)) done (pair ∷ []))
          ∙ ap (map (parts_in hs)) (passed_push test (seen_pairs done) seen (sym c.in_ok-is_kept.ensures.kept ∙ c.if-branch.false)));
    }

pub is_kept-requires-clause-numbers : goal.is_kept-requires-clause-numbers
is_kept-requires-clause-numbers c =
    lasts_on (words_of c.marked_of.new.table) (words_of c.loop-pair.table)
    (λ name. map name c.in_ok-numbers.numbers ≡ seen_words c.args.mentioned.now) c.loop-pair.invariant.grows c.in_ok-numbers.ensures.numbers

pub returns-clause-keeps : goal.returns-clause-keeps
returns-clause-keeps c =
    record {
      sound = c.loop-pair.invariant.sound;
      grows = grows_on _ _ _ c.in_ok-numbers.ensures.keeps.grows c.loop-pair.invariant.grows;
    }
