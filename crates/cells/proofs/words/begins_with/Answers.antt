use Rattle.std.proofs.Common.{◌≡◌, ℕ, List, get_or, take, length, ap, sym, arith, ◌∙◌, refl, below_more}
use Rattle.std.proofs.lemmas.Grind.{same_number_lists}
use Rattle.std.proofs.lemmas.List.{get_or-take, length-take-le}
use Rattle.std.proofs.lemmas.Option.{get_or_from_slice_get}
use Rattle.cells.proofs.Sights.{looks_trans}
use Rattle.cells.proofs.Asking.{nothing_trans}
use Rattle.cells.proofs.Bodies.{knows_later}
use Rattle.cells.proofs.words.begins_with.Goals as goal

pub load-requires : goal.load-requires
load-requires g c =
    let looks = c.loop-index.invariant.0 in
    (c.requires.known.0, knows_later _ _ _ _ looks.onward c.requires.known.1, omega arith)

pub returns-then-load-byte-clause-looks : goal.returns-then-load-byte-clause-looks
returns-then-load-byte-clause-looks g c = looks_trans _ _ _ c.loop-index.invariant.0 c.load.ensures.looks

pub returns-then-load-byte-clause-reads : goal.returns-then-load-byte-clause-reads
returns-then-load-byte-clause-reads g c = nothing_trans c.loop-index.invariant.2 c.load.ensures.reads

pub returns-then-load-byte-clause-same : goal.returns-then-load-byte-clause-same
returns-then-load-byte-clause-same g c = λ words k.
    let looks = c.loop-index.invariant.0 in
    let i = c.loop-index.index in
    let word = get_or_from_slice_get words i c.load.result 0 (c.load.ensures.word words (knows_later _ _ _ _ looks.onward k)) in
    let text = c.args.text.now in
    let front = get_or-take (length text) words i 0 (omega arith) in
    (λ wrong. absurd cc, λ e. absurd (c.if-load-byte.true (sym word ∙ sym front ∙ ap (λ (xs : List ℕ). get_or xs i 0) e)))

pub loop-index-preserved : goal.loop-index-preserved
loop-index-preserved g c =
    let looks = c.loop-index.invariant.0 in
    let i = c.loop-index.index in (
      looks_trans _ _ _ looks c.load.ensures.looks,
      λ j words below k.
          let word = get_or_from_slice_get words i c.load.result 0 (c.load.ensures.word words (knows_later _ _ _ _ looks.onward k)) in
          below_more (λ (n : ℕ). get_or words n 0 ≡ get_or c.args.text.now n 0) _ (λ n l. c.loop-index.invariant.1 n words l k) (word
          ∙ c.if-load-byte.false) j below,
      nothing_trans c.loop-index.invariant.2 c.load.ensures.reads,
    )

pub returns-clause-same : goal.returns-clause-same
returns-clause-same g c = λ words k.
    let len = k.len in
    let text = c.args.text.now in
    let long = length-take-le (length text) words (omega arith) in (
      λ yes. same_number_lists (take (length text) words) text long
          (λ j l. get_or-take (length text) words j 0 (omega arith) ∙ c.loop-index.invariant.1 j words (omega arith) k),
      λ e. refl,
    )
