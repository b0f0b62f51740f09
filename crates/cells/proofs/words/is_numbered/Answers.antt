use Rattle.std.proofs.Common.{◌≡◌, ℕ, ◌+◌, ◌-◌, [], get_or, take, drop, length, ap, sym, ◌∙◌, inl, inr, arith, below_more}
use Rattle.std.specs.Prelude.{is_some}
use Rattle.std.proofs.Math.ListN.{set}
use Rattle.std.proofs.lemmas.Grind.{same_number_lists}
use Rattle.std.proofs.lemmas.List.{get_or-take, get_or-drop, get_or-set_same, get_or-set_other, length-set, length-take-le, length-drop}
use Rattle.std.proofs.lemmas.Option.{get_or_from_slice_get}
use Rattle.mmsyntax.specs.Dotted.{hypothesis_numbered}
use Rattle.cells.proofs.Sights.{looks_trans}
use Rattle.cells.proofs.Asking.{nothing_trans}
use Rattle.cells.proofs.Bodies.{knows_later}
use Rattle.cells.proofs.DottedTails.{not_tail, tail_length, tail_bytes}
use Rattle.cells.proofs.words.is_numbered.Goals as goal

pub returns-then-count-lt-SHORTEST_TAIL-clause-same : goal.returns-then-count-lt-SHORTEST_TAIL-clause-same
returns-then-count-lt-SHORTEST_TAIL-clause-same g c = λ words k.
    let len = k.len in
    let tail = drop c.args.front words in
    let behind = length-drop c.args.front words in
    not_tail tail (λ t.
    let long = tail_length tail t in
    elim c.then-count-lt-SHORTEST_TAIL.either [
      | inl few ↦ omega (arith, long.0, few, behind, len)
      | inr many ↦ omega (arith, long.1, many.1, behind, len)
    ])

pub load-word-requires : goal.load-word-requires
load-word-requires g c =
    let looks = c.loop-index.invariant.0 in
    (c.requires.known.0, knows_later _ _ _ _ looks.onward c.requires.known.1, omega arith)

pub returns-then-word-gt255-clause-looks : goal.returns-then-word-gt255-clause-looks
returns-then-word-gt255-clause-looks g c = looks_trans _ _ _ c.loop-index.invariant.0 c.load-word.ensures.looks

pub returns-then-word-gt255-clause-reads : goal.returns-then-word-gt255-clause-reads
returns-then-word-gt255-clause-reads g c = nothing_trans c.loop-index.invariant.3 c.load-word.ensures.reads

pub returns-then-word-gt255-clause-same : goal.returns-then-word-gt255-clause-same
returns-then-word-gt255-clause-same g c = λ words k.
    let looks = c.loop-index.invariant.0 in
    let front = c.args.front in
    let i = c.loop-index.index in
    let word = get_or_from_slice_get words (front + i) c.load-word.result 0
    (c.load-word.ensures.word words (knows_later _ _ _ _ looks.onward k)) in
    let behind = get_or-drop front words i 0 in
    not_tail (drop front words) (λ t. let small = tail_bytes (drop front words) i t in omega arith)

pub loop-index-preserved : goal.loop-index-preserved
loop-index-preserved g c =
    let looks = c.loop-index.invariant.0 in
    let i = c.loop-index.index in
    let tail = c.loop-index.tail in
    let front = c.args.front in
    let room : length tail ≡ 5 = c.loop-index.invariant.1 in
    let x = c.load-word.result in (
      looks_trans _ _ _ looks c.load-word.ensures.looks,
      length-set tail i x ∙ room,
      λ j words below k.
          let word = get_or_from_slice_get words (front + i) x 0 (c.load-word.ensures.word words (knows_later _ _ _ _ looks.onward k)) in
          let here = get_or-set_same tail i x 0 (omega arith) in
          below_more (λ (n : ℕ). get_or (set tail i x) n 0 ≡ get_or words (front + n) 0) _
          (λ n l. get_or-set_other tail i n x 0 (omega arith) ∙ c.loop-index.invariant.2 n words l k) (here ∙ sym word) j below,
      nothing_trans c.loop-index.invariant.3 c.load-word.ensures.reads,
    )

pub returns-clause-same : goal.returns-clause-same
returns-clause-same g c = λ words k.
    let len = k.len in
    let front = c.args.front in
    let count = c.args.range.len - front in
    let tail = c.loop-index.tail in
    let room : length tail ≡ 5 = c.loop-index.invariant.1 in
    let behind = length-drop front words in
    let long = length-take-le count tail (omega arith) in
    let same : take count tail ≡ drop front words =
    same_number_lists (take count tail) (drop front words) (omega arith)
    (λ j l.
    get_or-take count tail j 0 (omega arith) ∙ c.loop-index.invariant.2 j words (omega arith) k ∙ sym (get_or-drop front words j 0)) in
    c.is_some.ensures ∙ ap is_some (c.hypothesis_number.ensures ∙ ap (hypothesis_numbered []) same)
