-- What is left to show of `read_comment`.
use Rattle.std.proofs.Common.{◌≡◌, ◌+◌, ◌≤◌, ◌∷◌, ◌++◌, true, false, [], length, codes, rules, arith}
use Rattle.std.specs.Str.{bytes_eq}
use Rattle.mmtext.specs.Views.{seen}
use Rattle.comments.specs.Outside.{tokens_at}
use Rattle.comments.proofs.Passed.{nothing_passed, reads_word, ends_comment}
use Rattle.comments.proofs.WordsRead.{reads_more, stands_behind}
use Rattle.comments.proofs.passing.read_comment.Goals as goal

pub loop-token-init : goal.loop-token-init
loop-token-init c = record {
  within = omega (arith, c.requires);
  later = omega arith;
  so_far = record {
    words = [];
    passing = nothing_passed false (tokens_at c.args.text.now c.args.from) c.args.from;
    reads = c.new-read.ensures.items;
    stands = c.at_first-standing.ensures;
  };
}

pub loop-token-preserved : goal.loop-token-preserved
loop-token-preserved c =
    let cs = c.args.changes.now in
    let text = c.args.text.now in
    let from = c.args.from in
    let at = c.loop-token.at in
    let t = seen c.in-Some.token in
    let end = t.place + length t.text in
    let next = c.in-Some.ensures in
    let h = c.loop-token.invariant.so_far in
    let s = c.loop-token.standing in
    let other : bytes_eq t.text (codes "$)") ≡ false = search rules in
    let le : at ≤ end = omega (arith, next.later) in
    let before : from ≤ at = c.loop-token.invariant.later in record {
      within = next.within;
      later = omega arith;
      so_far = record {
        words = h.words ++ t.text ∷ [];
        passing =
            reads_word (tokens_at text from) (tokens_at text at) (tokens_at text end) at t le next.some
            other h.words h.passing;
        reads =
            reads_more cs h.words t.text s h.stands c.loop-token.read.items c.put_word.new.out.items h.reads c.in_ok-put_word.ensures;
        stands = stands_behind cs h.words t.text s h.stands c.behind-standing.result c.behind-standing.ensures;
      };
    }

pub returns-then-eq : goal.returns-then-eq
returns-then-eq c =
    let text = c.args.text.now in
    let from = c.args.from in
    let at = c.loop-token.at in
    let t = seen c.in-Some.token in
    let end = t.place + length t.text in
    let next = c.in-Some.ensures in
    let h = c.loop-token.invariant.so_far in
    let is : bytes_eq t.text (codes "$)") ≡ true = search rules in
    let le : at ≤ end = omega (arith, next.later) in
    let before : from ≤ at = c.loop-token.invariant.later in record {
      words = h.words;
      closed =
          ends_comment false h.words (tokens_at text from) (tokens_at text at) (tokens_at text end) at t
          le next.some h.passing is;
      reads = h.reads;
      later = omega arith;
      within = next.within;
    }
