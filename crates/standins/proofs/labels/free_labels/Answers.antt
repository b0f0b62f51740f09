-- What is left to show of `free_labels`: a candidate more, and that enough were tried.
use Rattle.std.proofs.Common.{◌≡◌, ◌∙◌, ◌++◌, ◌∷◌, [], Bool, length, sym, ap, arith}
use Rattle.std.specs.Prelude.{is_some}
use Rattle.std.specs.Str.{bytes_eq}
use Rattle.std.proofs.lemmas.List.{length_push}
use mathlib.Core.Bool.{not}
use Rattle.mmtext.specs.Words.{Word}
use Rattle.mmsyntax.proofs.Distinct.{is_some-place_of}
use Rattle.source.specs.Scopes.{is_in}
use Rattle.standins.specs.StandIns.{candidate, most_candidates}
use Rattle.standins.proofs.Candidates.{most_is, enough, too_few, passes_next, fails_next}
use Rattle.standins.proofs.labels.free_labels.Goals as goal
use Rattle.standins.proofs.labels.free_labels.Goals.{then-is_none+in_ok-push, else-is_none}

pub returns-then-len-count : goal.returns-then-len-count
returns-then-len-count c =
    let free : Word → Bool = λ w. not (is_in c.args.words.now w) in
    let made = c.loop-number.made in
    let inv = c.loop-number.invariant in
    let long : length made.items ≡ c.args.count = omega (arith, c.len.ensures, made.ok, inv.few, c.if-len-count.true) in
    enough free candidate c.loop-number.number most_candidates c.args.count made.items (omega (arith, most_is, c.loop-number-test.true))
    inv.so_far long

pub loop-number-preserved : goal.loop-number-preserved
loop-number-preserved c =
    let free : Word → Bool = λ w. not (is_in c.args.words.now w) in
    let n = c.loop-number.number in
    let made = c.loop-number.made in
    let inv = c.loop-number.invariant in
    let words = c.args.words.now in
    let found : is_some c.place.result ≡ is_in words (candidate n) =
    ap is_some c.place.ensures.place
    ∙ is_some-place_of (bytes_eq c.as_slice.result.now) words
    ∙ ap (is_in words) (c.as_slice.ensures ∙ c.in_ok-label.ensures) in
    elim c.if-is_none.branch [
      | then-is_none+in_ok-push w ↦
          let is : c.if-is_none.made.items ≡ made.items ++ candidate n ∷ [] =
          ap (λ v. v.items) w.made-is
          ∙ w.in_ok-push.ensures.items
          ∙ ap (λ (l : Word). made.items ++ l ∷ []) c.in_ok-label.ensures in
          record {
            so_far = passes_next free candidate n made.items c.if-is_none.made.items (ap not (sym found ∙ w.if-is_none.ensures))
                inv.so_far is;
            few = omega (arith, ap length is, length_push made.items (candidate n), c.len.ensures, made.ok, c.if-len-count.false);
          }
      | else-is_none w ↦
          let is : c.if-is_none.made.items ≡ made.items = ap (λ v. v.items) w.made-is in
          record {
            so_far = is ∙ fails_next free candidate n made.items (ap not (sym found ∙ w.if-is_none.ensures)) inv.so_far;
            few = omega (arith, ap length is, inv.few);
          }
    ]

pub returns : goal.returns
returns c =
    let free : Word → Bool = λ w. not (is_in c.args.words.now w) in
    let made = c.loop-number.made in
    let inv = c.loop-number.invariant in
    too_few free candidate c.loop-number.number most_candidates c.args.count made.items
    (omega (arith, most_is, c.loop-number-test.false)) inv.so_far inv.few
