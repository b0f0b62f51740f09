-- What is left to show of `is_plain`.
use Rattle.std.proofs.Common.{◌≡◌, ◌∙◌, false, codes, rules, sym, ap}
use Rattle.std.specs.Str.{bytes_eq}
use Rattle.mmtext.specs.Views.{seen}
use Rattle.mmtext.specs.Comments.{words_of}
use Rattle.arranging.specs.Written.{opens_comment}
use Rattle.arranging.proofs.Anew.{opens_later}
use Rattle.arranging.proofs.group.is_plain.Goals as goal

pub loop-token-preserved : goal.loop-token-preserved
loop-token-preserved c =
    let next = c.in-Some.ensures in
    let other : bytes_eq c.in-Some.token.text.now (codes "$(") ≡ false = search rules in
    record {
      within = next.within;
      so_far = opens_later c.args.text.now c.loop-token.at (seen c.in-Some.token) _ next.some other ∙ c.loop-token.invariant.so_far;
    }

pub returns : goal.returns
returns c = λ _. sym c.loop-token.invariant.so_far ∙ ap (λ ts. opens_comment (words_of ts)) c.in_default.ensures.none
