-- What is left to show of `put_given`.
use Rattle.std.proofs.Common.{◌≡◌, ◌∙◌, ◌++◌, List, map, ap, subst, append_assoc}
use Rattle.mmtext.specs.Text.{Token}
use Rattle.mmtext.specs.Views.{seen}
use Rattle.mmsyntax.specs.Tables.{Tables}
use Rattle.taking.proofs.Turned.{if_ok}
use Rattle.expanding.specs.Views.{IsLaid}
use Rattle.pasting.specs.Views.{given_words, step_of}
use Rattle.pasting.proofs.paster.put_given.Goals as goal

pub returns : goal.returns
returns c =
    let r = c.args.proving.now in
    let front = map seen r.cut.front.now in
    let back = map seen r.cut.back.now in
    let steps = λ (t : Tables). map (step_of t r) c.args.steps.now in
    let t = c.prelude.result.now in
    if_ok c.put_words-2.result
    (λ u h. λ ts is.
    let all : ((ts ++ front) ++ steps t) ++ back ≡ ts ++ given_words c.args.database.now.prelude r c.args.steps.now =
    append_assoc (ts ++ front) (steps t) back
    ∙ append_assoc ts front (steps t ++ back)
    ∙ ap (λ (q : Tables). ts ++ given_words q r c.args.steps.now) c.prelude.ensures in
    subst (λ (us : List Token). IsLaid us c.put_words-2.new.self) all
    (h ((ts ++ front) ++ steps t) (c.in_ok-put_steps.ensures (ts ++ front) (c.in_ok-put_words.ensures.laid ts is))))
    c.put_words-2.ensures.laid
