use Rattle.std.proofs.Common.{◌≡◌, [], ◌∷◌, ◌++◌, length, map, take, get_or, add-one, sym, ap, ap₂, ◌∙◌, arith}
use Rattle.std.specs.Option.{option_copied}
use Rattle.std.proofs.Math.Seq.{take-length, take-suc}
use Rattle.std.proofs.lemmas.List.{map_push}
use Rattle.stepcheck.proofs.checking.frames_of.Goals as goal

pub loop-label-init : goal.loop-label-init
loop-label-init g c = ap (map option_copied) c.in_ok-found.ensures.items

pub returns : goal.returns
returns g c =
    let labels = c.args.labels.now in
    let end : c.loop-label.label-index ≡ length labels = omega (arith, c.loop-label-test.false, c.loop-label.auto.label-index-end) in
    c.loop-label.invariant ∙ ap (λ k. map (g.F.Frames.frames c.args.frames.now) (take k labels)) end
    ∙ ap (map (g.F.Frames.frames c.args.frames.now)) (take-length labels)

pub loop-label-preserved : goal.loop-label-preserved
loop-label-preserved g c =
    let labels = c.args.labels.now in
    let i = c.loop-label.label-index in
    let lib = g.F.Frames.frames c.args.frames.now in
    ap (map option_copied) c.in_ok-push.ensures.items ∙ map_push option_copied c.loop-label.found.items c.frame.result
    ∙ ap₂ (λ xs x. xs ++ x ∷ []) c.loop-label.invariant (c.frame.ensures ∙ ap lib c.label-item.is)
    ∙ sym (map_push lib (take i labels) (get_or labels i c.label-item.result))
    ∙ ap (map lib) (sym (ap (λ n. take n labels) (add-one i) ∙ take-suc labels i c.label-item.result c.loop-label-test.true))
