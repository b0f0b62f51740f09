-- What is left to show of `trunks_of`.
use Rattle.std.proofs.Common.{[], List, ℕ, take, get_or, sym, subst}
use Rattle.std.specs.Borrow.{Bor}
use Rattle.std.proofs.lemmas.List.{map_more}
use Rattle.mmtext.specs.Words.{Word}
use Rattle.source.specs.Views.{seen_words}
use Rattle.sites.specs.Changes.{HasTrunks}
use Rattle.sites.proofs.Flags.{trunks_more}
use Rattle.sites.proofs.free.trunks_of.Goals as goal

pub loop-label-preserved : goal.loop-label-preserved
loop-label-preserved c =
    let words = c.args.labels.now in
    let i = c.loop-label.label-index in
    let d : Bor (List ℕ) = record { ref_ptr = (0, 0); now = [] } in
    let x : Word = (get_or words i d).now in
    subst (λ (ws : List Word). HasTrunks c.insert.new.self ws)
    (sym (map_more (λ (v : Bor (List ℕ)). v.now) words i d c.loop-label-test.true))
    (trunks_more c.loop-label.trunks c.insert.new.self (seen_words (take i words)) x c.trunk.result.now c.trunk.ensures
    c.in_ok-insert.ensures.updates c.loop-label.invariant)
