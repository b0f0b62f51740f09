-- What is left to show of `barred_among`.
use Rattle.std.proofs.Common.{◌≡◌, ◌∙◌, [], None, get_or, map, take, sym, ap, subst}
use Rattle.std.specs.Option.{option_map}
use Rattle.std.specs.Prelude.{filter_map}
use Rattle.std.proofs.lemmas.List.{map_more}
use Rattle.mmtext.specs.declared.token.Token.{Token as CodeToken}
use Rattle.expanding.specs.Bars.{seen_bar}
use Rattle.expanding.specs.Watches.{seen_barred, first_barred}
use Rattle.expanding.specs.declared.bars.Bar.{Bar as CodeBar}
use Rattle.expanding.proofs.Gathered.{gathered_some, gathered_none, no_view}
use Rattle.expanding.proofs.barred.Watch.barred_among.Goals as goal
use Rattle.expanding.proofs.barred.Watch.barred_among.Goals.{in-Some+in_ok-push, in_default}

pub loop-bar-preserved : goal.loop-bar-preserved
loop-bar-preserved g c = λ asked cs watch.
    let s = g.D.Declared.scope c.args.declared.now in
    let bars = c.as_slice-bar-items.result.now in
    let i = c.loop-bar.bar-index in
    let t : CodeToken = record { place = 0; text = record { ref_ptr = (0, 0); now = [] } } in
    let d : CodeBar = record { script = 0; label = t; reach = None } in
    let f = first_barred s asked cs c.args.places.now in
    let front = map seen_bar (take i bars) in
    let x = seen_bar (get_or bars i d) in
    let more = map_more seen_bar bars i d c.loop-bar-test.true in
    let so_far = c.loop-bar.invariant asked cs watch in
    let is = c.first_barred.ensures asked cs watch in
    elim c.match-first_barred.branch [
      | in-Some+in_ok-push w ↦
          ap (λ v. map seen_barred v.items) w.all-is
          ∙ (ap (map seen_barred) w.in_ok-push.ensures.items
          ∙ (gathered_some seen_barred f front x c.loop-bar.all.items _ so_far
          (subst (λ o. o ≡ f x) (ap (λ r. option_map seen_barred r) w.in-Some.is) is)
          ∙ ap (filter_map f) (sym more)))
      | in_default w ↦
          ap (λ v. map seen_barred v.items) w.all-is
          ∙ (gathered_none seen_barred f front x c.loop-bar.all.items so_far
          (no_view seen_barred c.first_barred.result w.in_default.not-Some ∙ is)
          ∙ ap (filter_map f) (sym more))
    ]
