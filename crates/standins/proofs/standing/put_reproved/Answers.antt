-- What is left to show of `put_reproved`: a command more.
use Rattle.std.proofs.Common.{◌∙◌, ◌∷◌, [], ℕ, List, Some, None, sym, ap, Bor, Vec, Global, append-nil}
use Rattle.std.specs.Option.{option_map}
use Rattle.std.proofs.lemmas.List.{map-append}
use Rattle.source.specs.Views.{seen_words}
use Rattle.standins.specs.StandIns.{reproved_by}
use Rattle.standins.proofs.Gathered.{given_behind}
use Rattle.standins.proofs.standing.put_reproved.Goals as goal
use Rattle.standins.proofs.standing.put_reproved.Goals.{in-Some+in_ok-push, in_default}

pub loop-command-preserved : goal.loop-command-preserved
loop-command-preserved c =
    let commands = c.args.commands.now in
    let i = c.loop-command.command-index in
    let base = seen_words c.args.labels.now.items in
    let before = c.loop-command.labels.items in
    let seen_in = λ (v : Vec (Bor (List ℕ)) Global). seen_words v.items in
    elim c.match-reproved_by.branch [
      | in-Some+in_ok-push w ↦
          given_behind reproved_by base (seen_words before) (seen_words c.match-reproved_by.labels.items) commands i c.command-item.result
          (Some w.in-Some.label.now) c.loop-command-test.true
          (sym (ap (option_map (λ (x : Bor (List ℕ)). x.now)) w.in-Some.is) ∙ c.reproved_by.ensures ∙ ap reproved_by c.command-item.is)
          c.loop-command.invariant
          (ap seen_in w.labels-is ∙ ap seen_words w.in_ok-push.ensures.items
          ∙ map-append (λ (x : Bor (List ℕ)). x.now) before (w.in-Some.label ∷ []))
      | in_default w ↦
          given_behind reproved_by base (seen_words before) (seen_words c.match-reproved_by.labels.items) commands i c.command-item.result
          None c.loop-command-test.true
          (sym (ap (option_map (λ (x : Bor (List ℕ)). x.now)) w.in_default.is) ∙ c.reproved_by.ensures ∙ ap reproved_by c.command-item.is)
          c.loop-command.invariant
          (ap seen_in w.labels-is ∙ sym (append-nil (seen_words before)))
    ]
