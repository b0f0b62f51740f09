-- What is left to show of `put_undone`.
use Rattle.std.proofs.Common.{◌≡◌, ◌∙◌, ◌++◌, ◌∷◌, [], ℕ, List, length, map, refl, sym, ap}
use Rattle.std.specs.Prelude.{slice_index_or, string_bytes}
use Rattle.std.proofs.lemmas.Option.{slice_get_read}
use Rattle.std.proofs.lemmas.List.{append-nil, map-append}
use Rattle.library.specs.declared.command.Command.{Command}
use Rattle.transaction.specs.declared.outcome.Outcome.{Outcome}
use Rattle.checking.specs.Checks.{Bytes}
use Rattle.editscripts.specs.Undone.{undone_line}
use Rattle.editscripts.proofs.Undoing.{each_next, line_of_done, line_of_undone}
use Rattle.editscripts.proofs.lacking.put_undone.Goals as goal
use Rattle.editscripts.proofs.lacking.put_undone.Goals.{in-Some+in_ok-undone_line+in_ok-push, in_default}

pub loop-k-preserved : goal.loop-k-preserved
loop-k-preserved c =
    let path = c.args.path.now in
    let lines = c.args.lines.now in
    let script = c.args.script.now in
    let k = c.loop-k.k in
    let outcomes = c.args.outcomes.now in
    let o = c.index-outcomes-k.result in
    let at = slice_get_read outcomes (length outcomes) k o refl c.loop-k-test.true c.index-outcomes-k.is in
    let start = map string_bytes c.args.said.now.items in
    let before = map string_bytes c.loop-k.said.items in
    let F : ℕ → Outcome → List Bytes = λ j outcome. undone_line path (slice_index_or lines j 0) (slice_index_or script j []) outcome in
    let commands = c.commands_at.result.now in
    let same : commands ≡ slice_index_or script k [] = c.commands_at.ensures in
    elim c.match-branch-2.branch [
      | in-Some+in_ok-undone_line+in_ok-push w ↦
          let undone = rw w.in-Some.is at c.in_ok-text.ensures in
          each_next F outcomes k o at c.loop-k-test.true start before _
          (ap (λ v. map string_bytes v.items) w.said-is
          ∙ ap (map string_bytes) w.in_ok-push.ensures.items
          ∙ map-append string_bytes c.loop-k.said.items _
          ∙ ap (λ ls. before ++ ls)
          (ap (λ l. l ∷ []) w.in_ok-undone_line.ensures
          ∙ line_of_undone path w.line_at.result commands o w.as_str.result.now undone.0 (w.as_str.ensures.value ∙ undone.1)
          ∙ ap (λ n. undone_line path n commands o) w.line_at.ensures
          ∙ ap (λ (cs : List Command). undone_line path (slice_index_or lines k 0) cs o) same)) c.loop-k.invariant
      | in_default w ↦
          let done = rw w.in_default.is at c.in_ok-text.ensures in
          each_next F outcomes k o at c.loop-k-test.true start before _
          (ap (λ v. map string_bytes v.items) w.said-is
          ∙ sym (append-nil before)
          ∙ ap (λ ls. before ++ ls) (line_of_done path (slice_index_or lines k 0) (slice_index_or script k []) o done)) c.loop-k.invariant
    ]
