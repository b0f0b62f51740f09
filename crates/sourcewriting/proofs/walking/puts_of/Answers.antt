-- What is left to show of `puts_of`.
use Rattle.std.proofs.Common.{◌∙◌, List, [], ◌∷◌, Bool, false, length, replicate, reverse, sym, ap, subst}
use Rattle.sourcewriting.specs.declared.walking.Put.{Put}
use Rattle.sourcewriting.specs.declared.walking.Task.{Task}
use Rattle.sourcewriting.specs.Walked.{IsWalking, visit}
use Rattle.sourcewriting.proofs.Walked.{walk_begins}
use Rattle.sourcewriting.proofs.walking.puts_of.Goals as goal

pub loop-task-init : goal.loop-task-init
loop-task-init c = λ sound there.
    let s = c.args.shared.now in
    let w = c.in_ok-walk.walk in
    let opened = c.in_ok-walk.ensures.opened ∙ ap (λ n. replicate n false) c.len.ensures in
    let first : List Task = visit c.args.root ∷ [] in
    let one = subst (λ (ps : List Put). IsWalking s ps (replicate (length s.nodes.items) false) first)
    (sym c.in_ok-walk.ensures.puts) (walk_begins s c.args.root there) in
    let two = subst (λ (fs : List Bool). IsWalking s w.puts.items fs first) (sym opened) one in
    subst (λ (ts : List Task). IsWalking s w.puts.items w.opened.items ts) (sym (ap reverse c.in_ok-walk.ensures.tasks)) two
