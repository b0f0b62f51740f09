use Rattle.std.proofs.Common.{List, [], ◌∷◌, ◌++◌, Vec, length, length-append, sym, ap, subst, ◌∙◌, arith}
use Rattle.std.specs.declared.alloc.Global.{Global}
use Rattle.std.proofs.lemmas.Iterator.Adapters.{YieldsList-from_vec}
use Rattle.std.proofs.lemmas.Iterator.Consumers.{YieldsList-turn, YieldsList-end}
use Rattle.std.proofs.lemmas.List.{map-id}
use Rattle.lending.specs.Lent.{Pass}
use Rattle.transaction.specs.declared.outcome.Record.{Record}
use Rattle.transaction.specs.Closings.{AreTaken}
use Rattle.transaction.proofs.Taken.{one_taken}
use Rattle.transaction.proofs.closing.take_all.Goals as goal

pub loop-session-preserved : goal.loop-session-preserved
loop-session-preserved c =
    let sessions = c.loop-session.yielded in
    let session = c.in-Some.session in
    let parts = c.into_parts-pass.ensures in
    let was = c.loop-session.invariant in
    let passes = c.push_reserved.ensures.items in
    let records = c.push_reserved-in-loop-session.ensures.items in
    let taken =
    one_taken sessions c.loop-session.passes.items c.loop-session.records.items session c.into_parts-pass.result.0
    c.into_parts-pass.result.1
    was.0 parts.member parts.pass parts.records in
    let more = length-append sessions (session ∷ []) in
    let more_passes = ap length passes ∙ length-append c.loop-session.passes.items (c.into_parts-pass.result.0 ∷ []) in
    let more_records = ap length records ∙ length-append c.loop-session.records.items (c.into_parts-pass.result.1 ∷ []) in (
      subst (λ (ps : List Pass). AreTaken (sessions ++ session ∷ []) ps c.push_reserved-in-loop-session.new.self.items) (sym passes)
          (subst (λ (rs : List (Vec Record Global)). AreTaken (sessions ++ session ∷ []) (c.loop-session.passes.items
          ++ c.into_parts-pass.result.0 ∷ []) rs)
          (sym records) taken),
      omega (arith, more, more_passes, was.1),
      omega (arith, more, more_records, was.2),
      omega (arith, c.push_reserved.ensures.capacity, was.3),
      omega (arith, c.push_reserved-in-loop-session.ensures.capacity, was.4),
    )

pub push_reserved-requires : goal.push_reserved-requires
push_reserved-requires c =
    let l = c.loop-session in
    let given = c.into_iter-session-iterator.ensures.into_iter_gives in
    let all = YieldsList-from_vec c.args.sessions.items given.0 (given.1 ∙ c.args.sessions.ok.0) in
    let turn = YieldsList-turn all l.yielded l.session-iterator l.yielded_by
    c.next.result c.next.new.self c.in-Some.session c.in-Some.is c.next.ensures.steps in
    omega (arith, turn.0, l.invariant.1, l.invariant.3, l.passes.ok.0)

pub push_reserved-requires-in-loop-session : goal.push_reserved-requires-in-loop-session
push_reserved-requires-in-loop-session c =
    let l = c.loop-session in
    let given = c.into_iter-session-iterator.ensures.into_iter_gives in
    let all = YieldsList-from_vec c.args.sessions.items given.0 (given.1 ∙ c.args.sessions.ok.0) in
    let turn = YieldsList-turn all l.yielded l.session-iterator l.yielded_by
    c.next.result c.next.new.self c.in-Some.session c.in-Some.is c.next.ensures.steps in
    omega (arith, turn.0, l.invariant.2, l.invariant.4, l.records.ok.0)

pub returns : goal.returns
returns c =
    let l = c.loop-session in
    let given = c.into_iter-session-iterator.ensures.into_iter_gives in
    let all = YieldsList-from_vec c.args.sessions.items given.0 (given.1 ∙ c.args.sessions.ok.0) in
    let end = YieldsList-end all l.yielded l.session-iterator l.yielded_by
    c.next.result c.next.new.self c.in-None.is c.next.ensures.steps in
    subst (λ ms. AreTaken ms l.passes.items l.records.items) (sym (map-id l.yielded) ∙ end.0) l.invariant.0
