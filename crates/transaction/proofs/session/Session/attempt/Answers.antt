use Rattle.std.proofs.Common.{◌≡◌, List, refl, sym, ap, subst, ◌∙◌}
use Rattle.library.specs.Transactions.{has_too_many}
use Rattle.transaction.specs.declared.outcome.Outcome.TheVariants as outcome
use Rattle.transaction.specs.declared.outcome.Record.{Record}
use Rattle.transaction.specs.Members.{Member}
use Rattle.transaction.specs.Kits.{known_in, staged_in, lacked_in}
use Rattle.transaction.specs.Attempts.{Attempts}
use Rattle.transaction.proofs.Recorded.{with_record, put_behind}
use Rattle.transaction.proofs.Trying.{attempts_none, run_member, run_attempts}
use Rattle.transaction.proofs.session.Session.attempt.Goals as goal

pub returns-then-has_too_many : goal.returns-then-has_too_many
returns-then-has_too_many c =
    let cs = c.args.commands.now in
    let many = sym (c.has_too_many.ensures ∙ ap has_too_many c.as_slice.ensures) ∙ c.if-has_too_many.true in
    subst (λ (x : Member). Attempts cs x x outcome.TooManyCommands) c.self.view_is
    (attempts_none _ c.self.invariant.1 cs many)

pub invariant_of-self : goal.invariant_of-self
invariant_of-self c =
    let cs = c.args.commands.now in
    let m : Member = record {
      given = c.self.inside.given.value;
      known = known_in c.self.inside.kit;
      records =
          c.self.inside.records.items;
      staged = staged_in c.self.inside.kit;
      lacked_room = lacked_in c.self.inside.kit;
    } in
    let r = c.transact-kit.result.drawn in
    let records : c.put_drawn.new.records.items ≡ with_record m.records r =
    put_behind r _ _ c.put_drawn.ensures ∙ ap (λ (rs : List Record). with_record rs r) c.transact-kit.ensures.records in (
      refl,
      run_member m c.self.invariant.1 cs c.in-Some.kit c.transact-kit.result.kit c.transact-kit.result.outcome r _
          (ap known_in c.in-Some.ensures.value)
          c.transact-kit.ensures.tries records,
    )

pub returns : goal.returns
returns c =
    let cs = c.args.commands.now in
    let m : Member = record {
      given = c.self.inside.given.value;
      known = known_in c.self.inside.kit;
      records =
          c.self.inside.records.items;
      staged = staged_in c.self.inside.kit;
      lacked_room = lacked_in c.self.inside.kit;
    } in
    let few = sym (c.has_too_many.ensures ∙ ap has_too_many c.as_slice.ensures) ∙ c.if-has_too_many.false in
    let r = c.transact-kit.result.drawn in
    let records : c.put_drawn.new.records.items ≡ with_record m.records r =
    put_behind r _ _ c.put_drawn.ensures ∙ ap (λ (rs : List Record). with_record rs r) c.transact-kit.ensures.records in
    let next : Member = record {
      given = m.given;
      known = c.transact-kit.result.kit.pass;
      records = c.put_drawn.new.records.items;
      staged =
          c.transact-kit.result.kit.staged;
      lacked_room = c.transact-kit.result.kit.lacked_room;
    } in
    subst (λ (x : Member). Attempts cs x next c.transact-kit.result.outcome) c.self.view_is
    (run_attempts m c.self.invariant.1 cs c.in-Some.kit c.transact-kit.result.kit c.transact-kit.result.outcome r _
    (ap known_in c.in-Some.ensures.value)
    c.transact-kit.ensures.tries records (ap staged_in c.in-Some.ensures.value) c.transact-kit.ensures.stored c.transact-kit.ensures.within
    few)
