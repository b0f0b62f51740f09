use Rattle.std.proofs.Common.{Some, refl, ap, ◌∙◌}
use Rattle.std.proofs.lemmas.Result.{err_from_is_err_and}
use Rattle.lawful.specs.declared.notes.Given.{Given}
use Rattle.transaction.specs.Openings.{IsShape}
use Rattle.transaction.specs.Members.{Home}
use Rattle.transaction.proofs.Opened.{words_open, cells_refuse, home_at, ArePasses, passes_of, on_words, undrawn, unrefused, new_sessions, named_sessions}
use Rattle.transaction.proofs.running.Library.open_checked.Goals as goal

pub open-opened-requires-clause-opens : goal.open-opened-requires-clause-opens
open-opened-requires-clause-opens c =
    let words = c.into_words-values.result in
    let given : Given = record { database = c.of.result; slots = c.args.shape.slots } in
    let shape : IsShape c.args.shape = c.in_ok-fits.ensures.yes.0 in
    (words_open c.args.database.now given c.args.shape.room c.in_ok-cells.cells words.0.items words.1.items c.of.ensures
    c.assertions-assertions.ensures.sound c.requires.checks shape.some_slots shape.few_slots c.in_ok-cells.ensures.within.0
    c.in_ok-cells.ensures.ok (ap (λ v. v.items) c.into_words-values.ensures.0) (ap (λ v. v.items) c.into_words-values.ensures.1)).0

pub open-opened-requires-clause-named : goal.open-opened-requires-clause-named
open-opened-requires-clause-named c =
    let words = c.into_words-values.result in
    let given : Given = record { database = c.of.result; slots = c.args.shape.slots } in
    let shape : IsShape c.args.shape = c.in_ok-fits.ensures.yes.0 in
    (words_open c.args.database.now given c.args.shape.room c.in_ok-cells.cells words.0.items words.1.items c.of.ensures
    c.assertions-assertions.ensures.sound c.requires.checks shape.some_slots shape.few_slots c.in_ok-cells.ensures.within.0
    c.in_ok-cells.ensures.ok (ap (λ v. v.items) c.into_words-values.ensures.0) (ap (λ v. v.items) c.into_words-values.ensures.1)).1

pub seat_all-requires-clause-on : goal.seat_all-requires-clause-on
seat_all-requires-clause-on c =
    let words = c.into_words-values.result in
    let given : Given = record { database = c.of.result; slots = c.args.shape.slots } in
    let home : Home = home_at given c.in-Ok.words in
    let key = c.in-Ok.ensures.key in
    let passes : ArePasses home c.args.shape.sessions c.in-Ok.passes.items =
    passes_of home c.args.shape.sessions c.in-Ok.passes.items words.0.items words.1.items key.1 key.2 c.in-Ok.ensures.passes
    c.in-Ok.ensures.sound c.in-Ok.ensures.names in
    on_words home c.args.shape.sessions c.in-Ok.passes.items (ap Some key.0) c.in-Ok.words.small.1 passes

pub seat_all-requires-clause-knows : goal.seat_all-requires-clause-knows
seat_all-requires-clause-knows c = c.in-Ok.ensures.sound

pub seat_all-requires-clause-new : goal.seat_all-requires-clause-new
seat_all-requires-clause-new c =
    let words = c.into_words-values.result in
    let given : Given = record { database = c.of.result; slots = c.args.shape.slots } in
    let home : Home = home_at given c.in-Ok.words in
    let key = c.in-Ok.ensures.key in
    let passes : ArePasses home c.args.shape.sessions c.in-Ok.passes.items =
    passes_of home c.args.shape.sessions c.in-Ok.passes.items words.0.items words.1.items key.1 key.2 c.in-Ok.ensures.passes
    c.in-Ok.ensures.sound c.in-Ok.ensures.names in
    undrawn home c.args.shape.sessions c.in-Ok.passes.items (ap Some key.0) c.in-Ok.words.small.1 passes

pub seat_all-requires-clause-unrefused : goal.seat_all-requires-clause-unrefused
seat_all-requires-clause-unrefused c =
    let words = c.into_words-values.result in
    let given : Given = record { database = c.of.result; slots = c.args.shape.slots } in
    let home : Home = home_at given c.in-Ok.words in
    let key = c.in-Ok.ensures.key in
    let passes : ArePasses home c.args.shape.sessions c.in-Ok.passes.items =
    passes_of home c.args.shape.sessions c.in-Ok.passes.items words.0.items words.1.items key.1 key.2 c.in-Ok.ensures.passes
    c.in-Ok.ensures.sound c.in-Ok.ensures.names in
    unrefused home c.args.shape.sessions c.in-Ok.passes.items (ap Some key.0) c.in-Ok.words.small.1 passes

pub returns-in_err-fits : goal.returns-in_err-fits
returns-in_err-fits c =
    let p = err_from_is_err_and c.from_residual.result c.from_residual.ensures.1 in rw (p.1, p.2) c.in_err-fits.ensures.no

pub returns-in_err-prelude : goal.returns-in_err-prelude
returns-in_err-prelude c =
    let p = err_from_is_err_and c.from_residual-in_err-prelude.result c.from_residual-in_err-prelude.ensures.1 in
    rw (p.1, p.2) c.in_ok-fits.ensures.yes

pub returns-in_err-cells : goal.returns-in_err-cells
returns-in_err-cells c =
    let p = err_from_is_err_and c.from_residual-in_err-cells.result c.from_residual-in_err-cells.ensures.1 in
    let fits = c.in_ok-fits.ensures.yes in
    rw (p.1, p.2) (cells_refuse c.args.database.now c.args.shape _ fits.0 fits.1 c.requires.checks c.in_err-cells.ensures.err)

pub returns-in_default : goal.returns-in_default
returns-in_default c = c.in_ok-fits.ensures.yes

pub returns-in_err-sessions : goal.returns-in_err-sessions
returns-in_err-sessions c =
    let p = err_from_is_err_and c.from_residual-in_err-sessions.result c.from_residual-in_err-sessions.ensures.1 in
    rw (p.1, p.2) c.in_ok-fits.ensures.yes

pub returns : goal.returns
returns c =
    let words = c.into_words-values.result in
    let given : Given = record { database = c.of.result; slots = c.args.shape.slots } in
    let home : Home = home_at given c.in-Ok.words in
    let key = c.in-Ok.ensures.key in
    let sessions = c.args.shape.sessions in
    let passes : ArePasses home sessions c.in-Ok.passes.items =
    passes_of home sessions c.in-Ok.passes.items words.0.items words.1.items key.1 key.2 c.in-Ok.ensures.passes
    c.in-Ok.ensures.sound c.in-Ok.ensures.names in
    let shape : IsShape c.args.shape = c.in_ok-fits.ensures.yes.0 in
    let within = c.in_ok-cells.ensures.within in
    let members = c.in_ok-sessions.sessions.items in
    let seats = c.in_ok-sessions.ensures in
    record {
      shape_is = shape;
      many = within.0;
      checks = c.requires.checks;
      fit = within.1;
      database = c.of.ensures;
      slots = refl;
      room = c.in-Ok.ensures.sizes.1;
      sessions = key.3;
      opens = (words_open c.args.database.now given c.args.shape.room c.in_ok-cells.cells home.words.base home.store c.of.ensures
          c.assertions-assertions.ensures.sound c.requires.checks shape.some_slots shape.few_slots within.0 c.in_ok-cells.ensures.ok
          (key.1 ∙ ap (λ v. v.items) c.into_words-values.ensures.0) (key.2 ∙ ap (λ v. v.items) c.into_words-values.ensures.1)).0;
      new = new_sessions home sessions c.in-Ok.passes.items (ap Some key.0) c.in-Ok.words.small.1 passes members seats;
      names = named_sessions home sessions c.in-Ok.passes.items (ap Some key.0) c.in-Ok.words.small.1 passes members seats;
    }
