-- What is left to show of `read_in_entry`.
use Rattle.std.proofs.Common.{sym, subst}
use Rattle.mmtext.specs.Views.{seen, Gives}
use Rattle.scripts.specs.ScriptFaults.{in_command}
use Rattle.scripts.specs.ScriptViews.{seen_command_place}
use Rattle.historytext.specs.declared.place.EntryPlace.{EntryPlace}
use Rattle.historytext.specs.Places.{in_entry_row, in_reply, reply_word}
use Rattle.historytext.specs.Views.{seen_at, seen_entry_place, seen_reply_place}
use Rattle.historytext.proofs.entry_rows.read_in_entry.Goals as goal

pub returns-in-Within : goal.returns-in-Within
returns-in-Within c =
    let t = c.args.prelude.now in
    let u = seen c.args.token in
    let es = c.args.entries.now.items in
    let row = in_command t (seen_command_place t c.in-Within.place) u in
    subst (λ (x : EntryPlace). Gives (seen_at t es) c.go_on_asking.result (in_entry_row t es c.args.left (seen_entry_place t x) u))
    (sym c.in-Within.is) (c.go_on_asking.ensures t es u row c.read_in_command.ensures)

pub returns-in-AtReply : goal.returns-in-AtReply
returns-in-AtReply c =
    let t = c.args.prelude.now in
    let u = seen c.args.token in
    let es = c.args.entries.now.items in
    let on = c.go_on_answering in
    subst (λ (x : EntryPlace). Gives (seen_at t on.new.entries.items) on.result (in_entry_row t es c.args.left (seen_entry_place t x) u))
    (sym c.in-AtReply.is) (on.ensures t u (reply_word u.text) (c.read_reply_word.ensures t))

pub returns-in-Answering : goal.returns-in-Answering
returns-in-Answering c =
    let t = c.args.prelude.now in
    let u = seen c.args.token in
    let es = c.args.entries.now.items in
    let on = c.go_on_answering-in-Answering in
    let row = in_reply t (seen_reply_place t c.in-Answering.place) u in
    subst (λ (x : EntryPlace). Gives (seen_at t on.new.entries.items) on.result (in_entry_row t es c.args.left (seen_entry_place t x) u))
    (sym c.in-Answering.is) (on.ensures t u row c.read_in_reply-next.ensures)

pub returns-in-AtBegin : goal.returns-in-AtBegin
returns-in-AtBegin c =
    let t = c.args.prelude.now in
    let u = seen c.args.token in
    let es = c.args.entries.now.items in
    subst (λ (x : EntryPlace). Gives (seen_at t es) c.read_at_begin.result (in_entry_row t es c.args.left (seen_entry_place t x) u))
    (sym c.in-AtBegin.is) (c.read_at_begin.ensures t es)
