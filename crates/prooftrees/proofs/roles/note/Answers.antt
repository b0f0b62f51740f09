-- What is left to show of `note`.
use Rattle.std.proofs.Common.{◌≡◌, ◌∙◌, ap, sym, rules}
use Rattle.std.specs.Prelude.{Some}
use Rattle.std.specs.Str.{bytes_eq}
use Rattle.std.proofs.lemmas.Map.Text.{hash_map_updates_str}
use Rattle.mmsyntax.proofs.Names.{same_bytes}
use Rattle.prooftrees.specs.Roles.{looks_up}
use Rattle.prooftrees.proofs.RolesOf.{noted_stays, noted_new}
use Rattle.prooftrees.proofs.roles.note.Goals as goal

pub returns-then-stays : goal.returns-then-stays
returns-then-stays c =
    let label = c.args.label.now in
    let at : c.copied-so_far.result ≡ looks_up c.args.roles.now label = search rules in
    λ w.
    noted_stays c.args.role (bytes_eq label w) c.copied-so_far.result (looks_up c.args.roles.now w)
    (λ h. ap (looks_up c.args.roles.now) (sym (same_bytes label w h)) ∙ sym at)
    (sym c.stays.ensures ∙ c.if-stays.true)

pub returns : goal.returns
returns c =
    let label = c.args.label.now in
    let at : c.copied-so_far.result ≡ looks_up c.args.roles.now label = search rules in
    λ w.
    hash_map_updates_str label c.args.roles.now c.insert.new.self (Some c.args.role) c.in_ok-insert.ensures.updates w
    ∙ noted_new c.args.role (bytes_eq label w) c.copied-so_far.result (looks_up c.args.roles.now w)
    (λ h. ap (looks_up c.args.roles.now) (sym (same_bytes label w h)) ∙ sym at)
    (sym c.stays.ensures ∙ c.if-stays.false)
