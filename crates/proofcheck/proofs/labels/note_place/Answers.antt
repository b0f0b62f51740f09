use Rattle.std.proofs.Common.{◌≡◌, false, Option, None, Some, sym, ◌∙◌, refl, rules}
use Rattle.std.specs.Option.{is_some}
use Rattle.std.specs.HashMap.{get_by}
use Rattle.std.specs.Str.{bytes_eq}
use Rattle.std.proofs.lemmas.Slice.Eq.{bytes_eq-Decides}
use Rattle.mmsyntax.proofs.Names.{after_update}
use Rattle.proofcheck.proofs.Places.{note_one}
use Rattle.proofcheck.proofs.labels.note_place.Goals as goal

none-from_is_some : {X : Type 0} (o : Option X) → is_some o ≡ false → o ≡ None
none-from_is_some None e = refl
none-from_is_some (Some x) e = cc

pub returns : goal.returns
returns c = λ q.
    let label = c.args.label.now in
    let old = c.args.places.now in
    let updated = after_update c.in_ok-key.key.items old c.insert.new.self (Some c.args.place) c.in_ok-insert.ensures.updates q in
    let key : c.in_ok-key.key.items ≡ label = search rules in
    let absent : get_by (λ k. bytes_eq label k.items) old ≡ None =
    none-from_is_some (get_by (λ k. bytes_eq label k.items) old) (sym c.contains_key.ensures ∙ c.if-contains_key.false) in
    note_one (bytes_eq label q) _ _ c.args.place (rw key at updated) (λ t. rw (← (bytes_eq-Decides label q).0 t) absent)
