-- What is left to show of `add_asserted`.
use Rattle.std.proofs.Common.{◌≡◌, ℕ, ◌∙◌, ◌++◌, ◌∷◌, [], List, Some, Option, length, map, cond, ap, ap₂, sym, rules}
use Rattle.std.specs.Option.{option_map}
use Rattle.std.specs.Str.{bytes_eq}
use Rattle.std.proofs.lemmas.List.{map-append, length-map}
use Rattle.std.proofs.lemmas.Map.Text.{hash_map_updates_str}
use Rattle.source.specs.Views.{seen_words, seen_proof}
use Rattle.scopes.specs.declared.tables.Name.TheVariants as name
use Rattle.scopes.specs.Views.{Entry, kept_of, entry_of, marked_links}
use Rattle.scopes.specs.Sound.{looks_up, last_link}
use Rattle.scopes.proofs.Symbols.{sound_looks}
use Rattle.scopes.proofs.Effects.{entry_here, sound_entry, stand_entry}
use Rattle.scopes.proofs.declaring.add_asserted.Goals as goal

pub returns-clause-sound : goal.returns-clause-sound
returns-clause-sound c =
    let t = c.args.tables.now in
    let label = c.args.label.now in
    let ws = seen_words c.args.statement.items in
    let proof = option_map seen_proof c.args.proof in
    let pushed : c.push-2.new.self.items ≡ t.labels.items ++ c.args.label ∷ [] = search rules in
    let labels : seen_words c.push-2.new.self.items ≡ seen_words t.labels.items ++ label ∷ [] =
    ap seen_words pushed ∙ map-append _ t.labels.items (c.args.label ∷ []) in
    let also : c.push.new.self.items ≡ t.assertions.items ++ record {
      label = c.args.label;
      statement = c.args.statement;
      proof = c.args.proof;
      hypotheses = c.last_active-hypotheses.result;
      apart = t.last_apart;
      mandatory_links = c.in_ok-mandatory_links.mandatory_links;
    } ∷ [] = search rules in
    let seen : c.as_slice-2.result.now ≡ t.active.items = search rules in
    let last : c.last_active-hypotheses.result ≡ last_link t.active.items = c.last_active-hypotheses.ensures ∙ ap last_link seen in
    let marked : c.in_ok-mandatory_links.mandatory_links.items ≡ marked_links t.active.items =
    c.in_ok-mandatory_links.ensures ∙ ap marked_links c.as_slice.ensures.value in
    let put : Option ℕ → List ℕ → Entry = λ o ns. record {
      label = label;
      statement = ws;
      proof = proof;
      hypotheses = o;
      apart = t.last_apart;
      mandatory_links = ns;
    } in
    let entries : map entry_of c.push.new.self.items ≡ map entry_of t.assertions.items ++ entry_here (kept_of t) label ws proof
    ∷ [] =
    ap (map entry_of) also ∙ map-append entry_of t.assertions.items _
    ∙ ap₂ (λ o ns. map entry_of t.assertions.items ++ put o ns ∷ []) last marked in
    let count : c.len-place.result ≡ length t.assertions.items = search rules in
    let place : c.len-place.result ≡ length (kept_of t).entries = count ∙ sym (length-map t.assertions.items entry_of) in
    rw (labels, entries) (sound_looks _ (looks_up c.insert.new.self) _
    (sound_entry (looks_up t.names) (kept_of t) label ws proof c.requires.sound c.requires.lawful c.requires.marks)
    (λ q. hash_map_updates_str label t.names c.insert.new.self (Some (name.Assertion c.len-place.result)) c.in_ok-insert.ensures.updates q
    ∙ ap (λ n. cond (bytes_eq label q) (Some (name.Assertion n)) (looks_up t.names q)) place))

pub returns-clause-stand : goal.returns-clause-stand
returns-clause-stand c =
    let t = c.args.tables.now in
    let label = c.args.label.now in
    let ws = seen_words c.args.statement.items in
    let proof = option_map seen_proof c.args.proof in
    let pushed : c.push-2.new.self.items ≡ t.labels.items ++ c.args.label ∷ [] = search rules in
    let labels : seen_words c.push-2.new.self.items ≡ seen_words t.labels.items ++ label ∷ [] =
    ap seen_words pushed ∙ map-append _ t.labels.items (c.args.label ∷ []) in
    let also : c.push.new.self.items ≡ t.assertions.items ++ record {
      label = c.args.label;
      statement = c.args.statement;
      proof = c.args.proof;
      hypotheses = c.last_active-hypotheses.result;
      apart = t.last_apart;
      mandatory_links = c.in_ok-mandatory_links.mandatory_links;
    } ∷ [] = search rules in
    let seen : c.as_slice-2.result.now ≡ t.active.items = search rules in
    let last : c.last_active-hypotheses.result ≡ last_link t.active.items = c.last_active-hypotheses.ensures ∙ ap last_link seen in
    let marked : c.in_ok-mandatory_links.mandatory_links.items ≡ marked_links t.active.items =
    c.in_ok-mandatory_links.ensures ∙ ap marked_links c.as_slice.ensures.value in
    let put : Option ℕ → List ℕ → Entry = λ o ns. record {
      label = label;
      statement = ws;
      proof = proof;
      hypotheses = o;
      apart = t.last_apart;
      mandatory_links = ns;
    } in
    let entries : map entry_of c.push.new.self.items ≡ map entry_of t.assertions.items ++ entry_here (kept_of t) label ws proof
    ∷ [] =
    ap (map entry_of) also ∙ map-append entry_of t.assertions.items _
    ∙ ap₂ (λ o ns. map entry_of t.assertions.items ++ put o ns ∷ []) last marked in
    rw (labels, entries) (stand_entry (looks_up t.names) (kept_of t) label ws proof c.requires.sound)
