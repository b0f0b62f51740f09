-- What is left to show of `add_hypothesis`.
use Rattle.std.proofs.Common.{◌≡◌, ℕ, ◌∙◌, ◌++◌, ◌∷◌, [], Some, false, length, map, cond, ap, refl, sym, rules}
use Rattle.std.specs.Str.{bytes_eq}
use Rattle.std.proofs.lemmas.List.{map-append, length-map}
use Rattle.std.proofs.lemmas.Map.Text.{hash_map_updates_str}
use Rattle.source.specs.Scopes.{label_of}
use Rattle.source.specs.Views.{seen_words, seen_hypothesis}
use Rattle.scopes.specs.declared.tables.Name.TheVariants as name
use Rattle.scopes.specs.Views.{kept_of, linked}
use Rattle.scopes.specs.Sound.{looks_up, last_link}
use Rattle.scopes.proofs.declaring.add_hypothesis.Goals as goal

pub returns-clause-kept : goal.returns-clause-kept
returns-clause-kept c =
    let t = c.args.tables.now in
    let h = c.args.hypothesis in
    let ls : c.push-2.new.self.items ≡ t.labels.items ++ c.args.label ∷ [] = search rules in
    let ks : c.push.new.self.items ≡ t.links.items ++ record { before = c.last_active-before.result; hypothesis = h } ∷ [] = search rules in
    let actives : c.push-3.new.self.items ≡ t.active.items ++ record { link = c.len-link.result; is_mandatory = false } ∷ [] =
    search rules in
    let seen : c.as_slice.result.now ≡ t.active.items = search rules in
    let last : c.last_active-before.result ≡ last_link t.active.items = c.last_active-before.ensures ∙ ap last_link seen in
    let count : c.len-link.result ≡ length t.links.items = search rules in
    let number : c.len-link.result ≡ length (kept_of t).links = count ∙ sym (length-map t.links.items linked) in
    let labels : seen_words c.push-2.new.self.items ≡ seen_words t.labels.items ++ label_of (seen_hypothesis h) ∷ [] =
    ap seen_words ls ∙ map-append _ t.labels.items (c.args.label ∷ [])
    ∙ ap (λ w. seen_words t.labels.items ++ w ∷ []) (sym c.requires) in
    let links : map linked c.push.new.self.items ≡ map linked t.links.items ++ (last_link t.active.items, seen_hypothesis h) ∷ [] =
    ap (map linked) ks ∙ map-append linked t.links.items _
    ∙ ap (λ o. map linked t.links.items ++ (o, seen_hypothesis h) ∷ []) last in
    let active : c.push-3.new.self.items ≡ t.active.items ++ record { link = length (kept_of t).links; is_mandatory = false } ∷ [] =
    actives ∙ ap (λ (n : ℕ). t.active.items ++ record { link = n; is_mandatory = false } ∷ []) number in
    rw (labels, links, active) refl

pub returns-clause-names : goal.returns-clause-names
returns-clause-names c = λ q.
    let t = c.args.tables.now in
    let place : c.len-place.result ≡ length t.active.items = search rules in
    hash_map_updates_str c.args.label.now t.names c.insert.new.self
    (Some (name.Hypothesis c.len-place.result)) c.in_ok-insert.ensures.updates q
    ∙ ap (λ n. cond (bytes_eq c.args.label.now q) (Some (name.Hypothesis n)) (looks_up t.names q)) place
