-- What is left to show of `dress`.
use Rattle.std.proofs.Common.{◌≡◌, ◌∙◌, [], Vec, Global, true, refl, sym, ap, map}
use Rattle.std.specs.Prelude.{◌==◌, vec_len}
use Rattle.std.proofs.lemmas.Bool.{eqb-true}
use Rattle.std.proofs.lemmas.List.{nil_from_length}
use Rattle.source.specs.Views.{seen_pairs}
use Rattle.giving.specs.Changes.{seen_texts}
use Rattle.items.proofs.Sourced.{declares_divided}
use Rattle.pasting.specs.Quotes.{labels_among}
use Rattle.pasting.specs.Views.{seen_quotation}
use Rattle.sourceediting.specs.Views.{seen_following}
use Rattle.dressing.specs.Descriptions.{descriptions_then}
use Rattle.dressing.specs.Labels.{changes_from}
use Rattle.dressing.specs.OwnWords.{labels_then}
use Rattle.dressing.proofs.Dressed.{are_dressed, dressed_as}
use Rattle.dressing.proofs.call.dress.Goals as goal

no_items : {A : Type 0} (v : Vec A Global) → (vec_len v == 0) ≡ true → v.items ≡ []
no_items v none = nil_from_length v.items (sym v.ok.0 ∙ eqb-true (vec_len v) 0 none)

pub dress_items-requires : goal.dress_items-requires
dress_items-requires g c =
    record {
      keeps = λ keeps.
          c.in_ok-labels.ensures
          ∙ ap seen_pairs (no_items c.in_ok-changes.changes (sym c.is_empty-keeps_labels.ensures ∙ keeps));
      divided = declares_divided c.args.source.now (g.D.Declared.scope c.args.declared.now) c.requires;
    }

pub returns-then-is_empty-3 : goal.returns-then-is_empty-3
returns-then-is_empty-3 g c =
    let s = g.D.Declared.scope c.args.declared.now in
    let source = c.args.source.now in
    let f = seen_following c.args.following.now in
    let texts = seen_texts c.in_ok-texts.texts.items in
    let cs = changes_from s [] (labels_then (labels_among (map seen_quotation c.args.given.quotations.now)) f) in
    let ds = descriptions_then (seen_pairs c.args.given.descriptions.now) f in
    let no_texts = no_items c.in_ok-texts.texts (sym c.if-is_empty.ensures) in
    let no_changes = no_items c.in_ok-changes.changes (sym c.if-is_empty-2.ensures) in
    let no_comments = no_items c.in_ok-comments.comments (sym c.if-is_empty-3.ensures) in
    record {
      scope = s;
      declares = c.requires;
      proofs = texts;
      quoted = c.in_ok-texts.ensures;
      items =
          dressed_as [] texts [] cs [] ds source source (sym (ap seen_texts no_texts))
          (sym (ap seen_pairs no_changes) ∙ c.in_ok-changes.ensures) (sym (ap seen_pairs no_comments) ∙ c.in_ok-comments.ensures)
          refl;
    }

pub returns : goal.returns
returns g c =
    let s = g.D.Declared.scope c.args.declared.now in
    let source = c.args.source.now in
    let out = c.in_ok-dressed.dressed.items in
    let f = seen_following c.args.following.now in
    let texts = seen_texts c.in_ok-texts.texts.items in
    let cs = changes_from s [] (labels_then (labels_among (map seen_quotation c.args.given.quotations.now)) f) in
    let ds = descriptions_then (seen_pairs c.args.given.descriptions.now) f in
    record {
      scope = s;
      declares = c.requires;
      proofs = texts;
      quoted = c.in_ok-texts.ensures;
      items =
          dressed_as c.in_ok-proofs.proofs texts c.in_ok-labels.labels cs c.in_ok-descriptions.descriptions ds source out
          (c.in_ok-proofs.ensures ∙ ap seen_texts c.as_slice.ensures.value)
          (c.in_ok-labels.ensures ∙ c.in_ok-changes.ensures) (c.in_ok-descriptions.ensures ∙ c.in_ok-comments.ensures)
          (are_dressed c.in_ok-proofs.proofs c.in_ok-labels.labels c.in_ok-descriptions.descriptions source out c.in_ok-dressed.ensures);
    }
