use Rattle.std.proofs.Common.{◌≡◌, ◌||◌, ◌++◌, ◌∷◌, [], false, not, IsFalse, IsTrue, sym, ◌∙◌, ap, subst, inl, append_assoc}
use Rattle.mmtext.specs.Words.{is_label}
use Rattle.sourcewriting.specs.Laid.{IsLaid, AreLaid}
use Rattle.sourcewriting.proofs.Labels.{closed_none_behind, labels_more}
use Rattle.sourcewriting.proofs.Laying.{first_no, second_yes}
use Rattle.sourcewriting.proofs.layout.Layout.put_label.Goals as goal

pub returns-clause-laid : goal.returns-clause-laid
returns-clause-laid c = λ i front labels closed has.
    let l = c.args.self.now in
    let m = c.put_word.new.self in
    let label = c.args.label.now in
    let is_right = c.is_label_token.result in
    let e = c.expect.ensures in
    let sound : IsFalse m.is_refused → (l.is_refused ≡ false) × IsTrue (is_label label) = λ right.
    let r : (l.is_refused || not is_right) ≡ false = sym (ap (λ l. l.is_refused) e) ∙ c.put_word.ensures.right right in
    (first_no l.is_refused is_right r, sym c.is_label_token.ensures ∙ second_yes l.is_refused is_right r) in
    let told : IsLaid i (record l { is_refused = l.is_refused || not is_right }) (front ++ labels) =
    λ whole right. has.0 whole (first_no l.is_refused is_right right) in
    let laid : IsLaid i c.expect.new.self (front ++ labels) = subst (λ l. IsLaid i l (front ++ labels)) (sym e) told in (
      λ whole right.
          let closed = closed_none_behind front labels closed (has.1 (sound right).0) in
          subst (λ ws. (m.indentation.now ≡ i) × AreLaid i ws m.text.items m.column) (append_assoc front labels (label ∷ []))
          (c.put_word.ensures.laid i (front ++ labels) (inl closed) laid whole right),
      λ right. labels_more labels label (has.1 (sound right).0) (sound right).1,
    )
