-- A block whose assertions were deleted, behind one more token, and at its end.
use Rattle.std.proofs.Common.{◌≡◌, ◌∙◌, ◌+◌, false, List, [], ◌∷◌, ◌++◌, length, codes, refl, sym, ap, subst}
use Rattle.std.specs.Prelude.{All, IsTrue}
use Rattle.std.proofs.lemmas.List.{append_assoc, append-nil}
use Rattle.mmtext.specs.Words.{Word}
use Rattle.mmtext.specs.Text.{Token}
use Rattle.source.specs.Scopes.{is_in}
use Rattle.comments.specs.declared.inside.Inside.{Inside}
use Rattle.comments.specs.Deleted.{open_behind, asserted}
use Rattle.comments.specs.Outside.{outside, IsNext}
use Rattle.comments.specs.Insides.{IsReadInside, LeadsInside}
use Rattle.comments.specs.Blocks.{IsInside, IsBlockEnd}
use Rattle.comments.proofs.Opened.{outside_then, closed_then, closed_one, outside_one}
use Rattle.comments.proofs.Asserted.{last_asserts_none}

pub starts_inside : (gone : List Word) (ts : List Token) (s : Inside) → IsReadInside gone [] s → IsInside gone ts ts s
starts_inside gone ts s read = record { inside = []; stands = refl; closed = refl; read = read }

module _ (gone : List Word) (ts ys left : List Token) (s : Inside) (t : Token) (h : IsInside gone ts ys s) (n : IsNext ys left t) where
  pub inside_more : (new : Inside) → LeadsInside gone s t.text new → IsInside gone ts left new
  inside_more new leads =
      let piece : List Token = n.skipped ++ t ∷ [] in
      let here : outside false (h.inside ++ piece) ≡ outside false h.inside ++ t ∷ [] =
      outside_then h.inside h.closed piece
      ∙ ap (λ us. outside false h.inside ++ us) (outside_one n.skipped n.closed t n.opens_none ∙ ap (λ us. us ++ t ∷ []) n.nothing) in
      record {
        inside = h.inside ++ piece;
        stands =
            h.stands
            ∙ ap (λ us. h.inside ++ us) (n.stands ∙ sym (append_assoc n.skipped (t ∷ []) left))
            ∙ sym (append_assoc h.inside piece left);
        closed = closed_then h.inside h.closed piece (closed_one n.skipped n.closed t n.opens_none);
        read = subst (λ us. IsReadInside gone us new) (sym here) (leads (outside false h.inside) t refl h.read);
      }

  pub block_ends : t.text ≡ codes "$}" → s.depth ≡ 0 → IsTrue s.found → IsBlockEnd gone ts (t.place + length t.text)
  block_ends closes depth found =
      let r = h.read in
      let so_far : List Token = outside false h.inside in
      let here : outside false (h.inside ++ n.skipped) ≡ so_far ++ [] =
      outside_then h.inside h.closed n.skipped ∙ ap (λ us. so_far ++ us) n.nothing in
      let labels : asserted (outside false (h.inside ++ n.skipped)) ≡ r.labels =
      ap asserted here ∙ r.found [] ∙ ap (λ ws. r.labels ++ ws) (last_asserts_none s.last r.last r.is_last) ∙ append-nil r.labels in
      record {
        inside = h.inside ++ n.skipped;
        closing = t;
        after = left;
        stands = h.stands ∙ ap (λ us. h.inside ++ us) n.stands ∙ sym (append_assoc h.inside n.skipped (t ∷ left));
        closes = closes;
        whole = ap (open_behind 0) here ∙ r.depth [] ∙ ap (λ k. open_behind k []) depth;
        some = λ e. r.some found (sym labels ∙ e);
        each = subst (All (λ label. IsTrue (is_in gone label))) (sym labels) r.each;
        ends = refl;
      }
