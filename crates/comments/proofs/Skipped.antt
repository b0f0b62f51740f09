-- Tokens of a source in a deleted block, when others in front of them are passed over.
use Rattle.std.proofs.Common.{◌≡◌, ◌⊎◌, ◌∙◌, ℕ, ◌+◌, ◌≤◌, false, List, [], ◌∷◌, ◌++◌, length, codes, refl, sym, ap, subst, inl, inr, arith}
use Rattle.std.specs.Str.{bytes_eq}
use Rattle.std.specs.Prelude.{All, IsTrue}
use Rattle.std.proofs.lemmas.List.{append_assoc}
use Rattle.std.proofs.lemmas.List.Elements.{All-head, All-tail}
use Rattle.mmtext.specs.Words.{Word}
use Rattle.mmtext.specs.Text.{Token, tokens}
use Rattle.source.specs.Scopes.{is_in}
use Rattle.comments.specs.Deleted.{open_behind, asserted, IsDeletedBlock, IsInDeletedBlock}
use Rattle.comments.specs.Outside.{outside, in_comment_behind, EndBy}
use Rattle.comments.specs.Blocks.{IsBlockEnd, IsInBlock, IsInBlockUntil}
use Rattle.comments.specs.Walks.{comment_of}
use Rattle.comments.proofs.Opened.{outside_one}

-- what is passed over stands in front of a token, or ends behind it
skips : (skip left rest : List Token) (c : Token) (after : List Token) (at : ℕ) → skip ++ left ≡ rest ++ c ∷ after → EndBy at skip
    → (c.place + length c.text ≤ at) ⊎ ((more : List Token) × (rest ≡ skip ++ more) × (left ≡ more ++ c ∷ after))
skips [] left rest c after at e h = inr (rest, refl, e)
skips (s ∷ skip) left [] c after at e h =
    let same : s ≡ c = cc in
    inl (subst (λ (t : Token). t.place + length t.text ≤ at) same (All-head (λ (t : Token). t.place + length t.text ≤ at) s skip h))
skips (s ∷ skip) left (r ∷ rest) c after at e h =
    let same : r ≡ s = cc in
    let others : skip ++ left ≡ rest ++ c ∷ after = cc in
    elim (skips skip left rest c after at others (All-tail (λ (t : Token). t.place + length t.text ≤ at) s skip h)) [
      | inl past ↦ inl past
      | inr m ↦ inr (m.0, ap (λ xs. r ∷ xs) m.1 ∙ ap (λ x. x ∷ (skip ++ m.0)) same, m.2)
    ]

-- a block with this inside
abbrev with_inside : (gone : List Word) (source : List ℕ) (xs ys after : List Token) → xs ≡ ys → IsDeletedBlock gone source xs after
    → IsDeletedBlock gone source ys after
with_inside gone source xs ys after e b = record {
  before = b.before;
  opening = b.opening;
  closing = b.closing;
  stands = b.stands ∙ ap (λ zs. b.before ++ b.opening ∷ zs ++ b.closing ∷ after) e;
  no_comment = b.no_comment;
  opens = b.opens;
  closes = b.closes;
  whole = ap (λ zs. open_behind 0 (outside false zs)) (sym e) ∙ b.whole;
  some = λ none. b.some (ap (λ zs. asserted (outside false zs)) e ∙ none);
  each = subst (λ zs. All (λ label. IsTrue (is_in gone label)) (asserted (outside false zs))) e b.each;
}

module _ (gone : List Word) (source : List ℕ) where
  pub block_skip : (ts left skip : List Token) (at end until : ℕ) → ts ≡ skip ++ left → at ≤ end → EndBy end skip
      → IsInBlockUntil gone source ts at until → IsInBlockUntil gone source left end until
  block_skip ts left skip at end until e le by h = elim h [
    | inl past ↦ inl (omega arith)
    | inr b ↦ elim (skips skip left b.rest b.block.closing b.after end (sym e ∙ b.stands) by) [
      | inl done ↦ inl (subst (λ n. n ≤ end) (sym b.ends) done)
      | inr m ↦ inr (record {
        front = b.front ++ skip;
        rest = m.0;
        after = b.after;
        block = with_inside gone source (b.front ++ b.rest) ((b.front ++ skip) ++ m.0) b.after
            (ap (λ zs. b.front ++ zs) m.1 ∙ sym (append_assoc b.front skip m.0)) b.block;
        stands = m.2;
        ends = b.ends;
      })
    ]
  ]

  -- a block begins
  pub block_begins : (front left : List Token) (t : Token) (end : ℕ) → tokens source ≡ front ++ t ∷ left
      → in_comment_behind false front ≡ false → t.text ≡ codes "${" → IsBlockEnd gone left end → IsInBlock gone source left end
  block_begins front left t end all closed opens b = record {
    front = [];
    rest = b.inside;
    after = b.after;
    block = record {
      before = front;
      opening = t;
      closing = b.closing;
      stands = all ∙ ap (λ us. front ++ t ∷ us) b.stands ∙ sym (append_assoc front (t ∷ b.inside) (b.closing ∷ b.after));
      no_comment = outside_one front closed t (ap (λ w. bytes_eq w (codes "$(")) opens);
      opens = opens;
      closes = b.closes;
      whole = b.whole;
      some = b.some;
      each = b.each;
    };
    stands = b.stands;
    ends = b.ends;
  }

  pub in_deleted : (words : List Word) (left : List Token) (until : ℕ) → IsInBlock gone source left until
      → IsInDeletedBlock gone source (comment_of words left)
  in_deleted words left until b = record { front = b.front; rest = b.rest; after = b.after; block = b.block; stands = b.stands }
