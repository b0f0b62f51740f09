-- What is known of a walk that reads comments, behind one more token or comment.
use Rattle.std.proofs.Common.{◌≡◌, ◌∙◌, ℕ, ◌+◌, ◌≤◌, Bool, true, false, cond, List, [], ◌∷◌, ◌++◌, length, map, Some, None, Vec, Global}
use Rattle.std.proofs.Common.{codes, refl, sym, ap, subst, inl, inr, arith}
use Rattle.std.specs.Prelude.{All}
use mathlib.Core.Bool.{not}
use Rattle.std.specs.Str.{bytes_eq}
use Rattle.std.proofs.lemmas.List.{append_assoc, append-nil, map-append, length-append, length-map}
use Rattle.std.proofs.lemmas.List.Elements.{All-nil, All-cons, All-append}
use Rattle.mmtext.specs.Words.{Word}
use Rattle.mmtext.specs.Text.{Token, tokens}
use Rattle.giving.specs.Staying.{Change}
use Rattle.source.specs.Flags.{kept}
use Rattle.comments.specs.declared.walking.SourceWalk.{SourceWalk}
use Rattle.comments.specs.Comments.{Comment, stands_between, comments_from, comments, reading_then}
use Rattle.comments.specs.Deleted.{IsOfDeleted}
use Rattle.comments.specs.Outside.{in_comment_behind, EndBy}
use Rattle.comments.specs.Passing.{IsClosed}
use Rattle.comments.specs.Blocks.{IsInBlockUntil}
use Rattle.comments.specs.Walks.{seen_texts, comment_of, MayEnd, MayStay, IsWalked, AreTexts}
use Rattle.comments.proofs.Opened.{closed_then as closed_both, closed_one}
use Rattle.comments.proofs.Skipped.{block_skip, block_begins, in_deleted}
use Rattle.comments.proofs.KeptBy.{kept-append}

-- a token that opens a comment, and another one
opens : (stating : Bool) (t : Token) (ts : List Token) → bytes_eq t.text (codes "$(") ≡ true
    → comments_from stating None (t ∷ ts) ≡ comments_from stating (Some []) ts
opens true t ts is = ap (λ b. cond b (comments_from true (Some []) ts) (comments_from (not (stands_between t.text)) None ts)) is
opens false t ts is = ap (λ b. cond b (comments_from false (Some []) ts) (comments_from (not (stands_between t.text)) None ts)) is

goes_on : (stating : Bool) (t : Token) (ts : List Token) → bytes_eq t.text (codes "$(") ≡ false
    → comments_from stating None (t ∷ ts) ≡ comments_from (not (stands_between t.text)) None ts
goes_on true t ts is = ap (λ b. cond b (comments_from true (Some []) ts) (comments_from (not (stands_between t.text)) None ts)) is
goes_on false t ts is = ap (λ b. cond b (comments_from false (Some []) ts) (comments_from (not (stands_between t.text)) None ts)) is

-- ---- comments that are told more

record TellsMore (cs : List Change) (gone : List Word) (source : List ℕ) (stating : Bool) (ts left : List Token) (old new : List (List ℕ))
    : Type 0 where
  more : List Comment
  flags : List Bool
  many : length flags ≡ length more
  splits : comments_from stating (Some []) ts ≡ more ++ comments_from stating None left
  left_out : All (IsOfDeleted gone source) (kept (map not flags) more)
  texts : new ≡ old ++ map (reading_then cs) (kept flags more)

module _ (cs : List Change) (gone : List Word) (source : List ℕ) (words : List Word) (ts left : List Token) (until end : ℕ)
    (old new : List (List ℕ)) where
  stays : IsClosed false words ts left end → new ≡ old ++ reading_then cs (comment_of words left) ∷ []
      → TellsMore cs gone source false ts left old new
  stays c pushed = record {
    more = comment_of words left ∷ [];
    flags = true ∷ [];
    many = refl;
    splits = c.same;
    left_out = All-nil (IsOfDeleted gone source);
    texts = pushed;
  }

  goes : IsClosed false words ts left end → new ≡ old → IsOfDeleted gone source (comment_of words left)
      → TellsMore cs gone source false ts left old new
  goes c same of = record {
    more = comment_of words left ∷ [];
    flags = false ∷ [];
    many = refl;
    splits = c.same;
    left_out = All-cons (IsOfDeleted gone source) (comment_of words left) [] of (All-nil (IsOfDeleted gone source));
    texts = same ∙ sym (append-nil old);
  }

  tells : (stating : Bool) → IsClosed stating words ts left end → IsInBlockUntil gone source left end until
      → MayStay cs gone stating words left end until old new → TellsMore cs gone source stating ts left old new
  tells true c b same = record {
    more = [];
    flags = [];
    many = refl;
    splits = c.same;
    left_out = All-nil (IsOfDeleted gone source);
    texts = same ∙ sym (append-nil old);
  }
  tells false c b m = elim m [
    | inl pushed ↦ stays c pushed
    | inr (same, why) ↦ goes c same (elim why [
      | inl before ↦ elim b [
        | inl past ↦ absurd (omega arith)
        | inr block ↦ inr (in_deleted gone source words left until block)
      ]
      | inr front ↦ inl front
    ])
  ]

-- ---- the walk

left_both : (fs gs : List Bool) (xs ys : List Comment) → length fs ≡ length xs
    → kept (map not (fs ++ gs)) (xs ++ ys) ≡ kept (map not fs) xs ++ kept (map not gs) ys
left_both fs gs xs ys many =
    ap (λ bs. kept bs (xs ++ ys)) (map-append not fs gs) ∙ kept-append (map not fs) (map not gs) xs ys (length-map fs not ∙ many)

module _ (cs : List Change) (gone : List Word) (source : List ℕ) where
  pub nothing_walked : (w : SourceWalk) → w.stating ≡ false → w.until ≡ 0 → w.texts.items ≡ [] → IsWalked cs gone source (tokens source) 0 w
  nothing_walked w stating until texts = record {
    front = [];
    all = refl;
    closed = refl;
    so_far = [];
    splits = ap (λ b. comments_from b None (tokens source)) (sym stating);
    stay = [];
    many = refl;
    left_out = All-nil (IsOfDeleted gone source);
    texts = ap seen_texts texts;
    block = inl (omega arith);
  }

  module _ (ys left : List Token) (t : Token) (at : ℕ) (le : at ≤ t.place + length t.text) (next : ys ≡ t ∷ left) (old new : SourceWalk)
      (h : IsWalked cs gone source ys at old) where
    -- a token outside of comments
    pub walked_outside : bytes_eq t.text (codes "$(") ≡ false → new.stating ≡ not (stands_between t.text)
        → MayEnd gone t.text left old.until new.until → new.texts ≡ old.texts → IsWalked cs gone source left (t.place + length t.text) new
    walked_outside other stating until texts =
        let end = t.place + length t.text in
        let all : tokens source ≡ h.front ++ t ∷ left = h.all ∙ ap (λ us. h.front ++ us) next in
        let by : EndBy end (t ∷ []) =
        All-cons (λ (u : Token). u.place + length u.text ≤ end) t [] (omega arith)
        (All-nil (λ (u : Token). u.place + length u.text ≤ end)) in
        record {
          front = h.front ++ t ∷ [];
          all = all ∙ sym (append_assoc h.front (t ∷ []) left);
          closed = closed_one h.front h.closed t other;
          so_far = h.so_far;
          splits =
              h.splits
              ∙ ap (λ us. h.so_far ++ comments_from old.stating None us) next
              ∙ ap (λ us. h.so_far ++ us) (goes_on old.stating t left other ∙ ap (λ b. comments_from b None left) (sym stating));
          stay = h.stay;
          many = h.many;
          left_out = h.left_out;
          texts = ap (λ (v : Vec (Vec ℕ Global) Global). seen_texts v.items) texts ∙ h.texts;
          block = elim until [
            | inl same ↦ subst (IsInBlockUntil gone source left end) (sym same)
                (block_skip gone source ys left (t ∷ []) at end old.until next (omega arith) by h.block)
            | inr (is, ends) ↦ inr (block_begins gone source h.front left t new.until all h.closed is ends)
          ];
        }

    -- a comment, with the tokens behind it
    module _ (words : List Word) (after : List Token) (end : ℕ) (is : bytes_eq t.text (codes "$(") ≡ true)
        (c : IsClosed old.stating words left after end) (later : t.place + length t.text ≤ end) (stating : new.stating ≡ old.stating)
        (until : new.until ≡ old.until) where
      all_taken : ys ≡ (t ∷ c.body) ++ after
      all_taken = next ∙ ap (λ us. t ∷ us) c.stands

      block_then : IsInBlockUntil gone source after end old.until
      block_then =
          let by : EndBy end (t ∷ c.body) =
          All-cons (λ (u : Token). u.place + length u.text ≤ end) t c.body later c.passed in
          block_skip gone source ys after (t ∷ c.body) at end old.until all_taken (omega arith) by h.block

      splits_then : (more : List Comment) → comments_from old.stating (Some []) left ≡ more ++ comments_from old.stating None after
          → comments source ≡ (h.so_far ++ more) ++ comments_from new.stating None after
      splits_then more splits =
          h.splits
          ∙ ap (λ us. h.so_far ++ comments_from old.stating None us) next
          ∙ ap (λ us. h.so_far ++ us) (opens old.stating t left is ∙ splits)
          ∙ sym (append_assoc h.so_far more (comments_from old.stating None after))
          ∙ ap (λ b. (h.so_far ++ more) ++ comments_from b None after) (sym stating)

      takes : TellsMore cs gone source old.stating left after (seen_texts old.texts.items) (seen_texts new.texts.items)
          → IsWalked cs gone source after end new
      takes m = record {
        front = h.front ++ t ∷ c.body;
        all = h.all ∙ ap (λ us. h.front ++ us) all_taken ∙ sym (append_assoc h.front (t ∷ c.body) after);
        closed = closed_both h.front h.closed (t ∷ c.body) (ap (λ b. in_comment_behind b c.body) is ∙ c.closed);
        so_far = h.so_far ++ m.more;
        splits = splits_then m.more m.splits;
        stay = h.stay ++ m.flags;
        many =
            length-append h.stay m.flags
            ∙ ap (λ n. n + length m.flags) h.many
            ∙ ap (λ n. length h.so_far + n) m.many
            ∙ sym (length-append h.so_far m.more);
        left_out =
            subst (All (IsOfDeleted gone source)) (sym (left_both h.stay m.flags h.so_far m.more h.many))
            (All-append (IsOfDeleted gone source) (kept (map not h.stay) h.so_far) (kept (map not m.flags) m.more) h.left_out m.left_out);
        texts =
            m.texts
            ∙ ap (λ xs. xs ++ map (reading_then cs) (kept m.flags m.more)) h.texts
            ∙ sym (map-append (reading_then cs) (kept h.stay h.so_far) (kept m.flags m.more))
            ∙ ap (map (reading_then cs)) (sym (kept-append h.stay m.flags h.so_far m.more h.many));
        block = subst (IsInBlockUntil gone source after end) (sym until) block_then;
      }

      pub walked_comment : MayStay cs gone old.stating words after end old.until (seen_texts old.texts.items) (seen_texts new.texts.items)
          → IsWalked cs gone source after end new
      walked_comment stays =
          takes (tells cs gone source words left after old.until end (seen_texts old.texts.items) (seen_texts new.texts.items)
          old.stating c block_then stays)

-- where no comment is left
pub texts_walked : (cs : List Change) (gone : List Word) (source : List ℕ) (left : List Token) (at : ℕ) (w : SourceWalk)
    → IsWalked cs gone source left at w → comments_from w.stating None left ≡ [] → AreTexts cs gone source (seen_texts w.texts.items)
texts_walked cs gone source left at w h none =
    let all : h.so_far ≡ comments source = sym (h.splits ∙ ap (λ ys. h.so_far ++ ys) none ∙ append-nil h.so_far) in record {
      stay = h.stay;
      many = h.many ∙ ap length all;
      left_out = subst (λ (xs : List Comment). All (IsOfDeleted gone source) (kept (map not h.stay) xs)) all h.left_out;
      same = h.texts ∙ ap (λ xs. map (reading_then cs) (kept h.stay xs)) all;
    }
