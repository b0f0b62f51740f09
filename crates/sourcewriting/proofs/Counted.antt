-- Labels with how many entries they take.
use Rattle.std.proofs.Common.{◌<◌, ℕ, get_or, length, List, [], ◌∷◌, ◌++◌, sym, ap, subst, ◌∙◌, inl, inr, append_assoc, append-nil, arith}
use Rattle.std.specs.Prelude.{All, Contains}
use Rattle.std.proofs.lemmas.List.Elements.{Contains-push_cases, Contains-get_or, All-contains, All-push}
use Rattle.std.proofs.lemmas.List.{length-map, get_or-map}
use Rattle.mmtext.specs.Words.{Word}
use Rattle.sourcewriting.specs.declared.shared.CountedLabel.{CountedLabel}
use Rattle.sourcewriting.specs.Reading.{counts_of, HaveOneMore, HaveMore}

-- none is put behind others yet
pub none_more : (words old : List CountedLabel) → HaveMore words old old
none_more words old = record { others = []; behind = sym (append-nil (counts_of old)); among = λ p has. absurd (omega (arith, has.1)) }

-- one more of them is, or not
pub one_more : (words old now new : List CountedLabel) (label : Word) (takes : ℕ) → Contains (counts_of words) (label, takes)
    → HaveMore words old now → HaveOneMore now new label takes → HaveMore words old new
one_more words old now new label takes has was (inl same) = record { others = was.others; behind = same ∙ was.behind; among = was.among }
one_more words old now new label takes has was (inr more) = record {
  others = was.others ++ (label, takes) ∷ [];
  behind =
      more
      ∙ ap (λ ps. ps ++ (label, takes) ∷ []) was.behind
      ∙ append_assoc (counts_of old) was.others ((label, takes) ∷ []);
  among = λ p is.
      elim (Contains-push_cases was.others (label, takes) p is) [
        | inl there ↦ was.among p there
        | inr same ↦ subst (Contains (counts_of words)) same has
      ];
}

-- what is so of some is so of those among them
pub all_among : (P : Word × ℕ → Type 0) (xs ys : List (Word × ℕ)) → ((p : Word × ℕ) → Contains xs p → Contains ys p) → All P ys → All P xs
all_among P xs ys among a k d h = All-contains P ys _ a (among _ (Contains-get_or xs k d h))

-- and of one more
pub all_one_more : (P : Word × ℕ → Type 0) (old new : List CountedLabel) (label : Word) (takes : ℕ) → All P (counts_of old)
    → P (label, takes) → HaveOneMore old new label takes → All P (counts_of new)
all_one_more P old new label takes a h (inl same) = subst (All P) (sym same) a
all_one_more P old new label takes a h (inr more) = subst (All P) (sym more) (All-push P (counts_of old) (label, takes) a h)

-- the one at a place is one of them
pub one_more_at : (words old now new : List CountedLabel) (place : ℕ) (d : CountedLabel) → place < length words → HaveMore words old now
    → HaveOneMore now new (get_or words place d).label.now (get_or words place d).takes → HaveMore words old new
one_more_at words old now new place d h was more =
    let c = get_or words place d in
    let pair : CountedLabel → Word × ℕ = λ c. (c.label.now, c.takes) in
    let within : place < length (counts_of words) = omega (arith, length-map words pair) in
    let has : Contains (counts_of words) (c.label.now, c.takes) = (place, within, get_or-map pair words place d (pair c) h) in
    one_more words old now new c.label.now c.takes has was more
