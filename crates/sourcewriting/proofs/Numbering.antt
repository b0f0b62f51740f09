-- The numbers of labels in a compressed proof.
use Rattle.std.proofs.Common.{◌≡◌, ◌∙◌, ◌<◌, ◌+◌, ℕ, zero, suc, List, [], ◌∷◌, ◌++◌, length, map, get_or, sym, ap, subst, inl, inr, append_assoc, arith}
use Rattle.std.specs.Prelude.{All, Contains, Some, slice_get}
use Rattle.std.specs.List.{AllByRecursion}
use Rattle.std.specs.Borrow.{Bor}
use Rattle.std.specs.Option.{option_map}
use Rattle.std.proofs.lemmas.List.{length-map, length-append}
use Rattle.std.proofs.lemmas.List.Elements.{All-from_recursion, recursion_from_All}
use Rattle.std.proofs.lemmas.Option.{slice_get-map, slice_get-get_or}
use Rattle.mmtext.specs.Words.{Word}
use Rattle.mmsyntax.proofs.Items.{get_before}
use Rattle.source.specs.Views.{seen_words}
use Rattle.taking.proofs.Values.{get_last}
use Rattle.sourcewriting.specs.declared.shared.CountedLabel.{CountedLabel}
use Rattle.sourcewriting.specs.Lettered.{counts_behind}
use Rattle.sourcewriting.specs.Named.{IsName, AreNames}
use Rattle.sourcewriting.specs.Reading.{counts_of, labels_in, HaveOneMore, HaveMore}
use Rattle.sourcewriting.proofs.Counted.{all_among}
use Rattle.sourcewriting.proofs.Told.{contained}

-- a label that is found at a place
pub word_at_place : (ws : List (Bor (List ℕ))) (i : ℕ) (d : Bor (List ℕ)) (w : Word) → i < length ws → (get_or ws i d).now ≡ w
    → slice_get (seen_words ws) i ≡ Some w
word_at_place ws i d w within is =
    slice_get-map (λ (w : Bor (List ℕ)). w.now) ws i
    ∙ ap (option_map (λ (w : Bor (List ℕ)). w.now)) (slice_get-get_or ws i d within)
    ∙ ap (λ w. Some w) is

got_left : {A : Type 0} (xs ys : List A) (i : ℕ) (x : A) → slice_get xs i ≡ Some x → slice_get (xs ++ ys) i ≡ Some x
got_left [] ys i x at = absurd cc
got_left (y ∷ xs) ys zero x at = at
got_left (y ∷ xs) ys (suc i) x at = got_left xs ys i x at

-- a mandatory label
pub number_in_front : (mandatory : List Word) (others : List CountedLabel) (place : ℕ) (w : Word) (takes : ℕ)
    → slice_get mandatory place ≡ Some w → (Contains mandatory w → takes ≡ 0)
    → slice_get (counts_behind mandatory others) place ≡ Some (w, takes)
number_in_front mandatory others place w takes at none =
    got_left (map (λ w. (w, 0)) mandatory) (counts_of others) place (w, takes)
    (slice_get-map (λ (w : Word). (w, 0)) mandatory place
    ∙ ap (option_map (λ (w : Word). (w, 0))) at
    ∙ ap (λ (n : ℕ). Some (w, n)) (sym (none (contained mandatory place w at))))

-- another one
pub number_behind : (mandatory : List Word) (old new : List CountedLabel) (w : Word) (takes number : ℕ)
    → counts_of new ≡ counts_of old ++ (w, takes) ∷ [] → number ≡ length mandatory + length old
    → slice_get (counts_behind mandatory new) number ≡ Some (w, takes)
number_behind mandatory old new w takes number more is =
    let front = counts_behind mandatory old in
    let long : number ≡ length front =
    omega (
      arith,
      is,
      length-append (map (λ (w : Word). (w, 0)) mandatory) (counts_of old),
      length-map {B = Word × ℕ} mandatory (λ (w : Word). (w, 0)),
      length-map {B = Word × ℕ} old (λ (c : CountedLabel). (c.label.now, c.takes)),
    ) in
    ap (λ cs. slice_get (map (λ w. (w, 0)) mandatory ++ cs) number) more
    ∙ ap (λ cs. slice_get cs number) (sym (append_assoc (map (λ w. (w, 0)) mandatory) (counts_of old) ((w, takes) ∷ [])))
    ∙ ap (slice_get (front ++ (w, takes) ∷ [])) long
    ∙ get_last front (w, takes)

-- where one more is put behind, the others keep their numbers
pub numbers_stay : (mandatory : List Word) (old new : List CountedLabel) (label : Word) (takes : ℕ) → HaveOneMore old new label takes
    → (k : ℕ) (p : Word × ℕ) → slice_get (counts_behind mandatory old) k ≡ Some p → slice_get (counts_behind mandatory new) k ≡ Some p
numbers_stay mandatory old new label takes (inl same) k p at =
    ap (λ cs. slice_get (map (λ w. (w, 0)) mandatory ++ cs) k) same ∙ at
numbers_stay mandatory old new label takes (inr more) k p at =
    ap (λ cs. slice_get (map (λ w. (w, 0)) mandatory ++ cs) k) more
    ∙ ap (λ cs. slice_get cs k) (sym (append_assoc (map (λ w. (w, 0)) mandatory) (counts_of old) ((label, takes) ∷ [])))
    ∙ get_before (counts_behind mandatory old) (label, takes) p k at

counted_names : (cs : List CountedLabel) → AllByRecursion IsName (labels_in cs) → AllByRecursion (λ p. IsName p.0) (counts_of cs)
counted_names [] h = tt
counted_names (c ∷ cs) h = (h.0, counted_names cs h.1)

named_counts : (cs : List CountedLabel) → AllByRecursion (λ p. IsName p.0) (counts_of cs) → AllByRecursion IsName (labels_in cs)
named_counts [] h = tt
named_counts (c ∷ cs) h = (h.0, named_counts cs h.1)

-- labels among those that are names are names
pub names_among : (words none others : List CountedLabel) → none ≡ [] → HaveMore words none others → AreNames (labels_in words)
    → AreNames (labels_in others)
names_among words none others empty have names =
    let P : Word × ℕ → Type 0 = λ p. IsName p.0 in
    let all : All P (counts_of words) = All-from_recursion P (counts_of words)
    (counted_names words (recursion_from_All IsName (labels_in words) names)) in
    let among : (p : Word × ℕ) → Contains (counts_of others) p → Contains (counts_of words) p = λ p has.
    have.among p (subst (λ ps. Contains ps p) (have.behind ∙ ap (λ cs. counts_of cs ++ have.others) empty) has) in
    All-from_recursion IsName (labels_in others)
    (named_counts others (recursion_from_All P (counts_of others) (all_among P (counts_of others) (counts_of words) among all)))

-- how many labels are counted
pub counted_long : (mandatory : List Word) (counted others : List CountedLabel) → counts_of counted ≡ counts_behind mandatory others
    → length counted ≡ length mandatory + length others
counted_long mandatory counted others are =
    sym (length-map {B = Word × ℕ} counted (λ (c : CountedLabel). (c.label.now, c.takes)))
    ∙ ap length are
    ∙ length-append (map (λ (w : Word). (w, 0)) mandatory) (counts_of others)
    ∙ ap (λ n. n + length (counts_of others)) (length-map {B = Word × ℕ} mandatory (λ (w : Word). (w, 0)))
    ∙ ap (λ n. length mandatory + n) (length-map {B = Word × ℕ} others (λ (c : CountedLabel). (c.label.now, c.takes)))
