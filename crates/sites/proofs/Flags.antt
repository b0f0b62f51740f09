-- Flags of words, one after the other.
use Rattle.std.proofs.Common.{◌≡◌, ◌∙◌, ℕ, suc, ◌+◌, ◌<◌, Bool, true, false, cond, List, [], ◌∷◌, ◌++◌, length, take, drop, map, get_or}
use Rattle.std.proofs.Common.{refl, sym, ap, subst, inl, inr, arith}
use Rattle.std.specs.Prelude.{◌||◌, ◌&&◌, IsTrue, reverse}
use Rattle.std.specs.List.{list_any, list_all, zip}
use Rattle.std.specs.Str.{bytes_eq}
use Rattle.std.specs.Borrow.{Bor}
use Rattle.std.specs.HashSet as bag
use Rattle.std.specs.HashSet.{HashSet}
use Rattle.std.specs.declared.random_state.RandomState.{RandomState}
use Rattle.std.proofs.lemmas.Bool.{cases_Bool, cond-true, cond-false, and_from, and_parts, or_left, or_right}
use Rattle.std.proofs.lemmas.Bool.Decides.{same_from_decides}
use Rattle.std.proofs.lemmas.List.{map_more, map-append, reverse-append}
use Rattle.std.proofs.Math.Seq.{drop-cons}
use Rattle.std.proofs.lemmas.List.Folds.{list_any-append}
use Rattle.mmtext.specs.Words.{Word, has_hypothesis_form}
use Rattle.mmsyntax.specs.Dotted.{is_dotted, trunk}
use Rattle.mmsyntax.proofs.DottedWords.{dotted_trunk}
use Rattle.mmsyntax.proofs.Names.{bytes_eq-same, same_bytes}
use Rattle.source.specs.Scopes.{Scope, is_in}
use Rattle.source.specs.Views.{has, seen_words}
use Rattle.source.proofs.Lent.{has_more}
use Rattle.taking.specs.Names.{is_named_well, is_fresh, are_variables_named_well}
use Rattle.taking.specs.Fresh.{is_named_by, AreGiven}
use mathlib.Core.Bool.{not}
use Rattle.std.specs.Prelude.{Vec}
use Rattle.std.specs.declared.alloc.Global.{Global}
use Rattle.std.specs.Map.{IsKeyTest, AreApart}
use Rattle.std.specs.Set.{KeepsOthers}
use Rattle.std.proofs.lemmas.Cmp.{nat_list_eq_equiv}
use Rattle.sites.specs.Changes.{has_given, variables_changing, HasTrunks}

-- one more word's flag
pub flags_more : (P : Word → Bool) (words : List (Bor (List ℕ))) (i : ℕ) (d : Bor (List ℕ)) → i < length words
    → map P (seen_words (take (i + 1) words)) ≡ map P (seen_words (take i words)) ++ P (get_or words i d).now ∷ []
flags_more P words i d h =
    ap (map P) (map_more (λ (w : Bor (List ℕ)). w.now) words i d h)
    ∙ map-append P (seen_words (take i words)) ((get_or words i d).now ∷ [])

-- ---- variables, from the last to the first

or_swap : (a b : Bool) → (a || b) ≡ (b || a)
or_swap true true = refl
or_swap true false = refl
or_swap false true = refl
or_swap false false = refl

module _ (words : List (Bor (List ℕ))) (left place : ℕ) (d : Bor (List ℕ)) (within : left < length words) (next : place ≡ suc left) where
  -- the words from a place on
  front_is : seen_words (drop left words) ≡ (get_or words left d).now ∷ seen_words (drop place words)
  front_is =
      ap (λ ws. seen_words ws) (drop-cons words left d within)
      ∙ ap (λ n. (get_or words left d).now ∷ seen_words (drop n words)) (sym next)

  -- one more variable's flag
  pub variable_more : (flags : List Bool) → reverse flags ≡ variables_changing (seen_words (drop place words)) → (b : Bool)
      → b ≡ (has_hypothesis_form (get_or words left d).now || is_in (seen_words (drop place words)) (get_or words left d).now)
      → reverse (flags ++ b ∷ []) ≡ variables_changing (seen_words (drop left words))
  variable_more flags so b is =
      reverse-append flags (b ∷ [])
      ∙ ap (λ c. c ∷ reverse flags) is
      ∙ ap
      (λ bs. (has_hypothesis_form (get_or words left d).now || is_in (seen_words (drop place words)) (get_or words left d).now) ∷ bs) so
      ∙ ap variables_changing (sym front_is)

  -- one more word of a set of those behind
  pub later_more : (s n : HashSet (Bor (List ℕ)) RandomState) (x : Word) → x ≡ (get_or words left d).now
      → bag.UpdatesBy (λ x y. bytes_eq x.now y.now) (λ k. bytes_eq x k.now) s n true
      → ((w : Word) → has s w ≡ is_in (seen_words (drop place words)) w) → (w : Word) → has n w ≡ is_in (seen_words (drop left words)) w
  later_more s n x is h so w =
      has_more s n x h w
      ∙ ap (λ b. b || bytes_eq w x) (so w)
      ∙ or_swap (is_in (seen_words (drop place words)) w) (bytes_eq w x)
      ∙ ap (λ v. bytes_eq w v || is_in (seen_words (drop place words)) w) is
      ∙ ap (λ us. is_in us w) (sym front_is)

-- ---- sets of words

or_last : (b c : Bool) → (b || (c || false)) ≡ (b || c)
or_last true c = refl
or_last false true = refl
or_last false false = refl

-- one more word of a set of the words so far
pub set_more : (s n : HashSet (Bor (List ℕ)) RandomState) (ws : List Word) (x : Word)
    → bag.UpdatesBy (λ x y. bytes_eq x.now y.now) (λ k. bytes_eq x k.now) s n true
    → ((w : Word) → has s w ≡ is_in ws w) → (w : Word) → has n w ≡ is_in (ws ++ x ∷ []) w
set_more s n ws x h so w =
    has_more s n x h w
    ∙ ap (λ b. b || bytes_eq w x) (so w)
    ∙ sym (or_last (is_in ws w) (bytes_eq w x))
    ∙ sym (list_any-append (bytes_eq w) ws (x ∷ []))

-- ---- L.k beside L

pub any_of : (test : Word → Bool) (w : Word) → test w ≡ true → (ls : List Word) → is_in ls w ≡ true → list_any test ls ≡ true
any_of test w passes [] h = absurd cc
any_of test w passes (l ∷ ls) h =
    elim (cases_Bool (bytes_eq w l)) [
      | inl y ↦ or_left (test l) (list_any test ls) (ap test (sym (same_bytes w l y)) ∙ passes)
      | inr n ↦ or_right (test l) (list_any test ls) (any_of test w passes ls (ap (λ b. b || is_in ls w) (sym n) ∙ h))
    ]

trunk_of_any : (w : Word) (ls : List Word) → list_any (λ l. is_dotted l w) ls ≡ true → (is_dotted (trunk w) w && is_in ls (trunk w)) ≡ true
trunk_of_any w [] h = absurd cc
trunk_of_any w (l ∷ ls) h =
    elim (cases_Bool (is_dotted l w)) [
      | inl y ↦
          let is : trunk w ≡ l = dotted_trunk l w y in
          and_from (is_dotted (trunk w) w) (is_in (l ∷ ls) (trunk w)) (ap (λ t. is_dotted t w) is ∙ y)
          (or_left (bytes_eq (trunk w) l) (is_in ls (trunk w)) (ap (λ t. bytes_eq t l) is ∙ bytes_eq-same l))
      | inr n ↦
          let rest = and_parts (is_dotted (trunk w) w) (is_in ls (trunk w))
          (trunk_of_any w ls (ap (λ b. b || list_any (λ l. is_dotted l w) ls) (sym n) ∙ h)) in
          and_from (is_dotted (trunk w) w) (is_in (l ∷ ls) (trunk w)) rest.0
          (or_right (bytes_eq (trunk w) l) (is_in ls (trunk w)) rest.1)
    ]

-- a word is L.k for a label L of some, where its trunk is one that it isn't itself
pub dotted_among : (w : Word) (ls : List Word) → (is_dotted (trunk w) w && is_in ls (trunk w)) ≡ list_any (λ l. is_dotted l w) ls
dotted_among w ls =
    same_from_decides {P = list_any (λ l. is_dotted l w) ls ≡ true} (is_dotted (trunk w) w && is_in ls (trunk w))
    (list_any (λ l. is_dotted l w) ls) (
      λ h. let b = and_parts (is_dotted (trunk w) w) (is_in ls (trunk w)) h in any_of (λ l. is_dotted l w) (trunk w) b.0 ls b.1,
      trunk_of_any w ls,
    )
    (λ h. h, λ h. h)

-- ---- names that were given

named_one : (free : Word → Bool) (s : Scope) → ((w : Word) → free w ≡ true → is_fresh s w ≡ true) → (b : Bool) (w name : Word)
    → is_named_by free b w name ≡ true → is_named_well s b (w, name) ≡ true
named_one free s fresh true w name h = fresh name h
named_one free s fresh false w name h = h

pub all_named : (free : Word → Bool) (s : Scope) → ((w : Word) → free w ≡ true → is_fresh s w ≡ true) → (test : Word → Bool)
    (words names : List Word) → length names ≡ length words
    → ((k : ℕ) → k < length words
    → IsTrue (is_named_by free (get_or (map test words) k false) (get_or words k []) (get_or names k [])))
    → list_all (λ p. is_named_well s (test p.0) p) (zip words names) ≡ true
all_named free s fresh test [] [] many h = refl
all_named free s fresh test [] (n ∷ ns) many h = refl
all_named free s fresh test (w ∷ ws) [] many h = refl
all_named free s fresh test (w ∷ ws) (n ∷ ns) many h =
    and_from (is_named_well s (test w) (w, n)) (list_all (λ p. is_named_well s (test p.0) p) (zip ws ns))
    (named_one free s fresh (test w) w n (h 0 (omega arith)))
    (all_named free s fresh test ws ns (omega arith) (λ k lt. h (suc k) (omega arith)))

-- the words of words with their names
firsts : (words names : List Word) → length names ≡ length words → map (λ p. p.0) (zip words names) ≡ words
firsts [] [] many = refl
firsts [] (n ∷ ns) many = refl
firsts (w ∷ ws) [] many = absurd (omega arith)
firsts (w ∷ ws) (n ∷ ns) many = ap (λ vs. w ∷ vs) (firsts ws ns (omega arith))

pub variables_named : (free : Word → Bool) (s : Scope) → ((w : Word) → free w ≡ true → is_fresh s w ≡ true)
    → (words names : List Word) → length names ≡ length words
    → ((k : ℕ) → k < length words
    → IsTrue (is_named_by free (get_or (variables_changing words) k false) (get_or words k []) (get_or names k [])))
    → are_variables_named_well s (zip words names) ≡ true
variables_named free s fresh [] [] many h = refl
variables_named free s fresh [] (n ∷ ns) many h = refl
variables_named free s fresh (w ∷ ws) [] many h = absurd (omega arith)
variables_named free s fresh (w ∷ ws) (n ∷ ns) many h =
    let behind : List Word = map (λ p. p.0) (zip ws ns) in
    let one : is_named_well s (has_hypothesis_form w || is_in ws w) (w, n) ≡ true =
    named_one free s fresh (has_hypothesis_form w || is_in ws w) w n (h 0 (omega arith)) in
    and_from (is_named_well s (has_hypothesis_form w || is_in behind w) (w, n)) (are_variables_named_well s (zip ws ns))
    (ap (λ us. is_named_well s (has_hypothesis_form w || is_in us w) (w, n)) (firsts ws ns (omega arith)) ∙ one)
    (variables_named free s fresh ws ns (omega arith) (λ k lt. h (suc k) (omega arith)))

-- ---- what is free

-- what was given is not free any more
pub given_more : (f t b c d : Bool) → (f && (not t && (not (cond b true c) && not d))) ≡ ((f && (not t && (not c && not d))) && not b)
given_more false t b c d = refl
given_more true true b c d = refl
given_more true false true true d = refl
given_more true false true false true = refl
given_more true false true false false = refl
given_more true false false true d = refl
given_more true false false false true = refl
given_more true false false false false = refl

module _ {K : Type 0} (eq : K → K → Bool) (test : K → Bool) where
  other_keys : (old new : List K) → KeepsOthers eq test old new → (other : K → Bool) → IsKeyTest eq other → AreApart test other
      → list_any other new ≡ list_any other old
  unfolding KeepsOthers
  other_keys old new h = h

-- a set of bytes with one more
pub given_has : (bs : Word) (s n : HashSet (Vec ℕ Global) RandomState)
    → bag.UpdatesBy (λ x y. bytes_eq x.items y.items) (λ k. bytes_eq bs k.items) s n true
    → (cs : Word) → has_given n cs ≡ cond (bytes_eq bs cs) true (has_given s cs)
given_has bs s n h cs =
    elim (cases_Bool (bytes_eq bs cs)) [
      | inl y ↦
          subst (λ l. has_given n l ≡ true) (same_bytes bs cs y) h.1
          ∙ sym (cond-true (bytes_eq bs cs) true (has_given s cs) y)
      | inr e ↦
          other_keys _ _ _ _ h.3 _ (λ x y. nat_list_eq_equiv.congr cs x.items y.items)
          (λ q y. nat_list_eq_equiv.symm cs q.items ∙ sym (nat_list_eq_equiv.congr bs q.items cs y) ∙ e)
          ∙ sym (cond-false (bytes_eq bs cs) true (has_given s cs) e)
    ]

-- one more trunk
pub trunks_more : (s n : HashSet (Bor (List ℕ)) RandomState) (ws : List Word) (x t : Word) → t ≡ trunk x
    → bag.UpdatesBy (λ x y. bytes_eq x.now y.now) (λ k. bytes_eq t k.now) s n true → HasTrunks s ws → HasTrunks n (ws ++ x ∷ [])
trunks_more s n ws x t is h all l =
    has_more s n t h l
    ∙ ap (λ b. b || bytes_eq l t) (all l)
    ∙ ap (λ u. is_in (map trunk ws) l || bytes_eq l u) is
    ∙ sym (or_last (is_in (map trunk ws) l) (bytes_eq l (trunk x)))
    ∙ sym (list_any-append (bytes_eq l) (map trunk ws) (trunk x ∷ []))
    ∙ ap (λ us. is_in us l) (sym (map-append trunk ws (x ∷ [])))

-- the trunk of a label is there
trunk_in : (ws : List Word) (w : Word) → is_in ws w ≡ true → is_in (map trunk ws) (trunk w) ≡ true
trunk_in [] w h = absurd cc
trunk_in (v ∷ vs) w h = elim (cases_Bool (bytes_eq w v)) [
  | inl y ↦
      or_left (bytes_eq (trunk w) (trunk v)) (is_in (map trunk vs) (trunk w))
      (ap (λ u. bytes_eq (trunk w) (trunk u)) (sym (same_bytes w v y)) ∙ bytes_eq-same (trunk w))
  | inr n ↦
      or_right (bytes_eq (trunk w) (trunk v)) (is_in (map trunk vs) (trunk w))
      (trunk_in vs w (ap (λ b. b || is_in vs w) (sym n) ∙ h))
]

-- so a set of trunks has the L of a label L.k
pub has_trunk : (set : HashSet (Bor (List ℕ)) RandomState) (labels : List Word) → HasTrunks set labels → (l w : Word)
    → is_in labels w ≡ true → is_dotted l w ≡ true → has set l ≡ true
has_trunk set labels all l w in' dotted =
    all l ∙ ap (is_in (map trunk labels)) (sym (dotted_trunk l w dotted)) ∙ trunk_in labels w in'

-- what is free is fresh, has no dot, and is no trunk
pub free_parts : (f t g d : Bool) → (f && (not t && (not g && not d))) ≡ true → (f ≡ true) × (t ≡ false) × (d ≡ false)
free_parts true false false false h = (refl, refl, refl)
free_parts true false false true h = absurd cc
free_parts true false true d h = absurd cc
free_parts true true g d h = absurd cc
free_parts false t g d h = absurd cc

pub length-variables_changing : (ws : List Word) → length (variables_changing ws) ≡ length ws
length-variables_changing [] = refl
length-variables_changing (w ∷ ws) = ap (λ n. suc n) (length-variables_changing ws)

-- so are names that were given
pub given_named : (s : Scope) {free : Word → Bool} {changes : List Bool} {words names : List Word} → AreGiven free changes words names
    → (test : Word → Bool) → changes ≡ map test words → ((w : Word) → free w ≡ true → is_fresh s w ≡ true)
    → list_all (λ p. is_named_well s (test p.0) p) (zip words names) ≡ true
given_named s {free} {changes} {words} {names} given test are fresh =
    all_named free s fresh test words names given.as_many
    (λ k lt. subst (λ (bs : List Bool). IsTrue (is_named_by free (get_or bs k false) (get_or words k []) (get_or names k []))) are
    (given.named k lt))

pub given_variables : (s : Scope) {free : Word → Bool} {changes : List Bool} {words names : List Word} → AreGiven free changes words names
    → changes ≡ variables_changing words → ((w : Word) → free w ≡ true → is_fresh s w ≡ true)
    → are_variables_named_well s (zip words names) ≡ true
given_variables s {free} {changes} {words} {names} given are fresh =
    variables_named free s fresh words names given.as_many
    (λ k lt. subst (λ (bs : List Bool). IsTrue (is_named_by free (get_or bs k false) (get_or words k []) (get_or names k []))) are
    (given.named k lt))
