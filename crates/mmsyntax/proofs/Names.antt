-- What the map of names finds after a change of the tables.
use Rattle.std.proofs.Common.{◌≡◌, ℕ, suc, ◌<◌, ◌≤◌, Bool, true, false, cond, eqb, List, [], ◌∷◌, ◌++◌, length, get_or, Option, Some}
use Rattle.std.proofs.Common.{None, Vec, refl, sym, ap, subst, ◌∙◌, inl, inr, arith, length-append}
use Rattle.std.specs.Option.{option_map, option_or, is_some, IsSome}
use Rattle.std.specs.Prelude.{◌||◌}
use Rattle.std.specs.Str.{bytes_eq}
use Rattle.std.specs.HashMap as hash
use Rattle.std.specs.HashMap.{HashMap}
use Rattle.std.specs.Map.{KeepsOthers}
use Rattle.std.specs.declared.alloc.Global.{Global}
use Rattle.std.specs.declared.random_state.RandomState.{RandomState}
use Rattle.std.proofs.lemmas.Bool.{cases_Bool, cond-true, cond-false}
use Rattle.std.proofs.lemmas.Bool.Decides.{eqb_tells}
use Rattle.std.proofs.lemmas.Slice.Eq.{bytes_eq-Decides}
use Rattle.std.proofs.lemmas.Cmp.{nat_list_eq_equiv}
pub use Rattle.mmtext.proofs.Marks.{same_word as same_bytes}
use Rattle.mmsyntax.specs.declared.statement.Float.{Float}
use Rattle.mmsyntax.specs.declared.symbols.Name.{Name}
use Rattle.mmsyntax.specs.declared.symbols.Name.TheVariants.{Constant, Variable, Label}
use Rattle.mmsyntax.specs.Tables.{Tables, place_of, float_of, named, meaning}
use Rattle.mmsyntax.specs.Indexes.{AreTyped, IsSymbolTable}

-- ---- a map whose keys are byte vectors

pub bytes_eq-same : (a : List ℕ) → bytes_eq a a ≡ true
bytes_eq-same a = (bytes_eq-Decides a a).1 refl

pub bytes_eq-sym : (a b : List ℕ) → bytes_eq a b ≡ bytes_eq b a
bytes_eq-sym a b = nat_list_eq_equiv.symm a b

pub apart : (bs cs ks : List ℕ) → bytes_eq bs cs ≡ false → bytes_eq bs ks ≡ true → bytes_eq cs ks ≡ false
apart bs cs ks n y = nat_list_eq_equiv.symm cs ks ∙ sym (nat_list_eq_equiv.congr bs ks cs y) ∙ n

-- what is found at any bytes after a change at the bytes bs
pub after_update : {X S : Type 0} (bs : List ℕ) (m n : HashMap (Vec ℕ Global) X S) (w : Option X)
    → hash.UpdatesBy (λ x y. bytes_eq x.items y.items) (λ x. bytes_eq bs x.items) m n w
    → (cs : List ℕ) → hash.get_by (λ q. bytes_eq cs q.items) n ≡ cond (bytes_eq bs cs) w (hash.get_by (λ q. bytes_eq cs q.items) m)
unfolding KeepsOthers
after_update bs m n w h cs =
    elim (cases_Bool (bytes_eq bs cs)) [
      | inl y ↦ subst (λ l. hash.get_by (λ q. bytes_eq l q.items) n ≡ w) (same_bytes bs cs y) h.1
          ∙ sym (cond-true (bytes_eq bs cs) w (hash.get_by (λ q. bytes_eq cs q.items) m) y)
      | inr e ↦ h.3 (λ q. bytes_eq cs q.items) (λ x y. nat_list_eq_equiv.congr cs x.items y.items) (λ q. apart bs cs q.items e)
          ∙ sym (cond-false (bytes_eq bs cs) w (hash.get_by (λ q. bytes_eq cs q.items) m) e)
    ]

pub ne-eqb : (a b : ℕ) → (a ≡ b → ⊥) → eqb a b ≡ false
ne-eqb a b h = elim (eqb_tells a b) [ inl y ↦ absurd (h y.1) | inr n ↦ n.0 ]

eqb-refl : (a : ℕ) → eqb a a ≡ true
eqb-refl a = elim (eqb_tells a a) [ inl y ↦ y.0 | inr n ↦ absurd (n.1 refl) ]

-- ---- places in a list

push_suc : (b : Bool) (n : ℕ) (o : Option ℕ) → option_map (λ n. suc n) (option_or o (cond b (Some n) None))
    ≡ option_or (option_map (λ n. suc n) o) (cond b (Some (suc n)) None)
push_suc true n None = refl
push_suc false n None = refl
push_suc b n (Some m) = refl

pub place_of-push : {A : Type 0} (test : A → Bool) (xs : List A) (x : A)
    → place_of test (xs ++ x ∷ []) ≡ option_or (place_of test xs) (cond (test x) (Some (length xs)) None)
place_of-push test [] x = refl
place_of-push test (y ∷ ys) x =
    let later = ap (λ o. option_map (λ n. suc n) o) (place_of-push test ys x) ∙ push_suc (test x) (length ys) (place_of test ys) in
    elim (test y) as (λ b. cond b (Some 0) (option_map (λ n. suc n) (place_of test (ys ++ x ∷ [])))
    ≡ option_or (cond b (Some 0) (option_map (λ n. suc n) (place_of test ys))) (cond (test x) (Some (suc (length ys))) None)) [
      | true ↦ refl
      | false ↦ later
    ]

pub option_or-none : {A : Type 0} (o : Option A) → option_or o None ≡ o
option_or-none None = refl
option_or-none (Some x) = refl

place_step : {A : Type 0} (test : A → Bool) (xs : List A) (o : Option ℕ) (i : ℕ) → place_of test xs ≡ o → option_map (λ n. suc n) o ≡ Some i
    → (j : ℕ) × (o ≡ Some j) × (i ≡ suc j)
place_step test xs None i e h = absurd cc
place_step test xs (Some j) i e h = (j, refl, cc)

-- the item at the place passes, and the place is within
pub place_of-at : {A : Type 0} (test : A → Bool) (xs : List A) (i : ℕ) (d : A) → place_of test xs ≡ Some i
    → (i < length xs) × (test (get_or xs i d) ≡ true)
place_of-at test [] i d h = absurd cc
place_of-at {A} test (x ∷ xs) i d h =
    elim (cases_Bool (test x)) [
      | inl y ↦
          let e : cond (test x) (Some 0) (option_map (λ n. suc n) (place_of test xs)) ≡ Some 0 = cond-true (test x) (Some 0) _ y in
          let z : i ≡ 0 = cc in
          subst (λ (k : ℕ). (k < suc (length xs)) × (test (get_or (x ∷ xs) k d) ≡ true)) (sym z) (omega arith, y)
      | inr n ↦
          let e : cond (test x) (Some 0) (option_map (λ n. suc n) (place_of test xs)) ≡ option_map (λ n. suc n) (place_of test xs) =
          cond-false (test x) (Some 0) _ n in
          let p = place_step test xs (place_of test xs) i refl (sym e ∙ h) in
          let rest = place_of-at test xs p.0 d p.1 in
          subst (λ (k : ℕ). (k < suc (length xs)) × (test (get_or (x ∷ xs) k d) ≡ true)) (sym p.2) (omega (arith, rest.0), rest.1)
    ]

-- one place is one word
pub same_place : (a b : List ℕ) (ws : List (List ℕ)) (i : ℕ) → place_of (bytes_eq a) ws ≡ Some i → place_of (bytes_eq b) ws ≡ Some i → a ≡ b
same_place a b ws i p q = same_bytes a (get_or ws i []) (place_of-at (bytes_eq a) ws i [] p).1
    ∙ sym (same_bytes b (get_or ws i []) (place_of-at (bytes_eq b) ws i [] q).1)

-- ---- the meaning of words with one more constant, variable or $f

none_named : (fs : List Float) (c v l : Option ℕ) → named fs c v l ≡ None → (c ≡ None) × (v ≡ None) × (l ≡ None)
none_named fs None None None h = (refl, refl, refl)
none_named fs None None (Some j) h = absurd cc
none_named fs None (Some i) l h = absurd cc
none_named fs (Some i) v l h = absurd cc

constant_named : (fs : List Float) (b : Bool) (n : ℕ) (c v l : Option ℕ) → (b ≡ true → c ≡ None)
    → named fs (option_or c (cond b (Some n) None)) v l ≡ cond b (Some (Constant n)) (named fs c v l)
constant_named fs true n None v l h = refl
constant_named fs false n None v l h = refl
constant_named fs false n (Some i) v l h = refl
constant_named fs true n (Some i) v l h = let e : Some i ≡ None = h refl in absurd cc

pub meaning-constant : (t : Tables) (w q : List ℕ) → meaning t w ≡ None
    → meaning (record t { constants = t.constants ++ w ∷ [] }) q ≡ cond (bytes_eq w q) (Some (Constant (length t.constants))) (meaning t q)
unfolding meaning
meaning-constant t w q new =
    let v = place_of (bytes_eq q) t.variables in
    let l = place_of (λ f. bytes_eq q f.label) t.floats in
    let none : bytes_eq w q ≡ true → place_of (bytes_eq q) t.constants ≡ None =
    λ y. subst (λ x. place_of (bytes_eq x) t.constants ≡ None) (same_bytes w q y) (none_named t.floats _ _ _ new).0 in
    ap (λ c. named t.floats c v l) (place_of-push (bytes_eq q) t.constants w
    ∙ ap (λ b. option_or (place_of (bytes_eq q) t.constants) (cond b (Some (length t.constants)) None)) (bytes_eq-sym q w))
    ∙ constant_named t.floats (bytes_eq w q) (length t.constants) (place_of (bytes_eq q) t.constants) v l none

pub indexed-constant : (m n : HashMap (Vec ℕ Global) Name RandomState) (k : Vec ℕ Global) (t : Tables) (w : List ℕ) (place : ℕ)
    (after : List (List ℕ))
    → IsSymbolTable m t → length t.constants < 65535 → meaning t w ≡ None → k.items ≡ w → place ≡ length t.constants
    → after ≡ t.constants ++ w ∷ []
    → hash.Updates (λ x y. bytes_eq x.items y.items) m n k (Some (Constant place)) → IsSymbolTable n (record t { constants = after })
indexed-constant m n k t w place after at_m room new key at_end pushed h = record {
  indexed = λ q.
      after_update k.items m n (Some (Constant place)) h q
      ∙ ap (λ x. cond (bytes_eq x q) (Some (Constant place)) (hash.get_by (λ x. bytes_eq q x.items) m)) key
      ∙ ap (λ p. cond (bytes_eq w q) (Some (Constant p)) (hash.get_by (λ x. bytes_eq q x.items) m)) at_end
      ∙ ap (λ f. cond (bytes_eq w q) (Some (Constant (length t.constants))) f) (at_m.indexed q)
      ∙ sym (meaning-constant t w q new)
      ∙ ap (λ cs. meaning (record t { constants = cs }) q) (sym pushed);
  typed = at_m.typed;
  few = at_m.few;
  few_constants = omega (arith, ap length pushed, length-append t.constants (w ∷ []), room);
}

-- ---- variables

is_none : {A : Type 0} (x : A) → Some x ≡ None → ⊥
is_none x h = absurd cc

variable_named : (fs : List Float) (b : Bool) (n : ℕ) (c v l : Option ℕ) → (b ≡ true → (c ≡ None) × (v ≡ None)) → float_of fs n ≡ None
    → named fs c (option_or v (cond b (Some n) None)) l ≡ cond b (Some (Variable n None)) (named fs c v l)
variable_named fs b n (Some i) v l h none = elim (cases_Bool b)
    [ inl y ↦ absurd (is_none i (h y).0) | inr e ↦ sym (cond-false b (Some (Variable n None)) (Some (Constant i)) e) ]
variable_named fs b n None (Some i) l h none = elim
    (cases_Bool b) [
      | inl y ↦ absurd (is_none i (h y).1)
      | inr e ↦
          sym (cond-false b (Some (Variable n None)) (Some (Variable i (float_of fs i))) e)
    ]
variable_named fs true n None None l h none = ap (λ o. Some (Variable n o)) none
variable_named fs false n None None l h none = refl

-- no $f is of a variable past the end
pub not_typed : (fs : List Float) (n m : ℕ) → n ≤ m → AreTyped fs n → float_of fs m ≡ None
not_typed [] n m le h = refl
not_typed (f ∷ fs) n m le h =
    let apart : eqb f.variable m ≡ false = ne-eqb f.variable m (let lt : f.variable < n = h.0 in omega arith) in
    cond-false (eqb f.variable m) (Some 0) (option_map (λ n. suc n) (float_of fs m)) apart
    ∙ ap (λ o. option_map (λ n. suc n) o) (not_typed fs n m le h.1)

pub typed-more : (fs : List Float) (n m : ℕ) → n ≤ m → AreTyped fs n → AreTyped fs m
typed-more [] n m le h = tt
typed-more (f ∷ fs) n m le h = (let lt : f.variable < n = h.0 in omega arith, typed-more fs n m le h.1)

pub typed-push : (fs : List Float) (f : Float) (n : ℕ) → AreTyped fs n → f.variable < n → AreTyped (fs ++ f ∷ []) n
typed-push [] f n h lt = (lt, tt)
typed-push (g ∷ gs) f n h lt = (h.0, typed-push gs f n h.1 lt)

pub meaning-variable : (t : Tables) (w q : List ℕ) → AreTyped t.floats (length t.variables) → meaning t w ≡ None
    → meaning (record t { variables = t.variables ++ w ∷ [] }) q
    ≡ cond (bytes_eq w q) (Some (Variable (length t.variables) None)) (meaning t q)
unfolding meaning
meaning-variable t w q typed new =
    let c = place_of (bytes_eq q) t.constants in
    let l = place_of (λ f. bytes_eq q f.label) t.floats in
    let none : bytes_eq w q ≡ true → (c ≡ None) × (place_of (bytes_eq q) t.variables ≡ None) =
    λ y. subst (λ x. (place_of (bytes_eq x) t.constants ≡ None) × (place_of (bytes_eq x) t.variables ≡ None)) (same_bytes w q y)
    (let n = none_named t.floats _ _ _ new in (n.0, n.1)) in
    ap (λ v. named t.floats c v l) (place_of-push (bytes_eq q) t.variables w
    ∙ ap (λ b. option_or (place_of (bytes_eq q) t.variables) (cond b (Some (length t.variables)) None)) (bytes_eq-sym q w))
    ∙ variable_named t.floats (bytes_eq w q) (length t.variables) c (place_of (bytes_eq q) t.variables) l none
    (not_typed t.floats (length t.variables) (length t.variables) (omega arith) typed)

pub indexed-variable : (m n : HashMap (Vec ℕ Global) Name RandomState) (k : Vec ℕ Global) (t : Tables) (w : List ℕ) (place : ℕ)
    (after : List (List ℕ))
    → IsSymbolTable m t → meaning t w ≡ None → k.items ≡ w → place ≡ length t.variables → after ≡ t.variables ++ w ∷ []
    → hash.Updates (λ x y. bytes_eq x.items y.items) m n k (Some (Variable place None)) → IsSymbolTable n (record t { variables = after })
indexed-variable m n k t w place after at_m new key at_end pushed h = record {
  indexed = λ q.
      after_update k.items m n (Some (Variable place None)) h q
      ∙ ap (λ x. cond (bytes_eq x q) (Some (Variable place None)) (hash.get_by (λ x. bytes_eq q x.items) m)) key
      ∙ ap (λ p. cond (bytes_eq w q) (Some (Variable p None)) (hash.get_by (λ x. bytes_eq q x.items) m)) at_end
      ∙ ap (λ f. cond (bytes_eq w q) (Some (Variable (length t.variables) None)) f) (at_m.indexed q)
      ∙ sym (meaning-variable t w q at_m.typed new)
      ∙ ap (λ vs. meaning (record t { variables = vs }) q) (sym pushed);
  typed = subst (λ vs. AreTyped t.floats (length vs)) (sym pushed)
      (typed-more t.floats (length t.variables) (length (t.variables ++ w ∷ []))
      (omega (arith, length-append t.variables (w ∷ []))) at_m.typed);
  few = at_m.few;
  few_constants = at_m.few_constants;
}

-- ---- $f

float_named : (fs : List Float) (f : Float) (bl bw : Bool) (c v l : Option ℕ) → (bl ≡ true → (c ≡ None) × (v ≡ None) × (l ≡ None))
    → (bw ≡ true → (c ≡ None) × (v ≡ Some f.variable)) → (bw ≡ false → v ≡ Some f.variable → ⊥) → float_of fs f.variable ≡ None
    → named (fs ++ f ∷ []) c v (option_or l (cond bl (Some (length fs)) None))
    ≡ cond bl (Some (Label (length fs))) (cond bw (Some (Variable f.variable (Some (length fs)))) (named fs c v l))
float_named fs f true bw (Some i) v l hl hw hn none = absurd (is_none i (hl refl).0)
float_named fs f true bw None (Some i) l hl hw hn none = absurd (is_none i (hl refl).1)
float_named fs f true bw None None (Some j) hl hw hn none = absurd (is_none j (hl refl).2)
float_named fs f true bw None None None hl hw hn none = refl
float_named fs f false true (Some i) v l hl hw hn none = absurd (is_none i (hw refl).0)
float_named fs f false true None None l hl hw hn none = absurd (is_none f.variable (sym (hw refl).1))
float_named fs f false true None (Some i) l hl hw hn none =
    let same : i ≡ f.variable = let e : Some i ≡ Some f.variable = (hw refl).1 in cc in
    subst (λ (k : ℕ). Some (Variable k (float_of (fs ++ f ∷ []) k)) ≡ Some (Variable f.variable (Some (length fs)))) (sym same)
    (ap (λ o. Some (Variable f.variable o)) (place_of-push (λ g. eqb g.variable f.variable) fs f
    ∙ ap (λ o. option_or o (cond (eqb f.variable f.variable) (Some (length fs)) None)) none
    ∙ cond-true (eqb f.variable f.variable) (Some (length fs)) None (eqb-refl f.variable)))
float_named fs f false false (Some i) v l hl hw hn none = refl
float_named fs f false false None None l hl hw hn none = ap (λ o. option_map (λ j. Label j) o) (option_or-none l)
float_named fs f false false None (Some i) l hl hw hn none =
    let apart : eqb f.variable i ≡ false = ne-eqb f.variable i (λ e. hn refl (ap (λ k. Some k) (sym e))) in
    ap (λ o. Some (Variable i o)) (place_of-push (λ g. eqb g.variable i) fs f
    ∙ ap (λ o. option_or (float_of fs i) o) (cond-false (eqb f.variable i) (Some (length fs)) None apart)
    ∙ option_or-none (float_of fs i))

-- a variable that has no $f
pub variable_from_named : (fs : List Float) (c v l : Option ℕ) (i : ℕ) (o : Option ℕ) → named fs c v l ≡ Some (Variable i o)
    → (c ≡ None) × (v ≡ Some i) × (float_of fs i ≡ o)
variable_from_named fs (Some j) v l i o h = absurd cc
variable_from_named fs None (Some j) l i o h =
    let both : (j ≡ i) × (float_of fs j ≡ o) = (cc, cc) in
    (refl, ap (λ k. Some k) both.0, subst (λ (k : ℕ). float_of fs k ≡ o) both.0 both.1)
variable_from_named fs None None (Some k) i o h = absurd cc
variable_from_named fs None None None i o h = absurd cc

pub meaning-float : (t : Tables) (f : Float) (w q : List ℕ) → meaning t f.label ≡ None → meaning t w ≡ Some (Variable f.variable None)
    → meaning (record t { floats = t.floats ++ f ∷ [] }) q
    ≡ cond (bytes_eq f.label q) (Some (Label (length t.floats)))
    (cond (bytes_eq w q) (Some (Variable f.variable (Some (length t.floats)))) (meaning t q))
unfolding meaning
meaning-float t f w q new var =
    let c = place_of (bytes_eq q) t.constants in
    let v = place_of (bytes_eq q) t.variables in
    let l = place_of (λ f. bytes_eq q f.label) t.floats in
    let at_w = variable_from_named t.floats _ _ _ f.variable None var in
    let hl : bytes_eq f.label q ≡ true → (c ≡ None) × (v ≡ None) × (l ≡ None) =
    λ y. subst (λ x. (place_of (bytes_eq x) t.constants ≡ None) × (place_of (bytes_eq x) t.variables ≡ None)
    × (place_of (λ f. bytes_eq x f.label) t.floats ≡ None)) (same_bytes f.label q y) (none_named t.floats _ _ _ new) in
    let hw : bytes_eq w q ≡ true → (c ≡ None) × (v ≡ Some f.variable) =
    λ y. subst (λ x. (place_of (bytes_eq x) t.constants ≡ None) × (place_of (bytes_eq x) t.variables ≡ Some f.variable))
    (same_bytes w q y) (at_w.0, at_w.1) in
    let hn : bytes_eq w q ≡ false → v ≡ Some f.variable → ⊥ = λ e at. let y : bytes_eq w q ≡ true =
    subst (λ x. bytes_eq w x ≡ true) (same_place w q t.variables f.variable at_w.1 at) (bytes_eq-same w) in absurd cc in
    ap (λ l. named (t.floats ++ f ∷ []) c v l) (place_of-push (λ g. bytes_eq q g.label) t.floats f
    ∙ ap (λ b. option_or l (cond b (Some (length t.floats)) None)) (bytes_eq-sym q f.label))
    ∙ float_named t.floats f (bytes_eq f.label q) (bytes_eq w q) c v l hl hw hn at_w.2

some_either : (b : Bool) (x y : Name) → IsSome (cond b (Some x) (Some y))
some_either true x y = refl
some_either false x y = refl

pub swap_or : (a b c : Bool) → (a || (b || c)) ≡ (b || (a || c))
swap_or true true c = refl
swap_or true false c = refl
swap_or false true c = refl
swap_or false false c = refl

pub is_some-cond : (b : Bool) (o : Option (Unit {0})) → is_some (cond b (Some tt) o) ≡ (b || is_some o)
is_some-cond true o = refl
is_some-cond false o = refl

swap_conds : (b c : Bool) (x y z : Option Name) → (b ≡ true → c ≡ true → ⊥) → cond c x (cond b y z) ≡ cond b y (cond c x z)
swap_conds true true x y z h = absurd (h refl refl)
swap_conds true false x y z h = refl
swap_conds false c x y z h = refl

pub variable_within : (t : Tables) (w : List ℕ) (i : ℕ) → meaning t w ≡ Some (Variable i None) → i < length t.variables
unfolding meaning
variable_within t w i h = (place_of-at (bytes_eq w) t.variables i [] (variable_from_named t.floats _ _ _ i None h).1).0

pub indexed-float : (m n p : HashMap (Vec ℕ Global) Name RandomState) (kl : Vec ℕ Global) (t : Tables) (f : Float) (w : List ℕ) (place : ℕ)
    (after : List Float)
    → IsSymbolTable m t → length t.floats < 65535 → meaning t f.label ≡ None → meaning t w ≡ Some (Variable f.variable None)
    → kl.items ≡ f.label → place ≡ length t.floats → after ≡ t.floats ++ f ∷ []
    → hash.Updates (λ x y. bytes_eq x.items y.items) m n kl (Some (Label place))
    → ((q : List ℕ) → hash.get_by (λ x. bytes_eq q x.items) p
    ≡ cond (bytes_eq w q) (Some (Variable f.variable (Some place))) (hash.get_by (λ x. bytes_eq q x.items) n))
    → IsSymbolTable p (record t { floats = after })
indexed-float m n p kl t f w place after at_m room new var key_l at_end pushed h1 h2 = record {
  indexed = λ q.
      let was = hash.get_by (λ x. bytes_eq q x.items) m in
      let not_both : bytes_eq f.label q ≡ true → bytes_eq w q ≡ true → ⊥ = λ y z. let e : f.label ≡ w =
      same_bytes f.label q y ∙ sym (same_bytes w q z) in is_none (Variable f.variable None) (sym var ∙ ap (meaning t) (sym e) ∙ new) in
      h2 q
      ∙ ap (λ x. cond (bytes_eq w q) (Some (Variable f.variable (Some place))) x) (after_update kl.items m n (Some (Label place)) h1 q)
      ∙ ap (λ x. cond (bytes_eq w q) (Some (Variable f.variable (Some place))) (cond (bytes_eq x q) (Some (Label place)) was)) key_l
      ∙ swap_conds (bytes_eq f.label q) (bytes_eq w q) (Some (Variable f.variable (Some place))) (Some (Label place)) was not_both
      ∙ ap (λ k. cond (bytes_eq f.label q) (Some (Label k)) (cond (bytes_eq w q) (Some (Variable f.variable (Some k))) was)) at_end
      ∙ ap (λ x. cond (bytes_eq f.label q) (Some (Label (length t.floats)))
      (cond (bytes_eq w q) (Some (Variable f.variable (Some (length t.floats)))) x)) (at_m.indexed q)
      ∙ sym (meaning-float t f w q new var)
      ∙ ap (λ fs. meaning (record t { floats = fs }) q) (sym pushed);
  typed = subst (λ fs. AreTyped fs (length t.variables)) (sym pushed)
      (typed-push t.floats f (length t.variables) at_m.typed (variable_within t w f.variable var));
  few = omega (arith, ap length pushed, length-append t.floats (f ∷ []), room);
  few_constants = at_m.few_constants;
}

-- the variable of a $f is still found once its label is in the map
pub still_found : (m n : HashMap (Vec ℕ Global) Name RandomState) (k : Vec ℕ Global) (t : Tables) (w : List ℕ) (i place : ℕ)
    → IsSymbolTable m t → meaning t w ≡ Some (Variable i None)
    → hash.Updates (λ x y. bytes_eq x.items y.items) m n k (Some (Label place)) → IsSome (hash.get_by (λ x. bytes_eq w x.items) n)
still_found m n k t w i place at_m var h = subst (λ o. IsSome o)
    (sym (after_update k.items m n (Some (Label place)) h w
    ∙ ap (λ o. cond (bytes_eq k.items w) (Some (Label place)) o) (at_m.indexed w ∙ var)))
    (some_either (bytes_eq k.items w) (Label place) (Variable i None))
