-- Where what is taken stands: the chosen assertions in order, each beside the one of the library.
use Rattle.std.proofs.Common.{◌≡◌, ℕ, suc, zero, Bool, true, false, List, [], ◌∷◌, ◌++◌, map, length, refl, sym, ap, ◌∙◌, subst, inl, inr}
use Rattle.std.proofs.Common.{append_assoc, append-nil}
use Rattle.std.specs.Prelude.{Some, None, filter, slice_get}
use Rattle.std.specs.List.{list_any}
use Rattle.std.specs.Str.{bytes_eq}
use Rattle.std.proofs.lemmas.Bool.{cases_Bool, cond-true, cond-false, or_left, or_right}
use Rattle.std.proofs.lemmas.Option.{same_Some}
use Rattle.mmsyntax.specs.declared.statement.Assertion.{Assertion as Unit'}
use Rattle.mmsyntax.specs.Tables.{Tables}
use Rattle.mmsyntax.specs.Assertions.{Distinct}
use Rattle.mmsyntax.proofs.Names.{bytes_eq-same}
use Rattle.mmframes.specs.Frames.{frame}
use Rattle.derivation.specs.Databases.{frame_in}
use Rattle.source.specs.Scopes.{Assertion, is_in}
use Rattle.taking.specs.Names.{Map}
use Rattle.taking.specs.Says.{SaysSame}
use Rattle.taking.specs.Reasons.{Choice}
use Rattle.taking.specs.Taken.{IsTaken, AreTaken, AreTakenFrom}
use Rattle.agreement.specs.Taken.{how_many_taken}
use Rattle.agreement.proofs.Frames.{IsAmong}

-- ---- lists

pub any_among : {A : Type 0} (test : A → Bool) (xs : List A) (x : A) → IsAmong x xs → test x ≡ true → list_any test xs ≡ true
any_among test [] x h p = absurd h
any_among test (y ∷ ys) x (inl e) p = or_left (test y) (list_any test ys) (ap test e ∙ p)
any_among test (y ∷ ys) x (inr h) p = or_right (test y) (list_any test ys) (any_among test ys x h p)

pub among_behind : {A : Type 0} (front later : List A) (x : A) → IsAmong x (front ++ x ∷ later)
among_behind [] later x = inl refl
among_behind (y ∷ front) later x = inr (among_behind front later x)

pub among_front : {A : Type 0} (xs ys : List A) (x : A) → IsAmong x xs → IsAmong x (xs ++ ys)
among_front [] ys x h = absurd h
among_front (y ∷ xs) ys x (inl e) = inl e
among_front (y ∷ xs) ys x (inr h) = inr (among_front xs ys x h)

-- ---- frames by their labels

-- an assertion among others with different labels is found by its own
pub frame_found : (t : Tables) (as' : List Unit') (b : Unit') → Distinct bytes_eq (map (λ a. a.label) as') → IsAmong b as'
    → frame_in t as' b.label ≡ Some (frame t b)
frame_found t [] b d h = absurd h
frame_found t (a ∷ as') b d (inl e) =
    cond-true (bytes_eq a.label b.label) (Some (frame t a)) (frame_in t as' b.label)
    (ap (λ c. bytes_eq c.label b.label) e ∙ bytes_eq-same b.label)
    ∙ ap (λ c. Some (frame t c)) e
frame_found t (a ∷ as') b d (inr h) =
    let other : bytes_eq a.label b.label ≡ false = elim (cases_Bool (bytes_eq a.label b.label)) [
      | inl y ↦ absurd
          (let yes : list_any (bytes_eq a.label) (map (λ (c : Unit'). c.label) as') ≡ true = any_label a.label as' b h y in
          let no = d.0 in
          cc)
      | inr n ↦ n
    ] in
    cond-false (bytes_eq a.label b.label) (Some (frame t a)) (frame_in t as' b.label) other ∙ frame_found t as' b d.1 h
  where
    any_label : (l : List ℕ) (cs : List Unit') (b : Unit') → IsAmong b cs → bytes_eq l b.label ≡ true
        → list_any (bytes_eq l) (map (λ (c : Unit'). c.label) cs) ≡ true
    any_label l [] b h y = absurd h
    any_label l (c ∷ cs) b (inl e) y = or_left (bytes_eq l c.label) _ (ap (λ (k : Unit'). bytes_eq l k.label) e ∙ y)
    any_label l (c ∷ cs) b (inr h) y = or_right (bytes_eq l c.label) _ (any_label l cs b h y)

module _ (m : Map) (t : Tables) (choice : Choice) where
  abbrev taken_here : List Assertion → Assertion → List Assertion → List Unit' → Bool → Type 0
  taken_here earlier x xs as' b =
      AreTakenFrom b (IsTaken m t choice earlier x) (AreTaken m t choice (earlier ++ x ∷ []) xs) as'

  many_kept : (x : Assertion) (xs : List Assertion) → is_in choice.chosen x.label ≡ true
      → how_many_taken choice (x ∷ xs) ≡ suc (how_many_taken choice xs)
  many_kept x xs y = ap length (cond-true (is_in choice.chosen x.label) (x ∷ filter (λ y. is_in choice.chosen y.label) xs) _ y)

  many_left : (x : Assertion) (xs : List Assertion) → is_in choice.chosen x.label ≡ false
      → how_many_taken choice (x ∷ xs) ≡ how_many_taken choice xs
  many_left x xs n = ap length (cond-false (is_in choice.chosen x.label) (x ∷ filter (λ y. is_in choice.chosen y.label) xs) _ n)

  -- ---- in two parts

  pub record InParts (earlier xs ys : List Assertion) (as' : List Unit') : Type 0 where
    pub front : List Unit'
    pub later : List Unit'
    pub are : as' ≡ front ++ later
    pub many : length front ≡ how_many_taken choice xs
    pub front_taken : AreTaken m t choice earlier xs front
    pub later_taken : AreTaken m t choice (earlier ++ xs) ys later

  pub in_parts : (earlier xs ys : List Assertion) (as' : List Unit') → AreTaken m t choice earlier (xs ++ ys) as'
      → InParts earlier xs ys as'
  in_parts earlier [] ys as' h = record {
    front = [];
    later = as';
    are = refl;
    many = refl;
    front_taken = refl;
    later_taken = subst (λ e. AreTaken m t choice e ys as') (sym (append-nil earlier)) h;
  }
  in_parts earlier (x ∷ xs) ys as' h = elim (cases_Bool (is_in choice.chosen x.label)) [
    | inl y ↦
        let own = subst (taken_here earlier x (xs ++ ys) as') y h in
        let p = in_parts (earlier ++ x ∷ []) xs ys own.1 own.4 in
        record {
          front = own.0 ∷ p.front;
          later = p.later;
          are = own.2 ∙ ap (λ l. own.0 ∷ l) p.are;
          many = ap (λ n. suc n) p.many ∙ sym (many_kept x xs y);
          front_taken = subst (taken_here earlier x xs (own.0 ∷ p.front)) (sym y) (own.0, p.front, refl, own.3, p.front_taken);
          later_taken = subst (λ e. AreTaken m t choice e ys p.later) (append_assoc earlier (x ∷ []) xs) p.later_taken;
        }
    | inr n ↦
        let p = in_parts (earlier ++ x ∷ []) xs ys as' (subst (taken_here earlier x (xs ++ ys) as') n h) in
        record {
          front = p.front;
          later = p.later;
          are = p.are;
          many = p.many ∙ sym (many_left x xs n);
          front_taken = subst (taken_here earlier x xs p.front) (sym n) p.front_taken;
          later_taken = subst (λ e. AreTaken m t choice e ys p.later) (append_assoc earlier (x ∷ []) xs) p.later_taken;
        }
  ]

  -- ---- of an assertion of the source

  pub record TakenOf (c : Assertion) (as' : List Unit') : Type 0 where
    pub theorem : Unit'
    pub says : SaysSame m t c theorem
    pub among : IsAmong theorem as'

  pub taken_of : (earlier xs : List Assertion) (as' : List Unit') (c : Assertion) → AreTaken m t choice earlier xs as' → IsAmong c xs
      → is_in choice.chosen c.label ≡ true → TakenOf c as'
  taken_of earlier [] as' c h among chosen = absurd among
  taken_of earlier (x ∷ xs) as' c h (inl e) chosen =
      let own = subst (taken_here earlier x xs as') (ap (λ k. is_in choice.chosen k.label) e ∙ chosen) h in
      record {
        theorem = own.0;
        says = subst (λ k. SaysSame m t k own.0) e own.3.0;
        among = subst (IsAmong own.0) (sym own.2) (inl refl);
      }
  taken_of earlier (x ∷ xs) as' c h (inr among) chosen = elim (cases_Bool (is_in choice.chosen x.label)) [
    | inl y ↦
        let own = subst (taken_here earlier x xs as') y h in
        let p = taken_of (earlier ++ x ∷ []) xs own.1 c own.4 among chosen in
        record { theorem = p.theorem; says = p.says; among = subst (IsAmong p.theorem) (sym own.2) (inr p.among) }
    | inr n ↦ taken_of (earlier ++ x ∷ []) xs as' c (subst (taken_here earlier x xs as') n h) among chosen
  ]

  -- ---- of an assertion of the library

  pub record TakenFrom (earlier xs : List Assertion) (k : ℕ) (a : Unit') : Type 0 where
    pub front : List Assertion
    pub x : Assertion
    pub later : List Assertion
    pub are : xs ≡ front ++ x ∷ later
    pub is_chosen : is_in choice.chosen x.label ≡ true
    pub taken : IsTaken m t choice (earlier ++ front) x a
    pub many : k ≡ how_many_taken choice front

  behind : (earlier : List Assertion) (x : Assertion) (xs : List Assertion) (k n : ℕ) (a : Unit')
      → (o : TakenFrom (earlier ++ x ∷ []) xs k a) → n ≡ how_many_taken choice (x ∷ o.front) → TakenFrom earlier (x ∷ xs) n a
  behind earlier x xs k n a o many = record {
    front = x ∷ o.front;
    x = o.x;
    later = o.later;
    are = ap (λ l. x ∷ l) o.are;
    is_chosen = o.is_chosen;
    taken = subst (λ e. IsTaken m t choice e o.x a) (append_assoc earlier (x ∷ []) o.front) o.taken;
    many = many;
  }

  pub taken_from : (earlier xs : List Assertion) (as' : List Unit') (k : ℕ) (a : Unit') → AreTaken m t choice earlier xs as'
      → slice_get as' k ≡ Some a → TakenFrom earlier xs k a
  taken_from earlier [] as' k a h at = absurd (let no : None ≡ Some a = ap (λ l. slice_get l k) (sym h) ∙ at in cc)
  taken_from earlier (x ∷ xs) as' zero a h at = elim (cases_Bool (is_in choice.chosen x.label)) [
    | inl y ↦
        let own = subst (taken_here earlier x xs as') y h in
        let same : own.0 ≡ a = same_Some own.0 a (ap (λ l. slice_get l 0) (sym own.2) ∙ at) in
        record {
          front = [];
          x = x;
          later = xs;
          are = refl;
          is_chosen = y;
          taken = subst (λ e. IsTaken m t choice e x a) (sym (append-nil earlier)) (subst (IsTaken m t choice earlier x) same own.3);
          many = refl;
        }
    | inr n ↦
        let o = taken_from (earlier ++ x ∷ []) xs as' zero a (subst (taken_here earlier x xs as') n h) at in
        behind earlier x xs zero zero a o (o.many ∙ sym (many_left x o.front n))
  ]
  taken_from earlier (x ∷ xs) as' (suc k) a h at = elim (cases_Bool (is_in choice.chosen x.label)) [
    | inl y ↦
        let own = subst (taken_here earlier x xs as') y h in
        let o = taken_from (earlier ++ x ∷ []) xs own.1 k a own.4 (ap (λ l. slice_get l (suc k)) (sym own.2) ∙ at) in
        behind earlier x xs k (suc k) a o (ap (λ n. suc n) o.many ∙ sym (many_kept x o.front y))
    | inr n ↦
        let o = taken_from (earlier ++ x ∷ []) xs as' (suc k) a (subst (taken_here earlier x xs as') n h) at in
        behind earlier x xs (suc k) (suc k) a o (o.many ∙ sym (many_left x o.front n))
  ]
