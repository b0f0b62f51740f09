-- Comments right in front of words, and descriptions: one more word, one more part.
use Rattle.std.proofs.Common.{◌≡◌, ◌∙◌, ℕ, suc, ◌+◌, ◌-◌, ◌<◌, ◌≤◌, Bool, true, false, cond, List, [], ◌∷◌, ◌++◌, length, map, drop, get_or, Option, Some, None}
use Rattle.std.proofs.Common.{refl, sym, ap, subst, arith, append_assoc}
use Rattle.std.specs.Prelude.{◌==◌, find, if◌then◌else◌}
use Rattle.std.specs.Int.{from_bool}
use Rattle.std.specs.Option.{option_map, option_or, is_some}
use Rattle.std.specs.Borrow.{Bor}
use Rattle.std.specs.HashMap as hash
use Rattle.std.specs.HashMap.{HashMap}
use Rattle.std.specs.declared.random_state.RandomState.{RandomState}
use Rattle.std.proofs.Math.Seq.{drop-cons}
use Rattle.std.proofs.lemmas.Bool.{eqb-true}
use Rattle.mmsyntax.proofs.Sound.{eqb-sym}
use Rattle.std.proofs.lemmas.List.{append-nil, map-append}
use Rattle.std.proofs.lemmas.List.Folds.{find-append}
use Rattle.mmtext.specs.Text.{Token}
use Rattle.mmtext.specs.Views.{seen}
use Rattle.mmtext.specs.declared.token.Token.{Token as CodeToken}
use Rattle.spreading.specs.Forms.{Part}
use Rattle.expanding.specs.Descriptions.{Front, front_at, fronts_behind, opened_at, closed_at, is_assertion_mark, label_in}
use Rattle.expanding.specs.Descriptions.{Description, description_of, listed, begun_behind, descriptions_behind}
use Rattle.expanding.specs.InFront.{looks_up, FindsFronts, seen_described}
use Rattle.expanding.specs.declared.described.Described.{Described}

-- ---- the map

is_there : (o : Option Front) → is_some (option_map (λ (f : Front). f.1) o) ≡ is_some o
is_there None = refl
is_there (Some f) = refl

-- the first of some, or one more
again : (o : Option Front) (b : Bool) (f : Front) → (b ≡ true → is_some o ≡ true)
    → option_map (λ (f : Front). f.1) o ≡ option_map (λ (f : Front). f.1) (option_or o (cond b (Some f) None))
again (Some g) b f h = refl
again None false f h = refl
again None true f h = absurd (let e = h refl in cc)

first : (o : Option Front) (b : Bool) (f : Front) → (b ≡ true → is_some o ≡ false)
    → cond b (Some f.1) (option_map (λ (f : Front). f.1) o) ≡ option_map (λ (f : Front). f.1) (option_or o (cond b (Some f) None))
first None false f h = refl
first None true f h = refl
first (Some g) false f h = refl
first (Some g) true f h = absurd (let e = h refl in cc)

mapped : (b : Bool) (v : Bor (List ℕ)) (o : Option (Bor (List ℕ)))
    → option_map (λ (n : Bor (List ℕ)). n.now) (cond b (Some v) o) ≡ cond b (Some v.now) (option_map (λ (n : Bor (List ℕ)). n.now) o)
mapped true v o = refl
mapped false v o = refl

module _ (m : HashMap ℕ (Bor (List ℕ)) RandomState) (fs : List Front) (x : ℕ) (found : FindsFronts m fs) where
  known : (w : ℕ) (b : Bool) → is_some (looks_up m x) ≡ b → (w == x) ≡ true → is_some (find (λ f. w == f.0) fs) ≡ b
  known w b h e =
      subst (λ v. is_some (find (λ f. v == f.0) fs) ≡ b) (sym (eqb-true w x e))
      (sym (is_there (find (λ f. x == f.0) fs)) ∙ (ap is_some (sym (found x)) ∙ h))

  pub finds_again : (v : List ℕ) → is_some (looks_up m x) ≡ true → FindsFronts m (fs ++ (x, v) ∷ [])
  finds_again v there w =
      found w
      ∙ (again (find (λ f. w == f.0) fs) (w == x) (x, v) (known w true there)
      ∙ ap (option_map (λ (f : Front). f.1)) (sym (find-append (λ f. w == f.0) fs ((x, v) ∷ []))))

  pub finds_new : (n : HashMap ℕ (Bor (List ℕ)) RandomState) (v : Bor (List ℕ)) → is_some (looks_up m x) ≡ false
      → ((q : ℕ) → hash.get (λ a b. a == b) n q ≡ cond (x == q) (Some v) (hash.get (λ a b. a == b) m q))
      → FindsFronts n (fs ++ (x, v.now) ∷ [])
  finds_new n v absent updates w =
      ap (option_map (λ (n : Bor (List ℕ)). n.now)) (updates w)
      ∙ (mapped (x == w) v (hash.get (λ a b. a == b) m w)
      ∙ (ap (λ t. cond t (Some v.now) (looks_up m w)) (eqb-sym x w)
      ∙ (ap (λ o. cond (w == x) (Some v.now) o) (found w)
      ∙ (first (find (λ f. w == f.0) fs) (w == x) (x, v.now) (known w false absent)
      ∙ ap (option_map (λ (f : Front). f.1)) (sym (find-append (λ f. w == f.0) fs ((x, v.now) ∷ [])))))))

-- ---- one token more

pub fronts_next : (text : List ℕ) (opened : ℕ) (closed : Option ℕ) (ts rest : List Token) (t : Token) (all done : List Front)
    → ts ≡ t ∷ rest → all ≡ done ++ fronts_behind text opened closed ts
    → all ≡ (done ++ front_at text opened closed t) ++ fronts_behind text (opened_at opened t) (closed_at t) rest
fronts_next text opened closed ts rest t all done is so_far =
    so_far
    ∙ (ap (λ us. done ++ fronts_behind text opened closed us) is
    ∙ sym (append_assoc done (front_at text opened closed t) (fronts_behind text (opened_at opened t) (closed_at t) rest)))

pub fronts_last : (text : List ℕ) (opened : ℕ) (closed : Option ℕ) (ts : List Token) (all done : List Front) → ts ≡ []
    → all ≡ done ++ fronts_behind text opened closed ts → done ≡ all
fronts_last text opened closed ts all done is so_far =
    sym (so_far ∙ (ap (λ us. done ++ fronts_behind text opened closed us) is ∙ append-nil done))

-- ---- a label

pub label_step : (b : CodeToken) (rest : List CodeToken) (i : ℕ) (d : CodeToken) → i < length rest
    → label_in (seen b ∷ map seen (drop i rest))
    ≡ (if is_assertion_mark (seen (get_or rest i d)) then Some (seen b)
    else label_in (seen (get_or rest i d) ∷ map seen (drop (suc i) rest)))
label_step b rest i d within = ap (λ us. label_in (seen b ∷ map seen us)) (drop-cons rest i d within)

-- ---- one part more

pub part_next : {A : Type 0} (view : A → Part) (fs : List Front) (begun : ℕ) (xs : List A) (i : ℕ) (d : A) (before : List Description)
    (all : List Description) → i < length xs → before ++ descriptions_behind fs begun (map view (drop i xs)) ≡ all
    → let p = view (get_or xs i d) in
    (before ++ listed (description_of fs (begun_behind begun p - 1) p))
    ++ descriptions_behind fs (begun_behind begun p) (map view (drop (i + 1) xs))
    ≡ all
part_next view fs begun xs i d before all within is =
    let p = view (get_or xs i d) in
    let more : suc i ≡ i + 1 = omega arith in
    append_assoc before (listed (description_of fs (begun_behind begun p - 1) p))
    (descriptions_behind fs (begun_behind begun p) (map view (drop (i + 1) xs)))
    ∙ (ap (λ k. before ++ (listed (description_of fs (begun_behind begun p - 1) p)
    ++ descriptions_behind fs (begun_behind begun p) (map view (drop k xs)))) (sym more)
    ∙ (ap (λ us. before ++ descriptions_behind fs begun (map view us)) (sym (drop-cons xs i d within)) ∙ is))

pub put_one : (found : List Described) (d : Described) (o : Option Description) → Some (seen_described d) ≡ o
    → map seen_described (found ++ d ∷ []) ≡ map seen_described found ++ listed o
put_one found d o is =
    map-append seen_described found (d ∷ []) ∙ ap (λ x. map seen_described found ++ listed x) is

pub put_none : (found : List Described) (o : Option Description) → None ≡ o
    → map seen_described found ≡ map seen_described found ++ listed o
put_none found o is = sym (append-nil (map seen_described found)) ∙ ap (λ x. map seen_described found ++ listed x) is

pub begun_more : (b : Bool) (n m : ℕ) → m ≡ from_bool b → n + m ≡ cond b (suc n) n
begun_more true n m is = let one : m ≡ 1 = is in omega arith
begun_more false n m is = let none : m ≡ 0 = is in omega arith

pub begun_few : (b : Bool) (n i : ℕ) → n ≤ i → cond b (suc n) n ≤ suc i
begun_few true n i few = omega arith
begun_few false n i few = omega arith
