-- What the maps of labels find, at first and after one more label.
use Rattle.std.proofs.Common.{◌≡◌, ℕ, ◌<◌, ◌≤◌, Bool, true, false, cond, ltb, List, [], ◌∷◌, ◌++◌, length, Option, Some, None, Vec}
use Rattle.std.proofs.Common.{refl, sym, ap, ◌∙◌, inl, inr, arith}
use Rattle.std.specs.Option.{is_some, option_or}
use Rattle.std.specs.List.{list_any}
use Rattle.std.specs.Prelude.{◌||◌, ◌&&◌}
use Rattle.std.specs.Str.{bytes_eq}
use Rattle.std.specs.HashMap as hash
use Rattle.std.specs.HashMap.{HashMap}
use Rattle.std.specs.declared.alloc.Global.{Global}
use Rattle.std.specs.declared.random_state.RandomState.{RandomState}
use Rattle.std.proofs.lemmas.Bool.{cases_Bool, lt-ltb, le-ltb}
use Rattle.mmtext.specs.Words.{Word}
use Rattle.mmsyntax.specs.declared.statement.Assertion.{Assertion}
use Rattle.mmsyntax.specs.Dotted.{is_dotted, trunk}
use Rattle.mmsyntax.specs.Rows.{Units, is_assertion_label, is_unit_label, clashes}
use Rattle.mmunits.specs.Labels.{owner_of, FindsTrunkToo}
use Rattle.mmunits.specs.WordMaps.{FindsToo, FindsUnlessBefore}
use Rattle.mmunits.specs.declared.known.Owner.{Owner}
use Rattle.mmunits.specs.declared.known.Owner.TheVariants as owner
use Rattle.mmsyntax.proofs.Names.{bytes_eq-sym, bytes_eq-same, same_bytes, swap_or, is_some-cond}
use Rattle.mmsyntax.proofs.DottedWords.{dotted_longer, dotted_trunk, trunk_whole_or_dotted}

-- ---- tests of lists

any_push : {A : Type 0} (p : A → Bool) (xs : List A) (x : A) → list_any p (xs ++ x ∷ []) ≡ (p x || list_any p xs)
any_push p [] x = refl
any_push p (y ∷ ys) x = ap (λ b. p y || b) (any_push p ys x) ∙ swap_or (p y) (p x) (list_any p ys)

any_both : {A : Type 0} (p q : A → Bool) (xs : List A) → list_any (λ x. p x || q x) xs ≡ (list_any p xs || list_any q xs)
any_both p q [] = refl
any_both p q (x ∷ xs) = ap (λ b. (p x || q x) || b) (any_both p q xs) ∙ four (p x) (q x) (list_any p xs) (list_any q xs)
  where
    four : (a b c d : Bool) → ((a || b) || (c || d)) ≡ ((a || c) || (b || d))
    four true b c d = refl
    four false true true d = refl
    four false true false d = refl
    four false false c d = refl

any_where : {A : Type 0} (p q : A → Bool) (b : Bool) (xs : List A) → ((x : A) → p x ≡ (b && q x)) → list_any p xs ≡ (b && list_any q xs)
any_where p q b [] same = none b
  where
    none : (b : Bool) → false ≡ (b && false)
    none true = refl
    none false = refl
any_where p q b (x ∷ xs) same = ap (λ c. c || list_any p xs) (same x) ∙ ap (λ c. (b && q x) || c) (any_where p q b xs same)
    ∙ spread b (q x) (list_any q xs)
  where
    spread : (b c d : Bool) → ((b && c) || (b && d)) ≡ (b && (c || d))
    spread true c d = refl
    spread false c d = refl

-- ---- the L of a word L.k

-- a word is L.k for its trunk alone, which is shorter then
pub dotted_by_trunk : (l w : Word) → is_dotted l w ≡ (ltb (length (trunk w)) (length w) && bytes_eq (trunk w) l)
dotted_by_trunk l w = elim (cases_Bool (is_dotted l w)) [
  | inl y ↦
      let is = dotted_trunk l w y in
      let longer = lt-ltb (length l) (length w) (dotted_longer l w y) in
      y
      ∙ sym
      (ap (λ x. ltb (length x) (length w) && bytes_eq x l) is ∙ both (ltb (length l) (length w)) (bytes_eq l l) longer (bytes_eq-same l))
  | inr n ↦ n ∙ sym (elim (trunk_whole_or_dotted w) [
    | inl whole ↦
        ap (λ x. ltb (length x) (length w) && bytes_eq (trunk w) l) whole
        ∙ ap (λ b. b && bytes_eq (trunk w) l) (le-ltb (length w) (length w) (omega arith))
    | inr dotted ↦ not_both (ltb (length (trunk w)) (length w)) (bytes_eq (trunk w) l)
        (λ y. sym (ap (λ x. is_dotted x w) (same_bytes (trunk w) l y)) ∙ dotted) n
  ])
]
  where
    both : (a b : Bool) → a ≡ true → b ≡ true → (a && b) ≡ true
    both a b p q = ap (λ x. x && b) p ∙ q

    not_both : {d : Bool} (a b : Bool) → (b ≡ true → d ≡ true) → d ≡ false → (a && b) ≡ false
    not_both true true h n = absurd (let z : true ≡ false = sym (h refl) ∙ n in cc)
    not_both true false h n = refl
    not_both false b h n = refl

-- whether an assertion has the L of a word L.k
abbrev has_trunk : List Assertion → Word → Bool
has_trunk xs w = ltb (length (trunk w)) (length w) && is_assertion_label xs (trunk w)

clashes_by_trunk : (xs : List Assertion) (w : Word) → clashes xs w ≡ (has_trunk xs w || list_any (λ a. is_dotted w a.label) xs)
clashes_by_trunk xs w =
    any_both (λ a. is_dotted a.label w) (λ a. is_dotted w a.label) xs
    ∙ ap (λ b. b || list_any (λ a. is_dotted w a.label) xs)
    (any_where (λ a. is_dotted a.label w) (λ a. bytes_eq (trunk w) a.label) (ltb (length (trunk w)) (length w)) xs
    (λ a. dotted_by_trunk a.label w))

-- as the code looks it up
pub looked_up : (xs : List Assertion) (w front : Word) (b : Bool) → front ≡ trunk w → length front < length w
    → b ≡ is_assertion_label xs front → b ≡ has_trunk xs w
looked_up xs w front b is short e =
    e ∙ ap (λ x. x && is_assertion_label xs front) (sym (lt-ltb (length front) (length w) short))
    ∙ ap (λ l. ltb (length l) (length w) && is_assertion_label xs l) is

pub not_looked_up : (xs : List Assertion) (w front : Word) (b : Bool) → front ≡ trunk w → length w ≤ length front
    → b ≡ ltb (length front) (length w) → b ≡ has_trunk xs w
not_looked_up xs w front b is long e =
    let no = le-ltb (length front) (length w) long in
    e ∙ no ∙ ap (λ x. x && is_assertion_label xs front) (sym no)
    ∙ ap (λ l. ltb (length l) (length w) && is_assertion_label xs l) is

-- two look-ups find whether a label clashes
pub clash_before : (xs : List Assertion) (w : Word) (b : Bool) → b ≡ has_trunk xs w → b ≡ true → b ≡ clashes xs w
clash_before xs w b e y =
    y ∙ ap (λ x. x || list_any (λ a. is_dotted w a.label) xs) (sym y ∙ e) ∙ sym (clashes_by_trunk xs w)

pub clash_behind : (xs : List Assertion) (w : Word) (a b : Bool) → a ≡ has_trunk xs w → a ≡ false
    → b ≡ list_any (λ x. is_dotted w x.label) xs → b ≡ clashes xs w
clash_behind xs w a b e n at_b =
    at_b ∙ ap (λ x. x || list_any (λ x. is_dotted w x.label) xs) (sym n ∙ e) ∙ sym (clashes_by_trunk xs w)

-- ---- owners

-- the owner of a word, by whether an assertion and a $e have it
abbrev owner_from : Bool → Bool → Option Owner
owner_from a h = cond a (Some owner.Assertion) (cond h (Some owner.Hypothesis) None)

pub owned : (u : Units) (w : Word) → is_some (owner_of u w) ≡ is_unit_label u w
owned u w = go (is_assertion_label u.assertions w) (list_any (bytes_eq w) u.hypothesis_labels)
  where
    go : (a h : Bool) → is_some (owner_from a h) ≡ (a || h)
    go true h = refl
    go false true = refl
    go false false = refl

-- ---- one more assertion

pub owners_with : (m n : HashMap (Vec ℕ Global) Owner RandomState) (label : Word) (u : Units) (a : Assertion) (closed : Bool)
    → ((w : Word) → hash.get_by (λ q. bytes_eq w q.items) m ≡ owner_of u w) → label ≡ a.label
    → FindsToo m label owner.Assertion n → (w : Word)
    → hash.get_by (λ q. bytes_eq w q.items) n ≡ owner_of (record u { assertions = u.assertions ++ a ∷ []; prelude_closed = closed }) w
owners_with m n label u a closed at_m key h w =
    let hs = list_any (bytes_eq w) u.hypothesis_labels in
    h w
    ∙ ap (λ o. cond (bytes_eq label w) (Some owner.Assertion) o) (at_m w)
    ∙ ap (λ l. cond (bytes_eq l w) (Some owner.Assertion) (owner_of u w)) key
    ∙ ap (λ b. cond b (Some owner.Assertion) (owner_of u w)) (bytes_eq-sym a.label w)
    ∙ joined (bytes_eq w a.label) (is_assertion_label u.assertions w) hs
    ∙ ap (λ b. owner_from b hs) (sym (any_push (λ x. bytes_eq w x.label) u.assertions a))
  where
    joined : (a b h : Bool) → cond a (Some owner.Assertion) (owner_from b h) ≡ owner_from (a || b) h
    joined true b h = refl
    joined false b h = refl

-- the L of its label, put where it is L.k
pub trunk_put : (m n : HashMap (Vec ℕ Global) (Unit {0}) RandomState) (label front : Word) → front ≡ trunk label
    → length front < length label → FindsToo m front tt n → FindsTrunkToo m label n
trunk_put m n label front is short h w =
    let others = is_some (hash.get_by (λ q. bytes_eq w q.items) m) in
    ap is_some (h w) ∙ is_some-cond (bytes_eq front w) (hash.get_by (λ q. bytes_eq w q.items) m)
    ∙ ap (λ b. (b && bytes_eq front w) || others) (sym (lt-ltb (length front) (length label) short))
    ∙ ap (λ l. (ltb (length l) (length label) && bytes_eq l w) || others) is
    ∙ ap (λ b. b || others) (sym (dotted_by_trunk w label))

-- or none, where it is no L.k
pub no_trunk : (m : HashMap (Vec ℕ Global) (Unit {0}) RandomState) (label front : Word) → front ≡ trunk label
    → length label ≤ length front → FindsTrunkToo m label m
no_trunk m label front is long w =
    let others = is_some (hash.get_by (λ q. bytes_eq w q.items) m) in
    ap (λ b. (b && bytes_eq front w) || others) (sym (le-ltb (length front) (length label) long))
    ∙ ap (λ l. (ltb (length l) (length label) && bytes_eq l w) || others) is
    ∙ ap (λ b. b || others) (sym (dotted_by_trunk w label))

pub trunks_with : (m n : HashMap (Vec ℕ Global) (Unit {0}) RandomState) (label : Word) (xs : List Assertion) (a : Assertion)
    → ((w : Word) → is_some (hash.get_by (λ q. bytes_eq w q.items) m) ≡ list_any (λ x. is_dotted w x.label) xs)
    → label ≡ a.label → FindsTrunkToo m label n → (w : Word)
    → is_some (hash.get_by (λ q. bytes_eq w q.items) n) ≡ list_any (λ x. is_dotted w x.label) (xs ++ a ∷ [])
trunks_with m n label xs a at_m key h w =
    h w ∙ ap (λ l. is_dotted w l || is_some (hash.get_by (λ q. bytes_eq w q.items) m)) key
    ∙ ap (λ b. is_dotted w a.label || b) (at_m w)
    ∙ sym (any_push (λ x. is_dotted w x.label) xs a)

-- ---- one more label of a $e

-- an owner that it has stays
pub owners_too : (m n : HashMap (Vec ℕ Global) Owner RandomState) (u : Units) (label : Word)
    → ((w : Word) → hash.get_by (λ q. bytes_eq w q.items) m ≡ owner_of u w) → FindsUnlessBefore m label owner.Hypothesis n → (w : Word)
    → hash.get_by (λ q. bytes_eq w q.items) n ≡ owner_of (record u { hypothesis_labels = u.hypothesis_labels ++ label ∷ [] }) w
owners_too m n u label at_m h w =
    let a = is_assertion_label u.assertions w in
    let hs = list_any (bytes_eq w) u.hypothesis_labels in
    h w
    ∙ ap (λ o. option_or o (cond (bytes_eq label w) (Some owner.Hypothesis) None)) (at_m w)
    ∙ ap (λ b. option_or (owner_of u w) (cond b (Some owner.Hypothesis) None)) (bytes_eq-sym label w)
    ∙ joined a (bytes_eq w label) hs
    ∙ ap (λ b. owner_from a b) (sym (any_push (bytes_eq w) u.hypothesis_labels label))
  where
    joined : (a b h : Bool) → option_or (owner_from a h) (cond b (Some owner.Hypothesis) None) ≡ owner_from a (b || h)
    joined true b h = refl
    joined false true true = refl
    joined false true false = refl
    joined false false true = refl
    joined false false false = refl
