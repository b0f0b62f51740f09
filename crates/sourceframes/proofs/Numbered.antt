-- The numbers of words stay what they are as more words get numbers, and no two words have one.
use Rattle.std.proofs.Common.{◌≡◌, ◌↔◌, ℕ, zero, suc, ◌+◌, ◌<◌, ◌≤◌, Bool, true, false, List, [], ◌∷◌, ◌++◌, length, map, replicate, refl, sym, ap, ap₂}
use Rattle.std.proofs.Common.{subst as transport, ◌∙◌, append_assoc, append-nil, inl, inr, arith, ◌⊎◌}
use Rattle.std.specs.Prelude.{slice_get, slice_index_or, Option, Some, None, if◌then◌else◌}
use Rattle.std.specs.Str.{bytes_eq}
use Rattle.std.proofs.lemmas.Bool.{cases_lt}
use Rattle.std.proofs.lemmas.List.{length-replicate, map-append}
use Rattle.mmtext.specs.Words.{Word}
use Rattle.mmsyntax.proofs.Names.{same_bytes, bytes_eq-same}
use Rattle.std.specs.List.{AllZip}
use Rattle.std.specs.HashMap.{HashMap}
use Rattle.std.specs.Map.{lookup}
use Rattle.std.specs.Borrow.{Bor}
use Rattle.mmsyntax.proofs.Items.{get_before}
use Rattle.wordkeys.specs.declared.keys.WordKeys.{WordKeys}
use Rattle.sourceframes.specs.Names.{Grows, total, name_in, Lasts, looks_up, IsTable}

-- ---- growth

pub grows_not : (ws : List Word) → Grows ws ws
grows_not ws = ([], sym (append-nil ws))

pub grows_on : (a b c : List Word) → Grows a b → Grows b c → Grows a c
grows_on a b c g h = (g.0 ++ h.0, h.1 ∙ ap (λ l. l ++ h.0) g.1 ∙ append_assoc a g.0 h.0)

pub lasts_on : (a b : List Word) (P : (ℕ → Word) → Type 0) → Grows a b → Lasts a P → Lasts b P
lasts_on a b P g l = λ more. transport (λ ws. P (name_in ws)) (sym (append_assoc a g.0 more) ∙ ap (λ ws. ws ++ more) (sym g.1))
    (l (g.0 ++ more))

pub lasts_now : (a : List Word) (P : (ℕ → Word) → Type 0) → Lasts a P → P (name_in a)
lasts_now a P l = transport (λ ws. P (name_in ws)) (append-nil a) (l [])

named_there : (ws more : List Word) (n : ℕ) (w d : Word) → slice_get ws n ≡ Some w → slice_index_or (ws ++ more) n d ≡ w
named_there [] more n w d h = absurd cc
named_there (v ∷ ws) more zero w d h = cc
named_there (v ∷ ws) more (suc n) w d h = named_there ws more n w d h

pub named_lasts : (ws : List Word) (n : ℕ) (w : Word) → slice_get ws n ≡ Some w → Lasts ws (λ name. name n ≡ w)
named_lasts ws n w h = λ more. named_there ws more n w _ h

-- one more of a list
pub lasts_push : {A B : Type 0} (f : (ℕ → Word) → A → B) (a b : List Word) (xs : List A) (x : A) (ys : List B) (y : B) → Grows a b
    → Lasts a (λ name. map (f name) xs ≡ ys) → Lasts b (λ name. f name x ≡ y)
    → Lasts b (λ name. map (f name) (xs ++ x ∷ []) ≡ ys ++ y ∷ [])
lasts_push {A} {B} f a b xs x ys y g l h = λ more.
    let name = name_in (b ++ more) in
    map-append (f name) xs (x ∷ [])
    ∙ ap (λ (zs : List B). zs ++ f name x ∷ []) (lasts_on a b (λ name. map (f name) xs ≡ ys) g l more)
    ∙ ap (λ (z : B). ys ++ z ∷ []) (h more)

pub lasts_next : {A B : Type 0} (f : (ℕ → Word) → A → B) (a b : List Word) (xs xs' : List A) (x : A) (ys ys' : List B) (y : B) → Grows a b
    → xs' ≡ xs ++ x ∷ [] → ys' ≡ ys ++ y ∷ [] → Lasts a (λ name. map (f name) xs ≡ ys) → Lasts b (λ name. f name x ≡ y)
    → Lasts b (λ name. map (f name) xs' ≡ ys')
lasts_next f a b xs xs' x ys ys' y g e d l h = λ more.
    let name = name_in (b ++ more) in ap (map (f name)) e ∙ lasts_push f a b xs x ys y g l h more ∙ sym d

-- ---- one word of a number

abbrev pub Unique : List Word → Type 0
Unique ws = (i j : ℕ) (w : Word) → slice_get ws i ≡ Some w → slice_get ws j ≡ Some w → i ≡ j

pub unique_by : (look : Word → Option ℕ) (ws : List Word) → ((w : Word) (n : ℕ) → (look w ≡ Some n) ↔ (slice_get ws n ≡ Some w)) → Unique ws
unique_by look ws is = λ i j w h k.
    let p = (is w i).1 h in
    let q = (is w j).1 k in
    cc

short : (ws : List Word) (n : ℕ) (d : Word) → n < length ws → length (slice_index_or ws n d) ≤ total ws
short [] n d lt = absurd (omega arith)
short (w ∷ ws) zero d lt = omega arith
short (w ∷ ws) (suc n) d lt = let rest = short ws n d (omega arith) in omega (arith, rest)

there : (ws : List Word) (n : ℕ) (d : Word) → n < length ws → slice_get ws n ≡ Some (slice_index_or ws n d)
there [] n d lt = absurd (omega arith)
there (w ∷ ws) zero d lt = refl
there (w ∷ ws) (suc n) d lt = there ws n d (omega arith)

past : (ws : List Word) (n : ℕ) (d : Word) → length ws ≤ n → slice_index_or ws n d ≡ d
past [] zero d le = refl
past [] (suc n) d le = refl
past (w ∷ ws) zero d le = absurd (omega arith)
past (w ∷ ws) (suc n) d le = past ws n d (omega arith)

long : (ws : List Word) (n : ℕ) → length ws ≤ n → length (name_in ws n) ≡ suc (total ws + n)
long ws n le = ap length (past ws n (replicate (suc (total ws + n)) 0) le) ∙ length-replicate (suc (total ws + n)) 0

pub injective : (ws : List Word) → Unique ws → (m n : ℕ) → name_in ws m ≡ name_in ws n → m ≡ n
injective ws u m n e =
    elim (cases_lt m (length ws)) [
      | inl a ↦ elim (cases_lt n (length ws)) [
        | inl b ↦ u m n (name_in ws m) (there ws m _ a) (there ws n _ b ∙ ap (λ w. Some w) (sym e))
        | inr b ↦
            let p = short ws m (replicate (suc (total ws + m)) 0) a in
            let q = long ws n b in
            let r = ap length e in
            absurd (omega (arith, p, q, r))
      ]
      | inr a ↦ elim (cases_lt n (length ws)) [
        | inl b ↦
            let p = short ws n (replicate (suc (total ws + n)) 0) b in
            let q = long ws m a in
            let r = ap length e in
            absurd (omega (arith, p, q, r))
        | inr b ↦
            let p = long ws m a in
            let q = long ws n b in
            let r = ap length e in
            omega (arith, p, q, r)
      ]
    ]

-- ---- one more word

got_last : {A : Type 0} (ws : List A) (w : A) → slice_get (ws ++ w ∷ []) (length ws) ≡ Some w
got_last [] w = refl
got_last (u ∷ ws) w = got_last ws w

pub got_of : {A : Type 0} (ws : List A) (w v : A) (n : ℕ) → slice_get (ws ++ w ∷ []) n ≡ Some v
    → (slice_get ws n ≡ Some v) ⊎ ((n ≡ length ws) × (w ≡ v))
got_of [] w v zero h = inr (refl, cc)
got_of [] w v (suc n) h = absurd cc
got_of (u ∷ ws) w v zero h = inl h
got_of (u ∷ ws) w v (suc n) h = elim (got_of ws w v n h) [ inl e ↦ inl e | inr p ↦ inr (ap (λ k. suc k) p.0, p.1) ]

pub table_more : (look look' : Word → Option ℕ) (ws : List Word) (w : Word)
    → ((v : Word) (n : ℕ) → (look v ≡ Some n) ↔ (slice_get ws n ≡ Some v)) → look w ≡ None
    → ((v : Word) → look' v ≡ (if bytes_eq w v then Some (length ws) else look v))
    → (v : Word) (n : ℕ) → (look' v ≡ Some n) ↔ (slice_get (ws ++ w ∷ []) n ≡ Some v)
table_more look look' ws w is none new v n = (to (bytes_eq w v) refl, of)
  where
    to : (b : Bool) → bytes_eq w v ≡ b → look' v ≡ Some n → slice_get (ws ++ w ∷ []) n ≡ Some v
    to true e h =
        let k : Some (length ws) ≡ Some n = sym (new v ∙ ap (λ b. if b then Some (length ws) else look v) e) ∙ h in
        let at : length ws ≡ n = cc in
        ap (slice_get (ws ++ w ∷ [])) (sym at) ∙ got_last ws w ∙ ap (λ z. Some z) (same_bytes w v e)
    to false e h =
        get_before ws w v n ((is v n).0 (sym (new v ∙ ap (λ b. if b then Some (length ws) else look v) e) ∙ h))

    other : slice_get ws n ≡ Some v → (b : Bool) → bytes_eq w v ≡ b → look' v ≡ Some n
    other h true e =
        let there = (is v n).1 h in
        let none' = ap look (sym (same_bytes w v e)) ∙ none in
        absurd cc
    other h false e = new v ∙ ap (λ b. if b then Some (length ws) else look v) e ∙ (is v n).1 h

    of : slice_get (ws ++ w ∷ []) n ≡ Some v → look' v ≡ Some n
    of h = elim (got_of ws w v n h) [
      | inl g ↦ other g (bytes_eq w v) refl
      | inr p ↦
          new v ∙ ap (λ b. if b then Some (length ws) else look v) (ap (bytes_eq w) (sym p.1) ∙ bytes_eq-same w) ∙ ap (λ k. Some k)
          (sym p.0)
    ]

-- ---- a table once more

pub entries_same : (xs ys : List (Bor (List ℕ) × ℕ)) → AllZip (λ p q. (q.0 ≡ p.0) × (q.1 ≡ p.1)) xs ys → ys ≡ xs
entries_same [] [] e = refl
entries_same [] (y ∷ ys) e = absurd e
entries_same (x ∷ xs) [] e = absurd e
entries_same (x ∷ xs) (y ∷ ys) e =
    let rest = entries_same xs ys e.1 in
    let first : y ≡ x = ap₂ (λ (a : Bor (List ℕ)) (n : ℕ). let p : Bor (List ℕ) × ℕ = (a, n) in p) e.0.0 e.0.1 in
    ap (λ (z : Bor (List ℕ) × ℕ). z ∷ ys) first ∙ ap (λ zs. x ∷ zs) rest

pub same_table : (m n : HashMap (Bor (List ℕ)) ℕ WordKeys) (ws vs : List Word) → n.entries ≡ m.entries → vs ≡ ws → IsTable m ws
    → IsTable n vs
same_table m n ws vs e f is = λ w k.
    let looks : looks_up n w ≡ looks_up m w = ap (λ (es : List (Bor (List ℕ) × ℕ)). lookup (λ k. bytes_eq w k.now) es) e in (
      λ h. ap (λ (us : List Word). slice_get us k) f ∙ (is w k).0 (sym looks ∙ h),
      λ h. looks ∙ (is w k).1 (ap (λ (us : List Word). slice_get us k) (sym f) ∙ h),
    )
