-- Scripts on the way to those that are run: one more of them.
use Rattle.std.proofs.Common.{◌≡◌, ◌≤◌, ◌+◌, ℕ, Bool, List, [], ◌∷◌, ◌++◌, length, map, take, Option, Some, None, refl, ap, ap₂, sym, ◌∙◌}
use Rattle.std.proofs.Common.{subst, arith}
use Rattle.std.specs.Prelude.{slice_get, option_map, MatchOption, IsSomeAnd}
use Rattle.std.specs.List.{AllZip}
use Rattle.std.proofs.lemmas.List.{map-append, take_all, length-map}
use Rattle.std.proofs.lemmas.Option.{slice_get-map}
use Rattle.std.proofs.lemmas.Slice.Zip.{all_zipped_more, AllZip-long, AllZip-right}
use Rattle.mmtext.specs.Text.{Token}
use Rattle.mmsyntax.specs.Tables.{Tables}
use Rattle.mmsyntax.proofs.Items.{take_next}
use Rattle.source.specs.Scopes.{Scope}
use Rattle.checking.specs.Checks.{Bytes, Orders, IsScript, AreScripts}
use Rattle.expanding.specs.Ranking.{IsRanked}
use Rattle.spreading.specs.Words.{text_of}
use Rattle.expanding.specs.declared.laid.Laid.{Laid}
use Rattle.editscripts.specs.Expanded.{RankedScript, AreRanked, texts_of}
use Rattle.editscripts.specs.Views.{IsLaidOf, AreLaid, beginnings_of}

-- ---- two lists, item by item

pub get_seen : {A B : Type 0} (I : A → B) (xs : List A) (k : ℕ) (x : A) → slice_get xs k ≡ Some x → slice_get (map I xs) k ≡ Some (I x)
get_seen I xs k x at = slice_get-map I xs k ∙ ap (option_map I) at

pub zipped_next : {A B C D : Type 0} (R : B → D → Type 0) (I : A → B) (J : C → D) (xs : List A) (k : ℕ) (x : A) (ys zs : List C) (y : C)
    → slice_get xs k ≡ Some x → AllZip R (take k (map I xs)) (map J ys) → R (I x) (J y) → zs ≡ ys ++ y ∷ []
    → AllZip R (take (k + 1) (map I xs)) (map J zs)
zipped_next R I J xs k x ys zs y at all one more =
    let left = take_next (map I xs) k (I x) (get_seen I xs k x at) in
    let right = ap (map J) more ∙ map-append J ys (y ∷ []) in
    subst (λ us. AllZip R us (map J zs)) (sym left)
    (subst (λ vs. AllZip R (take k (map I xs) ++ I x ∷ []) vs) (sym right)
    (all_zipped_more R (take k (map I xs)) (map J ys) (I x) (J y) all one))

pub zipped_more_at : {B D : Type 0} (R : B → D → Type 0) (xs : List B) (k : ℕ) (x : B) (ys : List D) (y : D)
    → slice_get xs k ≡ Some x → AllZip R (take k xs) ys → R x y → AllZip R (take (k + 1) xs) (ys ++ y ∷ [])
zipped_more_at R xs k x ys y at all one =
    subst (λ us. AllZip R us (ys ++ y ∷ [])) (sym (take_next xs k x at)) (all_zipped_more R (take k xs) ys x y all one)

pub zipped_all : {A B D : Type 0} (R : B → D → Type 0) (I : A → B) (xs : List A) (k : ℕ) (ys : List D) → length xs ≤ k
    → AllZip R (take k (map I xs)) ys → AllZip R (map I xs) ys
zipped_all R I xs k ys long all = subst (λ us. AllZip R us ys) (take_all k (map I xs) (omega (arith, length-map xs I))) all

-- ---- scripts

pub scripts_more : (p : Tables) (ts : List Bytes) (xs : List Orders) (t : Bytes) (x : Orders) → AreScripts p ts xs → IsScript p t x
    → AreScripts p (ts ++ t ∷ []) (xs ++ x ∷ [])
scripts_more p [] [] t x all one = (one, tt)
scripts_more p [] (y ∷ xs) t x all one = absurd all
scripts_more p (u ∷ ts) [] t x all one = absurd all
scripts_more p (u ∷ ts) (y ∷ xs) t x all one = (all.0, scripts_more p ts xs t x all.1 one)

module _ (s : Scope) (flags : List Bool) where
  pub ranked_more : (earlier : List ℕ) (scripts : List (List Token)) (outs : List RankedScript) (after : List ℕ)
      (ts : List Token) (out : RankedScript) (gaps : List ℕ)
      → AreRanked s flags earlier scripts outs after → IsRanked s flags after ts out.words gaps out.beginnings
      → AreRanked s flags earlier (scripts ++ ts ∷ []) (outs ++ out ∷ []) (after ++ gaps)
  ranked_more earlier [] [] after ts out gaps all one = (
    gaps,
    subst (λ (at : List ℕ). IsRanked s flags at ts out.words gaps out.beginnings) all one,
    ap (λ (at : List ℕ). at ++ gaps) all,
  )
  ranked_more earlier [] (o ∷ outs) after ts out gaps all one = absurd all
  ranked_more earlier (us ∷ scripts) [] after ts out gaps all one = absurd all
  ranked_more earlier (us ∷ scripts) (o ∷ outs) after ts out gaps all one =
      (all.0, all.1, ranked_more (earlier ++ all.0) scripts outs after ts out gaps all.2 one)

-- ---- what is laid

some_and : {A : Type 0} (P : A → Type 0) (o : Option A) → IsSomeAnd o P → (x : A) × (o ≡ Some x) × P x
some_and P None h = absurd h
some_and P (Some x) h = (x, refl, h)

pub zipped_at : {A B : Type 0} (R : A → B → Type 0) (xs : List A) (ys : List B) (k : ℕ) (y : B) → AllZip R xs ys → slice_get ys k ≡ Some y
    → (x : A) × (slice_get xs k ≡ Some x) × R x y
zipped_at {A} {B} R xs ys k y h at =
    some_and (λ x. R x y) (slice_get xs k)
    (subst (λ (found : Option B). MatchOption found (Unit {0}) (λ z. IsSomeAnd (slice_get xs k) (λ x. R x z))) at
    (AllZip-right R xs ys h k))

pub laid_at : (outs : List RankedScript) (all : List Laid) (k : ℕ) (l : Laid) → AreLaid outs all → slice_get all k ≡ Some l
    → (o : RankedScript) × (slice_get outs k ≡ Some o) × IsLaidOf o l
laid_at outs all k l h at = zipped_at IsLaidOf outs all k l h at

pub begun_at : (outs : List RankedScript) (all : List Laid) → AreLaid outs all → map (λ o. o.beginnings) outs ≡ beginnings_of all
begun_at [] [] h = refl
begun_at [] (l ∷ all) h = absurd h
begun_at (o ∷ outs) [] h = absurd h
begun_at (o ∷ outs) (l ∷ all) h = ap₂ (λ b bs. b ∷ bs) (sym h.0.beginnings) (begun_at outs all h.1)

pub scripts_next : (p : Tables) (outs : List RankedScript) (k : ℕ) (o : RankedScript) (xs ys : List Orders) (x : Orders)
    → slice_get outs k ≡ Some o → AreScripts p (texts_of (take k outs)) xs → IsScript p (text_of o.words) x → ys ≡ xs ++ x ∷ []
    → AreScripts p (texts_of (take (k + 1) outs)) ys
scripts_next p outs k o xs ys x at all one more =
    let texts = ap texts_of (take_next outs k o at) ∙ map-append (λ (r : RankedScript). text_of r.words) (take k outs) (o ∷ []) in
    subst (λ (us : List Bytes). AreScripts p us ys) (sym texts)
    (subst (λ (vs : List Orders). AreScripts p (texts_of (take k outs) ++ text_of o.words ∷ []) vs) (sym more)
    (scripts_more p (texts_of (take k outs)) xs (text_of o.words) x all one))

-- the rank of one more
pub ranked_next : (s : Scope) (flags : List Bool) (scripts : List (List Token)) (k : ℕ) (ts : List Token) (outs : List RankedScript)
    (out : RankedScript) (after gaps : List ℕ) → slice_get scripts k ≡ Some ts → AreRanked s flags [] (take k scripts) outs after
    → IsRanked s flags after ts out.words gaps out.beginnings
    → AreRanked s flags [] (take (k + 1) scripts) (outs ++ out ∷ []) (after ++ gaps)
ranked_next s flags scripts k ts outs out after gaps at all one =
    subst (λ us. AreRanked s flags [] us (outs ++ out ∷ []) (after ++ gaps)) (sym (take_next scripts k ts at))
    (ranked_more s flags [] (take k scripts) outs after ts out gaps all one)

pub laid_next : (outs : List RankedScript) (all more : List Laid) (o : RankedScript) (l : Laid) → AreLaid outs all → IsLaidOf o l
    → more ≡ all ++ l ∷ [] → AreLaid (outs ++ o ∷ []) more
laid_next outs all more o l h one is =
    subst (λ ls. AreLaid (outs ++ o ∷ []) ls) (sym is) (all_zipped_more IsLaidOf outs all o l h one)

pub zipped_long : {A B : Type 0} (R : A → B → Type 0) (xs : List A) (ys : List B) → AllZip R xs ys → length xs ≡ length ys
zipped_long R xs ys h = sym (AllZip-long R xs ys h)

pub laid_long : (outs : List RankedScript) (all : List Laid) → AreLaid outs all → length outs ≡ length all
laid_long outs all h = zipped_long IsLaidOf outs all h
