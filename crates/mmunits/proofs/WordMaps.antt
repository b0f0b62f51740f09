-- What a map from words finds after a value is put at a word that may have one.
use Rattle.std.proofs.Common.{◌≡◌, ℕ, Bool, true, false, cond, List, Option, Some, None, Result, Ok, Err, Vec}
use Rattle.std.proofs.Common.{refl, sym, ap, ◌∙◌}
use Rattle.std.specs.Prelude.{OnOk}
use Rattle.std.specs.Option.{option_or, is_some}
use Rattle.std.specs.Str.{bytes_eq}
use Rattle.std.specs.HashMap.{HashMap, get_by}
use Rattle.std.specs.declared.alloc.Global.{Global}
use Rattle.std.specs.declared.random_state.RandomState.{RandomState}
use Rattle.mmsyntax.proofs.Names.{option_or-none, same_bytes}
use Rattle.mmunits.specs.WordMaps.{FindsToo, FindsUnlessBefore}

or_new : {X : Type 0} (b : Bool) (x : X) (o : Option X) → (b ≡ true → is_some o ≡ false)
    → cond b (Some x) o ≡ option_or o (cond b (Some x) None)
or_new true x None h = refl
or_new true x (Some y) h = absurd (let f : true ≡ false = h refl in cc)
or_new false x o h = sym (option_or-none o)

or_old : {X : Type 0} (b : Bool) (x : X) (o : Option X) → (b ≡ true → is_some o ≡ true) → o ≡ option_or o (cond b (Some x) None)
or_old b x (Some y) h = refl
or_old true x None h = absurd (let f : false ≡ true = h refl in cc)
or_old false x None h = refl

-- whether the map finds anything, at a word that is the other
at_word : {X : Type 0} (m : HashMap (Vec ℕ Global) X RandomState) (word w : List ℕ) (b : Bool)
    → is_some (get_by (λ k. bytes_eq word k.items) m) ≡ b → bytes_eq word w ≡ true → is_some (get_by (λ k. bytes_eq w k.items) m) ≡ b
at_word m word w b has same = ap (λ x. is_some (get_by (λ k. bytes_eq x k.items) m)) (sym (same_bytes word w same)) ∙ has

-- a value is there, and stays
pub found_before : {X : Type 0} (m : HashMap (Vec ℕ Global) X RandomState) (word : List ℕ) (x : X)
    → is_some (get_by (λ k. bytes_eq word k.items) m) ≡ true → FindsUnlessBefore m word x m
found_before m word x has w = or_old (bytes_eq word w) x (get_by (λ k. bytes_eq w k.items) m) (at_word m word w true has)

-- none is there, and one is put
pub found_now : {X : Type 0} (m n : HashMap (Vec ℕ Global) X RandomState) (word : List ℕ) (x : X)
    → is_some (get_by (λ k. bytes_eq word k.items) m) ≡ false → FindsToo m word x n → FindsUnlessBefore m word x n
found_now m n word x has put w = put w ∙ or_new (bytes_eq word w) x (get_by (λ k. bytes_eq w k.items) m) (at_word m word w false has)

pub on_ok : {T E P Q : Type 0} (r : Result T E) → (P → Q) → OnOk r P → OnOk r Q
on_ok (Ok v) f h = f h
on_ok (Err e) f h = tt
