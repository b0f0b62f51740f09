-- Numbers of assertions in a text.
use Rattle.std.proofs.Common.{◌≡◌, ◌∙◌, ◌<◌, ℕ, Bool, true, false, cond, List, [], ◌∷◌, Some, get_or, length, refl, sym, ap, subst}
use Rattle.std.proofs.lemmas.Option.{slice_get-get_or}
use Rattle.std.specs.Prelude.{slice_get}
use Rattle.std.specs.Str.{bytes_eq}
use Rattle.std.specs.Borrow.{Bor}
use Rattle.std.specs.HashMap as hash
use Rattle.std.specs.HashMap.{HashMap}
use Rattle.std.specs.declared.random_state.RandomState.{RandomState}
use Rattle.std.proofs.lemmas.Map.Text.{hash_map_updates_str}
use Rattle.mmtext.specs.Words.{Word}
use Rattle.mmsyntax.proofs.Names.{same_bytes}
use Rattle.items.specs.declared.reading.Item.{Item as Found}
use Rattle.items.specs.declared.reading.Kind.TheVariants.{Assertion}
use Rattle.items.specs.Items.{Item, label_of}
use Rattle.items.specs.Reading.{AreFound, IsOfKind}
use Rattle.arranging.proofs.Known.{found_at}
use Rattle.arranging.proofs.Spelled.{found_spell}
use Rattle.givetext.specs.Causes.{StandInOrder}
use Rattle.givetext.specs.Parts.{IsNumber, AreNumbers, AreInOrder}

module _ (fs : List Found) (m n : HashMap (Bor (List ℕ)) ℕ RandomState) (x : Word) (v : ℕ) (found : AreNumbers fs m)
    (is : IsNumber fs x v) where
  at : (w : Word) (a : ℕ) (b : Bool) → bytes_eq x w ≡ b → cond b (Some v) (hash.get_by (λ k. bytes_eq w k.now) m) ≡ Some a
      → IsNumber fs w a
  at w a true e h =
      let same : v ≡ a = cc in subst (λ (l : Word). IsNumber fs l a) (same_bytes x w e) (subst (IsNumber fs x) same is)
  at w a false e h = found w a h

  -- one more is found
  pub numbers_more : hash.UpdatesBy (λ x y. bytes_eq x.now y.now) (λ k. bytes_eq x k.now) m n (Some v) → AreNumbers fs n
  numbers_more updates w a e = at w a (bytes_eq x w) refl (sym (hash_map_updates_str x m n (Some v) updates w) ∙ e)

-- an item that is an assertion has its number
pub numbered : (fs : List Found) (i : ℕ) (f : Found) (label : Bor (List ℕ)) → i < length fs → (get_or fs i f).kind ≡ Assertion label
    → IsNumber fs label.now i
numbered fs i f label within is = record {
  item = get_or fs i f;
  stands = slice_get-get_or fs i f within;
  label = label;
  kind = is;
  labelled = refl;
}

-- ---- in the text

module _ (text : List ℕ) (fs : List Found) (xs : List Item) (found : AreFound text 0 fs xs) where
  labelled : (w : Word) (k : ℕ) → IsNumber fs w k → (x : Item) × (slice_get xs k ≡ Some x) × (label_of x ≡ w ∷ [])
  labelled w k i =
      let here = found_at text 0 fs xs k i.item found i.stands in
      let kind : IsOfKind (Assertion i.label) here.0 = subst (λ j. IsOfKind j here.0) i.kind here.2 in
      (here.0, here.1, kind.1 ∙ ap (λ l. l ∷ []) i.labelled)

  pub stand_in_order : (first second : Word) → AreInOrder fs first second → StandInOrder text first second
  stand_in_order first second o =
      let spelled = found_spell text fs xs found in
      let one = labelled first o.place o.is_first in
      let other = labelled second o.behind o.is_second in record {
        items = xs;
        rest = spelled.0;
        spells = spelled.1;
        place = o.place;
        item = one.0;
        stands = one.1;
        labelled = one.2;
        behind = o.behind;
        later = o.later;
        other = other.0;
        there = other.1;
        has = other.2;
      }
