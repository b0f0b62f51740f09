-- The labels of assertions behind comments that discourage something, item by item.
use Rattle.std.proofs.Common.{◌≡◌, ◌∙◌, ℕ, Bool, true, false, List, [], ◌∷◌, ◌++◌, All}
use Rattle.std.proofs.Common.{refl, sym, ap, ap₂, subst, arith, append_assoc, append-nil}
use Rattle.std.specs.Prelude.{drop, if◌then◌else◌}
use Rattle.std.proofs.lemmas.Grind.{flat_map-append}
use Rattle.std.proofs.lemmas.List.Elements.{All-push}
use Rattle.mmtext.specs.Words.{Word}
use Rattle.items.specs.declared.reading.Item.{Item as Found}
use Rattle.items.specs.Items.{Item, pieces_of, label_of, IsItem}
use Rattle.items.specs.Reading.{tokens_at, Stands, IsItemAt}
use Rattle.items.proofs.Standing.{stands_both}
use Rattle.items.proofs.Spelled.{spells_stand}
use Rattle.items.proofs.PutThen.{is_item}
use Rattle.remarks.specs.Remarks.{Phrase, modification, usage, is_remark, remarked, AreRemarks}
use Rattle.remarks.specs.Views.{IsRemark}
use Rattle.remarks.specs.declared.comments.Remark.{Remark}

-- ---- one more item

-- the last item is a comment that says a phrase
abbrev pub last_says : Phrase → List Item → Bool
last_says p [] = false
last_says p (x ∷ []) = is_remark p x
last_says p (x ∷ y ∷ ys) = last_says p (y ∷ ys)

last_of : (p : Phrase) (xs : List Item) (y : Item) → last_says p (xs ++ y ∷ []) ≡ is_remark p y
last_of p [] y = refl
last_of p (x ∷ []) y = refl
last_of p (x ∷ z ∷ zs) y = last_of p (z ∷ zs) y

one_more : (p : Phrase) (xs : List Item) (y : Item)
    → remarked p (xs ++ y ∷ []) ≡ remarked p xs ++ (if last_says p xs then label_of y else [])
one_more p [] y = refl
one_more p (x ∷ []) y = append-nil (if is_remark p x then label_of y else [])
one_more p (x ∷ z ∷ zs) y =
    ap (λ ws. (if is_remark p x then label_of z else []) ++ ws) (one_more p (z ∷ zs) y)
    ∙ sym (append_assoc (if is_remark p x then label_of z else []) (remarked p (z ∷ zs)) (if last_says p (z ∷ zs) then label_of y else []))

module _ (p : Phrase) (xs : List Item) (y : Item) (old new : List Word) (front : Bool) where
  put_more : old ≡ remarked p xs → front ≡ last_says p xs → new ≡ old ++ (if front then label_of y else [])
      → new ≡ remarked p (xs ++ y ∷ [])
  put_more are is more =
      more ∙ (ap₂ (λ ws (b : Bool). ws ++ (if b then label_of y else [])) are is ∙ sym (one_more p xs y))

-- an item without a label puts none
pub without_label : (b : Bool) (ws labels : List Word) → labels ≡ [] → ws ≡ ws ++ (if b then labels else [])
without_label true ws labels none = sym (ap (λ ls. ws ++ ls) none ∙ append-nil ws)
without_label false ws labels none = sym (append-nil ws)

-- ---- a whole text

-- these are the labels among the items up to a place, of which the last discourages so much
pub record AreRead (text : List ℕ) (at : ℕ) (front : Remark) (modifications usages : List Word) : Type 0 where
  pub items : List Item
  pub stands : Stands text 0 (pieces_of items) at
  pub each : All IsItem items
  pub modifications_are : modifications ≡ remarked modification items
  pub usages_are : usages ≡ remarked usage items
  pub modification_is : front.modification ≡ last_says modification items
  pub usage_is : front.usage ≡ last_says usage items

module _ (text : List ℕ) where
  pub none_read : (front : Remark) → front.modification ≡ false → front.usage ≡ false → (ms us : List Word) → ms ≡ [] → us ≡ []
      → AreRead text 0 front ms us
  none_read front modifies uses ms us none nothing = record {
    items = [];
    stands = refl;
    each = λ k d lt. absurd (omega (arith, lt));
    modifications_are = none;
    usages_are = nothing;
    modification_is = modifies;
    usage_is = uses;
  }

  pub one_read : (at : ℕ) (i : Found) (front next : Remark) (ms us more others : List Word) → AreRead text at front ms us
      → (is : IsItemAt text at i) → IsRemark is.item next → more ≡ ms ++ (if front.modification then label_of is.item else [])
      → others ≡ us ++ (if front.usage then label_of is.item else []) → AreRead text i.end next more others
  one_read at i front next ms us more others h is says put put_too =
      let pieces : pieces_of (h.items ++ is.item ∷ []) ≡ pieces_of h.items ++ is.item =
      flat_map-append (λ x. x) h.items (is.item ∷ []) ∙ ap (λ y. pieces_of h.items ++ y) (append-nil is.item) in record {
        items = h.items ++ is.item ∷ [];
        stands =
            subst (λ y. Stands text 0 y i.end) (sym pieces) (stands_both text 0 at i.end (pieces_of h.items) is.item h.stands is.stands);
        each = All-push IsItem h.items is.item h.each (is_item i.kind is.item is.kind);
        modifications_are = put_more modification h.items is.item ms more front.modification h.modifications_are h.modification_is put;
        usages_are = put_more usage h.items is.item us others front.usage h.usages_are h.usage_is put_too;
        modification_is = says.modification_is ∙ sym (last_of modification h.items is.item);
        usage_is = says.usage_is ∙ sym (last_of usage h.items is.item);
      }

  pub all_read : (at : ℕ) (front : Remark) (ms us : List Word) → AreRead text at front ms us → tokens_at text at ≡ []
      → AreRemarks text ms us
  all_read at front ms us h none = record {
    items = h.items;
    rest = drop at text;
    spells = spells_stand text h.items at h.stands none h.each;
    modifications_are = h.modifications_are;
    usages_are = h.usages_are;
  }
