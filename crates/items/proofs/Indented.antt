-- Items of a text, one behind the other, and how far their proofs are indented.
use Rattle.std.proofs.Common.{◌≡◌, ◌∙◌, ℕ, List, [], ◌∷◌, ◌++◌, All, Some, None, refl, sym, ap, ap₂, subst, append-nil, arith, drop}
use Rattle.std.specs.Option.{option_and_then}
use Rattle.std.proofs.lemmas.Grind.{flat_map-append}
use Rattle.std.proofs.lemmas.List.Elements.{All-push, filter_map-append}
use Rattle.giving.specs.Staying.{Change}
use Rattle.items.specs.declared.reading.Item.{Item as Found}
use Rattle.items.specs.Items.{Item, pieces_of, label_of, IsItem}
use Rattle.items.specs.Reading.{tokens_at, Stands, IsItemAt}
use Rattle.items.specs.Indentations.{indentation_of, labelled, indented, indentations}
use Rattle.items.specs.Walking.{AreIndentations}
use Rattle.items.proofs.Standing.{stands_both}
use Rattle.items.proofs.Spelled.{spells_stand}
use Rattle.items.proofs.PutThen.{is_item}

abbrev pub AreIndented : List ℕ → ℕ → List Change → Type 0
AreIndented source at cs =
    (items : List Item) × Stands source 0 (pieces_of items) at × All IsItem items × (cs ≡ indentations items)

module _ (source : List ℕ) where
  pub none_indented : AreIndented source 0 []
  none_indented = ([], refl, λ k d lt. absurd (omega (arith, lt)), refl)

  more : (at : ℕ) (i : Found) (old new now : List Change) → AreIndented source at old → (is : IsItemAt source at i)
      → indentations (is.item ∷ []) ≡ now → new ≡ old ++ now → AreIndented source i.end new
  more at i old new now p is one e =
      let pieces : pieces_of (p.0 ++ is.item ∷ []) ≡ pieces_of p.0 ++ is.item =
      flat_map-append (λ x. x) p.0 (is.item ∷ []) ∙ ap (λ y. pieces_of p.0 ++ y) (append-nil is.item) in (
        p.0 ++ is.item ∷ [],
        subst (λ y. Stands source 0 y i.end) (sym pieces) (stands_both source 0 at i.end (pieces_of p.0) is.item p.1 is.stands),
        All-push IsItem p.0 is.item p.2 (is_item i.kind is.item is.kind),
        e ∙ ap₂ (λ a b. a ++ b) p.3 (sym one) ∙ sym (filter_map-append indented p.0 (is.item ∷ [])),
      )

  -- one more item without
  pub one_without : (at : ℕ) (i : Found) (old : List Change) → AreIndented source at old → (is : IsItemAt source at i)
      → indented is.item ≡ None → AreIndented source i.end old
  one_without at i old p is none = more at i old old [] p is (rw none refl) (sym (append-nil old))

  -- one more that has one
  pub one_with : (at : ℕ) (i : Found) (old new : List Change) (c : Change) → AreIndented source at old → (is : IsItemAt source at i)
      → indented is.item ≡ Some c → new ≡ old ++ c ∷ [] → AreIndented source i.end new
  one_with at i old new c p is some e = more at i old new (c ∷ []) p is (rw some refl) e

  pub all_indented : (at : ℕ) (cs : List Change) → AreIndented source at cs → tokens_at source at ≡ [] → AreIndentations source cs
  all_indented at cs p none = record {
    items = p.0;
    rest = drop at source;
    spells = spells_stand source p.0 at p.1 none p.2;
    are = p.3;
  }

pub unlabelled_not_indented : (x : Item) → label_of x ≡ [] → None ≡ indented x
unlabelled_not_indented x e =
    rw e (elim (indentation_of x) as (λ o. None ≡ option_and_then (labelled []) o) [ Some i ↦ refl | None ↦ refl ])
