-- Items that were put as they read then.
use Rattle.std.proofs.Common.{◌≡◌, ◌≢◌, ◌∙◌, ℕ, ◌<◌, false, List, [], ◌∷◌, ◌++◌, Option, Some, None, codes, refl, sym, ap, subst, arith, All}
use Rattle.std.proofs.Common.{append-nil, inl, inr}
use Rattle.std.specs.Prelude.{find, drop}
use Rattle.std.specs.Borrow.{Bor}
use Rattle.std.specs.Option.{option_map}
use Rattle.std.specs.List.{flat_map, AllZip}
use Rattle.std.specs.Str.{bytes_eq}
use Rattle.std.proofs.lemmas.Grind.{flat_map-append}
use Rattle.std.proofs.lemmas.List.Elements.{All-push}
use Rattle.mmtext.specs.Words.{Word}
use Rattle.giving.specs.Staying.{Change}
use Rattle.items.specs.declared.reading.Kind.{Kind}
use Rattle.items.specs.declared.reading.Kind.TheVariants.{Comment, Opening, Closing, Assertion, Other}
use Rattle.items.specs.declared.reading.Item.{Item as Found}
use Rattle.items.specs.Items.{Item, bytes_of, words, pieces_of, label_of, IsItem, IsStatement}
use Rattle.items.specs.Renaming.{renamed}
use Rattle.items.specs.Reading.{tokens_at, Stands, IsFrontTo, IsOfKind, IsItemAt}
use Rattle.items.specs.Machine.{rest_then}
use Rattle.items.specs.Rewriting.{HasProofText, Reads, ReadsThen, text_for, IsRewritten}
use Rattle.items.proofs.Standing.{stands_both}
use Rattle.items.proofs.Spelled.{spells_stand}
use Rattle.items.proofs.Fronts.{behind_front, last_behind, front_label}
use Rattle.items.proofs.Stated.{at_label, assertion_reads, comment_unlabelled, mark_unlabelled}

-- ---- another proof

some_left : (text : List ℕ) (mid end : ℕ) (rest : Item) → Stands text mid rest end → mid < end → rest ≢ []
some_left text mid end rest h lt = λ e. let same : mid ≡ end = subst (λ r. Stands text mid r end) e h in omega (arith, same, lt)

pub has_proof_text : (cs : List Change) (text proof : List ℕ) (from mid end : ℕ) (x : Item) (label : Word) → Stands text from x end
    → IsStatement x → label_of x ≡ label ∷ [] → bytes_eq label (codes "$=") ≡ false → (f : IsFrontTo text from mid) → mid < end
    → HasProofText cs proof x (bytes_of (rest_then cs at_label f.front) ++ (proof ++ codes "$."))
has_proof_text cs text proof from mid end x label stands is has other f lt =
    let cut = behind_front text from mid end x f.front stands f.stands lt in
    let last = last_behind f.front cut.0 is.front (codes "$.") (ap words (sym cut.1) ∙ is.whole) (some_left text mid end cut.0 cut.2 lt) in
    let label_is = front_label f.front cut.0 label f.is_front (ap label_of (sym cut.1) ∙ has) other in record {
      front = f.front;
      proof = last.0;
      last = last.1;
      was = cut.1 ∙ ap (λ r. f.front ++ r) last.2;
      front_is = f.is_front;
      last_is = last.3;
      reads = ap (λ y. bytes_of y ++ (proof ++ codes "$.")) (assertion_reads cs f.front label label_is);
    }

-- ---- which text there is

found_none : (cs : Option Change) → None ≡ option_map (λ (c : Change). c.1) cs → cs ≡ None
found_none None e = refl
found_none (Some c) e = absurd cc

found_some : (cs : Option Change) (w : Word) → Some w ≡ option_map (λ (c : Change). c.1) cs → (c : Change) × (cs ≡ Some c) × (c.1 ≡ w)
found_some None w e = absurd cc
found_some (Some c) w e = let same : w ≡ c.1 = cc in (c, refl, sym same)

module _ (cs proofs : List Change) (x : Item) where
  pub reads_unlabelled : (now : List ℕ) → label_of x ≡ [] → now ≡ bytes_of (renamed cs x) → ReadsThen cs proofs x now
  reads_unlabelled now none e = subst (λ ls. Reads cs (text_for proofs ls) x now) (sym none) e

  pub reads_renamed : (label : Word) (now : List ℕ) → label_of x ≡ label ∷ []
      → None ≡ option_map (λ (c : Change). c.1) (find (λ (c : Change). bytes_eq label c.0) proofs)
      → now ≡ bytes_of (renamed cs x) → ReadsThen cs proofs x now
  reads_renamed label now has none e =
      subst (λ ls. Reads cs (text_for proofs ls) x now) (sym has)
      (subst (λ o. Reads cs o x now) (sym (found_none (find (λ (c : Change). bytes_eq label c.0) proofs) none)) e)

  pub reads_reproved : (label proof now : List ℕ) → label_of x ≡ label ∷ []
      → Some proof ≡ option_map (λ (c : Change). c.1) (find (λ (c : Change). bytes_eq label c.0) proofs)
      → HasProofText cs proof x now → ReadsThen cs proofs x now
  reads_reproved label proof now has some h =
      let found = found_some (find (λ (c : Change). bytes_eq label c.0) proofs) proof some in
      subst (λ ls. Reads cs (text_for proofs ls) x now) (sym has)
      (subst (λ o. Reads cs o x now) (sym found.1) (subst (λ t. HasProofText cs t x now) (sym found.2) h))

-- ---- kinds

pub unlabelled : (k : Kind) → ((label : Bor (List ℕ)) → k ≡ Assertion label → ⊥) → (x : Item) → IsOfKind k x → label_of x ≡ []
unlabelled Comment not_one x is = comment_unlabelled x is
unlabelled Opening not_one x is = mark_unlabelled x (codes "${") is refl
unlabelled Closing not_one x is = mark_unlabelled x (codes "$}") is refl
unlabelled (Assertion label) not_one x is = absurd (not_one label refl)
unlabelled Other not_one x is = is.1

pub is_item : (k : Kind) (x : Item) → IsOfKind k x → IsItem x
is_item Comment x is = inl is
is_item Opening x is = inr (inl (inl is))
is_item Closing x is = inr (inl (inr is))
is_item (Assertion label) x is = inr (inr is.0)
is_item Other x is = inr (inr is.0)

-- ---- a whole text

pub zip_more : {A B : Type 0} (r : A → B → Type 0) (xs : List A) (ys : List B) (x : A) (y : B) → AllZip r xs ys → r x y
    → AllZip r (xs ++ x ∷ []) (ys ++ y ∷ [])
zip_more r [] [] x y all one = (one, tt)
zip_more r [] (v ∷ ys) x y all one = absurd all
zip_more r (u ∷ xs) [] x y all one = absurd all
zip_more r (u ∷ xs) (v ∷ ys) x y all one = (all.0, zip_more r xs ys x y all.1 one)

abbrev pub ArePut : List Change → List Change → List ℕ → ℕ → List ℕ → Type 0
ArePut cs proofs source at out =
    (items : List Item) × (parts : List (List ℕ)) × Stands source 0 (pieces_of items) at × All IsItem items
    × AllZip (ReadsThen cs proofs) items parts × (out ≡ flat_map (λ p. p) parts)

module _ (cs proofs : List Change) (source : List ℕ) where
  pub none_put : ArePut cs proofs source 0 []
  none_put = ([], [], refl, λ k d lt. absurd (omega (arith, lt)), tt, refl)

  pub one_put : (at : ℕ) (i : Found) (old now new : List ℕ) → ArePut cs proofs source at old → (is : IsItemAt source at i)
      → ReadsThen cs proofs is.item now → new ≡ old ++ now → ArePut cs proofs source i.end new
  one_put at i old now new p is reads e =
      let pieces : pieces_of (p.0 ++ is.item ∷ []) ≡ pieces_of p.0 ++ is.item =
      flat_map-append (λ x. x) p.0 (is.item ∷ []) ∙ ap (λ y. pieces_of p.0 ++ y) (append-nil is.item) in (
        p.0 ++ is.item ∷ [],
        p.1 ++ now ∷ [],
        subst (λ y. Stands source 0 y i.end) (sym pieces) (stands_both source 0 at i.end (pieces_of p.0) is.item p.2 is.stands),
        All-push IsItem p.0 is.item p.3 (is_item i.kind is.item is.kind),
        zip_more (ReadsThen cs proofs) p.0 p.1 is.item now p.4 reads,
        e ∙ (ap (λ o. o ++ now) p.5
            ∙ sym (flat_map-append (λ x. x) p.1 (now ∷ []) ∙ ap (λ y. flat_map (λ x. x) p.1 ++ y) (append-nil now))),
      )

  pub all_put : (at : ℕ) (old out : List ℕ) → ArePut cs proofs source at old → tokens_at source at ≡ [] → out ≡ old ++ drop at source
      → IsRewritten cs proofs source out
  all_put at old out p none e = record {
    items = p.0;
    rest = drop at source;
    spells = spells_stand source p.0 at p.2 none p.3;
    parts = p.1;
    each = p.4;
    text = e ∙ ap (λ o. o ++ drop at source) p.5;
  }
